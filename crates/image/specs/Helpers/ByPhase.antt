-- The rules in the groups in which `keeps` and `read` look at them: those of the first part by the numbers of their fields, and those
-- of the slot.
-- Assumes nothing.
use Rattle.std.specs.Prelude.{ℕ, Bool, true, ◌&&◌, List, [], ◌∷◌, map, get_or, eqb}
use Rattle.descriptor.specs.Looking.{is_zero}
use Rattle.image.specs.declared.Fields.{Fields}
use Rattle.image.specs.declared.Tail.{Tail}
use Rattle.image.specs.Slot.{held_kept, slot_at_kept, slot_bytes_kept}
use Rattle.image.specs.Layout.{latest}
use Rattle.image.specs.Rules.{core_rules, first_false}

-- tests joined from the left on, as code joins them
abbrev pub every : Bool → List Bool → Bool
every a [] = a
every a (b ∷ bs) = every (a && b) bs

-- whether the field of the first part with this number keeps its rule
abbrev pub core_at : Fields → (field : ℕ) → Bool
core_at f field = get_or (true ∷ core_rules latest f) field true

-- whether all of them do
unfoldable pub core_kept : Fields → Bool
core_kept f = eqb (first_false 1 (core_rules latest f)) 0

-- the fields with these numbers keep their rules
abbrev pub kept_at : List ℕ → Fields → Bool
kept_at ns f = every true (map (core_at f) ns)

-- those whose rules do not look at the phase: edition, mode, count, window and zero
abbrev pub always : List ℕ
always = 1 ∷ 2 ∷ 8 ∷ 12 ∷ 21 ∷ []

-- those whose rules do: the descriptor's, source and destination first, which are free where one is in hand; then the others
abbrev pub by_phase : List ℕ
by_phase = 14 ∷ 15 ∷ 13 ∷ 16 ∷ 17 ∷ 18 ∷ 19 ∷ 20 ∷ 3 ∷ 6 ∷ 7 ∷ 9 ∷ 22 ∷ []

-- those that may hold any number
abbrev pub free : List ℕ
free = 4 ∷ 5 ∷ 10 ∷ 11 ∷ []

-- the slot's rules together, of its numbers and of the test of its bytes; and of the fields
abbrev pub slot_kept : (phase base window pointer kind zero6 at : ℕ) (bytes : Bool) → Bool
slot_kept phase base window pointer kind zero6 at bytes =
    held_kept phase kind && eqb zero6 0 && slot_at_kept base window pointer kind at && bytes

abbrev pub slot_kept_of : Fields → Tail → Bool
slot_kept_of f t =
    slot_kept f.phase f.base f.window f.pointer t.kind t.zero6 t.at (slot_bytes_kept t.kind (is_zero t.raw))
