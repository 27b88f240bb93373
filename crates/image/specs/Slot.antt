-- Order 4: what edition 2 adds, "after the old fields, slot kind 2 (empty, descriptor, fault 10, fault 11), zero 6, slot address 32, slot
-- bytes 256, run number 32". The slot holds the descriptor that was read ahead, or why none stands there.
-- Assumes nothing.
use Rattle.std.specs.Prelude.{ℕ, ◌/◌, Bool, true, not, ◌&&◌, List, [], ◌∷◌, map, get_or, eqb, Result, Ok, Err}
use Rattle.words.specs.declared.Order.TheVariants.{MostFirst}
use Rattle.words.specs.Numbers.{total, recode, bytes}
use Rattle.words.specs.Orders.{bytes_of, number_of}
use Rattle.bus.specs.declared.Window.{Window}
use Rattle.bus.specs.declared.Place.{Place}
use Rattle.descriptor.specs.declared.Miss.{Miss}
use Rattle.bus.specs.declared.Refusal.{Refusal}
use Rattle.descriptor.specs.declared.Miss.TheVariants as miss
use Rattle.bus.specs.Window.{checked_of}
use Rattle.descriptor.specs.declared.Raw.{Raw}
use Rattle.descriptor.specs.Looking.{spot_of, raw_of, raw_bytes, is_zero}
use Rattle.image.specs.declared.Fields.{Fields}
use Rattle.image.specs.declared.Tail.{Tail}
use Rattle.image.specs.Lines.{Field, ◌bits◌}
use Rattle.image.specs.Tests.{◌⇒◌, ◌outside◌, between}

-- ---- the lines

-- 32 bytes as they stand in memory, the first foremost, as one number; and back
unfoldable pub slot_number : Raw → ℕ
slot_number r = number_of MostFirst (raw_bytes r)

unfoldable pub slot_raw : ℕ → Raw
slot_raw n = raw_of (bytes_of MostFirst 32 n)

abbrev pub slot_lines : Tail → List Field
slot_lines t =
    2 bits t.kind ∷  -- 23 slot kind: empty 0, descriptor, fault 10, fault 11
    6 bits t.zero6 ∷  -- 24 zero
    32 bits t.at ∷  -- 25 slot address
    256 bits slot_number t.raw ∷  -- 26 slot bytes
    32 bits t.run ∷  -- 27 run number
    []

-- the fields that numbers are, each by its place in the whole table; a field past their end is zero
abbrev pub tail_from : List ℕ → Tail
tail_from vs =
    let at : ℕ → ℕ = λ n. get_or (0 ∷ vs) n 0 in
    record { kind = at 23; zero6 = at 24; at = at 25; raw = slot_raw (at 26); run = at 27 }

-- the part's widths, numbers and bytes by themselves: they stand behind those of the first part
abbrev pub slot_widths : List ℕ
slot_widths = map (λ x. x.width) (slot_lines (tail_from []))

abbrev pub slot_values : Tail → List ℕ
slot_values t = map (λ x. x.value) (slot_lines t)

unfoldable pub tail_bytes : Tail → List ℕ
tail_bytes t = recode slot_widths (bytes (total slot_widths / 8)) (slot_values t)

-- ---- the kinds, in the request's order

abbrev pub empty : ℕ
empty = 0

abbrev pub descriptor : ℕ
descriptor = 1

abbrev pub fault10 : ℕ
fault10 = 2

abbrev pub fault11 : ℕ
fault11 = 3

-- what rules 10 and 11 give, by the one look at a descriptor's address
abbrev pub kind_of : Result Place Miss → ℕ
kind_of (Err miss.Misaligned) = fault10
kind_of (Err miss.Outside) = fault11
kind_of (Ok p) = descriptor

abbrev pub kind_at : Window → (a : ℕ) → ℕ
kind_at window a = kind_of (spot_of window a)

-- the same where the window keeps the limits; else no kind of a held slot
abbrev pub kind_in : Result Window Refusal → (a : ℕ) → ℕ
kind_in (Ok window) a = kind_at window a
kind_in (Err why) a = empty

-- ---- the rules

abbrev pub held : (kind : ℕ) → Bool
held kind = not (eqb kind empty)

-- a held slot stands only in Fetch, Move and WriteBack
abbrev pub held_kept : (phase kind : ℕ) → Bool
held_kept phase kind = held kind ⇒ between 1 3 phase

-- an empty slot is all zero; of a held one its address is the pointer, and its kind is what rules 10 and 11 give there, at its address
abbrev pub slot_at_kept : (base window pointer kind at : ℕ) → Bool
slot_at_kept base window pointer kind at =
    (eqb at 0 outside held kind) && (held kind ⇒ eqb at pointer && eqb kind (kind_in (checked_of base window) at))

-- an empty slot is all zero; a fault slot's bytes are zero
abbrev pub slot_bytes_kept : (kind : ℕ) (zero : Bool) → Bool
slot_bytes_kept kind zero = zero outside eqb kind descriptor

-- the part of the fields that edition 2 adds
abbrev pub slot_rules : Fields → Tail → List Bool
slot_rules f t =
    held_kept f.phase t.kind ∷  -- 23 slot kind
    eqb t.zero6 0 ∷  -- 24 zero: zero bits are zero
    slot_at_kept f.base f.window f.pointer t.kind t.at ∷  -- 25 slot address
    slot_bytes_kept t.kind (is_zero t.raw) ∷  -- 26 slot bytes
    true ∷  -- 27 run number
    []
