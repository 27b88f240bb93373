-- Fields keep the rules exactly where they keep those of the first part and those of the slot; and the first part's exactly where they
-- keep those that look at the phase and those that do not.
-- Assumes nothing.
use Prim.Native.Nat.{ℕ, zero, suc, ◌<◌}
use mathlib.Core.Path.{◌≡◌, refl, sym, ap, ◌∙◌}
use mathlib.Core.Bool.{Bool, true, false, ◌&&◌, ◌||◌, true≢false}
use mathlib.Core.List.{List, [], ◌∷◌, ◌++◌, map}
use native.Mathlib.Nat.{suc-ne-zero}
use native.Mathlib.Omega.{arith}
use lib.Dec.{eqb, leb}
use lib.ListN.{get_or-eq_default}
use borrow.Author.Tests.{eqb-true, eqb-false, ne_eqb, leb-true, leb-false}
use Rattle.words.proofs.Firsts.{each, none}
use Rattle.descriptor.specs.Looking.{is_zero}
use Rattle.image.specs.declared.Fields.{Fields}
use Rattle.image.specs.declared.Tail.{Tail}
use Rattle.image.specs.Slot.{held_kept, slot_at_kept, slot_bytes_kept, slot_rules}
use Rattle.image.specs.Layout.{latest}
use Rattle.image.specs.Rules.{core_rules, rules, first_false, lowest_broken, keeps_rules}
use Rattle.image.specs.Helpers.ByPhase.{every, core_at, core_kept, kept_at, always, by_phase, free, slot_kept_of}
use Rattle.image.proofs.Tests.{and_left, and_right, both, else}

-- tests that hold in the same cases are the same
same : (a b : Bool) → (a ≡ true → b ≡ true) → (b ≡ true → a ≡ true) → a ≡ b
same true b there back = sym (there refl)
same false true there back = back refl
same false false there back = refl

every_first : (a : Bool) (bs : List Bool) → every a bs ≡ true → a ≡ true
every_first a [] e = e
every_first a (b ∷ bs) e = and_left a b (every_first (a && b) bs e)

-- ---- numbers of fields

abbrev among : ℕ → List ℕ → Bool
among n [] = false
among n (m ∷ ms) = eqb n m || among n ms

-- every number below n passes
abbrev below : ℕ → (ℕ → Bool) → Bool
below zero p = true
below (suc n) p = below n p && p n

-- what passes at n, and elsewhere, passes
at-or-not : (p : ℕ → Bool) (i n : ℕ) → p n ≡ true → ((i ≡ n → ⊥) → p i ≡ true) → p i ≡ true
at-or-not p i n here there = by (eqb i n) refl
  where
    by : (b : Bool) → eqb i n ≡ b → p i ≡ true
    by true e = ap p (eqb-true i n e) ∙ here
    by false e = there (eqb-false i n e)

below_each : (n : ℕ) (p : ℕ → Bool) → below n p ≡ true → (i : ℕ) → i < n → p i ≡ true
below_each zero p e i h = absurd (omega arith)
below_each (suc n) p e i h = at-or-not p i n (and_right (below n p) (p n) e) (λ other. below_each n p (and_left _ _ e) i (omega arith))

module _ (f : Fields) where
  -- where all rules are kept, those with these numbers are
  kept-each : ((i : ℕ) → core_at f i ≡ true) → (ns : List ℕ) (a : Bool) → a ≡ true → every a (map (core_at f) ns) ≡ true
  kept-each h [] a e = e
  kept-each h (n ∷ ns) a e = kept-each h ns (a && core_at f n) (both e (h n))

  -- and back
  each-kept : (ns : List ℕ) (a : Bool) → every a (map (core_at f) ns) ≡ true → (i : ℕ) → among i ns ≡ true → core_at f i ≡ true
  each-kept [] a e i m = absurd (true≢false (sym m))
  each-kept (n ∷ ns) a e i m =
      at-or-not (core_at f) i n
      (and_right a _ (every_first _ (map (core_at f) ns) e))
      (λ other. each-kept ns (a && core_at f n) e i (else (eqb i n) _ m (ne_eqb i n other)))

-- every field is in one of the groups
abbrev grouped : ℕ → Bool
grouped i = among i always || among i by_phase || among i (0 ∷ free)

module _ (f : Fields) (a : kept_at always f ≡ true) (b : kept_at by_phase f ≡ true) where
  both-kept : (i : ℕ) → core_at f i ≡ true
  both-kept i = by-range (leb i 22) refl
    where
      by-group : (p q : Bool) → among i always ≡ p → among i by_phase ≡ q → grouped i ≡ true → core_at f i ≡ true
      by-group true q e g h = each-kept f always true a i e
      by-group false true e g h = each-kept f by_phase true b i g
      by-group false false e g h = each-kept f (0 ∷ free) true refl i (rw (e, g) at h)

      by-range : (r : Bool) → leb i 22 ≡ r → core_at f i ≡ true
      by-range true e = by-group _ _ refl refl (below_each 23 grouped refl i (let le = leb-true i 22 e in omega arith))
      by-range false e = get_or-eq_default (true ∷ core_rules latest f) true {n = i} (let gt = leb-false i 22 e in omega arith)

-- the rule of the first part with the number i
core-rule : (f : Fields) → core_kept f ≡ true → (i : ℕ) → core_at f i ≡ true
unfolding core_kept
core-rule f e zero = refl
core-rule f e (suc i) = each 0 (core_rules latest f) (eqb-true _ _ e) i

kept-in-groups : (f : Fields) → core_kept f ≡ (kept_at always f && kept_at by_phase f)
unfolding core_kept
kept-in-groups f =
    same _ _
    (λ e. both (kept-each f (core-rule f e) always true refl) (kept-each f (core-rule f e) by_phase true refl))
    (λ e. rw (none 1 (core_rules latest f) (λ i. both-kept f (and_left _ _ e) (and_right (kept_at always f) _ e) (suc i))))

module _ (f : Fields) where
  pub always-broken : kept_at always f ≡ false → core_kept f ≡ false
  always-broken e = kept-in-groups f ∙ rw e

  pub phase-decides : kept_at always f ≡ true → core_kept f ≡ kept_at by_phase f
  phase-decides e = kept-in-groups f ∙ rw e

-- ---- the two parts

-- whether a test fails does not depend on where it is counted from
from_one : (k : ℕ) (bs : List Bool) → eqb (first_false (suc k) bs) 0 ≡ eqb (first_false 1 bs) 0
from_one k [] = refl
from_one k (true ∷ bs) = from_one (suc k) bs ∙ sym (from_one 1 bs)
from_one k (false ∷ bs) = ne_eqb (suc k) 0 (suc-ne-zero k)

-- no test of two lists fails where none of either does
none-of-both : (k : ℕ) (cs bs : List Bool)
    → eqb (first_false (suc k) (cs ++ bs)) 0 ≡ (eqb (first_false (suc k) cs) 0 && eqb (first_false 1 bs) 0)
none-of-both k [] bs = from_one k bs
none-of-both k (true ∷ cs) bs = none-of-both (suc k) cs bs
none-of-both k (false ∷ cs) bs = rw (ne_eqb (suc k) 0 (suc-ne-zero k))

four-tests : (a b c d : Bool) → eqb (first_false 1 (a ∷ b ∷ c ∷ d ∷ true ∷ [])) 0 ≡ (a && b && c && d)
four-tests true true true true = refl
four-tests true true true false = refl
four-tests true true false d = refl
four-tests true false c d = refl
four-tests false b c d = refl

pub kept-in-parts : (f : Fields) (t : Tail) → keeps_rules f t ≡ (core_kept f && slot_kept_of f t)
unfolding keeps_rules lowest_broken rules core_kept
kept-in-parts f t =
    none-of-both 0 (core_rules latest f) (slot_rules f t)
    ∙ ap (λ (b : Bool). core_kept f && b)
    (four-tests (held_kept f.phase t.kind) (eqb t.zero6 0) (slot_at_kept f.base f.window f.pointer t.kind t.at)
    (slot_bytes_kept t.kind (is_zero t.raw)))
