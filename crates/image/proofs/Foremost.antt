-- The first test that fails, as the code looks for it; and what is told of a number that may be 0.
-- Assumes nothing.
use Rattle.std.specs.Prelude.{Option, Some, None, option_map, unwrap_or}
use Rattle.std.specs.List.{position_from}
use Prim.Native.Nat.{ℕ, suc}
use mathlib.Core.Path.{◌≡◌, refl, sym}
use mathlib.Core.Bool.{Bool, true, false, not, cond}
use mathlib.Core.List.{List, [], ◌∷◌}
use native.Mathlib.Nat.{suc-ne-zero}
use native.Mathlib.Numerals.{add-one}
use borrow.Author.Tests.{ne_eqb, eqb-true, eqb-false}
use lib.Dec.{eqb}
use Rattle.image.specs.Rules.{first_false, told}

-- ---- a number told

module _ (n : ℕ) where
  pub told-none : told n ≡ None → n ≡ 0
  told-none = by (eqb n 0) refl
    where
      by : (b : Bool) → eqb n 0 ≡ b → ◌≡◌ {A = Option ℕ} (cond b None (Some n)) None → n ≡ 0
      by true p e = eqb-true n 0 p
      by false p e = (cc)

  pub told-some : {k : ℕ} → told n ≡ Some k → (k ≡ n) × (n ≡ 0 → ⊥)
  told-some {k} = by (eqb n 0) refl
    where
      by : (b : Bool) → eqb n 0 ≡ b → ◌≡◌ {A = Option ℕ} (cond b None (Some n)) (Some k) → (k ≡ n) × (n ≡ 0 → ⊥)
      by true p e = (cc)
      by false p e = ((cc), eqb-false n 0 p)

  pub told-back : unwrap_or (told n) 0 ≡ n
  told-back = by (eqb n 0) refl
    where
      by : (b : Bool) → eqb n 0 ≡ b → unwrap_or (cond b None (Some n)) 0 ≡ n
      by true p = sym (eqb-true n 0 p)
      by false p = refl

-- ---- the first test that fails

-- its place counted from one more
pub first-place : (k : ℕ) (bs : List Bool) → told (first_false (suc k) bs) ≡ option_map suc (position_from not k bs)
first-place k [] = refl
first-place k (true ∷ bs) = rw (add-one k) (first-place (suc k) bs)
first-place k (false ∷ bs) = rw (ne_eqb (suc k) 0 (suc-ne-zero k))
