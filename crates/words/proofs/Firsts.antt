-- The first test that fails: there is none exactly where each holds; and the one told fails, and those before it hold.
-- Assumes nothing.
use Prim.Native.Nat.{ℕ, zero, suc, ◌+◌, ◌<◌}
use mathlib.Core.Path.{◌≡◌, refl, sym, ap, ◌∙◌}
use mathlib.Core.Logic.{◌≢◌}
use mathlib.Core.Bool.{Bool, true, false, true≢false}
use mathlib.Core.List.{List, [], ◌∷◌}
use native.Mathlib.Nat.{suc-ne-zero}
use native.Mathlib.Omega.{arith}
use lib.ListN.{get_or}
use Rattle.words.specs.Fields.{first_false}

-- where no test fails, each holds
pub each : (k : ℕ) (bs : List Bool) → first_false (suc k) bs ≡ 0 → (i : ℕ) → get_or bs i true ≡ true
each k [] e i = refl
each k (true ∷ bs) e zero = refl
each k (true ∷ bs) e (suc i) = each (suc k) bs e i
each k (false ∷ bs) e i = absurd (suc-ne-zero k e)

-- where each holds, none fails
pub none : (k : ℕ) (bs : List Bool) → ((i : ℕ) → get_or bs i true ≡ true) → first_false k bs ≡ 0
none k [] h = refl
none k (true ∷ bs) h = none (suc k) bs (λ i. h (suc i))
none k (false ∷ bs) h = absurd (true≢false (sym (h 0)))

before : (bs : List Bool) (i j : ℕ) → ((i : ℕ) → i < j → get_or bs i true ≡ true) → i < suc j → get_or (true ∷ bs) i true ≡ true
before bs zero j g l = refl
before bs (suc i) j g l = g i (omega arith)

-- where one fails, the first that does is the one told
first-told : (k : ℕ) (bs : List Bool) → first_false (suc k) bs ≢ 0
    → (j : ℕ) × (first_false (suc k) bs ≡ suc (k + j)) × (get_or bs j true ≡ false) × ((i : ℕ) → i < j → get_or bs i true ≡ true)
first-told k [] h = absurd (h refl)
first-told k (true ∷ bs) h =
    let t = first-told (suc k) bs h in
    (suc t.0, t.1 ∙ omega arith, t.2, λ i. before bs i t.0 t.3)
first-told k (false ∷ bs) h = (0, omega arith, refl, λ i l. absurd (omega arith))

-- tests numbered from 1: the one told fails, and those before it hold
pub told-first : (bs : List Bool) → first_false 1 bs ≢ 0
    → (get_or (true ∷ bs) (first_false 1 bs) true ≡ false) × ((i : ℕ) → i < first_false 1 bs → get_or (true ∷ bs) i true ≡ true)
told-first bs h =
    let t = first-told 0 bs h in
    let at : first_false 1 bs ≡ suc t.0 = t.1 ∙ omega arith in
    (ap (λ (n : ℕ). get_or (true ∷ bs) n true) at ∙ t.2, λ i l. before bs i t.0 t.3 (let n = at in omega arith))
