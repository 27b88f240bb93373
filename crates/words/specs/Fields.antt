-- A layout as a table, a line for each field; and the first of the fields, numbered by their places, whose rule fails.
-- Assumes nothing.
use Rattle.std.specs.Prelude.{ℕ, suc, Bool, true, false, List, [], ◌∷◌}

-- a field of the layout: its width, and the number that stands there
pub record Field : Type 0 where
  pub width : ℕ
  pub value : ℕ

infix 70 ◌bits◌
abbrev pub ◌bits◌ : ℕ → ℕ → Field
w bits v = record { width = w; value = v }

-- the place, counted from k, of the first test that fails, or 0
abbrev pub first_false : (k : ℕ) → List Bool → ℕ
first_false k [] = 0
first_false k (true ∷ bs) = first_false (suc k) bs
first_false k (false ∷ bs) = k
