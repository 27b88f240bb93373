-- What a line of the image's table is (`Field`, as of every layout), and how a table is put together from its parts. The parts themselves
-- stand in Layout, and in a file of their own each where a later edition adds one.
-- Assumes nothing.
use Rattle.std.specs.Prelude.{ℕ, zero, suc, List, [], ◌∷◌, ◌++◌}
pub use Rattle.words.specs.Fields.{Field, ◌bits◌}

-- the first n parts, one after the other
abbrev pub first_parts : {A : Type 0} → ℕ → List (List A) → List A
first_parts zero ps = []
first_parts (suc n) [] = []
first_parts (suc n) (p ∷ ps) = p ++ first_parts n ps
