-- What the walk of the code gives: the verdict, and the descriptor just before the one that it tells of.
-- Assumes nothing.
use Rattle.std.specs.Prelude.{ℕ, zero, suc, ◌≡◌, List}
use Rattle.bus.specs.declared.Window.{Window}
use Rattle.links.specs.declared.Walked.{Walked}
use Rattle.links.specs.Form.{link_after}
use Rattle.links.specs.Verdicts.{verdict_of, position_of}

-- the address of the one just before a position; the pointer where there is none
abbrev pub last_before : Window → List ℕ → (pointer position : ℕ) → ℕ
last_before window memory pointer zero = pointer
last_before window memory pointer (suc k) = (link_after window memory pointer k).at

pub record Walks (window : Window) (memory : List ℕ) (pointer : ℕ) (r : Walked) : Type 0 where
  pub verdict_is : r.verdict ≡ verdict_of window memory pointer
  pub last_is : r.last ≡ last_before window memory pointer (position_of r.verdict)
