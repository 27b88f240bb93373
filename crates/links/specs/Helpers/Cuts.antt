-- What the parts of mending meet.
-- Assumes nothing.
use Rattle.std.specs.Prelude.{ℕ, zero, suc, ◌≤◌, ◌≡◌, true, List, Result, Option}
use Rattle.bus.specs.declared.Refusal.{Refusal}
use Rattle.bus.specs.declared.Window.{Window}
use Rattle.bus.specs.Window.{in_window}
use Rattle.links.specs.declared.mending.Change.{Change}
use Rattle.links.specs.Mending.{Cut, before_all, behind, mended_by, left_by}

-- where a chain is cut that has a defect at a position, the one before it being at `last`
abbrev pub cut_from : (position last : ℕ) → Cut
cut_from zero last = before_all
cut_from (suc k) last = behind last

-- where there is one before it, that one is in the window
pub record KeepsFront (window : Window) (position last : ℕ) : Type 0 where
  pub inside : 1 ≤ position → in_window window last 32 ≡ true

-- what is told and left of a chain that is cut there
pub record WasCut (window : Window) (memory : List ℕ) (cut : Cut) (r : Result (Option Change) Refusal) (memory' : List ℕ) : Type 0 where
  pub answer : r ≡ mended_by window memory cut
  pub lent : memory' ≡ left_by window memory cut
