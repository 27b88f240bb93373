-- Whether a step can be taken, and why a run ends.
-- Assumes nothing.
use Rattle.std.specs.Prelude.{ℕ, ◌-◌, ◌≡◌, Bool, true, false, cond, List, [], ◌∷◌, ltb, length, Option, Some, None}
use Rattle.ledger.specs.Records.{capacity}
use Rattle.regs.specs.Control.{run}
use Rattle.machine.specs.declared.Core.{Core}
use Rattle.machine.specs.declared.Phase.TheVariants.{Rest, Fetch}
use Rattle.machine.specs.declared.Reason.{Reason}
use Rattle.machine.specs.declared.Reason.TheVariants.{Budget}
use Rattle.machine.specs.Step.{World, Answer, taken, stopped, became, step}
use Rattle.machine.specs.Helpers.Worlds.{midway}

abbrev pub wait_of : Answer → Option Reason
wait_of (taken v) = None
wait_of (stopped r) = Some r

abbrev pub some : List ℕ → Bool
some [] = false
some (b ∷ bs) = true

-- what a rule's waiting depends on: whether there is a beat, whether there is room for one, and whether there is for a record
abbrev pub Waits : (World → Answer) → Core → (more room keeps : Bool) → Option Reason → Type 0
Waits rule m more room keeps r =
    (w : World) → more ≡ some w.input → room ≡ ltb 0 w.room → keeps ≡ ltb 0 w.left → r ≡ wait_of (rule (became w m))

-- a rule can be applied, in the middle of lent slices, in some world
pub record Goes (rule : World → Answer) (m : Core) (window beats : List ℕ) (took : ℕ) (out : List ℕ) (made : ℕ) : Type 0 where
  pub around : World
  pub can : wait_of (rule (midway around m window beats took out made)) ≡ None

-- why a run ends: what its next step waits for, and the budget where that waits for nothing
abbrev pub halt_of : (spent : Bool) → Option Reason → Option Reason
halt_of spent (Some r) = Some r
halt_of spent None = cond spent (Some Budget) None

-- the same in the middle of lent slices, whatever the window holds
abbrev pub Halts : Core → (beats : List ℕ) (took : ℕ) (out : List ℕ) (made : ℕ) (ledger : List ℕ) (used : ℕ) (spent : Bool) → Option Reason → Type 0
Halts m beats took out made ledger used spent r =
    (w : World) (window : List ℕ) → w.left ≡ capacity (length ledger) - used
    → r ≡ halt_of spent (wait_of (step (midway w m window beats took out made)))

-- a step can be taken out of Rest or Fetch
pub data Begins (m : Core) : Type 0 where
  rests : m.phase ≡ Rest → run m.control ≡ true → Begins m
  fetches : m.phase ≡ Fetch → Begins m
