-- What is proved of steps and runs: each theorem's whole statement, under its name. A term of each stands in proofs/.
-- Assumes nothing.
use Rattle.std.specs.Prelude.{ℕ, suc, ◌+◌, ◌-◌, ◌≤◌, ◌<◌, ◌≡◌, true, false, List, ◌++◌, length, get_or, take, drop, Result}
use Rattle.bus.specs.declared.Window.{Window}
use Rattle.descriptor.specs.Layout.{read_fixed, write_fixed}
use Rattle.regs.specs.declared.Mode.TheVariants.{MemoryToMemory, MemoryToStream, StreamToMemory}
use Rattle.flow.specs.Beats.{beat_eop}
use Rattle.flow.specs.Rows.{gathered, spread, copied, plain}
use Rattle.machine.specs.declared.Core.{Core}
use Rattle.machine.specs.declared.Machine.{Machine}
use Rattle.machine.specs.declared.Work.{Work}
use Rattle.machine.specs.declared.Reason.TheVariants.{Budget}
use Rattle.machine.specs.declared.Ran.{Ran}
use Rattle.bus.specs.declared.Refusal.{Refusal}
use Rattle.machine.specs.Saved.{keeps}
use Rattle.machine.specs.Step.{World, taken, became, stored, received, sent, source_of, destination_of, onward, step}
use Rattle.machine.specs.Run.{run, Lent, Returned, HasRun}
use Rattle.machine.specs.Helpers.Turns.{steps}
use Rattle.machine.specs.Helpers.AtOnce.{moved_by, Moving, Row, Unmarked}
use Rattle.machine.specs.Helpers.Resume.{Resumed}
use Rattle.machine.specs.Laws.{Passed, spares_in, Tells, on_top}

-- ---- runs

-- A run of a + b is a run of a followed by one of b.
abbrev pub RunAdd : Type 0
RunAdd = (a b : ℕ) (w : World) → run (a + b) w ≡ on_top (run a w).steps (run b (run a w).world)

-- The steps a run tells are the applications of the step rule and never above the budget; the reason is the one found there; beats
-- taken and made and records made are counted exactly, and the output and the records made before stay.
abbrev pub RunTells : Type 0
RunTells = (budget : ℕ) (w : World) → Tells budget w (run budget w)

-- Budget is given only if another step was possible.
abbrev pub BudgetOnly : Type 0
BudgetOnly = (budget : ℕ) (w : World) → (run budget w).reason ≡ Budget
    → ((run budget w).steps ≡ budget) × ((v : World) × (step (run budget w).world ≡ taken v))

-- A machine that keeps the rules is resumed as it is run.
abbrev pub ResumedRuns : Type 0
ResumedRuns = (m : Machine) (l : Lent) (budget : ℕ) (r : Result Ran Refusal) (b : Returned)
    → keeps m ≡ true → Resumed m l budget r b → HasRun m l budget r b

-- ---- steps

-- A step leaves the mode, the window and the window's length; it takes beats from the front of the input, and makes beats and records
-- at the end, within the room.
abbrev pub StepPassed : Type 0
StepPassed = (w v : World) → step w ≡ taken v → Passed 1 w v

-- A step leaves every byte of memory but those that it names.
abbrev pub StepSpares : Type 0
StepSpares = (w v : World) → step w ≡ taken v → (q : ℕ) → spares_in w.core.phase w q → get_or v.memory q 0 ≡ get_or w.memory q 0

-- ---- bytes moved at once

-- Bytes moved at once are as many steps. The one law over the modes: worlds in a row, each a step after the one before.
abbrev pub RowSteps : Type 0
RowSteps = (row : ℕ → World) (n : ℕ) → ((i : ℕ) → i < n → step (row i) ≡ taken (row (suc i))) → steps n (row 0) ≡ taken (row n)

-- The row of mode 0: bytes copied in memory.
abbrev pub CopySteps : Type 0
CopySteps = (window : Window) (k : Work) (most : ℕ) (m : Core) → Moving MemoryToMemory window k most m → (from to n : ℕ)
    → Row window (read_fixed k.control.0) (source_of k) from n → Row window (write_fixed k.control.0) (destination_of k) to n → n ≤ most
    → (w : World) (memory : List ℕ)
    → steps n (stored w m memory)
    ≡ taken (stored w (onward m (moved_by k n k.errors)) (copied memory (read_fixed k.control.0) from (write_fixed k.control.0) to n))

-- The row of mode 1: beats made, with neither SOP nor EOP, where there is room for them.
abbrev pub SendSteps : Type 0
SendSteps = (window : Window) (k : Work) (most : ℕ) (m : Core) → Moving MemoryToStream window k most m → (from n : ℕ)
    → Row window (read_fixed k.control.0) (source_of k) from n → n ≤ most → Unmarked k n
    → (w : World) → n ≤ w.room
    → steps n (became w m)
    ≡ taken (sent w (onward m (moved_by k n k.errors)) (w.output ++ plain w.memory (read_fixed k.control.0) from n) (w.room - n))

-- The row of mode 2: beats taken, none of them with EOP.
abbrev pub ReceiveSteps : Type 0
ReceiveSteps = (window : Window) (k : Work) (most : ℕ) (m : Core) → Moving StreamToMemory window k most m → (to n : ℕ)
    → Row window (write_fixed k.control.0) (destination_of k) to n → n ≤ most
    → (w : World) (memory beats : List ℕ) → n ≤ length beats → ((i : ℕ) → i < n → beat_eop (get_or beats i 0) ≡ false)
    → steps n (received w m memory beats)
    ≡ taken (received w (onward m (moved_by k n (gathered k.errors (take n beats)))) (spread memory (write_fixed k.control.0) to beats n)
    (drop n beats))
