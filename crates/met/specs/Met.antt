-- The paper's "every machine met in use, from a fresh or a loaded one".
-- Assumes nothing.
use Rattle.std.specs.Prelude.{ℕ, ◌^◌, ◌<◌, ◌≡◌, true, List, Ok, Ok}
use Rattle.words.specs.Slices.{AllBytes}
use Rattle.bus.specs.declared.Window.{Window}
use Rattle.bus.specs.Window.{keeps_limits}
use Rattle.regs.specs.declared.Mode.{Mode}
use Rattle.machine.specs.declared.Machine.{Machine}
use Rattle.machine.specs.declared.Progress.{Progress}
use Rattle.machine.specs.declared.Ran.{Ran}
use Rattle.machine.specs.declared.StepAnswer.TheVariants as one
use Rattle.machine.specs.State as state
use Rattle.machine.specs.Saved.{WasLoaded}
use Rattle.machine.specs.Registers.{WasWritten}
use Rattle.machine.specs.Run.{Lent, Returned, Stepped, HasRun}

-- a machine is met if it is fresh over a window within the limits; or loaded from an image; or comes back from a register
-- write, a step or a run to which a machine met was given. A value written is a number of 32 bits, and what is lent is bytes
pub data Met : Machine → Type 0 where
  fresh : (mode : Mode) (w : Window) → keeps_limits w.base w.length ≡ true → Met (state.fresh mode w)
  loaded : {xs : List ℕ} {m : Machine} → WasLoaded xs (Ok m) → Met m
  written : {m n : Machine} {offset v : ℕ} → Met m → v < 2 ^ 32 → WasWritten m offset v (Ok n) → Met n
  stepped : {m : Machine} {l : Lent} {p : Progress} {b : Returned}
      → Met m → AllBytes l.window → AllBytes l.beats → Stepped m l (Ok (one.Taken p)) b → Met p.machine
  ran : {m : Machine} {l : Lent} {budget : ℕ} {r : Ran} {b : Returned}
      → Met m → AllBytes l.window → AllBytes l.beats → HasRun m l budget (Ok r) b → Met r.machine
