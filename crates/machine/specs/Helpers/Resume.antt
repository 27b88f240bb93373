-- What a step needs of a machine, and a run that looks at no more of it.
-- Assumes nothing.
use Rattle.descriptor.specs.Looking.{Look}
use Rattle.std.specs.Prelude.{ℕ, ◌<◌, ◌≡◌, Bool, true, false, not, cond, ◌&&◌, eqb, ltb, Result, Ok, Err, Some, None}
use Rattle.bus.specs.Window.{in_window}
use Rattle.bus.specs.declared.Refusal.{Refusal}
use Rattle.descriptor.specs.declared.Miss.TheVariants as miss
use Rattle.machine.specs.declared.Core.{Core}
use Rattle.machine.specs.declared.Machine.{Machine}
use Rattle.machine.specs.declared.Work.{Work}
use Rattle.machine.specs.declared.Phase.{Phase}
use Rattle.machine.specs.declared.Phase.TheVariants.{Rest, Fetch, Move, WriteBack, Ended, Halted, Faulted}
use Rattle.machine.specs.declared.Ran.{Ran}
use Rattle.machine.specs.declared.StepAnswer.{StepAnswer}
use Rattle.machine.specs.declared.StepAnswer.TheVariants as one
use Rattle.machine.specs.State.{home, Slot}
use Rattle.machine.specs.Step.{whole}
use Rattle.machine.specs.Run.{Lent, Returned, served_if, Runs}

-- ---- what a step needs of a machine

-- in Move there is a byte left to move, and no EOP was seen
abbrev pub Left : Core → Phase → Type 0
Left m Rest = Unit {0}
Left m Fetch = Unit {0}
Left m (Move k) = (k.moved < whole m k) × (k.eop ≡ false)
Left m (WriteBack k) = Unit {0}
Left m Ended = Unit {0}
Left m Halted = Unit {0}
Left m (Faulted f) = Unit {0}

-- the descriptor in hand lies in the window
abbrev pub Placed : Core → Phase → Type 0
Placed m Rest = Unit {0}
Placed m Fetch = Unit {0}
Placed m (Move k) = in_window (home m) k.at 32 ≡ true
Placed m (WriteBack k) = in_window (home m) k.at 32 ≡ true
Placed m Ended = Unit {0}
Placed m Halted = Unit {0}
Placed m (Faulted f) = Unit {0}

-- what is read ahead, if it is a descriptor, lies there too: the pointer is its address
abbrev pub SeatedAs : Core → Look → Type 0
SeatedAs m (Err miss.Misaligned) = Unit {0}
SeatedAs m (Err miss.Outside) = Unit {0}
SeatedAs m (Ok r) = in_window (home m) m.pointer.0 32 ≡ true

abbrev pub Seated : Core → Slot → Type 0
Seated m None = Unit {0}
Seated m (Some look) = SeatedAs m look

-- and the lent window is the machine's
pub record Ready (m : Core) (lent : ℕ) : Type 0 where
  pub size : m.window.length ≡ lent
  pub left : Left m m.phase
  pub placed : Placed m m.phase

-- in Move with this work in hand, of which a byte is left to move, over a lent window of so many bytes
pub record InMove (m : Core) (k : Work) (lent : ℕ) : Type 0 where
  pub size : m.window.length ≡ lent
  pub phase : m.phase ≡ Move k
  pub left : (k.moved < whole m k) × (k.eop ≡ false)

-- the same as `Ready` as a test, but for the lent window. A machine that keeps the rules passes it
abbrev pub ready_in : Core → Phase → Bool
ready_in m Rest = true
ready_in m Fetch = true
ready_in m (Move k) = ltb k.moved (whole m k) && not k.eop && in_window (home m) k.at 32
ready_in m (WriteBack k) = in_window (home m) k.at 32
ready_in m Ended = true
ready_in m Halted = true
ready_in m (Faulted f) = true

abbrev pub seated_as : Core → Look → Bool
seated_as m (Err miss.Misaligned) = true
seated_as m (Err miss.Outside) = true
seated_as m (Ok r) = in_window (home m) m.pointer.0 32

abbrev pub seated_in : Core → Slot → Bool
seated_in m None = true
seated_in m (Some look) = seated_as m look

unfoldable pub core_ready : Core → Bool
core_ready m = ready_in m m.phase

unfoldable pub ready_of : Machine → Bool
unfolding core_ready
ready_of m = seated_in m.core m.slot && core_ready m.core

-- ---- a run

-- by whether the machine is good
abbrev pub RunsIf : (good : Bool) → Machine → Lent → (budget : ℕ) → Result Ran Refusal → Returned → Type 0
RunsIf good m l budget r b = Runs (served_if good m l) m l budget r b

-- resume: good is a machine that has what a step needs
abbrev pub Resumed : Machine → Lent → (budget : ℕ) → Result Ran Refusal → Returned → Type 0
Resumed m l budget r b = RunsIf (ready_of m) m l budget r b

-- step: what a run of one says of its step
abbrev pub stepped_in : Ran → StepAnswer
stepped_in r =
    cond (eqb r.steps 0) (one.Stopped r.reason)
    (one.Taken (record { machine = r.machine; taken = r.taken; made = r.made; used = r.used }))
