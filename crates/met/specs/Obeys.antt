-- Order 9: how long until the core obeys. Once RUN is cleared no more steps are taken than the phase owes, which the operator can read, and
-- never more than 65,536. The theorems are `owes-at-most`, `owes-steps`, `stands-then`, `obeys`, `runs-obey`, `cleared-by-write`,
-- `obeys-in-run` and `bound-is-met`.
-- Assumes nothing.
use Rattle.std.specs.Prelude.{ℕ, ◌+◌, ◌-◌, ◌≤◌, ◌≡◌, true, false, [], length, replicate, Ok, None}
use Rattle.words.specs.Slices.{AllBytes}
use Rattle.regs.specs.declared.Mode.{Mode}
use Rattle.regs.specs.declared.Mode.TheVariants.{MemoryToMemory, MemoryToStream, StreamToMemory}
use Rattle.regs.specs.Control as control
use Rattle.machine.specs.declared.Core.{Core}
use Rattle.machine.specs.declared.Machine.{Machine}
use Rattle.machine.specs.declared.Work.{Work}
use Rattle.machine.specs.declared.Ran.{Ran}
use Rattle.machine.specs.declared.Phase.{Phase}
use Rattle.machine.specs.declared.Phase.TheVariants.{Rest, Fetch, Move, WriteBack, Ended, Halted, Faulted}
use Rattle.machine.specs.declared.Fault.{Fault}
use Rattle.machine.specs.declared.Reason.{Reason}
use Rattle.machine.specs.declared.Reason.TheVariants as reason
use Rattle.machine.specs.State.{with_phase, with_busy, fresh_core, machine_with}
use Rattle.machine.specs.Step.{World, opened, whole}
use Rattle.machine.specs.Run.{Lent, Returned, HasRun}

-- RUN reads 0
abbrev pub Cleared : Core → Type 0
Cleared m = control.run m.control ≡ false

-- ---- the steps that it owes

-- at most 1 in Fetch, at most L - moved + 1 in Move, 1 in WriteBack, 0 elsewhere
abbrev pub owes_in : Core → Phase → ℕ
owes_in m Rest = 0
owes_in m Fetch = 1
owes_in m (Move k) = whole m k - k.moved + 1
owes_in m (WriteBack k) = 1
owes_in m Ended = 0
owes_in m Halted = 0
owes_in m (Faulted f) = 0

abbrev pub owes : Core → ℕ
owes m = owes_in m m.phase

-- ---- "with beats, output and ledger room as needed"

-- in mode 2 a beat, in mode 1 room for one, for each byte that is left to move
abbrev pub supplied_move : Mode → World → Work → Type 0
supplied_move MemoryToMemory w k = Unit {0}
supplied_move MemoryToStream w k = whole w.core k - k.moved ≤ w.room
supplied_move StreamToMemory w k = whole w.core k - k.moved ≤ length w.input

-- and room for one record, where a descriptor is in hand
abbrev pub supplied_in : World → Phase → Type 0
supplied_in w Rest = Unit {0}
supplied_in w Fetch = Unit {0}
supplied_in w (Move k) = supplied_move w.core.mode w k × (1 ≤ w.left)
supplied_in w (WriteBack k) = 1 ≤ w.left
supplied_in w Ended = Unit {0}
supplied_in w Halted = Unit {0}
supplied_in w (Faulted f) = Unit {0}

abbrev pub Supplied : World → Type 0
Supplied w = supplied_in w w.core.phase

-- ---- where it stands then

-- "before Rest .. or a fault"
pub data Obeyed : Reason → Phase → Type 0 where
  rests : Obeyed reason.Rest Rest
  faults : {f : Fault} → Obeyed reason.Faulted (Faulted f)

-- or it waits for what it lacks
pub data Stands (w : World) : Reason → Phase → Type 0 where
  obeyed : {r : Reason} {p : Phase} → Obeyed r p → Stands w r p
  no_beat : {k : Work} → w.core.mode ≡ StreamToMemory → w.input ≡ [] → Stands w reason.NeedsInput (Move k)
  no_room : {k : Work} → w.core.mode ≡ MemoryToStream → w.room ≡ 0 → Stands w reason.OutputFull (Move k)
  no_record : {k : Work} → w.left ≡ 0 → Stands w reason.LedgerFull (WriteBack k)

-- ---- runs one after the other, each lent what the caller likes, and no register written between them: the machines before and after, and
-- the steps of all

pub data RunsOn : Machine → Machine → ℕ → Type 0 where
  none : {m : Machine} → RunsOn m m 0
  one_more : {m n : Machine} {t budget : ℕ} {l : Lent} {r : Ran} {b : Returned} → RunsOn m n t → AllBytes l.window → AllBytes l.beats
      → HasRun n l budget (Ok r) b → RunsOn m r.machine (t + r.steps)

-- what a run tells that obeys
pub record ObeyedRun (r : Ran) : Type 0 where
  pub stands : Obeyed r.reason r.machine.core.phase
  pub steps : r.steps ≤ 65536
  pub busy : r.machine.core.status.busy ≡ false

-- ---- the bound is met

-- a descriptor of length 0 in mode 2, which means 65,535 bytes, all to one place, none of them moved yet
abbrev pub longest_work : Work
longest_work =
    record { at = 0; source = 0; destination = 32; length = 0; control = record { 0 = 0x84 }; errors = 0; moved = 0; eop = false }

abbrev pub longest_core : Core
longest_core = with_phase (Move longest_work) (with_busy true (fresh_core StreamToMemory (record { base = 0; length = 64 })))

-- over a window of 64 bytes, with 65,535 beats and room for one record
abbrev pub longest : World
longest =
    opened (machine_with longest_core None 1) (replicate 64 0) (replicate 65535 0) 0 1
