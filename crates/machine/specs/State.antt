-- The phases by number, the codes of the faults, the core with one part changed, and the machine around it: what was read ahead, and the
-- run number.
-- Assumes nothing.
use Rattle.descriptor.specs.Looking.{Look}
use Rattle.std.specs.Prelude.{ℕ, Bool, false, ◌||◌, Option, None}
use Rattle.bus.specs.declared.Window.{Window}
use Rattle.regs.specs.declared.Mode.{Mode}
use Rattle.regs.specs.declared.Status.{Status}
use Rattle.regs.specs.declared.Control.{Control}
use Rattle.regs.specs.declared.Pointer.{Pointer}
use Rattle.machine.specs.declared.Core.{Core}
use Rattle.machine.specs.declared.Machine.{Machine}
use Rattle.machine.specs.declared.Phase.{Phase}
use Rattle.machine.specs.declared.Phase.TheVariants.{Rest, Fetch, Move, WriteBack, Ended, Halted, Faulted}

abbrev pub phase_number : Phase → ℕ
phase_number Rest = 0
phase_number Fetch = 1
phase_number (Move k) = 2
phase_number (WriteBack k) = 3
phase_number Ended = 4
phase_number Halted = 5
phase_number (Faulted f) = 6

-- ---- the codes of the faults

abbrev pub misaligned : ℕ
misaligned = 10

abbrev pub descriptor_outside : ℕ
descriptor_outside = 11

abbrev pub no_length : ℕ
no_length = 12

abbrev pub source_outside : ℕ
source_outside = 13

abbrev pub destination_outside : ℕ
destination_outside = 14

-- ---- the window that descriptors live in

abbrev pub home : Core → Window
home m = m.window

-- ---- the core with one part changed

-- these parts; mode and window stay. No other update of a core names its parts
abbrev pub remade : Status → Control → Pointer → Phase → (pending : Bool) (count : ℕ) → Core → Core
remade status control pointer phase pending count m =
    record {
      mode = m.mode;
      window = m.window;
      status = status;
      control = control;
      pointer = pointer;
      phase = phase;
      pending = pending;
      count = count;
    }

abbrev pub with_status : Status → Core → Core
with_status s m = remade s m.control m.pointer m.phase m.pending m.count m

abbrev pub with_pointer : ℕ → Core → Core
with_pointer a m = remade m.status m.control (record { 0 = a }) m.phase m.pending m.count m

abbrev pub with_phase : Phase → Core → Core
with_phase p m = remade m.status m.control m.pointer p m.pending m.count m

-- control, pending and count are written together
abbrev pub with_control : ℕ → Bool → ℕ → Core → Core
with_control c pending count m = remade m.status (record { 0 = c }) m.pointer m.phase pending count m

abbrev pub with_busy : Bool → Core → Core
with_busy b m =
    with_status
    (record {
      error = m.status.error;
      eop = m.status.eop;
      descriptor = m.status.descriptor;
      chain = m.status.chain;
      busy = b;
    })
    m

-- an event pends under its own enable; what pends already stays
abbrev pub pend : Bool → Core → Core
pend enabled m = with_control m.control.0 (m.pending || enabled) m.count m

-- Rest, BUSY 0
abbrev pub rested : Core → Core
rested m = with_phase Rest (with_busy false m)

-- ---- a fresh core: all registers 0

abbrev pub fresh_core : Mode → Window → Core
fresh_core mode window =
    record {
      mode = mode;
      window = window;
      status = record { error = false; eop = false; descriptor = false; chain = false; busy = false };
      control = record { 0 = 0 };
      pointer = record { 0 = 0 };
      phase = Rest;
      pending = false;
      count = 0;
    }

-- ---- what was read ahead

-- what was read ahead: the look at the pointer, or nothing
abbrev pub Slot : Type 0
Slot = Option Look

-- "Rest, Halted, Ended, Faulted .. empty the slot": what a phase leaves of it
abbrev pub settled : Phase → Slot → Slot
settled Rest slot = None
settled Fetch slot = slot
settled (Move k) slot = slot
settled (WriteBack k) slot = slot
settled Ended slot = None
settled Halted slot = None
settled (Faulted f) slot = None

-- ---- the machine: its core, what was read ahead, the run number

abbrev pub machine_with : Core → Slot → (run : ℕ) → Machine
machine_with core slot run = record { core = core; slot = settled core.phase slot; run = run }

abbrev pub fresh : Mode → Window → Machine
fresh mode window = machine_with (fresh_core mode window) None 0
