-- Descriptor control: "Bits 3..6 have no effect and are kept as given." Two controls that agree in the bits that have one. That a
-- step is the same under both is `no-effect-in-fetch` and the two laws beside it; that what is written back has the bits as given is
-- `kept-as-given`.
-- Assumes nothing.
use Rattle.std.specs.Prelude.{ℕ, ◌≡◌, List, None}
use Rattle.descriptor.specs.declared.Descriptor.{Descriptor}
use Rattle.descriptor.specs.Layout.{generate_eop, read_fixed, write_fixed, owned}
use Rattle.machine.specs.declared.Work.{Work}
use Rattle.machine.specs.declared.Phase.{Phase}
use Rattle.machine.specs.declared.Phase.TheVariants.{Rest, Fetch, Move, WriteBack, Ended, Halted, Faulted}
use Rattle.machine.specs.State.{with_phase, Slot}
use Rattle.machine.specs.Step.{World, Answer, taken, stopped, became, holding}
use Rattle.met.specs.Reading.{over}

-- bits 0, 1, 2 and 7 are the same
pub record SameUse (c d : ℕ) : Type 0 where
  pub eop : generate_eop c ≡ generate_eop d
  pub read : read_fixed c ≡ read_fixed d
  pub write : write_fixed c ≡ write_fixed d
  pub own : owned c ≡ owned d

-- the descriptor, as read and in hand, under another control
abbrev pub descriptor_under : ℕ → Descriptor → Descriptor
descriptor_under c d =
    record {
      source = d.source;
      destination = d.destination;
      next = d.next;
      length = d.length;
      actual = d.actual;
      status = d.status;
      control = record { 0 = c };
    }

abbrev pub work_under : ℕ → Work → Work
work_under c k =
    record {
      at = k.at;
      source = k.source;
      destination = k.destination;
      length = k.length;
      control = record { 0 = c };
      errors = k.errors;
      moved = k.moved;
      eop = k.eop;
    }

abbrev pub phase_under : ℕ → Phase → Phase
phase_under c Rest = Rest
phase_under c Fetch = Fetch
phase_under c (Move k) = Move (work_under c k)
phase_under c (WriteBack k) = WriteBack (work_under c k)
phase_under c Ended = Ended
phase_under c Halted = Halted
phase_under c (Faulted f) = Faulted f

-- the same world, but for that control
abbrev pub world_under : ℕ → World → World
world_under c w =
    became w (with_phase (phase_under c w.core.phase) w.core)

abbrev pub answer_under : ℕ → Answer → Answer
answer_under c (taken w) = taken (world_under c w)
answer_under c (stopped r) = stopped r

-- a step's answer over other bytes of the window
abbrev pub answer_over : List ℕ → Answer → Answer
answer_over memory (taken w) = taken (over memory w)
answer_over memory (stopped r) = stopped r

-- and with another slot
abbrev pub answer_holding : Slot → Answer → Answer
answer_holding slot (taken w) = taken (holding w slot)
answer_holding slot (stopped r) = stopped r

-- the slot that an answer leaves
abbrev pub slot_after : Answer → Slot
slot_after (taken w) = w.slot
slot_after (stopped r) = None
