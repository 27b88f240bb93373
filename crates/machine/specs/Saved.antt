-- The machine as the fields of its image, and back; what load and save promise.
-- Assumes nothing.
use Rattle.std.specs.Prelude.{ℕ, ◌≡◌, Bool, false, List, [], ◌∷◌, get_or, Result, Ok, Err, Some, None}
use Rattle.std.proofs.Common.{sym, ◌∙◌}
use Rattle.bus.specs.declared.Refusal.{Refusal}
use Rattle.bus.specs.declared.Refusal.TheVariants.{BadImage}
use Rattle.bus.specs.Refusal.{answer_number}
use Rattle.regs.specs.Modes.{mode_number, mode_of}
use Rattle.regs.specs.Status.{status_number, status_of}
use Rattle.regs.specs.Control.{sw_reset}
use Rattle.descriptor.specs.declared.Raw.{Raw}
use Rattle.descriptor.specs.declared.Miss.TheVariants as miss
use Rattle.descriptor.specs.Looking.{raw_of, Look}
use Rattle.image.specs.declared.Fields.{Fields}
use Rattle.image.specs.declared.Tail.{Tail}
use Rattle.image.specs.Slot.{empty, descriptor, fault10, fault11}
use Rattle.image.specs.Layout.{tail}
use Rattle.image.specs.Rules.{lowest_broken, keeps_rules}
use Rattle.image.specs.Promise.{read_of, wrote_of, image_over}
use Rattle.machine.specs.declared.Core.{Core}
use Rattle.machine.specs.declared.Machine.{Machine}
use Rattle.machine.specs.declared.Work.{Work}
use Rattle.machine.specs.declared.Fault.{Fault}
use Rattle.machine.specs.declared.Phase.{Phase}
use Rattle.machine.specs.declared.Phase.TheVariants.{Rest, Fetch, Move, WriteBack, Ended, Halted, Faulted}
use Rattle.machine.specs.State.{phase_number, Slot}

-- ---- a machine's fields

abbrev pub none : Work
none =
    record {
      at = 0;
      source = 0;
      destination = 0;
      length = 0;
      control = record { 0 = 0 };
      errors = 0;
      moved = 0;
      eop = false;
    }

abbrev pub no_fault : Fault
no_fault = record { code = 0; address = 0 }

-- the descriptor in hand; zeros outside Move and WriteBack
abbrev pub in_hand : Phase → Work
in_hand (Move k) = k
in_hand (WriteBack k) = k
in_hand Rest = none
in_hand Fetch = none
in_hand Ended = none
in_hand Halted = none
in_hand (Faulted f) = none

-- the fault; zeros outside Faulted
abbrev pub fault_in : Phase → Fault
fault_in (Faulted f) = f
fault_in Rest = no_fault
fault_in Fetch = no_fault
fault_in (Move k) = no_fault
fault_in (WriteBack k) = no_fault
fault_in Ended = no_fault
fault_in Halted = no_fault

abbrev pub fields_of : Core → Fields
fields_of m =
    record {
      edition = 2;
      mode = mode_number m.mode;
      phase = phase_number m.phase;
      armed = sw_reset m.control;
      pending = m.pending;
      fault = (fault_in m.phase).code;
      status = status_number m.status;
      count = m.count;
      control = m.control.0;
      pointer = m.pointer.0;
      base = m.window.base;
      window = m.window.length;
      address = (in_hand m.phase).at;
      source = (in_hand m.phase).source;
      destination = (in_hand m.phase).destination;
      size = (in_hand m.phase).length;
      dcontrol = (in_hand m.phase).control.0;
      errors = (in_hand m.phase).errors;
      moved = (in_hand m.phase).moved;
      eop = (in_hand m.phase).eop;
      zero15 = 0;
      faultat = (fault_in m.phase).address;
    }

-- the slot's kind: empty, descriptor, fault 10, fault 11
abbrev pub kind_of : Look → ℕ
kind_of (Err miss.Misaligned) = fault10
kind_of (Err miss.Outside) = fault11
kind_of (Ok r) = descriptor

-- and its bytes; zeros where there are none
abbrev pub bytes_of : Look → Raw
bytes_of (Err miss.Misaligned) = raw_of []
bytes_of (Err miss.Outside) = raw_of []
bytes_of (Ok r) = r

-- what edition 2 adds: "an empty slot is all zero; a fault slot's bytes are zero; a held slot .. its address is the pointer"
abbrev pub tail_with : Slot → (pointer run : ℕ) → Tail
tail_with None pointer run = record { kind = empty; zero6 = 0; at = 0; raw = raw_of []; run = run }
tail_with (Some look) pointer run = record { kind = kind_of look; zero6 = 0; at = pointer; raw = bytes_of look; run = run }

abbrev pub tail_of : Machine → Tail
tail_of m = tail_with m.slot m.core.pointer.0 m.run

-- the machine keeps the image rules
abbrev pub keeps : Machine → Bool
keeps m = keeps_rules (fields_of m.core) (tail_of m)

-- 8 for one that does not, with the lowest field of its image that breaks a rule
abbrev pub spoiled : Machine → Refusal
spoiled m = BadImage (lowest_broken (fields_of m.core) (tail_of m))

-- ---- the machine that fields are

abbrev pub work_of : Fields → Work
work_of f =
    record {
      at = f.address;
      source = f.source;
      destination = f.destination;
      length = f.size;
      control = record { 0 = f.dcontrol };
      errors = f.errors;
      moved = f.moved;
      eop = f.eop;
    }

-- a number above 6 is no phase: the rules leave none
abbrev pub phase_of : Fields → Phase
phase_of f =
    get_or (Rest ∷ Fetch ∷ Move (work_of f) ∷ WriteBack (work_of f) ∷ Ended ∷ Halted ∷ []) f.phase
    (Faulted (record { code = f.fault; address = f.faultat }))

abbrev pub core_of : Fields → Core
core_of f =
    record {
      mode = mode_of f.mode;
      window = record { base = f.base; length = f.window };
      status = status_of f.status;
      control = record { 0 = f.control };
      pointer = record { 0 = f.pointer };
      phase = phase_of f;
      pending = f.pending;
      count = f.count;
    }

-- a number above 2 is fault 11: its width leaves 3 alone
abbrev pub slot_of : Tail → Slot
slot_of t = get_or (None ∷ Some (Ok t.raw) ∷ Some (Err miss.Misaligned) ∷ []) t.kind (Some (Err miss.Outside))

abbrev pub machine_of : Fields → Tail → Machine
machine_of f t = record { core = core_of f; slot = slot_of t; run = t.run }

-- ---- load and save

-- an image loads exactly when it keeps the rules; else 7 or 8
abbrev pub loaded_as : Tail → Result Fields Refusal → Result Machine Refusal
loaded_as t (Ok f) = Ok (machine_of f t)
loaded_as t (Err why) = Err why

unfoldable pub load_of : List ℕ → Result Machine Refusal
load_of xs = loaded_as (tail xs) (read_of xs)

unfoldable pub save_of : Machine → List ℕ → Result Unit Refusal
save_of m xs = wrote_of (fields_of m.core) (tail_of m) xs

-- ---- the promises: the number is that of the image read or written

pub record WasLoaded (xs : List ℕ) (r : Result Machine Refusal) : Type 0 where
  pub answer : r ≡ load_of xs
  pub number : answer_number r ≡ answer_number (read_of xs)

pub record WasSaved (m : Machine) (xs : List ℕ) (r : Result Unit Refusal) (after : List ℕ) : Type 0 where
  pub answer : r ≡ save_of m xs
  pub number : answer_number r ≡ answer_number (wrote_of (fields_of m.core) (tail_of m) xs)
  pub lent : after ≡ image_over (fields_of m.core) (tail_of m) xs

pub loaded-unique : {xs : List ℕ} {r s : Result Machine Refusal} → WasLoaded xs r → WasLoaded xs s → r ≡ s
loaded-unique p q = p.answer ∙ sym q.answer

pub saved-unique : {m : Machine} {xs ys zs : List ℕ} {r s : Result Unit Refusal}
    → WasSaved m xs r ys → WasSaved m xs s zs → (r ≡ s) × (ys ≡ zs)
saved-unique p q = (p.answer ∙ sym q.answer, p.lent ∙ sym q.lent)
