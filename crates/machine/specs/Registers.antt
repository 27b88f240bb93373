-- The paper's "Registers".
-- Assumes nothing.
use Rattle.std.specs.Prelude.{ℕ, ◌+◌, ◌*◌, ◌%◌, ◌^◌, ◌≡◌, Bool, true, not, cond, ◌&&◌, Result, Ok, Err, None}
use Rattle.std.proofs.Common.{sym, ◌∙◌}
use Rattle.bus.specs.declared.Refusal.TheVariants.{NoRegister}
use Rattle.bus.specs.Refusal.{answer_number}
use Rattle.bus.specs.declared.Refusal.{Refusal}
use Rattle.regs.specs.Status.{cleared_by}
use Rattle.regs.specs.Control.{run, clear_interrupt, as_control, reset_by, count_from, run_from, line_up}
use Rattle.regs.specs.Offsets.{chosen, is_register, register_at}
use Rattle.image.specs.Rules.{lowest_broken}
use Rattle.machine.specs.declared.Core.{Core}
use Rattle.machine.specs.declared.Machine.{Machine}
use Rattle.machine.specs.declared.Phase.{Phase}
use Rattle.machine.specs.declared.Phase.TheVariants.{Rest, Fetch, Move, WriteBack, Ended, Halted, Faulted}
use Rattle.machine.specs.State.{with_status, with_pointer, with_control, rested, fresh_core, machine_with}
use Rattle.machine.specs.Saved.{fields_of, tail_of, keeps, spoiled}

-- ---- writing

abbrev pub status_written : ℕ → Core → Core
status_written v m = with_status (cleared_by v m.status) m

-- bits 0..17 are stored; bit 31 clears the pending interrupt; RUN going 0 to 1 sets the descriptor count to 0
abbrev pub control_stored : ℕ → Core → Core
control_stored v m =
    with_control (v % 2 ^ 18) (m.pending && not (clear_interrupt (as_control v))) (count_from v m.control m.count) m

-- RUN 0: Ended or Halted goes to Rest with BUSY 0. Faulted stays: only reset leaves it
abbrev pub released : Phase → Core → Core
released Rest m = m
released Fetch m = m
released (Move k) m = m
released (WriteBack k) m = m
released Ended m = rested m
released Halted m = rested m
released (Faulted f) m = m

-- in order: the reset, where bit 16 is written and already reads 1, and then the rest of the value is ignored; otherwise what
-- is stored, and RUN 0
unfoldable pub control_written : ℕ → Core → Core
control_written v m =
    cond (reset_by v m.control) (fresh_core m.mode m.window)
    (cond (run (as_control v)) (control_stored v m) (released m.phase (control_stored v m)))

-- the core: at an offset that is none nothing is written
abbrev pub core_written : Core → (offset v : ℕ) → Core
core_written m offset v = chosen offset (status_written v m) (control_written v m) (with_pointer v m) m

-- and the machine: "reset and a host pointer write empty the slot"; a control write may begin a run
abbrev pub written_to : Machine → (offset v : ℕ) → Machine
written_to m offset v =
    machine_with (core_written m.core offset v) (chosen offset m.slot m.slot None m.slot)
    (chosen offset m.run (run_from v m.core.control m.run) m.run m.run)

-- 1 NoRegister: offset not 0, 4, 8
abbrev pub wrote_to : Machine → (offset v : ℕ) → Result Machine Refusal
wrote_to m offset v = cond (is_register offset) (Ok (written_to m offset v)) (Err NoRegister)

-- a machine that breaks a rule comes before an offset that is none
unfoldable pub write_of : Machine → (offset v : ℕ) → Result Machine Refusal
write_of m offset v = cond (keeps m) (wrote_to m offset v) (Err (spoiled m))

-- ---- reading changes nothing

-- a machine that breaks a rule comes before an offset that is none
unfoldable pub reading_of : Machine → (offset : ℕ) → Result ℕ Refusal
reading_of m offset = cond (keeps m) (register_at m.core.status m.core.control m.core.pointer offset) (Err (spoiled m))

-- ---- the line

unfoldable pub line_of : Machine → Result Bool Refusal
line_of m = cond (keeps m) (Ok (line_up m.core.control m.core.pending)) (Err (spoiled m))

-- ---- the paper's number of each answer

-- 8 BadImage with its field, then 1 NoRegister, else 0: the paper's numbers written out, so that `refusal_number` is held to them
abbrev pub register_number : Machine → (known : Bool) → ℕ
register_number m known = cond (keeps m) (cond known 0 1) (8 + 256 * lowest_broken (fields_of m.core) (tail_of m))

-- ---- the promises

pub record RegisterWasRead (m : Machine) (offset : ℕ) (r : Result ℕ Refusal) : Type 0 where
  pub answer : r ≡ reading_of m offset
  pub number : answer_number r ≡ register_number m (is_register offset)

pub record WasWritten (m : Machine) (offset v : ℕ) (r : Result Machine Refusal) : Type 0 where
  pub answer : r ≡ write_of m offset v
  pub number : answer_number r ≡ register_number m (is_register offset)

pub record WasLine (m : Machine) (r : Result Bool Refusal) : Type 0 where
  pub answer : r ≡ line_of m
  pub number : answer_number r ≡ register_number m true

pub reading-unique : {m : Machine} {offset : ℕ} {r s : Result ℕ Refusal} → RegisterWasRead m offset r → RegisterWasRead m offset s → r ≡ s
reading-unique p q = p.answer ∙ sym q.answer

pub written-unique : {m : Machine} {offset v : ℕ} {r s : Result Machine Refusal} → WasWritten m offset v r → WasWritten m offset v s → r ≡ s
written-unique p q = p.answer ∙ sym q.answer

pub line-unique : {m : Machine} {r s : Result Bool Refusal} → WasLine m r → WasLine m s → r ≡ s
line-unique p q = p.answer ∙ sym q.answer
