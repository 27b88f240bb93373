-- The paper's run: steps until one cannot be taken or the budget is spent; and what a step and a run promise.
-- Assumes nothing.
use Rattle.std.specs.Prelude.{ℕ, zero, suc, ◌+◌, ◌-◌, ◌*◌, ◌/◌, ◌%◌, ◌≡◌, Bool, cond, ◌&&◌, List, ◌++◌, eqb, length, drop, Result, Ok, Err}
use Rattle.std.proofs.Common.{sym, ◌∙◌}
use Rattle.bus.specs.declared.Refusal.{Refusal}
use Rattle.bus.specs.declared.Refusal.TheVariants.{OddStream, BadLedger, OtherWindow}
use Rattle.bus.specs.Refusal.{refusal_number, answer_number}
use Rattle.words.specs.Slices.{put}
use Rattle.ledger.specs.Records.{ledger_bytes, capacity, is_ledger}
use Rattle.flow.specs.Beats.{beats_in, beat_bytes}
use Rattle.machine.specs.declared.Machine.{Machine}
use Rattle.machine.specs.declared.Loan.{Loan}
use Rattle.machine.specs.declared.Reason.{Reason}
use Rattle.machine.specs.declared.Reason.TheVariants.{Rest, Ended, Halted, Faulted, NeedsInput, OutputFull, Budget, LedgerFull}
use Rattle.machine.specs.declared.Progress.{Progress}
use Rattle.machine.specs.declared.Ran.{Ran}
use Rattle.machine.specs.declared.StepAnswer.{StepAnswer}
use Rattle.machine.specs.declared.StepAnswer.TheVariants as one
use Rattle.machine.specs.Saved.{keeps, spoiled}
use Rattle.machine.specs.Step.{World, Answer, taken, stopped, opened, machine_in, step}

-- ---- the run

-- where a run ended, after how many applications of the step rule, and the reason found there
pub record Report : Type 0 where
  pub reason : Reason
  pub steps : ℕ
  pub world : World

abbrev pub one_more_of : Report → Report
one_more_of r = record { reason = r.reason; steps = suc r.steps; world = r.world }

-- w is where the run stands, and the answer what its next step says. Budget only if another step was possible
abbrev pub run_on : (budget : ℕ) → World → Answer → Report
run_on zero w (stopped r) = record { reason = r; steps = 0; world = w }
run_on zero w (taken v) = record { reason = Budget; steps = 0; world = w }
run_on (suc n) w (stopped r) = record { reason = r; steps = 0; world = w }
run_on (suc n) w (taken v) = one_more_of (run_on n v (step v))

unfoldable pub run : (budget : ℕ) → World → Report
run n w = run_on n w (step w)

-- the paper's number of each reason
abbrev pub reason_number : Reason → ℕ
reason_number Rest = 0
reason_number Ended = 1
reason_number Halted = 2
reason_number Faulted = 3
reason_number NeedsInput = 4
reason_number OutputFull = 5
reason_number Budget = 6
reason_number LedgerFull = 7

-- ---- what is lent

-- what is lent to a step or a run: the window, the beats, the room for output, the ledger, and how many of its records were used before
pub record Lent : Type 0 where
  pub window : List ℕ
  pub beats : List ℕ
  pub out : List ℕ
  pub ledger : List ℕ
  pub used : ℕ

abbrev pub lent : (window beats out ledger : List ℕ) (used : ℕ) → Lent
lent window beats out ledger used = record { window = window; beats = beats; out = out; ledger = ledger; used = used }

-- what comes back of it: all but the beats, which are only read
pub record Returned : Type 0 where
  pub window : List ℕ
  pub out : List ℕ
  pub ledger : List ℕ

abbrev pub back : (window out ledger : List ℕ) → Returned
back window out ledger = record { window = window; out = out; ledger = ledger }

-- what stands in the slices of a loan
abbrev pub lent_in : Loan → Lent
lent_in l = lent l.window.now l.beats.now l.out.now l.ledger.now l.used

abbrev pub back_in : Loan → Returned
back_in l = back l.window.now l.out.now l.ledger.now

-- a loan of the same slices, with the same beats and as many records used
pub record Held (l l' : Loan) : Type 0 where
  pub window : l'.window.ghost_name ≡ l.window.ghost_name
  pub beats : l'.beats.now ≡ l.beats.now
  pub out : l'.out.ghost_name ≡ l.out.ghost_name
  pub ledger : l'.ledger.ghost_name ≡ l.ledger.ghost_name
  pub used : l'.used ≡ l.used

-- as it was lent
abbrev pub as_lent : Lent → Returned
as_lent l = back l.window l.out l.ledger

-- what is lent serves the machine, or the first refusal that applies
pub data Served : Type 0 where
  serves : Served
  refused : Refusal → Served

abbrev pub even : List ℕ → Bool
even xs = eqb (length xs % 2) 0

-- 8 where the machine is not good, with the lowest field of its image that breaks a rule; 9 where beats, in or out, have an odd number of bytes; 19 where the ledger is not whole records,
-- or fewer than are said to be used; 4 where the window's length is not the machine's
abbrev pub served_if : (good : Bool) → Machine → Lent → Served
served_if good m l =
    cond good
    (cond (even l.beats && even l.out)
    (cond (is_ledger (length l.ledger) l.used)
    (cond (eqb (length l.window) m.core.window.length) serves (refused OtherWindow))
    (refused BadLedger))
    (refused OddStream))
    (refused (spoiled m))

-- good is a machine that keeps the rules
unfoldable pub served_of : Machine → Lent → Served
served_of m l = served_if (keeps m) m l

-- the world that a machine and what it is lent make
abbrev pub world_of : Machine → Lent → World
world_of m l = opened m l.window (beats_in l.beats) (length l.out / 2) (capacity (length l.ledger) - l.used)

-- beats taken since w
abbrev pub taken_since : World → World → ℕ
taken_since w v = length w.input - length v.input

-- the lent output after it: the beats made, and what stood past them
abbrev pub output_over : World → List ℕ → List ℕ
output_over v out = beat_bytes v.output ++ drop (2 * length v.output) out

-- the lent ledger after it: the records made stand behind those used, "and bytes past them stay"
abbrev pub ledger_over : World → List ℕ → (used : ℕ) → List ℕ
ledger_over v ledger used = put ledger (12 * used) (ledger_bytes v.records)

-- what comes back of what was lent, after a step or a run that ended in v; refused, nothing changed
abbrev pub returned : Lent → Served → World → Returned
returned l serves v = back v.memory (output_over v l.out) (ledger_over v l.ledger l.used)
returned l (refused why) v = as_lent l

-- ---- a step. used is how many records were used before it

abbrev pub progress : (used : ℕ) → World → World → Progress
progress used w v =
    record { machine = machine_in v; taken = taken_since w v; made = length v.output; used = used + length v.records }

abbrev pub stepped_as : (used : ℕ) → World → Answer → StepAnswer
stepped_as used w (taken v) = one.Taken (progress used w v)
stepped_as used w (stopped r) = one.Stopped r

abbrev pub world_after : World → Answer → World
world_after w (taken v) = v
world_after w (stopped r) = w

abbrev pub step_answer : Lent → Served → World → Result StepAnswer Refusal
step_answer l serves w = Ok (stepped_as l.used w (step w))
step_answer l (refused why) w = Err why

-- ---- a run

abbrev pub ran_as : (used : ℕ) → World → Report → Ran
ran_as used w r =
    record {
      machine = machine_in r.world;
      reason = r.reason;
      steps = r.steps;
      taken = taken_since w r.world;
      made = length r.world.output;
      used = used + length r.world.records;
    }

abbrev pub run_answer : Lent → Served → World → (budget : ℕ) → Result Ran Refusal
run_answer l serves w budget = Ok (ran_as l.used w (run budget w))
run_answer l (refused why) w budget = Err why

-- the paper's number of what is lent: a step or a run is refused for that alone
abbrev pub served_number : Served → ℕ
served_number serves = 0
served_number (refused why) = refusal_number why

-- ---- the promises

pub record Stepped (m : Machine) (l : Lent) (r : Result StepAnswer Refusal) (b : Returned) : Type 0 where
  pub answer : r ≡ step_answer l (served_of m l) (world_of m l)
  pub number : answer_number r ≡ served_number (served_of m l)
  pub back : b ≡ returned l (served_of m l) (world_after (world_of m l) (step (world_of m l)))

-- a run, by whether what is lent serves
pub record Runs (served : Served) (m : Machine) (l : Lent) (budget : ℕ) (r : Result Ran Refusal) (b : Returned) : Type 0 where
  pub answer : r ≡ run_answer l served (world_of m l) budget
  pub number : answer_number r ≡ served_number served
  pub back : b ≡ returned l served (run budget (world_of m l)).world

-- run
abbrev pub HasRun : Machine → Lent → (budget : ℕ) → Result Ran Refusal → Returned → Type 0
HasRun m l budget r b = Runs (served_of m l) m l budget r b

pub stepped-unique : {m : Machine} {l : Lent} {r s : Result StepAnswer Refusal} {b d : Returned} → Stepped m l r b → Stepped m l s d → (r ≡ s) × (b ≡ d)
stepped-unique p q = (p.answer ∙ sym q.answer, p.back ∙ sym q.back)

-- of `HasRun`, and of `Resumed` (Helpers/Resume.antt)
pub run-unique : {served : Served} {m : Machine} {l : Lent} {budget : ℕ} {r s : Result Ran Refusal} {b d : Returned}
    → Runs served m l budget r b → Runs served m l budget s d → (r ≡ s) × (b ≡ d)
run-unique p q = (p.answer ∙ sym q.answer, p.back ∙ sym q.back)
