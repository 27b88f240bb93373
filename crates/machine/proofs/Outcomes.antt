-- What a step and a run promise, from what the code found.
-- Assumes nothing.
use Rattle.bus.specs.Refusal.{answer_number}
use Rattle.std.specs.Prelude.{Result, Ok, Err}
use Prim.Native.Nat.{ℕ, ◌-◌, ◌*◌, ◌/◌, ◌%◌, ◌≤◌}
use mathlib.Core.Path.{◌≡◌, refl, sym, ap, subst, subst⁻¹, ◌∙◌}
use mathlib.Core.Bool.{Bool, true, false, cond, ◌&&◌}
use mathlib.Core.List.{List, ◌++◌}
use native.Mathlib.Nat.{zero-add}
use native.Mathlib.Omega.{arith}
use lib.Dec.{eqb}
use lib.ListN.{length, drop, length-drop}
use borrow.Author.Tests.{eqb-true, leb-true}
use Rattle.words.specs.Slices.{put}
use Rattle.bus.specs.declared.Refusal.{Refusal}
use Rattle.bus.specs.declared.Refusal.TheVariants.{OddStream, BadLedger, OtherWindow}
use Rattle.ledger.specs.Records.{is_ledger}
use Rattle.image.proofs.Tests.{and_right}
use Rattle.flow.specs.Beats.{beats_in, beat_bytes}
use Rattle.flow.proofs.Streams.{length-beats, length-beat-bytes}
use Rattle.machine.specs.declared.Machine.{Machine}
use Rattle.machine.specs.declared.Ran.{Ran}
use Rattle.machine.specs.declared.StepAnswer.{StepAnswer}
use Rattle.machine.specs.Saved.{keeps}
use Rattle.machine.specs.Step.{World, Answer, taken, stopped, step}
use Rattle.machine.specs.Run.{one_more_of, run_on, run, Lent, Returned, Served, serves, refused, even, served_if, served_of, world_of, returned}
use Rattle.machine.specs.Run.{stepped_as, world_after, step_answer, ran_as, run_answer, served_number, Stepped, HasRun}
use Rattle.machine.specs.Helpers.Resume.{RunsIf, ready_of, Ready, stepped_in}
use Rattle.machine.specs.Theorems.{ResumedRuns}
use Rattle.machine.proofs.Readiness.{keeps-tested}

-- ---- what is lent

serves_by : (a b l c : Bool) (why : Refusal)
    → cond a (cond b (cond l (cond c serves (refused OtherWindow)) (refused BadLedger)) (refused OddStream)) (refused why) ≡ serves
    → (a ≡ true) × (c ≡ true) × (l ≡ true)
serves_by true true true true why e = (refl, refl, refl)
serves_by true true true false why e = absurd (let z : ◌≡◌ {A = ℕ} 0 1 = cc in omega arith)
serves_by true true false c why e = absurd (let z : ◌≡◌ {A = ℕ} 0 1 = cc in omega arith)
serves_by true false l c why e = absurd (let z : ◌≡◌ {A = ℕ} 0 1 = cc in omega arith)
serves_by false b l c why e = absurd (let z : ◌≡◌ {A = ℕ} 0 1 = cc in omega arith)

-- what serves is a good machine and its window
pub serves-good : (good : Bool) (m : Machine) (l : Lent) → served_if good m l ≡ serves
    → (good ≡ true) × (length l.window ≡ m.core.window.length) × (l.used ≤ length l.ledger / 12)
serves-good good m l e =
    let all = serves_by good (even l.beats && even l.out) (is_ledger (length l.ledger) l.used) (eqb (length l.window) m.core.window.length) _ e in
    (all.0, eqb-true _ _ all.1, leb-true _ _ (and_right (eqb (length l.ledger % 12) 0) _ all.2))

-- a good machine that is served is ready, if the good ones are
pub good-ready : (good : Bool) (m : Machine) (l : Lent) → (good ≡ true → Ready m.core m.core.window.length)
    → served_if good m l ≡ serves → Ready m.core (length l.window)
good-ready good m l h e =
    let s = serves-good good m l e in
    subst⁻¹ (λ (n : ℕ). Ready m.core n) s.1 (h s.0)

-- a run that is done was served, and tells what the run led to
pub ran-serves : (given : Lent) (served : Served) (w : World) (budget : ℕ) (r : Ran) → Ok r ≡ run_answer given served w budget
    → (served ≡ serves) × (r ≡ ran_as given.used w (run budget w))
ran-serves given serves w budget r e = (refl, cc)
ran-serves given (refused why) w budget r e = absurd (let z : ◌≡◌ {A = ℕ} 0 1 = cc in omega arith)

-- ---- where it stands

-- the beats taken are those before the next
pub took-since : (beats : List ℕ) (took : ℕ) → took ≤ length beats / 2 → length (beats_in beats) - length (drop took (beats_in beats)) ≡ took
took-since beats took h = simp (length-drop, length-beats) (omega arith)

-- the lent output: the beats made, and what stood past them
pub over : (out new : List ℕ) → put out 0 (beat_bytes new) ≡ beat_bytes new ++ drop (2 * length new) out
over out new = rw (zero-add, length-beat-bytes)

-- ---- a step, which is a run of one

abbrev pub as_step : Result Ran Refusal → Result StepAnswer Refusal
as_step (Ok r) = Ok (stepped_in r)
as_step (Err why) = Err why

ends_there : (v : World) (a : Answer) → (run_on 0 v a).world ≡ v
ends_there v (stopped r) = refl
ends_there v (taken u) = refl

one-after : (w : World) (a : Answer) → (run_on 1 w a).world ≡ world_after w a
one-after w (stopped r) = refl
one-after w (taken v) = ends_there v (step v)

module _ (used : ℕ) (w : World) where
  taken-one : (v : World) (a : Answer) → stepped_in (ran_as used w (one_more_of (run_on 0 v a))) ≡ stepped_as used w (taken v)
  taken-one v (stopped r) = refl
  taken-one v (taken u) = refl

  says-one : (a : Answer) → stepped_in (ran_as used w (run_on 1 w a)) ≡ stepped_as used w a
  says-one (stopped r) = refl
  says-one (taken v) = taken-one v (step v)

module _ (l : Lent) (w : World) where
  answers_one : (s : Served) → as_step (run_answer l s w 1) ≡ step_answer l s w
  unfolding run
  answers_one serves = ap Ok (says-one l.used w (step w))
  answers_one (refused why) = refl

  numbers-one : (s : Served) → answer_number (step_answer l s w) ≡ served_number s
  numbers-one serves = refl
  numbers-one (refused why) = refl

pub run-of-one : {m : Machine} {l : Lent} {a c : Result Ran Refusal} {r : Result StepAnswer Refusal} {b : Returned} → HasRun m l 1 a b → a ≡ c → r ≡ as_step c
    → Stepped m l r b
unfolding run
run-of-one {m} {l} h e told =
    let w = world_of m l in
    let answer = told ∙ ap as_step (sym e ∙ h.answer) ∙ answers_one l w (served_of m l) in
    record {
      answer = answer;
      number = ap (answer_number {A = StepAnswer}) answer ∙ numbers-one l w (served_of m l);
      back = h.back ∙ ap (λ (v : World). returned l (served_of m l) v) (one-after w (step w));
    }

-- ---- a run by another test for the same good machines

pub runs_as : (good good' : Bool) → good ≡ good' → {m : Machine} {l : Lent} {budget : ℕ} {r : Result Ran Refusal} {b : Returned}
    → RunsIf good m l budget r b → RunsIf good' m l budget r b
runs_as good good' e {m} {l} {budget} {r} {b} h = subst (λ (t : Bool). RunsIf t m l budget r b) e h

-- one that keeps the rules is resumed as it is run
pub resumed-runs : ResumedRuns
unfolding served_of
resumed-runs m l budget r b k h = runs_as (ready_of m) (keeps m) (keeps-tested m k ∙ sym k) h
