-- The chain theorem of the calls that a user makes, in each mode; and of demand 3.
-- Assumes nothing.
use Rattle.std.specs.Prelude.{Result, Ok, None}
use Prim.Native.Nat.{ℕ, ◌+◌, ◌%◌, ◌^◌, ◌≤◌, ◌<◌}
use mathlib.Core.Path.{◌≡◌, refl, sym, ap, subst, subst⁻¹, ◌∙◌}
use mathlib.Core.Bool.{Bool, true, false, cond, beq, and-false}
use mathlib.Core.List.{List}
use native.Mathlib.Omega.{arith}
use lib.ListN.{length}
use borrow.Author.Tests.{eq-eqb, eqb-true, le-leb, lt-ltb}
use Rattle.words.specs.Bits.{bit}
use Rattle.bus.specs.declared.Window.{Window}
use Rattle.bus.specs.Window.{keeps_limits}
use Rattle.descriptor.proofs.Looks.{zero-none}
use Rattle.regs.specs.declared.Mode.{Mode}
use Rattle.regs.specs.declared.Mode.TheVariants.{MemoryToMemory, MemoryToStream, StreamToMemory}
use Rattle.regs.specs.Modes.{mode_number}
use Rattle.ledger.specs.declared.Entry.{Entry}
use Rattle.ledger.specs.Records.{is_ledger}
use Rattle.image.specs.declared.Fields.{Fields}
use Rattle.image.specs.declared.Tail.{Tail}
use Rattle.image.specs.Rules.{mode_kept, phase_kept, fault_kept, status_kept, size_kept, errors_kept, asked, eop_kept, keeps_rules, lowest_broken}
use Rattle.image.proofs.EachRule.{each-rule, each_keeps}
use Rattle.regs.specs.Control.{run_from}
use Rattle.machine.specs.declared.Core.{Core}
use Rattle.bus.specs.declared.Refusal.{Refusal}
use Rattle.machine.specs.declared.Ran.{Ran}
use Rattle.machine.specs.declared.Machine.{Machine}
use Rattle.machine.specs.State.{with_pointer, with_control, fresh_core, machine_with, fresh}
use Rattle.machine.specs.Saved.{fields_of, tail_of, keeps}
use Rattle.machine.specs.Registers.{control_stored, written_to, write_of, WasWritten}
use Rattle.machine.specs.Run.{run, even, Lent, Returned, Served, serves, served_of, world_of, returned, ran_as, run_answer}
use Rattle.machine.proofs.Writes.{write-runs, was-done}
use Rattle.chain.specs.Chain.{Given, started_in, world_in, Share, cost, records_of, FirstFew}
use Rattle.chain.specs.Modes.{shares_in, PremisesIn, OutcomeOf, EndsIn}
use Rattle.chain.specs.Calls.{given_by, in_front, behind, CalledIn, FinishedIn}
use Rattle.chain.specs.Theorems.{OfRunInEachMode, OfRunInEachModeAtEveryStep, ChainOfRun, ChainOfRunAtEveryStep}
use Rattle.chain.proofs.Theorem.{in-each-mode, in-each-mode-at-every-step}
use Rattle.chain.proofs.Demand.{same-shares, no-beats, premises, in-its-words, same-cost}

limits-kept : (f : Fields) (t : Tail) → keeps_rules f t ≡ true → keeps_limits f.base f.window ≡ true
unfolding keeps_rules
limits-kept f t e = (each-rule f t (eqb-true (lowest_broken f t) 0 e)).window

cond_same : (b : Bool) → cond {A = ℕ} b 0 0 ≡ 0
cond_same true = refl
cond_same false = refl

same-same : (b : Bool) → beq b b ≡ true
same-same true = refl
same-same false = refl

-- what holds of each mode's number
by_mode : (rule : ℕ → Bool) → rule 0 ≡ true → rule 1 ≡ true → rule 2 ≡ true → (mode : Mode) → rule (mode_number mode) ≡ true
by_mode rule a b c MemoryToMemory = a
by_mode rule a b c MemoryToStream = b
by_mode rule a b c StreamToMemory = c

-- a machine at rest, with nothing in its status, keeps the rules
module _ (mode : Mode) (window : Window) (h : keeps_limits window.base window.length ≡ true) where
  rest-keeps : (pointer control : ℕ) (pending : Bool) (count number : ℕ) → control < 2 ^ 18 → count ≤ 254
      → keeps (machine_with (with_control control pending count (with_pointer pointer (fresh_core mode window))) None number) ≡ true
  unfolding keeps_rules
  rest-keeps pointer control pending count number l n =
      eq-eqb _ 0
      (each_keeps (fields_of (with_control control pending count (with_pointer pointer (fresh_core mode window))))
      (tail_of (machine_with (with_control control pending count (with_pointer pointer (fresh_core mode window))) None number))
      (record {
        edition = refl;
        mode = by_mode mode_kept refl refl refl mode;
        phase = by_mode (λ n. phase_kept n 0) refl refl refl mode;
        fault = by_mode (λ n. fault_kept n 0 0) refl refl refl mode;
        status = by_mode (λ n. status_kept n 0 0) refl refl refl mode;
        count = le-leb count 254 n;
        control = rw (lt-ltb control (2 ^ 18) l, same-same (bit 16 control));
        window = h;
        address = refl;
        source = refl;
        destination = refl;
        size = by_mode (λ n. size_kept n false 0) refl refl refl mode;
        dcontrol = refl;
        errors = by_mode (λ n. errors_kept n false 0) refl refl refl mode;
        moved = refl;
        eop = by_mode (λ n. eop_kept n 0 (asked n 0) 0 false) refl refl refl mode;
        zero15 = refl;
        faultat = refl;
        kind = refl;
        zero6 = refl;
        at = refl;
        raw = zero-none;
      }))

  -- of a fresh machine of a window within its limits neither write is refused
  pub pointer-done : {r : Result Machine Refusal} (pointer : ℕ) → WasWritten (fresh mode window) 8 pointer r
      → r ≡ Ok (written_to (fresh mode window) 8 pointer)
  unfolding write_of
  pointer-done pointer p = p.answer ∙ rw (rest-keeps 0 0 false 0 0 (omega arith) (omega arith))

  pub control-done : {r : Result Machine Refusal} (pointer control : ℕ) → WasWritten (written_to (fresh mode window) 8 pointer) 4 control r
      → r ≡ Ok (written_to (written_to (fresh mode window) 8 pointer) 4 control)
  unfolding write_of
  control-done pointer control p = p.answer ∙ rw (rest-keeps pointer 0 false 0 0 (omega arith) (omega arith))

-- what is lent serves it
serve : (m : Machine) (l : Lent) → keeps m ≡ true → even l.beats ≡ true → even l.out ≡ true
    → is_ledger (length l.ledger) l.used ≡ true → length l.window ≡ m.core.window.length → served_of m l ≡ serves
unfolding served_of
serve m l k e f d n = rw (k, e, f, d, eq-eqb (length l.window) m.core.window.length n)

module _ {mode : Mode} {window : Window} {pointer control : ℕ} {l : Lent} {budget : ℕ} {r : Result Ran Refusal} {b : Returned} (k : ℕ)
    (c : CalledIn mode window pointer control l budget r b) (h : PremisesIn mode (given_by window pointer control k l)) where
  abbrev g : Given
  g = given_by window pointer control k l

  m1-is : c.m1 ≡ written_to (fresh mode window) 8 pointer
  m1-is = (was-done c.m0 c.m1 8 pointer refl c.pointed.answer).1 ∙ ap (λ (m : Machine). written_to m 8 pointer) c.made.value

  m2-is : c.m2 ≡ started_in mode g
  m2-is = (was-done c.m1 c.m2 4 control refl c.started.answer).1 ∙ ap (λ (m : Machine). written_to m 4 control) m1-is

  pub limits : keeps_limits window.base window.length ≡ true
  limits =
      limits-kept (fields_of (fresh_core mode window)) (tail_of (fresh mode window))
      (subst (λ (m : Machine). keeps m ≡ true) c.made.value (was-done c.m0 c.m1 8 pointer refl c.pointed.answer).0)

  m2-stored : c.m2 ≡ machine_with (control_stored control (with_pointer pointer (fresh_core mode window))) None (run_from control (record { 0 = 0 }) 0)
  m2-stored =
      m2-is
      ∙ ap (λ (x : Core). machine_with x None (run_from control (record { 0 = 0 }) 0))
      (write-runs control (with_pointer pointer (fresh_core mode window)) (and-false (bit 16 control)) h.run_set)

  pub served : served_of c.m2 l ≡ serves
  served =
      serve c.m2 l (subst⁻¹ (λ (m : Machine). keeps m ≡ true) m2-stored
      (rest-keeps mode window limits pointer (control % 2 ^ 18) _ _ (run_from control (record { 0 = 0 }) 0) (omega arith) (let z = cond_same (bit 5 control) in omega arith)))
      c.even_beats c.even_out c.is_ledger (h.lent ∙ sym (ap (λ (m : Machine). m.core.window.length) m2-stored))

  -- what comes back is what the run leaves
  back_is : b ≡ returned l serves (run budget (world_in mode g)).world
  back_is =
      c.ran.back ∙ ap (λ (s : Served). returned l s (run budget (world_of c.m2 l)).world) served
      ∙ ap (λ (m : Machine). returned l serves (run budget (world_of m l)).world) m2-is

  pub ends_as : b.window ≡ (run budget (world_in mode g)).world.memory
  ends_as = ap (λ (x : Returned). x.window) back_is

  -- With budget enough the run is done, and this is its outcome.
  pub finishes : 2 + cost (shares_in mode g) ≤ budget → FinishedIn mode g l r b
  finishes n =
      let e : EndsIn mode g (run budget (world_in mode g)) = in-each-mode mode g h budget n in
      record {
        told = ran_as l.used (world_in mode g) (run budget (world_in mode g));
        answer = c.ran.answer ∙ ap (λ (s : Served). run_answer l s (world_of c.m2 l) budget) served
            ∙ ap (λ (m : Machine). run_answer l serves (world_of m l) budget) m2-is;
        outcome = subst⁻¹ (OutcomeOf g (shares_in mode g) (ran_as l.used (world_in mode g) (run budget (world_in mode g)))) ends_as e.outcome;
        output = ap (λ (x : Returned). x.out) back_is ∙ ap (λ (bs : List ℕ). in_front bs l.out) e.output;
        ledger_after = ap (λ (x : Returned). x.ledger) back_is ∙ ap (λ (rs : List Entry). behind rs l.ledger l.used) e.records;
      }

  -- With any budget those marked done are the first few.
  pub few-done : FirstFew window l.window (shares_in mode g) b.window
  few-done = subst⁻¹ (FirstFew window l.window (shares_in mode g)) ends_as ((in-each-mode-at-every-step mode g h).first_few budget)

-- The same, with everything named.
pub of-run-in-each-mode : OfRunInEachMode
of-run-in-each-mode mode window pointer control l budget r b k c h n = finishes k c h n

pub of-run-in-each-mode-at-every-step : OfRunInEachModeAtEveryStep
of-run-in-each-mode-at-every-step mode window pointer control l budget r b k c h = few-done k c h

-- ---- demand 3

pub chain-of-run : ChainOfRun
chain-of-run window pointer control l budget r b k c h n =
    let g : Given = given_by window pointer control k l in
    let f : FinishedIn StreamToMemory g l r b = finishes k c (premises g h) (same-cost g n) in
    record {
      told = f.told;
      answer = f.answer;
      outcome = in-its-words g f.told b.window f.outcome;
      output = f.output ∙ ap (λ (bs : List ℕ). in_front bs l.out) (no-beats g);
      ledger_after = f.ledger_after ∙ ap (λ (ss : List Share). behind (records_of 1 ss) l.ledger l.used) (same-shares g);
    }

pub chain-of-run-at-every-step : ChainOfRunAtEveryStep
chain-of-run-at-every-step window pointer control l budget r b k c h =
    let g : Given = given_by window pointer control k l in
    subst (λ (ss : List Share). FirstFew window l.window ss b.window) (same-shares g) (few-done k c (premises g h))
