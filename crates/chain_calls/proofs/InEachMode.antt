-- The chain theorem of the C calls, in each mode, from that of the methods.
-- Assumes nothing.
use Rattle.bus.specs.Refusal.{answer_number}
use Rattle.std.specs.Prelude.{Result, Ok}
use Prim.Native.Nat.{ℕ, ◌+◌, ◌≤◌, ◌<◌}
use mathlib.Core.Path.{◌≡◌, refl, sym, ap, subst, ◌∙◌}
use mathlib.Core.List.{List, [], ◌∷◌}
use lib.ListN.{length, take}
use Rattle.words.specs.declared.Order.TheVariants.{MostFirst}
use Rattle.words.specs.Orders.{row_bytes}
use Rattle.regs.specs.declared.Mode.{Mode}
use Rattle.regs.specs.declared.Mode.TheVariants.{MemoryToMemory, MemoryToStream}
use Rattle.image.proofs.RoundTrip.{length-image}
use Rattle.machine.specs.declared.Machine.{Machine}
use Rattle.machine.specs.declared.Ran.{Ran}
use Rattle.bus.specs.declared.Refusal.{Refusal}
use Rattle.machine.specs.Saved.{fields_of, tail_of, load_of}
use Rattle.machine.specs.Step.{World}
use Rattle.machine.specs.Run.{Served, run, reason_number, served_of, ran_as, run_answer, HasRun}
use Rattle.machine.proofs.Answers.{was-written}
use Rattle.met.specs.Met as met
use Rattle.chain.specs.Chain.{Given, started_in, world_in, Share, cost, given}
use Rattle.chain.specs.Modes.{shares_in, made_by_all, PremisesIn, OutcomeOf}
use Rattle.chain.specs.Calls.{in_front, FinishedIn}
use Rattle.chain.specs.Calls as methods
use Rattle.chain.proofs.Theorem.{in-each-mode-at-every-step}
use Rattle.chain.proofs.Users.{copied-as-held, beats-made, only-marks}
use Rattle.chain.proofs.OfRun.{served, ends_as, finishes, few-done}
use Rattle.answers.specs.Answers.{report_widths, report_bytes}
use Rattle.sgdma.specs.Calls.{image_of, run_call, ran_over, report_over}
use Rattle.chain_calls.specs.InC.{RunLeft, Promised, Lends, WellLent, given_in, run_lent, FoundIn, FoundAtEveryStepIn}
use Rattle.chain_calls.specs.Theorems.{NoneRefusedInEachMode, OfCallsInEachMode, OfCallsInEachModeAtEveryStep, CopiesWhatWasHeldInC, SendsTheseBeatsInC}
use Rattle.chain_calls.proofs.OfCalls.{are-all-bytes, loads-as, runs_as, has-run, m0, m1, m2, pointed-as, started-as, met2, creates, x2-is, x3-is, run_is}

-- ---- the run, over the image of the machine that was started

module _ {mode : Mode} {l : Lends} {left : RunLeft} (k : ℕ) (w : WellLent l) (h : PremisesIn mode (given_in l k))
    (p : Promised (run_lent l (image_of (started_in mode (given_in l k)))) left) where
  abbrev g : Given
  g = given_in l k

  -- the machine, and the world of its run
  abbrev m : Machine
  m = started_in mode g

  abbrev world : World
  world = world_in mode g

  loaded : load_of (image_of m) ≡ Ok m
  loaded = loads-as (met2 mode w)

  abbrev answer : Result Ran Refusal
  answer = run_answer l.lent (served_of m l.lent) world l.budget

  -- the same by the methods
  abbrev by-methods : methods.CalledIn mode l.window l.pointer l.control l.lent l.budget answer left.back
  by-methods =
      record {
        m0 = m0 mode w;
        m1 = m1 mode w;
        m2 = m2 mode w;
        made = record { value = refl };
        pointed = was-written (sym (pointed-as mode w));
        started = was-written (sym (started-as mode w));
        even_beats = w.even_beats;
        even_out = w.even_out;
        is_ledger = w.is_ledger;
        ran = has-run (run_lent l (image_of m)) (length-image (fields_of m.core) (tail_of m)) w.report_size loaded left p;
      }

  abbrev ran : Ran
  ran = ran_as l.lent.used world (run l.budget world)

  -- whatever the budget it is not refused
  done : answer ≡ Ok ran
  done = ap (λ (x : Served). run_answer l.lent x world l.budget) (served k by-methods h)

  called : run_call (image_of m) l.lent l.budget l.report ≡ Ok ran
  called = runs_as (run_lent l (image_of m)) (length-image (fields_of m.core) (tail_of m)) w.report_size loaded ∙ done

  pub run-not-refused : left.number ≡ 0
  run-not-refused = p.number ∙ ap answer_number called

  -- what it leaves is what the step rule makes of the machine and the window, and the report tells of it
  pub run-memory : left.back.window ≡ (run l.budget world).world.memory
  run-memory = ends_as k by-methods h

  pub run-image : left.image ≡ image_of ran.machine
  run-image = p.image_after ∙ ap (λ (a : Result Ran Refusal). ran_over a (image_of m)) called

  run-report : left.report
      ≡ report_bytes (reason_number ran.reason) ran.steps ran.taken ran.made ran.used
  run-report = p.report_after ∙ ap (λ (a : Result Ran Refusal). report_over a l.report) called

  run-loads : load_of left.image ≡ Ok ran.machine
  run-loads =
      let r = by-methods.ran in
      let made : HasRun m l.lent l.budget (Ok ran) left.back =
      record { answer = sym done; number = ap answer_number (sym done) ∙ r.number; back = r.back } in
      ap load_of run-image ∙ loads-as (met.ran (met2 mode w) (are-all-bytes l.lent.window h.bytes) w.beat_bytes made)

  pub run-finds : 2 + cost (shares_in mode g) ≤ l.budget → FoundIn mode g l left
  run-finds b =
      let ss : List Share = shares_in mode g in
      let f : FinishedIn mode g l.lent answer left.back = finishes k by-methods h b in
      let same : Ok f.told ≡ Ok ran = sym f.answer ∙ done in
      let o : OutcomeOf g ss ran left.back.window = subst (λ (r : Ran). OutcomeOf g ss r left.back.window) (cc) f.outcome in
      let reason : reason_number ran.reason ≡ 1 = ap reason_number o.reason in
      let row : ◌≡◌ {A = List ℕ} (reason_number ran.reason ∷ ran.steps ∷ ran.taken ∷ ran.made ∷ ran.used ∷ []) (1 ∷ (2 + cost ss) ∷ given ss ∷ length (made_by_all ss) ∷ (g.used + g.k) ∷ []) =
      cc (o.steps, o.taken, o.made, o.used) in
      record {
        told = ran;
        is_run = refl;
        outcome = o;
        report = run-report ∙ ap (row_bytes MostFirst report_widths) row;
        image = run-image;
        loads = run-loads;
        output = f.output;
        ledger = f.ledger_after;
      }

  pub run-finds-at-every-step : FoundAtEveryStepIn mode g l left
  run-finds-at-every-step =
      record { first_few = few-done k by-methods h; image = run-image; loads = run-loads; spent = spent }
    where
      spent : l.budget < 2 + cost (shares_in mode g) → take 6 left.report ≡ row_bytes MostFirst (take 2 report_widths) (6 ∷ l.budget ∷ [])
      spent b =
          let s = (in-each-mode-at-every-step mode g h).spent l.budget b in
          let reason : reason_number ran.reason ≡ 6 = ap reason_number s.1 in
          let row : ◌≡◌ {A = List ℕ} (reason_number ran.reason ∷ ran.steps ∷ []) (6 ∷ l.budget ∷ []) = cc s.0 in
          ap (take 6) run-report ∙ ap (row_bytes MostFirst (take 2 report_widths)) row

-- ---- the calls

-- No call is refused.
pub none-refused-in-each-mode : NoneRefusedInEachMode
none-refused-in-each-mode mode l created pointed started left k c w h =
    record {
      create = c.create.number ∙ creates mode w c;
      point = (x2-is mode w c).0;
      start = (x3-is mode w c).0;
      run = run-not-refused k w h (run_is mode w c);
    }

-- With budget enough the window, the report, the image, the output and the ledger are left so.
pub of-calls-in-each-mode : OfCallsInEachMode
of-calls-in-each-mode mode l created pointed started left k c w h b = run-finds k w h (run_is mode w c) b

-- With any budget those marked done are the first few.
pub of-calls-in-each-mode-at-every-step : OfCallsInEachModeAtEveryStep
of-calls-in-each-mode-at-every-step mode l created pointed started left k c w h = run-finds-at-every-step k w h (run_is mode w c)

-- ---- what a user reads

pub copies-what-was-held-in-c : CopiesWhatWasHeldInC
copies-what-was-held-in-c l created pointed started left k c w h separate b =
    copied-as-held (given_in l k) h separate left.back.window
    (of-calls-in-each-mode MemoryToMemory l created pointed started left k c w h b).outcome.landed

pub sends-these-beats-in-c : SendsTheseBeatsInC
sends-these-beats-in-c l created pointed started left k c w h b =
    let f = of-calls-in-each-mode MemoryToStream l created pointed started left k c w h b in
    record {
      beats = f.output ∙ ap (λ (bs : List ℕ). in_front bs l.lent.out) (beats-made (given_in l k));
      frame = only-marks (given_in l k) left.back.window f.outcome.frame;
    }
