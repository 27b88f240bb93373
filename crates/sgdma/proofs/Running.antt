-- The run over an image.
-- Assumes nothing.
use Rattle.std.specs.Prelude.{Result, Ok, Err}
use Prim.Native.Nat.{ℕ, ◌≤◌, ◌<◌}
use mathlib.Core.Path.{◌≡◌, refl, sym, ap, subst, ◌∙◌}
use mathlib.Core.Bool.{true, cond, ◌&&◌}
use mathlib.Core.List.{List, [], ◌++◌}
use native.Mathlib.Omega.{arith}
use lib.ListN.{length}
use Rattle.words.specs.Slices.{AllBytes}
use Rattle.bus.specs.declared.Refusal.{Refusal}
use Rattle.bus.specs.declared.Refusal.TheVariants.{BadSize}
use Rattle.bus.specs.Refusal.{refusal_number, answer_number}
use Rattle.image.specs.Promise.{sized}
use Rattle.machine.specs.declared.Machine.{Machine}
use Rattle.machine.specs.declared.Ran.{Ran}
use Rattle.machine.specs.Saved.{keeps, load_of}
use Rattle.machine.specs.Step.{World, machine_in}
use Rattle.machine.specs.Run.{run, Lent, Returned, as_lent, Served, serves, refused, served_if, world_of, ran_as, run_answer, HasRun}
use Rattle.machine.specs.Helpers.Resume.{ready_of, Resumed}
use Rattle.machine.proofs.Answers.{was-loaded}
use Rattle.machine.proofs.StepLaws.{took-since}
use Rattle.machine.proofs.RunLaws.{run-tells, run-nowhere}
use Rattle.machine.proofs.Outcomes.{resumed-runs}
use Rattle.met.specs.Met as met
use Rattle.met.proofs.InUse.{met-keeps, opened-same}
use Rattle.met.proofs.RoundTrip.{loaded-typed, loads-exactly}
use Rattle.sgdma.specs.Calls.{image_of, is_size, run_in, run_call, ran_over, report_over, returned_in, RunMade}
use Rattle.sgdma.proofs.Opened.{first-wrong, second-wrong, sizes-right, keeps-loaded}

-- ---- what a run's answer is known to be

-- no more beats are taken or made than steps, and no more steps than the budget
counts : (used budget : ℕ) (w : World) → w.output ≡ [] → ((ran_as used w (run budget w)).taken ≤ budget) × ((ran_as used w (run budget w)).made ≤ budget)
counts used budget w e =
    let t = run-tells budget w in
    let p = t.passed in
    let made : length (run budget w).world.output ≡ length p.made = ap length p.output ∙ ap (λ (o : List ℕ). length (o ++ p.made)) e in
    (omega (arith, took-since p, t.within, p.moved), omega (arith, t.within, p.moved))

done-is : (l : Lent) (served : Served) (w : World) (budget : ℕ) (r : Ran) → Ok r ≡ run_answer l served w budget
    → r ≡ ran_as l.used w (run budget w)
done-is l serves w budget r e = cc
done-is l (refused why) w budget r e = absurd (let z : ◌≡◌ {A = ℕ} 0 1 = cc in omega arith)

module _ {m : Machine} {l : Lent} {b : Returned} {budget : ℕ} {a : Result Ran Refusal} {r : Ran} (h : Resumed m l budget a b) (e : a ≡ Ok r) where
  pub ran-fits : budget < 4294967296 → (r.taken < 4294967296) × (r.made < 4294967296)
  ran-fits k =
      let w = world_of m l in
      let is : r ≡ ran_as l.used w (run budget w) = done-is l (served_if (ready_of m) m l) w budget r (sym e ∙ h.answer) in
      let c = counts l.used budget w refl in
      let taken : r.taken ≡ (ran_as l.used w (run budget w)).taken = ap (λ (x : Ran). x.taken) is in
      let made : r.made ≡ (ran_as l.used w (run budget w)).made = ap (λ (x : Ran). x.made) is in
      (omega (arith, c.0), omega (arith, c.1))

  pub ran-keeps : (xs : List ℕ) → load_of xs ≡ Ok m → AllBytes l.window → AllBytes l.beats → keeps r.machine ≡ true
  ran-keeps xs d g i =
      let done : HasRun m l budget (Ok r) b =
      subst (λ (x : Result Ran Refusal). HasRun m l budget x b) e (resumed-runs m l budget a b (keeps-loaded xs d) h) in
      met-keeps r.machine (met.ran (met.loaded (was-loaded (sym d))) g i done)

  -- one of no step leaves the machine whose image it is
  pub ran-nowhere : (xs : List ℕ) → load_of xs ≡ Ok m → AllBytes xs → r.steps ≡ 0 → xs ≡ image_of r.machine
  ran-nowhere xs d g none =
      let w = world_of m l in
      let is : r ≡ ran_as l.used w (run budget w) = done-is l (served_if (ready_of m) m l) w budget r (sym e ∙ h.answer) in
      let still : (run budget w).world ≡ w = run-nowhere budget w (sym (ap (λ (x : Ran). x.steps) is) ∙ none) in
      let same : r.machine ≡ m = ap (λ (x : Ran). x.machine) is ∙ ap machine_in still ∙ opened-same m (keeps-loaded xs d) (loaded-typed (was-loaded (sym d))) in
      let loaded = was-loaded (sym d) in
      ((loads-exactly xs m g (loaded-typed loaded)).0 loaded).1 ∙ ap image_of (sym same)

-- ---- sgdma_run

module _ {xs report xs' report' : List ℕ} {l : Lent} {b : Returned} {budget r : ℕ} where
  -- the record, from the call's answer and what comes back
  made : {d : Returned} (a : Result Ran Refusal) → run_call xs l budget report ≡ a
      → cond (sized xs && is_size 18 report) (returned_in (load_of xs) l budget) (as_lent l) ≡ d
      → r ≡ answer_number a → xs' ≡ ran_over a xs → b ≡ d → report' ≡ report_over a report
      → RunMade xs l budget report r xs' b report'
  made a e f p x o q =
      record {
        number = p ∙ sym (ap answer_number e);
        image_after = x ∙ sym (ap (λ (b : Result Ran Refusal). ran_over b xs) e);
        back = o ∙ sym f;
        report_after = q ∙ sym (ap (λ (b : Result Ran Refusal). report_over b report) e);
      }

  pub run_short : (length xs ≡ 85 → ⊥) → r ≡ 7 → xs' ≡ xs → b ≡ as_lent l → report' ≡ report → RunMade xs l budget report r xs' b report'
  unfolding run_call
  run_short h p x o q = made (Err BadSize) (first-wrong _ _ 18 xs report h) (first-wrong _ _ 18 xs report h) p x o q

  module _ (s : length xs ≡ 85) where
    pub report-short : (length report ≡ 18 → ⊥) → r ≡ 7 → xs' ≡ xs → b ≡ as_lent l → report' ≡ report → RunMade xs l budget report r xs' b report'
    unfolding run_call
    report-short h p x o q = made (Err BadSize) (second-wrong _ _ 18 xs report s h) (second-wrong _ _ 18 xs report s h) p x o q

    module _ (k : length report ≡ 18) where
      pub run-spoiled : {why : Refusal} → load_of xs ≡ Err why → r ≡ refusal_number why → xs' ≡ xs → b ≡ as_lent l → report' ≡ report
          → RunMade xs l budget report r xs' b report'
      unfolding run_call
      run-spoiled {why} e p x o q =
          made (Err why)
          (sizes-right _ _ 18 xs report s k ∙ ap (λ (m : Result Machine Refusal). run_in m l budget) e)
          (sizes-right _ _ 18 xs report s k ∙ ap (λ (m : Result Machine Refusal). returned_in m l budget) e) p x o q

      pub run-answers : {m : Machine} {a c : Result Ran Refusal} {d : Returned} → load_of xs ≡ Ok m → Resumed m l budget a d → a ≡ c
          → r ≡ answer_number c → xs' ≡ ran_over c xs → b ≡ d → report' ≡ report_over c report → RunMade xs l budget report r xs' b report'
      unfolding run_call
      run-answers {m} {a} {c} {d} e resumed f p x o q =
          let h : HasRun m l budget a d = resumed-runs m l budget a d (keeps-loaded xs e) resumed in
          made c
          (sizes-right _ _ 18 xs report s k ∙ ap (λ (n : Result Machine Refusal). run_in n l budget) e ∙ sym h.answer ∙ f)
          (sizes-right _ _ 18 xs report s k ∙ ap (λ (n : Result Machine Refusal). returned_in n l budget) e ∙ sym h.back) p x o q
