-- A call of sgdma_run that gives back 0: what it was lent, what it leaves, and what its report tells.
-- Assumes nothing.
use Rattle.bus.specs.Refusal.{answer_number}
use Rattle.std.specs.Prelude.{Result, Ok, Err}
use Prim.Native.Nat.{ℕ, ◌+◌, ◌-◌, ◌/◌, ◌^◌, ◌<◌}
use mathlib.Core.Path.{◌≡◌, refl, sym, ap, subst, ◌∙◌}
use mathlib.Core.Bool.{Bool, true, false, cond, ◌&&◌}
use mathlib.Core.List.{List}
use native.Mathlib.Nat.{mod-eq_of_lt}
use native.Mathlib.Omega.{arith}
use lib.ListN.{length}
use borrow.Author.Tests.{eqb-true}
use Rattle.words.specs.declared.Order.TheVariants.{MostFirst}
use Rattle.words.specs.Orders.{bytes_of, number_of}
use Rattle.words.specs.Slices.{AllBytes}
use Rattle.words.proofs.Orders.{number-bytes}
use Rattle.bus.specs.declared.Refusal.TheVariants.{BadSize}
use Rattle.bus.proofs.Numbers.{refused-not-done}
use Rattle.image.specs.Promise.{sized}
use Rattle.ledger.specs.declared.Entry.{Entry}
use Rattle.ledger.specs.Records.{capacity}
use Rattle.ledger.proofs.Rows.{capacity-le}
use Rattle.machine.specs.declared.Machine.{Machine}
use Rattle.machine.specs.declared.Ran.{Ran}
use Rattle.bus.specs.declared.Refusal.{Refusal}
use Rattle.machine.specs.Saved.{load_of}
use Rattle.machine.specs.Step.{World, machine_in}
use Rattle.machine.specs.Run.{Report, run, reason_number, Served, serves, refused, served_of, world_of}
use Rattle.machine.specs.Run.{taken_since, returned, ran_as, run_answer, Runs}
use Rattle.machine.proofs.Answers.{was-loaded}
use Rattle.machine.proofs.StepLaws.{took-since}
use Rattle.machine.proofs.RunLaws.{run-tells}
use Rattle.met.specs.Met.{Met}
use Rattle.met.specs.Met as met
use Rattle.sgdma.specs.Calls.{image_of, is_size, run_in, run_call, ran_over, report_over}
use Rattle.chain_calls.specs.InC.{RunLent, RunLeft, Promised}
use Rattle.chain_calls.specs.Told.{reason_told, steps_told, taken_told, made_told, used_told}
use Rattle.chain_calls.proofs.OfCalls.{run_as, runs_as, has-run}

-- ---- what it was lent

-- whether it serves a machine, and the world that it opens then
abbrev pub served_by : RunLent → Machine → Served
served_by x m = served_of m x.lent

abbrev pub world_by : RunLent → Machine → World
world_by x m = world_of m x.lent

-- the sizes are right, the image loads, and what is lent serves
pub record Accepted (x : RunLent) : Type 0 where
  pub machine : Machine
  pub size : length x.image ≡ 85
  pub report_size : length x.report ≡ 18
  pub loads : load_of x.image ≡ Ok machine
  pub served : served_by x machine ≡ serves

module _ (x : RunLent) where
  by-lent : (m : Machine) → length x.image ≡ 85 → length x.report ≡ 18 → load_of x.image ≡ Ok m
      → (served : Served) → served_by x m ≡ served → answer_number (run_answer x.lent served (world_by x m) x.budget) ≡ 0 → Accepted x
  by-lent m s r e serves f n = record { machine = m; size = s; report_size = r; loads = e; served = f }
  by-lent m s r e (refused why) f n = absurd (refused-not-done why n)

  by_tests : (s r : Bool) → sized x.image ≡ s → is_size 18 x.report ≡ r → (l : Result Machine Refusal) → load_of x.image ≡ l
      → answer_number (cond (s && r) (run_in l x.lent x.budget) (Err BadSize)) ≡ 0 → Accepted x
  by_tests true true e f (Ok m) g n = by-lent m (eqb-true _ _ e) (eqb-true _ _ f) g _ refl n
  by_tests true true e f (Err why) g n = absurd (refused-not-done why n)
  by_tests true false e f l g n = absurd (omega arith)
  by_tests false r e f l g n = absurd (omega arith)

  pub was-accepted : (y : RunLeft) → Promised x y → y.number ≡ 0 → Accepted x
  unfolding run_call
  was-accepted y p n = by_tests _ _ refl refl _ refl (sym p.number ∙ n)

-- ---- what it leaves, and what its report tells

module _ {x : RunLent} (s : Accepted x) where
  -- the world that it opens, and the run made there
  abbrev pub world : World
  world = world_by x s.machine

  abbrev pub ran : Report
  ran = run x.budget world

  pub record LeftBy (y : RunLeft) : Type 0 where
    pub number : y.number ≡ 0
    pub image : y.image ≡ image_of (machine_in ran.world)
    pub back : y.back ≡ returned x.lent serves ran.world
    pub reason : reason_told y.report ≡ number_of MostFirst (bytes_of MostFirst 2 (reason_number ran.reason))
    pub steps : steps_told y.report ≡ ran.steps
    pub taken : taken_told y.report ≡ taken_since world ran.world
    pub made : made_told y.report ≡ length ran.world.output
    pub used : used_told y.report ≡ x.lent.used + length ran.world.records

  -- what is left of the room, and of the ledger's
  pub room-left : ran.world.room + length ran.world.output ≡ length x.lent.out / 2
  room-left =
      let passed = (run-tells x.budget world).passed in
      ap (λ (beats : List ℕ). ran.world.room + length beats) passed.output ∙ passed.room

  pub records-left : ran.world.left + length ran.world.records ≡ capacity (length x.lent.ledger) - x.lent.used
  records-left =
      let passed = (run-tells x.budget world).passed in
      ap (λ (records : List Entry). ran.world.left + length records) passed.records ∙ passed.left

  -- so the number of records used stays one of 32 bits
  pub used-bits : x.lent.used < 2 ^ 32 → x.lent.used + length ran.world.records < 2 ^ 32
  used-bits u = omega (arith, records-left, (capacity-le (length x.lent.ledger)).1)

  abbrev pub told : Ran
  told = ran_as x.lent.used world ran

  done : run_as x s.size s.report_size s.loads ≡ Ok told
  done = ap (λ (s : Served). run_answer x.lent s world x.budget) s.served

  module _ (y : RunLeft) (p : Promised x y) where
    -- by the machine's method
    abbrev pub Makes : Served → Result Ran Refusal → Type 0
    Makes served a = Runs served s.machine x.lent x.budget a y.back

    pub makes : Makes (served_by x s.machine) (Ok told)
    makes = subst (Makes (served_by x s.machine)) done (has-run x s.size s.report_size s.loads y p)

    -- the machine after it is met in use
    pub met-after : AllBytes x.lent.window → AllBytes x.lent.beats → Met (machine_in ran.world)
    met-after g b = met.ran (met.loaded (was-loaded (sym s.loads))) g b makes

    pub left_by : x.lent.used < 2 ^ 32 → x.budget < 2 ^ 32 → LeftBy y
    left_by u b =
        let call = runs_as x s.size s.report_size s.loads ∙ done in
        let ran-so = subst (λ (a : Served). Makes a (Ok told)) s.served makes in
        let report : y.report ≡ report_over (Ok told) x.report = p.report_after ∙ ap (λ (a : Result Ran Refusal). report_over a x.report) call in
        let tells = run-tells x.budget world in
        let passed = tells.passed in
        let output : length ran.world.output ≡ length passed.made = ap length passed.output in
        let steps-lt : ran.steps < 4294967296 = omega (arith, tells.within) in
        let taken-lt : taken_since world ran.world < 4294967296 = omega (arith, took-since passed, passed.moved) in
        let made-lt : length ran.world.output < 4294967296 = omega (arith, passed.moved) in
        record {
          number = p.number ∙ ap answer_number call;
          image = p.image_after ∙ ap (λ (a : Result Ran Refusal). ran_over a x.image) call;
          back = ran-so.back;
          reason = ap reason_told report;
          steps = ap steps_told report ∙ number-bytes MostFirst 4 ran.steps ∙ mod-eq_of_lt steps-lt;
          taken = ap taken_told report ∙ number-bytes MostFirst 4 (taken_since world ran.world) ∙ mod-eq_of_lt taken-lt;
          made = ap made_told report ∙ number-bytes MostFirst 4 (length ran.world.output) ∙ mod-eq_of_lt made-lt;
          used = ap used_told report ∙ number-bytes MostFirst 4 (x.lent.used + length ran.world.records) ∙ mod-eq_of_lt (used-bits u);
        }
