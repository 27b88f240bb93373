use Rattle.machine.proofs.Standing.{here, stands-first, stands-halted, run-served, run-refused}
use Rattle.machine.proofs.Outcomes.{serves-good, good-ready}
use Rattle.machine.specs.Helpers.Worlds.{served_as}
use Rattle.machine.specs.Helpers.Resume.{Ready, Seated, RunsIf}
use Rattle.std.specs.Prelude.{Ok}
use lib.Dec.{eqb}
use mathlib.Core.List.{List}
use borrow.Author.Rules.{rules}
use Rattle.machine.specs.Step.{step}
use Rattle.machine.specs.Helpers.Worlds.{midway}
use Rattle.machine.specs.Helpers.Waiting.{wait_of, halt_of}
use Rattle.machine.specs.Run.{lent, back, served_if, serves, Runs}
use Prim.Native.Nat.{ℕ, ◌/◌, ◌≤◌}
use mathlib.Core.Path.{◌≡◌, refl, sym, ap, subst, subst⁻¹, ◌∙◌}
use lib.ListN.{length}
use Rattle.bus.proofs.Passed.{handed-on}
use Rattle.machine.proofs.Machine.run_if.Goals as goal
use Rattle.machine.proofs.Machine.run_if.Goals.{In_ok-served}

-- what is lent serves the machine
serving : (c : In_ok-served) → served_if c.args.good c.args.self (lent c.args.loan.now.window.now c.args.loan.now.beats.now c.args.loan.now.out.now c.args.loan.now.ledger.now c.args.loan.now.used) ≡ serves
serving c = sym c.served.ensures ∙ ap served_as c.in_ok-served.was

-- so it has what a run needs
fit : (c : In_ok-served) →
    let a = c.args in
    Ready a.self.core (length a.loan.now.window.now) × (Seated a.self.core a.self.slot × (a.loan.now.used ≤ length a.loan.now.ledger.now / 12))
fit c =
    let served = serves-good c.args.good c.args.self (lent c.args.loan.now.window.now c.args.loan.now.beats.now c.args.loan.now.out.now c.args.loan.now.ledger.now c.args.loan.now.used) (serving c) in
    (good-ready c.args.good c.args.self (lent c.args.loan.now.window.now c.args.loan.now.beats.now c.args.loan.now.out.now c.args.loan.now.ledger.now c.args.loan.now.used) c.requires.ready (serving c), (c.requires.seated served.0, served.2))

pub returns-in_err-served-clause-runs : goal.returns-in_err-served-clause-runs
returns-in_err-served-clause-runs c = rw (handed-on _ c.from_residual.ensures.1) (run-refused (sym c.served.ensures ∙ ap served_as c.in_err-served.was))

pub run_on-requires : goal.run_on-requires
run_on-requires c = let r = fit (goal.at.run_on-requires c).In_ok-served in record { ready = r.0; seated = r.1.0; used_in_bounds = r.1.1 }

pub returns-in-Some-clause-runs : goal.returns-in-Some-clause-runs
returns-in-Some-clause-runs c = let has = fit (goal.at.returns-in-Some-clause-runs c).In_ok-served in
    let a = c.args in
    let given = lent a.loan.now.window.now a.loan.now.beats.now a.loan.now.out.now a.loan.now.ledger.now a.loan.now.used in
    let first = stands-first a.self given a.budget has.0 has.1.0 has.1.1 in
    let w = here _ _ _ _ _ _ _ _ _ _ first in
    let n = c.new.result in
    let new = c.new.ensures in
    let halts : halt_of (eqb a.budget 0) (wait_of (step (midway w a.self.core a.loan.now.window.now n.beats.now n.taken n.out.now n.made)))
    ≡ halt_of (eqb a.budget 0) (wait_of (step w)) = (λ x. halt_of (eqb a.budget 0) (wait_of (step (midway w a.self.core a.loan.now.window.now (new.lent.0 x) (new.counts.0 x) (new.lent.1 x) (new.counts.1 x))))) in
    subst⁻¹ (λ (out : List ℕ). RunsIf a.good a.self given a.budget (Ok c.ran.result) (back a.loan.now.window.now out a.loan.now.ledger.now)) (search rules)
    (run-served (serving (goal.at.returns-in-Some-clause-runs c).In_ok-served)
    (stands-halted _ _ _ _ _ _ _ _ _ _ first
    (sym (c.halts-halts.ensures w a.loan.now.window.now refl ∙ halts) ∙ c.in-Some.is) c.of-here.ensures c.ran.ensures))

pub returns-in-None-clause-runs : goal.returns-in-None-clause-runs
returns-in-None-clause-runs c = let a = c.args in
    run-served (serving (goal.at.returns-in-None-clause-runs c).In_ok-served)
    (subst (λ (out : List ℕ). Runs serves a.self (lent a.loan.now.window.now a.loan.now.beats.now out a.loan.now.ledger.now a.loan.now.used) a.budget (Ok c.run_on.result) (back c.run_on.new.window c.run_on.new.out c.run_on.new.ledger)) (search rules) c.run_on.ensures)
