use mathlib.Core.Path.{refl, sym, ◌∙◌}
use Rattle.machine.specs.Run.{served_of}
use Rattle.machine.proofs.Readiness.{keeps-ready, keeps-seated}
use Rattle.machine.proofs.Outcomes.{runs_as}
use Rattle.machine.proofs.Machine.run.Goals as goal

pub run_if-requires : goal.run_if-requires
run_if-requires c = let m = c.args.self in
    let told = c.keeps.ensures in record { ready = (λ e. keeps-ready m _ (sym told ∙ e) refl); seated = (λ e. keeps-seated m (sym told ∙ e)) }

pub returns-clause-runs : goal.returns-clause-runs
unfolding served_of
returns-clause-runs c = runs_as _ _ c.keeps.ensures c.run_if.ensures.runs
