use mathlib.Core.Path.{sym, ◌∙◌}
use Rattle.machine.proofs.Readiness.{tested-ready, tested-seated}
use Rattle.machine.proofs.Outcomes.{runs_as}
use Rattle.machine.proofs.Machine.resume.Goals as goal

pub run_if-requires : goal.run_if-requires
run_if-requires c = let m = c.args.self in
    let told = c.ready.ensures in record { ready = (λ e. tested-ready m (sym told ∙ e)); seated = (λ e. tested-seated m (sym told ∙ e)) }

pub returns-clause-runs : goal.returns-clause-runs
returns-clause-runs c = runs_as _ _ c.ready.ensures c.run_if.ensures.runs
