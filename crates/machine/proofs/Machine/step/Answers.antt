use Rattle.machine.proofs.Outcomes.{run-of-one}
use Rattle.std.specs.Prelude.{Ok}
use Rattle.bus.proofs.Passed.{handed-on}
use mathlib.Core.Path.{ap}
use Rattle.machine.proofs.Machine.step.Goals as goal

pub returns-in_err-ran-clause-stepped : goal.returns-in_err-ran-clause-stepped
returns-in_err-ran-clause-stepped c = run-of-one c.run.ensures.runs c.in_err-ran.was (handed-on _ c.from_residual.ensures.1)

pub returns-clause-stepped : goal.returns-clause-stepped
returns-clause-stepped c = run-of-one c.run.ensures.runs c.in_ok-ran.was (ap Ok c.stepped.ensures)
