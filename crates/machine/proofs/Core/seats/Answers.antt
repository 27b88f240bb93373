use mathlib.Core.Path.{sym, ap, ◌∙◌}
use Rattle.machine.specs.Helpers.Resume.{seated_as}
use Rattle.machine.proofs.Core.seats.Goals as goal

pub returns-in-Ok : goal.returns-in-Ok
returns-in-Ok c = c.holds.ensures ∙ sym (ap (seated_as c.args.self) c.in-Ok.is)
