use Rattle.machine.specs.State.{Slot}
use mathlib.Core.Path.{sym, ap, ◌∙◌}
use mathlib.Core.Bool.{◌&&◌}
use Rattle.machine.specs.Helpers.Resume.{seated_in, core_ready, ready_of}
use Rattle.machine.proofs.Machine.ready.Goals as goal

pub returns-in-None : goal.returns-in-None
unfolding ready_of
returns-in-None c = let m = c.args.self in c.ready.ensures ∙ ap (λ (s : Slot). seated_in m.core s && core_ready m.core) (sym c.in-None.is)

pub returns-in-Some : goal.returns-in-Some
unfolding ready_of
returns-in-Some c = let m = c.args.self in (λ x. c.seats.ensures x && c.ready-in-Some.ensures x) ∙ ap (λ (s : Slot). seated_in m.core s && core_ready m.core) (sym c.in-Some.is)
