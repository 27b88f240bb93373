use mathlib.Core.Path.{sym, ap, ◌∙◌}
use Rattle.machine.specs.Step.{stored, holding, seen_in, seen}
use Rattle.descriptor.specs.Looking.{look_at}
use Rattle.bus.specs.declared.Window.{Window}
use Rattle.machine.proofs.Core.seen.Goals as goal

pub returns-in-None : goal.returns-in-None
unfolding seen
returns-in-None c = let a = c.args in λ w. c.look_at.ensures.value ∙ ap (λ (v : Window). look_at v a.window.now a.self.pointer.0) c.home.ensures ∙ ap (seen_in (holding (stored w a.self a.window.now) a.slot)) (sym c.in-None.is)

pub returns-in-Some : goal.returns-in-Some
unfolding seen
returns-in-Some c = let a = c.args in λ w. ap (seen_in (holding (stored w a.self a.window.now) a.slot)) (sym c.in-Some.is)
