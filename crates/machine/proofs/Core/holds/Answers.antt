use mathlib.Core.Path.{ap, ◌∙◌}
use Rattle.bus.specs.declared.Window.{Window}
use Rattle.bus.specs.Window.{in_window}
use Rattle.std.specs.Prelude.{is_some}
use Rattle.machine.proofs.Places.{found-in}
use Rattle.machine.proofs.Core.holds.Goals as goal

pub returns : goal.returns
returns c = c.is_some.ensures ∙ ap is_some c.locate.ensures.answer ∙ found-in _ _ _ ∙ ap (λ (v : Window). in_window v c.args.address 32) c.home.ensures
