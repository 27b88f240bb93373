use Rattle.machine.proofs.Places.{outside, place}
use Rattle.machine.specs.Step.{written_back}
use Rattle.bus.specs.Window.{in_window}
use Rattle.bus.specs.declared.Window.{Window}
use mathlib.Core.Path.{refl, sym, ap, ◌∙◌}
use mathlib.Core.Bool.{true≢false}
use Rattle.machine.proofs.Core.put_back.Goals as goal

pub returns-in_default : goal.returns-in_default
returns-in_default c = absurd (true≢false (sym c.requires ∙ ap (λ (v : Window). in_window v c.args.k.at 32) (sym c.home.ensures) ∙ outside c.locate.ensures refl c.in_default.is))

pub returns : goal.returns
unfolding written_back
returns c = λ w. c.write_back.ensures.lent ∙ simp (place c.locate.ensures refl c.in-Some.is, c.home.ensures, c.written_control-control.ensures)
