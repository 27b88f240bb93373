use mathlib.Core.Path.{◌∙◌, sym}
use Rattle.machine.specs.Step.{written_control}
use Rattle.machine.proofs.Core.written_control.Goals as goal

pub returns-then-has : goal.returns-then-has
unfolding written_control
returns-then-has c = simp (sym c.has.ensures.value ∙ c.if-has.true)

pub returns-else-has : goal.returns-else-has
unfolding written_control
returns-else-has c = simp (sym c.has.ensures.value ∙ c.if-has.false)
