use mathlib.Core.Path.{◌∙◌}
use Rattle.machine.specs.Step.{beat_for}
use Rattle.machine.proofs.Work.beat.Goals as goal

pub returns : goal.returns
unfolding beat_for
returns c = c.output_beat.ensures.value
    ∙ simp (c.has-2.ensures.value, c.has.ensures.value)
