use mathlib.Core.Path.{◌∙◌}
use Rattle.machine.specs.Step.{source_of}
use Rattle.machine.proofs.Work.read_address.Goals as goal

pub returns : goal.returns
unfolding source_of
returns c = c.byte_address.ensures ∙ simp c.has-fixed.ensures.value
