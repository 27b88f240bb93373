use mathlib.Core.Path.{◌∙◌}
use Rattle.machine.specs.Step.{destination_of}
use Rattle.machine.proofs.Work.write_address.Goals as goal

pub returns : goal.returns
unfolding destination_of
returns c = c.byte_address.ensures ∙ simp c.has-fixed.ensures.value
