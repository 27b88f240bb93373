use Rattle.machine.specs.Step.{completed}
use Rattle.machine.proofs.Core.completed.Goals as goal

pub returns : goal.returns
unfolding completed
returns c = simp (c.after_back-2.ensures, c.after_back.ensures.value, c.pends.ensures.value, c.after-n.ensures.value, c.has.ensures.value, c.has-run.ensures.value)
