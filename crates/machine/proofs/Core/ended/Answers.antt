use Rattle.machine.proofs.Core.ended.Goals as goal

pub returns : goal.returns
returns c = simp (c.ended.ensures.value, c.has.ensures.value)
