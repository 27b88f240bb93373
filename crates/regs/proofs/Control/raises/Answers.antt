use Rattle.regs.proofs.Control.raises.Goals as goal

pub returns : goal.returns
returns c = record { value = rw c.has.ensures.value }
