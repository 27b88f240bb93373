use Rattle.regs.proofs.Control.resets.Goals as goal

pub returns : goal.returns
returns c = record { value = rw (c.has-2.ensures.value, c.has.ensures.value) }
