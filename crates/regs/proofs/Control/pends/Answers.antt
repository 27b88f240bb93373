use Rattle.regs.proofs.Control.pends.Goals as goal

pub returns : goal.returns
returns c = record { value = simp (c.has-4.ensures.value, c.has-3.ensures.value, c.has-2.ensures.value, c.has.ensures.value) }
