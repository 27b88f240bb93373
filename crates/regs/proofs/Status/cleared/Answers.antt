use Rattle.regs.proofs.Status.cleared.Goals as goal

pub returns : goal.returns
returns c = record { value = rw (c.has-4.ensures.value, c.has-3.ensures.value, c.has-2.ensures.value, c.has.ensures.value) }
