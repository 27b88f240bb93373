use Rattle.machine.proofs.Machine.register.Goals as goal

pub returns : goal.returns
returns c = record { value = c.read.ensures.value }
