use Rattle.machine.proofs.Machine.up.Goals as goal

pub returns : goal.returns
returns c = record { value = c.raises.ensures.value }
