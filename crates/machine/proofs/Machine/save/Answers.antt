use Rattle.machine.proofs.Answers.{was-saved}
use Rattle.machine.proofs.Machine.save.Goals as goal

pub returns : goal.returns
returns c = was-saved c.fields.ensures c.tail.ensures c.write.ensures
