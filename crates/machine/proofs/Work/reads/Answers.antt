use Rattle.machine.proofs.Bulk.{reaches-as}
use Rattle.machine.proofs.Work.reads.Goals as goal

pub returns : goal.returns
returns c = reaches-as c.has.ensures.value c.read_address.ensures c.in_reach.ensures
