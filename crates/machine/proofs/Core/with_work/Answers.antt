use Rattle.machine.proofs.AtMove.{onward-by}
use Rattle.machine.proofs.Core.with_work.Goals as goal

pub returns : goal.returns
returns c = let s = c.args in onward-by s.self s.k c.asked.ensures c.phase_with.ensures
