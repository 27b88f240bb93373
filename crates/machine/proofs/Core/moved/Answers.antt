use Rattle.machine.proofs.Core.moved.Goals as goal

pub returns : goal.returns
returns c = simp c.with_work.ensures
