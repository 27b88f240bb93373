use Rattle.flow.specs.Helpers.Blocks.{Lays}
use Rattle.flow.proofs.lay.Given as goal

abbrev pub invariant-loop-i : goal.invariant-loop-i
invariant-loop-i l = Lays l.to.fixed l.to.first l.from l.block l.i l.initial.window l.window
