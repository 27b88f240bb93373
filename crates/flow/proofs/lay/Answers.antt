use Rattle.flow.proofs.InBlocks.{lays_more}
use Rattle.flow.proofs.lay.Goals as goal

pub loop-i-preserved : goal.loop-i-preserved
loop-i-preserved c = let a = c.args in
    lays_more a.to.fixed a.to.first a.from a.block.now c.loop-i.i a.window.now c.loop-i.window c.place-at.ensures c.loop-i.invariant
