use Prim.Native.Nat.{◌+◌, ◌*◌, ◌/◌, ◌<◌}
use native.Mathlib.Omega.{arith}
use lib.ListN.{length}
use Rattle.flow.proofs.InBlocks.{seen_more, holds_more}
use Rattle.flow.proofs.look.Goals as goal

pub loop-i-preserved : goal.loop-i-preserved
loop-i-preserved c = let a = c.args in
    let known = c.type_inv.beats in
    let low = (known (2 * (a.from + c.loop-i.i) + 1)).fits in
    let high = (known (2 * (a.from + c.loop-i.i))).fits in
    let h : a.from + c.loop-i.i < length a.beats.now / 2 = omega arith in (
      seen_more a.beats.now a.from c.loop-i.i h low high c.beat_at-beat.ensures c.loop-i.some c.loop-i.invariant.0,
      holds_more a.beats.now a.from c.loop-i.i h low high c.beat_at-beat.ensures c.loop-i.block (omega arith) c.loop-i.invariant.1,
    )
