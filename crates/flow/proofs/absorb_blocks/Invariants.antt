use Prim.Native.Nat.{◌-◌, ◌≤◌}
use lib.ListN.{drop}
use Rattle.flow.specs.Beats.{beats_in}
use Rattle.flow.specs.Helpers.Blocks.{Onward}
use Rattle.flow.proofs.absorb_blocks.Given as goal

abbrev pub invariant-loop-block : goal.invariant-loop-block
invariant-loop-block l = (l.count ≤ l.most)
    × Onward (drop l.taken (beats_in l.beats)) l.to.fixed l.to.first (record { count = l.initial.count; errors = l.initial.errors }) l.initial.window (record { count = l.count; errors = l.errors }) l.window

abbrev pub decreases-loop-block : goal.decreases-loop-block
decreases-loop-block l = l.most - l.count
