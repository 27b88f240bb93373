use lib.ListN.{drop}
use Rattle.flow.specs.Beats.{beats_in}
use Rattle.flow.specs.Helpers.Blocks.{Seen, Holds}
use Rattle.flow.proofs.look.Given as goal

abbrev pub invariant-loop-i : goal.invariant-loop-i
invariant-loop-i l = Seen (drop l.from (beats_in l.beats)) l.i l.some × Holds l.block (drop l.from (beats_in l.beats)) l.i
