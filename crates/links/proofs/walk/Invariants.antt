use Rattle.links.proofs.Turns.{Turn}
use Rattle.links.proofs.walk.Given as goal

abbrev pub invariant-loop-position : goal.invariant-loop-position
invariant-loop-position l = Turn l.window l.bytes l.pointer l.cells l.last l.address l.position
