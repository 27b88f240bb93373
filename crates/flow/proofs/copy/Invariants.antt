use mathlib.Core.Path.{◌≡◌}
use Rattle.flow.specs.Rows.{copied}
use Rattle.flow.proofs.copy.Given as goal

abbrev pub invariant-loop-i : goal.invariant-loop-i
invariant-loop-i l = l.window ≡ copied l.initial.window l.from.fixed l.from.first l.to.fixed l.to.first l.i
