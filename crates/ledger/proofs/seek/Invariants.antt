use Rattle.ledger.proofs.Latest.{told}
use mathlib.Core.Path.{◌≡◌}
use Rattle.ledger.proofs.seek.Given as goal

abbrev pub invariant-loop-i : goal.invariant-loop-i
invariant-loop-i l = told l.run l.address l.ledger l.used ≡ told l.run l.address l.ledger l.i
