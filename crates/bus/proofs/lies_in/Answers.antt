use Rattle.bus.proofs.Limits.{below-window, past-window, from-there}
use native.Mathlib.Omega.{arith}
use mathlib.Core.Path.{sym}
use Rattle.bus.proofs.lies_in.Goals as goal

pub returns-then-a-first : goal.returns-then-a-first
returns-then-a-first c = record { value = sym (below-window _ _ _ (omega arith)) }

pub returns-then-size-offset : goal.returns-then-size-offset
returns-then-size-offset c = record { value = sym (past-window _ _ _ (omega arith) (omega arith)) }

pub returns : goal.returns
returns c = record { value = from-there _ _ _ (omega arith) (omega arith) }
