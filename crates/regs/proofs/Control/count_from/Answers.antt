use mathlib.Core.Path.{sym}
use Rattle.regs.proofs.Control.count_from.Goals as goal

pub returns-then-starts : goal.returns-then-starts
returns-then-starts c = record { value = rw (sym c.starts.ensures.value, c.if-starts.true) }

pub returns-else-starts : goal.returns-else-starts
returns-else-starts c = record { value = rw (sym c.starts.ensures.value, c.if-starts.false) }
