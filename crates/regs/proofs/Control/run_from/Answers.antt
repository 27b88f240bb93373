use mathlib.Core.Path.{sym, ◌∙◌}
use Rattle.regs.proofs.Control.run_from.Goals as goal

pub returns-then-rises : goal.returns-then-rises
returns-then-rises c = record { value = c.raised.ensures.value ∙ rw (sym c.starts.ensures.value, sym c.resets.ensures.value, c.if-rises.true) }

pub returns-else-rises : goal.returns-else-rises
returns-else-rises c = record { value = rw (sym c.starts.ensures.value, sym c.resets.ensures.value, c.if-rises.false) }
