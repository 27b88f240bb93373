use mathlib.Core.Path.{sym, ◌∙◌}
use Rattle.answers.proofs.Filled.{not-put, value-filled}
use Rattle.answers.proofs.put_value.Goals as goal

pub returns-then-value-ne-VALUE : goal.returns-then-value-ne-VALUE
returns-then-value-ne-VALUE c = record { lent = sym (not-put _ _ c.if-value-ne-VALUE.true) }

pub returns : goal.returns
returns c = record { lent = c.put_u32.ensures.lent ∙ value-filled _ _ c.if-value-ne-VALUE.false }
