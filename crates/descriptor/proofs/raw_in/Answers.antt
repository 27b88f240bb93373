use Rattle.descriptor.proofs.Looks.{raw-in, raw-out}
use native.Mathlib.Omega.{arith}
use mathlib.Core.Path.{sym, ◌∙◌}
use Rattle.descriptor.proofs.raw_in.Goals as goal

pub returns-then-from-lt32 : goal.returns-then-from-lt32
returns-then-from-lt32 c = record { value = sym (raw-out _ _ (omega arith)) }

pub returns-then-from-at : goal.returns-then-from-at
returns-then-from-at c = record { value = sym (raw-out _ _ (omega arith)) }

pub returns : goal.returns
returns c = record { value = c.words_at.ensures ∙ sym (raw-in _ _ (omega arith)) }
