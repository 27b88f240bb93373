use Rattle.descriptor.proofs.Looks.{spot-misaligned, spot-aligned}
use borrow.Author.Tests.{eq-eqb, ne_eqb}
use mathlib.Core.Path.{sym, ◌∙◌}
use Rattle.descriptor.proofs.spot_of.Goals as goal

pub returns-then-address-ne0 : goal.returns-then-address-ne0
returns-then-address-ne0 c = record { value = sym (spot-misaligned _ _ (ne_eqb _ _ c.if-address-ne0.true)) }

pub returns-in_default : goal.returns-in_default
returns-in_default c = record { value = sym (spot-aligned _ _ (eq-eqb _ _ c.if-address-ne0.false) (sym c.locate.ensures.answer ∙ c.in_default.is)) }

pub returns : goal.returns
returns c = record { value = sym (spot-aligned _ _ (eq-eqb _ _ c.if-address-ne0.false) (sym c.locate.ensures.answer ∙ c.in-Some.is)) }
