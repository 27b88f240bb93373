use borrow.Author.Tests.{eq-eqb, ne_eqb, le-leb, lt-leb}
use Rattle.regs.specs.Control.{counted}
use Rattle.regs.proofs.Count.after.Goals as goal

pub returns-then-max-eq0 : goal.returns-then-max-eq0
unfolding counted
returns-then-max-eq0 c = record { value = simp (eq-eqb _ _ c.if-max-eq0.true) }

pub returns-then-max-next : goal.returns-then-max-next
unfolding counted
returns-then-max-next c = record { value = simp (ne_eqb _ _ c.if-max-eq0.false, le-leb _ _ c.if-max-next.true) }

pub returns : goal.returns
unfolding counted
returns c = record { value = simp (ne_eqb _ _ c.if-max-eq0.false, lt-leb _ _ c.if-max-next.false) }
