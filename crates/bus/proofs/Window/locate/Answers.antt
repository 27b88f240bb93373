use Rattle.bus.proofs.Limits.{located-at, located-out, in_bounds}
use native.Mathlib.Omega.{arith}
use mathlib.Core.Path.{sym, ◌∙◌}
use Rattle.bus.proofs.Window.locate.Goals as goal

pub returns-then-not-lies_in : goal.returns-then-not-lies_in
returns-then-not-lies_in c = record { answer = sym (located-out _ _ _ (sym c.lies_in.ensures.value ∙ c.if-not-lies_in.true)); within = tt }

pub overflow_sub-offset : goal.overflow_sub-offset
overflow_sub-offset c = (in_bounds _ _ _ (sym c.lies_in.ensures.value ∙ c.if-not-lies_in.false)).0

pub returns : goal.returns
returns c = let inside = sym c.lies_in.ensures.value ∙ c.if-not-lies_in.false in
    record { answer = sym (located-at _ _ _ inside); within = omega (arith, in_bounds _ _ _ inside) }
