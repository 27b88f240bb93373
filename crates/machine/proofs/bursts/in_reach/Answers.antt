use Prim.Native.Nat.{ℕ, ◌-◌}
use mathlib.Core.Bool.{cond}
use mathlib.Core.Path.{ap, ◌∙◌}
use native.Mathlib.Omega.{arith}
use Rattle.machine.proofs.Places.{fits}
use Rattle.machine.proofs.Bulk.{no-reach, reached}
use Rattle.machine.proofs.bursts.in_reach.Goals as goal

pub overflow_sub-size : goal.overflow_sub-size
overflow_sub-size c = omega (arith, fits c.locate-found.ensures c.in-Some.is, c.index-first.ensures.value, c.size.ensures.value)

pub returns-in-None : goal.returns-in-None
returns-in-None c = no-reach _ _ _

pub returns-in-Some : goal.returns-in-Some
returns-in-Some c = reached _ _ _ _ _ c.locate-found.ensures c.in-Some.is c.index-first.ensures.value
    (c.span.ensures ∙ ap (λ (n : ℕ). cond c.args.fixed 65535 (n - c.index-first.result)) c.size.ensures.value)
