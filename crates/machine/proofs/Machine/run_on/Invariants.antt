use Rattle.machine.proofs.Standing.{Stands}
use Rattle.machine.specs.Run.{lent, back}
use Rattle.machine.specs.Helpers.Lending.{Kept}
use Prim.Native.Nat.{◌-◌}
use Rattle.machine.proofs.Machine.run_on.Given as goal

abbrev pub invariant-loop-why : goal.invariant-loop-why
invariant-loop-why l = let s = l.streams in
    Kept l.initial.streams s × Stands (record { core = l.initial.core; slot = l.initial.slot; run = l.run }) (lent l.initial.window s.beats.now l.initial.streams.out.now l.initial.ledger l.used) l.budget (back l.window s.out.now l.ledger) l.core l.slot s.taken s.made l.filled l.steps

abbrev pub decreases-loop-why : goal.decreases-loop-why
decreases-loop-why l = l.budget - l.steps
