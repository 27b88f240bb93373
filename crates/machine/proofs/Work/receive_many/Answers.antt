use mathlib.Core.Path.{refl}
use Prim.Native.Nat.{◌+◌, ◌/◌, ◌≤◌}
use lib.ListN.{length}
use borrow.Author.Rules.{rules}
use native.Mathlib.Omega.{arith}
use Rattle.machine.proofs.Bulk.{receive-bursts}
use Rattle.machine.proofs.Work.receive_many.Goals as goal
use Rattle.machine.proofs.Work.receive_many.Goals.{After-absorb-a}

-- no more than were asked for, or than are left
few : (c : After-absorb-a) →
    let s = c.args.streams.now in
    (c.absorb-a.result.count ≤ c.args.most) × (s.taken + c.absorb-a.result.count ≤ length s.beats.now / 2)
few c = let n = c.least.ensures.upper_bound in
    let some = c.least-some.ensures.upper_bound in
    let left = c.args.streams.now.within.0 in
    let burst = receive-bursts _ _ _ _ _ _ c.writes-to.ensures c.requires.length_value n.0 (omega (arith, n.1, some.0))
    (omega (arith, n.1, some.1, left)) c.absorb-a.ensures in
    (omega (arith, n.0, burst.0), omega (arith, n.1, some.1, left, burst.0))

pub overflow_add-streams : goal.overflow_add-streams
overflow_add-streams c = let h = few (goal.at.overflow_add-streams c).After-absorb-a in search (rules, h.1)

pub invariant_of-streams : goal.invariant_of-streams
invariant_of-streams c = record { within = ((few (goal.at.invariant_of-streams c).After-absorb-a).1, c.args.streams.now.within.1) }

pub returns-clause-upper_bound : goal.returns-clause-upper_bound
returns-clause-upper_bound c = (few (goal.at.returns-clause-upper_bound c).After-absorb-a).0

pub returns-clause-bursts : goal.returns-clause-bursts
returns-clause-bursts c = let n = c.least.ensures.upper_bound in
    let some = c.least-some.ensures.upper_bound in
    let s = c.args.streams.now in
    let burst = receive-bursts _ _ _ _ _ _ c.writes-to.ensures c.requires.length_value n.0 (omega (arith, n.1, some.0))
    (omega (arith, n.1, some.1, s.within.0)) c.absorb-a.ensures in
    record { kept = record { beats = refl; out = refl; room = refl }; bursts = burst.1 s.out.now s.made }
