use Rattle.std.specs.Prelude.{None, Ok}
use Rattle.machine.proofs.Standing.{here, with-beats, stands-new, stands-moved, stands-back, stands-begun, stands-halted, stands-going}
use Rattle.machine.proofs.Readiness.{in-move}
use Rattle.machine.proofs.Waiting.{waits-by, rest-runs, never-goes}
use Rattle.machine.specs.declared.Phase.{Phase}
use Rattle.machine.specs.declared.Work.{Work}
use Rattle.machine.specs.declared.Phase.TheVariants.{Rest, Fetch, Move, WriteBack, Ended, Halted, Faulted}
use Rattle.machine.specs.Helpers.Waiting.{wait_of, Begins, rests, fetches}
use Rattle.machine.specs.Step.{World, step, step_in}
use Rattle.machine.specs.Run.{lent, back, serves, Runs}
use Rattle.machine.proofs.Bulk.{kept-on}
use mathlib.Core.Path.{◌≡◌, refl, sym, subst, subst⁻¹, ◌∙◌}
use mathlib.Core.List.{List}
use Prim.Native.Nat.{ℕ}
use native.Mathlib.Omega.{arith}
use Prim.Native.Nat.{◌<◌}
use borrow.Author.Rules.{rules}
use Rattle.machine.proofs.Machine.run_on.Goals as goal
use Rattle.machine.proofs.Machine.run_on.Goals.{In_default}

-- where the turn goes on a step can be taken, and the budget is not spent
going : (c : In_default) →
    let l = c.loop-why in
    (wait_of (step (here _ _ _ _ _ _ _ _ _ _ l.invariant.1)) ≡ None) × (l.steps < c.args.budget)
going c =
    let l = c.loop-why in
    stands-going _ _ _ _ _ _ _ _ _ _ l.invariant.1 (sym (c.halts-halts.ensures (here _ _ _ _ _ _ _ _ _ _ l.invariant.1) l.window refl) ∙ c.in_default.is)

-- out of a phase that is neither Move nor WriteBack
begins : (w : World) (p : Phase) → w.core.phase ≡ p → wait_of (step_in p w) ≡ None
    → ((k : Work) → p ≡ Move k → ⊥) → ((k : Work) → p ≡ WriteBack k → ⊥) → Begins w.core
begins w Rest e can a b = rests e (rest-runs w can)
begins w Fetch e can a b = fetches e
begins w (Move k) e can a b = absurd (a k refl)
begins w (WriteBack k) e can a b = absurd (b k refl)
begins w Ended e can a b = absurd (never-goes can)
begins w Halted e can a b = absurd (never-goes can)
begins w (Faulted f) e can a b = absurd (never-goes can)

pub loop-why-init : goal.loop-why-init
loop-why-init c = let new = c.new-streams.ensures in
    (record { beats = refl; out = refl; room = refl }, stands-new _ _ _ new.counts.0 new.counts.1 c.requires.ready c.requires.seated c.requires.used_in_bounds)

pub move_on-a-requires : goal.move_on-a-requires
move_on-a-requires c = let s = c.loop-why.invariant.1 in
    let go = going (goal.at.move_on-a-requires c).In_default in record { in_move = in-move s.ready c.in-Move.is; goes = record { around = here _ _ _ _ _ _ _ _ _ _ s; can = go.0 }; le_left = omega (arith, go.1) }

pub loop-why-preserved-in-Move : goal.loop-why-preserved-in-Move
loop-why-preserved-in-Move c = let l = c.loop-why in
    let told = c.move_on-a.ensures in
    let kept = told.advances.kept in (
      kept-on l.invariant.0 kept,
      with-beats kept.beats
          (stands-moved _ _ _ (back l.window l.streams.out.now l.ledger) l.core l.slot l.streams.taken l.streams.made l.filled l.steps l.invariant.1
          _ _ _ _ _ c.in-Move.is told.le_steps.1 (search rules) kept.room told.advances.advances),
    )

pub overflow_add-steps-in-WriteBack : goal.overflow_add-steps-in-WriteBack
overflow_add-steps-in-WriteBack c = omega (arith, (going (goal.at.overflow_add-steps-in-WriteBack c).In_default).1, c.ranges.budget)

pub loop-why-smaller-in-WriteBack : goal.loop-why-smaller-in-WriteBack
loop-why-smaller-in-WriteBack c = omega (arith, (going (goal.at.loop-why-smaller-in-WriteBack c).In_default).1)

pub loop-why-preserved-in-WriteBack : goal.loop-why-preserved-in-WriteBack
loop-why-preserved-in-WriteBack c = let l = c.loop-why in
    let go = going (goal.at.loop-why-preserved-in-WriteBack c).In_default in (
      l.invariant.0,
      stands-back _ _ _ (back l.window l.streams.out.now l.ledger) l.core l.slot l.streams.taken l.streams.made l.filled l.steps l.invariant.1
          c.in-WriteBack.k _ _ _ _ (omega (arith, go.1)) (search rules) (search rules) c.in-WriteBack.is go.0
          c.entry.ensures c.append-filled.ensures c.write_back_step-core.ensures,
    )

pub begin_step-f-requires : goal.begin_step-f-requires
begin_step-f-requires c = let w = here _ _ _ _ _ _ _ _ _ _ c.loop-why.invariant.1 in
    begins w w.core.phase refl (sym (waits-by w refl) ∙ (going (goal.at.begin_step-f-requires c).In_default).0) c.in_default-phase.not-Move c.in_default-phase-2.not-WriteBack

pub overflow_add-steps-in_default-phase-2 : goal.overflow_add-steps-in_default-phase-2
overflow_add-steps-in_default-phase-2 c = omega (arith, (going (goal.at.overflow_add-steps-in_default-phase-2 c).In_default).1, c.ranges.budget)

pub loop-why-smaller : goal.loop-why-smaller
loop-why-smaller c = omega (arith, (going (goal.at.loop-why-smaller c).In_default).1)

pub loop-why-preserved : goal.loop-why-preserved
loop-why-preserved c = let l = c.loop-why in (
  l.invariant.0,
  stands-begun _ _ _ (back l.window l.streams.out.now l.ledger) l.core l.slot l.streams.taken l.streams.made l.filled l.steps l.invariant.1 _
      (omega (arith, (going (goal.at.loop-why-preserved c).In_default).1)) c.begin_step-f.ensures,
)

pub returns : goal.returns
returns c = let l = c.loop-why in
    let w = here _ _ _ _ _ _ _ _ _ _ l.invariant.1 in
    let new = c.new-streams.ensures in
    let ran = stands-halted _ _ _ (back l.window l.streams.out.now l.ledger) l.core l.slot l.streams.taken l.streams.made l.filled l.steps l.invariant.1
    (sym (c.halts-halts.ensures w l.window refl) ∙ c.in-Some.is) c.of.ensures c.ran.ensures in
    subst⁻¹ (λ (out : List ℕ). Runs serves c.args.self (lent c.args.window.now c.args.beats.now c.args.out.now c.args.ledger.now c.args.used) c.args.budget (Ok c.ran.result) (back l.window out l.ledger)) (search rules)
    (subst (λ (out : List ℕ). Runs serves c.args.self (lent c.args.window.now c.args.beats.now out c.args.ledger.now c.args.used) c.args.budget (Ok c.ran.result) (back l.window l.streams.out.now l.ledger)) new.lent.1
    (subst (λ (beats : List ℕ). Runs serves c.args.self (lent c.args.window.now beats c.new-streams.result.out.now c.args.ledger.now c.args.used) c.args.budget (Ok c.ran.result) (back l.window l.streams.out.now l.ledger)) (l.invariant.0.beats ∙ new.lent.0) ran))
