-- A step and a run take a world whose machine keeps the rules to one of the same kind.
-- Assumes nothing.
use Prim.Native.Nat.{ℕ, zero, suc}
use mathlib.Core.Path.{refl, subst}
use Rattle.machine.specs.declared.Phase.{Phase}
use Rattle.machine.specs.declared.Phase.TheVariants.{Rest, Fetch, Move, WriteBack, Ended, Halted, Faulted}
use Rattle.machine.specs.Step.{World, Answer, taken, stopped, step_in, step}
use Rattle.machine.specs.Run.{run_on, run}
use Rattle.met.specs.Theorems.{StepKeeps, RunKeeps}
use Rattle.met.proofs.Kept.{Suits}
use Rattle.met.proofs.Worlds.{KeptWorld, sound-world, kept-world, After, Leads, settles-after, rest-after}
use Rattle.met.proofs.AtFetch.{fetch-after}
use Rattle.met.proofs.AtMove.{move-after}
use Rattle.met.proofs.AtWriteBack.{write-back-after}

step_in_lem : {w : World} → KeptWorld w → (p : Phase) → Suits w.core p → Leads (step_in p w)
step_in_lem h Rest s = rest-after h
step_in_lem h Fetch s = fetch-after h s
step_in_lem {w} h (Move d) (b, g, l) = move-after h d b g l w.core.mode refl
step_in_lem h (WriteBack d) (b, g, l) = write-back-after h d g
step_in_lem h Ended s = tt
step_in_lem h Halted s = tt
step_in_lem h (Faulted f) s = tt

pub step_after : {w : World} → KeptWorld w → After (step w)
unfolding step
step_after {w} h = settles-after (step_in w.core.phase w) (step_in_lem h w.core.phase h.core.phase)

run_on_lem : (n : ℕ) {w : World} (a : Answer) → KeptWorld w → After a → KeptWorld (run_on n w a).world
run_on_lem zero (stopped r) h s = h
run_on_lem zero (taken v) h s = h
run_on_lem (suc n) (stopped r) h s = h
run_on_lem (suc n) (taken v) h s = run_on_lem n (step v) s (step_after s)

-- A step taken in a sound world leads to a sound world.
pub step_keeps : StepKeeps
step_keeps w v s e = sound-world (subst After e (step_after (kept-world s)))

-- So does a run, whatever its budget.
pub run-keeps : RunKeeps
unfolding run
run-keeps n w s = sound-world (run_on_lem n (step w) (kept-world s) (step_after (kept-world s)))
