use mathlib.Core.List.{[], ◌∷◌}
use Rattle.machine.specs.Saved.{work_of}
use Rattle.machine.specs.declared.Phase.TheVariants.{Rest, Fetch, Move, WriteBack, Ended, Halted, Faulted}
use Prim.Native.Nat.{◌≤◌}
use lib.ListN.{get_or-eq_default}
use native.Mathlib.Omega.{arith}
use mathlib.Core.Path.{sym}
use Rattle.machine.proofs.saved.phase_of.Goals as goal

pub returns-in-0 : goal.returns-in-0
returns-in-0 c = simp c.in-0.is

pub returns-in-1 : goal.returns-in-1
returns-in-1 c = simp c.in-1.is

pub returns-in-2 : goal.returns-in-2
returns-in-2 c = simp (c.work_of.ensures, c.in-2.is)

pub returns-in-3 : goal.returns-in-3
returns-in-3 c = simp (c.work_of-in-3.ensures, c.in-3.is)

pub returns-in-4 : goal.returns-in-4
returns-in-4 c = simp c.in-4.is

pub returns-in-5 : goal.returns-in-5
returns-in-5 c = simp c.in-5.is

pub returns-in_default : goal.returns-in_default
returns-in_default c = let f = c.args.f in let h : 6 ≤ f.phase = omega arith in sym (get_or-eq_default (Rest ∷ Fetch ∷ Move (work_of f) ∷ WriteBack (work_of f) ∷ Ended ∷ Halted ∷ []) (Faulted (record { code = f.fault; address = f.faultat })) h)
