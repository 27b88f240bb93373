use Rattle.std.specs.Prelude.{Ok, Err, Some, None}
use mathlib.Core.Path.{sym}
use native.Mathlib.Omega.{arith}
use lib.ListN.{get_or-eq_default}
use Prim.Native.Nat.{◌≤◌}
use Rattle.descriptor.specs.declared.Miss.TheVariants as miss
use mathlib.Core.List.{[], ◌∷◌}
use Rattle.machine.proofs.saved.slot_of.Goals as goal

pub returns-in-1 : goal.returns-in-1
returns-in-1 c = simp c.in-1.is

pub returns-in-2 : goal.returns-in-2
returns-in-2 c = simp c.in-2.is

pub returns-in_default : goal.returns-in_default
returns-in_default c = let t = c.args.t in let h : 3 ≤ t.kind = omega arith in sym (get_or-eq_default (None ∷ Some (Ok t.raw) ∷ Some (Err miss.Misaligned) ∷ []) (Some (Err miss.Outside)) h)
