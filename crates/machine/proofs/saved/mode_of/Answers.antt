use Prim.Native.Nat.{◌≤◌}
use lib.ListN.{get_or-eq_default}
use native.Mathlib.Omega.{arith}
use mathlib.Core.List.{[], ◌∷◌}
use mathlib.Core.Path.{sym}
use Rattle.regs.specs.declared.Mode.TheVariants.{MemoryToMemory, MemoryToStream, StreamToMemory}
use Rattle.machine.proofs.saved.mode_of.Goals as goal

pub returns-in_default : goal.returns-in_default
returns-in_default c = let h : 2 ≤ c.args.n = omega arith in
    sym (get_or-eq_default (MemoryToMemory ∷ MemoryToStream ∷ []) StreamToMemory h)
