use Rattle.regs.specs.Modes.{checked_mode}
use Prim.Native.Nat.{◌<◌}
use borrow.Author.Tests.{lt-leb}
use native.Mathlib.Omega.{arith}
use mathlib.Core.Path.{◌≡◌}
use Rattle.regs.proofs.ModeTryFromU32.try_from.Goals as goal

pub returns-in-0 : goal.returns-in-0
unfolding checked_mode
returns-in-0 c = let e : c.args.n ≡ 0 = omega arith in record { answer = rw e; number = rw e }

pub returns-in-1 : goal.returns-in-1
unfolding checked_mode
returns-in-1 c = let e : c.args.n ≡ 1 = omega arith in record { answer = rw e; number = rw e }

pub returns-in-2 : goal.returns-in-2
unfolding checked_mode
returns-in-2 c = let e : c.args.n ≡ 2 = omega arith in record { answer = rw e; number = rw e }

pub returns-in_default : goal.returns-in_default
unfolding checked_mode
returns-in_default c = let h : 2 < c.args.n = omega arith in
    record { answer = rw (lt-leb _ _ h); number = rw (lt-leb _ _ h) }
