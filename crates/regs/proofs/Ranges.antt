-- The status register is a number of five bits.
-- Assumes nothing.
use Prim.Native.Nat.{◌≤◌, ◌<◌}
use mathlib.Core.Bool.{Bool, true, false}
use native.Mathlib.Omega.{arith}
use Rattle.words.specs.Bits.{flag}
use Rattle.regs.specs.declared.Status.{Status}
use Rattle.regs.specs.Status.{status_number}

a-bit : (b : Bool) → flag b ≤ 1
a-bit true = omega arith
a-bit false = omega arith

pub status-below : (s : Status) → status_number s < 32
status-below s =
    let a = a-bit s.error in
    let b = a-bit s.eop in
    let c = a-bit s.descriptor in
    let d = a-bit s.chain in
    let e = a-bit s.busy in
    omega arith
