-- The number of a refusal is not 0, which is done.
-- Assumes nothing.
use mathlib.Core.Logic.{◌≢◌}
use native.Mathlib.Omega.{arith}
use Rattle.bus.specs.declared.Refusal.{Refusal}
use Rattle.bus.specs.declared.Refusal.TheVariants.{NoRegister, BadMode, BadWindow, OtherWindow, Misaligned, Outside, BadSize, BadImage, OddStream, SlotHeld, NoTimerRegister, NotFullPeriod, RunUnknown, BadLedger, NoPort, AddressTooLarge, NothingToKeep}
use Rattle.bus.specs.Refusal.{refusal_number}

pub refused-not-done : (why : Refusal) → refusal_number why ≢ 0
refused-not-done NoRegister e = omega (arith, e)
refused-not-done BadMode e = omega (arith, e)
refused-not-done BadWindow e = omega (arith, e)
refused-not-done OtherWindow e = omega (arith, e)
refused-not-done Misaligned e = omega (arith, e)
refused-not-done Outside e = omega (arith, e)
refused-not-done BadSize e = omega (arith, e)
refused-not-done (BadImage field) e = omega (arith, e)
refused-not-done OddStream e = omega (arith, e)
refused-not-done SlotHeld e = omega (arith, e)
refused-not-done NoTimerRegister e = omega (arith, e)
refused-not-done NotFullPeriod e = omega (arith, e)
refused-not-done RunUnknown e = omega (arith, e)
refused-not-done BadLedger e = omega (arith, e)
refused-not-done NoPort e = omega (arith, e)
refused-not-done AddressTooLarge e = omega (arith, e)
refused-not-done NothingToKeep e = omega (arith, e)
