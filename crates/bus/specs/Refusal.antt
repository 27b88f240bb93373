-- The paper's "Refusal numbers". 0 is done: no refusal. Order 1: "8 carries it, in C as 8 + 256 × field", the lowest field that breaks
-- a rule, counted from 1 in layout order.
-- Assumes nothing.
use Rattle.std.specs.Prelude.{ℕ, ◌+◌, ◌*◌, Result, Ok, Err}
use Rattle.bus.specs.declared.Refusal.{Refusal}
use Rattle.bus.specs.declared.Refusal.TheVariants.{NoRegister, BadMode, BadWindow, OtherWindow, Misaligned, Outside, BadSize, BadImage, OddStream, SlotHeld, NoTimerRegister, NotFullPeriod, RunUnknown, BadLedger, NoPort, AddressTooLarge, NothingToKeep}

abbrev pub refusal_number : Refusal → ℕ
refusal_number NoRegister = 1
refusal_number BadMode = 2
refusal_number BadWindow = 3
refusal_number OtherWindow = 4
refusal_number Misaligned = 5
refusal_number Outside = 6
refusal_number BadSize = 7
refusal_number (BadImage field) = 8 + 256 * field
refusal_number OddStream = 9
refusal_number SlotHeld = 15
refusal_number NoTimerRegister = 16
refusal_number NotFullPeriod = 17
refusal_number RunUnknown = 18
refusal_number BadLedger = 19
refusal_number NoPort = 21
refusal_number AddressTooLarge = 22
refusal_number NothingToKeep = 23

-- the number of an answer: 0 where the call is done, else that of its refusal
abbrev pub answer_number : {A : Type 0} → Result A Refusal → ℕ
answer_number (Ok x) = 0
answer_number (Err why) = refusal_number why
