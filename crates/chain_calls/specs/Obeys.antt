-- Order 9 of the C calls: control is written with RUN clear, one run is made, and status is read. The theorem is `obeys-in-c`.
-- Assumes nothing.
use Rattle.std.specs.Prelude.{ℕ, ◌^◌, ◌≤◌, ◌<◌, ◌≡◌, ◌⊎◌, false, List, length, Ok}
use Rattle.words.specs.declared.Order.TheVariants.{MostFirst}
use Rattle.words.specs.Bits.{bit}
use Rattle.words.specs.Orders.{number_of}
use Rattle.regs.specs.Control as control
use Rattle.machine.specs.declared.Machine.{Machine}
use Rattle.machine.specs.Saved.{load_of}
use Rattle.machine.specs.Run.{world_of}
use Rattle.met.specs.Obeys.{Supplied}
use Rattle.sgdma.specs.Calls.{RegisterRead, RegisterWritten}
use Rattle.chain_calls.specs.InC.{RunLent, RunLeft, Promised}
use Rattle.chain_calls.specs.Told.{reason_told, steps_told}
use Rattle.chain_calls.specs.Useless.{InBytes}
use Rattle.chain_calls.specs.Images.{InUse}

-- the calls, none of them refused: control, at 4, is written over an image in use; the run is lent what it needs and a budget of 65,536;
-- status, at 0, is read
pub record Cleared (xs : List ℕ) (v : ℕ) (x : RunLent) (y : RunLeft) (value : List ℕ) : Type 0 where
  pub in_use : InUse xs
  pub bits : v < 2 ^ 32
  pub run_clear : control.run (control.as_control v) ≡ false
  pub written : RegisterWritten xs 4 v 0 x.image
  pub lent : InBytes x
  pub machine : Machine
  pub loads : load_of x.image ≡ Ok machine
  pub supplied : Supplied (world_of machine x.lent)
  pub budget : 65536 ≤ x.budget
  pub ran : Promised x y
  pub done : y.number ≡ 0
  pub before : List ℕ
  pub value_size : length before ≡ 4
  pub read : RegisterRead y.image 0 before 0 value

-- the report tells Rest, 0, or Faulted, 3, and no more than 65,536 steps; BUSY, bit 4 of status, reads 0
pub record ObeyedInC (report value : List ℕ) : Type 0 where
  pub reason : (reason_told report ≡ 0) ⊎ (reason_told report ≡ 3)
  pub steps : steps_told report ≤ 65536
  pub busy : bit 4 (number_of MostFirst value) ≡ false
