-- What a register write makes of a machine in Faulted. That it is one of these is `only-reset-leaves`; that no step is taken there
-- is `faulted-stands`.
-- Assumes nothing.
use Rattle.std.specs.Prelude.{ℕ, ◌≡◌, true, None}
use Rattle.regs.specs.Control.{reset_by}
use Rattle.machine.specs.declared.Machine.{Machine}
use Rattle.machine.specs.declared.Fault.{Fault}
use Rattle.machine.specs.declared.Phase.TheVariants.{Faulted}
use Rattle.machine.specs.State.{fresh_core, machine_with}

-- it stays Faulted, with its code and address; or bit 16 of control is written and already reads 1, and it is fresh again, but for the run number
pub data AfterWrite (m : Machine) (f : Fault) (offset v : ℕ) (n : Machine) : Type 0 where
  stays : n.core.phase ≡ Faulted f → AfterWrite m f offset v n
  reset : offset ≡ 4 → reset_by v m.core.control ≡ true → n ≡ machine_with (fresh_core m.core.mode m.core.window) None m.run → AfterWrite m f offset v n
