-- Order 5: "Forward: slot empty, run number 0." The machine that a core becomes there.
-- Assumes nothing.
use Rattle.std.specs.Prelude.{None}
use Rattle.machine.specs.declared.Core.{Core}
use Rattle.machine.specs.declared.Machine.{Machine}

abbrev pub in_run_zero : Core → Machine
in_run_zero m = record { core = m; slot = None; run = 0 }
