use Rattle.std.specs.Prelude.{None}
use mathlib.Core.Path.{ap, ◌∙◌}
use Rattle.machine.specs.State.{machine_with}
use Rattle.machine.specs.declared.Core.{Core}
use Rattle.machine.proofs.Machine.fresh.Goals as goal

pub returns : goal.returns
returns c = record { value = c.of.ensures ∙ ap (λ (x : Core). machine_with x None 0) c.fresh.ensures.value }
