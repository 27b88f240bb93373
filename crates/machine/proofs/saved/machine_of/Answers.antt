use mathlib.Core.Path.{sym, ◌∙◌}
use Rattle.bus.proofs.Limits.{checked-is}
use Rattle.machine.proofs.saved.machine_of.Goals as goal

pub returns : goal.returns
returns c = rw (
  c.slot_of.ensures,
  c.phase_of.ensures,
  c.from.ensures.value,
  c.mode_of.ensures,
  (checked-is _ _ _ (sym c.checked.ensures.answer ∙ c.in_ok-window.was)).1,
)
