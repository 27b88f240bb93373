use mathlib.Core.Path.{sym, ◌∙◌}
use Rattle.links.proofs.Windows.{limited}
use Rattle.links.proofs.check.Goals as goal

pub walk-requires : goal.walk-requires
walk-requires c = limited _ _ _ (sym c.checked.ensures.answer ∙ c.in_ok-place.was)
