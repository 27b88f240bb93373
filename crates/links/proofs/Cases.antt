-- What was worked out by hand holds.
-- Assumes nothing.
use mathlib.Core.Path.{refl}
use Rattle.bus.specs.Window.{keeps_limits, checked_of, in_window, located_of}
use Rattle.descriptor.specs.Layout.{descriptor_at}
use Rattle.descriptor.specs.Looking.{spot_of}
use Rattle.links.specs.Mending.{cut_by}
use Rattle.links.specs.Verdicts.{met_at, walk, verdict_of}
use Rattle.links.specs.Theorems.{VerdictsHold, MendsHold}

pub verdicts-hold : VerdictsHold
unfolding keeps_limits checked_of in_window located_of descriptor_at spot_of met_at walk verdict_of
verdicts-hold = refl

pub mends-hold : MendsHold
unfolding keeps_limits checked_of in_window located_of descriptor_at spot_of met_at walk verdict_of cut_by
mends-hold = refl
