use mathlib.Core.Path.{◌≡◌}
use Rattle.words.specs.Slices.{put}
use Rattle.image.specs.Helpers.InBytes.{resized}
use Rattle.image.proofs.moves.copy_front.Given as goal

abbrev pub invariant-loop-i : goal.invariant-loop-i
invariant-loop-i l = l.to ≡ put l.initial.to 0 (resized l.i l.from)
