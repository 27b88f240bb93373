use Prim.Native.Nat.{◌*◌}
use mathlib.Core.Path.{◌≡◌}
use Rattle.words.specs.Slices.{put}
use Rattle.flow.specs.Beats.{beat_bytes}
use Rattle.flow.specs.Rows.{plain}
use Rattle.flow.proofs.send.Given as goal

abbrev pub invariant-loop-i : goal.invariant-loop-i
invariant-loop-i l = l.out ≡ put l.initial.out (2 * l.made) (beat_bytes (plain l.window l.from.fixed l.from.first l.i))
