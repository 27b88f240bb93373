use mathlib.Core.Path.{◌≡◌}
use lib.ListN.{take}
use Rattle.words.specs.Orders.{word_bytes}
use Rattle.words.specs.Slices.{put}
use Rattle.words.proofs.put_words.Given as goal

-- after i words, their bytes stand in the slice
abbrev pub invariant-loop-i : goal.invariant-loop-i
invariant-loop-i l = l.to ≡ put l.initial.to l.at (word_bytes l.order (take l.i l.ws))
