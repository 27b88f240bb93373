use Rattle.descriptor.proofs.Halves.{number-halves}
use mathlib.Core.Path.{sym}
use Rattle.descriptor.proofs.two_words.Goals as goal

pub returns : goal.returns
returns c = rw (c.get_u32-low.ensures.value, c.get_u32-high.ensures.value) (sym (number-halves _ _ c.requires))
