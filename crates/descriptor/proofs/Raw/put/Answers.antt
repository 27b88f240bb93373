use Rattle.descriptor.proofs.Halves.{raw-halves}
use Rattle.words.specs.Slices.{put_at}
use mathlib.Core.Path.{ap, ◌∙◌}
use Rattle.descriptor.proofs.Raw.put.Goals as goal

pub returns : goal.returns
returns c = record { lent = c.put_words.ensures.lent ∙ ap (put_at _ _) (raw-halves _) }
