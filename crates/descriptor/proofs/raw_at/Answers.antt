use Rattle.descriptor.specs.Looking.{raw_at}
use mathlib.Core.Path.{ap, ◌∙◌}
use Rattle.descriptor.proofs.raw_at.Goals as goal

pub returns : goal.returns
returns c = record { value = c.raw_in.ensures.value ∙ ap (raw_at c.args.window.now) c.index.ensures.value }
