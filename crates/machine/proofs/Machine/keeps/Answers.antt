use mathlib.Core.Path.{◌∙◌}
use Rattle.image.specs.Rules.{keeps_rules}
use Rattle.machine.proofs.Machine.keeps.Goals as goal

pub returns : goal.returns
returns c = c.keeps.ensures.value ∙ (λ x. keeps_rules (c.fields.ensures x) (c.tail.ensures x))
