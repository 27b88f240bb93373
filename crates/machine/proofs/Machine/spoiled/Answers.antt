use Rattle.image.specs.Rules.{lowest_broken}
use Rattle.bus.specs.declared.Refusal.TheVariants.{BadImage}
use mathlib.Core.Path.{◌∙◌}
use Rattle.machine.proofs.Machine.spoiled.Goals as goal

pub returns : goal.returns
returns c = c.refused.ensures.value ∙ (λ x. BadImage (lowest_broken (c.fields.ensures x) (c.tail.ensures x)))
