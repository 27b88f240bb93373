use mathlib.Core.Path.{ap, ◌∙◌}
use Rattle.machine.specs.declared.Work.{Work}
use Rattle.machine.specs.Step.{onward}
use Rattle.machine.proofs.Core.onward.Goals as goal

pub returns : goal.returns
returns c = c.with_work.ensures ∙ ap (λ (k : Work). onward c.args.self k) c.with_byte.ensures
