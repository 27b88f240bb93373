use Rattle.sgdma.proofs.Answered.{answer-short}
use mathlib.Core.Path.{refl}
use Rattle.sgdma.proofs.sgdma_read_descriptor.Goals as goal

pub returns-then-answer-ne-DESCRIPTOR : goal.returns-then-answer-ne-DESCRIPTOR
returns-then-answer-ne-DESCRIPTOR c = answer-short c.if-answer-ne-DESCRIPTOR.true refl refl
