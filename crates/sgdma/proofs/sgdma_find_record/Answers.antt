use mathlib.Core.Path.{refl}
use Rattle.sgdma.proofs.Answered.{finding-short}
use Rattle.sgdma.proofs.sgdma_find_record.Goals as goal

pub returns-then-answer-ne-FINDING : goal.returns-then-answer-ne-FINDING
returns-then-answer-ne-FINDING c = finding-short c.if-answer-ne-FINDING.true refl refl
