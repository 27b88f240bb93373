use Rattle.bus.proofs.Passed.{handed-number, told-by}
use mathlib.Core.Path.{refl, sym, ◌∙◌}
use Rattle.sgdma.proofs.Answered.{line-short, line-value-short, line-spoiled}
use Rattle.sgdma.proofs.sgdma_line.Goals as goal

pub returns-then-image-ne-IMAGE : goal.returns-then-image-ne-IMAGE
returns-then-image-ne-IMAGE c = line-short c.if-image-ne-IMAGE.true refl refl

pub returns-then-value-ne-VALUE : goal.returns-then-value-ne-VALUE
returns-then-value-ne-VALUE c = line-value-short c.if-image-ne-IMAGE.false c.if-value-ne-VALUE.true refl refl

pub returns-in_default : goal.returns-in_default
returns-in_default c = line-spoiled c.if-image-ne-IMAGE.false c.if-value-ne-VALUE.false (sym c.load-loaded.ensures.answer ∙ c.in_default.is) (handed-number _ _ (told-by c.in_default.is c.and.ensures)) refl
