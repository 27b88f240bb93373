use Rattle.bus.proofs.Passed.{handed-number, told-by}
use mathlib.Core.Path.{refl, sym, ◌∙◌}
use Rattle.sgdma.proofs.Changed.{written_keeps, image-short, image-spoiled}
use borrow.Author.Rules.{rules}
use Rattle.sgdma.proofs.sgdma_write_register.Goals as goal

pub returns-then-image-ne-IMAGE : goal.returns-then-image-ne-IMAGE
returns-then-image-ne-IMAGE c = image-short c.if-image-ne-IMAGE.true refl refl

pub returns-in_default : goal.returns-in_default
returns-in_default c = image-spoiled (sym c.load-loaded.ensures.answer ∙ c.in_default.is) (handed-number _ _ (told-by c.in_default.is c.and.ensures)) refl

pub put_image-requires : goal.put_image-requires
put_image-requires c = record { m_value = written_keeps _ c.args.offset c.args.value (sym c.load-loaded.ensures.answer ∙ c.in-Ok.is) c.ranges.value.fits c.write.ensures (search rules); image_len = search rules }
