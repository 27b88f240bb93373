use Rattle.sgdma.proofs.Changed.{create-short, create-keeps}
use mathlib.Core.Path.{refl}
use borrow.Author.Rules.{rules}
use Rattle.sgdma.proofs.sgdma_create.Goals as goal

pub returns-then-image-ne-IMAGE : goal.returns-then-image-ne-IMAGE
returns-then-image-ne-IMAGE c = create-short c.if-image-ne-IMAGE.true refl refl

pub put_image-requires : goal.put_image-requires
put_image-requires c = record { m_value = create-keeps c.args.base c.args.length c.fresh.ensures.value c.checked.ensures.answer (search rules); image_len = search rules }
