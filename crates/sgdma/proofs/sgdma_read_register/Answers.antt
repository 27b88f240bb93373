use Rattle.bus.proofs.Passed.{handed-number, told-by}
use Rattle.sgdma.proofs.Answered.{register-short, value-short, register-spoiled, register-answers}
use Rattle.answers.proofs.Filled.{is-put}
use mathlib.Core.Path.{refl, sym, ◌∙◌}
use Rattle.sgdma.proofs.sgdma_read_register.Goals as goal

pub returns-then-image-ne-IMAGE : goal.returns-then-image-ne-IMAGE
returns-then-image-ne-IMAGE c = register-short c.if-image-ne-IMAGE.true refl refl

pub returns-then-value-ne-VALUE : goal.returns-then-value-ne-VALUE
returns-then-value-ne-VALUE c = value-short c.if-image-ne-IMAGE.false c.if-value-ne-VALUE.true refl refl

pub returns-in_default : goal.returns-in_default
returns-in_default c = register-spoiled c.if-image-ne-IMAGE.false c.if-value-ne-VALUE.false (sym c.load-loaded.ensures.answer ∙ c.in_default.is) (handed-number _ _ (told-by c.in_default.is c.and.ensures)) refl

pub returns-in_err-v : goal.returns-in_err-v
returns-in_err-v c = register-answers c.if-image-ne-IMAGE.false c.if-value-ne-VALUE.false (sym c.load-loaded.ensures.answer ∙ c.in-Ok.is) c.register.ensures c.in_err-v.was
    (handed-number _ _ c.from_residual.ensures.1) refl

pub returns : goal.returns
returns c = register-answers c.if-image-ne-IMAGE.false c.if-value-ne-VALUE.false (sym c.load-loaded.ensures.answer ∙ c.in-Ok.is) c.register.ensures c.in_ok-v.was
    refl (c.put_value.ensures.lent ∙ is-put _ _ c.if-value-ne-VALUE.false)
