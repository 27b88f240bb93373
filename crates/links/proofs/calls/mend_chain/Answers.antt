use mathlib.Core.Path.{sym, subst}
use Rattle.bus.specs.Refusal.{answer_number}
use Rattle.bus.proofs.Passed.{handed-on}
use Rattle.links.specs.Calls.{ChainMended}
use Rattle.links.proofs.Telling.{mend-size, mend-refused, mend-told}
use Rattle.links.proofs.calls.mend_chain.Goals as goal

pub returns-then-answer-ne-CHANGE : goal.returns-then-answer-ne-CHANGE
returns-then-answer-ne-CHANGE c = let a = c.args in
    mend-size a.window.now a.base a.pointer a.answer.now c.if-answer-ne-CHANGE.true

pub returns-in_err-mended : goal.returns-in_err-mended
returns-in_err-mended c = let a = c.args in
    subst (λ r. ChainMended a.window.now a.base a.pointer a.answer.now (answer_number {A = Unit {0}} r) c.mend.new.window a.answer.now) (sym (handed-on _ c.from_residual.ensures.1))
    (mend-refused a.window.now a.base a.pointer a.answer.now c.if-answer-ne-CHANGE.false _ _ c.mend.ensures _ c.in_err-mended.was)

pub returns : goal.returns
returns c = let a = c.args in
    mend-told a.window.now a.base a.pointer a.answer.now c.if-answer-ne-CHANGE.false _ _ c.mend.ensures _ _ c.in_ok-mended.was
    c.put_change.ensures.lent
