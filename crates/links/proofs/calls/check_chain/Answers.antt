use mathlib.Core.Path.{sym, subst}
use Rattle.bus.specs.Refusal.{answer_number}
use Rattle.bus.proofs.Passed.{handed-on}
use Rattle.links.specs.Calls.{ChainChecked}
use Rattle.links.proofs.Telling.{other-size, told-refused, told-verdict}
use Rattle.links.proofs.calls.check_chain.Goals as goal

pub returns-then-answer-ne-VERDICT : goal.returns-then-answer-ne-VERDICT
returns-then-answer-ne-VERDICT c = let a = c.args in
    other-size a.window.now a.base a.pointer a.answer.now c.if-answer-ne-VERDICT.true

pub returns-in_err-verdict : goal.returns-in_err-verdict
returns-in_err-verdict c = let a = c.args in
    subst (λ r. ChainChecked a.window.now a.base a.pointer a.answer.now (answer_number {A = Unit {0}} r) a.answer.now) (sym (handed-on _ c.from_residual.ensures.1))
    (told-refused a.window.now a.base a.pointer a.answer.now c.if-answer-ne-VERDICT.false _ c.check.ensures _ c.in_err-verdict.was)

pub returns : goal.returns
returns c = let a = c.args in
    told-verdict a.window.now a.base a.pointer a.answer.now c.if-answer-ne-VERDICT.false _ c.check.ensures _ _ c.in_ok-verdict.was
    c.put_verdict.ensures.lent
