use Rattle.std.specs.Prelude.{Some, None}
use Rattle.machine.proofs.Waiting.{fetch_goes, back-waits, waits-by}
use Rattle.machine.specs.Step.{became, rest_step}
use Rattle.machine.specs.declared.Reason.TheVariants as reason
use mathlib.Core.Bool.{Bool, cond}
use mathlib.Core.Path.{◌∙◌, sym, ap}
use Rattle.machine.proofs.Core.wait.Goals as goal

pub returns-then-has : goal.returns-then-has
unfolding rest_step
returns-then-has c = let m = c.args.self in
    λ w p q h. sym (waits-by (became w m) c.in-Rest.is ∙ simp (sym c.has.ensures.value ∙ c.if-has.true))

pub returns-else-has : goal.returns-else-has
unfolding rest_step
returns-else-has c = let m = c.args.self in
    λ w p q h. sym (waits-by (became w m) c.in-Rest.is ∙ simp (sym c.has.ensures.value ∙ c.if-has.false))

pub returns-in-Fetch : goal.returns-in-Fetch
returns-in-Fetch c = let m = c.args.self in
    λ w p q h. sym (waits-by (became w m) c.in-Fetch.is ∙ fetch_goes _)

pub returns-in-Move : goal.returns-in-Move
returns-in-Move c = let m = c.args.self in
    λ w p q h. c.move_wait.ensures w p q h ∙ sym (waits-by (became w m) c.in-Move.is)

pub returns-then-keeps : goal.returns-then-keeps
returns-then-keeps c = let m = c.args.self in
    λ w p q h. sym (waits-by (became w m) c.in-WriteBack.is ∙ back-waits _ _ ∙ ap (λ (b : Bool). cond b None (Some reason.LedgerFull)) (sym h ∙ c.if-keeps.true))

pub returns-else-keeps : goal.returns-else-keeps
returns-else-keeps c = let m = c.args.self in
    λ w p q h. sym (waits-by (became w m) c.in-WriteBack.is ∙ back-waits _ _ ∙ ap (λ (b : Bool). cond b None (Some reason.LedgerFull)) (sym h ∙ c.if-keeps.false))

pub returns-in-Ended : goal.returns-in-Ended
returns-in-Ended c = let m = c.args.self in
    λ w p q h. sym (waits-by (became w m) c.in-Ended.is)

pub returns-in-Halted : goal.returns-in-Halted
returns-in-Halted c = let m = c.args.self in
    λ w p q h. sym (waits-by (became w m) c.in-Halted.is)

pub returns-in-Faulted : goal.returns-in-Faulted
returns-in-Faulted c = let m = c.args.self in
    λ w p q h. sym (waits-by (became w m) c.in-Faulted.is)
