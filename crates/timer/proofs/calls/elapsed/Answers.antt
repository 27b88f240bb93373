use Rattle.bus.proofs.Passed.{told-by}
use Rattle.std.proofs.Common.{sym, ap, ◌∙◌}
use Rattle.timer.specs.declared.Timer.{Timer}
use Rattle.timer.specs.Registers.{elapsed_of}
use Rattle.timer.specs.Calls.{value_bytes, period_number, elapsed_number}
use Rattle.timer.proofs.InRegisters.{ticks-are}
use Rattle.timer.proofs.Opened.{period-is, not-opened, refused-then, done_then, value_sized}
use Rattle.timer.proofs.calls.elapsed.Goals as goal

pub returns-in_default : goal.returns-in_default
unfolding elapsed_number
returns-in_default c = not-opened _ _ _ c.and.result (told-by c.in_default.is c.and.ensures) (sym c.opened-loaded.ensures.value ∙ c.in_default.is)

pub returns-in_err-n : goal.returns-in_err-n
unfolding elapsed_number
returns-in_err-n c = refused-then _ _ (sym c.opened-loaded.ensures.value ∙ c.in-Ok.is) period_number
    c.in_err-n.field-0.0 c.from_residual.result c.from_residual.ensures.1 (period-is c.in-Ok.t ∙ sym c.in_err-n.ensures.number)

pub put_value-requires : goal.put_value-requires
put_value-requires c = value_sized _ _ (sym c.opened-loaded.ensures.value ∙ c.in-Ok.is)

pub returns : goal.returns
unfolding elapsed_number
returns c = done_then _ _ (sym c.opened-loaded.ensures.value ∙ c.in-Ok.is) period_number (λ (t : Timer). value_bytes (elapsed_of c.args.earlier c.args.later))
    (period-is c.in-Ok.t ∙ sym c.in_ok-n.ensures.number)
    (c.put_value.ensures.lent ∙ ap value_bytes (ticks-are _ _ _ (sym c.in_ok-n.ensures.answer)).1)
