use Rattle.bus.proofs.Passed.{told-by}
use Rattle.std.proofs.Common.{sym, ap, ◌∙◌}
use Rattle.timer.specs.declared.Timer.{Timer}
use Rattle.timer.specs.Registers.{register_of}
use Rattle.timer.specs.Calls.{value_bytes, register_number, read_number}
use Rattle.timer.proofs.InRegisters.{value-is}
use Rattle.timer.proofs.Opened.{register-is, not-opened, refused-then, done_then, value_sized}
use Rattle.timer.proofs.calls.read.Goals as goal

pub returns-in_default : goal.returns-in_default
unfolding read_number
returns-in_default c = not-opened _ _ _ c.and.result (told-by c.in_default.is c.and.ensures) (sym c.opened-loaded.ensures.value ∙ c.in_default.is)

pub returns-in_err-v : goal.returns-in_err-v
unfolding read_number
returns-in_err-v c = refused-then _ _ (sym c.opened-loaded.ensures.value ∙ c.in-Ok.is) (λ (t : Timer). register_number c.args.offset)
    c.in_err-v.field-0.0 c.from_residual.result c.from_residual.ensures.1 (register-is _ ∙ sym c.in_err-v.ensures.number)

pub put_value-requires : goal.put_value-requires
put_value-requires c = value_sized _ _ (sym c.opened-loaded.ensures.value ∙ c.in-Ok.is)

pub returns : goal.returns
unfolding read_number
returns c = done_then _ _ (sym c.opened-loaded.ensures.value ∙ c.in-Ok.is) (λ (t : Timer). register_number c.args.offset)
    (λ (t : Timer). value_bytes (register_of t c.args.offset)) (register-is _ ∙ sym c.in_ok-v.ensures.number)
    (c.put_value.ensures.lent ∙ ap value_bytes (value-is _ _ (sym c.in_ok-v.ensures.answer)).1)
