use Rattle.bus.proofs.Passed.{told-by}
use Rattle.std.proofs.Common.{sym, ap, ◌∙◌}
use Rattle.timer.specs.declared.Timer.{Timer}
use Rattle.timer.specs.Registers.{written_of}
use Rattle.timer.specs.Saved.{bytes_of_timer, sized, load_of}
use Rattle.timer.specs.Calls.{register_number, write_number}
use Rattle.timer.specs.Helpers.Parts.{opened_of}
use Rattle.timer.proofs.InRegisters.{written_is}
use Rattle.timer.proofs.Opened.{register-is, not-opened, refused-then, done_then}
use Rattle.timer.proofs.calls.write.Goals as goal

pub returns-in_default : goal.returns-in_default
unfolding write_number load_of opened_of
returns-in_default c = not-opened (sized c.args.timer.now) c.args.timer.now _ c.and.result (told-by c.in_default.is c.and.ensures)
    (sym c.load-loaded.ensures.answer ∙ c.in_default.is)

pub returns-in_err-u : goal.returns-in_err-u
unfolding write_number load_of opened_of
returns-in_err-u c = refused-then (sized c.args.timer.now) c.args.timer.now (sym c.load-loaded.ensures.answer ∙ c.in-Ok.is)
    (λ (t : Timer). register_number c.args.offset)
    c.in_err-u.field-0.0 c.from_residual.result c.from_residual.ensures.1 (register-is _ ∙ sym c.in_err-u.ensures.number)

pub returns : goal.returns
unfolding write_number load_of opened_of
returns c = done_then (sized c.args.timer.now) c.args.timer.now (sym c.load-loaded.ensures.answer ∙ c.in-Ok.is)
    (λ (t : Timer). register_number c.args.offset)
    (λ (t : Timer). bytes_of_timer (written_of t c.args.offset c.args.value)) (register-is _ ∙ sym c.in_ok-u.ensures.number)
    (c.pack.ensures.lent ∙ ap bytes_of_timer (written_is _ _ _ (sym c.in_ok-u.ensures.answer)).1)
