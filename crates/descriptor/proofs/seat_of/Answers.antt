use Rattle.bus.proofs.Passed.{handed-on, handed-as}
use Rattle.descriptor.proofs.Seats.{seat-by, seat-at}
use mathlib.Core.Path.{sym, ◌∙◌}
use Rattle.descriptor.proofs.seat_of.Goals as goal

pub returns-in_err-window : goal.returns-in_err-window
returns-in_err-window c = handed-on _ c.from_residual.ensures.1 ∙ sym (seat-by _ _ _ (sym c.checked.ensures.answer ∙ c.in_err-window.was))

pub returns-in_err-place : goal.returns-in_err-place
returns-in_err-place c = handed-as _ c.from_residual-in_err-place.ensures.1 ∙ sym (seat-at _ _ _ (sym c.checked.ensures.answer ∙ c.in_ok-window.was) (sym c.spot_of.ensures.value ∙ c.in_err-place.was))

pub returns : goal.returns
returns c = sym (seat-at _ _ _ (sym c.checked.ensures.answer ∙ c.in_ok-window.was) (sym c.spot_of.ensures.value ∙ c.in_ok-place.was))
