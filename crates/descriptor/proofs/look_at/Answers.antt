use Rattle.bus.proofs.Passed.{handed-on}
use Rattle.descriptor.proofs.Looks.{look-by}
use Rattle.std.specs.Prelude.{Ok}
use mathlib.Core.Path.{sym, ap, ◌∙◌}
use Rattle.descriptor.proofs.look_at.Goals as goal

pub returns-in_err-at : goal.returns-in_err-at
returns-in_err-at c = record { value = handed-on _ c.from_residual.ensures.1 ∙ sym (look-by _ c.args.window.now _ (sym c.spot_of.ensures.value ∙ c.in_err-at.was)) }

pub returns : goal.returns
returns c = record { value = ap Ok c.raw_at.ensures.value ∙ sym (look-by _ c.args.window.now _ (sym c.spot_of.ensures.value ∙ c.in_ok-at.was)) }
