use Rattle.bus.proofs.Passed.{told-by}
use Rattle.std.proofs.Common.{sym, refl, ap, ◌∙◌}
use Rattle.words.specs.Bits.{flag}
use Rattle.timer.specs.declared.Timer.{Timer}
use Rattle.timer.specs.Registers.{line_up}
use Rattle.timer.specs.Calls.{value_bytes, value_number}
use Rattle.timer.proofs.Opened.{not-opened, done_then, value_sized}
use Rattle.timer.proofs.calls.line.Goals as goal

pub returns-in_default : goal.returns-in_default
unfolding value_number
returns-in_default c = not-opened _ _ _ c.and.result (told-by c.in_default.is c.and.ensures) (sym c.opened-loaded.ensures.value ∙ c.in_default.is)

pub put_value-requires : goal.put_value-requires
put_value-requires c = value_sized _ _ (sym c.opened-loaded.ensures.value ∙ c.in-Ok.is)

pub returns : goal.returns
unfolding value_number
returns c = done_then _ _ (sym c.opened-loaded.ensures.value ∙ c.in-Ok.is) (λ (t : Timer). 0) (λ (t : Timer). value_bytes (flag (line_up t))) refl
    (c.put_value.ensures.lent ∙ ap value_bytes (c.flag.ensures.value ∙ ap flag c.line.ensures.value))
