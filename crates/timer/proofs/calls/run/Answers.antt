use Rattle.bus.proofs.Passed.{told-by}
use Rattle.std.proofs.Common.{sym, refl, ap, ◌∙◌}
use Rattle.timer.specs.declared.Timer.{Timer}
use Rattle.timer.specs.declared.Ran.{Ran}
use Rattle.timer.specs.Counting.{after_ticks, zeros_in, ran_of}
use Rattle.timer.specs.Saved.{bytes_of_timer}
use Rattle.timer.specs.Calls.{value_bytes, value_number}
use Rattle.timer.proofs.Opened.{not-opened, done_then, timer-sized, value_sized}
use Rattle.timer.proofs.calls.run.Goals as goal

pub returns-in_default : goal.returns-in_default
unfolding value_number
returns-in_default c = record {
  timer = not-opened _ _ _ c.and.result (told-by c.in_default.is c.and.ensures) (sym c.opened-loaded.ensures.value ∙ c.in_default.is);
  zeros = not-opened _ _ _ c.and.result (told-by c.in_default.is c.and.ensures) (sym c.opened-loaded.ensures.value ∙ c.in_default.is);
}

pub pack-requires : goal.pack-requires
pack-requires c = timer-sized _ _ (sym c.opened-loaded.ensures.value ∙ c.in-Ok.is)

pub put_value-requires : goal.put_value-requires
put_value-requires c = value_sized _ _ (sym c.opened-loaded.ensures.value ∙ c.in-Ok.is)

pub returns : goal.returns
unfolding value_number ran_of
returns c = record {
  timer = done_then _ _ (sym c.opened-loaded.ensures.value ∙ c.in-Ok.is) (λ (t : Timer). 0) (λ (t : Timer). bytes_of_timer (after_ticks c.args.ticks t)) refl
      (c.pack.ensures.lent ∙ ap (λ (r : Ran). bytes_of_timer r.timer) c.ticks-ran.ensures.value);
  zeros = done_then _ _ (sym c.opened-loaded.ensures.value ∙ c.in-Ok.is) (λ (t : Timer). 0) (λ (t : Timer). value_bytes (zeros_in c.args.ticks t)) refl
      (c.put_value.ensures.lent ∙ ap (λ (r : Ran). value_bytes r.zeros) c.ticks-ran.ensures.value);
}
