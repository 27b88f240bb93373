-- The calls on a timer: the number given back is the first that applies, and where it is not 0 nothing has changed.
-- Assumes nothing.
use mathlib.Core.Path.{refl}
use Rattle.timer.specs.Calls.{create_number, read_number, write_number, value_number, elapsed_number}
use Rattle.chain_calls.specs.Theorems.{TimerInOrder, TimerUnchanged}
use Rattle.chain_calls.proofs.Unchanged.{as_lent_lem}

pub timer-in-order : TimerInOrder
unfolding create_number read_number write_number value_number elapsed_number
timer-in-order = record {
  create = λ xs period r xs' p. record { number = p.answer; in_order = refl };
  read = λ xs offset value r value' p. record { number = p.answer; in_order = refl };
  write = λ xs offset v r xs' p. record { number = p.answer; in_order = refl };
  line = λ xs value r value' p. record { number = p.answer; in_order = refl };
  run = λ xs n value r xs' value' p. record { number = p.timer.answer; in_order = refl };
  elapsed = λ xs earlier later value r value' p. record { number = p.answer; in_order = refl };
}

pub timer-unchanged : TimerUnchanged
timer-unchanged = record {
  create = λ xs period r xs' p h. as_lent_lem p h;
  read = λ xs offset value r value' p h. as_lent_lem p h;
  write = λ xs offset v r xs' p h. as_lent_lem p h;
  line = λ xs value r value' p h. as_lent_lem p h;
  run = λ xs n value r xs' value' p h. (as_lent_lem p.timer h, as_lent_lem p.zeros h);
  elapsed = λ xs earlier later value r value' p h. as_lent_lem p h;
}
