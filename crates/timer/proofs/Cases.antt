-- The worked cases hold.
-- Assumes nothing.
use Rattle.std.proofs.Common.{refl}
use Rattle.timer.specs.Counting.{tick_of, after_ticks, zeros_in, ran_of}
use Rattle.timer.specs.Registers.{read_of, write_of, between_of}
use Rattle.timer.specs.Saved.{bytes_of_timer, numbers, load_of}
use Rattle.timer.specs.Theorems.{TimerCasesHold}

pub timer-cases-hold : TimerCasesHold
unfolding tick_of after_ticks zeros_in ran_of read_of write_of between_of bytes_of_timer numbers load_of
timer-cases-hold = record {
  one = refl;
  two = refl;
  three = refl;
  eight = refl;
  from_zero = refl;
  five = refl;
  once = refl;
  stands = refl;
  once_zero = refl;
  still = refl;
  status = refl;
  control = refl;
  periodl = refl;
  periodh = refl;
  snapl = refl;
  snaph = refl;
  none = refl;
  start = refl;
  enable = refl;
  both = refl;
  clear = refl;
  clear_any = refl;
  load = refl;
  loadh = refl;
  snap = refl;
  snap_still = refl;
  write_none = refl;
  up = refl;
  not_enabled = refl;
  not_yet = refl;
  elapsed = refl;
  other = refl;
  in_bytes = refl;
  out_bytes = refl;
  above = refl;
  stray = refl;
  short = refl;
}
