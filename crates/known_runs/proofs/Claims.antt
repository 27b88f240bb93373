-- The tables hold, by computation over the definitions.
-- Assumes nothing.
use mathlib.Core.Path.{refl}
use Rattle.words.specs.Slices.{put_at}
use Rattle.bus.specs.Window.{keeps_limits, checked_of, in_window, located_of}
use Rattle.descriptor.specs.Layout.{descriptor_at}
use Rattle.descriptor.specs.Looking.{is_zero, spot_of, named_in, raw_at, look_at}
use Rattle.regs.specs.Control.{counted}
use Rattle.image.specs.Rules.{rules, lowest_broken, keeps_rules}
use Rattle.machine.specs.Registers.{control_written, write_of}
use Rattle.machine.specs.Step.{rest_step, fetched, seen, fetch_step, source_of, destination_of, onward, copy_step, beat_for, send_step, written_control, written_back, completed, write_back_step, step}
use Rattle.machine.specs.Run.{run}
use Rattle.known_runs.specs.Theorems.{KnownRunsHold, WorkedCasesHold}

-- the paper's eleven known runs
pub known-runs-hold : KnownRunsHold
unfolding rules lowest_broken keeps_rules keeps_limits checked_of in_window located_of put_at descriptor_at is_zero spot_of named_in raw_at look_at control_written write_of rest_step fetched seen fetch_step source_of destination_of onward copy_step beat_for send_step written_control written_back counted completed write_back_step step run
known-runs-hold = refl

-- the cases worked out by hand
pub worked-cases-hold : WorkedCasesHold
unfolding rules lowest_broken keeps_rules keeps_limits checked_of in_window located_of put_at descriptor_at is_zero spot_of named_in raw_at look_at control_written write_of rest_step fetched seen fetch_step source_of destination_of onward copy_step beat_for send_step written_control written_back counted completed write_back_step step run
worked-cases-hold = refl
