-- Where a Fetch can lead.
-- Assumes nothing.
use Rattle.std.specs.Prelude.{Some}
use Rattle.descriptor.specs.declared.Descriptor.{Descriptor}
use Rattle.descriptor.specs.Looking.{look_at}
use Rattle.machine.specs.declared.Phase.TheVariants.{Move}
use Rattle.machine.specs.State.{no_length, home, with_phase, with_pointer, rested}
use Rattle.machine.specs.Step.{World, Answer, home_bytes, taken, became, holding, faulted, ended, begun}

-- to Rest
abbrev pub rests_at : World → Answer
rests_at w = taken (became w (rested w.core))

-- to the chain's end
abbrev pub ends_at : World → Answer
ends_at w = taken (became w (ended w.core))

-- to the fault of a length of 0
abbrev pub empty_at : World → Answer
empty_at w = faulted w no_length w.core.pointer.0

-- to Move, with the next one read ahead
abbrev pub begins_at : World → Descriptor → Answer
begins_at w d =
    let m = w.core in
    taken
    (holding (became w (with_phase (Move (begun m.pointer.0 d)) (with_pointer d.next m))) (Some (look_at (home m) (home_bytes w) d.next)))
