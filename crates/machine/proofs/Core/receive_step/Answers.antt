use mathlib.Core.Path.{refl, ◌∙◌}
use native.Mathlib.Omega.{arith}
use Rattle.machine.proofs.Places.{inside, outside, place, fits}
use Rattle.machine.proofs.Readiness.{one-more}
use Rattle.machine.proofs.AtMove.{fault-at, receive-in, receive-out}
use Rattle.machine.specs.Helpers.Worlds.{reached_as}
use Rattle.machine.proofs.Core.receive_step.Goals as goal

pub bounds-window-at : goal.bounds-window-at
bounds-window-at c = omega (arith, fits c.locate.ensures c.in-Some.is, c.index-at.ensures.value, c.requires.in_move.size)

pub onward-requires : goal.onward-requires
onward-requires c = one-more (omega arith) c.requires.in_move

pub returns-in_default : goal.returns-in_default
returns-in_default c = let a = c.args in
    let s = a.streams.now in
    let to = c.write_address-a.ensures in
    record {
      kept = record { beats = refl; out = refl; room = refl };
      went = receive-out a.self a.k a.window.now s.beats.now s.taken s.out.now s.made c.requires.more (outside c.locate.ensures to c.in_default.is) (fault-at a.self 14 c.missed.ensures to) refl;
    }

pub returns : goal.returns
returns c = let a = c.args in
    let s = a.streams.now in
    let got = c.take-beat.ensures in
    let e = c.in-Some.is in
    let to = c.write_address-a.ensures in
    let at = c.index-at.ensures.value ∙ place c.locate.ensures to e in
    record {
      kept = got.kept;
      went = rw got.made.1 (receive-in a.self a.k a.window.now s.beats.now s.taken s.out.now s.made c.requires.more (inside c.locate.ensures to e) refl got.beat at c.onward.ensures
          (λ x. reached_as c.onward.result (got.taken x) (got.made.0 x)));
    }
