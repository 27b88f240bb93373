use mathlib.Core.Path.{refl, ap, ◌∙◌}
use native.Mathlib.Omega.{arith}
use Prim.Native.Nat.{ℕ}
use lib.ListN.{get_or}
use Rattle.machine.proofs.Places.{inside, outside, place, fits}
use Rattle.machine.proofs.Readiness.{one-more}
use Rattle.machine.proofs.AtMove.{fault-at, send-in, send-out}
use Rattle.machine.specs.Helpers.Worlds.{reached_as}
use Rattle.machine.specs.Step.{beat_for}
use Rattle.machine.proofs.Core.send_step.Goals as goal

pub bounds-window-at : goal.bounds-window-at
bounds-window-at c = omega (arith, fits c.locate.ensures c.in-Some.is, c.index-at.ensures.value, c.requires.in_move.size)

pub make-requires : goal.make-requires
make-requires c = c.requires.room (inside c.locate.ensures c.read_address-a.ensures c.in-Some.is)

pub onward-requires : goal.onward-requires
onward-requires c = one-more (omega arith) c.requires.in_move

pub returns-in_default : goal.returns-in_default
returns-in_default c = let a = c.args in
    let s = a.streams.now in
    let from = c.read_address-a.ensures in
    record {
      kept = record { beats = refl; out = refl; room = refl };
      went = send-out a.self a.k a.window.now s.beats.now s.taken s.out.now s.made (outside c.locate.ensures from c.in_default.is) (fault-at a.self 13 c.missed.ensures from) refl;
    }

pub returns : goal.returns
returns c = let a = c.args in
    let s = a.streams.now in
    let made = c.make.ensures in
    let e = c.in-Some.is in
    let inside-it = inside c.locate.ensures c.read_address-a.ensures e in
    let from = c.index-at.ensures.value ∙ place c.locate.ensures c.read_address-a.ensures e in
    record {
      kept = made.kept;
      went = send-in a.self a.k a.window.now s.beats.now s.taken s.out.now s.made inside-it (c.requires.room inside-it)
          (c.beat.ensures ∙ ap (λ (x : ℕ). beat_for a.k (get_or a.window.now x 0)) from) made.wrote c.onward.ensures
          (λ x. reached_as c.onward.result (made.taken x) (made.made x));
    }
