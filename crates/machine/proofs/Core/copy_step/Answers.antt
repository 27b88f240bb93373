use native.Mathlib.Omega.{arith}
use Rattle.machine.proofs.Places.{inside, outside, place, fits}
use Rattle.machine.proofs.Readiness.{one-more}
use Rattle.machine.proofs.AtMove.{fault-at, no_source, no-destination, copies}
use mathlib.Core.Path.{◌∙◌}
use Rattle.machine.proofs.Core.copy_step.Goals as goal

pub bounds-window-i : goal.bounds-window-i
bounds-window-i c = omega (arith, fits c.locate.ensures c.in-Some.is, c.index-i.ensures.value, c.requires.in_move.size)

pub bounds-window-j : goal.bounds-window-j
bounds-window-j c = omega (arith, fits c.locate-2.ensures c.in-Some-locate.is, c.index-j.ensures.value, c.requires.in_move.size)

pub onward-requires : goal.onward-requires
onward-requires c = one-more (omega arith) c.requires.in_move

pub returns-in_default : goal.returns-in_default
returns-in_default c = let a = c.args in
    let from = c.read_address-a.ensures in
    no_source a.self a.k a.window.now (outside c.locate.ensures from c.in_default.is)
    (fault-at a.self 13 c.missed.ensures from)

pub returns-in_default-locate : goal.returns-in_default-locate
returns-in_default-locate c = let a = c.args in
    let to = c.write_address-b.ensures in
    no-destination a.self a.k a.window.now (inside c.locate.ensures c.read_address-a.ensures c.in-Some.is)
    (outside c.locate-2.ensures to c.in_default-locate.is) (fault-at a.self 14 c.missed-in_default-locate.ensures to)

pub returns : goal.returns
returns c = let a = c.args in
    let from = c.read_address-a.ensures in
    let to = c.write_address-b.ensures in
    let e = c.in-Some.is in
    let f = c.in-Some-locate.is in
    copies a.self a.k a.window.now (inside c.locate.ensures from e) (inside c.locate-2.ensures to f) c.onward.ensures
    (c.index-i.ensures.value ∙ place c.locate.ensures from e) (c.index-j.ensures.value ∙ place c.locate-2.ensures to f)
