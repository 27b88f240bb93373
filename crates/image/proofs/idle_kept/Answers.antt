use Rattle.image.specs.Rules.{rules, either, in_move}
use Rattle.image.proofs.Tests.{and-true, neither, no-mark, no-errors}
use lib.Dec.{eqb}
use mathlib.Core.Bool.{false}
use mathlib.Core.Path.{refl}
use Rattle.image.proofs.idle_kept.Goals as goal

pub returns : goal.returns
unfolding rules
returns c = let f = c.args.f in
    let none = neither (in_move f.phase) _ c.requires in
    rw (
      c.control_kept.ensures,
      c.status_kept.ensures,
      c.fault_kept.ensures,
      c.phase_kept.ensures,
      none.0,
      none.1,
      and-true (eqb f.address 0),
      and-true (eqb f.size 0),
      and-true (eqb f.dcontrol 0),
      no-errors (either 0 1 f.mode) f.errors _ refl,
      and-true (eqb f.moved 0),
      and-true (eqb f.moved 0),
      no-mark false (either 0 1 f.mode) f.eop,
    )
