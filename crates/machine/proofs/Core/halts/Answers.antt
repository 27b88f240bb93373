use Rattle.std.specs.Prelude.{Option, None}
use mathlib.Core.Path.{◌≡◌, sym, ap, ◌∙◌}
use mathlib.Core.Bool.{Bool}
use Rattle.machine.specs.declared.Reason.{Reason}
use Rattle.machine.specs.Helpers.Waiting.{halt_of}
use Rattle.machine.specs.Helpers.Lending.{HaltsOn}
use Rattle.machine.proofs.Waiting.{halts_at}
use Rattle.machine.proofs.Core.halts.Goals as goal
use Rattle.machine.proofs.Core.halts.Goals.{After-wait-wait}

-- what is told of this answer, where it is the one that the wait leaves
told : (c : After-wait-wait) (r : Option Reason) → r ≡ halt_of c.args.spent c.wait-wait.result
    → let a = c.args in HaltsOn a.self a.streams.now a.ledger.now a.used a.spent r
told c r h =
    let a = c.args in
    let s = a.streams.now in
    halts_at a.self s.beats.now s.taken s.out.now s.made a.ledger.now a.used a.spent (λ v more room keeps. c.wait-wait.ensures v (c.more.ensures ∙ more) (c.room.ensures ∙ room) keeps) c.has_room-room.ensures.value h

-- a step can be taken
abbrev goes : (b : Bool) {x : Option Reason} → x ≡ None → halt_of b None ≡ halt_of b x
goes b e = ap (halt_of b) (sym e)

pub returns-in-Some : goal.returns-in-Some
returns-in-Some c = told (goal.at.returns-in-Some c).After-wait-wait _ (c.in-Some.is ∙ ap (halt_of _) (sym c.in-Some.is))

pub returns-then-spent : goal.returns-then-spent
returns-then-spent c = told (goal.at.returns-then-spent c).After-wait-wait _ (ap (λ (b : Bool). halt_of b None) (sym c.if-spent.true) ∙ goes _ c.in_default.is)

pub returns : goal.returns
returns c = told (goal.at.returns c).After-wait-wait _ (ap (λ (b : Bool). halt_of b None) (sym c.if-spent.false) ∙ goes _ c.in_default.is)
