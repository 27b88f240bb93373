use Rattle.std.specs.Prelude.{Ok}
use Rattle.std.specs.Option.{ok_or}
use mathlib.Core.Path.{◌≡◌, ap, ◌∙◌}
use Prim.Native.Nat.{ℕ}
use native.Mathlib.Omega.{arith}
use Rattle.bus.specs.declared.Refusal.TheVariants.{NothingToKeep}
use Rattle.bus.specs.Window.{place_of, located_of}
use Rattle.bus.proofs.Limits.{located-at}
use Rattle.links.proofs.Cuts.{cut-none, cut-some}
use Rattle.links.proofs.mending.cut.Goals as goal
use Rattle.links.proofs.mending.cut.Goals.{After-ok_or}

-- the one before the defect is found
found : (c : After-ok_or) → let a = c.args in c.ok_or.result ≡ Ok (record { 0 = place_of a.window a.last })
found c =
    let a = c.args in let h = c.if-position-eq0.false in
    c.ok_or.ensures.value
    ∙ ap (λ x. ok_or x NothingToKeep)
    (c.locate-found.ensures.answer ∙ ap (λ (x : ℕ). located_of a.window x 32) c.on_bus.ensures
    ∙ located-at a.window a.last 32 (c.requires.keeps_front.inside (omega (arith, h))))

pub returns-then-position-eq0 : goal.returns-then-position-eq0
returns-then-position-eq0 c = cut-none _ _ _ _ c.if-position-eq0.true

pub returns-in_err-place : goal.returns-in_err-place
returns-in_err-place c = absurd (cc (found (goal.at.returns-in_err-place c).After-ok_or, c.in_err-place.was))

pub returns : goal.returns
returns c = let a = c.args in
    cut-some a.window a.bytes.now a.position a.last c.if-position-eq0.false _
    (cc (found (goal.at.returns c).After-ok_or, c.in_ok-place.was, c.index-control.ensures.value))
