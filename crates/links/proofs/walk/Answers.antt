use Prim.Native.Nat.{ℕ}
use mathlib.Core.Path.{◌≡◌, sym, ap, subst, ◌∙◌}
use mathlib.Core.List.{List}
use native.Mathlib.Omega.{arith}
use lib.ListN.{drop}
use Rattle.words.specs.Promise.{Gives}
use Rattle.words.proofs.Bytes.{all-bytes, take-bytes, drop-bytes}
use Rattle.bus.specs.declared.Window.{Window}
use Rattle.descriptor.specs.Layout.{descriptor_at}
use Rattle.descriptor.specs.Looking.{spot_of, named_in}
use Rattle.descriptor.proofs.Looks.{named-at}
use Rattle.links.specs.declared.Walked.{Walked}
use Rattle.links.specs.Helpers.Walks.{Walks}
use Rattle.links.proofs.Turns.{first-turn, out-missed, found, Here, out-overlaps, out-sound, low-enough, turned, never}
use Rattle.links.proofs.walk.Goals as goal
use Rattle.links.proofs.walk.Goals.{After-index-at, After-named-d}

-- a turn that has found a place
here : (c : After-index-at)
    → let l = c.loop-position in
    Here c.args.window c.args.bytes.now c.args.pointer l.cells l.last l.address l.position c.index-at.result
here c =
    record {
      lim = c.requires;
      turn = c.loop-position.invariant;
      early = c.loop-position-test.true;
      place = found _ _ c.in-Ok.place _ (ap (spot_of c.args.window) (sym c.on_bus.ensures) ∙ sym c.spot_of.ensures.value ∙ c.in-Ok.is) c.index-at.ensures.value;
    }

-- the descriptor that stands there
says : (c : After-named-d)
    → c.named-d.result ≡ descriptor_at c.args.bytes.now c.index-at.result
says c =
    let xs = c.args.bytes.now in
    let n = c.index-at.result in
    let bytes = take-bytes 32 (drop n xs) (drop-bytes n xs (all-bytes xs (λ i. (c.type_inv.bytes i).fits))) in
    c.named-d.ensures.value ∙ ap named_in c.raw_in.ensures.value ∙ named-at xs n bytes

-- what a stopped walk gives is what the walk gives
stops : {w : Window} {mem : List ℕ} {p : ℕ} {r s : Walked} → Gives s r → Walks w mem p s → Walks w mem p r
stops {w} {mem} {p} g h = subst (Walks w mem p) (sym g.value) h

pub loop-position-init : goal.loop-position-init
loop-position-init c = first-turn c.args.window c.args.bytes.now c.args.pointer

pub returns-in-Err : goal.returns-in-Err
returns-in-Err c =
    stops c.stopped.ensures
    (out-missed c.loop-position.invariant c.loop-position-test.true c.in-Err.miss
    (ap (spot_of c.args.window) (sym c.on_bus.ensures) ∙ sym c.spot_of.ensures.value ∙ c.in-Err.is) c.into.ensures.value)

pub overflow_add-p : goal.overflow_add-p
overflow_add-p c = let h = low-enough (here (goal.at.overflow_add-p c).After-index-at) in omega (arith, h)

pub free-requires-clause-place_bound : goal.free-requires-clause-place_bound
free-requires-clause-place_bound c = low-enough (here (goal.at.free-requires-clause-place_bound c).After-index-at)

pub returns-then-not-free : goal.returns-then-not-free
returns-then-not-free c =
    stops c.stopped-then-not-free.ensures (out-overlaps (here (goal.at.returns-then-not-free c).After-index-at) (sym c.free.ensures ∙ c.if-not-free.true))

pub returns-then-not-has : goal.returns-then-not-has
returns-then-not-has c =
    stops c.stopped-then-not-has.ensures
    (out-sound (here (goal.at.returns-then-not-has c).After-index-at) (sym c.free.ensures ∙ c.if-not-free.false) c.named-d.result
    (says (goal.at.returns-then-not-has c).After-named-d) (sym c.has.ensures.value ∙ c.if-not-has.true))

pub bounds-cells-p : goal.bounds-cells-p
bounds-cells-p c = let h = low-enough (here (goal.at.bounds-cells-p c).After-index-at) in omega (arith, h)

pub loop-position-preserved : goal.loop-position-preserved
loop-position-preserved c = turned (here (goal.at.loop-position-preserved c).After-index-at) (sym c.free.ensures ∙ c.if-not-free.false) c.named-d.result (says (goal.at.loop-position-preserved c).After-named-d)
    (sym c.has.ensures.value ∙ c.if-not-has.false)

pub returns : goal.returns
returns c = absurd (never c.requires c.loop-position.invariant c.loop-position-test.false)
