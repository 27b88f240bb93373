use Prim.Native.Nat.{ℕ, ◌+◌}
use mathlib.Core.Path.{◌≡◌, refl, ap, sym, ◌∙◌}
use mathlib.Core.Bool.{Bool, true, false}
use mathlib.Core.List.{List}
use native.Mathlib.Numerals.{add-one}
use native.Mathlib.Omega.{arith}
use lib.ListN.{get_or, set}
use Rattle.flow.specs.Rows.{landing, copied, copied_over}
use Rattle.flow.proofs.Fitting.{told}
use Rattle.flow.proofs.copy.Goals as goal

-- one turn
turn : (w now : List ℕ) (stays : Bool) (from : ℕ) (fixed : Bool) (to i : ℕ) {at source : ℕ} → now ≡ copied w stays from fixed to i
    → at ≡ landing fixed to i → source ≡ landing stays from i → set now at (get_or now source 0) ≡ copied w stays from fixed to (i + 1)
unfolding copied
turn w now stays from fixed to i e p q = rw (add-one i) (λ x. set (e x) (p x) (get_or (e x) (q x) 0))

pub loop-i-init : goal.loop-i-init
unfolding copied
loop-i-init c = refl

pub loop-i-preserved : goal.loop-i-preserved
loop-i-preserved c = let a = c.args in
    turn a.window.now c.loop-i.window a.from.fixed a.from.first a.to.fixed a.to.first c.loop-i.i c.loop-i.invariant c.place-in-loop-i.ensures c.place.ensures

pub returns-after-loop-i : goal.returns-after-loop-i
unfolding copied_over
returns-after-loop-i c = let a = c.args in
    let all : c.loop-i.i ≡ a.n = omega arith in
    record { lent = c.loop-i.invariant ∙ ap (copied a.window.now a.from.fixed a.from.first a.to.fixed a.to.first) all ∙ sym (told _ _ true c.fits.ensures c.fits-2.ensures c.if-both.true) }

pub returns-else-both : goal.returns-else-both
unfolding copied_over
returns-else-both c = record { lent = sym (told _ _ false c.fits.ensures c.fits-2.ensures c.if-both.false) }
