use Prim.Native.Nat.{ℕ, ◌≤◌}
use mathlib.Core.Path.{◌≡◌, sym, ap, ◌∙◌}
use mathlib.Core.Bool.{true, false}
use native.Mathlib.Omega.{arith}
use lib.ListN.{length, take, drop, length-drop}
use Rattle.flow.specs.Beats.{beats_in}
use Rattle.flow.specs.Rows.{gathered, spread, absorbed_count}
use Rattle.flow.proofs.Streams.{length-beats}
use Rattle.flow.proofs.InBlocks.{none-taken, all-taken}
use Rattle.flow.proofs.Fitting.{told, both-room}
use Rattle.flow.proofs.absorb.Goals as goal

pub returns-then-both : goal.returns-then-both
returns-then-both c = let a = c.args in
    let bs = drop a.taken (beats_in a.beats.now) in
    let r = c.absorb_blocks in
    let none = none-taken bs a.to.fixed a.to.first a.window.now a.first in
    let all = r.ensures.taken _ _ (c.absorb_blocks-by_small.ensures.taken _ _ (c.absorb_blocks-by_large.ensures.taken _ _ none)) in
    let lent : a.most ≤ length bs = rw (length-drop a.taken (beats_in a.beats.now), length-beats a.beats.now) (omega (arith, (both-room c.fits.ensures c.fits-2.ensures c.if-both.true).1)) in
    let n : r.result.count ≡ absorbed_count a.window.now a.to.fixed a.to.first a.beats.now a.taken a.most =
    all-taken bs a.most r.result.count r.ensures.count lent all.quiet r.ensures.ends ∙ sym (told _ _ true c.fits.ensures c.fits-2.ensures c.if-both.true) in
    record {
      count = n;
      errors = all.errors ∙ ap (λ (k : ℕ). gathered a.first (take k bs)) n;
      lent = all.lent ∙ ap (spread a.window.now a.to.fixed a.to.first bs) n;
    }

pub returns : goal.returns
unfolding spread
returns c = let a = c.args in
    let bs = drop a.taken (beats_in a.beats.now) in
    let n : absorbed_count a.window.now a.to.fixed a.to.first a.beats.now a.taken a.most ≡ 0 = told _ _ false c.fits.ensures c.fits-2.ensures c.if-both.false in
    record {
      count = sym n;
      errors = sym (ap (λ (k : ℕ). gathered a.first (take k bs)) n);
      lent = sym (ap (spread a.window.now a.to.fixed a.to.first bs) n);
    }
