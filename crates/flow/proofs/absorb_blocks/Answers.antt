use Prim.Native.Nat.{ℕ, ◌+◌, ◌%◌}
use mathlib.Core.Path.{◌≡◌, refl, sym, subst}
use mathlib.Core.List.{List}
use native.Mathlib.Omega.{arith}
use lib.ListN.{length, drop}
use lib.Seq.{drop-drop}
use borrow.Author.Rules.{rules}
use Rattle.flow.specs.Beats.{beats_in}
use Rattle.flow.specs.Helpers.Blocks.{Quiet, Seen, Holds}
use Rattle.flow.proofs.InBlocks.{taken_more}
use Rattle.flow.proofs.absorb_blocks.Goals as goal

-- what holds of the beats behind others
behind : (P : List ℕ → Type 0) (bs : List ℕ) (taken count : ℕ) → P (drop (taken + count) bs) → P (drop count (drop taken bs))
behind P bs taken count = subst P (sym (drop-drop count taken bs))

pub returns-then-some-eq1 : goal.returns-then-some-eq1
returns-then-some-eq1 c = let a = c.args in
    let look = c.look-some in
    let seen = behind (λ (bs : List ℕ). Seen bs (length look.new.block) look.result) (beats_in a.beats.now) a.taken c.loop-block.count look.ensures.0 in
    let same : length a.block.now ≡ length look.new.block = search rules in
    record {
      count = c.loop-block.invariant.0;
      taken = c.loop-block.invariant.1;
      ends = λ q. let even = seen.quiet (subst (Quiet (drop c.loop-block.count (drop a.taken (beats_in a.beats.now)))) same q) in absurd (omega (arith, even, c.if-some-eq1.true));
    }

pub loop-block-preserved : goal.loop-block-preserved
loop-block-preserved c = let a = c.args in
    let look = c.look-some in
    let bs = drop a.taken (beats_in a.beats.now) in
    let even : look.result % 2 ≡ 0 = omega (arith, c.if-some-eq1.false) in (
      search rules,
      λ mem first t.
          taken_more bs a.to.fixed a.to.first mem first c.loop-block.count c.loop-block.errors (length look.new.block) look.result look.new.block c.loop-block.window c.lay.new.window
          (behind (λ (bs : List ℕ). Seen bs (length look.new.block) look.result) (beats_in a.beats.now) a.taken c.loop-block.count look.ensures.0) even refl
          (behind (λ (bs : List ℕ). Holds look.new.block bs (length look.new.block)) (beats_in a.beats.now) a.taken c.loop-block.count look.ensures.1) c.lay.ensures (c.loop-block.invariant.1 mem first t),
    )
