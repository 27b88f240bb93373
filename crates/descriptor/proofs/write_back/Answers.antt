use Rattle.descriptor.proofs.Writing.{last_word}
use Rattle.descriptor.specs.Layout.{last_four}
use Rattle.words.proofs.Slices.{put-out}
use Rattle.words.specs.Slices.{put_at}
use native.Mathlib.Omega.{arith}
use Prim.Native.Nat.{ℕ, ◌+◌}
use mathlib.Core.Path.{sym, ap, ◌∙◌}
use borrow.Author.Rules.{rules}
use Rattle.descriptor.proofs.write_back.Goals as goal

pub returns-then-window-lt28 : goal.returns-then-window-lt28
returns-then-window-lt28 c = record { lent = sym (put-out _ _ _ (omega arith)) }

pub returns-then-window-index : goal.returns-then-window-index
returns-then-window-index c = record { lent = sym (put-out _ _ _ (omega arith)) }

pub returns : goal.returns
returns c = let a = c.args in
    record {
      lent = c.put_u32.ensures.lent
          ∙ ap (put_at a.window.now (c.index-index.result + 28)) (last_word a.actual a.status a.control (search rules) (search rules) (search rules))
          ∙ ap (λ (n : ℕ). put_at a.window.now (n + 28) (last_four a.actual a.status a.control)) c.index-index.ensures.value;
    }
