use Prim.Native.Nat.{ℕ, ◌+◌, ◌*◌, ◌^◌, ◌<◌}
use mathlib.Core.Path.{sym, ap, ◌∙◌}
use mathlib.Core.List.{List}
use Rattle.words.specs.declared.Order.TheVariants.{MostFirst}
use Rattle.words.specs.Orders.{bytes_of}
use Rattle.words.specs.Slices.{put_at}
use Rattle.answers.proofs.Filled.{not-put, descriptor-filled}
use borrow.Author.Rules.{rules}
use Rattle.answers.proofs.put_descriptor.Goals as goal
use Rattle.answers.proofs.put_descriptor.Goals.{Start}

-- what the types of the two numbers behind another give
typed : (c : Start) → (c.args.d.actual < 2 ^ 16) × (c.args.d.control.0 < 2 ^ 8)
typed c = search rules

pub returns-then-answer-ne-DESCRIPTOR : goal.returns-then-answer-ne-DESCRIPTOR
returns-then-answer-ne-DESCRIPTOR c = record { lent = sym (not-put _ _ c.if-answer-ne-DESCRIPTOR.true) }

pub returns : goal.returns
returns c = let d = c.args.d in
    record {
      lent = c.put_u16.ensures.lent
          ∙ ap (λ (l : List ℕ). put_at l 16 (bytes_of MostFirst 2 (d.status * 256 + d.control.0))) c.put_words.ensures.lent
          ∙ descriptor-filled c.args.answer.now d c.if-answer-ne-DESCRIPTOR.false (typed (goal.at.returns c).Start).0 (typed (goal.at.returns c).Start).1;
    }
