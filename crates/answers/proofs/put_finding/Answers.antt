use Prim.Native.Nat.{ℕ}
use mathlib.Core.Path.{sym, ap, ◌∙◌}
use mathlib.Core.List.{List}
use Rattle.words.specs.declared.Order.TheVariants.{MostFirst}
use Rattle.words.specs.Orders.{bytes_of}
use Rattle.words.specs.Slices.{put_at}
use Rattle.answers.proofs.Filled.{not-put, finding-filled}
use Rattle.answers.proofs.put_finding.Goals as goal

pub returns-then-answer-ne-FINDING : goal.returns-then-answer-ne-FINDING
returns-then-answer-ne-FINDING c = record { lent = sym (not-put _ _ c.if-answer-ne-FINDING.true) }

pub returns : goal.returns
returns c = let a = c.args in
    record {
      lent = c.put_u16-2.ensures.lent
          ∙ ap (λ (l : List ℕ). put_at l 2 (bytes_of MostFirst 2 a.count))
          (c.put_u16.ensures.lent ∙ ap (λ (n : ℕ). put_at a.answer.now 0 (bytes_of MostFirst 2 n)) c.flag.ensures.value)
          ∙ finding-filled a.answer.now a.found a.count c.if-answer-ne-FINDING.false;
    }
