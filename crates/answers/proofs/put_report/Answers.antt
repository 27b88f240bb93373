use Prim.Native.Nat.{ℕ}
use mathlib.Core.Path.{sym, ap, ◌∙◌}
use mathlib.Core.List.{List, [], ◌∷◌}
use Rattle.words.specs.declared.Order.TheVariants.{MostFirst}
use Rattle.words.specs.Orders.{word_bytes}
use Rattle.words.specs.Slices.{put_at}
use Rattle.answers.proofs.Filled.{not-put, report-filled}
use Rattle.answers.proofs.put_report.Goals as goal

pub returns-then-report-ne-REPORT : goal.returns-then-report-ne-REPORT
returns-then-report-ne-REPORT c = record { lent = sym (not-put _ _ c.if-report-ne-REPORT.true) }

pub returns : goal.returns
returns c = let a = c.args in
    record {
      lent = c.put_words.ensures.lent
          ∙ ap (λ (l : List ℕ). put_at l 2 (word_bytes MostFirst (a.steps ∷ a.taken ∷ a.made ∷ a.used ∷ []))) c.put_u16.ensures.lent
          ∙ report-filled a.report.now a.reason a.steps a.taken a.made a.used c.if-report-ne-REPORT.false;
    }
