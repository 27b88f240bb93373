use Rattle.image.specs.Layout.{Typed}
use Rattle.image.proofs.Fitting.{keeps-fit}
use Rattle.image.proofs.Answers.{kept-none, wrote-size, wrote-broken, wrote-done}
use mathlib.Core.Path.{sym, ◌∙◌}
use borrow.Author.Rules.{rules}
use Rattle.image.proofs.write.Goals as goal
use Rattle.image.proofs.write.Goals.{Start}

typed : (c : Start) → Typed c.args.f c.args.t
typed c = search rules

pub returns-then-to-ne-SIZE : goal.returns-then-to-ne-SIZE
returns-then-to-ne-SIZE c = wrote-size _ _ _ c.if-to-ne-SIZE.true

pub returns-then-not-keeps : goal.returns-then-not-keeps
returns-then-not-keeps c = wrote-broken _ _ _ c.if-to-ne-SIZE.false (sym c.keeps.ensures.value ∙ c.if-not-keeps.true)
    c.refused.ensures.value

pub pack-requires-clause-fit : goal.pack-requires-clause-fit
pack-requires-clause-fit c = keeps-fit _ _ (typed (goal.at.pack-requires-clause-fit c).Start) (kept-none _ _ (sym c.keeps.ensures.value ∙ c.if-not-keeps.false))

pub returns : goal.returns
returns c = wrote-done _ _ _ c.if-to-ne-SIZE.false (sym c.keeps.ensures.value ∙ c.if-not-keeps.false) _
    c.pack.ensures.lent
