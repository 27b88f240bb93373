use Rattle.image.specs.Layout.{Typed}
use Rattle.image.proofs.Fitting.{Stored, fits-fit}
use Rattle.image.proofs.Answers.{wrote-size, wrote-broken, wrote-done}
use mathlib.Core.Path.{sym, ◌∙◌}
use borrow.Author.Rules.{rules}
use Rattle.image.proofs.put.Goals as goal
use Rattle.image.proofs.put.Goals.{Start}

typed : (c : Start) → Typed c.args.f c.args.t
typed c = search rules

stored : (c : Start) → Stored c.args.f
stored c = search rules

pub pack-requires-clause-fit : goal.pack-requires-clause-fit
pack-requires-clause-fit c = let start = (goal.at.pack-requires-clause-fit c).Start in fits-fit _ _ (typed start) (stored start) (sym c.fit.ensures ∙ c.if-fit.true)

pub returns-then-fit : goal.returns-then-fit
returns-then-fit c = wrote-done _ _ _ c.if-to-eq-SIZE.true (sym c.fit.ensures ∙ c.if-fit.true) _
    c.pack.ensures.lent

pub returns-else-fit : goal.returns-else-fit
returns-else-fit c = wrote-broken _ _ _ c.if-to-eq-SIZE.true (sym c.fit.ensures ∙ c.if-fit.false)
    c.refused.ensures.value

pub returns-else-to-eq-SIZE : goal.returns-else-to-eq-SIZE
returns-else-to-eq-SIZE c = wrote-size _ _ _ c.if-to-eq-SIZE.false
