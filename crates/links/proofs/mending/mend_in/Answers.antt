use borrow.Author.Rules.{rules}
use mathlib.Core.Path.{sym}
use denote.Enum.Bare.{same_true, same_false}
use Rattle.links.specs.contracts.Kind.{the_type}
use Rattle.links.proofs.Cuts.{keeps, mends-cut, mends-sound}
use Rattle.links.proofs.mending.mend_in.Goals as goal

pub returns-then-eq : goal.returns-then-eq
returns-then-eq c = mends-sound _ _ _ _ c.walk-walked.ensures (same_true the_type (search rules) _ _ (sym c.if-eq.ensures))

pub cut-requires-clause-keeps_front : goal.cut-requires-clause-keeps_front
cut-requires-clause-keeps_front c = keeps _ _ c.requires.limited _ _ c.walk-walked.ensures

pub returns : goal.returns
returns c = mends-cut _ _ _ _ c.walk-walked.ensures (same_false the_type _ _ (sym c.if-eq.ensures)) _ _ c.cut.ensures
