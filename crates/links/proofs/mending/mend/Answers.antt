use mathlib.Core.Path.{sym, ◌∙◌}
use Rattle.links.proofs.Windows.{limited}
use Rattle.links.proofs.Mended.{a-dump, lent-whole}
use Rattle.links.proofs.mending.mend.Goals as goal

pub mend_in-requires-clause-limited : goal.mend_in-requires-clause-limited
mend_in-requires-clause-limited c = limited _ _ _ (sym c.checked.ensures.answer ∙ c.in_ok-place.was)

pub mend_in-requires-clause-bytes_len : goal.mend_in-requires-clause-bytes_len
mend_in-requires-clause-bytes_len c = lent-whole _ c.args.base c.args.pointer _ (sym c.checked.ensures.answer ∙ c.in_ok-place.was)

pub returns : goal.returns
returns c = a-dump _ _ _ _ _ _ (sym c.checked.ensures.answer ∙ c.in_ok-place.was) c.mend_in.ensures
