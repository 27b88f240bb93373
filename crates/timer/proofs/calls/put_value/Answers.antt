use Rattle.std.proofs.Common.{sym, ◌∙◌}
use Rattle.words.proofs.Slices.{put_all}
use Rattle.timer.proofs.calls.put_value.Goals as goal

pub returns : goal.returns
returns c = record { lent = c.put_u32.ensures.lent ∙ put_all _ _ (sym c.requires) }
