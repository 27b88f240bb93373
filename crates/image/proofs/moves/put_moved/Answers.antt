use mathlib.Core.Path.{◌≡◌}
use lib.ListN.{get_or}
use borrow.Author.Rules.{rules}
use Rattle.image.proofs.Moved.{put_as}
use Rattle.image.proofs.moves.put_moved.Goals as goal

pub returns : goal.returns
returns c = let s = c.args in
    let first : c.unwrap_or-first.result ≡ get_or s.from.now 0 0 = search rules in
    record { lent = put_as s.edition _ s.from.now c.copy_front.ensures.lent first }
