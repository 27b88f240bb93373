use mathlib.Core.Path.{◌≡◌, sym}
use native.Mathlib.Omega.{arith}
use lib.ListN.{length}
use borrow.Author.Rules.{rules}
use Rattle.words.proofs.Slices.{put-out, put-middle}
use Rattle.words.proofs.put_bytes.Goals as goal

pub returns-then-at-to : goal.returns-then-at-to
returns-then-at-to g c = let l : length c.args.bytes ≡ g.row.N = search rules in
    record { lent = put-middle _ _ _ c.copy_from_slice.ensures.after (omega arith) (omega arith) }

pub returns-else-to : goal.returns-else-to
returns-else-to g c = let l : length c.args.bytes ≡ g.row.N = search rules in
    record { lent = sym (put-out c.args.to.now c.args.at c.args.bytes (omega arith)) }
