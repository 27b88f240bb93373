use mathlib.Core.Path.{◌≡◌, ◌∙◌}
use native.Mathlib.Omega.{arith}
use lib.ListN.{length}
use borrow.Author.Tests.{le-leb, lt-leb, eq-eqb, ne_eqb}
use borrow.Author.Rules.{rules}
use Rattle.words.specs.Packed.{packed_over}
use Rattle.words.specs.Numbers.{split, bytes}
use Prim.Native.Nat.{◌*◌, ◌/◌, ◌%◌, ◌≤◌}
use Rattle.words.proofs.Slices.{put-middle}
use Rattle.words.proofs.Packing.{written, many, last-bytes}
use Rattle.words.proofs.packer.Packer.write.Goals as goal
use Rattle.words.proofs.packer.Packer.write.Goals.{Start, then-whole-gt-ROOM-via-then-whole-gt-ROOM, then-whole-gt-ROOM-via-else-whole-gt-ROOM+then-to-whole}

-- the words that there is room for
room : (c : Start) → length c.args.self.words ≡ 24
room c = search rules

pub returns-then-whole-gt-ROOM : goal.returns-then-whole-gt-ROOM
unfolding packed_over
returns-then-whole-gt-ROOM c = record {
  lent = elim c.then-whole-gt-ROOM.branch [
    | then-whole-gt-ROOM-via-then-whole-gt-ROOM w ↦ rw (lt-leb _ _ w.if-whole-gt-ROOM.true)
    | then-whole-gt-ROOM-via-else-whole-gt-ROOM+then-to-whole w ↦ rw (le-leb _ _ w.if-whole-gt-ROOM.false, ne_eqb _ _ w.if-to-whole.true)
  ];
}

pub returns : goal.returns
unfolding packed_over
returns c = let p = c.args.self in
    let left = p.count % 32 / 8 in
    let l = room (goal.at.returns c).Start in
    let n : length (split (bytes left) p.rest) ≡ left = many left p.rest in
    let few : left ≤ 4 = omega arith in
    let back : c.copy_from_slice.new.self ≡ split (bytes left) p.rest =
    c.copy_from_slice.ensures.after ∙ last-bytes left p.rest few c.to_be_bytes.ensures in
    record {
      lent = written p c.args.to.now (omega arith) c.if-to-whole.false c.put_words.ensures.lent
          (put-middle _ (4 * p.whole) (split (bytes left) p.rest) back (omega arith) (omega arith))
          ∙ rw (le-leb _ _ c.if-whole-gt-ROOM.false, eq-eqb _ _ c.if-to-whole.false);
    }
