use Prim.Native.Nat.{◌+◌, ◌-◌, ◌%◌, ◌≤◌, ◌<◌}
use native.Mathlib.Nat.{mod-lt}
use native.Mathlib.Omega.{arith}
use lib.Pow.{pow_pos}
use borrow.Author.Tests.{le-leb, lt-leb, lt-ltb, le-ltb}
use borrow.Author.Rules.{rules}
use Rattle.words.specs.Packed.{field_put}
use Rattle.words.proofs.Shifts.{shifted, shifted_fits, cut_fits, weight}
use Rattle.words.proofs.packer.Packer.put_number.Goals as goal
use Rattle.words.proofs.packer.Packer.put_number.Goals.{Start}

-- the bits behind a word that is full
few : (c : Start) → c.args.width ≤ 32 → (c.args.self.count % 32 + c.args.width) - 32 < 32
few c h = let less = mod-lt c.args.self.count {m = 32} (omega arith) in omega arith

pub returns-then-width-gt32 : goal.returns-then-width-gt32
unfolding field_put
returns-then-width-gt32 c = record { value = rw (lt-leb _ _ c.if-width-gt32.true) }

pub overflow_add-rest : goal.overflow_add-rest
overflow_add-rest c = let a = c.args in
    let h = c.if-width-gt32.false in
    rw (c.from.ensures, c.from-2.ensures, shifted a.width {a = a.self.rest} (search rules) h) (record { fits = shifted_fits a.width {a = a.self.rest} (search rules) h (search rules) })

pub returns-then-count-lt32 : goal.returns-then-count-lt32
unfolding field_put
returns-then-count-lt32 c = let h = c.if-width-gt32.false in
    record { value = rw (c.from.ensures, c.from-2.ensures, shifted c.args.width {a = c.args.self.rest} (search rules) h, le-leb _ _ h, lt-ltb _ _ c.if-count-lt32.true) }

pub returns-then-whole-ge-ROOM : goal.returns-then-whole-ge-ROOM
unfolding field_put
returns-then-whole-ge-ROOM c = let h = c.if-width-gt32.false in
    record { value = rw (le-leb _ _ h, le-ltb _ _ c.if-count-lt32.false, le-leb _ _ c.if-whole-ge-ROOM.true) }

pub nonzero_rem-result-2 : goal.nonzero_rem-result-2
nonzero_rem-result-2 c = rw (weight _ (few (goal.at.nonzero_rem-result-2 c).Start c.if-width-gt32.false)) (pow_pos _)

pub overflow_cast-result-3 : goal.overflow_cast-result-3
overflow_cast-result-3 c = let small = few (goal.at.overflow_cast-result-3 c).Start c.if-width-gt32.false in
    rw (weight _ small) (record { fits = cut_fits _ _ small })

pub returns : goal.returns
unfolding field_put
returns c = let h = c.if-width-gt32.false in
    record {
      value = rw (
        c.from.ensures,
        c.from-2.ensures,
        shifted c.args.width {a = c.args.self.rest} (search rules) h,
        weight _ (few (goal.at.returns c).Start h),
        le-leb _ _ h,
        le-ltb _ _ c.if-count-lt32.false,
        lt-leb _ _ c.if-whole-ge-ROOM.false,
      );
    }
