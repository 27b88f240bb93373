-- The bits of a number.
-- Assumes nothing.
use Rattle.std.specs.Prelude.{ℕ, ◌/◌, ◌%◌, ◌^◌, Bool, cond, eqb}

-- whether the bit of this weight is set in n
abbrev pub has_bit : (weight n : ℕ) → Bool
has_bit weight n = eqb (n / weight % 2) 1

-- bit i of n
abbrev pub bit : (i n : ℕ) → Bool
bit i n = has_bit (2 ^ i) n

-- a flag as a number
abbrev pub flag : Bool → ℕ
flag b = cond b 1 0
