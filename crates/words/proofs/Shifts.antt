-- What shifts of few bits give.
-- Assumes nothing.
use Prim.Native.Nat.{ℕ, ◌+◌, ◌*◌, ◌%◌, ◌^◌, ◌≤◌, ◌<◌}
use mathlib.Core.Path.{◌≡◌, ◌∙◌}
use native.Mathlib.Nat.{one-mul, mul-le-mul, mod-lt}
use native.Mathlib.Omega.{arith}
use lib.Pow.{pow_pos, pow_mono, pow-lt, shl_exact}

-- a word moved up by no more than a word
pub shifted : (n : ℕ) {a : ℕ} → a < 2 ^ 32 → n ≤ 32 → a * 2 ^ n % 2 ^ 64 ≡ a * 2 ^ n
shifted n h i = shl_exact 32 n 64 h (omega arith)

-- with another word behind it
pub shifted_fits : (n : ℕ) {a v : ℕ} → a < 2 ^ 32 → n ≤ 32 → v < 2 ^ 32 → a * 2 ^ n + v < 2 ^ 64
shifted_fits n {a} {v} h i j =
    let most : a * 2 ^ n ≤ 4294967295 * 2 ^ 32 = mul-le-mul {n₁ = a} {m₁ = 2 ^ n} {n₂ = 4294967295} {m₂ = 2 ^ 32} (omega arith) (pow_mono i) in
    omega arith

-- a number cut to few bits is a word
pub cut_fits : (a n : ℕ) → n < 32 → a % 2 ^ n < 2 ^ 32
cut_fits a n h = let less = mod-lt a (pow_pos n) in let small : 2 ^ n < 2 ^ 32 = pow-lt h in omega arith

-- the weight of a bit
pub weight : (n : ℕ) → n < 32 → 1 * 2 ^ n % 2 ^ 64 ≡ 2 ^ n
weight n h = shl_exact 1 n 64 (omega arith) (omega arith) ∙ one-mul (2 ^ n)
