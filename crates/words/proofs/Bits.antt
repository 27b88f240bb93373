-- The bits of a number: of its half, of two numbers taken bit by bit, of a power of two; and one bit as a flag.
-- Assumes nothing.
use Prim.Native.Nat.{ℕ, zero, suc, ◌+◌, ◌*◌, ◌-◌, ◌/◌, ◌%◌, ◌^◌, ◌<◌, max, min}
use mathlib.Core.Path.{◌≡◌, refl, sym, ap, ◌∙◌}
use mathlib.Core.Bool.{Bool, true, false, ◌&&◌, ◌||◌}
use native.Mathlib.Nat.{pow-suc, mul_comm, div-div-eq-div-mul, div_self, zero-div, two-pow-succ, mod-lt}
use native.Mathlib.Omega.{arith}
use lib.Bits.{bit_or, bit_and, or_step, and_step, or_shr, and_shr}
use lib.Dec.{eqb}
use lib.Pow.{pow_pos, field, mod-mod-pow}
use Rattle.words.specs.Bits.{bit, flag}

-- the bits of a half
pub half-first : (n p : ℕ) → n / 2 ^ suc p ≡ n / 2 / 2 ^ p
half-first n p = ap (λ (x : ℕ). n / x) (pow-suc 2 p ∙ mul_comm (2 ^ p) 2) ∙ sym (div-div-eq-div-mul n 2 (2 ^ p))

pub half-last : (n p : ℕ) → n / 2 ^ suc p ≡ n / 2 ^ p / 2
half-last n p = ap (λ (x : ℕ). n / x) (pow-suc 2 p) ∙ sym (div-div-eq-div-mul n (2 ^ p) 2)

pub bit-suc : (p n : ℕ) → bit (suc p) n ≡ bit p (n / 2)
bit-suc p n = ap (λ (x : ℕ). eqb (x % 2) 1) (half-first n p)

-- ---- the bits of two numbers

-- what holds of the four pairs of digits holds of any two
on-digits : (P : ℕ → ℕ → Type 0) → P 0 0 → P 0 1 → P 1 0 → P 1 1 → (x y : ℕ) → x < 2 → y < 2 → P x y
on-digits P a b c d zero zero h i = a
on-digits P a b c d zero (suc zero) h i = b
on-digits P a b c d (suc zero) zero h i = c
on-digits P a b c d (suc zero) (suc zero) h i = d
on-digits P a b c d zero (suc (suc y)) h i = absurd (omega arith)
on-digits P a b c d (suc zero) (suc (suc y)) h i = absurd (omega arith)
on-digits P a b c d (suc (suc x)) y h i = absurd (omega arith)

larger : (x y : ℕ) → x < 2 → y < 2 → eqb (max x y % 2) 1 ≡ (eqb x 1 || eqb y 1)
larger = on-digits (λ x y. eqb (max x y % 2) 1 ≡ (eqb x 1 || eqb y 1)) refl refl refl refl

smaller : (x y : ℕ) → x < 2 → y < 2 → eqb (min x y % 2) 1 ≡ (eqb x 1 && eqb y 1)
smaller = on-digits (λ x y. eqb (min x y % 2) 1 ≡ (eqb x 1 && eqb y 1)) refl refl refl refl

last-digit : (n r c : ℕ) → n ≡ r * 2 + c → n % 2 ≡ c % 2
last-digit n r c e = omega arith

odd-or : (a b : ℕ) → eqb (bit_or a b % 2) 1 ≡ (eqb (a % 2) 1 || eqb (b % 2) 1)
odd-or a b =
    ap (λ (x : ℕ). eqb x 1) (last-digit (bit_or a b) (bit_or (a / 2) (b / 2)) (max (a % 2) (b % 2)) (or_step a b))
    ∙ larger (a % 2) (b % 2) (mod-lt a (omega arith)) (mod-lt b (omega arith))

odd-and : (a b : ℕ) → eqb (bit_and a b % 2) 1 ≡ (eqb (a % 2) 1 && eqb (b % 2) 1)
odd-and a b =
    ap (λ (x : ℕ). eqb x 1) (last-digit (bit_and a b) (bit_and (a / 2) (b / 2)) (min (a % 2) (b % 2)) (and_step a b))
    ∙ smaller (a % 2) (b % 2) (mod-lt a (omega arith)) (mod-lt b (omega arith))

pub bit-or : (p a b : ℕ) → bit p (bit_or a b) ≡ (bit p a || bit p b)
bit-or p a b = ap (λ (x : ℕ). eqb (x % 2) 1) (or_shr a b p) ∙ odd-or (a / 2 ^ p) (b / 2 ^ p)

pub bit-and : (p a b : ℕ) → bit p (bit_and a b) ≡ (bit p a && bit p b)
bit-and p a b = ap (λ (x : ℕ). eqb (x % 2) 1) (and_shr a b p) ∙ odd-and (a / 2 ^ p) (b / 2 ^ p)

-- ---- a power of two

pub bit-power : (p : ℕ) → bit p (2 ^ p) ≡ true
bit-power p = ap (λ (x : ℕ). eqb (x % 2) 1) (div_self (pow_pos p))

pub other-power : (q p : ℕ) → (q ≡ p → ⊥) → bit q (2 ^ p) ≡ false
other-power zero zero h = absurd (h refl)
other-power zero (suc p) h =
    let w : 2 ^ suc p ≡ 2 ^ p + 2 ^ p = two-pow-succ p in
    let even : 2 ^ suc p / 1 % 2 ≡ 0 = omega arith in
    ap (λ (x : ℕ). eqb x 1) even
other-power (suc q) zero h = bit-suc q 1 ∙ ap (λ (x : ℕ). eqb (x % 2) 1) (zero-div (2 ^ q))
other-power (suc q) (suc p) h =
    let w : 2 ^ suc p ≡ 2 ^ p + 2 ^ p = two-pow-succ p in
    let halved : 2 ^ suc p / 2 ≡ 2 ^ p = omega arith in
    bit-suc q (2 ^ suc p) ∙ ap (bit q) halved ∙ other-power q p (λ e. h (ap suc e))

-- the bits that the k lowest are
pub kept-bit : (k q n : ℕ) → q < k → bit q (n % 2 ^ k) ≡ bit q n
kept-bit k q n h =
    let e : k ≡ k - 1 - q + 1 + q = omega arith in
    ap (λ (x : ℕ). eqb x 1)
    (ap (λ (m : ℕ). n % 2 ^ m / 2 ^ q % 2) e ∙ ap (λ (x : ℕ). x % 2) (field n (k - 1 - q + 1) q) ∙ mod-mod-pow (n / 2 ^ q) (k - 1 - q) 1)

-- ---- a flag as its bit, and back

pub flag-back : (b : Bool) → eqb (flag b) 1 ≡ b
flag-back true = refl
flag-back false = refl

pub flag-there : (n : ℕ) → n < 2 → flag (eqb n 1) ≡ n
flag-there zero h = refl
flag-there (suc zero) h = refl
flag-there (suc (suc n)) h = absurd (omega arith)

pub flag-bit : (n : ℕ) → flag (eqb (n % 2) 1) ≡ n % 2
flag-bit n = flag-there (n % 2) (mod-lt n (omega arith))
