-- The bits of a number, and one of them made so.
-- Assumes nothing.
use Prim.Native.Nat.{ℕ, zero, suc, ◌+◌, ◌*◌, ◌-◌, ◌/◌, ◌%◌, ◌^◌, ◌≤◌, ◌<◌, max}
use mathlib.Core.Path.{◌≡◌, refl, sym, ap, ◌∙◌}
use mathlib.Core.Bool.{Bool, true, false, ◌||◌}
use native.Mathlib.Nat.{two-pow-succ, pow-le-pow_right, mod-lt, max-zero}
use native.Mathlib.Omega.{arith}
use lib.Bits.{bit_or, or_step, or_zero_r}
use lib.Dec.{eqb}
use Rattle.words.specs.Bits.{bit}
use Rattle.words.proofs.Bits.{bit-suc, bit-or, bit-power, other-power}
use Rattle.vic.specs.Layout.{with_bit}

-- ---- one bit made 0

abbrev cleared : ℕ → ℕ → ℕ
cleared zero n = n / 2 * 2
cleared (suc p) n = cleared p (n / 2) * 2 + n % 2

digits : (n r c : ℕ) → c < 2 → n ≡ r * 2 + c → (n / 2 ≡ r) × (n % 2 ≡ c)
digits n r c h e = (omega arith, omega arith)

top_one : (x : ℕ) → x < 2 → max x 1 ≡ 1
top_one zero h = refl
top_one (suc zero) h = refl
top_one (suc (suc x)) h = absurd (omega arith)

set-cleared : (p n : ℕ) → bit_or n (2 ^ p) ≡ cleared p n + 2 ^ p
set-cleared zero n =
    let zeros : bit_or (n / 2) 0 ≡ n / 2 = or_zero_r (n / 2) in
    let one : max (n % 2) 1 ≡ 1 = top_one (n % 2) (mod-lt n (omega arith)) in
    or_step n 1 ∙ (λ i. zeros i * 2 + one i)
set-cleared (suc p) n =
    let w : 2 ^ suc p ≡ 2 ^ p + 2 ^ p = two-pow-succ p in
    let halved : 2 ^ suc p / 2 ≡ 2 ^ p = omega arith in
    let even : 2 ^ suc p % 2 ≡ 0 = omega arith in
    let high : bit_or (n / 2) (2 ^ suc p / 2) ≡ cleared p (n / 2) + 2 ^ p = ap (bit_or (n / 2)) halved ∙ set-cleared p (n / 2) in
    let low : max (n % 2) (2 ^ suc p % 2) ≡ n % 2 = ap (max (n % 2)) even ∙ max-zero (n % 2) in
    let sum : (cleared p (n / 2) + 2 ^ p) * 2 + n % 2 ≡ cleared p (n / 2) * 2 + n % 2 + 2 ^ suc p = omega arith in
    or_step n (2 ^ suc p) ∙ (λ i. high i * 2 + low i) ∙ sum

bit-cleared : (p n : ℕ) → bit p (cleared p n) ≡ false
bit-cleared zero n =
    let even : n / 2 * 2 / 1 % 2 ≡ 0 = omega arith in
    ap (λ (x : ℕ). eqb x 1) even
bit-cleared (suc p) n =
    let d = digits (cleared (suc p) n) (cleared p (n / 2)) (n % 2) (mod-lt n (omega arith)) refl in
    bit-suc p (cleared (suc p) n) ∙ ap (bit p) d.0 ∙ bit-cleared p (n / 2)

other-cleared : (q p n : ℕ) → (q ≡ p → ⊥) → bit q (cleared p n) ≡ bit q n
other-cleared zero zero n h = absurd (h refl)
other-cleared zero (suc p) n h =
    let d = digits (cleared (suc p) n) (cleared p (n / 2)) (n % 2) (mod-lt n (omega arith)) refl in
    let same : cleared (suc p) n / 1 % 2 ≡ n / 1 % 2 = omega (arith, d.1) in
    ap (λ (x : ℕ). eqb x 1) same
other-cleared (suc q) zero n h =
    let same : n / 2 * 2 / 2 ≡ n / 2 = omega arith in
    bit-suc q (n / 2 * 2) ∙ ap (bit q) same ∙ sym (bit-suc q n)
other-cleared (suc q) (suc p) n h =
    let d = digits (cleared (suc p) n) (cleared p (n / 2)) (n % 2) (mod-lt n (omega arith)) refl in
    bit-suc q (cleared (suc p) n) ∙ ap (bit q) d.0 ∙ other-cleared q p (n / 2) (λ e. h (ap suc e)) ∙ sym (bit-suc q n)

pub or-true : (b : Bool) → (b || true) ≡ true
or-true true = refl
or-true false = refl

or-false : (b : Bool) → (b || false) ≡ b
or-false true = refl
or-false false = refl

-- ---- one bit made so

made-false : (p n : ℕ) → bit_or n (2 ^ p) - 2 ^ p ≡ cleared p n
made-false p n = let e = set-cleared p n in omega arith

-- it is so
pub bit-made : (p : ℕ) (on : Bool) (n : ℕ) → bit p (with_bit p on n) ≡ on
unfolding with_bit
bit-made p true n = bit-or p n (2 ^ p) ∙ ap (λ (b : Bool). bit p n || b) (bit-power p) ∙ or-true (bit p n)
bit-made p false n = ap (bit p) (made-false p n) ∙ bit-cleared p n

-- the others are as they were
pub other-made : (q p : ℕ) (on : Bool) (n : ℕ) → (q ≡ p → ⊥) → bit q (with_bit p on n) ≡ bit q n
unfolding with_bit
other-made q p true n h = bit-or q n (2 ^ p) ∙ ap (λ (b : Bool). bit q n || b) (other-power q p h) ∙ or-false (bit q n)
other-made q p false n h = ap (bit q) (made-false p n) ∙ other-cleared q p n h

-- the weight of a bit below 32 is below 2^32
pub weight-below : (p : ℕ) → p < 32 → 2 ^ p < 2 ^ 32
weight-below p h =
    let le : 2 ^ p ≤ 2 ^ 31 = pow-le-pow_right {n = 2} (omega arith) {i = p} {j = 31} (omega arith) in omega arith

pub weight_under : (p n : ℕ) → 2 ^ p ≤ bit_or n (2 ^ p)
weight_under p n = let e = set-cleared p n in omega arith

-- ---- in the code

pub shifted : (p : ℕ) → p < 32 → 1 * 2 ^ p % 2 ^ 32 ≡ 2 ^ p
shifted p h = let l = weight-below p h in omega arith
