-- The laws of `recode`, over any widths: reading at other widths and back gives the same values, and two runs of fields
-- that end at the same bit are read one after the other.
-- Assumes nothing.
use Prim.Native.Nat.{ℕ, suc, ◌+◌, ◌*◌, ◌/◌, ◌%◌, ◌^◌, ◌<◌}
use mathlib.Core.Path.{◌≡◌, refl, sym, ap}
use mathlib.Core.List.{List, [], ◌∷◌, ◌++◌}
use native.Mathlib.Nat.{add_assoc, mul_assoc, add-mul, mod-lt, mod-one, mod-eq_of_lt, mul-add-div_right, mul-add-mod_self_right, suc-mul, mul-le-mul_right, zero-add, zero-mul, add_comm, suc-ne-zero, suc_inj}
use native.Mathlib.Omega.{arith}
use lib.ListN.{length}
use lib.Pow.{pow-add, pow_pos, high, shr-shr, mod-pow-add}
use Rattle.words.specs.Numbers.{total, join, split, recode, Fit}
use Rattle.words.specs.Theorems.{RecodeBack}

pub fit_length : (ws vs : List ℕ) → Fit ws vs → length vs ≡ length ws
fit_length [] [] f = refl
fit_length (w ∷ ws) (v ∷ vs) f = ap suc (fit_length ws vs f.1)
fit_length [] (v ∷ vs) f = elim f [ ]
fit_length (w ∷ ws) [] f = elim f [ ]

pub join-lt : (ws vs : List ℕ) → Fit ws vs → join ws vs < 2 ^ total ws
join-lt [] [] f = omega arith
join-lt (w ∷ ws) (v ∷ vs) f =
    let j : join ws vs < 2 ^ total ws = join-lt ws vs f.1 in
    rw (pow-add 2 w (total ws)) (omega (arith, simp suc-mul at (mul-le-mul_right (2 ^ total ws) f.0)))
join-lt [] (v ∷ vs) f = elim f [ ]
join-lt (w ∷ ws) [] f = elim f [ ]

-- what stands before the bits does not show in them
pub split-high : (ws : List ℕ) (a b : ℕ) → split ws (a * 2 ^ total ws + b) ≡ split ws b
split-high [] a b = refl
split-high (w ∷ ws) a b =
    let e : a * 2 ^ (w + total ws) + b ≡ a * 2 ^ w * 2 ^ total ws + b = rw (pow-add 2 w (total ws), ← mul_assoc a (2 ^ w) (2 ^ total ws)) in
    let head : (a * 2 ^ w * 2 ^ total ws + b) / 2 ^ total ws % 2 ^ w ≡ b / 2 ^ total ws % 2 ^ w =
    rw (mul-add-div_right (pow_pos (total ws)) (a * 2 ^ w) b) (mul-add-mod_self_right a (2 ^ w) (b / 2 ^ total ws)) in
    rw (e, head, split-high ws (a * 2 ^ w) b)

pub split-join : (ws vs : List ℕ) → Fit ws vs → split ws (join ws vs) ≡ vs
split-join [] [] f = refl
split-join (w ∷ ws) (v ∷ vs) f =
    let j : join ws vs < 2 ^ total ws = join-lt ws vs f.1 in
    rw (high v (total ws) j, mod-eq_of_lt f.0, split-high ws v (join ws vs), split-join ws vs f.1)
split-join [] (v ∷ vs) f = elim f [ ]
split-join (w ∷ ws) [] f = elim f [ ]

pub join-split : (ws : List ℕ) (n : ℕ) → join ws (split ws n) ≡ n % 2 ^ total ws
join-split [] n = sym (mod-one n)
join-split (w ∷ ws) n = rw (join-split ws n) (sym (mod-pow-add n w (total ws)))

pub split-fit : (ws : List ℕ) (n : ℕ) → Fit ws (split ws n)
split-fit [] n = tt
split-fit (w ∷ ws) n = (mod-lt (n / 2 ^ total ws) (pow_pos w), split-fit ws n)

-- the bits of two runs of values are those of the first and then those of the second
pub total-append : (ws us : List ℕ) → total (ws ++ us) ≡ total ws + total us
total-append [] us = sym (zero-add (total us))
total-append (w ∷ ws) us = simp (total-append ws us, add_assoc)

pub join-append : (ws us vs xs : List ℕ) → length vs ≡ length ws
    → join (ws ++ us) (vs ++ xs) ≡ join ws vs * 2 ^ total us + join us xs
join-append [] us [] xs e = sym (simp (zero-mul, zero-add))
join-append [] us (v ∷ vs) xs e = absurd (suc-ne-zero (length vs) e)
join-append (w ∷ ws) us [] xs e = absurd (suc-ne-zero (length ws) (sym e))
join-append (w ∷ ws) us (v ∷ vs) xs e =
    simp (join-append ws us vs xs (suc_inj e), total-append ws us, pow-add 2 (total ws) (total us), add-mul, mul_assoc, add_assoc)

pub split-append : (ws us : List ℕ) (a b : ℕ) → b < 2 ^ total us
    → split (ws ++ us) (a * 2 ^ total us + b) ≡ split ws a ++ split us b
split-append [] us a b h = split-high us a b
split-append (w ∷ ws) us a b h =
    let head : (a * 2 ^ total us + b) / 2 ^ total (ws ++ us) ≡ a / 2 ^ total ws =
    rw (total-append ws us, add_comm (total ws) (total us), ← shr-shr (a * 2 ^ total us + b) (total us) (total ws), high a (total us) h) in
    rw (head, split-append ws us a b h)

-- two runs that end at the same bit are read one after the other
pub recode-append : (ws us bs cs vs xs : List ℕ) → total cs ≡ total us → Fit ws vs → Fit us xs
    → recode (ws ++ us) (bs ++ cs) (vs ++ xs) ≡ recode ws bs vs ++ recode us cs xs
recode-append ws us bs cs vs xs f p q =
    rw (join-append ws us vs xs (fit_length ws vs p), ← f)
    (split-append bs cs (join ws vs) (join us xs) (rw f (join-lt us xs q)))

-- read at other widths and back: the same values
pub recode-back : RecodeBack
recode-back ws bs vs e p = rw (join-split bs (join ws vs), e, mod-eq_of_lt (join-lt ws vs p)) (split-join ws vs p)

pub recode-fit : (ws bs vs : List ℕ) → Fit bs (recode ws bs vs)
recode-fit ws bs vs = split-fit bs (join ws vs)
