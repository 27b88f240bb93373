-- The chosen port is the one that the words say, and no other.
-- Assumes nothing.
use Prim.Native.Nat.{ℕ, zero, suc, ◌+◌, ◌/◌, ◌%◌, ◌^◌, ◌≤◌, ◌<◌}
use mathlib.Core.Path.{◌≡◌, refl, sym, ap, subst, ◌∙◌}
use mathlib.Core.Bool.{Bool, true, false, cond, ◌&&◌, true≢false}
use mathlib.Core.List.{List}
use native.Mathlib.Omega.{arith}
use native.Mathlib.Nat.{le_refl, le_trans, lt_trans, lt_of_le_of_lt}
use native.Mathlib.Numerals.{add-one}
use lib.Bits.{bit_or, bit_and}
use lib.Dec.{eqb, ltb}
use borrow.Author.Tests.{ltb-true, ltb-false, eqb-true, eqb-false, eq-eqb, ne_eqb, lt-ltb, le-ltb}
use Rattle.words.specs.Bits.{bit}
use Rattle.words.proofs.Bits.{half-last, bit-or, bit-and}
use Rattle.vic.specs.Layout.{ports, lines, software, enabled}
use Rattle.vic.specs.Choice.{pending, level, wins, most_level, best_port, chosen_level, chosen_port, Asks, IsChosen}

pub both_true : (s t : Bool) → (s && t) ≡ true → (s ≡ true) × (t ≡ true)
both_true true t e = (refl, e)
both_true false t e = absurd (true≢false (sym e))

-- ---- one turn

grows : (a : Bool) (l m : ℕ) → (m ≤ cond (a && ltb m l) l m) × (a ≡ true → l ≤ cond (a && ltb m l) l m)
grows true l m = by (ltb m l) refl
  where
    by : (t : Bool) → ltb m l ≡ t → (m ≤ cond t l m) × (true ≡ true → l ≤ cond t l m)
    by true e = let h = ltb-true m l e in (omega arith, λ f. le_refl l)
    by false e = (le_refl m, λ f. ltb-false m l e)
grows false l m = (le_refl m, λ e. absurd (true≢false (sym e)))

-- what a port and a level are among the first n
pub record Held (xs : List ℕ) (n p l : ℕ) : Type 0 where
  pub port : p < n
  pub waits : pending xs p ≡ true
  pub same : level xs p ≡ l
  pub first : (q : ℕ) → q < p → pending xs q ≡ true → level xs q < l

module _ (xs : List ℕ) where
  -- no port that is pending has a larger level
  pub most : (n q : ℕ) → q < n → pending xs q ≡ true → level xs q ≤ most_level xs n
  unfolding most_level
  most zero q h e = absurd (omega arith)
  most (suc n) q h e = by (grows (pending xs n) (level xs n) (most_level xs n)) (λ i. most n q i e) (eqb q n) refl
    where
      by : (most_level xs n ≤ most_level xs (suc n)) × (pending xs n ≡ true → level xs n ≤ most_level xs (suc n))
          → (q < n → level xs q ≤ most_level xs n) → (t : Bool) → eqb q n ≡ t → level xs q ≤ most_level xs (suc n)
      by turn before true f =
          let at : q ≡ n = eqb-true q n f in
          subst (λ (k : ℕ). level xs k ≤ most_level xs (suc n)) (sym at) (turn.1 (subst (λ (k : ℕ). pending xs k ≡ true) at e))
      by turn before false f = le_trans (before (omega (arith, eqb-false q n f))) turn.0

  -- a level above 0 is that of the port, the first with it
  pub held : (n : ℕ) → 0 < most_level xs n → Held xs n (best_port xs n) (most_level xs n)
  unfolding most_level best_port
  held zero h = absurd (omega arith)
  held (suc n) h = by (held n) (wins xs n (most_level xs n)) refl h
    where
      by : (0 < most_level xs n → Held xs n (best_port xs n) (most_level xs n))
          → (w : Bool) → wins xs n (most_level xs n) ≡ w → 0 < cond w (level xs n) (most_level xs n)
          → Held xs (suc n) (cond w n (best_port xs n)) (cond w (level xs n) (most_level xs n))
      by earlier true e i =
          let both = both_true (pending xs n) (ltb (most_level xs n) (level xs n)) e in
          let above : most_level xs n < level xs n = ltb-true (most_level xs n) (level xs n) both.1 in
          record {
            port = omega arith;
            waits = both.0;
            same = refl;
            first = λ q j f. lt_of_le_of_lt (most n q j f) above;
          }
      by earlier false e i =
          let before = earlier i in
          record { port = lt_trans before.port (omega arith); waits = before.waits; same = before.same; first = before.first }

  -- ---- the theorems

  pub chosen_is : 0 < chosen_level xs → IsChosen xs (chosen_port xs)
  chosen_is h =
      let it = held (ports xs) h in
      let p = chosen_port xs in
      let same : level xs p ≡ chosen_level xs = it.same in
      record {
        asks = record { port = it.port; waits = it.waits; above = subst (λ (l : ℕ). 0 < l) (sym same) h };
        most = λ q a. subst (λ (l : ℕ). level xs q ≤ l) (sym same) (most (ports xs) q a.port a.waits);
        first = λ q a e. by q a e (ltb q p) refl;
      }
    where
      by : (q : ℕ) → Asks xs q → level xs q ≡ level xs (chosen_port xs) → (t : Bool) → ltb q (chosen_port xs) ≡ t → chosen_port xs ≤ q
      by q a e true f =
          let it = held (ports xs) h in
          let less : level xs q < chosen_level xs = it.first q (ltb-true q (chosen_port xs) f) a.waits in
          let same : level xs (chosen_port xs) ≡ chosen_level xs = it.same in
          absurd (omega (arith, less, same, e))
      by q a e false f = ltb-false q (chosen_port xs) f

  pub chosen-one : (p q : ℕ) → IsChosen xs p → IsChosen xs q → p ≡ q
  chosen-one p q a b =
      let le : level xs q ≤ level xs p = a.most q b.asks in
      let ge : level xs p ≤ level xs q = b.most p a.asks in
      let same : level xs q ≡ level xs p = omega (arith, le, ge) in
      let pq : p ≤ q = a.first q b.asks same in
      let qp : q ≤ p = b.first p a.asks (sym same) in
      omega (arith, pq, qp)

  pub asks-chosen : (p : ℕ) → Asks xs p → 0 < chosen_level xs
  asks-chosen p a =
      let le : level xs p ≤ chosen_level xs = most (ports xs) p a.port a.waits in
      let above : 0 < level xs p = a.above in
      omega (arith, le, above)

-- ---- the loop

module _ (xs : List ℕ) where
  -- the ports that are pending, as one number
  abbrev pub mask : ℕ
  mask = bit_and (bit_or (lines xs) (software xs)) (enabled xs)

  pub mask-bit : (p : ℕ) → bit p mask ≡ pending xs p
  mask-bit p = bit-and p (bit_or (lines xs) (software xs)) (enabled xs) ∙ ap (λ (b : Bool). b && bit p (enabled xs)) (bit-or p (lines xs) (software xs))

  pub mask-half : (i : ℕ) → mask / 2 ^ i / 2 ≡ mask / 2 ^ (i + 1)
  mask-half i = sym (half-last mask i) ∙ ap (λ (k : ℕ). mask / 2 ^ k) (sym (add-one i))

  pub wins-by : (i m : ℕ) (rest l : ℕ) → rest ≡ mask / 2 ^ i → l ≡ level xs i → (eqb (rest % 2) 1 && ltb m l) ≡ wins xs i m
  wins-by i m rest l e f = (λ x. eqb (e x % 2) 1 && ltb m (f x)) ∙ ap (λ (b : Bool). b && ltb m (level xs i)) (mask-bit i)

  pub most-next : (i : ℕ) → most_level xs (i + 1) ≡ cond (wins xs i (most_level xs i)) (level xs i) (most_level xs i)
  unfolding most_level
  most-next i = rw (add-one i) refl

  pub best-next : (i : ℕ) → best_port xs (i + 1) ≡ cond (wins xs i (most_level xs i)) i (best_port xs i)
  unfolding best_port
  best-next i = rw (add-one i) refl

  module _ (i rest l m : ℕ) (e : rest ≡ mask / 2 ^ i) (f : l ≡ level xs i) (g : m ≡ most_level xs i) where
    wins-is : (eqb (rest % 2) 1 && ltb m l) ≡ wins xs i (most_level xs i)
    wins-is = wins-by i m rest l e f ∙ ap (wins xs i) g

    -- the port goes before those found
    pub turn_won : rest % 2 ≡ 1 → m < l → (best_port xs (i + 1) ≡ i) × (most_level xs (i + 1) ≡ l)
    turn_won h j =
        let w : wins xs i (most_level xs i) ≡ true = sym wins-is ∙ (λ x. eq-eqb (rest % 2) 1 h x && lt-ltb m l j x) in
        (best-next i ∙ ap (λ (b : Bool). cond b i (best_port xs i)) w, most-next i ∙ ap (λ (b : Bool). cond b (level xs i) (most_level xs i)) w ∙ sym f)

    lost : (eqb (rest % 2) 1 && ltb m l) ≡ false → (best_port xs (i + 1) ≡ best_port xs i) × (most_level xs (i + 1) ≡ most_level xs i)
    lost h =
        let w : wins xs i (most_level xs i) ≡ false = sym wins-is ∙ h in
        (best-next i ∙ ap (λ (b : Bool). cond b i (best_port xs i)) w, most-next i ∙ ap (λ (b : Bool). cond b (level xs i) (most_level xs i)) w)

    -- it is not pending
    pub turn_idle : (rest % 2 ≡ 1 → ⊥) → (best_port xs (i + 1) ≡ best_port xs i) × (most_level xs (i + 1) ≡ most_level xs i)
    turn_idle h = lost (ap (λ (b : Bool). b && ltb m l) (ne_eqb (rest % 2) 1 h))

    -- it is, with no larger level
    pub turn_lost : rest % 2 ≡ 1 → l ≤ m → (best_port xs (i + 1) ≡ best_port xs i) × (most_level xs (i + 1) ≡ most_level xs i)
    turn_lost h j = lost (λ x. eq-eqb (rest % 2) 1 h x && le-ltb m l j x)
