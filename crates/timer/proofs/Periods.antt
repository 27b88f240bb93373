-- When a running timer reaches zero, and the time between two snapshots.
-- Assumes nothing.
use Rattle.std.specs.Prelude.{Ok}
use Rattle.std.proofs.Common.{◌≡◌, ℕ, zero, suc, ◌+◌, ◌-◌, ◌*◌, ◌%◌, ◌^◌, ◌<◌, ◌≤◌, Bool, true, false, ◌||◌, eqb, ltb, sym, refl, ap, ◌∙◌, add-zero, add_assoc, add-suc, suc-mul, zero-add, zero-mul, arith, ltb-false, ltb-true, eq-eqb, ne_eqb, eqb-true}
use Rattle.std.proofs.Math.Dec.{eqb-suc-zero}
use Rattle.words.specs.Bits.{flag}
use Rattle.timer.specs.declared.Timer.{Timer}
use Rattle.timer.specs.declared.Ran.{Ran}
use Rattle.timer.specs.Counting.{reaches, tick_of, after_ticks, zeros_in, ran_of}
use Rattle.timer.specs.Registers.{snapped_of, elapsed_of, between_of}
use Rattle.timer.specs.Helpers.Parts.{after}
use Rattle.timer.specs.Theorems.{hits, TicksAdd, ZerosWithin, TicksSetTO, first, Periodic, ReachesEveryPeriod, Once, OneShot, Snap, ElapsedIsTicks}
use Rattle.timer.proofs.Along.{Stands, stands-is, down, bottom, within, round, turns, ran-down, ran_on, ran-once}
use Rattle.timer.proofs.InRegisters.{between-full, written_is}

-- ---- ticks

pub ticks-add : TicksAdd
unfolding after_ticks zeros_in
ticks-add n zero t = record {
  timer = ap (λ (k : ℕ). after_ticks k t) (add-zero n);
  zeros = ap (λ (k : ℕ). zeros_in k t) (add-zero n) ∙ sym (add-zero (zeros_in n t));
}
ticks-add n (suc m) t =
    let both = ticks-add n m t in
    record {
      timer = ap (λ (k : ℕ). after_ticks k t) (add-suc n m) ∙ ap tick_of both.timer;
      zeros = ap (λ (k : ℕ). zeros_in k t) (add-suc n m) ∙ rw (both.zeros, both.timer) (add_assoc (zeros_in n t) _ _);
    }

flag-le : (b : Bool) → flag b ≤ 1
flag-le true = omega arith
flag-le false = omega arith

pub zeros_within : ZerosWithin
unfolding zeros_in
zeros_within zero t = omega arith
zeros_within (suc n) t = let h = zeros_within n t in let f = flag-le (reaches (after_ticks n t)) in omega (arith, h, f)

tick-to : (t : Timer) → (tick_of t).to ≡ (reaches t || t.to)
unfolding tick_of
tick-to t = by t.run refl
  where
    by : (b : Bool) → t.run ≡ b → (tick_of t).to ≡ (reaches t || t.to)
    by true e = rw e
    by false e = rw e

pub ticks-set-to : TicksSetTO
ticks-set-to t = record { sets = λ h. tick-to t ∙ rw h; leaves = λ h. tick-to t ∙ rw h }

-- ---- the very tick

one_more : (b : Bool) (z : ℕ) → z + flag b ≡ suc z → b ≡ true
one_more true z e = refl
one_more false z e = absurd (omega (arith, e))

no_more : (b : Bool) (z : ℕ) → z + flag b ≡ z → b ≡ false
no_more true z e = absurd (omega (arith, e))
no_more false z e = refl

module _ (t : Timer) where
  hit-at : (n m y z : ℕ) → n ≡ suc m → zeros_in n t ≡ y → zeros_in m t ≡ z → y ≡ suc z → hits n t ≡ true
  unfolding zeros_in
  hit-at n m y z e p q f =
      ap (λ (k : ℕ). hits k t) e
      ∙ one_more (hits (suc m) t) (zeros_in m t) (sym (ap (λ (k : ℕ). zeros_in k t) e) ∙ p ∙ f ∙ ap suc (sym q))

  hit-not : (n m y z : ℕ) → n ≡ suc m → zeros_in n t ≡ y → zeros_in m t ≡ z → y ≡ z → hits n t ≡ false
  unfolding zeros_in
  hit-not n m y z e p q f =
      ap (λ (k : ℕ). hits k t) e
      ∙ no_more (hits (suc m) t) (zeros_in m t) (sym (ap (λ (k : ℕ). zeros_in k t) e) ∙ p ∙ f ∙ sym q)

-- ---- continuous

module _ (t : Timer) (e : t.run ≡ true) (on : t.cont ≡ true) where
  first-zero : t.counter ≡ 0 → first t ≡ t.period + 1
  first-zero f = rw (eq-eqb t.counter 0 f)

  first_above : (c : ℕ) → t.counter ≡ suc c → first t ≡ suc c
  first_above c f = rw (f, eqb-suc-zero c)

  -- zero is not reached before
  none-by : (c : ℕ) → t.counter ≡ c → (n : ℕ) → n < first t → zeros_in n t ≡ 0
  none-by zero f n h =
      let g = first-zero f in
      (stands-is (zero-add n) refl refl refl (within t on (bottom t e zero f) n (omega (arith, g, h)))).zeros
  none-by (suc c) f n h =
      let g = first_above c f in
      (down t e n (suc c - n) (omega (arith, f, g, h)) (omega (arith, g, h))).zeros

  none : (n : ℕ) → n < first t → zeros_in n t ≡ 0
  none = none-by t.counter refl

  some-by : (c : ℕ) → t.counter ≡ c → (0 < first t) × Stands (first t) t 0 true 1
  some-by zero f =
      let g = first-zero f in
      (omega (arith, g), stands-is (zero-add (t.period + 1) ∙ sym g) refl refl refl (round t on t.period refl (bottom t e zero f)))
  some-by (suc c) f =
      let g = first_above c f in
      (omega (arith, g), stands-is (sym g) refl refl (rw (eqb-suc-zero c)) (bottom t e (suc c) f))

  some : (0 < first t) × Stands (first t) t 0 true 1
  some = some-by t.counter refl

  whole : (j : ℕ) → Stands (first t + j * (t.period + 1)) t 0 true (1 + j)
  whole j = turns t on some.1 j

  times : (j r : ℕ) → r ≤ t.period → zeros_in (first t + j * (t.period + 1) + r) t ≡ 1 + j
  times j r h = (within t on (whole j) r h).zeros

  before : (n : ℕ) → n < first t → hits n t ≡ false
  before zero h = refl
  before (suc n) h = hit-not t (suc n) n 0 0 refl (none (suc n) h) (none n (omega arith)) refl

  every : (j r : ℕ) → r ≤ t.period → hits (first t + j * (t.period + 1) + r) t ≡ eqb r 0
  every zero zero h =
      let g = some.0 in
      hit-at t _ (first t - 1) 1 0 (rw (zero-mul (t.period + 1)) (omega (arith, g))) (times 0 0 h)
      (none (first t - 1) (omega (arith, g))) refl
  every (suc j) zero h =
      hit-at t _ (first t + j * (t.period + 1) + t.period) (1 + suc j) (1 + j) (rw (suc-mul j (t.period + 1)) (omega arith))
      (times (suc j) 0 h)
      (times j t.period (omega arith)) (omega arith)
  every j (suc r) h =
      hit-not t _ (first t + j * (t.period + 1) + r) (1 + j) (1 + j) (omega arith) (times j (suc r) h) (times j r (omega arith)) refl
      ∙ sym (eqb-suc-zero r)

  periodic : Periodic t
  periodic = record {
    before = before;
    every = every;
    counter = λ j. ap (λ (u : Timer). u.counter) (whole j).timer;
    runs = λ j. ap (λ (u : Timer). u.run) (whole j).timer;
    to = λ j. ap (λ (u : Timer). u.to) (whole j).timer ∙ rw (ne_eqb (1 + j) 0 (λ h. omega arith));
    count = λ j r h. times j r h ∙ omega arith;
  }

-- A running continuous timer reaches zero after its counter's ticks and then every P + 1.
pub reaches-every-period : ReachesEveryPeriod
reaches-every-period = periodic

-- ---- one-shot

module _ (t : Timer) (e : t.run ≡ true) (off : t.cont ≡ false) where
  quiet : (n : ℕ) → n < t.counter → zeros_in n t ≡ 0
  quiet n h = (down t e n (t.counter - n) (omega arith) (omega arith)).zeros

  not_yet : (n : ℕ) → n < t.counter → hits n t ≡ false
  not_yet zero h = refl
  not_yet (suc n) h = hit-not t (suc n) n 0 0 refl (quiet (suc n) h) (quiet n (omega arith)) refl

  is-above : 0 < t.counter → eqb t.counter 0 ≡ false
  is-above h = ne_eqb t.counter 0 (λ z. omega arith)

  low-one : 0 < t.counter → zeros_in t.counter t ≡ 1
  low-one h = (bottom t e t.counter refl).zeros ∙ rw (is-above h)

  counts : (d n : ℕ) → n ≡ t.counter + d → 0 < t.counter → 0 < t.period → zeros_in n t ≡ 1
  unfolding ran_of
  counts zero n f h i = ap (λ (k : ℕ). zeros_in k t) (f ∙ add-zero t.counter) ∙ low-one h
  counts (suc d) n f h i =
      ap (λ (r : Ran). r.zeros) (ran-once n t e off (omega arith)) ∙ rw (is-above h, ne_eqb t.period 0 (λ z. omega arith))

  once : Once t
  unfolding ran_of
  once = record {
    before = not_yet;
    reached = λ h. hit-at t t.counter (t.counter - 1) 1 0 (omega arith) (low-one h) (quiet (t.counter - 1) (omega arith)) refl;
    to = λ h. ap (λ (u : Timer). u.to) (bottom t e t.counter refl).timer ∙ rw (is-above h);
    counter = ap (λ (u : Timer). u.counter) (bottom t e t.counter refl).timer;
    runs = ap (λ (u : Timer). u.run) (bottom t e t.counter refl).timer;
    loaded = λ n h. ap (λ (r : Ran). r.timer.counter) (ran-once n t e off h);
    stands = λ n h. ap (λ (r : Ran). r.timer.run) (ran-once n t e off h);
    count = λ n h i g. counts (n - t.counter) n (omega arith) h i;
    count_zero = λ n c p h. ap (λ (r : Ran). r.zeros) (ran-once n t e off (omega arith))
        ∙ rw (eq-eqb t.counter 0 c, eq-eqb t.period 0 p);
  }

-- A running one-shot timer reaches zero once, and on the next tick it is loaded again and stands.
pub one-shot : OneShot
one-shot = once

-- ---- elapsed time

full_at : (c n : ℕ) → c ≤ n → c ≤ 4294967295 → elapsed_of c (after 4294967295 ((n - c) % 2 ^ 32)) ≡ n % 2 ^ 32
full_at c n h i = by ((n - c) % 2 ^ 32) refl
  where
    by : (x : ℕ) → (n - c) % 2 ^ 32 ≡ x → elapsed_of c (after 4294967295 x) ≡ n % 2 ^ 32
    by zero f = omega arith
    by (suc x) f = rw (eqb-suc-zero x) (omega arith)

module _ (t : Timer) (n : ℕ) (e : t.run ≡ true) (on : t.cont ≡ true) (full : t.period ≡ 4294967295) (h : t.counter ≤ t.period) where
  told : (u : Timer) → after_ticks n (snapped_of t) ≡ u → u.period ≡ t.period → elapsed_of t.counter u.counter ≡ n % 2 ^ 32
      → between_of (snapped_of (after_ticks n (snapped_of t))) t.counter (after_ticks n (snapped_of t)).counter ≡ Ok (n % 2 ^ 32)
  told u f g k = rw f (between-full (snapped_of u) t.counter u.counter (g ∙ full) ∙ ap Ok k)

  is-ticks : between_of (snapped_of (after_ticks n (snapped_of t))) t.counter (after_ticks n (snapped_of t)).counter ≡ Ok (n % 2 ^ 32)
  unfolding ran_of
  is-ticks = by (ltb n t.counter) refl
    where
      by : (b : Bool) → ltb n t.counter ≡ b
          → between_of (snapped_of (after_ticks n (snapped_of t))) t.counter (after_ticks n (snapped_of t)).counter ≡ Ok (n % 2 ^ 32)
      by true f =
          let i = ltb-true n t.counter f in
          told _ (ap (λ (r : Ran). r.timer) (ran-down n (snapped_of t) e i)) refl (omega (arith, i, h, full))
      by false f =
          let i = ltb-false n t.counter f in
          told _ (ap (λ (r : Ran). r.timer) (ran_on n (snapped_of t) e on i)) refl
          (rw full (full_at t.counter n i (omega (arith, h, full))))

snap-is : {t u : Timer} {o v : ℕ} → Snap t o v u → u ≡ snapped_of t
snap-is {t} {u} {o} {v} s = by (eqb o 4) refl
  where
    by : (b : Bool) → eqb o 4 ≡ b → u ≡ snapped_of t
    by true f = (written_is t o v s.is).1 ∙ rw (eqb-true o 4 f)
    by false f = (written_is t o v s.is).1 ∙ rw (eqb-true o 5 (rw f at s.at))

-- The time between two snapshots is the ticks between them, modulo 2^32.
pub elapsed-is-ticks : ElapsedIsTicks
elapsed-is-ticks t earlier later n a v b w e on full h p q =
    let f : earlier ≡ snapped_of t = snap-is p in
    let g : later ≡ snapped_of (after_ticks n (snapped_of t)) = snap-is q ∙ ap (λ (u : Timer). snapped_of (after_ticks n u)) f in
    ap (λ (u : Timer). between_of later u.snapshot later.snapshot) f
    ∙ ap (λ (u : Timer). between_of u t.counter u.snapshot) g
    ∙ is-ticks t n e on full h
