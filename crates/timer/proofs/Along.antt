-- Where a running timer is after so many ticks, and how often it reached zero in them.
-- Assumes nothing.
use Rattle.std.proofs.Common.{◌≡◌, ℕ, zero, suc, ◌+◌, ◌-◌, ◌*◌, ◌/◌, ◌%◌, ◌<◌, ◌≤◌, Bool, true, false, not, ◌||◌, eqb, sym, refl, ap, ◌∙◌, subst, add-zero, mod-lt, suc-mul, div-add-mod', zero-add, zero-mul, arith, ne_eqb}
use Rattle.std.proofs.Math.Dec.{eqb-suc-zero}
use Rattle.words.specs.Bits.{flag}
use Rattle.timer.specs.declared.Timer.{Timer}
use Rattle.timer.specs.Counting.{stand, reaches, tick_of, after_ticks, zeros_in, ran_of}
use Rattle.timer.specs.Helpers.Parts.{standing, after}

-- n ticks lead from t to u, and z of them reach zero
pub record At (n : ℕ) (t u : Timer) (z : ℕ) : Type 0 where
  pub timer : after_ticks n t ≡ u
  pub zeros : zeros_in n t ≡ z

pub at-start : (t : Timer) → At 0 t t 0
unfolding after_ticks zeros_in
at-start t = record { timer = refl; zeros = refl }

-- one tick more
pub at_next : {n : ℕ} {t u v : Timer} {z : ℕ} (hit : Bool) → At n t u z → tick_of u ≡ v → reaches u ≡ hit → At (suc n) t v (z + flag hit)
unfolding after_ticks zeros_in
at_next hit a e f = record { timer = ap tick_of a.timer ∙ e; zeros = rw (a.zeros, a.timer, f) }

pub at_count : {n m : ℕ} {t u : Timer} {z : ℕ} → n ≡ m → At n t u z → At m t u z
at_count {n} {m} {t} {u} {z} e a = subst (λ (k : ℕ). At k t u z) e a

pub at-zeros : {n : ℕ} {t u : Timer} {y z : ℕ} → y ≡ z → At n t u y → At n t u z
at-zeros {n} {t} {u} e a = subst (λ (k : ℕ). At n t u k) e a

pub at-timer : {n : ℕ} {t u v : Timer} {z : ℕ} → u ≡ v → At n t u z → At n t v z
at-timer {n} {t} {u} {v} {z} e a = subst (λ (w : Timer). At n t w z) e a

-- a timer that stands
pub tick-stopped : (t : Timer) → t.run ≡ false → tick_of t ≡ t
unfolding tick_of
tick-stopped t e = rw e

pub at-stopped : (n : ℕ) (t : Timer) → t.run ≡ false → At n t t 0
at-stopped zero t e = at-start t
at-stopped (suc n) t e = at-zeros (zero-add 0) (at_next false (at-stopped n t e) (tick-stopped t e) (rw e))

-- ---- a timer that runs

-- after n ticks it has this counter and RUN, zero was reached z times, and TO is set if it was or was before
abbrev pub Stands : (n : ℕ) (t : Timer) (counter : ℕ) (run : Bool) (z : ℕ) → Type 0
Stands n t counter run z = At n t (stand counter run (not (eqb z 0) || t.to) t) z

pub stands-is : {n m : ℕ} {t : Timer} {k l : ℕ} {r s : Bool} {y z : ℕ} → n ≡ m → k ≡ l → r ≡ s → y ≡ z → Stands n t k r y → Stands m t l s z
stands-is {n} {m} {t} {k} {l} {r} {s} {y} {z} e f g h a =
    subst (λ (v : ℕ). Stands m t l s v) h
    (subst (λ (v : Bool). Stands m t l v y) g (subst (λ (v : ℕ). Stands m t v r y) f (subst (λ (v : ℕ). Stands v t k r y) e a)))

-- TO after one more tick
told : (hit : Bool) (z : ℕ) (to : Bool) → (hit || (not (eqb z 0) || to)) ≡ (not (eqb (z + flag hit) 0) || to)
told true z to = rw (ne_eqb (z + 1) 0 (λ h. omega arith))
told false z to = rw (add-zero z)

less : (c : ℕ) → suc c - 1 ≡ c
less c = omega arith

module _ (t : Timer) where
  module _ (to : Bool) where
    tick-down : (c : ℕ) → tick_of (stand (suc c) true to t) ≡ stand c true (eqb c 0 || to) t
    unfolding tick_of
    tick-down c = rw (eqb-suc-zero c, less c)

    reach-down : (c : ℕ) → reaches (stand (suc c) true to t) ≡ eqb c 0
    reach-down c = rw (eqb-suc-zero c, less c)

    tick-load : tick_of (stand 0 true to t) ≡ stand t.period t.cont (eqb t.period 0 || to) t
    unfolding tick_of
    tick-load = refl

    reach-load : reaches (stand 0 true to t) ≡ eqb t.period 0
    reach-load = refl

  -- above 0 a tick takes 1
  pub takes : {n : ℕ} (k : ℕ) {z : ℕ} → Stands n t (suc k) true z → Stands (suc n) t k true (z + flag (eqb k 0))
  takes k {z} a =
      at_next (eqb k 0) a (tick-down (not (eqb z 0) || t.to) k ∙ ap (λ (o : Bool). stand k true o t) (told (eqb k 0) z t.to))
      (reach-down (not (eqb z 0) || t.to) k)

  -- at 0 it loads the period
  pub loads : {n z : ℕ} → Stands n t 0 true z → Stands (suc n) t t.period t.cont (z + flag (eqb t.period 0))
  loads {n} {z} a =
      at_next (eqb t.period 0) a
      (tick-load (not (eqb z 0) || t.to) ∙ ap (λ (o : Bool). stand t.period t.cont o t) (told (eqb t.period 0) z t.to))
      (reach-load (not (eqb z 0) || t.to))

  module _ (e : t.run ≡ true) where
    starts : Stands 0 t t.counter true 0
    starts = at-timer (λ i. stand t.counter (e i) t.to t) (at-start t)

    -- on the way down
    pub down : (n k : ℕ) → n + k ≡ t.counter → 0 < k → Stands n t k true 0
    down zero k f h = stands-is refl (omega arith) refl refl starts
    down (suc n) k f h =
        stands-is refl refl refl (rw (ne_eqb k 0 (λ z. omega arith))) (takes k (down n (suc k) (omega arith) (omega arith)))

    -- at the bottom
    pub bottom : (c : ℕ) → t.counter ≡ c → Stands c t 0 true (flag (not (eqb c 0)))
    bottom zero f = stands-is refl f refl refl starts
    bottom (suc c) f = stands-is refl refl refl (rw (eqb-suc-zero c)) (takes 0 (down c 1 (omega arith) (omega arith)))

  after_next : (r : ℕ) → after t.period (suc r) ≡ t.period - r
  after_next r = rw (eqb-suc-zero r) (omega arith)

  -- ---- a timer that counts again and again

  module _ (on : t.cont ≡ true) where
    pub within : {n z : ℕ} → Stands n t 0 true z → (r : ℕ) → r ≤ t.period → Stands (n + r) t (after t.period r) true z
    within {n} {z} a zero h = stands-is (sym (add-zero n)) refl refl refl a
    within {n} {z} a (suc zero) h =
        stands-is (omega arith) (sym (after_next 0 ∙ omega arith)) on (rw (ne_eqb t.period 0 (λ e. omega arith)) (add-zero z)) (loads a)
    within {n} {z} a (suc (suc r)) h =
        stands-is (omega arith) (sym (after_next (suc r))) refl
        (rw (ne_eqb (t.period - suc r) 0 (λ e. omega arith)) (add-zero z))
        (takes (t.period - suc r) (stands-is refl (after_next r ∙ omega arith) refl refl (within a (suc r) (omega arith))))

    pub round : {n z : ℕ} (p : ℕ) → t.period ≡ p → Stands n t 0 true z → Stands (n + (p + 1)) t 0 true (z + 1)
    round {n} {z} zero f a = stands-is (omega arith) f on (rw f) (loads a)
    round {n} {z} (suc q) f a =
        stands-is (omega arith) refl refl refl
        (takes 0 (stands-is refl (after_next q ∙ omega arith) refl refl (within a (suc q) (omega arith))))

    pub turns : {n z : ℕ} → Stands n t 0 true z → (j : ℕ) → Stands (n + j * (t.period + 1)) t 0 true (z + j)
    turns {n} {z} a zero = stands-is (rw (zero-mul (t.period + 1)) (sym (add-zero n))) refl refl (sym (add-zero z)) a
    turns {n} {z} a (suc j) =
        stands-is (rw (suc-mul j (t.period + 1)) (omega arith)) refl refl (omega arith) (round t.period refl (turns a j))

-- ---- n ticks at once, as the code makes them

ran-at : {n : ℕ} {t u : Timer} {z : ℕ} → At n t u z → ran_of n t ≡ record { timer = u; zeros = z }
unfolding ran_of
ran-at a = rw (a.timer, a.zeros)

module _ (n : ℕ) (t : Timer) where
  pub ran-stopped : t.run ≡ false → ran_of n t ≡ record { timer = t; zeros = 0 }
  ran-stopped e = ran-at (at-stopped n t e)

  module _ (e : t.run ≡ true) where
    pub ran-down : n < t.counter → ran_of n t ≡ standing (t.counter - n) true 0 t
    ran-down h = ran-at (down t e n (t.counter - n) (omega arith) (omega arith))

    pub ran_on : t.cont ≡ true → t.counter ≤ n
        → ran_of n t
        ≡ standing (after t.period ((n - t.counter) % (t.period + 1))) true
        (flag (not (eqb t.counter 0)) + (n - t.counter) / (t.period + 1)) t
    ran_on on h =
        let past = n - t.counter in
        let round = t.period + 1 in
        let lt : past % round < round = mod-lt past (omega arith) in
        let all : past / round * round + past % round ≡ past = div-add-mod' past round in
        ran-at
        (stands-is (omega arith) refl refl refl
        (within t on (turns t on (bottom t e t.counter refl) (past / round)) (past % round) (omega arith)))

    pub ran-zero : n ≡ t.counter → ran_of n t ≡ standing 0 true (flag (not (eqb t.counter 0))) t
    ran-zero f = ran-at (stands-is (sym f) refl refl refl (bottom t e t.counter refl))

    pub ran-once : t.cont ≡ false → t.counter < n
        → ran_of n t ≡ standing t.period false (flag (not (eqb t.counter 0)) + flag (eqb t.period 0)) t
    ran-once off h = ran-at (rests (n - suc t.counter) (omega arith))
      where
        rests : (m : ℕ) {k : ℕ} → k ≡ suc t.counter + m
            → Stands k t t.period false (flag (not (eqb t.counter 0)) + flag (eqb t.period 0))
        rests zero f = stands-is (omega arith) refl off refl (loads t (bottom t e t.counter refl))
        rests (suc m) f = at_count (omega arith) (at-zeros (add-zero _) (at_next false (rests m refl) (tick-stopped _ refl) refl))

pub ruleset at_once = (ran-stopped, ran-down, ran_on, ran-zero, ran-once)
