-- Every timer met in use keeps the rules, and saves to bytes that load; so do all bytes that the calls leave.
-- Assumes nothing.
use Rattle.std.proofs.Common.{◌≡◌, ℕ, zero, suc, ◌^◌, ◌<◌, ◌≤◌, Bool, true, false, cond, not, eqb, List, [], ◌∷◌, get_or, sym, refl, ap, ◌∙◌, subst, arith, eqb-true}
use Rattle.std.proofs.Math.Dec.{eqb-suc-zero}
use Rattle.words.specs.Promise.{Answers}
use Rattle.timer.specs.declared.Timer.{Timer}
use Rattle.timer.specs.Counting.{created_of, next_of, tick_of, after_ticks}
use Rattle.timer.specs.Registers.{is_register, writes, written_of, write_of}
use Rattle.timer.specs.Saved.{bytes_of_timer, sized, load_of, Typed}
use Rattle.timer.specs.Calls.{timer_in, register_number, write_number}
use Rattle.timer.specs.Helpers.Parts.{opened_of}
use Rattle.timer.specs.Met.{Met}
use Rattle.timer.specs.Met as met
use Rattle.timer.specs.InUse as bytes
use Rattle.timer.specs.Theorems.{TimerMetSaves, LoadsAs, TimersLoad}
use Rattle.timer.proofs.Along.{tick-stopped}
use Rattle.timer.proofs.InBytes.{done-is, lent_is, load-saved, good-keeps, good-typed, good-timer, good-bytes}
use Rattle.timer.proofs.InRegisters.{written_is}
use Rattle.timer.proofs.Opened.{number-is}

-- ---- a timer that keeps the rules

record Sound (t : Timer) : Type 0 where
  kept : t.counter ≤ t.period
  typed : Typed t

next_le : (c p : ℕ) → c ≤ p → next_of c p ≤ p
next_le zero p h = omega arith
next_le (suc c) p h = rw (eqb-suc-zero c) (omega arith)

tick-sound : (t : Timer) → Sound t → Sound (tick_of t)
unfolding tick_of
tick-sound t s = by t.run refl
  where
    by : (b : Bool) → t.run ≡ b → Sound (tick_of t)
    by true e =
        let h = next_le t.counter t.period s.kept in
        let p = s.typed.period in
        rw e (record { kept = h; typed = record { counter = omega (arith, h, p); period = p; snapshot = s.typed.snapshot } })
    by false e = subst Sound (sym (tick-stopped t e)) s

ticks-sound : (n : ℕ) (t : Timer) → Sound t → Sound (after_ticks n t)
unfolding after_ticks
ticks-sound zero t s = s
ticks-sound (suc n) t s = tick-sound (after_ticks n t) (ticks-sound n t s)

-- each of the timers that a write can leave
abbrev Sounds : List Timer → Type 0
Sounds [] = Unit {0}
Sounds (t ∷ ts) = Sound t × Sounds ts

one-sound : (ts : List Timer) (t : Timer) → Sounds ts → Sound t → (n : ℕ) → Sound (get_or ts n t)
one-sound [] t ss s n = s
one-sound (u ∷ ts) t ss s zero = ss.0
one-sound (u ∷ ts) t ss s (suc n) = one-sound ts t ss.1 s n

write-sound : (t : Timer) (offset v : ℕ) → Sound t → v < 2 ^ 16 → Sound (written_of t offset v)
write-sound t offset v s h =
    let c = s.typed.counter in
    let p = s.typed.period in
    let n = s.typed.snapshot in
    one-sound (writes t v) t (
      record { kept = s.kept; typed = record { counter = c; period = p; snapshot = n } },
      (
        record { kept = s.kept; typed = record { counter = c; period = p; snapshot = n } },
        (
          record { kept = omega arith; typed = record { counter = omega (arith, p, h); period = omega (arith, p, h); snapshot = n } },
          (
            record { kept = omega arith; typed = record { counter = omega (arith, p, h); period = omega (arith, p, h); snapshot = n } },
            (
              record { kept = s.kept; typed = record { counter = c; period = p; snapshot = c } },
              (record { kept = s.kept; typed = record { counter = c; period = p; snapshot = c } }, tt),
            ),
          ),
        ),
      ),
    ) s offset

sound : (t : Timer) → Met t → Sound t
sound _ (met.created p h) = record { kept = omega arith; typed = record { counter = h; period = h; snapshot = omega arith } }
sound t (met.loaded xs g e) = record { kept = good-keeps xs t e; typed = good-typed xs t e }
sound _ (met.ticked n m) = ticks-sound n _ (sound _ m)
sound _ (met.written offset v m h e) = subst Sound (sym (written_is _ offset v e).1) (write-sound _ offset v (sound _ m) h)

-- Every timer met in use saves to bytes that load.
pub timer-met-saves : TimerMetSaves
timer-met-saves t xs m l =
    let s = sound t m in
    record { done = done-is t xs l s.kept; loads = ap load_of (lent_is t xs l s.kept) ∙ load-saved t s.typed s.kept }

-- ---- the bytes that the calls leave

loads-as : {xs : List ℕ} {t : Timer} → Met t → xs ≡ bytes_of_timer t → LoadsAs xs
loads-as {xs} {t} m e =
    let s = sound t m in
    record { timer = t; met = m; bytes = e; loads = ap load_of e ∙ load-saved t s.typed s.kept }

-- what is known of the bytes before, and of those of a call that is done, is known of the bytes after
after_call : {number r : ℕ} {before done after : List ℕ} → Answers number before done r after
    → LoadsAs before → (number ≡ 0 → LoadsAs done) → LoadsAs after
after_call {number} {r} {before} {done} {after} a b h = by (eqb number 0) refl
  where
    by : (z : Bool) → eqb number 0 ≡ z → LoadsAs after
    by true e = subst LoadsAs (sym (a.lent ∙ ap (λ (z : Bool). cond z done before) e)) (h (eqb-true number 0 e))
    by false e = subst LoadsAs (sym (a.lent ∙ ap (λ (z : Bool). cond z done before) e)) b

-- a write that is not refused is one to a register
a-register : (b : Bool) → ◌≡◌ {A = ℕ} (cond (not b) 16 0) 0 → b ≡ true
a-register true e = refl
a-register false e = absurd (omega (arith, e))

module _ {xs : List ℕ} (b : LoadsAs xs) where
  is : timer_in xs ≡ b.timer
  is = sym (good-timer xs b.timer b.loads)

  written_back : (offset v : ℕ) → v < 2 ^ 16 → write_number xs offset ≡ 0 → LoadsAs (bytes_of_timer (written_of (timer_in xs) offset v))
  unfolding write_number write_of load_of opened_of
  written_back offset v h e =
      let r : is_register offset ≡ true = a-register (is_register offset) (sym (number-is (sized xs) xs b.loads (register_number offset)) ∙ e) in
      loads-as (met.written offset v b.met h (rw r)) (ap (λ (t : Timer). bytes_of_timer (written_of t offset v)) is)

  ran-back : (n : ℕ) → LoadsAs (bytes_of_timer (after_ticks n (timer_in xs)))
  ran-back n = loads-as (met.ticked n b.met) (ap (λ (t : Timer). bytes_of_timer (after_ticks n t)) is)

-- All bytes that are reached by the calls load.
pub timers-load : TimersLoad
timers-load _ (bytes.created {xs = xs} {period = period} h c) =
    loads-as (met.created period h) (c.lent ∙ ap (λ (n : ℕ). cond (eqb n 0) (bytes_of_timer (created_of period)) xs) (sym c.answer))
timers-load xs (bytes.loaded {t = t} g e) = loads-as (met.loaded xs g e) (sym (good-bytes xs t e g))
timers-load _ (bytes.written offset v u h w) = let b = timers-load _ u in after_call w b (written_back b offset v h)
timers-load _ (bytes.ran {n = n} u r) = let b = timers-load _ u in after_call r.timer b (λ e. ran-back b n)
