-- What is proved of the timer: each theorem's whole statement, under its name. A term of each stands in proofs/.
-- Assumes nothing.
use Rattle.std.specs.Prelude.{◌≡◌, ℕ, zero, suc, ◌+◌, ◌*◌, ◌%◌, ◌^◌, ◌<◌, ◌≤◌, Bool, true, false, ◌||◌, ◌≢◌, List, length, ◌==◌, if◌then◌else◌, Ok}
use Rattle.words.specs.Slices.{AllBytes}
use Rattle.timer.specs.declared.Timer.{Timer}
use Rattle.timer.specs.Counting.{reaches, tick_of, after_ticks, zeros_in}
use Rattle.timer.specs.Registers.{write_of, between_of}
use Rattle.timer.specs.Saved.{rule_at, lowest_broken, bytes_of_timer, load_of, save_of, saved_over}
use Rattle.timer.specs.Met.{Met}
use Rattle.timer.specs.InUse.{InUse}
use Rattle.timer.specs.Rows.{Rows}

-- ---- ticks

-- whether the n-th tick, counted from 1, reaches zero
abbrev pub hits : (n : ℕ) → Timer → Bool
hits zero t = false
hits (suc n) t = reaches (after_ticks n t)

-- Ticks made in two goes are the ticks of both.
pub record InTwo (n m : ℕ) (t : Timer) : Type 0 where
  pub timer : after_ticks (n + m) t ≡ after_ticks m (after_ticks n t)
  pub zeros : zeros_in (n + m) t ≡ zeros_in n t + zeros_in m (after_ticks n t)

abbrev pub TicksAdd : Type 0
TicksAdd = (n m : ℕ) (t : Timer) → InTwo n m t

-- No more than n of n ticks reach zero: so the value of a run tells their number whole.
abbrev pub ZerosWithin : Type 0
ZerosWithin = (n : ℕ) (t : Timer) → zeros_in n t ≤ n

-- A tick that reaches zero sets TO, whatever TO was; another leaves it.
pub record SetsTO (t : Timer) : Type 0 where
  pub sets : reaches t ≡ true → (tick_of t).to ≡ true
  pub leaves : reaches t ≡ false → (tick_of t).to ≡ t.to

abbrev pub TicksSetTO : Type 0
TicksSetTO = (t : Timer) → SetsTO t

-- ---- continuous

-- the tick in which zero is first reached: the counter's own ticks; P + 1 where it stands at 0
abbrev pub first : Timer → ℕ
first t = if t.counter == 0 then t.period + 1 else t.counter

-- reached first in that tick, and from there on every P + 1 ticks and in no tick between
pub record Periodic (t : Timer) : Type 0 where
  pub before : (n : ℕ) → n < first t → hits n t ≡ false
  pub every : (j r : ℕ) → r ≤ t.period → hits (first t + j * (t.period + 1) + r) t ≡ (r == 0)
  -- it stands at 0 then, runs on, and TO is 1
  pub counter : (j : ℕ) → (after_ticks (first t + j * (t.period + 1)) t).counter ≡ 0
  pub runs : (j : ℕ) → (after_ticks (first t + j * (t.period + 1)) t).run ≡ true
  pub to : (j : ℕ) → (after_ticks (first t + j * (t.period + 1)) t).to ≡ true
  -- so many times in all
  pub count : (j r : ℕ) → r ≤ t.period → zeros_in (first t + j * (t.period + 1) + r) t ≡ suc j

-- A running continuous timer with stored period P, not written to, reaches zero after its counter's ticks, or after P + 1 where the counter
-- stands at 0, and then every P + 1, and sets TO each time (P = 0 included).
abbrev pub ReachesEveryPeriod : Type 0
ReachesEveryPeriod = (t : Timer) → t.run ≡ true → t.cont ≡ true → Periodic t

-- ---- one-shot

-- after the counter's ticks it stands at 0 and still runs; the next loads the period, and from there on it stands
pub record Once (t : Timer) : Type 0 where
  pub before : (n : ℕ) → n < t.counter → hits n t ≡ false
  pub reached : 0 < t.counter → hits t.counter t ≡ true
  pub to : 0 < t.counter → (after_ticks t.counter t).to ≡ true
  pub counter : (after_ticks t.counter t).counter ≡ 0
  pub runs : (after_ticks t.counter t).run ≡ true
  pub loaded : (n : ℕ) → t.counter < n → (after_ticks n t).counter ≡ t.period
  pub stands : (n : ℕ) → t.counter < n → (after_ticks n t).run ≡ false
  -- once in all; where the period is 0, by its load
  pub count : (n : ℕ) → 0 < t.counter → 0 < t.period → t.counter ≤ n → zeros_in n t ≡ 1
  pub count_zero : (n : ℕ) → t.counter ≡ 0 → t.period ≡ 0 → 0 < n → zeros_in n t ≡ 1

-- A running one-shot timer, not written to, is at 0 after its counter's ticks, and on the next tick it is loaded again and stands. Where the
-- counter was above 0, zero is reached then, TO is set and, the period being above 0, that is the only time; where both are 0, the load is.
abbrev pub OneShot : Type 0
OneShot = (t : Timer) → t.run ≡ true → t.cont ≡ false → Once t

-- ---- elapsed time

-- u is t after a write to a snap register
pub record Snap (t : Timer) (offset v : ℕ) (u : Timer) : Type 0 where
  pub at : (offset == 4 || offset == 5) ≡ true
  pub is : write_of t offset v ≡ Ok u

-- The time between two snapshots of a full-period continuous timer, n ticks apart and written to in no other way, is n modulo 2^32.
abbrev pub ElapsedIsTicks : Type 0
ElapsedIsTicks = (t earlier later : Timer) (n a v b w : ℕ)
    → t.run ≡ true → t.cont ≡ true → t.period ≡ 4294967295 → t.counter ≤ t.period
    → Snap t a v earlier → Snap (after_ticks n earlier) b w later
    → between_of later earlier.snapshot later.snapshot ≡ Ok (n % 2 ^ 32)

-- ---- the 14 bytes

-- A loaded timer saves to the same bytes, and is not refused.
pub record SavesBack (xs : List ℕ) (t : Timer) : Type 0 where
  pub same : bytes_of_timer t ≡ xs
  pub done : (ys : List ℕ) → length ys ≡ 14 → save_of t ys ≡ Ok tt
  pub lent : (ys : List ℕ) → length ys ≡ 14 → saved_over t ys ≡ xs

abbrev pub TimerSavesLoaded : Type 0
TimerSavesLoaded = (xs : List ℕ) (t : Timer) → AllBytes xs → load_of xs ≡ Ok t → SavesBack xs t

-- Every timer met in use saves to bytes that load, as it.
pub record SavesToLoad (t : Timer) (xs : List ℕ) : Type 0 where
  pub done : save_of t xs ≡ Ok tt
  pub loads : load_of (saved_over t xs) ≡ Ok t

abbrev pub TimerMetSaves : Type 0
TimerMetSaves = (t : Timer) (xs : List ℕ) → Met t → length xs ≡ 14 → SavesToLoad t xs

-- All bytes that are reached by the calls are those of a timer met in use, and load back as it: so no call refuses them with 7 or 8.
pub record LoadsAs (xs : List ℕ) : Type 0 where
  pub timer : Timer
  pub met : Met timer
  pub bytes : xs ≡ bytes_of_timer timer
  pub loads : load_of xs ≡ Ok timer

abbrev pub TimersLoad : Type 0
TimersLoad = (xs : List ℕ) → InUse xs → LoadsAs xs

-- The field told breaks its rule, and every field before it keeps its own.
abbrev pub TimerFieldTold : Type 0
TimerFieldTold = (vs : List ℕ) → lowest_broken vs ≢ 0
    → (rule_at vs (lowest_broken vs) ≡ false) × ((i : ℕ) → i < lowest_broken vs → rule_at vs i ≡ true)

-- ---- the definitions held against the request and the chapter

-- The worked cases hold, computed from the definitions.
abbrev pub TimerCasesHold : Type 0
TimerCasesHold = Rows
