-- The six registers, of 16 bits each; the interrupt line; the time between two snapshots.
-- Assumes nothing.
use Rattle.std.specs.Prelude.{◌≡◌, ℕ, ◌+◌, ◌-◌, ◌*◌, ◌/◌, ◌%◌, ◌^◌, Bool, false, cond, not, ◌&&◌, ◌||◌, List, [], ◌∷◌, ◌==◌, nat_le, slice_index, slice_index_or, if◌then◌else◌, Result, Ok, Err}
use Rattle.std.proofs.Common.{sym, ◌∙◌}
use Rattle.words.specs.Bits.{bit, flag}
use Rattle.bus.specs.declared.Refusal.{Refusal}
use Rattle.bus.specs.declared.Refusal.TheVariants.{NoTimerRegister, NotFullPeriod}
use Rattle.bus.specs.Refusal.{answer_number}
use Rattle.timer.specs.declared.Timer.{Timer}

-- 16 NoTimerRegister is "for an offset above 5"
abbrev pub is_register : (offset : ℕ) → Bool
is_register offset = nat_le offset 5

-- ---- reading

-- the two halves of a number of 32 bits
abbrev pub low : ℕ → ℕ
low n = n % 2 ^ 16

abbrev pub high : ℕ → ℕ
high n = n / 2 ^ 16

-- the registers in the order of their offsets
abbrev pub registers : Timer → List ℕ
registers t =
    (flag t.to * 1 + flag t.run * 2) ∷  -- 0 status: bit 0 TO, bit 1 RUN
    (flag t.ito * 1 + flag t.cont * 2) ∷  -- 1 control: bit 0 ITO, bit 1 CONT; START and STOP read 0
    low t.period ∷  -- 2 periodl
    high t.period ∷  -- 3 periodh
    low t.snapshot ∷  -- 4 snapl
    high t.snapshot ∷  -- 5 snaph
    []

-- what stands in the register at an offset
abbrev pub register_of : Timer → (offset : ℕ) → ℕ
register_of t offset = slice_index (registers t) offset

unfoldable pub read_of : Timer → (offset : ℕ) → Result ℕ Refusal
read_of t offset = if is_register offset then Ok (register_of t offset) else Err NoTimerRegister

-- ---- writing

-- a write to status, of whatever value, clears TO
abbrev pub cleared_of : Timer → Timer
cleared_of t =
    record { counter = t.counter; period = t.period; snapshot = t.snapshot; cont = t.cont; ito = t.ito; run = t.run; to = false }

-- control: bit 0 ITO and bit 1 CONT are stored; bit 2 START starts, bit 3 STOP stops; "START and STOP written together means STOP"
abbrev pub controlled_of : (v : ℕ) → Timer → Timer
controlled_of v t =
    record {
      counter = t.counter;
      period = t.period;
      snapshot = t.snapshot;
      cont = bit 1 v;
      ito = bit 0 v;
      run = not (bit 3 v) && (bit 2 v || t.run);
      to = t.to;
    }

-- a write to a period register loads the counter with the new period and stops it
abbrev pub loaded_of : (period : ℕ) → Timer → Timer
loaded_of period t =
    record { counter = period; period = period; snapshot = t.snapshot; cont = t.cont; ito = t.ito; run = false; to = t.to }

-- a write to a snap register, of whatever value, copies the counter to the snapshot
abbrev pub snapped_of : Timer → Timer
snapped_of t =
    record { counter = t.counter; period = t.period; snapshot = t.counter; cont = t.cont; ito = t.ito; run = t.run; to = t.to }

-- the timer after each write, in the order of the offsets; a period register replaces its half of the period
abbrev pub writes : Timer → (v : ℕ) → List Timer
writes t v =
    cleared_of t ∷  -- 0 status
    controlled_of v t ∷  -- 1 control
    loaded_of (high t.period * 2 ^ 16 + v) t ∷  -- 2 periodl
    loaded_of (v * 2 ^ 16 + low t.period) t ∷  -- 3 periodh
    snapped_of t ∷  -- 4 snapl
    snapped_of t ∷  -- 5 snaph
    []

abbrev pub written_of : Timer → (offset v : ℕ) → Timer
written_of t offset v = slice_index_or (writes t v) offset t

unfoldable pub write_of : Timer → (offset v : ℕ) → Result Timer Refusal
write_of t offset v = if is_register offset then Ok (written_of t offset v) else Err NoTimerRegister

-- ---- the line is up exactly when TO and ITO are 1

abbrev pub line_up : Timer → Bool
line_up t = t.to && t.ito

-- ---- elapsed time

-- "earlier minus later, modulo 2^32"
abbrev pub elapsed_of : (earlier later : ℕ) → ℕ
elapsed_of earlier later = (earlier + (2 ^ 32 - later)) % 2 ^ 32

-- "full-period timer (period register value 4,294,967,295)"
abbrev pub is_full : Timer → Bool
is_full t = t.period == 4294967295

-- 17 NotFullPeriod is "for elapsed time on any other period"
unfoldable pub between_of : Timer → (earlier later : ℕ) → Result ℕ Refusal
between_of t earlier later = if is_full t then Ok (elapsed_of earlier later) else Err NotFullPeriod

-- ---- the promises of the methods that can refuse: the answer, and the refusal's number

-- Timer::read
pub record TimerWasRead (t : Timer) (offset : ℕ) (r : Result ℕ Refusal) : Type 0 where
  pub answer : r ≡ read_of t offset
  pub number : answer_number r ≡ cond (is_register offset) 0 16

-- Timer::write
pub record TimerWasWritten (t : Timer) (offset v : ℕ) (r : Result Timer Refusal) : Type 0 where
  pub answer : r ≡ write_of t offset v
  pub number : answer_number r ≡ cond (is_register offset) 0 16

-- Timer::elapsed
pub record TimerWasElapsed (t : Timer) (earlier later : ℕ) (r : Result ℕ Refusal) : Type 0 where
  pub answer : r ≡ between_of t earlier later
  pub number : answer_number r ≡ cond (is_full t) 0 17

pub timer-read-unique : {t : Timer} {offset : ℕ} {r s : Result ℕ Refusal} → TimerWasRead t offset r → TimerWasRead t offset s → r ≡ s
timer-read-unique p q = p.answer ∙ sym q.answer

pub timer-written-unique : {t : Timer} {offset v : ℕ} {r s : Result Timer Refusal}
    → TimerWasWritten t offset v r → TimerWasWritten t offset v s → r ≡ s
timer-written-unique p q = p.answer ∙ sym q.answer

pub timer-elapsed-unique : {t : Timer} {earlier later : ℕ} {r s : Result ℕ Refusal}
    → TimerWasElapsed t earlier later r → TimerWasElapsed t earlier later s → r ≡ s
timer-elapsed-unique p q = p.answer ∙ sym q.answer
