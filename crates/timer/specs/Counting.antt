-- How the timer counts: a tick, and ticks one after the other.
-- Assumes nothing.
use Rattle.std.specs.Prelude.{ℕ, zero, suc, ◌+◌, ◌-◌, Bool, false, not, ◌&&◌, ◌||◌, ◌==◌, if◌then◌else◌}
use Rattle.words.specs.Bits.{flag}
use Rattle.timer.specs.declared.Timer.{Timer}
use Rattle.timer.specs.declared.Ran.{Ran}

-- made with a period: the counter is the period, and it stands; the rest is 0
abbrev pub created_of : ℕ → Timer
created_of period =
    record { counter = period; period = period; snapshot = 0; cont = false; ito = false; run = false; to = false }

-- ---- a tick

-- a timer with this counter, RUN and TO
abbrev pub stand : (counter : ℕ) (run to : Bool) → Timer → Timer
stand counter run to t =
    record { counter = counter; period = t.period; snapshot = t.snapshot; cont = t.cont; ito = t.ito; run = run; to = to }

-- "the counter assumes the value zero for one clock cycle": its new value is 1 less and, where it is 0, the period
abbrev pub next_of : (counter period : ℕ) → ℕ
next_of counter period = if counter == 0 then period else counter - 1

-- a tick, where RUN is 1: the counter has its new value; RUN becomes 0 where the period is loaded and CONT is 0; TO becomes 1 where the new
-- value is 0. Where RUN is 0 nothing happens
unfoldable pub tick_of : Timer → Timer
tick_of t =
    let next : ℕ = next_of t.counter t.period in
    if t.run then stand next (not (t.counter == 0) || t.cont) (next == 0 || t.to) t
    else t

-- whether a tick reaches zero: the timer runs, and the new value is 0
abbrev pub reaches : Timer → Bool
reaches t = t.run && next_of t.counter t.period == 0

-- ---- ticks

-- the timer after n ticks
unfoldable pub after_ticks : ℕ → Timer → Timer
after_ticks zero t = t
after_ticks (suc n) t = tick_of (after_ticks n t)

-- how many of n ticks reach zero
unfoldable pub zeros_in : ℕ → Timer → ℕ
zeros_in zero t = 0
zeros_in (suc n) t = zeros_in n t + flag (reaches (after_ticks n t))

-- both
unfoldable pub ran_of : ℕ → Timer → Ran
ran_of n t = record { timer = after_ticks n t; zeros = zeros_in n t }
