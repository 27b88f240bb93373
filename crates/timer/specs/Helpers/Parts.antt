-- What the private parts of the code meet: ticks at once, the last half word of the 14 bytes, and a timer with the bytes for a value.
-- Assumes nothing.
use Rattle.std.specs.Prelude.{ℕ, ◌+◌, ◌-◌, Bool, not, ◌||◌, List, [], ◌∷◌, ◌==◌, if◌then◌else◌, Result, Err}
use Rattle.bus.specs.declared.Refusal.{Refusal}
use Rattle.bus.specs.declared.Refusal.TheVariants.{BadSize}
use Rattle.timer.specs.declared.Timer.{Timer}
use Rattle.timer.specs.declared.Ran.{Ran}
use Rattle.timer.specs.Counting.{stand}
use Rattle.timer.specs.Saved.{timer_of, numbers, lowest_broken, judged}

-- a timer with this counter and RUN, and TO where zero was reached
abbrev pub standing : (counter : ℕ) (run : Bool) (zeros : ℕ) → Timer → Ran
standing counter run zeros t = record { timer = stand counter run (not (zeros == 0) || t.to) t; zeros = zeros }

-- the counter r ticks after it was 0, where r is at most the period
abbrev pub after : (period r : ℕ) → ℕ
after period r = if r == 0 then 0 else period + 1 - r

-- the widths of the fields in the last half word: zero, CONT, ITO, RUN, TO
abbrev pub flag_widths : List ℕ
flag_widths = 12 ∷ 1 ∷ 1 ∷ 1 ∷ 1 ∷ []

-- the timer of a call on these bytes, where the sizes are those that it wants
unfoldable pub opened_of : (sizes : Bool) (xs : List ℕ) → Result Timer Refusal
opened_of sizes xs = if sizes then judged (lowest_broken (numbers xs)) (timer_of (numbers xs)) else Err BadSize
