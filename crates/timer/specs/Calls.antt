-- What the six calls promise over the 14 bytes: the number and every lent byte after the call. 0 is done; refused, nothing changes.
-- Assumes nothing.
use Rattle.std.specs.Prelude.{◌≡◌, ℕ, Bool, not, ◌&&◌, List, length, ◌==◌, if◌then◌else◌}
use Rattle.words.specs.declared.Order.TheVariants.{MostFirst}
use Rattle.words.specs.Bits.{flag}
use Rattle.words.specs.Orders.{bytes_of}
use Rattle.words.specs.Promise.{Answers, answers-unique}
use Rattle.bus.specs.declared.Refusal.TheVariants.{BadSize, BadImage, NoTimerRegister, NotFullPeriod}
use Rattle.bus.specs.Refusal.{refusal_number}
use Rattle.timer.specs.declared.Timer.{Timer}
use Rattle.timer.specs.Counting.{created_of, after_ticks, zeros_in}
use Rattle.timer.specs.Registers.{is_register, register_of, written_of, line_up, elapsed_of, is_full}
use Rattle.timer.specs.Saved.{timer_of, numbers, lowest_broken, sized, bytes_of_timer}

-- the timer of 14 bytes
abbrev pub timer_in : List ℕ → Timer
timer_in xs = timer_of (numbers xs)

-- a value: 32 bits in 4 bytes, the most significant first
abbrev pub value_bytes : ℕ → List ℕ
value_bytes v = bytes_of MostFirst 4 v

abbrev pub is_value : List ℕ → Bool
is_value value = length value == 4

-- ---- the numbers, the first that applies

-- 7 where a size is wrong, 8 + 256 x field where a rule is broken, then the rest
abbrev pub after_rules : (sizes : Bool) (xs : List ℕ) (rest : ℕ) → ℕ
after_rules sizes xs rest =
    if not sizes then refusal_number BadSize
    else if not (lowest_broken (numbers xs) == 0) then refusal_number (BadImage (lowest_broken (numbers xs)))
    else rest

-- 16 where there is no register
abbrev pub register_number : (offset : ℕ) → ℕ
register_number offset = if not (is_register offset) then refusal_number NoTimerRegister else 0

-- 17 where the period is not the full one
abbrev pub period_number : Timer → ℕ
period_number t = if not (is_full t) then refusal_number NotFullPeriod else 0

-- 7
unfoldable pub create_number : List ℕ → ℕ
create_number xs = if not (sized xs) then refusal_number BadSize else 0

-- 7, 8, 16
unfoldable pub read_number : (xs : List ℕ) (offset : ℕ) (value : List ℕ) → ℕ
read_number xs offset value = after_rules (sized xs && is_value value) xs (register_number offset)

-- 7, 8, 16
unfoldable pub write_number : (xs : List ℕ) (offset : ℕ) → ℕ
write_number xs offset = after_rules (sized xs) xs (register_number offset)

-- 7, 8: of the line and of a run
unfoldable pub value_number : (xs value : List ℕ) → ℕ
value_number xs value = after_rules (sized xs && is_value value) xs 0

-- 7, 8, 17
unfoldable pub elapsed_number : (xs value : List ℕ) → ℕ
elapsed_number xs value = after_rules (sized xs && is_value value) xs (period_number (timer_in xs))

-- ---- the six calls: each promises Answers, of its number and of what it leaves where it is done

abbrev pub TimerCreated : (xs : List ℕ) (period r : ℕ) (xs' : List ℕ) → Type 0
TimerCreated xs period r xs' = Answers (create_number xs) xs (bytes_of_timer (created_of period)) r xs'

abbrev pub TimerRead : (xs : List ℕ) (offset : ℕ) (value : List ℕ) (r : ℕ) (value' : List ℕ) → Type 0
TimerRead xs offset value r value' = Answers (read_number xs offset value) value (value_bytes (register_of (timer_in xs) offset)) r value'

abbrev pub TimerWritten : (xs : List ℕ) (offset v r : ℕ) (xs' : List ℕ) → Type 0
TimerWritten xs offset v r xs' = Answers (write_number xs offset) xs (bytes_of_timer (written_of (timer_in xs) offset v)) r xs'

-- the value is 1 where the line is up, else 0
abbrev pub TimerLine : (xs value : List ℕ) (r : ℕ) (value' : List ℕ) → Type 0
TimerLine xs value r value' = Answers (value_number xs value) value (value_bytes (flag (line_up (timer_in xs)))) r value'

-- so many ticks: the timer after them, and how many times its counter reached zero in them
pub record TimerRan (xs : List ℕ) (n : ℕ) (value : List ℕ) (r : ℕ) (xs' value' : List ℕ) : Type 0 where
  pub timer : Answers (value_number xs value) xs (bytes_of_timer (after_ticks n (timer_in xs))) r xs'
  pub zeros : Answers (value_number xs value) value (value_bytes (zeros_in n (timer_in xs))) r value'

abbrev pub TimerElapsed : (xs : List ℕ) (earlier later : ℕ) (value : List ℕ) (r : ℕ) (value' : List ℕ) → Type 0
TimerElapsed xs earlier later value r value' = Answers (elapsed_number xs value) value (value_bytes (elapsed_of earlier later)) r value'

-- ---- no second outcome: of a run as of the five others, whose law is `answers-unique`

abbrev pub TimerRanUnique : Type 0
TimerRanUnique = (xs : List ℕ) (n : ℕ) (value : List ℕ) (r s : ℕ) (ys zs us vs : List ℕ)
    → TimerRan xs n value r ys us → TimerRan xs n value s zs vs → (r ≡ s) × (ys ≡ zs) × (us ≡ vs)

pub timer-ran-unique : TimerRanUnique
timer-ran-unique xs n value r s ys zs us vs p q =
    let timers = answers-unique _ _ _ r s ys zs p.timer q.timer in
    let values = answers-unique _ _ _ r s us vs p.zeros q.zeros in
    (timers.0, timers.1, values.1)
