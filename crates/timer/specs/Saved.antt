-- The timer's 14 bytes: the fields side by side in this order, bits most significant first; their rules; reading and writing them.
-- Assumes nothing.
use Rattle.std.specs.Prelude.{◌≡◌, ℕ, ◌+◌, ◌*◌, ◌^◌, ◌<◌, Bool, true, cond, ◌&&◌, List, [], ◌∷◌, map, length, ◌==◌, nat_eq, nat_le, slice_index, slice_index_or, if◌then◌else◌, Result, Ok, Err}
use Rattle.std.proofs.Common.{sym, ◌∙◌}
use Rattle.words.specs.Bits.{flag}
use Rattle.words.specs.Numbers.{recode, bytes}
use Rattle.words.specs.Fields.{Field, ◌bits◌, first_false}
use Rattle.bus.specs.declared.Refusal.{Refusal}
use Rattle.bus.specs.declared.Refusal.TheVariants.{BadSize, BadImage}
use Rattle.bus.specs.Refusal.{answer_number}
use Rattle.timer.specs.declared.Timer.{Timer}

-- ---- the layout

-- the table: each field's width and value
abbrev pub layout : Timer → List Field
layout t =
    32 bits t.counter ∷  -- 1 counter
    32 bits t.period ∷  -- 2 period
    32 bits t.snapshot ∷  -- 3 snapshot
    12 bits 0 ∷  -- 4 zero
    1 bits flag t.cont ∷  -- 5 CONT
    1 bits flag t.ito ∷  -- 6 ITO
    1 bits flag t.run ∷  -- 7 RUN
    1 bits flag t.to ∷  -- 8 TO
    []

-- field n of numbers in layout order
abbrev pub field : (n : ℕ) → List ℕ → ℕ
field n vs = slice_index (0 ∷ vs) n

-- the timer that eight numbers are, each by its place in the table
abbrev pub timer_of : List ℕ → Timer
timer_of vs =
    record {
      counter = field 1 vs;
      period = field 2 vs;
      snapshot = field 3 vs;
      cont = (field 5 vs == 1);
      ito = (field 6 vs == 1);
      run = (field 7 vs == 1);
      to = (field 8 vs == 1);
    }

-- the numbers of the table's lines, and their widths, which are the same whatever the timer
abbrev pub values : Timer → List ℕ
values t = map (λ x. x.value) (layout t)

abbrev pub widths : List ℕ
widths = map (λ x. x.width) (layout (timer_of []))

-- the bytes of a timer, and the numbers of 14 bytes
unfoldable pub bytes_of_timer : Timer → List ℕ
bytes_of_timer t = recode widths (bytes 14) (values t)

unfoldable pub numbers : List ℕ → List ℕ
numbers xs = recode (bytes 14) widths xs

-- ---- the rules, a test for each field

abbrev pub rules : List ℕ → List Bool
rules vs =
    true ∷  -- 1 counter
    nat_le (field 1 vs) (field 2 vs) ∷  -- 2 period: the counter is at most the period
    true ∷  -- 3 snapshot
    (field 4 vs == 0) ∷  -- 4 zero: zero bits are zero
    true ∷  -- 5 CONT
    true ∷  -- 6 ITO
    true ∷  -- 7 RUN
    true ∷  -- 8 TO
    []

-- whether the field with this number keeps its rule
abbrev pub rule_at : List ℕ → (field : ℕ) → Bool
rule_at vs field = slice_index_or (true ∷ rules vs) field true

-- the lowest field that breaks a rule, counted from 1, or 0
abbrev pub lowest_broken : List ℕ → ℕ
lowest_broken vs = first_false 1 (rules vs)

-- ---- reading and writing

abbrev pub sized : List ℕ → Bool
sized xs = length xs == 14

-- a timer, or a refusal with this field
abbrev pub judged : (field : ℕ) → Timer → Result Timer Refusal
judged field t = if field == 0 then Ok t else Err (BadImage field)

-- 7 where the size is wrong; else 8 with the field where a rule is broken; else the timer
unfoldable pub load_of : List ℕ → Result Timer Refusal
load_of xs = if sized xs then judged (lowest_broken (numbers xs)) (timer_of (numbers xs)) else Err BadSize

-- 7 where the size is wrong; else 8 with the field where the timer breaks a rule; else done
unfoldable pub save_of : Timer → List ℕ → Result Unit Refusal
save_of t xs =
    if sized xs then (if nat_eq (lowest_broken (values t)) 0 then Ok tt else Err (BadImage (lowest_broken (values t))))
    else Err BadSize

-- the lent bytes after: the timer's, or what they were where the call is refused
unfoldable pub saved_over : Timer → List ℕ → List ℕ
saved_over t xs = if sized xs && lowest_broken (values t) == 0 then bytes_of_timer t else xs

-- ---- the promises

-- 7, then 8 + 256 x field, else 0: the numbers written out, so that `refusal_number` is held to them
abbrev pub image_number : (right : Bool) (field : ℕ) → ℕ
image_number right field = cond right (cond (field == 0) 0 (8 + 256 * field)) 7

-- Timer::load
pub record TimerWasLoaded (xs : List ℕ) (r : Result Timer Refusal) : Type 0 where
  pub answer : r ≡ load_of xs
  pub number : answer_number r ≡ image_number (sized xs) (lowest_broken (numbers xs))

-- Timer::save
pub record TimerWasSaved (t : Timer) (xs : List ℕ) (r : Result Unit Refusal) (xs' : List ℕ) : Type 0 where
  pub answer : r ≡ save_of t xs
  pub number : answer_number r ≡ image_number (sized xs) (lowest_broken (values t))
  pub lent : xs' ≡ saved_over t xs

pub timer-loaded-unique : {xs : List ℕ} {r s : Result Timer Refusal} → TimerWasLoaded xs r → TimerWasLoaded xs s → r ≡ s
timer-loaded-unique p q = p.answer ∙ sym q.answer

pub timer-saved-unique : {t : Timer} {xs ys zs : List ℕ} {r s : Result Unit Refusal}
    → TimerWasSaved t xs r ys → TimerWasSaved t xs s zs → (r ≡ s) × (ys ≡ zs)
timer-saved-unique p q = (p.answer ∙ sym q.answer, p.lent ∙ sym q.lent)

-- the numbers fit their widths; their types in the code see to that
pub record Typed (t : Timer) : Type 0 where
  pub counter : t.counter < 2 ^ 32
  pub period : t.period < 2 ^ 32
  pub snapshot : t.snapshot < 2 ^ 32
