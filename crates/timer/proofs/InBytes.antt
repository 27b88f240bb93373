-- The 14 bytes met as three words and a half, as the code that reads them meets them; what loading and saving answer; the way there
-- and back.
-- Assumes nothing.
use Rattle.std.specs.Prelude.{Result, Ok, Err}
use Rattle.std.proofs.Common.{◌≡◌, ℕ, ◌+◌, ◌*◌, ◌/◌, ◌%◌, ◌^◌, ◌<◌, ◌≤◌, Bool, true, false, cond, eqb, leb, List, [], ◌∷◌, length, sym, refl, ap, ◌∙◌, subst, mod-eq_of_lt, div-one, arith, drop-drop, rules, eq-eqb, ne_eqb, eqb-true, le-leb, leb-true}
use borrow.Author.Tests.{lt-leb}
use Rattle.words.specs.declared.Order.TheVariants.{MostFirst}
use Rattle.words.specs.Bits.{flag}
use Rattle.words.specs.Numbers.{join, split, recode, bytes, Fit}
use Rattle.words.specs.Slices.{number_at, AllBytes}
use Rattle.words.specs.Packed.{no_fields, packed_over, fields_put}
use Rattle.words.specs.Fields.{first_false}
use Rattle.words.proofs.Bits.{flag-back, flag-bit}
use Rattle.words.proofs.Bytes.{bytes_fit, fit-bytes}
use Rattle.words.proofs.Recode.{recode-back, recode-fit}
use Rattle.words.proofs.Orders.{length-split}
use Rattle.words.proofs.Groups.{recodes, parts, recode-groups, parts_all, parts-fit, number-join, number_lt}
use Rattle.words.proofs.Packing.{fields-packed}
use Rattle.words.proofs.Firsts.{told-first}
use Rattle.bus.specs.declared.Refusal.{Refusal}
use Rattle.bus.specs.declared.Refusal.TheVariants.{BadSize, BadImage}
use Rattle.bus.specs.Refusal.{answer_number}
use Rattle.timer.specs.declared.Timer.{Timer}
use Rattle.timer.specs.Saved.{field, timer_of, values, widths, bytes_of_timer, numbers, rules as rules_of, lowest_broken, sized, judged, load_of, save_of, saved_over, TimerWasLoaded, Typed}
use Rattle.timer.specs.Helpers.Parts.{flag_widths}
use Rattle.timer.specs.Theorems.{TimerSavesLoaded, TimerFieldTold}

-- ---- the layout in words

abbrev runs : List (List ℕ)
runs = (32 ∷ []) ∷ (32 ∷ []) ∷ (32 ∷ []) ∷ flag_widths ∷ []

abbrev sizes : List ℕ
sizes = 4 ∷ 4 ∷ 4 ∷ 2 ∷ []

abbrev rows : List (List ℕ)
rows = bytes 4 ∷ bytes 4 ∷ bytes 4 ∷ bytes 2 ∷ []

module _ (xs : List ℕ) (l : length xs ≡ 14) (g : AllBytes xs) where
  cut : numbers xs ≡ recodes rows runs (parts xs sizes)
  unfolding numbers
  cut =
      ap (recode (bytes 14) widths) (sym (parts_all xs sizes l))
      ∙ recode-groups rows runs (parts xs sizes) (refl, (refl, (refl, (refl, tt)))) (parts-fit xs sizes (omega arith) g)

  whole : (at : ℕ) → at + 4 ≤ length xs → number_at MostFirst 4 xs at % 2 ^ 32 ≡ number_at MostFirst 4 xs at
  whole at h = mod-eq_of_lt (number_lt xs at 4 h g)

  numbers-words : numbers xs
      ≡ number_at MostFirst 4 xs 0 ∷ number_at MostFirst 4 xs 4 ∷ number_at MostFirst 4 xs 8 ∷ split flag_widths (number_at MostFirst 2 xs 12)
  numbers-words =
      cut
      ∙ rw (
        drop-drop 4 4 xs,
        drop-drop 4 8 xs,
        number-join xs 0 4 (omega arith),
        number-join xs 4 4 (omega arith),
        number-join xs 8 4 (omega arith),
        number-join xs 12 2 (omega arith),
      ) (simp (div-one, whole 0 (omega arith), whole 4 (omega arith), whole 8 (omega arith)))

  flags-lt : number_at MostFirst 2 xs 12 < 65536
  flags-lt = number_lt xs 12 2 (omega arith) g

-- ---- the rules

-- by those two that a field can break
broken-by : (b c : Bool) → first_false 1 (true ∷ b ∷ true ∷ c ∷ true ∷ true ∷ true ∷ true ∷ []) ≡ cond b (cond c 0 4) 2
broken-by true true = refl
broken-by true false = refl
broken-by false c = refl

unbroken : (b c : Bool) → ◌≡◌ {A = ℕ} (cond b (cond c 0 4) 2) 0 → (b ≡ true) × (c ≡ true)
unbroken true true e = (refl, refl)
unbroken true false e = absurd (omega (arith, e))
unbroken false c e = absurd (omega (arith, e))

broken-is : (vs : List ℕ) → lowest_broken vs ≡ cond (leb (field 1 vs) (field 2 vs)) (cond (eqb (field 4 vs) 0) 0 4) 2
broken-is vs = broken-by (leb (field 1 vs) (field 2 vs)) (eqb (field 4 vs) 0)

-- The field told breaks its rule, and every field before it keeps its own.
pub timer-field-told : TimerFieldTold
timer-field-told vs h = told-first (rules_of vs) h

-- ---- what loading answers

was-loaded : {xs : List ℕ} {r : Result Timer Refusal} → r ≡ load_of xs → TimerWasLoaded xs r
unfolding load_of
was-loaded {xs} e =
    record {
      answer = e;
      number = ap answer_number e ∙ by (sized xs) (eqb (lowest_broken (numbers xs)) 0) (lowest_broken (numbers xs)) (timer_of (numbers xs));
    }
  where
    by : (b c : Bool) (n : ℕ) (t : Timer)
        → answer_number (cond b (cond c (Ok t) (Err (BadImage n))) (Err BadSize))
        ≡ cond b (cond c 0 (8 + 256 * n)) 7
    by true true n t = refl
    by true false n t = refl
    by false c n t = refl

-- the code's four numbers
pub record Read (xs : List ℕ) (counter period snapshot flags : ℕ) : Type 0 where
  pub sized : length xs ≡ 14
  pub all_bytes : AllBytes xs
  pub counted : counter ≡ number_at MostFirst 4 xs 0
  pub periods : period ≡ number_at MostFirst 4 xs 4
  pub snapped : snapshot ≡ number_at MostFirst 4 xs 8
  pub flagged : flags ≡ number_at MostFirst 2 xs 12

module _ {xs : List ℕ} {c p s f : ℕ} (r : Read xs c p s f) where
  they : numbers xs ≡ c ∷ p ∷ s ∷ split flag_widths f
  they = rw (r.counted, r.periods, r.snapped, r.flagged) (numbers-words xs r.sized r.all_bytes)

  lt : f < 65536
  lt = rw r.flagged (flags-lt xs r.sized r.all_bytes)

  answers : (k : ℕ) → lowest_broken (c ∷ p ∷ s ∷ split flag_widths f) ≡ k → load_of xs ≡ judged k (timer_of (c ∷ p ∷ s ∷ split flag_widths f))
  unfolding load_of
  answers k e =
      rw (eq-eqb (length xs) 14 r.sized, they) (ap (λ (n : ℕ). judged n (timer_of (c ∷ p ∷ s ∷ split flag_widths f))) e)

  pub load-counter : p < c → TimerWasLoaded xs (Err (BadImage 2))
  load-counter h = was-loaded (sym (answers 2 (rw (lt-leb c p h))))

  pub load-zero : c ≤ p → 16 ≤ f → TimerWasLoaded xs (Err (BadImage 4))
  load-zero h i = let j = lt in was-loaded (sym (answers 4 (rw (le-leb c p h, ne_eqb (f / 16 % 4096) 0 (λ z. omega arith)))))

  pub load-good : c ≤ p → f < 16 → {t : Timer} → t ≡ timer_of (c ∷ p ∷ s ∷ split flag_widths f) → TimerWasLoaded xs (Ok t)
  load-good h i e = was-loaded (ap Ok e ∙ sym (answers 0 (rw (le-leb c p h, eq-eqb (f / 16 % 4096) 0 (omega arith)))))

-- ---- what saving answers

module _ (t : Timer) (xs : List ℕ) (l : length xs ≡ 14) (h : t.counter ≤ t.period) where
  pub done-is : save_of t xs ≡ Ok tt
  unfolding save_of
  done-is = rw (eq-eqb (length xs) 14 l, le-leb t.counter t.period h)

  pub lent_is : saved_over t xs ≡ bytes_of_timer t
  unfolding saved_over
  lent_is = rw (eq-eqb (length xs) 14 l, le-leb t.counter t.period h)

-- ---- there and back

a-bit : (b : Bool) → flag b < 2
a-bit true = omega arith
a-bit false = omega arith

values-fit : (t : Timer) → Typed t → Fit widths (values t)
values-fit t ty = (
  ty.counter,
  (ty.period, (ty.snapshot, (omega arith, (a-bit t.cont, (a-bit t.ito, (a-bit t.run, (a-bit t.to, tt))))))),
)

-- the lines put into a packer one after the other, as the code puts them
pub timer-packed : (t : Timer) (xs : List ℕ) → length xs ≡ 14 → Typed t
    → packed_over (fields_put widths (values t) no_fields) xs ≡ bytes_of_timer t
unfolding bytes_of_timer
timer-packed t xs l ty =
    fields-packed widths (values t) xs (values-fit t ty) (search rules) (omega arith) (omega arith)
    ∙ ap (λ (n : ℕ). recode widths (bytes n) (values t)) l

of_values : (t : Timer) → timer_of (values t) ≡ t
of_values t = rw (flag-back t.cont, flag-back t.ito, flag-back t.run, flag-back t.to)

values-of : (n : ℕ) → field 4 (split widths n) ≡ 0 → values (timer_of (split widths n)) ≡ split widths n
values-of n e = simp flag-bit (rw e)

pub length-timer : (t : Timer) → length (bytes_of_timer t) ≡ 14
unfolding bytes_of_timer
length-timer t = length-split (bytes 14) (join widths (values t))

pub timer-bytes : (t : Timer) → AllBytes (bytes_of_timer t)
unfolding bytes_of_timer
timer-bytes t = fit-bytes 14 (bytes_of_timer t) (recode-fit widths (bytes 14) (values t))

numbers-back : (t : Timer) → Typed t → numbers (bytes_of_timer t) ≡ values t
unfolding bytes_of_timer numbers
numbers-back t ty = recode-back widths (bytes 14) (values t) refl (values-fit t ty)

-- a timer is loaded from its bytes
pub load-saved : (t : Timer) → Typed t → t.counter ≤ t.period → load_of (bytes_of_timer t) ≡ Ok t
unfolding load_of
load-saved t ty h =
    rw (eq-eqb (length (bytes_of_timer t)) 14 (length-timer t), numbers-back t ty)
    (rw (le-leb t.counter t.period h) (ap Ok (of_values t)))

-- what a good answer tells
pub good-from : (b c : Bool) (n : ℕ) (u : Timer) {t : Timer} → cond b (cond c (Ok u) (Err (BadImage n))) (Err BadSize) ≡ Ok t
    → (b ≡ true) × (c ≡ true) × (t ≡ u)
good-from true true n u e = (refl, refl, cc)
good-from true false n u e = cc
good-from false c n u e = cc

module _ (xs : List ℕ) (t : Timer) (e : load_of xs ≡ Ok t) where
  told : (sized xs ≡ true) × (eqb (lowest_broken (numbers xs)) 0 ≡ true) × (t ≡ timer_of (numbers xs))
  unfolding load_of
  told = good-from (sized xs) (eqb (lowest_broken (numbers xs)) 0) _ _ e

  pub good_length : length xs ≡ 14
  good_length = eqb-true (length xs) 14 told.0

  pub good-rules : lowest_broken (numbers xs) ≡ 0
  good-rules = eqb-true (lowest_broken (numbers xs)) 0 told.1

  pub good-timer : t ≡ timer_of (numbers xs)
  good-timer = told.2

  each-kept : (leb (field 1 (numbers xs)) (field 2 (numbers xs)) ≡ true) × (eqb (field 4 (numbers xs)) 0 ≡ true)
  each-kept =
      unbroken (leb (field 1 (numbers xs)) (field 2 (numbers xs))) (eqb (field 4 (numbers xs)) 0)
      (sym (broken-is (numbers xs)) ∙ good-rules)

  pub good-keeps : t.counter ≤ t.period
  good-keeps = subst (λ (u : Timer). u.counter ≤ u.period) (sym good-timer) (leb-true _ _ each-kept.0)

  pub good-typed : Typed t
  unfolding numbers
  good-typed =
      let fit = recode-fit (bytes 14) widths xs in
      subst Typed (sym good-timer) (record { counter = fit.0; period = fit.1.0; snapshot = fit.1.1.0 })

  pub good-bytes : AllBytes xs → bytes_of_timer t ≡ xs
  unfolding bytes_of_timer numbers
  good-bytes g =
      ap bytes_of_timer good-timer
      ∙ ap (recode widths (bytes 14)) (values-of (join (bytes 14) xs) (eqb-true _ _ each-kept.1))
      ∙ recode-back (bytes 14) widths xs refl (subst (λ (n : ℕ). Fit (bytes n) xs) good_length (bytes_fit xs g))

-- A loaded timer saves to the same bytes, and is not refused.
pub timer-saves-loaded : TimerSavesLoaded
timer-saves-loaded xs t g e = record {
  same = good-bytes xs t e g;
  done = λ ys l. done-is t ys l (good-keeps xs t e);
  lent = λ ys l. lent_is t ys l (good-keeps xs t e) ∙ good-bytes xs t e g;
}
