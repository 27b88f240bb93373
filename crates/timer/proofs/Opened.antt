-- The six calls: what is left, by what opening the timer answers, and by what is asked of it then.
-- Assumes nothing.
use Rattle.std.specs.Prelude.{Result, Ok, Err}
use Rattle.std.specs.Result.{IsErrAnd}
use Rattle.std.proofs.Common.{◌≡◌, ℕ, ◌+◌, ◌*◌, Bool, true, false, cond, not, ◌&&◌, eqb, List, length, sym, refl, ap, ◌∙◌, eqb-true}
use Rattle.words.specs.Promise.{Answers}
use Rattle.words.proofs.Answering.{answers-refused, answers-done}
use Rattle.bus.specs.declared.Refusal.{Refusal}
use Rattle.bus.specs.declared.Refusal.TheVariants.{BadSize, BadImage}
use Rattle.bus.specs.Refusal.{refusal_number, answer_number}
use Rattle.bus.proofs.Numbers.{refused-not-done}
use Rattle.timer.specs.declared.Timer.{Timer}
use Rattle.timer.specs.Saved.{numbers, lowest_broken, sized}
use Rattle.timer.specs.Registers.{is_register, is_full}
use Rattle.timer.specs.Calls.{timer_in, is_value, after_rules, register_number, period_number}
use Rattle.timer.specs.Helpers.Parts.{opened_of}
use Rattle.timer.proofs.InBytes.{good-from}

-- ---- a refusal that is passed on

passed : (why : Refusal) (r : Result Unit Refusal) → IsErrAnd r (λ e. e ≡ why) → answer_number r ≡ refusal_number why
passed why (Ok x) h = absurd h
passed why (Err e) h = ap refusal_number h

refused : {number : ℕ} {before done : List ℕ} (why : Refusal) (r : Result Unit Refusal) → IsErrAnd r (λ e. e ≡ why)
    → number ≡ refusal_number why → Answers number before done (answer_number r) before
refused why r p e = answers-refused (passed why r p ∙ sym e) (λ z. refused-not-done why (sym (passed why r p) ∙ z))

-- the numbers of the calls, as the methods' promises write them
turned : (b : Bool) (n : ℕ) → cond (not b) n 0 ≡ cond b 0 n
turned true n = refl
turned false n = refl

pub register-is : (offset : ℕ) → register_number offset ≡ cond (is_register offset) 0 16
register-is offset = turned (is_register offset) 16

pub period-is : (t : Timer) → period_number t ≡ cond (is_full t) 0 17
period-is t = turned (is_full t) 17

-- ---- sizes and rules, which come first

refused-by : (b c : Bool) (n rest : ℕ) (u : Timer) {why : Refusal} → cond b (cond c (Ok u) (Err (BadImage n))) (Err BadSize) ≡ Err why
    → cond (not b) 7 (cond (not c) (8 + 256 * n) rest) ≡ refusal_number why
refused-by true true n rest u e = cc
refused-by true false n rest u e = ap (answer_number {A = Timer}) e
refused-by false c n rest u e = ap (answer_number {A = Timer}) e

module _ (sizes : Bool) (xs : List ℕ) where
  pub not-opened : (rest : ℕ) {before done : List ℕ} {why : Refusal} (r : Result Unit Refusal) → IsErrAnd r (λ e. e ≡ why)
      → opened_of sizes xs ≡ Err why → Answers (after_rules sizes xs rest) before done (answer_number r) before
  unfolding opened_of
  not-opened rest {why = why} r p e = refused why r p (refused-by sizes (eqb (lowest_broken (numbers xs)) 0) _ rest _ e)

  module _ {t : Timer} (e : opened_of sizes xs ≡ Ok t) where
    good : (sizes ≡ true) × (eqb (lowest_broken (numbers xs)) 0 ≡ true) × (t ≡ timer_in xs)
    unfolding opened_of
    good = good-from sizes (eqb (lowest_broken (numbers xs)) 0) _ _ e

    pub number-is : (rest : ℕ) → after_rules sizes xs rest ≡ rest
    number-is rest = rw (good.0, good.1)

    -- ---- what is asked of the timer then: it is refused, or done

    module _ (rest : Timer → ℕ) where
      pub refused-then : {before done : List ℕ} (why : Refusal) (r : Result Unit Refusal) → IsErrAnd r (λ e. e ≡ why)
          → rest t ≡ refusal_number why → Answers (after_rules sizes xs (rest (timer_in xs))) before done (answer_number r) before
      refused-then why r p f = refused why r p (number-is _ ∙ sym (ap rest good.2) ∙ f)

      pub done_then : (after : Timer → List ℕ) {before ys : List ℕ} → rest t ≡ 0 → ys ≡ after t
          → Answers (after_rules sizes xs (rest (timer_in xs))) before (after (timer_in xs)) 0 ys
      done_then after f g = answers-done (number-is _ ∙ sym (ap rest good.2) ∙ f) (g ∙ ap after good.2)

-- ---- the sizes, of a timer's bytes and a value's

both : (a b : Bool) → (a && b) ≡ true → (a ≡ true) × (b ≡ true)
both true true e = (refl, refl)
both true false e = cc
both false b e = cc

module _ (xs value : List ℕ) {t : Timer} (e : opened_of (sized xs && is_value value) xs ≡ Ok t) where
  pub timer-sized : length xs ≡ 14
  timer-sized = eqb-true (length xs) 14 (both (sized xs) (is_value value) (good _ _ e).0).0

  pub value_sized : length value ≡ 4
  value_sized = eqb-true (length value) 4 (both (sized xs) (is_value value) (good _ _ e).0).1
