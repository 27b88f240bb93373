-- The C calls: their numbers, and their answers as bytes.
-- Assumes nothing.
use Rattle.std.specs.Prelude.{Result, Ok, Err, Option}
use Prim.Native.Nat.{ℕ, ◌+◌, ◌*◌, ◌^◌, ◌<◌}
use mathlib.Core.Path.{◌≡◌, refl, sym, ap, subst, ◌∙◌}
use mathlib.Core.Bool.{Bool, true, false, cond}
use mathlib.Core.List.{List, [], ◌∷◌, ◌++◌}
use native.Mathlib.Omega.{arith}
use lib.ListN.{length}
use borrow.Author.Tests.{eq-eqb, ne_eqb}
use Rattle.words.specs.declared.Order.TheVariants.{MostFirst}
use Rattle.words.specs.Numbers.{bytes}
use Rattle.words.specs.Orders.{bytes_of, word_bytes}
use Rattle.words.specs.Promise.{Answers}
use Rattle.words.specs.Slices.{put_at}
use Rattle.words.proofs.Answering.{answers-refused, answers-done}
use Rattle.words.proofs.Recode.{split-append}
use Rattle.words.proofs.Slices.{put-parts, filled}
use Rattle.bus.specs.declared.Refusal.{Refusal}
use Rattle.bus.specs.declared.Window.{Window}
use Rattle.bus.specs.Refusal.{refusal_number, answer_number}
use Rattle.bus.specs.Window.{keeps_limits, checked_of}
use Rattle.bus.proofs.Numbers.{refused-not-done}
use Rattle.links.specs.declared.mending.Change.{Change}
use Rattle.links.specs.declared.Stop.{Stop}
use Rattle.links.specs.declared.Verdict.{Verdict}
use Rattle.links.specs.Calls.{WasChecked, stop_bytes, verdict_bytes, check_number, ChainChecked, change_bytes, mended_bytes, mend_number, ChainMended}
use Rattle.links.specs.Mending.{Cut, nowhere, before_all, behind, cut_of, mended_by, left_by, mended_in, left_in, WasMended}
use Rattle.links.proofs.Windows.{verdict-is}

-- the answer, from its three numbers
pub stop-filled : (xs : List ℕ) (kind : ℕ) (s : Stop) → length xs ≡ 10
    → put_at (put_at xs 0 (bytes_of MostFirst 2 kind)) 2 (word_bytes MostFirst (s.position ∷ s.address ∷ [])) ≡ stop_bytes kind s
stop-filled xs kind s l = filled xs _ _ 2 refl l

module _ (mem : List ℕ) (base pointer : ℕ) (answer : List ℕ) where
  pub other-size : (length answer ≡ 10 → ⊥) → ChainChecked mem base pointer answer 7 answer
  unfolding check_number
  other-size h = answers-refused (rw (ne_eqb (length answer) 10 h)) (λ z. omega (arith, z))

  module _ (l : length answer ≡ 10) (r : Result Verdict Refusal) (w : WasChecked mem base pointer r) where
    number_is : answer_number r ≡ check_number mem base answer
    unfolding check_number
    number_is = w.number ∙ by (keeps_limits base (length mem)) refl
      where
        by : (b : Bool) → keeps_limits base (length mem) ≡ b → cond (keeps_limits base (length mem)) 0 3 ≡ check_number mem base answer
        by true e = rw (eq-eqb (length answer) 10 l, e)
        by false e = rw (eq-eqb (length answer) 10 l, e)

    pub told-refused : (why : Refusal) → r ≡ Err why → ChainChecked mem base pointer answer (refusal_number why) answer
    told-refused why e = answers-refused (sym (ap (answer_number {A = Verdict}) e) ∙ number_is) (refused-not-done why)

    pub told-verdict : (v : Verdict) (answer' : List ℕ) → r ≡ Ok v → answer' ≡ verdict_bytes v → ChainChecked mem base pointer answer 0 answer'
    told-verdict v answer' e f =
        answers-done (sym number_is ∙ ap (answer_number {A = Verdict}) e) (f ∙ ap verdict_bytes (verdict-is mem base pointer v (sym e ∙ w.answer)))

-- ---- mending

-- the answer, from its four numbers
pub change-filled : (xs : List ℕ) (n : ℕ) (c : Change) → length xs ≡ 8 → c.after < 2 ^ 8
    → put_at (put_at (put_at xs 0 (bytes_of MostFirst 2 n)) 2 (bytes_of MostFirst 4 c.address)) 6 (bytes_of MostFirst 2 (c.before * 256 + c.after))
    ≡ change_bytes n c
change-filled xs n c l h =
    let two : bytes_of MostFirst 2 (c.before * 256 + c.after) ≡ bytes_of MostFirst 1 c.before ++ bytes_of MostFirst 1 c.after =
    split-append (bytes 1) (bytes 1) c.before c.after h in
    ap (λ (ys : List ℕ). put_at ys 6 (bytes_of MostFirst 2 (c.before * 256 + c.after)))
    (put-parts xs (bytes_of MostFirst 2 n) (bytes_of MostFirst 4 c.address) 2 refl (omega (arith, l)))
    ∙ filled xs (bytes_of MostFirst 2 n ++ bytes_of MostFirst 4 c.address) _ 6 refl l
    ∙ ap (λ (ys : List ℕ). bytes_of MostFirst 2 n ++ bytes_of MostFirst 4 c.address ++ ys) two

-- where mending is refused the dump is as it was
left-refused : (x : Result Window Refusal) (mem : List ℕ) (pointer : ℕ) (why : Refusal) → Err why ≡ mended_in x mem pointer → left_in x mem pointer ≡ mem
left-refused (Err y) mem pointer why e = refl
left-refused (Ok w) mem pointer why e = by (cut_of w mem pointer) e
  where
    by : (x : Cut) → Err why ≡ mended_by w mem x → left_by w mem x ≡ mem
    by nowhere f = refl
    by before_all f = refl
    by (behind a) f = absurd (cc)

module _ (mem : List ℕ) (base pointer : ℕ) (answer : List ℕ) where
  pub mend-size : (length answer ≡ 8 → ⊥) → ChainMended mem base pointer answer 7 mem answer
  unfolding mend_number
  mend-size h =
      let n : 7 ≡ mend_number mem base pointer answer = rw (ne_eqb (length answer) 8 h) in
      let z : 7 ≡ 0 → ⊥ = λ z. omega (arith, z) in
      record { window = answers-refused n z; told = answers-refused n z }

  module _ (l : length answer ≡ 8) (r : Result (Option Change) Refusal) (mem' : List ℕ) (w : WasMended mem base pointer r mem') where
    mend-number : answer_number r ≡ mend_number mem base pointer answer
    unfolding mend_number
    mend-number = ap (answer_number {A = Option Change}) w.answer ∙ rw (eq-eqb (length answer) 8 l)

    pub mend-refused : (why : Refusal) → r ≡ Err why → ChainMended mem base pointer answer (refusal_number why) mem' answer
    mend-refused why e =
        let n : refusal_number why ≡ mend_number mem base pointer answer = sym (ap (answer_number {A = Option Change}) e) ∙ mend-number in
        let same : mem' ≡ mem = w.lent ∙ left-refused (checked_of base (length mem)) mem pointer why (sym e ∙ w.answer) in
        record {
          window = subst (λ (ys : List ℕ). Answers (mend_number mem base pointer answer) mem (left_in (checked_of base (length mem)) mem pointer) (refusal_number why) ys) (sym same) (answers-refused n (refused-not-done why));
          told = answers-refused n (refused-not-done why);
        }

    pub mend-told : (o : Option Change) (answer' : List ℕ) → r ≡ Ok o → answer' ≡ mended_bytes (Ok o) → ChainMended mem base pointer answer 0 mem' answer'
    mend-told o answer' e f =
        let n : mend_number mem base pointer answer ≡ 0 = sym mend-number ∙ ap (answer_number {A = Option Change}) e in
        record { window = answers-done n w.lent; told = answers-done n (f ∙ sym (ap mended_bytes e) ∙ ap mended_bytes w.answer) }
