-- The promise of a call that gives a number, made by the number.
-- Assumes nothing.
use Prim.Native.Nat.{ℕ}
use mathlib.Core.Path.{◌≡◌, sym, ap, ◌∙◌}
use mathlib.Core.Bool.{Bool, cond}
use mathlib.Core.List.{List}
use borrow.Author.Tests.{eq-eqb, ne_eqb}
use Rattle.words.specs.Promise.{Answers}

pub answers-refused : {number r : ℕ} {before done : List ℕ} → r ≡ number → (r ≡ 0 → ⊥) → Answers number before done r before
answers-refused {number} {r} {before} {done} e h =
    record { answer = e; lent = sym (ap (λ (b : Bool). cond b done before) (ne_eqb number 0 (λ z. h (e ∙ z)))) }

pub answers-done : {number : ℕ} {before done after : List ℕ} → number ≡ 0 → after ≡ done → Answers number before done 0 after
answers-done {number} {before} {done} e f =
    record { answer = sym e; lent = f ∙ sym (ap (λ (b : Bool). cond b done before) (eq-eqb number 0 e)) }
