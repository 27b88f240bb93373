-- What a leaf call promises: the value that it gives, or the bytes that it leaves in what it was lent; and what a call over lent bytes
-- does that gives a number. Nothing else is open, so no second outcome satisfies the promise.
-- Assumes nothing.
use Rattle.std.specs.Prelude.{ℕ, ◌≡◌, cond, List, eqb}
use Rattle.std.proofs.Common.{sym, ◌∙◌}

-- the call gives just this value
pub record Gives {A : Type 0} (right given : A) : Type 0 where
  pub value : given ≡ right

-- the call leaves just these bytes in the lent slice
pub record Leaves (right left : List ℕ) : Type 0 where
  pub lent : left ≡ right

pub gives-unique : {A : Type 0} {right a b : A} → Gives right a → Gives right b → a ≡ b
gives-unique p q = p.value ∙ sym q.value

pub leaves-unique : {right xs ys : List ℕ} → Leaves right xs → Leaves right ys → xs ≡ ys
leaves-unique p q = p.lent ∙ sym q.lent

-- ---- a call that gives a number: 0 is done, any other is a refusal

-- the number, and the lent bytes: `done`, or refused those before
pub record Answers (number : ℕ) (before done : List ℕ) (r : ℕ) (after : List ℕ) : Type 0 where
  pub answer : r ≡ number
  pub lent : after ≡ cond (eqb number 0) done before

-- No second outcome of a call keeps its promise.
abbrev pub AnswersUnique : Type 0
AnswersUnique = (number : ℕ) (before done : List ℕ) (r s : ℕ) (xs ys : List ℕ)
    → Answers number before done r xs → Answers number before done s ys → (r ≡ s) × (xs ≡ ys)

pub answers-unique : AnswersUnique
answers-unique number before done r s xs ys p q = (p.answer ∙ sym q.answer, p.lent ∙ sym q.lent)
