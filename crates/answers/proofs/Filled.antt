-- What is left in a lent slice, and slices that are filled in two parts.
-- Assumes nothing.
use Prim.Native.Nat.{ℕ, ◌+◌, ◌*◌, ◌^◌, ◌<◌}
use mathlib.Core.Path.{◌≡◌, refl, sym, ap, ◌∙◌}
use mathlib.Core.Bool.{Bool}
use mathlib.Core.List.{List, [], ◌∷◌, ◌++◌}
use lib.ListN.{length}
use borrow.Author.Tests.{eq-eqb, ne_eqb}
use Rattle.words.specs.declared.Order.TheVariants.{MostFirst}
use Rattle.words.specs.Bits.{flag}
use Rattle.words.specs.Numbers.{bytes}
use Rattle.words.specs.Orders.{bytes_of, word_bytes}
use Rattle.words.specs.Slices.{put_at}
use Rattle.words.proofs.Recode.{split-append}
use Rattle.words.proofs.Slices.{put_all, filled}
use Rattle.descriptor.specs.declared.Descriptor.{Descriptor}
use Rattle.answers.specs.Answers.{value_bytes, report_bytes, descriptor_bytes, finding_bytes, answer_put}

-- an answer of the slice's size is left in it; of another size it is not
module _ (answer xs : List ℕ) where
  pub is-put : length xs ≡ length answer → answer_put answer xs ≡ answer
  unfolding answer_put
  is-put l = rw (eq-eqb (length xs) (length answer) l)

  pub not-put : (length xs ≡ length answer → ⊥) → answer_put answer xs ≡ xs
  unfolding answer_put
  not-put h = rw (ne_eqb (length xs) (length answer) h)

-- a value
pub value-filled : (xs : List ℕ) (v : ℕ) → length xs ≡ 4 → put_at xs 0 (bytes_of MostFirst 4 v) ≡ answer_put (value_bytes v) xs
value-filled xs v l = put_all xs (value_bytes v) (sym l) ∙ sym (is-put (value_bytes v) xs l)

-- a run's report, from its reason and its four counts
pub report-filled : (xs : List ℕ) (reason steps took made used : ℕ) → length xs ≡ 18
    → put_at (put_at xs 0 (bytes_of MostFirst 2 reason)) 2 (word_bytes MostFirst (steps ∷ took ∷ made ∷ used ∷ []))
    ≡ answer_put (report_bytes reason steps took made used) xs
report-filled xs reason steps took made used l = filled xs _ _ 2 refl l ∙ sym (is-put (report_bytes reason steps took made used) xs l)

-- a descriptor answer, from its four words and its last two bytes
pub descriptor-filled : (xs : List ℕ) (d : Descriptor) → length xs ≡ 18 → d.actual < 2 ^ 16 → d.control.0 < 2 ^ 8
    → put_at (put_at xs 0 (word_bytes MostFirst (d.source ∷ d.destination ∷ d.next ∷ (d.length * 0x1_0000 + d.actual) ∷ []))) 16
    (bytes_of MostFirst 2 (d.status * 256 + d.control.0))
    ≡ answer_put (descriptor_bytes d) xs
descriptor-filled xs d l h i =
    let counts : bytes_of MostFirst 4 (d.length * 0x1_0000 + d.actual) ≡ bytes_of MostFirst 2 d.length ++ bytes_of MostFirst 2 d.actual =
    split-append (bytes 2) (bytes 2) d.length d.actual h in
    let last : bytes_of MostFirst 2 (d.status * 256 + d.control.0) ≡ bytes_of MostFirst 1 d.status ++ bytes_of MostFirst 1 d.control.0 =
    split-append (bytes 1) (bytes 1) d.status d.control.0 i in
    filled xs _ _ 16 refl l
    ∙ ap (λ (ys : List ℕ). bytes_of MostFirst 4 d.source ++ bytes_of MostFirst 4 d.destination ++ bytes_of MostFirst 4 d.next ++ ys)
    (ap (λ (ys : List ℕ). ys ++ bytes_of MostFirst 2 (d.status * 256 + d.control.0)) counts
    ∙ ap (λ (ys : List ℕ). bytes_of MostFirst 2 d.length ++ bytes_of MostFirst 2 d.actual ++ ys) last)
    ∙ sym (is-put (descriptor_bytes d) xs l)

-- what the ledger tells, from its two numbers
pub finding-filled : (xs : List ℕ) (found : Bool) (count : ℕ) → length xs ≡ 4
    → put_at (put_at xs 0 (bytes_of MostFirst 2 (flag found))) 2 (bytes_of MostFirst 2 count) ≡ answer_put (finding_bytes found count) xs
finding-filled xs found count l = filled xs _ _ 2 refl l ∙ sym (is-put (finding_bytes found count) xs l)
