-- The bytes of a descriptor as words.
-- Assumes nothing.
use Rattle.std.specs.Prelude.{Ok, Err}
use Prim.Native.Nat.{ℕ, ◌+◌, ◌*◌, ◌^◌, ◌<◌, ◌≤◌}
use mathlib.Core.Path.{◌≡◌, refl, sym, ap, ◌∙◌}
use mathlib.Core.List.{List, [], ◌∷◌, ◌++◌}
use native.Mathlib.Omega.{arith}
use lib.ListN.{length}
use Rattle.words.specs.declared.Order.TheVariants.{LeastFirst}
use Rattle.words.specs.Orders.{bytes_of, word_bytes}
use Rattle.words.specs.Slices.{put_at}
use Rattle.words.proofs.Slices.{put_in}
use Rattle.bus.specs.declared.Place.{Place}
use Rattle.bus.specs.declared.Refusal.{Refusal}
use Rattle.descriptor.specs.declared.Job.{Job}
use Rattle.descriptor.specs.Calls.{seat_of, with_job, WasBuilt}
use Rattle.descriptor.specs.Layout.{bytes_for, last_four}
use Rattle.descriptor.specs.Theorems.{LengthJob}

four : {a b c d x y z w : ℕ} → a ≡ x → b ≡ y → c ≡ z → d ≡ w → a ∷ b ∷ c ∷ d ∷ [] ≡ x ∷ y ∷ z ∷ w ∷ []
four e f g h = cc

-- a word of a 16-bit number and two bytes
pub last_word : (n s c : ℕ) → n < 2 ^ 16 → s < 2 ^ 8 → c < 2 ^ 8
    → bytes_of LeastFirst 4 (n + s * 0x1_0000 + c * 0x100_0000) ≡ last_four n s c
last_word n s c h i j = four (omega arith) (omega arith) (omega arith) (omega arith)

-- the builder's eight words
pub eight-words : (j : Job) → j.length < 2 ^ 16 → j.control.0 < 2 ^ 8
    → word_bytes LeastFirst (j.source ∷ 0 ∷ j.destination ∷ 0 ∷ j.next ∷ 0 ∷ j.length ∷ j.control.0 * 0x100_0000 ∷ []) ≡ bytes_for j
unfolding bytes_for
eight-words j h i =
    let size : bytes_of LeastFirst 4 j.length ≡ last_four j.length 0 0 =
    four (omega arith) (omega arith) (omega arith) (omega arith) in
    let control : bytes_of LeastFirst 4 (j.control.0 * 0x100_0000) ≡ last_four 0 0 j.control.0 =
    four (omega arith) (omega arith) (omega arith) (omega arith) in
    ap (λ (ys : List ℕ). bytes_of LeastFirst 4 j.source ++ bytes_of LeastFirst 4 0 ++ bytes_of LeastFirst 4 j.destination ++ bytes_of LeastFirst 4 0 ++ bytes_of LeastFirst 4 j.next ++ bytes_of LeastFirst 4 0 ++ ys) (ap (λ (ys : List ℕ). ys ++ bytes_of LeastFirst 4 (j.control.0 * 0x100_0000)) size ∙ ap (λ (ys : List ℕ). last_four j.length 0 0 ++ ys) control)

pub length-job : LengthJob
unfolding bytes_for
length-job j = refl

module _ (xs : List ℕ) (base a : ℕ) (j : Job) where
  pub build-refused : (why : Refusal) → seat_of (length xs) base a ≡ Err why → WasBuilt xs base a j (Err why) xs
  build-refused why e = record { answer = rw e; number = rw e; lent = rw e }

  pub build-done : (p : Place) → seat_of (length xs) base a ≡ Ok p → p.0 + 32 ≤ length xs
      → (ys : List ℕ) → ys ≡ put_at xs p.0 (bytes_for j) → WasBuilt xs base a j (Ok tt) ys
  build-done p e h ys f =
      record {
        answer = rw e;
        number = rw e;
        lent = f ∙ put_in xs p.0 (bytes_for j) (omega (arith, length-job j)) ∙ sym (ap (with_job xs j) e);
      }
