-- What is proved of the image: each theorem's whole statement, under its name. A term of each stands in proofs/.
-- Assumes nothing.
use Rattle.std.specs.Prelude.{ℕ, ◌<◌, ◌≡◌, List, ◌++◌, true, false, ◌↔◌, ◌≢◌, length, Ok}
use Rattle.words.specs.Numbers.{Fit}
use Rattle.words.specs.Slices.{AllBytes}
use Rattle.image.specs.declared.Fields.{Fields}
use Rattle.image.specs.declared.Tail.{Tail}
use Rattle.image.specs.Layout.{values_of, widths_of, image_of, image, tail, Typed}
use Rattle.image.specs.Slot.{tail_bytes}
use Rattle.image.specs.Rules.{rule_at, lowest_broken}
use Rattle.image.specs.Promise.{read_of}
use Rattle.image.specs.Editions.{edition_of, broken_in, ImageMoved}

-- An image is read as fields, with such a tail, exactly when it has 85 bytes, they keep the rules and it is their image.
abbrev pub ReadExactly : Type 0
ReadExactly = (xs : List ℕ) (f : Fields) (t : Tail) → AllBytes xs → Typed f t
    → ((read_of xs ≡ Ok f) × (tail xs ≡ t)) ↔ ((length xs ≡ 85) × (lowest_broken f t ≡ 0) × (image f t ≡ xs))

-- Order 4: the image of edition 1 is the front of that of edition 2, whatever stands in the field of the edition; behind it stands
-- what edition 2 adds.
abbrev pub EditionFront : Type 0
EditionFront = (f : Fields) (t : Tail) → Fit (widths_of 2) (values_of 2 f t) → image_of 2 f t ≡ image_of 1 f t ++ tail_bytes t

-- Order 5: "Forward then back gives the old bytes exactly", for every image of edition 1 that keeps the rules of its edition.
abbrev pub ForwardThenBack : Type 0
ForwardThenBack = (xs to to' back back' : List ℕ) (r s : ℕ) → AllBytes xs → length xs ≡ 44 → broken_in xs ≡ 0 → length to ≡ 85 → length back ≡ 44
    → ImageMoved xs to r to' → ImageMoved to' back s back' → (r ≡ 0) × (s ≡ 0) × (back' ≡ xs)

-- Order 5: an image that keeps the rules of its edition is moved to that edition as it is.
abbrev pub MovedAsItIs : Type 0
MovedAsItIs = (xs to to' : List ℕ) (r : ℕ) → AllBytes xs → edition_of xs ≢ 0 → broken_in xs ≡ 0 → length to ≡ length xs → ImageMoved xs to r to'
    → (r ≡ 0) × (to' ≡ xs)

-- Order 1: the field told breaks its rule, and every field before it keeps its own.
abbrev pub FieldTold : Type 0
FieldTold = (f : Fields) (t : Tail) → lowest_broken f t ≢ 0
    → (rule_at f t (lowest_broken f t) ≡ false) × ((i : ℕ) → i < lowest_broken f t → rule_at f t i ≡ true)
