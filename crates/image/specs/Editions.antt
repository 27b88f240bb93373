-- Order 5: "Old images forward, new ones back." An image of one edition is moved to another, in one call for any pair of them; each is
-- told by its size.
-- Assumes nothing.
use Rattle.std.specs.Prelude.{ℕ, Bool, not, ◌&&◌, List, ◌∷◌, eqb, ltb, length, drop, if◌then◌else◌}
use Rattle.words.specs.Fields.{first_false}
use Rattle.words.specs.Numbers.{recode, bytes}
use Rattle.words.specs.Promise.{Answers}
use Rattle.bus.specs.declared.Refusal.TheVariants.{BadSize, BadImage, SlotHeld}
use Rattle.bus.specs.Refusal.{refusal_number}
use Rattle.image.specs.Slot.{tail_from, held}
use Rattle.image.specs.Layout.{from_numbers, widths_of, size_of, image_of, fields_in, tail_in}
use Rattle.image.specs.Rules.{rules_of}

-- ---- the edition of an image

-- the one of so many bytes, or 0
unfoldable pub edition_sized : (size : ℕ) → ℕ
edition_sized size = if eqb size (size_of 1) then 1 else if eqb size (size_of 2) then 2 else 0

abbrev pub edition_of : List ℕ → ℕ
edition_of xs = edition_sized (length xs)

abbrev pub is_image : List ℕ → Bool
is_image xs = not (eqb (edition_of xs) 0)

-- the lowest field that breaks a rule of that edition, counted from 1, or 0
unfoldable pub broken_in : List ℕ → ℕ
broken_in xs = first_false 1 (rules_of (edition_of xs) (fields_in (edition_of xs) xs) (tail_in (edition_of xs) xs))

-- "with an empty slot", or not: an image of edition 1 has no slot, and holds none
unfoldable pub slot_held : List ℕ → Bool
slot_held xs = held (tail_in (edition_of xs) xs).kind

-- ---- the image in another edition

-- the numbers of its fields, but for the edition's, which is the other one's
abbrev pub renumbered : (edition : ℕ) → List ℕ → List ℕ
renumbered edition xs = edition ∷ drop 1 (recode (bytes (length xs)) (widths_of (edition_of xs)) xs)

-- The image of the same fields. "Forward: slot empty, run number 0": a field that it lacks is zero. "Back: .. the run number is
-- dropped": a field that the other edition lacks stands in no line of it.
unfoldable pub moved_to : (edition : ℕ) → List ℕ → List ℕ
moved_to edition xs = image_of edition (from_numbers (renumbered edition xs)) (tail_from (renumbered edition xs))

-- ---- the promise

-- 7 where a size is no edition's; 8 + 256 x field where a rule is broken; 15 where a slot is held and the edition moved to has none
unfoldable pub move_number : (xs to : List ℕ) → ℕ
move_number xs to =
    if not (is_image xs && is_image to) then refusal_number BadSize
    else if not (eqb (broken_in xs) 0) then refusal_number (BadImage (broken_in xs))
    else if slot_held xs && ltb (edition_of to) 2 then refusal_number SlotHeld
    else 0

-- move_image: the number, and every byte of `to` after the call; no second outcome keeps it, by `answers-unique`
abbrev pub ImageMoved : (xs to : List ℕ) (r : ℕ) (to' : List ℕ) → Type 0
ImageMoved xs to r to' = Answers (move_number xs to) to (moved_to (edition_of to) xs) r to'
