-- Order 5 held against worked moves: an image, the size that it is moved to, the number, and the bytes after. They were written down by hand,
-- from the request and the layout; the core is that of the sample of Rows, in WriteBack.
-- Assumes nothing.
use Rattle.std.specs.Prelude.{ℕ, ◌+◌, ◌*◌, ◌≡◌, refl, cond, List, [], ◌∷◌, ◌++◌, map, eqb, replicate}
use Rattle.bus.specs.Window.{keeps_limits, checked_of, in_window, located_of}
use Rattle.descriptor.specs.Looking.{spot_of, is_zero}
use Rattle.image.specs.Slot.{slot_number, slot_raw}
use Rattle.image.specs.Layout.{image_of, fields_in, tail_in}
use Rattle.image.specs.Editions.{edition_sized, edition_of, broken_in, slot_held, moved_to, move_number}
use Rattle.image_rows.specs.Rows.{sample_bytes}

-- ---- the images

-- the 40 bytes behind the first word, without errors: a length of 4, all moved, and EOP seen
abbrev pub others : List ℕ
others =
    -- control; pointer; base; window length
    0x00 ∷ 0x01 ∷ 0x00 ∷ 0x20 ∷
    0x00 ∷ 0x00 ∷ 0x10 ∷ 0x20 ∷
    0x00 ∷ 0x00 ∷ 0x10 ∷ 0x00 ∷
    0x00 ∷ 0x00 ∷ 0x01 ∷ 0x00 ∷
    -- descriptor address; source; destination
    0x00 ∷ 0x00 ∷ 0x10 ∷ 0x00 ∷
    0x01 ∷ 0x02 ∷ 0x03 ∷ 0x04 ∷
    0x00 ∷ 0x00 ∷ 0x10 ∷ 0x80 ∷
    -- length, control, errors; moved, EOP seen, zero; fault address
    0x00 ∷ 0x04 ∷ 0x85 ∷ 0x03 ∷
    0x00 ∷ 0x04 ∷ 0x80 ∷ 0x00 ∷
    0x00 ∷ 0x00 ∷ 0x00 ∷ 0x00 ∷
    []

-- with its first word: edition, mode 10, phase 011, armed 1, pending 1, fault 00000; status; count
abbrev pub front : (first count : ℕ) → List ℕ
front first count = first ∷ 0xe0 ∷ 0x15 ∷ count ∷ others

abbrev pub zeros : ℕ → List ℕ
zeros n = replicate n 0

-- of edition 1; the same forward; and in edition 2 in run 0xa1b2_c3d4
abbrev pub old : List ℕ
old = front 0x19 0x07

abbrev pub forward : List ℕ
forward = front 0x29 0x07 ++ zeros 41

abbrev pub dated : List ℕ
dated = front 0x29 0x07 ++ (zeros 37 ++ (0xa1 ∷ 0xb2 ∷ 0xc3 ∷ 0xd4 ∷ []))

-- ---- the moves

pub record Made : Type 0 where
  pub number : ℕ
  pub left : List ℕ

pub record Move : Type 0 where
  pub from : List ℕ
  pub size : ℕ
  pub wanted : Made

-- what lies there before
abbrev pub lent : ℕ → List ℕ
lent size = replicate size 0xee

abbrev pub done : (from : List ℕ) (size : ℕ) (left : List ℕ) → Move
done from size left = record { from = from; size = size; wanted = record { number = 0; left = left } }

-- nothing has changed
abbrev pub refused : (number : ℕ) (from : List ℕ) (size : ℕ) → Move
refused number from size = record { from = from; size = size; wanted = record { number = number; left = lent size } }

abbrev pub made : Move → Made
made m =
    let number = move_number m.from (lent m.size) in
    record { number = number; left = cond (eqb number 0) (moved_to (edition_of (lent m.size)) m.from) (lent m.size) }

abbrev pub moves : List Move
moves =
    -- forward: slot empty, run number 0
    done old 85 forward ∷
    -- back: the run number is dropped
    done forward 44 old ∷
    done dated 44 old ∷
    -- to its own edition
    done old 44 old ∷
    done dated 85 dated ∷
    done sample_bytes 85 sample_bytes ∷
    -- 15: the sample holds a descriptor
    refused 15 sample_bytes 44 ∷
    -- 8: the number of the other edition, and a count of 255; of the sample before its slot
    refused (8 + 256 * 1) (front 0x29 0x07) 85 ∷
    refused (8 + 256 * 1) (front 0x19 0x07 ++ zeros 41) 44 ∷
    refused (8 + 256 * 8) (front 0x19 0xff) 85 ∷
    refused (8 + 256 * 8) (front 0x29 0xff ++ (0x40 ∷ zeros 40)) 44 ∷
    -- 7: no edition has this size, and it comes before 8
    refused 7 (0x19 ∷ old) 85 ∷
    refused 7 (front 0x19 0xff) 86 ∷
    refused 7 [] 44 ∷
    []

-- Each worked move gives its number and leaves its bytes.
abbrev pub MovesHold : Type 0
MovesHold = map made moves ≡ map (λ m. m.wanted) moves

pub moves-hold : MovesHold
unfolding edition_sized broken_in slot_held moved_to move_number image_of fields_in tail_in slot_number slot_raw is_zero keeps_limits checked_of in_window located_of spot_of
moves-hold = refl
