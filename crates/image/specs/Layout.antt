-- The paper's "Saved image": the fields side by side in this order, bits most significant first. The table is a list of parts: the
-- image of edition e has the first e of them, so that a later edition appends a part and moves no line. Fields are numbered by
-- their places in the table, from 1.
-- Assumes nothing.
use Rattle.std.specs.Prelude.{ℕ, ◌/◌, ◌<◌, cond, List, [], ◌∷◌, map, length, get_or, eqb}
use Rattle.words.specs.Bits.{flag}
use Rattle.words.specs.Numbers.{total, recode, bytes}
use Rattle.descriptor.specs.Looking.{WordsFit}
use Rattle.image.specs.declared.Fields.{Fields}
use Rattle.image.specs.declared.Tail.{Tail}
use Rattle.image.specs.Lines.{Field, ◌bits◌, first_parts}
use Rattle.image.specs.Slot.{slot_lines, tail_from}

-- the first part: each field's width and value
abbrev pub core_lines : Fields → List Field
core_lines f =
    4 bits f.edition ∷  --  1 edition
    2 bits f.mode ∷  --  2 mode
    3 bits f.phase ∷  --  3 phase: Rest 0, Fetch, Move, WriteBack, Ended, Halted, Faulted 6
    1 bits flag f.armed ∷  --  4 armed
    1 bits flag f.pending ∷  --  5 pending
    5 bits f.fault ∷  --  6 fault
    8 bits f.status ∷  --  7 status
    8 bits f.count ∷  --  8 count
    32 bits f.control ∷  --  9 control
    32 bits f.pointer ∷  -- 10 pointer
    32 bits f.base ∷  -- 11 base
    32 bits f.window ∷  -- 12 window length
    32 bits f.address ∷  -- 13 descriptor address
    32 bits f.source ∷  -- 14 source
    32 bits f.destination ∷  -- 15 destination
    16 bits f.size ∷  -- 16 length
    8 bits f.dcontrol ∷  -- 17 descriptor control
    8 bits f.errors ∷  -- 18 errors
    16 bits f.moved ∷  -- 19 moved
    1 bits flag f.eop ∷  -- 20 EOP seen
    15 bits f.zero15 ∷  -- 21 zero
    32 bits f.faultat ∷  -- 22 fault address
    []

-- the parts, in the order in which the editions added them
abbrev pub parts : Fields → Tail → List (List Field)
parts f t = core_lines f ∷ slot_lines t ∷ []

-- the fields that numbers are, each by its place in the table; a field past their end is zero
abbrev pub from_numbers : List ℕ → Fields
from_numbers vs =
    let at : ℕ → ℕ = λ n. get_or (0 ∷ vs) n 0 in
    record {
      edition = at 1;
      mode = at 2;
      phase = at 3;
      armed = eqb (at 4) 1;
      pending = eqb (at 5) 1;
      fault = at 6;
      status = at 7;
      count = at 8;
      control = at 9;
      pointer = at 10;
      base = at 11;
      window = at 12;
      address = at 13;
      source = at 14;
      destination = at 15;
      size = at 16;
      dcontrol = at 17;
      errors = at 18;
      moved = at 19;
      eop = eqb (at 20) 1;
      zero15 = at 21;
      faultat = at 22;
    }

-- ---- an edition

-- its lines
abbrev pub layout_of : (edition : ℕ) → Fields → Tail → List Field
layout_of edition f t = first_parts edition (parts f t)

-- their numbers, and their widths, which are the same whatever the fields
abbrev pub values_of : (edition : ℕ) → Fields → Tail → List ℕ
values_of edition f t = map (λ x. x.value) (layout_of edition f t)

abbrev pub widths_of : (edition : ℕ) → List ℕ
widths_of edition = map (λ x. x.width) (layout_of edition (from_numbers []) (tail_from []))

-- how many bytes they fill
abbrev pub size_of : (edition : ℕ) → ℕ
size_of edition = total (widths_of edition) / 8

-- its image of the fields
unfoldable pub image_of : (edition : ℕ) → Fields → Tail → List ℕ
image_of edition f t = recode (widths_of edition) (bytes (size_of edition)) (values_of edition f t)

-- the fields of such an image; those that the edition lacks are zero
unfoldable pub fields_in : (edition : ℕ) → List ℕ → Fields
fields_in edition xs = from_numbers (recode (bytes (size_of edition)) (widths_of edition) xs)

unfoldable pub tail_in : (edition : ℕ) → List ℕ → Tail
tail_in edition xs = tail_from (recode (bytes (size_of edition)) (widths_of edition) xs)

-- ---- the edition that is read and written: all parts

abbrev pub latest : ℕ
latest = length (parts (from_numbers []) (tail_from []))

abbrev pub layout : Fields → Tail → List Field
layout = layout_of latest

abbrev pub values : Fields → Tail → List ℕ
values = values_of latest

abbrev pub widths : List ℕ
widths = widths_of latest

unfoldable pub image : Fields → Tail → List ℕ
unfolding image_of
image f t = image_of latest f t

unfoldable pub fields : List ℕ → Fields
unfolding fields_in
fields xs = fields_in latest xs

-- that of bytes of another size is all zero
unfoldable pub tail : List ℕ → Tail
unfolding tail_in
tail xs = cond (eqb (length xs) (size_of latest)) (tail_in latest xs) (tail_from [])

-- the numbers that no image rule bounds fit their widths in the table; their types in the code see to that
pub record Typed (f : Fields) (t : Tail) : Type 0 where
  pub pointer : f.pointer < 4294967296
  pub address : f.address < 4294967296
  pub source : f.source < 4294967296
  pub destination : f.destination < 4294967296
  pub size : f.size < 65536
  pub dcontrol : f.dcontrol < 256
  pub moved : f.moved < 65536
  pub faultat : f.faultat < 4294967296
  pub at : t.at < 4294967296
  pub raw : WordsFit t.raw
  pub run : t.run < 4294967296
