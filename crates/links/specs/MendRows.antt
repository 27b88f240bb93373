-- Order 13 held against chains that were mended by hand: a dump at its base, the pointer, what is told, and the dump after.
-- Assumes nothing.
use Rattle.std.specs.Prelude.{ℕ, ◌≡◌, List, [], ◌∷◌, ◌++◌, map, length, Result, Ok, Err, Option, Some, None}
use Rattle.bus.specs.declared.Refusal.{Refusal}
use Rattle.bus.specs.declared.Refusal.TheVariants.{BadWindow, NothingToKeep}
use Rattle.bus.specs.Window.{checked_of}
use Rattle.links.specs.declared.mending.Change.{Change}
use Rattle.links.specs.Mending.{mended_in, left_in}
use Rattle.links.specs.Rows.{zeros, link, to, end}

pub record Done : Type 0 where
  pub told : Result (Option Change) Refusal
  pub left : List ℕ

pub record Row : Type 0 where
  pub base : ℕ
  pub memory : List ℕ
  pub pointer : ℕ
  pub wanted : Done

abbrev pub at : (base : ℕ) (memory : List ℕ) (pointer : ℕ) (told : Result (Option Change) Refusal) (left : List ℕ) → Row
at base memory pointer told left = record { base = base; memory = memory; pointer = pointer; wanted = record { told = told; left = left } }

-- in a dump at 0x1000 that is left as it was, and in one that is changed
abbrev pub stays : (memory : List ℕ) (pointer : ℕ) (told : Result (Option Change) Refusal) → Row
stays memory pointer told = at 0x1000 memory pointer told memory

abbrev pub cut : (memory : List ℕ) (pointer address before after : ℕ) (left : List ℕ) → Row
cut memory pointer address before after left =
    at 0x1000 memory pointer (Ok (Some (record { address = address; before = before; after = after }))) left

-- one that is not owned any more, and leads where it led
abbrev pub was : ℕ → List ℕ
was next = link next 0x00

abbrev pub rows : List Row
rows =
    -- sound: k = 0 and 1
    stays end 0x1000 (Ok None)
    ∷ stays (to 0x1020 ++ end) 0x1000 (Ok None)
    -- the first descriptor is the defect: misaligned, outside
    ∷ stays (to 0x1020 ++ end) 0x1002 (Err NothingToKeep)
    ∷ stays (to 0x1020 ++ end) 0x1040 (Err NothingToKeep)
    -- the second is: the first becomes the end; misaligned, outside, overlaps
    ∷ cut (to 0x1022 ++ end) 0x1000 0x1000 0x80 0x00 (was 0x1022 ++ end)
    ∷ cut (to 0x2000 ++ end) 0x1000 0x1000 0x80 0x00 (was 0x2000 ++ end)
    ∷ cut (to 0x1000 ++ end) 0x1000 0x1000 0x80 0x00 (was 0x1000 ++ end)
    -- the third is: the second becomes the end, wherever it stands
    ∷ cut (to 0x1020 ++ to 0x1000) 0x1000 0x1020 0x80 0x00 (to 0x1020 ++ was 0x1000)
    ∷ cut (to 0x0 ++ to 0x1000) 0x1020 0x1000 0x80 0x00 (was 0x0 ++ to 0x1000)
    -- bit 7 alone is cleared
    ∷ cut (link 0x1001 0xff ++ end) 0x1000 0x1000 0xff 0x7f (link 0x1001 0x7f ++ end)
    ∷ cut (link 0x1001 0xa5 ++ end) 0x1000 0x1000 0xa5 0x25 (link 0x1001 0x25 ++ end)
    -- a base that is no multiple of 4
    ∷ at 0x1002 (zeros 2 ++ to 0x1004) 0x1004 (Ok (Some (record { address = 0x1004; before = 0x80; after = 0x00 }))) (zeros 2 ++ was 0x1004)
    -- a window that breaks the limits
    ∷ at 0x1_0000_0000 (to 0x1001) 0x1001 (Err BadWindow) (to 0x1001)
    ∷ []

-- what is told of a row's dump, and left in it
abbrev pub done : Row → Done
done r =
    record {
      told = mended_in (checked_of r.base (length r.memory)) r.memory r.pointer;
      left = left_in (checked_of r.base (length r.memory)) r.memory r.pointer;
    }

abbrev pub AsMended : Type 0
AsMended = map done rows ≡ map (λ (r : Row). r.wanted) rows
