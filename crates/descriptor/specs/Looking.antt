-- One look at a descriptor's address, and what it finds. Fetch, the builder, the reader and the image's rule go by it.
-- Assumes nothing.
use Rattle.std.specs.Prelude.{ℕ, ◌+◌, ◌%◌, ◌^◌, ◌<◌, Bool, true, false, cond, ◌&&◌, List, [], ◌∷◌, length, get_or, replicate, eqb, leb, Result, Ok, Err, Option, ok_or}
use Rattle.words.specs.declared.Order.TheVariants.{LeastFirst}
use Rattle.words.specs.Orders.{row_bytes, row_numbers}
use Rattle.words.specs.Slices.{part}
use Rattle.bus.specs.declared.Window.{Window}
use Rattle.bus.specs.declared.Place.{Place}
use Rattle.descriptor.specs.declared.Miss.{Miss}
use Rattle.descriptor.specs.declared.Miss.TheVariants.{Misaligned, Outside}
use Rattle.bus.specs.Window.{located_of}
use Rattle.descriptor.specs.declared.Descriptor.{Descriptor}
use Rattle.descriptor.specs.declared.Raw.{Raw}
use Rattle.descriptor.specs.Layout.{descriptor_of}

-- ---- where its 32 bytes stand

abbrev pub placed : Option Place → Result Place Miss
placed found = ok_or found Outside

-- misaligned: the address is not a multiple of 4; then outside: not wholly in the window
unfoldable pub spot_of : Window → (a : ℕ) → Result Place Miss
spot_of w a = cond (eqb (a % 4) 0) (placed (located_of w a 32)) (Err Misaligned)

-- aligned, and wholly in the window
abbrev pub stands : Result Place Miss → Bool
stands (Err miss) = false
stands (Ok p) = true

-- ---- what stands there

-- four words of eight bytes, the least significant first
abbrev pub four_words : List ℕ
four_words = replicate 4 8

abbrev pub raw_from : (words : List ℕ) → Raw
raw_from words =
    let word : ℕ → ℕ = λ n. get_or words n 0 in
    record { q0 = word 0; q1 = word 1; q2 = word 2; q3 = word 3 }

abbrev pub raw_of : List ℕ → Raw
raw_of ys = raw_from (row_numbers LeastFirst four_words ys)

-- its words, and its bytes as they stand in memory
abbrev pub raw_words : Raw → List ℕ
raw_words r = r.q0 ∷ r.q1 ∷ r.q2 ∷ r.q3 ∷ []

abbrev pub raw_bytes : Raw → List ℕ
raw_bytes r = row_bytes LeastFirst four_words (raw_words r)

-- all of them zero
unfoldable pub is_zero : Raw → Bool
is_zero r = eqb r.q0 0 && eqb r.q1 0 && eqb r.q2 0 && eqb r.q3 0

-- the words fit, as those of every value in the code do
pub record WordsFit (r : Raw) : Type 0 where
  pub f0 : r.q0 < 2 ^ 64
  pub f1 : r.q1 < 2 ^ 64
  pub f2 : r.q2 < 2 ^ 64
  pub f3 : r.q3 < 2 ^ 64

-- every field that they name
unfoldable pub named_in : Raw → Descriptor
named_in r = descriptor_of (raw_bytes r)

-- the bytes at the place `at`; zeros where 32 do not stand there
unfoldable pub raw_at : List ℕ → (at : ℕ) → Raw
raw_at xs at = cond (leb (at + 32) (length xs)) (raw_of (part xs at 32)) (raw_of [])

-- what a look at an address finds: the bytes there, or why there are none
abbrev pub Look : Type 0
Look = Result Raw Miss

abbrev pub look_in : List ℕ → Result Place Miss → Look
look_in xs (Err miss) = Err miss
look_in xs (Ok p) = Ok (raw_at xs p.0)

unfoldable pub look_at : Window → List ℕ → (a : ℕ) → Look
look_at w xs a = look_in xs (spot_of w a)
