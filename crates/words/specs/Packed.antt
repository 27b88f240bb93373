-- Fields of any widths put one behind the other, the first foremost: words of 32 bits, and behind the whole ones the rest, bits that do
-- not fill a word yet.
-- Assumes nothing.
use Rattle.std.specs.Prelude.{ℕ, ◌+◌, ◌*◌, ◌-◌, ◌/◌, ◌%◌, ◌^◌, ◌≤◌, ◌&&◌, List, [], ◌∷◌, ◌++◌, length, take, replicate, set, eqb, leb, ltb, if◌then◌else◌}
use Rattle.words.specs.declared.Order.TheVariants.{MostFirst}
use Rattle.words.specs.declared.packer.Packer.{Packer}
use Rattle.words.specs.Numbers.{split, bytes}
use Rattle.words.specs.Orders.{word_bytes}

-- nothing is put, and there is room for 24 words
abbrev pub no_fields : Packer
no_fields = record { words = replicate 24 0; whole = 0; rest = 0; count = 0 }

-- where the rest has become `count` bits: they fill no word yet, or the first 32 of them do
abbrev pub grown : (rest count : ℕ) → Packer → Packer
grown rest count p =
    if ltb count 32 then record { words = p.words; whole = p.whole; rest = rest % 2 ^ 32; count = count }
    else if leb 24 p.whole then p
    else record {
      words = set p.words p.whole (rest / 2 ^ (count - 32) % 2 ^ 32);
      whole = p.whole + 1;
      rest = rest % 2 ^ (count - 32);
      count = count - 32;
    }

-- a field of so many bits is put: behind the rest, whose bits it moves up. One of more than 32 bits is not put, nor one for which there
-- is no room
unfoldable pub field_put : (width value : ℕ) → Packer → Packer
field_put width value p =
    if leb width 32 then grown (p.rest * 2 ^ width + value) (p.count % 32 + width) p
    else p

-- the bytes of what was put: those of the whole words, and the whole bytes of the rest
abbrev pub packed_bytes : Packer → List ℕ
packed_bytes p = word_bytes MostFirst (take p.whole p.words) ++ split (bytes (p.count % 32 / 8)) p.rest

-- a slice of their size holds them; another is left as it was
unfoldable pub packed_over : Packer → List ℕ → List ℕ
packed_over p xs =
    if leb p.whole 24 && eqb (length xs) (4 * p.whole + p.count % 32 / 8) then packed_bytes p
    else xs

-- ---- a whole layout

-- fields put one after the other
abbrev pub fields_put : (widths values : List ℕ) → Packer → Packer
fields_put [] vs p = p
fields_put (w ∷ ws) [] p = p
fields_put (w ∷ ws) (v ∷ vs) p = fields_put ws vs (field_put w v p)

-- none is wider than a word
abbrev pub Narrow : (widths : List ℕ) → Type 0
Narrow [] = Unit
Narrow (w ∷ ws) = (w ≤ 32) × Narrow ws
