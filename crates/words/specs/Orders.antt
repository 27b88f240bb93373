-- The bytes of a number, the most significant first or the least, and numbers of so many bytes each in a row.
-- Assumes nothing.
use Rattle.std.specs.Prelude.{ℕ, List, [], ◌∷◌, ◌++◌, reverse, length, take, drop}
use Rattle.words.specs.declared.Order.{Order}
use Rattle.words.specs.declared.Order.TheVariants.{MostFirst, LeastFirst}
use Rattle.words.specs.Numbers.{total, join, split, bytes}

-- bytes that stand the most significant first, in the order asked for; and back
abbrev pub in_order : Order → List ℕ → List ℕ
in_order MostFirst xs = xs
in_order LeastFirst xs = reverse xs

-- the n bytes of a number
abbrev pub bytes_of : Order → ℕ → ℕ → List ℕ
bytes_of order n v = in_order order (split (bytes n) v)

-- the number that bytes are
abbrev pub number_of : Order → List ℕ → ℕ
number_of order xs = join (bytes (length xs)) (in_order order xs)

-- the widths in bits of numbers of so many bytes each
abbrev pub bit_widths : List ℕ → List ℕ
bit_widths [] = []
bit_widths (n ∷ ns) = total (bytes n) ∷ bit_widths ns

-- numbers of so many bytes each, one after the other
abbrev pub row_bytes : Order → List ℕ → List ℕ → List ℕ
row_bytes order [] vs = []
row_bytes order (n ∷ ns) [] = []
row_bytes order (n ∷ ns) (v ∷ vs) = bytes_of order n v ++ row_bytes order ns vs

-- the numbers that a row of bytes is
abbrev pub row_numbers : Order → List ℕ → List ℕ → List ℕ
row_numbers order [] xs = []
row_numbers order (n ∷ ns) xs = number_of order (take n xs) ∷ row_numbers order ns (drop n xs)

-- a row of 32-bit numbers
abbrev pub word_bytes : Order → List ℕ → List ℕ
word_bytes order [] = []
word_bytes order (w ∷ ws) = bytes_of order 4 w ++ word_bytes order ws
