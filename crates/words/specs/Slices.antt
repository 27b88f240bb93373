-- What a lent slice holds, and bytes at a place of it.
-- Assumes nothing.
use Rattle.std.specs.Prelude.{ℕ, ◌+◌, ◌<◌, cond, List, [], ◌∷◌, ◌++◌, length, take, drop, leb}
use Rattle.words.specs.declared.Order.{Order}
use Rattle.words.specs.Orders.{number_of}

-- each number is a byte, as those of every lent slice are
abbrev pub AllBytes : List ℕ → Type 0
AllBytes [] = Unit {0}
AllBytes (x ∷ xs) = (x < 256) × AllBytes xs

-- the n bytes of xs from the place `at` on
abbrev pub part : List ℕ → ℕ → ℕ → List ℕ
part xs at n = take n (drop at xs)

-- xs with ys in it from the place `at` on
abbrev pub put : List ℕ → ℕ → List ℕ → List ℕ
put xs at ys = take at xs ++ (ys ++ drop (at + length ys) xs)

-- the same, and xs itself where ys would not stand wholly in it
unfoldable pub put_at : List ℕ → ℕ → List ℕ → List ℕ
put_at xs at ys = cond (leb (at + length ys) (length xs)) (put xs at ys) xs

-- the number that the n bytes from the place `at` on are; 0 where they do not stand wholly in xs
unfoldable pub number_at : Order → ℕ → List ℕ → ℕ → ℕ
number_at order n xs at = cond (leb (at + n) (length xs)) (number_of order (part xs at n)) 0
