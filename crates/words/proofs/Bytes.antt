-- Lists whose elements are bytes.
-- Assumes nothing.
use Prim.Native.Nat.{ℕ, zero, suc, ◌<◌}
use mathlib.Core.List.{List, [], ◌∷◌, ◌++◌, reverse_aux}
use lib.ListN.{length, take, drop, get_or}
use Rattle.words.specs.declared.Order.{Order}
use Rattle.words.specs.declared.Order.TheVariants.{MostFirst, LeastFirst}
use Rattle.words.specs.Numbers.{bytes, Fit}
use Rattle.words.specs.Orders.{in_order}
use Rattle.words.specs.Slices.{AllBytes}

-- what is known of a slice's elements, as one fact
pub all-bytes : (xs : List ℕ) → ((i : ℕ) → get_or xs i 0 < 256) → AllBytes xs
all-bytes [] g = tt
all-bytes (x ∷ xs) g = (g 0, all-bytes xs (λ i. g (suc i)))

pub bytes_fit : (xs : List ℕ) → AllBytes xs → Fit (bytes (length xs)) xs
bytes_fit [] g = tt
bytes_fit (x ∷ xs) g = (g.0, bytes_fit xs g.1)

pub fit-bytes : (n : ℕ) (xs : List ℕ) → Fit (bytes n) xs → AllBytes xs
fit-bytes zero [] p = tt
fit-bytes (suc n) (x ∷ xs) p = (p.0, fit-bytes n xs p.1)
fit-bytes zero (x ∷ xs) p = elim p [ ]
fit-bytes (suc n) [] p = elim p [ ]

pub take-bytes : (n : ℕ) (xs : List ℕ) → AllBytes xs → AllBytes (take n xs)
take-bytes zero xs g = tt
take-bytes (suc n) [] g = tt
take-bytes (suc n) (x ∷ xs) g = (g.0, take-bytes n xs g.1)

pub drop-bytes : (n : ℕ) (xs : List ℕ) → AllBytes xs → AllBytes (drop n xs)
drop-bytes zero xs g = g
drop-bytes (suc n) [] g = tt
drop-bytes (suc n) (x ∷ xs) g = drop-bytes n xs g.1

pub append-bytes : (xs ys : List ℕ) → AllBytes xs → AllBytes ys → AllBytes (xs ++ ys)
append-bytes [] ys g h = h
append-bytes (x ∷ xs) ys g h = (g.0, append-bytes xs ys g.1 h)

reverse-bytes : (xs ys : List ℕ) → AllBytes xs → AllBytes ys → AllBytes (reverse_aux xs ys)
reverse-bytes [] ys g h = h
reverse-bytes (x ∷ xs) ys g h = reverse-bytes xs (x ∷ ys) g.1 (g.0, h)

pub order-bytes : (order : Order) (xs : List ℕ) → AllBytes xs → AllBytes (in_order order xs)
order-bytes MostFirst xs g = g
order-bytes LeastFirst xs g = reverse-bytes xs [] g tt
