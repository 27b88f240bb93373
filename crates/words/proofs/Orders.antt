-- The laws of numbers in bytes, in either order and over any list of widths: a number comes back from its bytes, bytes come
-- back from their number, and so for a row of numbers.
-- Assumes nothing.
use Prim.Native.Nat.{ℕ, zero, suc, ◌*◌, ◌%◌, ◌^◌}
use mathlib.Core.Path.{◌≡◌, refl, sym, ap, subst, ◌∙◌}
use mathlib.Core.List.{List, [], ◌∷◌, ◌++◌, append_assoc, reverse-reverse}
use native.Mathlib.Nat.{mod-lt, mod-eq_of_lt, suc-ne-zero}
use native.Mathlib.Omega.{arith}
use lib.ListN.{length, take, drop, length-append, length-replicate, length-reverse, length-drop, take-append-drop}
use lib.Seq.{take_at, drop_at, length-take-le}
use Rattle.words.specs.declared.Order.{Order}
use Rattle.words.specs.declared.Order.TheVariants.{MostFirst, LeastFirst}
use Rattle.words.specs.Numbers.{total, split, bytes, Fit}
use Rattle.words.specs.Orders.{in_order, bytes_of, number_of, row_bytes, word_bytes}
use Rattle.words.specs.Slices.{AllBytes}
use Rattle.words.specs.Theorems.{RowBack, RowThere}
use Rattle.words.proofs.Recode.{join-split, split-join}
use Rattle.words.proofs.Bytes.{bytes_fit, take-bytes, drop-bytes, append-bytes, order-bytes}

pub order-back : (order : Order) (xs : List ℕ) → in_order order (in_order order xs) ≡ xs
order-back MostFirst xs = refl
order-back LeastFirst xs = reverse-reverse xs

pub length-order : (order : Order) (xs : List ℕ) → length (in_order order xs) ≡ length xs
length-order MostFirst xs = refl
length-order LeastFirst xs = length-reverse xs

pub length-split : (ws : List ℕ) (n : ℕ) → length (split ws n) ≡ length ws
length-split [] n = refl
length-split (w ∷ ws) n = ap suc (length-split ws n)

pub length-bytes : (order : Order) (n v : ℕ) → length (bytes_of order n v) ≡ n
length-bytes order n v = length-order order (split (bytes n) v) ∙ length-split (bytes n) v ∙ length-replicate n 8

-- the bytes of numbers are bytes
pub split-bytes : (n v : ℕ) → AllBytes (split (bytes n) v)
split-bytes zero v = tt
split-bytes (suc n) v = (mod-lt _ (omega arith), split-bytes n v)

pub row-bytes : (order : Order) (ns vs : List ℕ) → AllBytes (row_bytes order ns vs)
row-bytes order [] vs = tt
row-bytes order (n ∷ ns) [] = tt
row-bytes order (n ∷ ns) (v ∷ vs) =
    append-bytes (bytes_of order n v) _ (order-bytes order (split (bytes n) v) (split-bytes n v)) (row-bytes order ns vs)

-- a number comes back from its n bytes, but for what they cannot hold
pub number-bytes : (order : Order) (n v : ℕ) → number_of order (bytes_of order n v) ≡ v % 2 ^ total (bytes n)
number-bytes order n v =
    rw (length-bytes order n v, order-back order (split (bytes n) v)) (join-split (bytes n) v)

-- bytes come back from their number
pub bytes-number : (order : Order) (xs : List ℕ) → AllBytes xs → bytes_of order (length xs) (number_of order xs) ≡ xs
bytes-number order xs g =
    let fit : Fit (bytes (length xs)) (in_order order xs) =
    subst (λ (n : ℕ). Fit (bytes n) (in_order order xs)) (length-order order xs) (bytes_fit (in_order order xs) (order-bytes order xs g)) in
    rw (split-join (bytes (length xs)) (in_order order xs) fit) (order-back order xs)

-- a row of numbers comes back from its bytes
pub row_back : RowBack
row_back order [] [] p = refl
row_back order (n ∷ ns) (v ∷ vs) p =
    let l : length (bytes_of order n v) ≡ n = length-bytes order n v in
    rw (take_at (bytes_of order n v) (row_bytes order ns vs) n l, drop_at (bytes_of order n v) (row_bytes order ns vs) n l, row_back order ns vs p.1, number-bytes order n v, mod-eq_of_lt p.0)
row_back order [] (v ∷ vs) p = elim p [ ]
row_back order (n ∷ ns) [] p = elim p [ ]

-- the bytes of a row come back from its numbers
pub row-there : RowThere
row-there order [] [] e g = refl
row-there order [] (x ∷ xs) e g = absurd (suc-ne-zero (length xs) e)
row-there order (n ∷ ns) xs e g =
    let front : bytes_of order n (number_of order (take n xs)) ≡ take n xs =
    ap (λ (k : ℕ). bytes_of order k (number_of order (take n xs))) (sym (length-take-le n xs (omega arith))) ∙ bytes-number order (take n xs) (take-bytes n xs g) in
    rw (front, row-there order ns (drop n xs) (simp length-drop (omega arith)) (drop-bytes n xs g)) (take-append-drop n xs)

pub words_append : (order : Order) (xs ys : List ℕ) → word_bytes order (xs ++ ys) ≡ word_bytes order xs ++ word_bytes order ys
words_append order [] ys = refl
words_append order (x ∷ xs) ys =
    rw (words_append order xs ys, append_assoc (bytes_of order 4 x) (word_bytes order xs) (word_bytes order ys))

pub length-words : (order : Order) (ws : List ℕ) → length (word_bytes order ws) ≡ 4 * length ws
length-words order [] = refl
length-words order (w ∷ ws) =
    simp (length-append, length-bytes order 4 w, length-words order ws) (omega arith)
