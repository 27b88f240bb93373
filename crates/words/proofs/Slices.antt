-- What is put into a slice, and what is read of it.
-- Assumes nothing.
use Prim.Native.Nat.{ℕ, zero, suc, ◌+◌, ◌-◌, ◌≤◌, ◌<◌}
use mathlib.Core.Path.{◌≡◌, refl, sym, ap, ◌∙◌}
use mathlib.Core.List.{List, [], ◌∷◌, ◌++◌, append_assoc, append-nil}
use native.Mathlib.Nat.{zero-add, add_assoc, add-zero, sub-zero, zero-sub, suc-sub-suc}
use native.Mathlib.Omega.{arith}
use lib.ListN.{length, take, drop, get_or, set, length-append, length-drop, drop_of_length-le, take-append-drop}
use lib.Seq.{take_at, drop_at, drop-drop, drop-cons, sets, sets-eq, length-take-le, take_all, take-take, take-nil}
use borrow.Author.Tests.{le-leb, lt-leb}
use Rattle.words.specs.declared.Order.{Order}
use Rattle.std.specs.Int.{w16, w32, from_be_bytes}
use Rattle.words.specs.Numbers.{join, bytes}
use Rattle.words.specs.Orders.{in_order, number_of, row_numbers}
use Rattle.words.specs.Slices.{part, put, put_at, number_at}
use Rattle.words.proofs.Orders.{length-order}

module _ (xs : List ℕ) (at : ℕ) where
  pub put_in : (ys : List ℕ) → at + length ys ≤ length xs → put_at xs at ys ≡ put xs at ys
  unfolding put_at
  put_in ys h = rw (le-leb (at + length ys) (length xs) h)

  pub put-out : (ys : List ℕ) → length xs < at + length ys → put_at xs at ys ≡ xs
  unfolding put_at
  put-out ys h = rw (lt-leb (at + length ys) (length xs) h)

  pub number_in : (order : Order) (n : ℕ) → at + n ≤ length xs → number_at order n xs at ≡ number_of order (part xs at n)
  unfolding number_at
  number_in order n h = rw (le-leb (at + n) (length xs) h)

  pub number-out : (order : Order) (n : ℕ) → length xs < at + n → number_at order n xs at ≡ 0
  unfolding number_at
  number-out order n h = rw (lt-leb (at + n) (length xs) h)

-- a part is as long as was asked
pub length-part : (xs : List ℕ) (at n : ℕ) → at + n ≤ length xs → length (part xs at n) ≡ n
length-part xs at n h = length-take-le n (drop at xs) (simp length-drop (omega arith))

-- what is put leaves the length
pub length-put : (xs : List ℕ) (at : ℕ) (ys : List ℕ) → at + length ys ≤ length xs → length (put xs at ys) ≡ length xs
length-put xs at ys h =
    simp (length-append, length-take-le at xs (omega arith), length-drop) (omega arith)

-- what is put over a whole slice is all that is left in it
pub put_all : (xs ys : List ℕ) → length ys ≡ length xs → put_at xs 0 ys ≡ ys
put_all xs ys l =
    put_in xs 0 ys (omega arith) ∙ rw (zero-add (length ys), drop_of_length-le xs {i = length ys} (omega arith)) (append-nil ys)

pub put-none : (xs : List ℕ) (at : ℕ) → put xs at [] ≡ xs
put-none xs at = rw (add-zero at) (take-append-drop at xs)

-- two puts, the second where the first ended, are one
pub put-put : (xs : List ℕ) (at : ℕ) (ys zs : List ℕ) → at + length ys ≤ length xs
    → put (put xs at ys) (at + length ys) zs ≡ put xs at (ys ++ zs)
put-put xs at ys zs h =
    let l : length (take at xs ++ ys) ≡ at + length ys = simp (length-append, length-take-le at xs (omega arith)) in
    let whole : put xs at ys ≡ (take at xs ++ ys) ++ drop (at + length ys) xs = sym (append_assoc (take at xs) ys _) in
    let front : take (at + length ys) (put xs at ys) ≡ take at xs ++ ys = rw whole (take_at (take at xs ++ ys) _ _ l) in
    let back : drop (at + length ys + length zs) (put xs at ys) ≡ drop (at + length ys + length zs) xs =
    sym (drop-drop (length zs) (at + length ys) (put xs at ys))
    ∙ ap (drop (length zs)) (ap (drop (at + length ys)) whole ∙ drop_at (take at xs ++ ys) _ _ l)
    ∙ drop-drop (length zs) (at + length ys) xs in
    rw (front, back, append_assoc, length-append, append_assoc, add_assoc)

-- bytes stored one after the other are put
pub sets-put : (xs : List ℕ) (at : ℕ) (ys : List ℕ) → at + length ys ≤ length xs → sets xs at ys ≡ put xs at ys
sets-put xs at ys h = sets-eq ys xs at h ∙ append_assoc (take at xs) ys (drop (at + length ys) xs)

-- two parts, the second where the first ended, are one
pub put-parts : (xs ys zs : List ℕ) (n : ℕ) → length ys ≡ n → n + length zs ≤ length xs → put_at (put_at xs 0 ys) n zs ≡ put_at xs 0 (ys ++ zs)
put-parts xs ys zs n k l =
    let first : put_at xs 0 ys ≡ put xs 0 ys = put_in xs 0 ys (omega arith) in
    let same : length (put_at xs 0 ys) ≡ length xs = ap length first ∙ length-put xs 0 ys (omega arith) in
    let end : n ≡ 0 + length ys = omega arith in
    put_in (put_at xs 0 ys) n zs (omega arith)
    ∙ ap (λ (l : List ℕ). put l n zs) first ∙ ap (λ (m : ℕ). put (put xs 0 ys) m zs) end
    ∙ put-put xs 0 ys zs (omega arith) ∙ sym (put_in xs 0 (ys ++ zs) (simp length-append (omega arith)))

-- and where they are as long as the slice, they are what then stands in it
pub filled : (xs ys zs : List ℕ) (n : ℕ) → length ys ≡ n → length xs ≡ n + length zs → put_at (put_at xs 0 ys) n zs ≡ ys ++ zs
filled xs ys zs n k l = put-parts xs ys zs n k (omega arith) ∙ put_all xs (ys ++ zs) (simp length-append (omega arith))

-- one byte more, stored where those before it end
pub put_next : (xs : List ℕ) (at : ℕ) (ys : List ℕ) (z : ℕ) → at + length ys < length xs
    → set (put xs at ys) (at + length ys) z ≡ put xs at (ys ++ (z ∷ []))
put_next xs at ys z h =
    let l = length-put xs at ys (omega arith) in
    sets-put (put xs at ys) (at + length ys) (z ∷ []) (omega arith) ∙ put-put xs at ys (z ∷ []) (omega arith)

-- n elements of xs, from the place `at` on
abbrev pub elements : List ℕ → ℕ → ℕ → List ℕ
elements xs at zero = []
elements xs at (suc n) = get_or xs at 0 ∷ elements xs (suc at) n

-- bytes read one after the other are a part
pub elements-part : (xs : List ℕ) (at n : ℕ) → at + n ≤ length xs → elements xs at n ≡ part xs at n
elements-part xs at zero h = refl
elements-part xs at (suc n) h =
    rw (drop-cons xs at 0 (omega arith)) (ap (λ (ys : List ℕ). get_or xs at 0 ∷ ys) (elements-part xs (suc at) n (omega arith)))

-- the number that they are
pub elements-number : (order : Order) (xs : List ℕ) (at n : ℕ) → at + n ≤ length xs → number_of order (elements xs at n) ≡ number_at order n xs at
elements-number order xs at n h = ap (number_of order) (elements-part xs at n h) ∙ sym (number_in xs at order n h)

-- bytes stored one after the other are put at their place
pub sets-put-at : (xs : List ℕ) (at : ℕ) (ys : List ℕ) → at + length ys ≤ length xs → sets xs at ys ≡ put_at xs at ys
sets-put-at xs at ys h = sets-put xs at ys h ∙ sym (put_in xs at ys h)

drop-take : (k m : ℕ) (xs : List ℕ) → drop k (take m xs) ≡ take (m - k) (drop k xs)
drop-take zero m xs = rw (sub-zero m)
drop-take (suc k) zero xs = rw (zero-sub (suc k))
drop-take (suc k) (suc m) [] = sym (take-nil (suc m - suc k))
drop-take (suc k) (suc m) (x ∷ xs) = rw (suc-sub-suc m k) (drop-take k m xs)

-- a part of a part
pub part-part : (xs : List ℕ) (at m k n : ℕ) → k + n ≤ m → part (part xs at m) k n ≡ part xs (at + k) n
part-part xs at m k n h =
    ap (take n) (drop-take k m (drop at xs)) ∙ take-take n (m - k) (drop k (drop at xs)) (omega arith) ∙ ap (take n) (drop-drop k at xs)

-- the number at an offset of a part
pub number-in-part : (order : Order) (xs : List ℕ) (at m k n : ℕ) → at + m ≤ length xs → k + n ≤ m
    → number_at order n xs (at + k) ≡ number_of order (part (part xs at m) k n)
number-in-part order xs at m k n h i =
    number_in xs (at + k) order n (omega arith) ∙ sym (ap (number_of order) (part-part xs at m k n i))

-- the numbers of a row by the offsets at which they start
abbrev pub numbers_from : Order → ℕ → List ℕ → List ℕ → List ℕ
numbers_from order at [] xs = []
numbers_from order at (n ∷ ns) xs = number_of order (part xs at n) ∷ numbers_from order (at + n) ns xs

pub row_from : (order : Order) (at : ℕ) (ns xs : List ℕ) → row_numbers order ns (drop at xs) ≡ numbers_from order at ns xs
row_from order at [] xs = refl
row_from order at (n ∷ ns) xs =
    ap (λ (r : List ℕ). number_of order (part xs at n) ∷ r) (ap (row_numbers order ns) (drop-drop n at xs) ∙ row_from order (at + n) ns xs)

-- what was put stands there
pub part-put : (xs : List ℕ) (at : ℕ) (ys : List ℕ) (n : ℕ) → at + length ys ≤ length xs → length ys ≡ n → part (put xs at ys) at n ≡ ys
part-put xs at ys n h e =
    ap (take n) (drop_at (take at xs) (ys ++ drop (at + length ys) xs) at (length-take-le at xs (omega arith))) ∙ take_at ys (drop (at + length ys) xs) n e

-- what stands there, put there again, changes nothing
pub put-part : (xs : List ℕ) (at n : ℕ) → at + n ≤ length xs → put xs at (part xs at n) ≡ xs
put-part xs at n h =
    let l : length (part xs at n) ≡ n = length-part xs at n h in
    rw (l, ← drop-drop n at xs, take-append-drop n (drop at xs)) (take-append-drop at xs)

-- as std takes a number from its bytes
elements_all : (xs : List ℕ) (n : ℕ) → length xs ≡ n → elements xs 0 n ≡ xs
elements_all xs n e = elements-part xs 0 n (omega arith) ∙ take_all n xs (omega arith)

pub half-join : (xs : List ℕ) → length xs ≡ 2 → from_be_bytes w16 xs ≡ join (bytes 2) xs
half-join xs e =
    let same : from_be_bytes w16 xs ≡ join (bytes 2) (elements xs 0 2) = omega arith in
    same ∙ ap (join (bytes 2)) (elements_all xs 2 e)

pub word-join : (xs : List ℕ) → length xs ≡ 4 → from_be_bytes w32 xs ≡ join (bytes 4) xs
word-join xs e =
    let same : from_be_bytes w32 xs ≡ join (bytes 4) (elements xs 0 4) = omega arith in
    same ∙ ap (join (bytes 4)) (elements_all xs 4 e)

-- the bytes of a part, in the order asked for, are its number
pub number-arranged : (order : Order) (xs : List ℕ) (at n : ℕ) {bs cs : List ℕ} → at + n ≤ length xs → bs ≡ part xs at n → cs ≡ in_order order bs
    → join (bytes n) cs ≡ number_at order n xs at
number-arranged order xs at n h e f =
    let l : length (part xs at n) ≡ n = length-part xs at n h in
    rw (f, e, number_in xs at order n h, l)

-- a number by its part, in the order asked for, as std takes it
module _ (order : Order) (xs : List ℕ) (at : ℕ) where
  pub half_read : at + 2 ≤ length xs → number_at order 2 xs at ≡ from_be_bytes w16 (in_order order (part xs at 2))
  half_read h =
      let l : length (in_order order (part xs at 2)) ≡ 2 = length-order order (part xs at 2) ∙ length-part xs at 2 h in
      sym (half-join (in_order order (part xs at 2)) l ∙ number-arranged order xs at 2 h refl refl)

  pub word_read : at + 4 ≤ length xs → number_at order 4 xs at ≡ from_be_bytes w32 (in_order order (part xs at 4))
  word_read h =
      let l : length (in_order order (part xs at 4)) ≡ 4 = length-order order (part xs at 4) ∙ length-part xs at 4 h in
      sym (word-join (in_order order (part xs at 4)) l ∙ number-arranged order xs at 4 h refl refl)

-- all the bytes of a list, one by one, are the list
pub two_bytes : (xs : List ℕ) → length xs ≡ 2 → get_or xs 0 0 ∷ get_or xs 1 0 ∷ [] ≡ xs
two_bytes xs e = elements_all xs 2 e

pub four_bytes : (xs : List ℕ) → length xs ≡ 4 → get_or xs 0 0 ∷ get_or xs 1 0 ∷ get_or xs 2 0 ∷ get_or xs 3 0 ∷ [] ≡ xs
four_bytes xs e = elements_all xs 4 e

-- what the calls that read a number need, in whatever form they hand the bytes on
pub ruleset numbers_read = (number-out, half_read, word_read, two_bytes, four_bytes)

-- bytes that take the place of a part are put there
pub put-middle : (xs : List ℕ) (at : ℕ) {k : ℕ} (ys : List ℕ) {zs : List ℕ} → zs ≡ ys → at + length ys ≤ length xs → k ≡ length ys
    → take at xs ++ (zs ++ drop k (drop at xs)) ≡ put_at xs at ys
put-middle xs at ys e h f = rw (e, f, drop-drop, put_in xs at ys h)
