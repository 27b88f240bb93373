-- A number that is put stands there, and the numbers beside it are as they were.
-- Assumes nothing.
use Prim.Native.Nat.{ℕ, ◌+◌, ◌-◌, ◌%◌, ◌^◌, ◌≤◌}
use mathlib.Core.Path.{◌≡◌, sym, ap, ◌∙◌}
use mathlib.Core.List.{List, ◌++◌, append_assoc}
use native.Mathlib.Nat.{zero-add}
use native.Mathlib.Omega.{arith}
use lib.ListN.{length, take, drop, length-append, length-drop}
use lib.Seq.{drop_at, drop-drop, drop-append-le, take-append-le, length-take-le}
use Rattle.words.specs.declared.Order.{Order}
use Rattle.words.specs.Numbers.{total, bytes}
use Rattle.words.specs.Orders.{bytes_of, number_of}
use Rattle.words.specs.Slices.{part, put, put_at, number_at}
use Rattle.words.proofs.Orders.{length-bytes, number-bytes}
use Rattle.words.proofs.Slices.{put_in, number_in, length-put, part-put, part-part}

pub part-before : (xs : List ℕ) (at : ℕ) (zs : List ℕ) (k n : ℕ) → at ≤ length xs → k + n ≤ at → part (take at xs ++ zs) k n ≡ part xs k n
part-before xs at zs k n h i =
    let l : length (take at xs) ≡ at = length-take-le at xs h in
    let d : length (drop k (take at xs)) ≡ at - k = length-drop k (take at xs) ∙ ap (λ (m : ℕ). m - k) l in
    ap (take n) (drop-append-le k (take at xs) zs (omega (arith, l))) ∙ take-append-le n (drop k (take at xs)) zs (omega (arith, d)) ∙ part-part xs 0 at k n i ∙ ap (λ (x : ℕ). part xs x n) (zero-add k)

part-after : (xs : List ℕ) (at : ℕ) (ys : List ℕ) (k n : ℕ) → at + length ys ≤ length xs → at + length ys ≤ k → part (put xs at ys) k n ≡ part xs k n
part-after xs at ys k n h i =
    let m = at + length ys in
    let e : k ≡ m + (k - m) = omega arith in
    let l : length (take at xs ++ ys) ≡ m = length-append (take at xs) ys ∙ ap (λ (x : ℕ). x + length ys) (length-take-le at xs (omega arith)) in
    let back : drop m (put xs at ys) ≡ drop m xs = ap (drop m) (sym (append_assoc (take at xs) ys (drop m xs))) ∙ drop_at (take at xs ++ ys) (drop m xs) m l in
    ap (take n) (ap (λ (x : ℕ). drop x (put xs at ys)) e ∙ sym (drop-drop (k - m) m (put xs at ys)) ∙ ap (drop (k - m)) back ∙ drop-drop (k - m) m xs ∙ ap (λ (x : ℕ). drop x xs) (sym e))

module _ (order : Order) (xs : List ℕ) (at : ℕ) (ys : List ℕ) (h : at + length ys ≤ length xs) where
  by_part : (k n : ℕ) → k + n ≤ length xs → part (put xs at ys) k n ≡ part xs k n → number_at order n (put_at xs at ys) k ≡ number_at order n xs k
  by_part k n i e =
      let l : length (put xs at ys) ≡ length xs = length-put xs at ys h in
      ap (λ (zs : List ℕ). number_at order n zs k) (put_in xs at ys h) ∙ number_in (put xs at ys) k order n (omega (arith, l))
      ∙ ap (number_of order) e ∙ sym (number_in xs k order n i)

  -- the numbers before it
  pub number-before : (k n : ℕ) → k + n ≤ at → number_at order n (put_at xs at ys) k ≡ number_at order n xs k
  number-before k n i = by_part k n (omega arith) (part-before xs at (ys ++ drop (at + length ys) xs) k n (omega arith) i)

  -- and those after it
  pub number-after : (k n : ℕ) → at + length ys ≤ k → k + n ≤ length xs → number_at order n (put_at xs at ys) k ≡ number_at order n xs k
  number-after k n i j = by_part k n j (part-after xs at ys k n h i)

-- the number that is put, cut to its bytes
pub number-own : (order : Order) (xs : List ℕ) (at n v : ℕ) → at + n ≤ length xs
    → number_at order n (put_at xs at (bytes_of order n v)) at ≡ v % 2 ^ total (bytes n)
number-own order xs at n v h =
    let b = bytes_of order n v in
    let l : length b ≡ n = length-bytes order n v in
    let fits : at + length b ≤ length xs = omega (arith, l) in
    let same : length (put xs at b) ≡ length xs = length-put xs at b fits in
    ap (λ (zs : List ℕ). number_at order n zs at) (put_in xs at b fits) ∙ number_in (put xs at b) at order n (omega (arith, same))
    ∙ ap (number_of order) (part-put xs at b n fits l) ∙ number-bytes order n v
