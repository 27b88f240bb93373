-- Bytes stay bytes: what a step writes into the window, and what it reads of it.
-- Assumes nothing.
use Prim.Native.Nat.{ℕ, zero, suc, ◌+◌, ◌≤◌, ◌<◌, ◌^◌}
use mathlib.Core.Path.{◌≡◌, refl, sym, subst}
use mathlib.Core.List.{List, [], ◌∷◌, ◌++◌}
use native.Mathlib.Nat.{mod-lt}
use native.Mathlib.Omega.{arith}
use lib.ListN.{length, take, drop, get_or, set, length-drop}
use lib.Seq.{length-take-le}
use lib.Pow.{pow_pos}
use lib.Dec.{leb}
use borrow.Author.Tests.{leb-true}
use Rattle.words.specs.declared.Order.{Order}
use Rattle.words.specs.declared.Order.TheVariants.{LeastFirst}
use Rattle.words.specs.Numbers.{total, split, bytes, Fit}
use Rattle.words.specs.Orders.{in_order, bytes_of, number_of, row_bytes}
use Rattle.words.specs.Slices.{part, put_at, AllBytes}
use Rattle.words.proofs.Recode.{join-lt}
use Rattle.words.proofs.Bytes.{bytes_fit, take-bytes, drop-bytes, append-bytes, order-bytes}
use Rattle.words.proofs.Orders.{length-order}
use Rattle.words.proofs.Slices.{length-put}
use Rattle.descriptor.specs.declared.Descriptor.{Descriptor}
use Rattle.descriptor.specs.declared.Raw.{Raw}
use Rattle.descriptor.specs.Looking.{raw_bytes, named_in}
use Rattle.descriptor.specs.RoundTrip.{Typed, job_of}
use Rattle.descriptor.proofs.Looks.{raw-bytes}
use Rattle.descriptor.proofs.Reading.{by-offset}
use Rattle.met.proofs.Kept.{on}

pub get-byte : (xs : List ℕ) (i : ℕ) → AllBytes xs → get_or xs i 0 < 256
get-byte [] i g = omega arith
get-byte (x ∷ xs) zero g = g.0
get-byte (x ∷ xs) (suc i) g = get-byte xs i g.1

pub set-bytes : (xs : List ℕ) (i : ℕ) {v : ℕ} → AllBytes xs → v < 256 → AllBytes (set xs i v)
set-bytes [] i g h = tt
set-bytes (x ∷ xs) zero g h = (h, g.1)
set-bytes (x ∷ xs) (suc i) g h = (g.0, set-bytes xs i g.1 h)

-- ---- what is put

split-bytes : (n v : ℕ) → AllBytes (split (bytes n) v)
split-bytes zero v = tt
split-bytes (suc n) v = (mod-lt _ (pow_pos 8), split-bytes n v)

pub row-bytes : (order : Order) (ns vs : List ℕ) → AllBytes (row_bytes order ns vs)
row-bytes order [] vs = tt
row-bytes order (n ∷ ns) [] = tt
row-bytes order (n ∷ ns) (v ∷ vs) =
    append-bytes (bytes_of order n v) _ (order-bytes order (split (bytes n) v) (split-bytes n v)) (row-bytes order ns vs)

module _ (xs : List ℕ) (at : ℕ) (ys : List ℕ) where
  pub put-bytes : AllBytes xs → AllBytes ys → AllBytes (put_at xs at ys)
  unfolding put_at
  put-bytes g h =
      on AllBytes (leb (at + length ys) (length xs))
      (λ e. append-bytes (take at xs) (ys ++ drop (at + length ys) xs) (take-bytes at xs g) (append-bytes ys (drop (at + length ys) xs) h (drop-bytes (at + length ys) xs g)))
      (λ e. g)

  pub length-put-at : length (put_at xs at ys) ≡ length xs
  unfolding put_at
  length-put-at =
      on (λ (zs : List ℕ). length zs ≡ length xs) (leb (at + length ys) (length xs))
      (λ e. length-put xs at ys (leb-true _ _ e)) (λ e. refl)

-- ---- what is read

number_lt : (order : Order) (xs : List ℕ) → AllBytes xs → number_of order xs < 2 ^ total (bytes (length xs))
number_lt order xs g =
    join-lt (bytes (length xs)) (in_order order xs)
    (subst (λ (n : ℕ). Fit (bytes n) (in_order order xs)) (length-order order xs) (bytes_fit (in_order order xs) (order-bytes order xs g)))

part-lt : (xs : List ℕ) (at n : ℕ) → AllBytes xs → at + n ≤ length xs → number_of LeastFirst (part xs at n) < 2 ^ total (bytes n)
part-lt xs at n g h =
    let l : length (part xs at n) ≡ n = length-take-le n (drop at xs) (simp length-drop (omega arith)) in
    subst (λ (k : ℕ). number_of LeastFirst (part xs at n) < 2 ^ total (bytes k)) l
    (number_lt LeastFirst (part xs at n) (take-bytes n (drop at xs) (drop-bytes at xs g)))

-- the numbers that a descriptor's bytes name are of their types' widths
pub named-typed : (r : Raw) → Typed (job_of (named_in r))
unfolding named_in
named-typed r =
    let ys = raw_bytes r in
    let b : AllBytes ys = raw-bytes r in
    subst (λ (d : Descriptor). Typed (job_of d)) (sym (by-offset ys))
    (record {
      source = part-lt ys 0 4 b (omega arith);
      destination = part-lt ys 8 4 b (omega arith);
      next = part-lt ys 16 4 b (omega arith);
      length = part-lt ys 24 2 b (omega arith);
      control = part-lt ys 31 1 b (omega arith);
    })
