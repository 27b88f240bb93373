-- The fields of an image are those that it was made of, and the image of the fields of its bytes is these bytes.
-- Assumes nothing.
use Prim.Native.Nat.{ℕ, zero, suc, ◌+◌}
use mathlib.Core.Path.{◌≡◌, refl, sym, ap, subst, ◌∙◌}
use mathlib.Core.List.{List, [], ◌∷◌, ◌++◌, append-nil}
use native.Mathlib.Omega.{arith}
use borrow.Author.Rules.{rules}
use borrow.Author.Tests.{eq-eqb, ne_eqb}
use lib.ListN.{length, take, drop, length-append, length-drop, length-replicate, drop_of_length-le}
use lib.Seq.{take_at, length-take-le}
use Rattle.words.specs.declared.Order.TheVariants.{MostFirst}
use Rattle.words.specs.Numbers.{total, join, split, recode, bytes, Fit}
use Rattle.words.specs.Orders.{bytes_of}
use Rattle.words.specs.Slices.{AllBytes, put, put_at}
use Rattle.words.specs.Packed.{no_fields, packed_over, fields_put}
use Rattle.words.proofs.Recode.{recode-back, recode-fit, recode-append}
use Rattle.words.proofs.Groups.{fit-both, recode-groups}
use Rattle.words.proofs.Orders.{length-split, split-bytes}
use Rattle.words.proofs.Bits.{flag-back, flag-bit}
use Rattle.words.proofs.Bytes.{bytes_fit}
use Rattle.words.proofs.Slices.{put_in, put-put, length-put}
use Rattle.words.proofs.Packing.{fields-packed}
use Rattle.descriptor.specs.Looking.{raw_bytes, WordsFit}
use Rattle.image.specs.declared.Fields.{Fields}
use Rattle.image.specs.declared.Tail.{Tail}
use Rattle.image.specs.Slot.{slot_number, tail_from, slot_widths, slot_values, tail_bytes}
use Rattle.image.specs.Layout.{from_numbers, values_of, widths_of, size_of, image_of, fields_in, tail_in, latest, values, widths, image, fields, tail}
use Rattle.image.specs.Helpers.InWords.{front_widths, front_values}
use Rattle.image.specs.Theorems.{EditionFront}
use Rattle.image.proofs.SlotBytes.{slot-back, slot-bits, slot-words, alone, raw-alone}

-- the fields that the values of fields are
of_values : (f : Fields) (t : Tail) → from_numbers (values f t) ≡ f
of_values f t = rw (flag-back f.armed, flag-back f.pending, flag-back f.eop)

tail-of-values : (f : Fields) (t : Tail) → WordsFit t.raw → tail_from (values f t) ≡ t
tail-of-values f t h = rw (slot-back t.raw h)

-- ---- any edition. One past the latest has the same lines: hence the last case of each

-- its lines fill its bytes
pub fills : (edition : ℕ) → total (bytes (size_of edition)) ≡ total (widths_of edition)
fills zero = refl
fills (suc zero) = refl
fills (suc (suc zero)) = refl
fills (suc (suc (suc more))) = refl

-- the numbers that a number is cut into are the values of the fields that they are
values-of : (edition n : ℕ)
    → values_of edition (from_numbers (split (widths_of edition) n)) (tail_from (split (widths_of edition) n)) ≡ split (widths_of edition) n
values-of zero n = refl
values-of (suc zero) n = simp flag-bit
values-of (suc (suc zero)) n = simp (flag-bit, slot-bits)
values-of (suc (suc (suc more))) n = simp (flag-bit, slot-bits)

module _ (edition : ℕ) where
  pub length-of : (f : Fields) (t : Tail) → length (image_of edition f t) ≡ size_of edition
  unfolding image_of
  length-of f t =
      length-split (bytes (size_of edition)) (join (widths_of edition) (values_of edition f t)) ∙ length-replicate (size_of edition) 8

  pub bytes-of : (f : Fields) (t : Tail) → AllBytes (image_of edition f t)
  unfolding image_of
  bytes-of f t = split-bytes (size_of edition) (join (widths_of edition) (values_of edition f t))

  -- the numbers come back from its image
  pub numbers-back : (f : Fields) (t : Tail) → Fit (widths_of edition) (values_of edition f t)
      → recode (bytes (size_of edition)) (widths_of edition) (image_of edition f t) ≡ values_of edition f t
  unfolding image_of
  numbers-back f t p = recode-back (widths_of edition) (bytes (size_of edition)) (values_of edition f t) (fills edition) p

  -- and the bytes from their fields
  pub bytes_back : (xs : List ℕ) → length xs ≡ size_of edition → AllBytes xs → image_of edition (fields_in edition xs) (tail_in edition xs) ≡ xs
  unfolding image_of fields_in tail_in
  bytes_back xs l g =
      ap (recode (widths_of edition) (bytes (size_of edition))) (values-of edition (join (bytes (size_of edition)) xs))
      ∙ recode-back (bytes (size_of edition)) (widths_of edition) xs (sym (fills edition)) (subst (λ (n : ℕ). Fit (bytes n) xs) l (bytes_fit xs g))

  -- every field of its bytes has no more bits than its width
  pub fit-in : (xs : List ℕ) → Fit (widths_of edition) (values_of edition (fields_in edition xs) (tail_in edition xs))
  unfolding fields_in tail_in
  fit-in xs =
      subst (λ (vs : List ℕ). Fit (widths_of edition) vs) (sym (values-of edition (join (bytes (size_of edition)) xs)))
      (recode-fit (bytes (size_of edition)) (widths_of edition) xs)

  -- and the slot's bytes are bytes
  pub words-in : (xs : List ℕ) → WordsFit (tail_in edition xs).raw
  unfolding tail_in
  words-in xs = slot-words _

-- ---- an edition and the one before it

-- The image of edition 1 is the front of that of edition 2.
pub edition-front : EditionFront
unfolding image_of tail_bytes
edition-front f t p =
    let both = fit-both (widths_of 1) slot_widths (values_of 1 f t) (slot_values t) refl p in
    recode-append (widths_of 1) slot_widths (bytes 44) (bytes 41) (values_of 1 f t) (slot_values t) refl both.0 both.1

-- an image of edition 1 has an empty slot and run number 0
pub no-tail : (xs : List ℕ) → tail_in 1 xs ≡ tail_from []
unfolding tail_in
no-tail xs = refl

-- ---- the latest

pub length-image : (f : Fields) (t : Tail) → length (image f t) ≡ 85
unfolding image
length-image f t = length-of latest f t

pub fields-image : (f : Fields) (t : Tail) → Fit widths (values f t) → fields (image f t) ≡ f
unfolding image fields
fields-image f t p = ap from_numbers (numbers-back latest f t p) ∙ of_values f t

-- the tail of bytes of the image's size
pub tail-sized : (xs : List ℕ) → length xs ≡ 85 → tail xs ≡ tail_in latest xs
unfolding tail
tail-sized xs l = rw (eq-eqb (length xs) 85 l)

pub tail-other : (xs : List ℕ) → (length xs ≡ 85 → ⊥) → tail xs ≡ tail_from []
unfolding tail
tail-other xs h = rw (ne_eqb (length xs) 85 h)

pub tail-image : (f : Fields) (t : Tail) → Fit widths (values f t) → WordsFit t.raw → tail (image f t) ≡ t
unfolding image tail_in
tail-image f t p h = tail-sized (image f t) (length-image f t) ∙ ap tail_from (numbers-back latest f t p) ∙ tail-of-values f t h

pub image-fields : (xs : List ℕ) → length xs ≡ 85 → AllBytes xs → image (fields xs) (tail xs) ≡ xs
unfolding image fields
image-fields xs l g = ap (image (fields xs)) (tail-sized xs l) ∙ bytes_back latest xs l g

pub fields_fit : (xs : List ℕ) → length xs ≡ 85 → Fit widths (values (fields xs) (tail xs))
unfolding fields
fields_fit xs l = subst (λ (t : Tail). Fit widths (values (fields xs) t)) (sym (tail-sized xs l)) (fit-in latest xs)

pub slot-fits : (xs : List ℕ) → length xs ≡ 85 → WordsFit (tail xs).raw
slot-fits xs l = subst (λ (t : Tail). WordsFit t.raw) (sym (tail-sized xs l)) (words-in latest xs)

pub image-bytes : (f : Fields) (t : Tail) → AllBytes (image f t)
unfolding image
image-bytes f t = bytes-of latest f t

-- ---- as the code writes it

-- the lines before the slot's bytes, put into a packer one after the other; then these, and then the run number
front_fits : (f : Fields) (t : Tail) → Fit widths (values f t)
    → Fit front_widths (front_values f t) × Fit (256 ∷ 32 ∷ []) (slot_number t.raw ∷ t.run ∷ [])
front_fits f t p = fit-both front_widths (256 ∷ 32 ∷ []) (front_values f t) (slot_number t.raw ∷ t.run ∷ []) refl p

pub front-packed : (f : Fields) (t : Tail) (xs : List ℕ) → length xs ≡ 49 → Fit widths (values f t)
    → packed_over (fields_put front_widths (front_values f t) no_fields) xs ≡ recode front_widths (bytes 49) (front_values f t)
front-packed f t xs l p =
    fields-packed front_widths (front_values f t) xs (front_fits f t p).0 (search rules) (omega arith) (omega arith)
    ∙ ap (λ (n : ℕ). recode front_widths (bytes n) (front_values f t)) l

image-pieces : (f : Fields) (t : Tail) → Fit widths (values f t)
    → image f t ≡ recode front_widths (bytes 49) (front_values f t) ++ (raw_bytes t.raw ++ bytes_of MostFirst 4 t.run)
unfolding image image_of
image-pieces f t p =
    let fits = front_fits f t p in
    recode-groups (front_widths ∷ (256 ∷ []) ∷ (32 ∷ []) ∷ []) (bytes 49 ∷ bytes 32 ∷ bytes 4 ∷ [])
    (front_values f t ∷ (slot_number t.raw ∷ []) ∷ (t.run ∷ []) ∷ [])
    (refl, (refl, (refl, tt)))
    (fits.0, ((fits.1.0, tt), ((fits.1.1.0, tt), tt)))
    ∙ ap (λ (ys : List ℕ). recode front_widths (bytes 49) (front_values f t) ++ ys)
    (ap (λ (ys : List ℕ). ys ++ (recode (32 ∷ []) (bytes 4) (t.run ∷ []) ++ [])) (raw-alone t.raw)
    ∙ ap (λ (ys : List ℕ). raw_bytes t.raw ++ ys) (append-nil _ ∙ alone 4 t.run))

-- two pieces put behind a front
put-behind : (front xs ys zs : List ℕ) → length xs ≡ length front + length ys + length zs
    → put_at (put_at (front ++ drop (length front) xs) (length front) ys) (length front + length ys) zs ≡ front ++ (ys ++ zs)
put-behind front xs ys zs l =
    let behind = drop (length front) xs in
    let all : length (front ++ behind) ≡ length xs = simp (length-append, length-drop) (omega arith) in
    let more : length (ys ++ zs) ≡ length ys + length zs = length-append ys zs in
    let same : length (put (front ++ behind) (length front) ys) ≡ length xs =
    length-put (front ++ behind) (length front) ys (omega arith) ∙ all in
    let none : drop (length front + length (ys ++ zs)) (front ++ behind) ≡ [] =
    drop_of_length-le (front ++ behind) {i = length front + length (ys ++ zs)} (omega arith) in
    ap (λ (us : List ℕ). put_at us (length front + length ys) zs) (put_in (front ++ behind) (length front) ys (omega arith))
    ∙ put_in (put (front ++ behind) (length front) ys) (length front + length ys) zs (omega arith)
    ∙ put-put (front ++ behind) (length front) ys zs (omega arith)
    ∙ rw (take_at front behind (length front) refl, none, append-nil (ys ++ zs))

pub image-put : (f : Fields) (t : Tail) (xs : List ℕ) {us vs ws : List ℕ} → length xs ≡ 85 → Fit widths (values f t)
    → us ≡ packed_over (fields_put front_widths (front_values f t) no_fields) (take 49 xs)
    → vs ≡ put_at (us ++ drop 49 xs) 49 (raw_bytes t.raw)
    → ws ≡ put_at vs 81 (bytes_of MostFirst 4 t.run)
    → ws ≡ image f t
image-put f t xs {us} {vs} {ws} l p e0 e1 e2 =
    let front = recode front_widths (bytes 49) (front_values f t) in
    let packed : us ≡ front = e0 ∙ front-packed f t (take 49 xs) (length-take-le 49 xs (omega arith)) p in
    e2
    ∙ ap (λ (ys : List ℕ). put_at ys 81 (bytes_of MostFirst 4 t.run))
    (e1 ∙ ap (λ (ys : List ℕ). put_at (ys ++ drop 49 xs) 49 (raw_bytes t.raw)) packed)
    ∙ put-behind front xs (raw_bytes t.raw) (bytes_of MostFirst 4 t.run) l
    ∙ sym (image-pieces f t p)
