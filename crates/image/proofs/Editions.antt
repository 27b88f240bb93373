-- Forward and back again, and to the same edition: what an image is after the move, in bytes and in fields.
-- Assumes nothing.
use Rattle.std.specs.Prelude.{Ok}
use Prim.Native.Nat.{ℕ, zero, suc, ◌+◌, ◌*◌, ◌%◌, ◌≤◌}
use mathlib.Core.Path.{◌≡◌, refl, sym, ap, subst, ◌∙◌}
use mathlib.Core.Bool.{Bool, true, false, not, cond, ◌&&◌}
use mathlib.Core.List.{List, [], ◌∷◌}
use mathlib.Core.Logic.{◌≢◌}
use native.Mathlib.Omega.{arith}
use borrow.Author.Tests.{eq-eqb, eqb-true, eqb-false}
use lib.Dec.{eqb, ltb}
use lib.ListN.{length, drop}
use Rattle.words.specs.Fields.{first_false}
use Rattle.words.specs.Numbers.{recode, bytes, Fit}
use Rattle.words.specs.Slices.{AllBytes}
use Rattle.words.proofs.Bits.{flag-back}
use Rattle.words.proofs.Groups.{fit-both}
use Rattle.image.specs.declared.Fields.{Fields}
use Rattle.image.specs.declared.Tail.{Tail}
use Rattle.image.specs.Slot.{tail_from, slot_widths, slot_values}
use Rattle.image.specs.Layout.{from_numbers, values_of, widths_of, image_of, fields_in, tail_in, values, widths, image, fields, tail, Typed}
use Rattle.image.specs.Rules.{core_rules, rules, lowest_broken}
use Rattle.image.specs.Promise.{read_of}
use Rattle.image.specs.Editions.{edition_sized, edition_of, broken_in, slot_held, moved_to, ImageMoved}
use Rattle.image.specs.Helpers.InBytes.{resized, moved_bytes}
use Rattle.image.specs.Helpers.ByPhase.{core_kept, slot_kept_of}
use Rattle.image.specs.Theorems.{ForwardThenBack, MovedAsItIs}
use Rattle.image.proofs.Tests.{and_left}
use Rattle.image.proofs.SlotBytes.{slot-words}
use Rattle.image.proofs.RoundTrip.{length-of, bytes-of, numbers-back, bytes_back, no-tail, length-image, image-bytes, tail-sized, fields_fit}
use Rattle.image.proofs.Fitting.{fit-typed}
use Rattle.image.proofs.Facts.{edition-is}
use Rattle.image.proofs.Answers.{keeps, good_length, good-fields, good-keeps, read-image, image-tail}
use Rattle.image.proofs.ByPhase.{kept-in-parts}
use Rattle.image.proofs.Moved.{Known, first, second, known, numbers, image_as, broken_as, forward-fits, moved-bytes, broken-number, broken-as, number-kept}

-- the same fields with another edition's number
abbrev pub numbered : ℕ → Fields → Fields
numbered n f =
    record {
      edition = n;
      mode = f.mode;
      phase = f.phase;
      armed = f.armed;
      pending = f.pending;
      fault = f.fault;
      status = f.status;
      count = f.count;
      control = f.control;
      pointer = f.pointer;
      base = f.base;
      window = f.window;
      address = f.address;
      source = f.source;
      destination = f.destination;
      size = f.size;
      dcontrol = f.dcontrol;
      errors = f.errors;
      moved = f.moved;
      eop = f.eop;
      zero15 = f.zero15;
      faultat = f.faultat;
    }

-- ---- an image of either edition

module _ (xs : List ℕ) where
  pub edition-first : length xs ≡ 44 → edition_of xs ≡ 1
  unfolding edition_sized
  edition-first l = ap edition_sized l

  pub edition-second : length xs ≡ 85 → edition_of xs ≡ 2
  unfolding edition_sized
  edition-second l = ap edition_sized l

  -- it is told
  pub told-first : length xs ≡ 44 → edition_of xs ≢ 0
  told-first l z = absurd (omega (arith, edition-first l, z))

  pub told-second : length xs ≡ 85 → edition_of xs ≢ 0
  told-second l z = absurd (omega (arith, edition-second l, z))

  -- one of edition 1 holds no slot
  pub none-held : length xs ≡ 44 → slot_held xs ≡ false
  unfolding slot_held
  none-held l = ap (λ (n : ℕ). not (eqb (tail_in n xs).kind 0)) (edition-first l) ∙ ap (λ (t : Tail). not (eqb t.kind 0)) (no-tail xs)

  -- one of edition 2 holds one where its kind says so
  pub held-second : length xs ≡ 85 → slot_held xs ≡ not (eqb (tail xs).kind 0)
  unfolding slot_held
  held-second l =
      ap (λ (n : ℕ). not (eqb (tail_in n xs).kind 0)) (edition-second l)
      ∙ ap (λ (t : Tail). not (eqb t.kind 0)) (sym (tail-sized xs l))

  -- and its rules are those that are read
  pub broken-second : length xs ≡ 85 → broken_in xs ≡ lowest_broken (fields xs) (tail xs)
  unfolding broken_in lowest_broken rules fields
  broken-second l =
      ap (λ (n : ℕ). broken_as n (fields_in n xs) (tail_in n xs)) (edition-second l)
      ∙ ap (broken_as 2 (fields_in 2 xs)) (sym (tail-sized xs l))

-- the number stands in the first field where no rule is broken
number-stands : {size old : ℕ} → Known size old → (f : Fields) (t : Tail) → broken_as old f t ≡ 0 → f.edition ≡ old
number-stands {old = old} k f t z = by (eqb f.edition old) refl
  where
    by : (b : Bool) → eqb f.edition old ≡ b → f.edition ≡ old
    by true e = eqb-true _ _ e
    by false e = absurd (let o = broken-number k f t (eqb-false _ _ e) in omega (arith, o, z))

-- ---- to the same edition

same-as : (xs : List ℕ) {old : ℕ} → Known (length xs) old → AllBytes xs → (fields_in old xs).edition ≡ old → image_as old old (length xs) xs ≡ xs
unfolding fields_in tail_in
same-as xs (first p) g e =
    ap (λ (n : ℕ). image_as 1 1 n xs) p
    ∙ ap (λ (n : ℕ). image_of 1 (from_numbers (n ∷ drop 1 (recode (bytes 44) (widths_of 1) xs))) (tail_from (n ∷ drop 1 (recode (bytes 44) (widths_of 1) xs)))) (sym e)
    ∙ bytes_back 1 xs p g
same-as xs (second p) g e =
    ap (λ (n : ℕ). image_as 2 2 n xs) p
    ∙ ap (λ (n : ℕ). image_of 2 (from_numbers (n ∷ drop 1 (recode (bytes 85) (widths_of 2) xs))) (tail_from (n ∷ drop 1 (recode (bytes 85) (widths_of 2) xs)))) (sym e)
    ∙ bytes_back 2 xs p g

same_bytes : (xs : List ℕ) → AllBytes xs → edition_of xs ≢ 0 → broken_in xs ≡ 0 → moved_to (edition_of xs) xs ≡ xs
unfolding moved_to broken_in
same_bytes xs g a z =
    let k = known (length xs) a in
    same-as xs k g (number-stands k (fields_in (edition_of xs) xs) (tail_in (edition_of xs) xs) z)

-- a slot is no reason against the same edition
none-against : (xs to : List ℕ) {old : ℕ} → Known (length xs) old → length to ≡ length xs → (slot_held xs && ltb (edition_of to) 2) ≡ false
none-against xs to (first p) l = ap (λ (b : Bool). b && ltb (edition_of to) 2) (none-held xs p)
none-against xs to (second p) l = ap (λ (n : ℕ). slot_held xs && ltb n 2) (edition-second to (l ∙ p)) ∙ no (slot_held xs)
  where
    no : (b : Bool) → (b && false) ≡ false
    no true = refl
    no false = refl

-- An image that keeps the rules of its edition is moved to that edition as it is.
pub moved-as-it-is : MovedAsItIs
moved-as-it-is xs to to' r g a z l m =
    let same : edition_of to ≡ edition_of xs = ap edition_sized l in
    let n = number-kept xs to a (λ e. a (sym same ∙ e)) z ∙ ap (λ (b : Bool). cond b 15 0) (none-against xs to (known (length xs) a) l) in
    (m.answer ∙ n, m.lent ∙ ap (λ (k : ℕ). cond (eqb k 0) (moved_to (edition_of to) xs) to) n ∙ ap (λ (k : ℕ). moved_to k xs) same ∙ same_bytes xs g a z)

-- ---- forward

-- the old fields with the latest number, and nothing in the slot
module _ (xs : List ℕ) (l : length xs ≡ 44) where
  forward-image : moved_to 2 xs ≡ image (numbered 2 (fields_in 1 xs)) (tail_from [])
  unfolding moved_to image fields_in
  forward-image =
      ap (λ (n : ℕ). image_as n 2 (length xs) xs) (edition-first xs l) ∙ ap (λ (n : ℕ). image_as 1 2 n xs) l

  typed : Typed (numbered 2 (fields_in 1 xs)) (tail_from [])
  unfolding fields_in
  typed = fit-typed (from_numbers (numbers 1 2 44 xs)) (tail_from []) (forward-fits 2 xs (omega arith)) (slot-words 0)

  pub forward-length : length (moved_to 2 xs) ≡ 85
  forward-length = ap length forward-image ∙ length-image _ _

  pub forward-bytes : AllBytes (moved_to 2 xs)
  forward-bytes = subst AllBytes (sym forward-image) (image-bytes (numbered 2 (fields_in 1 xs)) (tail_from []))

  module _ (z : broken_in xs ≡ 0) where
    old-kept : broken_as 1 (fields_in 1 xs) (tail_in 1 xs) ≡ 0
    unfolding broken_in
    old-kept = sym (ap (λ (n : ℕ). broken_as n (fields_in n xs) (tail_in n xs)) (edition-first xs l)) ∙ z

    new-kept : lowest_broken (numbered 2 (fields_in 1 xs)) (tail_from []) ≡ 0
    unfolding rules
    new-kept =
        broken-as (first l) (fields_in 1 xs) (numbered 2 (fields_in 1 xs)) (tail_from []) (λ o. refl)
        (number-stands (first l) (fields_in 1 xs) (tail_in 1 xs) old-kept) refl
        ∙ ap (broken_as 1 (fields_in 1 xs)) (sym (no-tail xs)) ∙ old-kept

    pub forward-read : read_of (moved_to 2 xs) ≡ Ok (numbered 2 (fields_in 1 xs))
    forward-read = ap read_of forward-image ∙ read-image (numbered 2 (fields_in 1 xs)) (tail_from []) typed new-kept

    pub forward-tail : tail (moved_to 2 xs) ≡ tail_from []
    forward-tail = ap tail forward-image ∙ image-tail (numbered 2 (fields_in 1 xs)) (tail_from []) typed new-kept

    forward-kept : broken_in (moved_to 2 xs) ≡ 0
    forward-kept =
        broken-second (moved_to 2 xs) forward-length
        ∙ ap (λ (f : Fields). lowest_broken f (tail (moved_to 2 xs))) (sym (good-fields (moved_to 2 xs) _ forward-read))
        ∙ good-keeps (moved_to 2 xs) _ forward-read

    forward-empty : slot_held (moved_to 2 xs) ≡ false
    forward-empty = held-second (moved_to 2 xs) forward-length ∙ ap (λ (t : Tail). not (eqb t.kind 0)) forward-tail

-- the number and the bytes of a move that no held slot stands against
pub done : (xs to to' : List ℕ) (r : ℕ) → edition_of xs ≢ 0 → edition_of to ≢ 0 → broken_in xs ≡ 0 → slot_held xs ≡ false → ImageMoved xs to r to'
    → (r ≡ 0) × (to' ≡ moved_to (edition_of to) xs)
done xs to to' r a b z h m =
    let n = number-kept xs to a b z ∙ ap (λ (k : Bool). cond (k && ltb (edition_of to) 2) 15 0) h in
    (m.answer ∙ n, m.lent ∙ ap (λ (k : ℕ). cond (eqb k 0) (moved_to (edition_of to) xs) to) n)

-- ---- forward then back

resized-twice : (n m : ℕ) (xs : List ℕ) → n ≤ m → resized n (resized m xs) ≡ resized n xs
resized-twice zero m xs h = refl
resized-twice (suc n) zero xs h = absurd (omega arith)
resized-twice (suc n) (suc m) [] h = ap (λ (ys : List ℕ). 0 ∷ ys) (resized-twice n m [] (omega arith))
resized-twice (suc n) (suc m) (x ∷ xs) h = ap (λ (ys : List ℕ). x ∷ ys) (resized-twice n m xs (omega arith))

there_and_back : (xs : List ℕ) → moved_bytes 1 44 (moved_bytes 2 85 xs) ≡ moved_bytes 1 44 xs
unfolding moved_bytes
there_and_back [] = refl
there_and_back (x ∷ xs) =
    let v : (2 * 16 + x % 16) % 16 ≡ x % 16 = omega arith in
    λ i. (1 * 16 + v i) ∷ resized-twice 43 84 xs (omega arith) i

-- Forward then back gives the old bytes exactly.
pub forward-then-back : ForwardThenBack
forward-then-back xs to to' back back' r s g l z p q m n =
    let one = edition-first xs l in
    let forth = done xs to to' r (told-first xs l) (told-second to p) z (none-held xs l) m in
    let at : to' ≡ moved_to 2 xs = forth.1 ∙ ap (λ (k : ℕ). moved_to k xs) (edition-second to p) in
    let l2 : length to' ≡ 85 = ap length at ∙ forward-length xs l in
    let again = done to' back back' s (told-second to' l2) (told-first back q) (ap broken_in at ∙ forward-kept xs l z) (ap slot_held at ∙ forward-empty xs l z) n in
    let g2 : AllBytes to' = subst AllBytes (sym at) (forward-bytes xs l) in
    let forward-is : to' ≡ moved_bytes 2 85 xs =
    forth.1 ∙ sym (moved-bytes xs to (told-first xs l) (told-second to p) g)
    ∙ ap (λ (k : ℕ). moved_bytes k (length to) xs) (edition-second to p) ∙ ap (λ (k : ℕ). moved_bytes 2 k xs) p in (
      forth.0,
      again.0,
      again.1 ∙ sym (moved-bytes to' back (told-second to' l2) (told-first back q) g2)
          ∙ ap (λ (k : ℕ). moved_bytes k (length back) to') (edition-first back q)
          ∙ ap (λ (k : ℕ). moved_bytes 1 k to') q
          ∙ ap (moved_bytes 1 44) forward-is
          ∙ there_and_back xs
          ∙ ap (λ (k : ℕ). moved_bytes k 44 xs) (sym one)
          ∙ ap (λ (k : ℕ). moved_bytes (edition_of xs) k xs) (sym l)
          ∙ moved-bytes xs xs (told-first xs l) (told-first xs l) g
          ∙ same_bytes xs g (told-first xs l) z,
    )

-- ---- back

-- of an image of edition 2 that is read: its fields with the old number
module _ (xs : List ℕ) (f : Fields) (e : read_of xs ≡ Ok f) where
  size : length xs ≡ 85
  size = good_length xs f e

  back-image : moved_to 1 xs ≡ image_of 1 (numbered 1 f) (tail_from [])
  unfolding moved_to image_of fields fields_in
  back-image =
      ap (λ (n : ℕ). image_as n 1 (length xs) xs) (edition-second xs size)
      ∙ ap (λ (n : ℕ). image_as 2 1 n xs) size
      ∙ ap (λ (h : Fields). image_of 1 (numbered 1 h) (tail_from [])) (sym (good-fields xs f e))

  back_fits : Fit (widths_of 1) (values_of 1 (numbered 1 f) (tail_from []))
  back_fits =
      let whole : Fit widths (values f (tail xs)) =
      subst (λ (h : Fields). Fit widths (values h (tail xs))) (sym (good-fields xs f e)) (fields_fit xs size) in
      (omega arith, (fit-both (widths_of 1) slot_widths (values_of 1 f (tail xs)) (slot_values (tail xs)) refl whole).0.1)

  pub back-length : length (moved_to 1 xs) ≡ 44
  back-length = ap length back-image ∙ length-of 1 _ _

  pub back-bytes : AllBytes (moved_to 1 xs)
  back-bytes = subst AllBytes (sym back-image) (bytes-of 1 _ _)

  pub back_fields : fields_in 1 (moved_to 1 xs) ≡ numbered 1 f
  unfolding fields_in
  back_fields =
      ap (fields_in 1) back-image
      ∙ ap from_numbers (numbers-back 1 (numbered 1 f) (tail_from []) back_fits)
      ∙ rw (flag-back f.armed, flag-back f.pending, flag-back f.eop)

  first-kept : first_false 1 (core_rules 2 f) ≡ 0
  unfolding core_kept
  first-kept =
      eqb-true _ _ (and_left (core_kept f) (slot_kept_of f (tail xs)) (sym (kept-in-parts f (tail xs)) ∙ keeps f (tail xs) (good-keeps xs f e)))

  pub back-kept : broken_in (moved_to 1 xs) ≡ 0
  unfolding broken_in
  back-kept =
      ap (λ (n : ℕ). broken_as n (fields_in n (moved_to 1 xs)) (tail_in n (moved_to 1 xs))) (edition-first (moved_to 1 xs) back-length)
      ∙ ap (λ (h : Fields). broken_as 1 h (tail_in 1 (moved_to 1 xs))) back_fields
      ∙ ap (λ (b : Bool). first_false 1 (b ∷ drop 1 (core_rules 1 f))) (sym (eq-eqb f.edition 2 (edition-is f (tail xs) (good-keeps xs f e))))
      ∙ first-kept
