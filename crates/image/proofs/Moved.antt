-- An image in another edition, as the code makes it: its bytes, as many as the other has, with the other's number; and the rules of its
-- edition as the code looks at them, those of the latest.
-- Assumes nothing.
use Rattle.std.specs.Prelude.{Option, Some, None, Result, Ok, Err, ok_or}
use Rattle.bus.specs.declared.Refusal.{Refusal}
use Rattle.bus.specs.declared.Refusal.TheVariants.{BadSize}
use Rattle.image.proofs.Foremost.{told-some, told-none}
use Prim.Native.Nat.{ℕ, zero, suc, ◌+◌, ◌*◌, ◌%◌, ◌^◌, ◌≤◌, ◌<◌}
use mathlib.Core.Path.{◌≡◌, refl, sym, ap, subst, ◌∙◌}
use mathlib.Core.Bool.{Bool, true, false, not, cond, ◌&&◌}
use mathlib.Core.List.{List, [], ◌∷◌, ◌++◌}
use native.Mathlib.Nat.{add_assoc, mul_assoc, add-mul, mod-eq_of_lt, mul-add-mod_self_right}
use native.Mathlib.Omega.{arith}
use borrow.Author.Tests.{eq-eqb, ne_eqb, eqb-true}
use lib.Dec.{eqb, ltb}
use lib.ListN.{length, take, drop, get_or, set, replicate}
use lib.Pow.{pow-add, pow_pos, high, mod-pow-add}
use lib.Seq.{take_all, length-take-le, get_or-take, set-append_left}
use Rattle.words.specs.Fields.{first_false}
use Rattle.words.specs.Numbers.{total, join, split, recode, bytes, Fit}
use Rattle.words.specs.Slices.{AllBytes}
use Rattle.words.proofs.Answering.{answers-refused, answers-done}
use Rattle.words.proofs.Bits.{flag-bit}
use Rattle.words.proofs.Bytes.{bytes_fit, take-bytes}
use Rattle.words.proofs.Groups.{fit_append}
use Rattle.words.proofs.Recode.{join-lt, split-join, join-split, split-fit}
use Rattle.descriptor.specs.Looking.{is_zero}
use Rattle.image.specs.declared.Fields.{Fields}
use Rattle.image.specs.declared.Tail.{Tail}
use Rattle.image.specs.Slot.{slot_raw, tail_from, slot_widths, slot_values, tail_bytes, slot_rules}
use Rattle.image.specs.Layout.{from_numbers, values_of, widths_of, image_of, fields_in, tail_in, fields, tail}
use Rattle.image.specs.Rules.{core_rules, rules_of, rules, lowest_broken, told}
use Rattle.image.specs.Editions.{edition_sized, edition_of, broken_in, slot_held, moved_to, move_number, ImageMoved}
use Rattle.image.specs.Helpers.InBytes.{resized, moved_bytes}
use Rattle.image.proofs.SlotBytes.{slot-there, slot-bits}
use Rattle.image.proofs.RoundTrip.{edition-front, no-tail, tail-sized, tail-other}
use Rattle.image.proofs.WordByWord.{pieces, fields-front}
use Rattle.image.proofs.Fitting.{tail-fits}

-- ---- the edition that a size tells

pub data Known (size : ℕ) : (edition : ℕ) → Type 0 where
  first : size ≡ 44 → Known size 1
  second : size ≡ 85 → Known size 2

pub known : (size : ℕ) → (edition_sized size ≡ 0 → ⊥) → Known size (edition_sized size)
unfolding edition_sized
known size h = by (eqb size 44) (eqb size 85) refl refl h
  where
    by : (a b : Bool) → eqb size 44 ≡ a → eqb size 85 ≡ b → (◌≡◌ {A = ℕ} (cond a 1 (cond b 2 0)) 0 → ⊥) → Known size (cond a 1 (cond b 2 0))
    by true b p q h = first (eqb-true size 44 p)
    by false true p q h = second (eqb-true size 85 q)
    by false false p q h = absurd (h refl)

pub known-lt : {size edition : ℕ} → Known size edition → (edition < 16) × (0 < size) × (44 ≤ size)
known-lt (first p) = (omega arith, omega arith, omega arith)
known-lt (second p) = (omega arith, omega arith, omega arith)

-- what the answer to a size tells: its edition, or that there is none
pub sized-some : {n k : ℕ} {r : Result ℕ Refusal} → r ≡ ok_or (told n) BadSize → r ≡ Ok k → (k ≡ n) × (n ≡ 0 → ⊥)
sized-some {n} {k} e h = told-some n (by (told n) (sym e ∙ h))
  where
    by : (o : Option ℕ) → ◌≡◌ {A = Result ℕ Refusal} (ok_or o BadSize) (Ok k) → o ≡ Some k
    by (Some x) p = (cc)
    by None p = (cc)

pub sized-none : {n : ℕ} {why : Refusal} {r : Result ℕ Refusal} → r ≡ ok_or (told n) BadSize → r ≡ Err why → (n ≡ 0) × (why ≡ BadSize)
sized-none {n} {why} e h = let o = by (told n) (sym e ∙ h) in (told-none n o.0, o.1)
  where
    by : (o : Option ℕ) → ◌≡◌ {A = Result ℕ Refusal} (ok_or o BadSize) (Err why) → (o ≡ None) × (why ≡ BadSize)
    by (Some x) p = (cc)
    by None p = (refl, (cc))

-- ---- bytes, as many as asked for

pub resized-next : (n : ℕ) (xs : List ℕ) → resized (suc n) xs ≡ resized n xs ++ (get_or xs n 0 ∷ [])
resized-next zero [] = refl
resized-next zero (x ∷ xs) = refl
resized-next (suc n) [] = ap (λ (ys : List ℕ). 0 ∷ ys) (resized-next n [])
resized-next (suc n) (x ∷ xs) = ap (λ (ys : List ℕ). x ∷ ys) (resized-next n xs)

pub length-resized : (n : ℕ) (xs : List ℕ) → length (resized n xs) ≡ n
length-resized zero xs = refl
length-resized (suc n) [] = ap suc (length-resized n [])
length-resized (suc n) (x ∷ xs) = ap suc (length-resized n xs)

resized-front : (n : ℕ) (xs : List ℕ) → n ≤ length xs → resized n xs ≡ take n xs
resized-front zero xs h = refl
resized-front (suc n) [] h = absurd (omega arith)
resized-front (suc n) (x ∷ xs) h = ap (λ (ys : List ℕ). x ∷ ys) (resized-front n xs (omega arith))

resized-none : (n : ℕ) → resized n [] ≡ replicate n 0
resized-none zero = refl
resized-none (suc n) = ap (λ (ys : List ℕ). 0 ∷ ys) (resized-none n)

resized-more : (n k : ℕ) (xs : List ℕ) → length xs + k ≡ n → resized n xs ≡ xs ++ replicate k 0
resized-more n k [] e =
    let z : n ≡ k = omega arith in
    resized-none n ∙ ap (λ (m : ℕ). replicate m 0) z
resized-more zero k (x ∷ xs) e = absurd (omega arith)
resized-more (suc n) k (x ∷ xs) e = ap (λ (ys : List ℕ). x ∷ ys) (resized-more n k xs (omega arith))

resized-same : (n : ℕ) (xs : List ℕ) → length xs ≡ n → resized n xs ≡ xs
resized-same n xs e = resized-front n xs (omega arith) ∙ take_all n xs (omega arith)

pub put_as : (edition n : ℕ) (xs : List ℕ) {ys : List ℕ} {b : ℕ} → ys ≡ resized n xs → b ≡ get_or xs 0 0
    → set ys 0 (edition * 16 + b % 16) ≡ moved_bytes edition n xs
unfolding moved_bytes
put_as edition n xs e p = λ i. set (e i) 0 (edition * 16 + p i % 16)

-- ---- another number in the first four bits

collected : (n m p r : ℕ) → n * (16 * p) + (m * p + r) ≡ (n * 16 + m) * p + r
collected n m p r = simp (add-mul, mul_assoc, add_assoc)

-- the other bits stay, those of the first byte too
first-four : (n x : ℕ) (us bs xs : List ℕ) → total us ≡ 4 + total bs → n < 16 → Fit (8 ∷ bs) (x ∷ xs)
    → recode (4 ∷ us) (8 ∷ bs) (n ∷ recode (8 ∷ bs) us (x ∷ xs)) ≡ (n * 16 + x % 16) ∷ xs
first-four n x us bs xs e h p =
    let r = join bs xs in
    let lt : r < 2 ^ total bs = join-lt bs xs p.1 in
    let rest : (x * 2 ^ total bs + r) % 2 ^ total us ≡ x % 16 * 2 ^ total bs + r =
    ap (λ (t : ℕ). (x * 2 ^ total bs + r) % 2 ^ t) e
    ∙ mod-pow-add (x * 2 ^ total bs + r) 4 (total bs)
    ∙ rw (high x (total bs) lt, mul-add-mod_self_right x (2 ^ total bs) r, mod-eq_of_lt lt) in
    let whole : n * 2 ^ total us + join us (split us (x * 2 ^ total bs + r)) ≡ (n * 16 + x % 16) * 2 ^ total bs + r =
    rw (join-split us (x * 2 ^ total bs + r), rest, e, pow-add 2 4 (total bs)) (collected n (x % 16) (2 ^ total bs) r) in
    ap (split (8 ∷ bs)) whole ∙ split-join (8 ∷ bs) ((n * 16 + x % 16) ∷ xs) (omega arith, p.1)

-- the numbers of an image's fields, but for the edition's
abbrev pub numbers : (old new size : ℕ) → List ℕ → List ℕ
numbers old new size xs = new ∷ drop 1 (recode (bytes size) (widths_of old) xs)

abbrev pub image_as : (old new size : ℕ) → List ℕ → List ℕ
image_as old new size xs = image_of new (from_numbers (numbers old new size xs)) (tail_from (numbers old new size xs))

values-first : (n j : ℕ) (t : Tail) → values_of 1 (from_numbers (n ∷ drop 1 (split (widths_of 1) j))) t ≡ n ∷ drop 1 (split (widths_of 1) j)
values-first n j t = simp flag-bit

values-second : (n j : ℕ)
    → values_of 2 (from_numbers (n ∷ drop 1 (split (widths_of 2) j))) (tail_from (n ∷ drop 1 (split (widths_of 2) j)))
    ≡ n ∷ drop 1 (split (widths_of 2) j)
values-second n j = simp (flag-bit, slot-bits)

fit-sized : (n : ℕ) (xs : List ℕ) → length xs ≡ n → AllBytes xs → Fit (bytes n) xs
fit-sized n xs l g = subst (λ (k : ℕ). Fit (bytes k) xs) l (bytes_fit xs g)

first_part : (n : ℕ) (t : Tail) (xs : List ℕ) → n < 16 → length xs ≡ 44 → AllBytes xs
    → image_of 1 (from_numbers (numbers 1 n 44 xs)) t ≡ set xs 0 (n * 16 + get_or xs 0 0 % 16)
unfolding image_of
first_part n t [] h l g = absurd (omega arith)
first_part n t (x ∷ xs) h l g =
    ap (recode (widths_of 1) (bytes 44)) (values-first n (join (bytes 44) (x ∷ xs)) t)
    ∙ first-four n x (drop 1 (widths_of 1)) (bytes 43) xs refl h (fit-sized 44 (x ∷ xs) l g)

both-parts : (xs : List ℕ) → length xs ≡ 85 → AllBytes xs → image_as 2 2 85 xs ≡ set xs 0 (2 * 16 + get_or xs 0 0 % 16)
unfolding image_of
both-parts [] l g = absurd (omega arith)
both-parts (x ∷ xs) l g =
    ap (recode (widths_of 2) (bytes 85)) (values-second 2 (join (bytes 85) (x ∷ xs)))
    ∙ first-four 2 x (drop 1 (widths_of 2)) (bytes 84) xs refl (omega arith) (fit-sized 85 (x ∷ xs) l g)

-- ---- forward and back

-- what edition 2 adds is zero where its fields are
no_more : tail_bytes (tail_from []) ≡ replicate 41 0
unfolding tail_bytes
no_more = rw (slot-there 0 (pow_pos 256))

-- the old fields fit the new layout, with whatever number of an edition
pub forward-fits : (n : ℕ) (xs : List ℕ) → n < 16
    → Fit (widths_of 2) (values_of 2 (from_numbers (numbers 1 n 44 xs)) (tail_from []))
forward-fits n xs h =
    let f = from_numbers (numbers 1 n 44 xs) in
    let t : Tail = tail_from [] in
    fit_append (widths_of 1) slot_widths (values_of 1 f t) (slot_values t)
    (subst (Fit (widths_of 1)) (sym (values-first n (join (bytes 44) xs) t)) (h, split-fit (drop 1 (widths_of 1)) (join (bytes 44) xs)))
    (tail-fits t (omega arith) (omega arith) (omega arith) (omega arith))

forward : (xs : List ℕ) → length xs ≡ 44 → AllBytes xs → image_as 1 2 44 xs ≡ moved_bytes 2 85 xs
unfolding moved_bytes
forward xs l g =
    let f = from_numbers (numbers 1 2 44 xs) in
    let t : Tail = tail_from [] in
    let v = 2 * 16 + get_or xs 0 0 % 16 in
    edition-front f t (forward-fits 2 xs (omega arith))
    ∙ ap (λ (ys : List ℕ). ys ++ tail_bytes t) (first_part 2 t xs (omega arith) l g)
    ∙ ap (λ (ys : List ℕ). set xs 0 v ++ ys) no_more
    ∙ sym (set-append_left xs (replicate 41 0) 0 v (omega arith))
    ∙ ap (λ (ys : List ℕ). set ys 0 v) (sym (resized-more 85 41 xs (omega arith)))

back : (xs : List ℕ) → length xs ≡ 85 → AllBytes xs → image_as 2 1 85 xs ≡ moved_bytes 1 44 xs
unfolding moved_bytes image_of
back xs l g =
    let front = length-take-le 44 xs (omega arith) in
    ap (λ (vs : List ℕ). image_of 1 (from_numbers (1 ∷ drop 1 vs)) (tail_from (1 ∷ drop 1 vs))) (pieces xs l g)
    ∙ first_part 1 (tail_from []) (take 44 xs) (omega arith) front (take-bytes 44 xs g)
    ∙ ap (λ (y : ℕ). set (take 44 xs) 0 (1 * 16 + y % 16)) (get_or-take 44 xs 0 0 (omega arith))
    ∙ ap (λ (ys : List ℕ). set ys 0 (1 * 16 + get_or xs 0 0 % 16)) (sym (resized-front 44 xs (omega arith)))

same_first : (xs : List ℕ) → length xs ≡ 44 → AllBytes xs → image_as 1 1 44 xs ≡ moved_bytes 1 44 xs
unfolding moved_bytes
same_first xs l g =
    first_part 1 (tail_from (numbers 1 1 44 xs)) xs (omega arith) l g
    ∙ ap (λ (ys : List ℕ). set ys 0 (1 * 16 + get_or xs 0 0 % 16)) (sym (resized-same 44 xs l))

same_second : (xs : List ℕ) → length xs ≡ 85 → AllBytes xs → image_as 2 2 85 xs ≡ moved_bytes 2 85 xs
unfolding moved_bytes
same_second xs l g = both-parts xs l g ∙ ap (λ (ys : List ℕ). set ys 0 (2 * 16 + get_or xs 0 0 % 16)) (sym (resized-same 85 xs l))

-- any pair
moved_as : (xs to : List ℕ) {old new : ℕ} → Known (length xs) old → Known (length to) new → AllBytes xs
    → image_as old new (length xs) xs ≡ moved_bytes new (length to) xs
moved_as xs to (first p) (first q) g = ap (λ (n : ℕ). image_as 1 1 n xs) p ∙ same_first xs p g ∙ ap (λ (n : ℕ). moved_bytes 1 n xs) (sym q)
moved_as xs to (first p) (second q) g = ap (λ (n : ℕ). image_as 1 2 n xs) p ∙ forward xs p g ∙ ap (λ (n : ℕ). moved_bytes 2 n xs) (sym q)
moved_as xs to (second p) (first q) g = ap (λ (n : ℕ). image_as 2 1 n xs) p ∙ back xs p g ∙ ap (λ (n : ℕ). moved_bytes 1 n xs) (sym q)
moved_as xs to (second p) (second q) g = ap (λ (n : ℕ). image_as 2 2 n xs) p ∙ same_second xs p g ∙ ap (λ (n : ℕ). moved_bytes 2 n xs) (sym q)

pub moved-bytes : (xs to : List ℕ) → (edition_of xs ≡ 0 → ⊥) → (edition_of to ≡ 0 → ⊥) → AllBytes xs
    → moved_bytes (edition_of to) (length to) xs ≡ moved_to (edition_of to) xs
unfolding moved_to
moved-bytes xs to a b g = sym (moved_as xs to (known (length xs) a) (known (length to) b) g)

-- ---- the fields and the rules of its edition

module _ (xs : List ℕ) where
  pub core-in : {old : ℕ} → Known (length xs) old → AllBytes xs → fields_in 1 (take 44 xs) ≡ fields_in old xs
  unfolding fields
  core-in (first p) g = ap (fields_in 1) (take_all 44 xs (omega arith))
  core-in (second p) g = sym (fields-front xs p g)

  pub tail-is : {old : ℕ} → Known (length xs) old → tail xs ≡ tail_in old xs
  tail-is (first p) = tail-other xs (λ e. omega (arith, p, e)) ∙ sym (no-tail xs)
  tail-is (second p) = tail-sized xs p

abbrev pub broken_as : (old : ℕ) → Fields → Tail → ℕ
broken_as old f t = first_false 1 (rules_of old f t)

-- another number than its own is field 1
pub broken-number : {size old : ℕ} → Known size old → (f : Fields) (t : Tail) → (f.edition ≡ old → ⊥) → broken_as old f t ≡ 1
broken-number (first p) f t h = rw (ne_eqb f.edition 1 h)
broken-number (second p) f t h = rw (ne_eqb f.edition 2 h)

-- an empty slot keeps its rules
empty-kept : (f : Fields) → slot_rules f (tail_from []) ≡ true ∷ true ∷ true ∷ true ∷ true ∷ []
unfolding slot_raw is_zero
empty-kept f = refl

past-kept : (k : ℕ) (bs : List Bool) → first_false k (bs ++ (true ∷ true ∷ true ∷ true ∷ true ∷ [])) ≡ first_false k bs
past-kept k [] = refl
past-kept k (true ∷ bs) = past-kept (suc k) bs
past-kept k (false ∷ bs) = refl

-- its rules are those of the latest, of its fields with the latest number
pub broken-as : {size old : ℕ} → Known size old → (f g : Fields) (t : Tail) → (old ≡ 1 → t ≡ tail_from []) → f.edition ≡ old
    → rules g t ≡ true ∷ drop 1 (rules_of 2 f t) → lowest_broken g t ≡ broken_as old f t
unfolding lowest_broken
broken-as (first p) f g t none e r =
    ap (first_false 1) r
    ∙ ap (λ (u : Tail). first_false 2 (drop 1 (core_rules 1 f) ++ (slot_rules f u ++ []))) (none refl)
    ∙ ap (λ (bs : List Bool). first_false 2 (drop 1 (core_rules 1 f) ++ (bs ++ []))) (empty-kept f)
    ∙ past-kept 2 (drop 1 (core_rules 1 f))
    ∙ ap (λ (b : Bool). first_false 1 (b ∷ drop 1 (core_rules 1 f))) (sym (eq-eqb f.edition 1 e))
broken-as (second p) f g t none e r =
    ap (first_false 1) r ∙ ap (λ (b : Bool). first_false 1 (b ∷ drop 1 (rules_of 2 f t))) (sym (eq-eqb f.edition 2 e))

module _ (xs : List ℕ) (a : edition_of xs ≡ 0 → ⊥) (g : AllBytes xs) where
  is : Known (length xs) (edition_of xs)
  is = known (length xs) a

  pub told-number : {f : Fields} → f ≡ fields_in 1 (take 44 xs) → (f.edition ≡ edition_of xs → ⊥) → 1 ≡ broken_in xs
  unfolding broken_in
  told-number {f} e h =
      sym (broken-number is (fields_in (edition_of xs) xs) (tail_in (edition_of xs) xs) (λ p. h (ap (λ (x : Fields). x.edition) (e ∙ core-in xs is g) ∙ p)))

  pub told-rules : {f : Fields} {t : Tail} (h : Fields) → f ≡ fields_in 1 (take 44 xs) → t ≡ tail xs → f.edition ≡ edition_of xs
      → rules h t ≡ true ∷ drop 1 (rules_of 2 f t) → lowest_broken h t ≡ broken_in xs
  unfolding broken_in
  told-rules {f} {t} h e u p r =
      let tail-e : t ≡ tail_in (edition_of xs) xs = u ∙ tail-is xs is in
      broken-as is f h t (λ o. tail-e ∙ ap (λ (n : ℕ). tail_in n xs) o ∙ no-tail xs) p r
      ∙ ap (λ (x : Fields). broken_as (edition_of xs) x t) (e ∙ core-in xs is g)
      ∙ ap (λ (x : Tail). broken_as (edition_of xs) (fields_in (edition_of xs) xs) x) tail-e

-- ---- what the call answers

module _ (xs to : List ℕ) where
  number-old : edition_of xs ≡ 0 → move_number xs to ≡ 7
  unfolding move_number
  number-old e = rw (eq-eqb (edition_of xs) 0 e)

  pub refused-old : {r : ℕ} → edition_of xs ≡ 0 → r ≡ 7 → ImageMoved xs to r to
  refused-old e p = answers-refused (p ∙ sym (number-old e)) (λ z. absurd (omega (arith, p, z)))

  module _ (a : edition_of xs ≡ 0 → ⊥) where
    number-new : edition_of to ≡ 0 → move_number xs to ≡ 7
    unfolding move_number
    number-new e = rw (ne_eqb (edition_of xs) 0 a, eq-eqb (edition_of to) 0 e)

    pub refused-new : {r : ℕ} → edition_of to ≡ 0 → r ≡ 7 → ImageMoved xs to r to
    refused-new e p = answers-refused (p ∙ sym (number-new e)) (λ z. absurd (omega (arith, p, z)))

    module _ (b : edition_of to ≡ 0 → ⊥) where
      number-broken : (broken_in xs ≡ 0 → ⊥) → move_number xs to ≡ 8 + 256 * broken_in xs
      unfolding move_number
      number-broken h = rw (ne_eqb (edition_of xs) 0 a, ne_eqb (edition_of to) 0 b, ne_eqb (broken_in xs) 0 h)

      pub refused-broken : {n r : ℕ} → n ≡ broken_in xs → (n ≡ 0 → ⊥) → r ≡ 8 + 256 * n → ImageMoved xs to r to
      refused-broken {n} {r} e h p =
          answers-refused (p ∙ ap (λ (m : ℕ). 8 + 256 * m) e ∙ sym (number-broken (λ z. h (e ∙ z)))) (λ z. absurd (omega (arith, p, z)))

      pub number-kept : broken_in xs ≡ 0 → move_number xs to ≡ cond (slot_held xs && ltb (edition_of to) 2) 15 0
      unfolding move_number
      number-kept e = rw (ne_eqb (edition_of xs) 0 a, ne_eqb (edition_of to) 0 b, eq-eqb (broken_in xs) 0 e)

      -- the slot, as the code looks at it
      slot-as : {t : Tail} {new : ℕ} → t ≡ tail xs → new ≡ edition_of to
          → (not (eqb t.kind 0) && ltb new 2) ≡ (slot_held xs && ltb (edition_of to) 2)
      unfolding slot_held
      slot-as {t} e p =
          let u : t ≡ tail_in (edition_of xs) xs = e ∙ tail-is xs (known (length xs) a) in
          λ i. not (eqb (u i).kind 0) && ltb (p i) 2

      module _ (kept : broken_in xs ≡ 0) {t : Tail} {new : ℕ} (e : t ≡ tail xs) (p : new ≡ edition_of to) where
        pub refused-held : {r : ℕ} → (not (eqb t.kind 0) && ltb new 2) ≡ true → r ≡ 15 → ImageMoved xs to r to
        refused-held h q =
            answers-refused (q ∙ sym (number-kept kept ∙ ap (λ (b : Bool). cond b 15 0) (sym (slot-as e p) ∙ h)))
            (λ z. absurd (omega (arith, q, z)))

        pub moved : AllBytes xs → (not (eqb t.kind 0) && ltb new 2) ≡ false → {ys : List ℕ} → ys ≡ moved_bytes new (length to) xs
            → ImageMoved xs to 0 ys
        moved g h q =
            answers-done (number-kept kept ∙ ap (λ (b : Bool). cond b 15 0) (sym (slot-as e p) ∙ h))
            (q ∙ ap (λ (n : ℕ). moved_bytes n (length to) xs) p ∙ moved-bytes xs to a b g)
