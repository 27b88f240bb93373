-- The look at an address, by the tests that led there; and its bytes, as the fields that they name.
-- Assumes nothing.
use Rattle.std.specs.Prelude.{Result, Ok, Err, Option, Some, None}
use Prim.Native.Nat.{ℕ, ◌+◌, ◌*◌, ◌/◌, ◌%◌, ◌^◌, ◌≤◌, ◌<◌}
use mathlib.Core.Path.{◌≡◌, refl, sym, ap, subst, ◌∙◌}
use mathlib.Core.Bool.{Bool, true, false, cond, ◌&&◌, true≢false}
use mathlib.Core.List.{List, [], ◌∷◌}
use native.Mathlib.Nat.{add-zero}
use native.Mathlib.Omega.{arith}
use lib.Dec.{eqb, leb}
use lib.ListN.{length, drop, length-drop}
use lib.Seq.{length-take-le}
use borrow.Author.Rules.{rules}
use borrow.Author.Tests.{eqb-true, leb-true, le-leb, lt-leb}
use Rattle.words.specs.declared.Order.TheVariants.{LeastFirst}
use Rattle.words.specs.Numbers.{join, bytes, Fit}
use Rattle.words.specs.Orders.{in_order, number_of}
use Rattle.words.specs.Slices.{part, number_at, AllBytes}
use Rattle.words.proofs.Recode.{join-lt}
use Rattle.words.proofs.Bytes.{bytes_fit, take-bytes, drop-bytes, order-bytes}
use Rattle.words.proofs.Orders.{length-order, row-bytes, row_back, row-there, number-bytes}
use Rattle.words.proofs.Slices.{row_from, number-in-part}
use Rattle.bus.specs.declared.Window.{Window}
use Rattle.bus.specs.declared.Place.{Place}
use Rattle.descriptor.specs.declared.Miss.{Miss}
use Rattle.descriptor.specs.declared.Miss.TheVariants as miss
use Rattle.bus.specs.Window.{in_window, place_of, located_of}
use Rattle.bus.proofs.Limits.{located-is}
use Rattle.descriptor.specs.declared.Descriptor.{Descriptor}
use Rattle.descriptor.specs.declared.Raw.{Raw}
use Rattle.descriptor.specs.Layout.{descriptor_of, descriptor_at}
use Rattle.descriptor.specs.Looking.{placed, spot_of, four_words, raw_from, raw_of, raw_words, raw_bytes, is_zero, WordsFit, named_in, raw_at, look_in, look_at}

-- ---- where its bytes stand

module _ (w : Window) (a : ℕ) where
  pub spot-misaligned : eqb (a % 4) 0 ≡ false → spot_of w a ≡ (Err miss.Misaligned)
  unfolding spot_of
  spot-misaligned h = rw h

  pub spot-aligned : eqb (a % 4) 0 ≡ true → {l : Option Place} → located_of w a 32 ≡ l → spot_of w a ≡ placed l
  unfolding spot_of
  spot-aligned h e = rw (h, e)

  placed-is : (p : Place) (l : Option Place) → located_of w a 32 ≡ l → placed l ≡ Ok p → located_of w a 32 ≡ Some p
  placed-is p (Some q) e f = let same : Some q ≡ Some p = cc in e ∙ same
  placed-is p None e f = absurd (let z : ◌≡◌ {A = ℕ} 0 1 = cc in omega arith)

  aligned-is : (p : Place) (t : Bool) → cond t (placed (located_of w a 32)) (Err miss.Misaligned) ≡ Ok p → located_of w a 32 ≡ Some p
  aligned-is p true e = placed-is p (located_of w a 32) refl e
  aligned-is p false e = absurd (let z : ◌≡◌ {A = ℕ} 0 1 = cc in omega arith)

  -- a spot that was found is the address less the base, and its 32 bytes stand within the window
  pub spot_is : (p : Place) → spot_of w a ≡ Ok p → (p.0 ≡ place_of w a) × (p.0 + 32 ≤ w.length)
  unfolding spot_of
  spot_is p e = located-is w a 32 p (aligned-is p (eqb (a % 4) 0) e)

-- ---- the look, with what it tells of the address

-- the spot by its two tests
abbrev spot_by : Window → (a : ℕ) (aligned inside : Bool) → Result Place Miss
spot_by w a aligned inside = cond aligned (placed (cond inside (Some (record { 0 = place_of w a })) None)) (Err miss.Misaligned)

pub data Looked (w : Window) (xs : List ℕ) (a : ℕ) : Result Raw Miss → Type 0 where
  misaligned : eqb (a % 4) 0 ≡ false → Looked w xs a (Err miss.Misaligned)
  outside : eqb (a % 4) 0 ≡ true → in_window w a 32 ≡ false → Looked w xs a (Err miss.Outside)
  there : eqb (a % 4) 0 ≡ true → in_window w a 32 ≡ true → Looked w xs a (Ok (raw_at xs (place_of w a)))

pub looked : (w : Window) (xs : List ℕ) (a : ℕ) → Looked w xs a (look_at w xs a)
unfolding look_at spot_of located_of
looked w xs a = by (eqb (a % 4) 0) refl (in_window w a 32) refl
  where
    by : (t : Bool) → eqb (a % 4) 0 ≡ t → (i : Bool) → in_window w a 32 ≡ i
        → Looked w xs a (look_in xs (spot_by w a t i))
    by true e true f = there e f
    by true e false f = outside e f
    by false e i f = misaligned e

pub look-there : (w : Window) (xs : List ℕ) (a : ℕ) → eqb (a % 4) 0 ≡ true → in_window w a 32 ≡ true
    → look_at w xs a ≡ Ok (raw_at xs (place_of w a))
unfolding look_at spot_of located_of
look-there w xs a e f = rw (e, f)

-- two looks at one address, over other bytes
pub looks-alike : (w : Window) (a : ℕ) (xs ys : List ℕ) (P : Result Raw Miss → Result Raw Miss → Type 0) → P (Err miss.Misaligned) (Err miss.Misaligned) → P (Err miss.Outside) (Err miss.Outside)
    → P (Ok (raw_at xs (place_of w a))) (Ok (raw_at ys (place_of w a))) → P (look_at w xs a) (look_at w ys a)
unfolding look_at spot_of located_of
looks-alike w a xs ys P m o t = by (eqb (a % 4) 0) (in_window w a 32)
  where
    by : (aligned inside : Bool) → P (look_in xs (spot_by w a aligned inside)) (look_in ys (spot_by w a aligned inside))
    by true true = t
    by true false = o
    by false inside = m

pub look-by : (w : Window) (xs : List ℕ) (a : ℕ) {s : Result Place Miss} → spot_of w a ≡ s → look_at w xs a ≡ look_in xs s
unfolding look_at
look-by w xs a e = ap (look_in xs) e

-- ---- the bytes

-- 32 bytes come back from their four words
pub raw-back : (ys : List ℕ) → length ys ≡ 32 → AllBytes ys → raw_bytes (raw_of ys) ≡ ys
raw-back ys l g = row-there LeastFirst four_words ys l g

-- and four words from their bytes
pub raw-there : (r : Raw) → WordsFit r → raw_of (raw_bytes r) ≡ r
raw-there r f =
    ap raw_from (row_back LeastFirst four_words (raw_words r) (f.f0, (f.f1, (f.f2, (f.f3, tt)))))

-- each of them is a byte
pub raw-bytes : (r : Raw) → AllBytes (raw_bytes r)
raw-bytes r = row-bytes LeastFirst four_words (raw_words r)

-- the four words of 32 bytes fit
pub words-fit : (ys : List ℕ) → length ys ≡ 32 → AllBytes ys → WordsFit (raw_of ys)
words-fit ys l g =
    subst WordsFit (sym (ap raw_from (row_from LeastFirst 0 four_words ys)))
    (record {
      f0 = word 0 (omega arith);
      f1 = word 8 (omega arith);
      f2 = word 16 (omega arith);
      f3 = word 24 (omega arith);
    })
  where
    word : (k : ℕ) → k + 8 ≤ 32 → number_of LeastFirst (part ys k 8) < 2 ^ 64
    word k h =
        let zs = part ys k 8 in
        let m : length zs ≡ 8 = length-take-le 8 (drop k ys) (simp length-drop (omega arith)) in
        let fit = bytes_fit (in_order LeastFirst zs) (order-bytes LeastFirst zs (take-bytes 8 (drop k ys) (drop-bytes k ys g))) in
        let n : length (in_order LeastFirst zs) ≡ 8 = length-order LeastFirst zs ∙ m in
        subst (λ (i : ℕ). join (bytes i) (in_order LeastFirst zs) < 2 ^ 64) (sym m)
        (join-lt (bytes 8) (in_order LeastFirst zs) (subst (λ (i : ℕ). Fit (bytes i) (in_order LeastFirst zs)) n fit))

pub no-words-fit : WordsFit (raw_of [])
no-words-fit = search rules

-- a number that is zero beside other tests
and_zero : (b : Bool) (n : ℕ) → (b && eqb n 0) ≡ true → (b ≡ true) × (n ≡ 0)
and_zero true n e = (refl, eqb-true n 0 e)
and_zero false n e = absurd (true≢false (sym e))

no_words : {a b c d : ℕ} → a ≡ 0 → b ≡ 0 → c ≡ 0 → d ≡ 0 → ◌≡◌ {A = Raw} (record { q0 = a; q1 = b; q2 = c; q3 = d }) (raw_of [])
no_words p0 p1 p2 p3 = rw (p0, p1, p2, p3)

-- bytes that are all zero are those of nothing
pub zero_is : (r : Raw) → is_zero r ≡ true → r ≡ raw_of []
unfolding is_zero
zero_is r e =
    let z3 = and_zero _ r.q3 e in
    let z2 = and_zero _ r.q2 z3.0 in
    let z1 = and_zero _ r.q1 z2.0 in
    no_words (eqb-true r.q0 0 z1.0) z1.1 z2.1 z3.1

pub zero-none : is_zero (raw_of []) ≡ true
unfolding is_zero
zero-none = refl

module _ (xs : List ℕ) (at : ℕ) where
  pub raw-in : at + 32 ≤ length xs → raw_at xs at ≡ raw_of (part xs at 32)
  unfolding raw_at
  raw-in h = rw (le-leb (at + 32) (length xs) h)

  pub raw-out : length xs < at + 32 → raw_at xs at ≡ raw_of []
  unfolding raw_at
  raw-out h = rw (lt-leb (at + 32) (length xs) h)

  -- the words of bytes fit
  pub raw-fits : AllBytes xs → WordsFit (raw_at xs at)
  unfolding raw_at
  raw-fits g = by (leb (at + 32) (length xs)) refl
    where
      by : (t : Bool) → leb (at + 32) (length xs) ≡ t → WordsFit (cond t (raw_of (part xs at 32)) (raw_of []))
      by true e =
          let h : at + 32 ≤ length xs = leb-true _ _ e in
          words-fit (part xs at 32) (length-take-le 32 (drop at xs) (simp length-drop (omega arith)))
          (take-bytes 32 (drop at xs) (drop-bytes at xs g))
      by false e = no-words-fit

  -- the fields that they name are those of the descriptor there
  pub named-at : AllBytes (part xs at 32) → named_in (raw_at xs at) ≡ descriptor_at xs at
  unfolding named_in raw_at descriptor_at
  named-at g = by (leb (at + 32) (length xs)) refl
    where
      by : (t : Bool) → leb (at + 32) (length xs) ≡ t
          → descriptor_of (raw_bytes (cond t (raw_of (part xs at 32)) (raw_of []))) ≡ cond t (descriptor_of (part xs at 32)) (descriptor_of [])
      by true e =
          let h : at + 32 ≤ length xs = leb-true _ _ e in
          ap descriptor_of (raw-back (part xs at 32) (length-take-le 32 (drop at xs) (simp length-drop (omega arith))) g)
      by false e = refl

  -- what was read word by word is the bytes there
  pub read-words : at + 32 ≤ length xs → (q0 q1 q2 q3 : ℕ)
      → q0 ≡ number_at LeastFirst 8 xs at → q1 ≡ number_at LeastFirst 8 xs (at + 8)
      → q2 ≡ number_at LeastFirst 8 xs (at + 16) → q3 ≡ number_at LeastFirst 8 xs (at + 24)
      → record { q0 = q0; q1 = q1; q2 = q2; q3 = q3 } ≡ raw_of (part xs at 32)
  read-words h q0 q1 q2 q3 e0 e1 e2 e3 =
      let s0 : q0 ≡ number_of LeastFirst (part (part xs at 32) 0 8) =
      e0 ∙ ap (number_at LeastFirst 8 xs) (sym (add-zero at)) ∙ number-in-part LeastFirst xs at 32 0 8 h (omega arith) in
      let s1 = e1 ∙ number-in-part LeastFirst xs at 32 8 8 h (omega arith) in
      let s2 = e2 ∙ number-in-part LeastFirst xs at 32 16 8 h (omega arith) in
      let s3 = e3 ∙ number-in-part LeastFirst xs at 32 24 8 h (omega arith) in
      sym (ap raw_from (row_from LeastFirst 0 four_words (part xs at 32)) ∙ rw (s0, s1, s2, s3))

-- two bytes of a word, at its start and behind its low half
two-first : (v : ℕ) → number_of LeastFirst (v / 2 ^ 0 % 256 ∷ v / 2 ^ 8 % 256 ∷ []) ≡ v % 0x1_0000
two-first v = omega arith

two-behind : (v : ℕ) → number_of LeastFirst (v / 2 ^ 32 % 256 ∷ v / 2 ^ 40 % 256 ∷ []) ≡ v / 0x1_0000_0000 % 0x1_0000
two-behind v = omega arith

byte : (n v : ℕ) → number_of LeastFirst (v / 2 ^ (8 * n) % 256 ∷ []) ≡ v / 2 ^ (8 * n) % 256
byte n v = omega arith

same : {s d n l a t c s' d' n' l' a' t' c' : ℕ} → s ≡ s' → d ≡ d' → n ≡ n' → l ≡ l' → a ≡ a' → t ≡ t' → c ≡ c'
    → ◌≡◌ {A = Descriptor}
    (record { source = s; destination = d; next = n; length = l; actual = a; status = t; control = record { 0 = c } })
    (record { source = s'; destination = d'; next = n'; length = l'; actual = a'; status = t'; control = record { 0 = c' } })
same e0 e1 e2 e3 e4 e5 e6 = cc

-- each field out of its word
pub named-words : (r : Raw) → named_in r
    ≡ record {
      source = r.q0 % 0x1_0000_0000;
      destination = r.q1 % 0x1_0000_0000;
      next = r.q2 % 0x1_0000_0000;
      length = r.q3 % 0x1_0000;
      actual = r.q3 / 0x1_0000_0000 % 0x1_0000;
      status = r.q3 / 0x1_0000_0000_0000 % 0x100;
      control = record { 0 = r.q3 / 0x100_0000_0000_0000 % 0x100 };
    }
unfolding named_in
named-words r =
    same (number-bytes LeastFirst 4 r.q0) (number-bytes LeastFirst 4 r.q1) (number-bytes LeastFirst 4 r.q2)
    (two-first r.q3) (two-behind r.q3) (byte 6 r.q3) (byte 7 r.q3)
