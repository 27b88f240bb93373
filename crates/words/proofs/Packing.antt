-- What the packer holds once fields were put into it, and its bytes: those of the fields side by side.
-- Assumes nothing.
use Prim.Native.Nat.{ℕ, zero, suc, ◌+◌, ◌*◌, ◌-◌, ◌/◌, ◌%◌, ◌^◌, ◌≤◌, ◌<◌}
use mathlib.Core.Path.{◌≡◌, refl, sym, ap, subst, ◌∙◌}
use mathlib.Core.Bool.{Bool, true, false}
use mathlib.Core.List.{List, [], ◌∷◌, ◌++◌}
use native.Mathlib.Nat.{div-one, zero-add, add-zero, mul-one, zero-mul, add_assoc, add-mul, mul_assoc, suc-mul, mul-le-mul_right, mod-lt, mod-eq_of_lt}
use native.Mathlib.Numerals.{add-one}
use native.Mathlib.Omega.{arith}
use lib.ListN.{length, take, drop, set, length-set, length-replicate, replicate-append-replicate}
use lib.Seq.{take_all, length-take-le, take-suc-set}
use lib.Pow.{pow_pos, pow_mono, pow-add, shr_lt, shr_mod}
use lib.Pow as pow
use lib.Dec.{ltb}
use borrow.Author.Tests.{le-leb, lt-leb, lt-ltb, le-ltb, ltb-true, ltb-false, eq-eqb}
use Rattle.std.specs.Int.{w32, to_be_bytes, from_bool}
use Rattle.words.specs.Bits.{flag}
use Rattle.words.specs.Promise.{Gives}
use Rattle.words.specs.declared.Order.TheVariants.{MostFirst}
use Rattle.words.specs.declared.packer.Packer.{Packer}
use Rattle.words.specs.Numbers.{total, join, split, bytes, Fit}
use Rattle.words.specs.Orders.{word_bytes}
use Rattle.words.specs.Slices.{put_at}
use Rattle.words.specs.Packed.{no_fields, field_put, packed_bytes, packed_over, fields_put, Narrow}
use Rattle.words.specs.Theorems.{FieldsPacked}
use Rattle.words.proofs.Orders.{length-split, length-words, words_append}
use Rattle.words.proofs.Recode.{split-append}
use Rattle.words.proofs.Slices.{filled}

-- a flag as std takes it for a number
as_flag : (b : Bool) → from_bool b ≡ flag b
as_flag true = refl
as_flag false = refl

-- ---- the bytes of a number, one by one

pub total-bytes : (n : ℕ) → total (bytes n) ≡ 8 * n
total-bytes zero = refl
total-bytes (suc n) = let more = total-bytes n in omega arith

pub many : (n v : ℕ) → length (split (bytes n) v) ≡ n
many n v = length-split (bytes n) v ∙ length-replicate n 8

low-bytes : (n k m v : ℕ) → m ≡ n + k → drop n (split (bytes m) v) ≡ split (bytes k) v
low-bytes zero k m v e = let same : m ≡ k = omega arith in ap (λ (j : ℕ). split (bytes j) v) same
low-bytes (suc n) k (suc m) v e = low-bytes n k m v (omega arith)
low-bytes (suc n) k zero v e = absurd (omega arith)

-- the last of a word's bytes, as std gives them
pub last-bytes : (k v : ℕ) {bs : List ℕ} → k ≤ 4 → bs ≡ to_be_bytes w32 v → take (4 - (4 - k)) (drop (4 - k) bs) ≡ split (bytes k) v
last-bytes k v h e =
    let all : to_be_bytes w32 v ≡ split (bytes 4) v = simp div-one in
    rw (e, all, low-bytes (4 - k) k 4 v (omega arith)) (take_all (4 - (4 - k)) (split (bytes k) v) (omega (arith, many k v)))

-- ---- what is written

-- whole words and then the bytes of the rest, over a slice of their size
pub written : (p : Packer) (xs : List ℕ) {ys zs : List ℕ} → p.whole ≤ length p.words → length xs ≡ 4 * p.whole + p.count % 32 / 8
    → ys ≡ put_at xs 0 (word_bytes MostFirst (take p.whole p.words)) → zs ≡ put_at ys (4 * p.whole) (split (bytes (p.count % 32 / 8)) p.rest)
    → zs ≡ packed_bytes p
written p xs h l e f =
    let front = word_bytes MostFirst (take p.whole p.words) in
    let back = split (bytes (p.count % 32 / 8)) p.rest in
    let m : length front ≡ 4 * p.whole =
    length-words MostFirst (take p.whole p.words) ∙ ap (λ (n : ℕ). 4 * n) (length-take-le p.whole p.words h) in
    let n : length back ≡ p.count % 32 / 8 = many (p.count % 32 / 8) p.rest in
    f ∙ ap (λ (us : List ℕ). put_at us (4 * p.whole) back) e ∙ filled xs front back (4 * p.whole) m (omega arith)

-- ---- what a packer holds: a number of so many bits, those of its whole words and then those of the rest

record Holds (number size : ℕ) (p : Packer) : Type 0 where
  high : ℕ
  few : p.count < 32
  low : p.rest < 2 ^ p.count
  same : number ≡ high * 2 ^ p.count + p.rest
  bits : size ≡ 32 * p.whole + p.count
  words : word_bytes MostFirst (take p.whole p.words) ≡ split (bytes (4 * p.whole)) high
  room : length p.words ≡ 24

none-holds : Holds 0 0 no_fields
none-holds = record { high = 0; few = omega arith; low = omega arith; same = refl; bits = refl; words = refl; room = refl }

-- the rest with a field behind it
rest_lt : (r c v w : ℕ) → r < 2 ^ c → v < 2 ^ w → r * 2 ^ w + v < 2 ^ (c + w)
rest_lt r c v w h i = rw (pow-add 2 c w) (omega (arith, simp suc-mul at (mul-le-mul_right (2 ^ w) h)))

-- the number with a field behind it
moved_up : (high r c v w : ℕ) → (high * 2 ^ c + r) * 2 ^ w + v ≡ high * 2 ^ (c + w) + (r * 2 ^ w + v)
moved_up high r c v w = simp (add-mul, pow-add 2 c w, mul_assoc, add_assoc)

-- a word and the bits behind it
word-off : (high all b : ℕ) → high * 2 ^ (32 + b) + all ≡ (high * 2 ^ 32 + all / 2 ^ b) * 2 ^ b + all % 2 ^ b
word-off high all b = sym (simp (add-mul, pow-add 2 32 b, mul_assoc, add_assoc) (ap (λ (n : ℕ). high * (2 ^ 32 * 2 ^ b) + n) (pow.split all b)))

one_more : (ws : List ℕ) (k word high : ℕ) → k < length ws → word < 2 ^ 32
    → word_bytes MostFirst (take k ws) ≡ split (bytes (4 * k)) high
    → word_bytes MostFirst (take (k + 1) (set ws k word)) ≡ split (bytes (4 * (k + 1))) (high * 2 ^ 32 + word)
one_more ws k word high h l e =
    let more : 4 * k + 4 ≡ 4 * (k + 1) = omega arith in
    ap (word_bytes MostFirst) (ap (λ (n : ℕ). take n (set ws k word)) (add-one k) ∙ take-suc-set ws k word h)
    ∙ words_append MostFirst (take k ws) (word ∷ [])
    ∙ ap (λ (zs : List ℕ). zs ++ split (bytes 4) word) e
    ∙ sym (split-append (bytes (4 * k)) (bytes 4) high word l)
    ∙ ap (λ (bs : List ℕ). split bs (high * 2 ^ 32 + word)) (replicate-append-replicate (4 * k) 4 8 ∙ ap bytes more)

-- ---- a field more

module _ {n s w v : ℕ} (p : Packer) (h : Holds n s p) (narrow : w ≤ 32) (fits : v < 2 ^ w) where
  abbrev all : ℕ
  all = p.rest * 2 ^ w + v

  all-lt : all < 2 ^ (p.count + w)
  all-lt = rest_lt p.rest p.count v w h.low fits

  all_same : n * 2 ^ w + v ≡ h.high * 2 ^ (p.count + w) + all
  all_same = ap (λ (m : ℕ). m * 2 ^ w + v) h.same ∙ moved_up h.high p.rest p.count v w

  -- it fills no word yet
  abbrev longer : Packer
  longer = record { words = p.words; whole = p.whole; rest = all; count = p.count + w }

  is-longer : p.count + w < 32 → field_put w v p ≡ longer
  unfolding field_put
  is-longer few =
      let small : 2 ^ (p.count + w) ≤ 2 ^ 32 = pow_mono {i = p.count + w} {j = 32} (omega arith) in
      rw (le-leb w 32 narrow, mod-eq_of_lt h.few, lt-ltb (p.count + w) 32 few, mod-eq_of_lt {n = all} {m = 2 ^ 32} (omega (arith, all-lt)))

  longer-holds : p.count + w < 32 → Holds (n * 2 ^ w + v) (s + w) longer
  longer-holds few =
      record {
        high = h.high;
        few = few;
        low = all-lt;
        same = all_same;
        bits = let b = h.bits in omega arith;
        words = h.words;
        room = h.room;
      }

  -- it fills one
  module _ (b : ℕ) (full : p.count + w ≡ 32 + b) where
    abbrev fuller : Packer
    fuller = record { words = set p.words p.whole (all / 2 ^ b); whole = p.whole + 1; rest = all % 2 ^ b; count = b }

    all-lt-full : all < 2 ^ (32 + b)
    all-lt-full = subst (λ (k : ℕ). all < 2 ^ k) full all-lt

    is-fuller : p.whole < 24 → field_put w v p ≡ fuller
    unfolding field_put
    is-fuller room =
        let rest : 32 + b - 32 ≡ b = omega arith in
        rw (le-leb w 32 narrow, mod-eq_of_lt h.few, full, le-ltb (32 + b) 32 (omega arith), lt-leb 24 p.whole room, rest, shr_mod 32 b all-lt-full)

    fuller-holds : p.whole < 24 → Holds (n * 2 ^ w + v) (s + w) fuller
    fuller-holds room =
        let l = h.room in
        record {
          high = h.high * 2 ^ 32 + all / 2 ^ b;
          few = let few = h.few in omega arith;
          low = mod-lt all (pow_pos b);
          same = all_same ∙ ap (λ (k : ℕ). h.high * 2 ^ k + all) full ∙ word-off h.high all b;
          bits = let t = h.bits in omega arith;
          words = one_more p.words p.whole (all / 2 ^ b) h.high (omega arith) (shr_lt 32 b all-lt-full) h.words;
          room = simp length-set l;
        }

  field-holds : s + w ≤ 768 → Holds (n * 2 ^ w + v) (s + w) (field_put w v p)
  field-holds room = by (ltb (p.count + w) 32) refl
    where
      by : (t : Bool) → ltb (p.count + w) 32 ≡ t → Holds (n * 2 ^ w + v) (s + w) (field_put w v p)
      by true e = let few = ltb-true _ _ e in subst (λ (q : Packer). Holds (n * 2 ^ w + v) (s + w) q) (sym (is-longer few)) (longer-holds few)
      by false e =
          let many : 32 ≤ p.count + w = ltb-false _ _ e in
          let full : p.count + w ≡ 32 + (p.count + w - 32) = omega arith in
          let less : p.whole < 24 = let t = h.bits in omega arith in
          subst (λ (q : Packer). Holds (n * 2 ^ w + v) (s + w) q) (sym (is-fuller (p.count + w - 32) full less)) (fuller-holds (p.count + w - 32) full less)

-- ---- a layout

fields-hold : (ws vs : List ℕ) {n s : ℕ} (p : Packer) → Fit ws vs → Narrow ws → s + total ws ≤ 768 → Holds n s p
    → Holds (n * 2 ^ total ws + join ws vs) (s + total ws) (fields_put ws vs p)
fields-hold [] [] {n} {s} p f m room h =
    subst (λ (k : ℕ). Holds k (s + 0) p) (sym (add-zero (n * 1) ∙ mul-one n)) (subst (λ (k : ℕ). Holds n k p) (sym (add-zero s)) h)
fields-hold (w ∷ ws) (v ∷ vs) {n} {s} p f m room h =
    let rest = fields-hold ws vs (field_put w v p) f.1 m.1 (omega arith) (field-holds p h m.0 f.0 (omega arith)) in
    let number : (n * 2 ^ w + v) * 2 ^ total ws + join ws vs ≡ n * 2 ^ (w + total ws) + (v * 2 ^ total ws + join ws vs) =
    moved_up n v w (join ws vs) (total ws) in
    subst (λ (k : ℕ). Holds k (s + (w + total ws)) (fields_put ws vs (field_put w v p))) number
    (subst (λ (k : ℕ). Holds ((n * 2 ^ w + v) * 2 ^ total ws + join ws vs) k (fields_put ws vs (field_put w v p))) (add_assoc s w (total ws)) rest)
fields-hold [] (v ∷ vs) {n = n} {s = s} p f m room h = elim f [ ]
fields-hold (w ∷ ws) [] {n = n} {s = s} p f m room h = elim f [ ]

-- the bytes of what a packer holds
held_bytes : {n s : ℕ} (k : ℕ) (p : Packer) → s ≡ 8 * k → Holds n s p → packed_bytes p ≡ split (bytes k) n
held_bytes {n} k p e h =
    let few = h.few in
    let t = h.bits in
    let left : ℕ = p.count / 8 in
    let whole : 8 * left ≡ p.count = omega arith in
    let all : 4 * p.whole + left ≡ k = omega arith in
    let width : total (bytes left) ≡ p.count = total-bytes left ∙ whole in
    rw (mod-eq_of_lt few, h.words)
    (sym (split-append (bytes (4 * p.whole)) (bytes left) h.high p.rest (rw width h.low))
    ∙ ap (λ (c : ℕ). split (bytes (4 * p.whole) ++ bytes left) (h.high * 2 ^ c + p.rest)) width
    ∙ ap (split (bytes (4 * p.whole) ++ bytes left)) (sym h.same)
    ∙ ap (λ (bs : List ℕ). split bs n) (replicate-append-replicate (4 * p.whole) left 8 ∙ ap bytes all))

pub fields-packed : FieldsPacked
unfolding packed_over
fields-packed ws vs xs f m e l =
    let p = fields_put ws vs no_fields in
    let number : 0 * 2 ^ total ws + join ws vs ≡ join ws vs = ap (λ (k : ℕ). k + join ws vs) (zero-mul (2 ^ total ws)) ∙ zero-add (join ws vs) in
    let h : Holds (join ws vs) (total ws) p =
    subst (λ (k : ℕ). Holds k (total ws) p) number
    (subst (λ (k : ℕ). Holds (0 * 2 ^ total ws + join ws vs) k p) (zero-add (total ws)) (fields-hold ws vs no_fields f m (omega arith) none-holds)) in
    let few = h.few in
    let t = h.bits in
    let whole : p.whole ≤ 24 = omega arith in
    let size : length xs ≡ 4 * p.whole + p.count % 32 / 8 = omega arith in
    rw (le-leb p.whole 24 whole, eq-eqb (length xs) (4 * p.whole + p.count % 32 / 8) size) (held_bytes (length xs) p e h)

-- ---- as a layout is read down its lines

module _ (width : ℕ) {p q r : Packer} where
  -- a field more, behind those that were put: of what converts to a number, or of a flag
  pub more : (value : ℕ) → (number : ℕ) × (number ≡ value) × Gives (field_put width number p) r → p ≡ q → r ≡ field_put width value q
  more value put h = put.2.value ∙ ap (λ (n : ℕ). field_put width n p) put.1 ∙ ap (field_put width value) h

  pub more_flag : (on : Bool) → (number : ℕ) × (number ≡ from_bool on) × Gives (field_put width number p) r → p ≡ q → r ≡ field_put width (flag on) q
  more_flag on put = more (flag on) (put.0, put.1 ∙ as_flag on, put.2)
