-- The slot's bytes as the one number that stands in the table, and back.
-- Assumes nothing.
use Prim.Native.Nat.{ℕ, ◌*◌, ◌%◌, ◌^◌, ◌<◌}
use mathlib.Core.Path.{◌≡◌, sym, ap, ◌∙◌}
use mathlib.Core.List.{List, [], ◌∷◌}
use native.Mathlib.Nat.{mod-lt, mod-eq_of_lt, mul-one, add-zero}
use lib.ListN.{length}
use lib.Pow.{pow_pos}
use Rattle.words.specs.declared.Order.TheVariants.{MostFirst}
use Rattle.words.specs.Numbers.{total, join, split, recode, bytes}
use Rattle.words.specs.Orders.{bytes_of, number_of}
use Rattle.words.specs.Slices.{AllBytes}
use Rattle.words.proofs.Bytes.{bytes_fit}
use Rattle.words.proofs.Recode.{join-lt}
use Rattle.words.proofs.Orders.{split-bytes, length-bytes, number-bytes, bytes-number}
use Rattle.descriptor.specs.declared.Raw.{Raw}
use Rattle.descriptor.specs.Looking.{raw_of, raw_bytes, WordsFit}
use Rattle.descriptor.proofs.Looks.{raw-back, raw-there, raw-bytes, words-fit}
use Rattle.image.specs.Slot.{slot_number, slot_raw}

pub slot_lt : (r : Raw) → slot_number r < 2 ^ 256
unfolding slot_number
slot_lt r = join-lt (bytes 32) (raw_bytes r) (bytes_fit (raw_bytes r) (raw-bytes r))

-- the bytes come back from their number
pub slot-back : (r : Raw) → WordsFit r → slot_raw (slot_number r) ≡ r
unfolding slot_number slot_raw
slot-back r f = ap raw_of (bytes-number MostFirst (raw_bytes r) (raw-bytes r)) ∙ raw-there r f

-- and a number from its bytes
pub slot-there : (n : ℕ) → n < 2 ^ 256 → slot_number (slot_raw n) ≡ n
unfolding slot_number slot_raw
slot-there n h =
    ap (number_of MostFirst) (raw-back (bytes_of MostFirst 32 n) (length-bytes MostFirst 32 n) (split-bytes 32 n))
    ∙ number-bytes MostFirst 32 n ∙ mod-eq_of_lt h

pub slot-bits : (n : ℕ) → slot_number (slot_raw (n % 2 ^ 256)) ≡ n % 2 ^ 256
slot-bits n = slot-there (n % 2 ^ 256) (mod-lt n (pow_pos 256))

pub slot-words : (n : ℕ) → WordsFit (slot_raw n)
unfolding slot_raw
slot-words n = words-fit (bytes_of MostFirst 32 n) (length-bytes MostFirst 32 n) (split-bytes 32 n)

-- 32 bytes, read as the number that stands in the table
pub slot_of : (ys : List ℕ) → length ys ≡ 32 → AllBytes ys → slot_raw (join (bytes 32) ys) ≡ raw_of ys
unfolding slot_raw
slot_of ys l g =
    ap raw_of
    (ap (λ (n : ℕ). split (bytes n) (join (bytes n) ys)) (sym l) ∙ bytes-number MostFirst ys g)

-- ---- as the code writes them

-- one number over bytes of its width
pub alone : (n v : ℕ) → recode (total (bytes n) ∷ []) (bytes n) (v ∷ []) ≡ split (bytes n) v
alone n v = ap (split (bytes n)) (add-zero (v * 1) ∙ mul-one v)

pub raw-alone : (r : Raw) → recode (256 ∷ []) (bytes 32) (slot_number r ∷ []) ≡ raw_bytes r
unfolding slot_number
raw-alone r = alone 32 (slot_number r) ∙ bytes-number MostFirst (raw_bytes r) (raw-bytes r)
