-- A number of eight bytes is two of four: the bytes of its low half, and then those of its high half.
-- Assumes nothing.
use Prim.Native.Nat.{ℕ, ◌+◌, ◌*◌, ◌/◌, ◌%◌, ◌^◌, ◌≤◌}
use mathlib.Core.Path.{◌≡◌, sym, ap, ◌∙◌}
use mathlib.Core.List.{List, [], ◌∷◌, ◌++◌, reverse, reverse-append}
use native.Mathlib.Nat.{add_comm, mod-lt, div-add-mod'}
use native.Mathlib.Omega.{arith}
use lib.ListN.{length, take, drop, length-append, length-drop, length-reverse, length-replicate, replicate-append-replicate}
use lib.Pow.{pow_pos}
use lib.Seq.{take-add, drop-drop, length-take-le}
use Rattle.words.specs.declared.Order.TheVariants.{LeastFirst}
use Rattle.words.specs.Numbers.{total, join, split, bytes}
use Rattle.words.specs.Orders.{bytes_of, number_of, word_bytes}
use Rattle.words.specs.Slices.{part, number_at}
use Rattle.words.proofs.Recode.{join-append, split-append}
use Rattle.words.proofs.Slices.{number_in}
use Rattle.descriptor.specs.declared.Raw.{Raw}
use Rattle.descriptor.specs.Looking.{raw_bytes}

-- ---- as they are read

-- bytes that stand behind others count above them
number_append : (ys zs : List ℕ) → number_of LeastFirst (ys ++ zs) ≡ number_of LeastFirst zs * 2 ^ total (bytes (length ys)) + number_of LeastFirst ys
number_append ys zs =
    ap (join (bytes (length (ys ++ zs)))) (reverse-append ys zs)
    ∙ ap (λ (ws : List ℕ). join ws (reverse zs ++ reverse ys))
    (ap bytes (length-append ys zs ∙ add_comm (length ys) (length zs)) ∙ sym (replicate-append-replicate (length zs) (length ys) 8))
    ∙ join-append (bytes (length zs)) (bytes (length ys)) (reverse zs) (reverse ys) (length-reverse zs ∙ sym (length-replicate (length zs) 8))

pub number-halves : (xs : List ℕ) (at : ℕ) → at + 8 ≤ length xs
    → number_at LeastFirst 8 xs at ≡ number_at LeastFirst 4 xs at + number_at LeastFirst 4 xs (at + 4) * 0x1_0000_0000
number-halves xs at h =
    let low = part xs at 4 in
    let high = part xs (at + 4) 4 in
    let both : part xs at 8 ≡ low ++ high = take-add 4 4 (drop at xs) ∙ ap (λ (zs : List ℕ). low ++ take 4 zs) (drop-drop 4 at xs) in
    let four : length low ≡ 4 = length-take-le 4 (drop at xs) (simp length-drop (omega arith)) in
    number_in xs at LeastFirst 8 h ∙ ap (number_of LeastFirst) both ∙ number_append low high
    ∙ ap (λ (n : ℕ). number_of LeastFirst high * 2 ^ total (bytes n) + number_of LeastFirst low) four
    ∙ rw (number_in xs at LeastFirst 4 (omega arith), number_in xs (at + 4) LeastFirst 4 (omega arith)) (add_comm _ _)

-- ---- as they are written

bytes_halves : (v : ℕ) → bytes_of LeastFirst 4 (v % 0x1_0000_0000) ++ bytes_of LeastFirst 4 (v / 0x1_0000_0000) ≡ bytes_of LeastFirst 8 v
bytes_halves v =
    ap reverse
    (sym (split-append (bytes 4) (bytes 4) (v / 0x1_0000_0000) (v % 0x1_0000_0000) (mod-lt v (pow_pos 32)))
    ∙ ap (split (bytes 8)) (div-add-mod' v 0x1_0000_0000))

rows : {a b c d a' b' c' d' : List ℕ} → a ≡ a' → b ≡ b' → c ≡ c' → d ≡ d' → a ++ (b ++ (c ++ (d ++ []))) ≡ a' ++ (b' ++ (c' ++ (d' ++ [])))
rows e f g h = rw (e, f, g, h)

-- the bytes of a descriptor are those of the halves of its words
pub raw-halves : (r : Raw)
    → word_bytes LeastFirst
    (r.q0 % 0x1_0000_0000 ∷ r.q0 / 0x1_0000_0000 ∷ r.q1 % 0x1_0000_0000 ∷ r.q1 / 0x1_0000_0000 ∷ r.q2 % 0x1_0000_0000 ∷ r.q2 / 0x1_0000_0000 ∷ r.q3 % 0x1_0000_0000 ∷ r.q3 / 0x1_0000_0000 ∷ [])
    ≡ raw_bytes r
raw-halves r = rows (bytes_halves r.q0) (bytes_halves r.q1) (bytes_halves r.q2) (bytes_halves r.q3)
