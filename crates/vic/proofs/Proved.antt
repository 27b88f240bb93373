-- The theorems of specs/Theorems.
-- Assumes nothing.
use Prim.Native.Nat.{ℕ, ◌+◌, ◌/◌, ◌%◌, ◌^◌, ◌≤◌, ◌<◌}
use mathlib.Core.Path.{◌≡◌, refl, ap, ◌∙◌}
use mathlib.Core.Bool.{Bool, true, false}
use mathlib.Core.List.{List}
use native.Mathlib.Nat.{mod-lt}
use native.Mathlib.Omega.{arith}
use lib.Dec.{ltb}
use lib.ListN.{length}
use borrow.Author.Tests.{ltb-true, ltb-false}
use Rattle.words.specs.declared.Order.TheVariants.{MostFirst}
use Rattle.words.specs.Bits.{bit}
use Rattle.words.specs.Orders.{bytes_of, row_numbers}
use Rattle.words.proofs.Beside.{number-before, number-after, number-own}
use Rattle.words.proofs.Bits.{kept-bit}
use Rattle.words.proofs.Orders.{length-bytes, row_back}
use Rattle.vic.specs.Layout.{word, place, lines, software, enabled, config, set_of, mask_of, config_of, with_bit, bit_made, configured}
use Rattle.vic.specs.Choice.{level, chosen_port, chosen_level, handler, Asks}
use Rattle.vic.specs.Calls.{port_number, chosen, answer_widths, told}
use Rattle.vic.specs.Theorems.{ChosenIs, ChosenOne, NothingChosen, TooLargeExactly, ToldWhole, SameCommon, OnlyPort, ConfiguredOne, MarkedOne, Configures, Drives, Triggers, Enables}
use Rattle.vic.proofs.Marks.{bit-made, other-made}
use Rattle.vic.proofs.Choosing.{chosen_is, chosen-one, asks-chosen}
use Rattle.vic.proofs.Refusing.{loaded, ported, port_below, choose-large, large-chosen, choose-loaded, told-small, answer-told}
use Rattle.vic.proofs.Telling.{level-is, chosen_below}

-- ---- the choice

pub the-chosen : ChosenIs
the-chosen xs e = chosen_is xs (ltb-true 0 (chosen_level xs) e)

pub only-chosen : ChosenOne
only-chosen xs p q a b = chosen-one xs p q a b

pub nothing-chosen : NothingChosen
nothing-chosen xs =
    record {
      nothing = λ e p a. let some = asks-chosen xs p a in let none = ltb-false 0 (chosen_level xs) e in absurd (omega (arith, some, none));
      only = λ none. by none (chosen xs) refl;
    }
  where
    by : ((p : ℕ) → Asks xs p → ⊥) → (t : Bool) → chosen xs ≡ t → t ≡ false
    by none true e = absurd (none (chosen_port xs) (chosen_is xs (ltb-true 0 (chosen_level xs) e)).asks)
    by none false e = refl

pub too_large : TooLargeExactly
too_large xs ys l e =
    record {
      refused = λ c h. choose-large xs ys l e (ltb-true 0 (chosen_level xs) c) h;
      only = λ n. large-chosen xs ys l e n;
    }

pub told-whole : ToldWhole
told-whole xs ys n c =
    let sizes = choose-loaded xs ys n in
    let p = chosen_port xs in
    let some : 0 < chosen_level xs = ltb-true 0 (chosen_level xs) c in
    let below = chosen_below xs sizes.1 some in
    let port : p < 32 = below.0 in
    let high : chosen_level xs < 64 = below.1 in
    let same : level xs p ≡ chosen_level xs = level-is xs some in
    let address : handler xs p < 2 ^ 32 = told-small xs ys n c in
    let set : set_of (config xs p) < 64 = mod-lt (config xs p / 2 ^ 7) (omega arith) in
    let mask : mask_of (config xs p) < 2 = mod-lt (config xs p / 2 ^ 6) (omega arith) in
    ap (row_numbers MostFirst answer_widths) (answer-told xs some)
    ∙ row_back MostFirst answer_widths (told xs p)
    (omega arith, (omega (arith, port), (omega (arith, same, high), (omega (arith, set), (omega (arith, mask), (address, tt))))))

-- a configuration has 13 bits
config-below : (level set : ℕ) (nmi : Bool) → config_of level set nmi % 2 ^ 16 ≡ config_of level set nmi
config-below level set true = omega arith
config-below level set false = omega arith

-- ---- one port

same-common : (xs ys : List ℕ) → ((k : ℕ) → k ≤ 8 → word ys k ≡ word xs k) → SameCommon xs ys
same-common xs ys same =
    record {
      count = ap (λ (w : ℕ). w / 2 ^ 24) (same 0 (omega arith));
      blank = ap (λ (w : ℕ). w % 2 ^ 24) (same 0 (omega arith));
      each = same 4 (omega arith);
      start = same 8 (omega arith);
    }

module _ (xs : List ℕ) (p : ℕ) (e : port_number xs p ≡ 0) where
  sized : length xs ≡ 88
  sized = (loaded xs (ported xs p e).0).0

  below : p < 32
  below = port_below xs p e

  -- ---- a number of bits

  module _ (at : ℕ) (on : Bool) (h : 12 ≤ at) (i : at ≤ 20) where
    abbrev bits : ℕ
    bits = with_bit p on (word xs at)

    abbrev after : List ℕ
    after = bit_made xs at p on

    four : length (bytes_of MostFirst 4 bits) ≡ 4
    four = length-bytes MostFirst 4 bits

    fits : at + length (bytes_of MostFirst 4 bits) ≤ length xs
    fits = omega (arith, four, sized)

    pub own_bits : word after at ≡ bits % 2 ^ 32
    own_bits = number-own MostFirst xs at 4 bits (omega (arith, sized))

    own-bit : bit p (word after at) ≡ on
    own-bit = ap (bit p) own_bits ∙ kept-bit 32 p bits below ∙ bit-made p on (word xs at)

    other-bit : (q : ℕ) → q < 32 → (q ≡ p → ⊥) → bit q (word after at) ≡ bit q (word xs at)
    other-bit q l d = ap (bit q) own_bits ∙ kept-bit 32 q bits l ∙ other-made q p on (word xs at) d

    word-before : (k : ℕ) → k + 4 ≤ at → word after k ≡ word xs k
    word-before k l = number-before MostFirst xs at (bytes_of MostFirst 4 bits) fits k 4 l

    word_after : (k : ℕ) → at + 4 ≤ k → k ≤ 20 → word after k ≡ word xs k
    word_after k l j = number-after MostFirst xs at (bytes_of MostFirst 4 bits) fits k 4 (omega (arith, four)) (omega (arith, sized))

    pub config-kept : (q : ℕ) → q < 32 → config after q ≡ config xs q
    config-kept q l = number-after MostFirst xs at (bytes_of MostFirst 4 bits) fits (place q) 2 (omega (arith, four)) (omega (arith, sized))

    common : SameCommon xs after
    common = same-common xs after (λ k l. word-before k (omega arith))

    -- the other ports, by what was done to each number of bits
    only-port : ((q : ℕ) → q < 32 → (q ≡ p → ⊥) → bit q (lines after) ≡ bit q (lines xs))
        → ((q : ℕ) → q < 32 → (q ≡ p → ⊥) → bit q (software after) ≡ bit q (software xs))
        → ((q : ℕ) → q < 32 → (q ≡ p → ⊥) → bit q (enabled after) ≡ bit q (enabled xs)) → OnlyPort xs after p
    only-port a b c =
        record {
          common = common;
          others = λ q l d. record { line = a q l d; trigger = b q l d; enable = c q l d; configuration = config-kept q l };
        }

    same_bits : (k : ℕ) → word after k ≡ word xs k → (q : ℕ) → q < 32 → (q ≡ p → ⊥) → bit q (word after k) ≡ bit q (word xs k)
    same_bits k f q l d = ap (bit q) f

    -- where the numbers of bits at `one` and `two` are as they were
    marked : (one two : ℕ) → word after one ≡ word xs one → word after two ≡ word xs two → OnlyPort xs after p
        → MarkedOne xs after p on (λ zs. word zs at) (λ zs. word zs one) (λ zs. word zs two)
    marked one two f g rest = record { own = own-bit; first = f; second = g; configuration = config-kept p below; rest = rest }

  -- ---- a configuration

  module _ (level set : ℕ) (nmi : Bool) where
    abbrev c : ℕ
    c = config_of level set nmi

    abbrev ys : List ℕ
    ys = bytes_of MostFirst 2 c

    abbrev made : List ℕ
    made = configured xs p level set nmi

    two : length ys ≡ 2
    two = length-bytes MostFirst 2 c

    stands : place p + length ys ≤ length xs
    stands = omega (arith, two, sized, below)

    own-config : config made p ≡ c
    own-config = number-own MostFirst xs (place p) 2 c (omega (arith, sized, below)) ∙ config-below level set nmi

    word_kept : (k : ℕ) → k ≤ 20 → word made k ≡ word xs k
    word_kept k l = number-before MostFirst xs (place p) ys stands k 4 (omega arith)

    other-config : (q : ℕ) → q < 32 → (q ≡ p → ⊥) → config made q ≡ config xs q
    other-config q l d = by (ltb q p) refl
      where
        by : (t : Bool) → ltb q p ≡ t → config made q ≡ config xs q
        by true f = let less : q < p = ltb-true q p f in number-before MostFirst xs (place p) ys stands (place q) 2 (omega (arith, less))
        by false f =
            let most : p ≤ q = ltb-false q p f in
            let more : p < q = omega (arith, most, d) in
            number-after MostFirst xs (place p) ys stands (place q) 2 (omega (arith, more, two)) (omega (arith, sized))

    one-configured : ConfiguredOne xs made p level set nmi
    one-configured =
        record {
          own = own-config;
          line = word_kept 12 (omega arith);
          trigger = word_kept 16 (omega arith);
          enable = word_kept 20 (omega arith);
          rest =
              record {
                common = same-common xs made (λ k l. word_kept k (omega arith));
                others = λ q l d.
                    record {
                      line = ap (bit q) (word_kept 12 (omega arith));
                      trigger = ap (bit q) (word_kept 16 (omega arith));
                      enable = ap (bit q) (word_kept 20 (omega arith));
                      configuration = other-config q l d;
                    };
              };
        }

pub configures : Configures
configures xs p level set nmi e = one-configured xs p e level set nmi

pub drives : Drives
drives xs p on e =
    let s = word_after xs p e 12 on (omega arith) (omega arith) 16 (omega arith) (omega arith) in
    let n = word_after xs p e 12 on (omega arith) (omega arith) 20 (omega arith) (omega arith) in
    marked xs p e 12 on (omega arith) (omega arith) 16 20 s n
    (only-port xs p e 12 on (omega arith) (omega arith) (other-bit xs p e 12 on (omega arith) (omega arith)) (same_bits xs p e 12 on (omega arith) (omega arith) 16 s) (same_bits xs p e 12 on (omega arith) (omega arith) 20 n))

pub triggers : Triggers
triggers xs p on e =
    let s = word-before xs p e 16 on (omega arith) (omega arith) 12 (omega arith) in
    let n = word_after xs p e 16 on (omega arith) (omega arith) 20 (omega arith) (omega arith) in
    marked xs p e 16 on (omega arith) (omega arith) 12 20 s n
    (only-port xs p e 16 on (omega arith) (omega arith) (same_bits xs p e 16 on (omega arith) (omega arith) 12 s) (other-bit xs p e 16 on (omega arith) (omega arith)) (same_bits xs p e 16 on (omega arith) (omega arith) 20 n))

pub enables : Enables
enables xs p on e =
    let s = word-before xs p e 20 on (omega arith) (omega arith) 12 (omega arith) in
    let n = word-before xs p e 20 on (omega arith) (omega arith) 16 (omega arith) in
    marked xs p e 20 on (omega arith) (omega arith) 12 16 s n
    (only-port xs p e 20 on (omega arith) (omega arith) (same_bits xs p e 20 on (omega arith) (omega arith) 12 s) (same_bits xs p e 20 on (omega arith) (omega arith) 16 n) (other-bit xs p e 20 on (omega arith) (omega arith)))
