-- Beats in blocks.
-- Assumes nothing.
use Prim.Native.Nat.{ℕ, suc, ◌+◌, ◌-◌, ◌*◌, ◌/◌, ◌%◌, ◌≤◌, ◌<◌}
use mathlib.Core.Path.{◌≡◌, refl, sym, ap, ◌∙◌}
use mathlib.Core.Bool.{Bool, true, false}
use mathlib.Core.List.{List}
use native.Mathlib.Nat.{add-zero}
use native.Mathlib.Omega.{arith}
use lib.Bits.{bit_or}
use lib.Dec.{eqb, ltb}
use lib.ListN.{length, take, drop, get_or, set}
use lib.Seq.{get_or-set_same, get_or-set_other, get_or-drop}
use borrow.Author.Tests.{ltb-true, ltb-false, eqb-false, ne_eqb}
use Rattle.flow.specs.Beats.{beat_eop, beat_data, beats_in}
use Rattle.flow.specs.Rows.{landing, calm, gathered, spread}
use Rattle.flow.specs.Helpers.Blocks.{Quiet, Seen, Holds, Lays, Taken}
use Rattle.flow.proofs.Ors.{or-even, even-or, pair-even, even-pair, or-errors}
use Rattle.flow.proofs.Streams.{eop-from, data-from, error-from, there}
use Rattle.flow.proofs.Longer.{quiet-more, quiet-join, gathered-join, gathered_next, calm-quiet, calm-stops}

-- ---- one beat more in a block

pub none_seen : (bs : List ℕ) → Seen bs 0 0
none_seen bs = record { even = λ e i h. absurd (omega arith); quiet = λ q. refl; errors = refl }

module _ (xs : List ℕ) (from n : ℕ) (h : from + n < length xs / 2) (low : get_or xs (2 * (from + n) + 1) 0 < 256) (high : get_or xs (2 * (from + n)) 0 < 256) {beat : ℕ} (is : beat ≡ get_or xs (2 * (from + n)) 0 + get_or xs (2 * (from + n) + 1) 0 * 256) where
  abbrev bs : List ℕ
  bs = drop from (beats_in xs)

  abbrev first : ℕ
  first = get_or xs (2 * (from + n)) 0

  eop-is : beat_eop (get_or bs n 0) ≡ eqb (first % 2) 1
  eop-is = eop-from xs from n h low

  pub seen_more : (some : ℕ) → Seen bs n some → Seen bs (n + 1) (bit_or some beat)
  seen_more some s =
      record {
        even =
            λ e.
            let both = or-even some beat e in
            quiet-more bs n (s.even both.0) (eop-is ∙ ne_eqb _ _ (pair-even first _ is both.1));
        quiet =
            λ q.
            let not-odd = eqb-false (first % 2) 1 (sym eop-is ∙ q n (omega arith)) in
            even-or some beat (s.quiet (λ i k. q i (omega arith))) (even-pair first _ is not-odd);
        errors =
            ap (λ (v : ℕ). bit_or some v % 256 / 2) is ∙ or-errors some first _ high ∙ ap (λ (e : ℕ). bit_or e (first / 2)) s.errors
            ∙ sym (gathered_next bs n (there xs from n h low) 0 ∙ ap (bit_or (gathered 0 (take n bs))) (error-from xs from n h low));
      }

  pub holds_more : (block : List ℕ) → n < length block → Holds block bs n → Holds (set block n beat) bs (n + 1)
  holds_more block room p i k = by (ltb i n) refl
    where
      by : (t : Bool) → ltb i n ≡ t → get_or (set block n beat) i 0 / 256 ≡ beat_data (get_or bs i 0)
      by true l = let before = ltb-true i n l in ap (λ (x : ℕ). x / 256) (get_or-set_other block n i beat 0 (λ e. omega arith)) ∙ p i before
      by false l =
          let after = ltb-false i n l in
          let same : i ≡ n = omega arith in
          let byte : beat / 256 ≡ get_or xs (2 * (from + n) + 1) 0 = omega (arith, low, high, is) in
          rw same (ap (λ (x : ℕ). x / 256) (get_or-set_same block n beat 0 room) ∙ byte ∙ sym (data-from xs from n h low))

-- ---- the data of one beat more

pub lays-none : (fixed : Bool) (at from : ℕ) (block now : List ℕ) → Lays fixed at from block 0 now now
lays-none fixed at from block now mem bs e p = e ∙ ap (spread mem fixed at bs) (sym (add-zero from))

pub lays_more : (fixed : Bool) (at from : ℕ) (block : List ℕ) (n : ℕ) (now mem' : List ℕ) {to : ℕ} → to ≡ landing fixed at (from + n)
    → Lays fixed at from block n now mem' → Lays fixed at from block (n + 1) now (set mem' to (get_or block n 0 / 256))
unfolding spread
lays_more fixed at from block n now mem' p lays mem bs e holds =
    let next : from + (n + 1) ≡ suc (from + n) = omega arith in
    let byte : get_or block n 0 / 256 ≡ beat_data (get_or bs (from + n) 0) = holds n (omega arith) ∙ ap beat_data (get_or-drop from bs n 0) in
    rw next (λ x. set (lays mem bs e (λ i k. holds i (omega arith)) x) (p x) (byte x))

-- ---- a block more

pub none-taken : (bs : List ℕ) (fixed : Bool) (at : ℕ) (mem : List ℕ) (first : ℕ) → Taken bs fixed at mem first (record { count = 0; errors = first }) mem
unfolding spread
none-taken bs fixed at mem first = record { quiet = λ i h. absurd (omega arith); errors = refl; lent = refl }

pub taken_more : (bs : List ℕ) (fixed : Bool) (at : ℕ) (mem : List ℕ) (first count errors n some : ℕ) (block now mem' : List ℕ) {more : ℕ}
    → Seen (drop count bs) n some → some % 2 ≡ 0 → more ≡ some % 256 / 2 → Holds block (drop count bs) n → Lays fixed at count block n now mem'
    → Taken bs fixed at mem first (record { count = count; errors = errors }) now
    → Taken bs fixed at mem first (record { count = count + n; errors = bit_or errors more }) mem'
taken_more bs fixed at mem first count errors n some block now mem' seen even more holds lays t =
    record {
      quiet = quiet-join bs count n t.quiet (seen.even even);
      errors = (λ x. bit_or (t.errors x) ((more ∙ seen.errors) x)) ∙ sym (gathered-join first count n bs);
      lent = lays mem bs t.lent holds;
    }

-- where one more has EOP or none is left, those taken are all before the first with EOP
pub all-taken : (bs : List ℕ) (most n : ℕ) → n ≤ most → most ≤ length bs → Quiet bs n → (Quiet (drop n bs) 1 → most < n + 1) → n ≡ calm most bs
all-taken bs most n h l q ends = sym (calm-quiet most bs n h (omega arith) q ∙ by (ltb n most) refl (beat_eop (get_or bs n 0)) refl)
  where
    same : (i : ℕ) → i < 1 → n + i ≡ n
    same i k = omega arith

    by : (t : Bool) → ltb n most ≡ t → (e : Bool) → beat_eop (get_or bs n 0) ≡ e → n + calm (most - n) (drop n bs) ≡ n
    by false f e g = let none : most - n ≡ 0 = omega (arith, ltb-false n most f) in rw none (add-zero n)
    by true f true g = let some = ltb-true n most f in rw (calm-stops bs n (omega arith) most some g) (add-zero n)
    by true f false g = absurd (omega (arith, ltb-true n most f, ends (λ i k. ap beat_eop (get_or-drop n bs i 0 ∙ ap (λ (j : ℕ). get_or bs j 0) (same i k)) ∙ g)))
