-- What is found among the records, one by one.
-- Assumes nothing.
use Rattle.std.specs.Prelude.{if◌then◌else◌, Option, Some, None, Ok}
use Prim.Native.Nat.{ℕ, zero, suc, ◌*◌, ◌-◌, ◌/◌, ◌%◌, ◌≤◌, ◌<◌}
use mathlib.Core.Path.{◌≡◌, refl, sym, ap, ◌∙◌}
use mathlib.Core.Bool.{Bool, true, false, true≢false, ◌&&◌}
use mathlib.Core.List.{List, [], ◌∷◌, ◌++◌}
use native.Mathlib.Numerals.{unary_clauses}
use native.Mathlib.Omega.{arith}
use lib.Dec.{eqb, leb}
use lib.ListN.{length}
use borrow.Author.Tests.{ne_eqb, leb-true}
use Rattle.words.specs.declared.Order.TheVariants.{MostFirst}
use Rattle.words.specs.Promise.{Gives}
use Rattle.words.specs.Slices.{part, number_at}
use Rattle.ledger.specs.declared.Entry.{Entry}
use Rattle.ledger.specs.Records.{is_ledger}
use Rattle.ledger.specs.Finding.{entry_of, entry_at, entries_in, is_of, latest, finding_in}

module _ (run address : ℕ) where
  -- ---- one record more: it decides where it is asked for
  pub latest-last : (before : Option ℕ) (es : List Entry) (e : Entry)
      → latest run address before (es ++ (e ∷ [])) ≡ (if is_of run address e then Some e.actual else latest run address before es)
  latest-last before [] e = refl
  latest-last before (x ∷ es) e = latest-last (if is_of run address x then Some x.actual else before) es e

  module _ (ledger : List ℕ) where
    abbrev pub told : ℕ → Option ℕ
    told n = latest run address None (entries_in ledger n)

    last-told : (n : ℕ) → 0 < n
        → told n ≡ (if is_of run address (entry_at ledger (n - 1)) then Some (entry_at ledger (n - 1)).actual else told (n - 1))
    last-told zero h = absurd (omega arith)
    last-told (suc n) h = simp unary_clauses (latest-last None (entries_in ledger n) (entry_at ledger n))

    -- the last of n records, from its bytes, which are lent with their count: it is what is told, or as much is told without it
    module _ (n count : ℕ) (h : 0 < n) (k : count ≡ 12) {b : Bool} (g : Gives (is_of run address (entry_of (part ledger (12 * (n - 1)) count))) b) where
      abbrev lent : List ℕ
      lent = part ledger (12 * (n - 1)) count

      bytes : lent ≡ part ledger (12 * (n - 1)) 12
      bytes = ap (λ (m : ℕ). part ledger (12 * (n - 1)) m) k

      decided : told n ≡ (if b then Some (entry_at ledger (n - 1)).actual else told (n - 1))
      decided =
          last-told n h
          ∙ ap (λ (x : Bool). if x then Some (entry_at ledger (n - 1)).actual else told (n - 1))
          (ap (λ (xs : List ℕ). is_of run address (entry_of xs)) (sym bytes) ∙ sym g.value)

      pub is-latest : b ≡ true → {v : ℕ} → v ≡ number_at MostFirst 2 lent 8 → told n ≡ Some v
      is-latest t q = decided ∙ rw t (ap Some (sym (q ∙ ap (λ (xs : List ℕ). number_at MostFirst 2 xs 8) bytes)))

      pub is-other : b ≡ false → told n ≡ told (n - 1)
      is-other t = decided ∙ rw t

-- ---- of records that are all there

within_by : (whole within : Bool) → (whole && within) ≡ true → within ≡ true
within_by true within e = e
within_by false within e = absurd (true≢false (sym e))

module _ (ledger : List ℕ) (used : ℕ) (s : is_ledger (length ledger) used ≡ true) where
  pub records-within : 12 * used ≤ length ledger
  records-within =
      let h = leb-true used (length ledger / 12) (within_by (eqb (length ledger % 12) 0) (leb used (length ledger / 12)) s) in
      omega arith

  pub asked_of : (run address : ℕ) → (run ≡ 4294967295 → ⊥) → finding_in ledger used run address ≡ Ok (latest run address None (entries_in ledger used))
  unfolding finding_in
  asked_of run address h = rw (s, ne_eqb run 4294967295 h)
