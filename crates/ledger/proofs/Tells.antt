-- What is told of a descriptor is what the last used record of it says, or that there is none.
-- Assumes nothing.
use Rattle.std.specs.Prelude.{Option, Some, None, Result, Ok}
use Prim.Native.Nat.{ℕ, zero, suc, ◌<◌}
use mathlib.Core.Path.{◌≡◌, refl, sym, ap, subst, ◌∙◌}
use mathlib.Core.Bool.{Bool, true, false, true≢false, ◌&&◌}
use mathlib.Core.List.{List}
use native.Mathlib.Omega.{arith}
use lib.Dec.{eqb, ltb}
use borrow.Author.Tests.{eq-eqb, eqb-true, ltb-true, ltb-false}
use Rattle.bus.specs.declared.Refusal.{Refusal}
use Rattle.ledger.specs.declared.Entry.{Entry}
use Rattle.ledger.specs.Finding.{entry_at, entries_in, is_of}
use Rattle.ledger.specs.Theorems.{WrittenBack, LatestCount, FoundExactly, NotFoundExactly}
use Rattle.ledger.proofs.Latest.{told, latest-last, asked_of}

-- what holds below n, and of n itself
up_to : (P : ℕ → Type 0) (n : ℕ) → ((j : ℕ) → j < n → P j) → P n → (j : ℕ) → j < suc n → P j
up_to P n below own j h = by (ltb j n) refl
  where
    by : (b : Bool) → ltb j n ≡ b → P j
    by true e = below j (ltb-true j n e)
    by false e = let i = ltb-false j n e in subst P (omega arith) own

module _ (run address : ℕ) where
  -- the test, and what it says
  is_one : (e : Entry) → is_of run address e ≡ true → WrittenBack run address e
  is_one e t = by (eqb e.at address) (eqb e.run run) refl refl t
    where
      by : (s t : Bool) → eqb e.at address ≡ s → eqb e.run run ≡ t → (s && t) ≡ true → WrittenBack run address e
      by true true p q r = (eqb-true _ _ q, eqb-true _ _ p)
      by true false p q r = absurd (true≢false (sym r))
      by false t p q r = absurd (true≢false (sym r))

  is_none : (e : Entry) → is_of run address e ≡ false → WrittenBack run address e → ⊥
  is_none e f w = true≢false (sym (rw (eq-eqb e.at address w.1, eq-eqb e.run run w.0)) ∙ f)

  pub not-of : (e : Entry) → (WrittenBack run address e → ⊥) → is_of run address e ≡ false
  not-of e h = by (is_of run address e) refl
    where
      by : (b : Bool) → is_of run address e ≡ b → b ≡ false
      by true t = absurd (h (is_one e t))
      by false t = refl

  module _ (ledger : List ℕ) where
    abbrev NoneBelow : ℕ → Type 0
    NoneBelow n = (i : ℕ) → i < n → WrittenBack run address (entry_at ledger i) → ⊥

    abbrev Latest : ℕ → ℕ → Type 0
    Latest n count = LatestCount ledger n run address count

    -- of n records either is the case
    data Told (n : ℕ) : Type 0 where
      found : (count : ℕ) → told run address ledger n ≡ Some count → Latest n count → Told n
      none : told run address ledger n ≡ None → NoneBelow n → Told n

    -- one record more, that is none
    one_more : (n : ℕ) → (WrittenBack run address (entry_at ledger n) → ⊥) → told run address ledger (suc n) ≡ told run address ledger n → Told n → Told (suc n)
    one_more n h e (found count f l) =
        found count (e ∙ f)
        (record {
          place = l.place;
          used_one = omega (arith, l.used_one);
          its = l.its;
          counted = l.counted;
          last = λ j i k. up_to (λ (x : ℕ). l.place < x → WrittenBack run address (entry_at ledger x) → ⊥) n (λ x b a. l.last x a b) (λ a. h) j k i;
        })
    one_more n h e (none f l) = none (e ∙ f) (up_to (λ (x : ℕ). WrittenBack run address (entry_at ledger x) → ⊥) n l h)

    tells : (n : ℕ) → Told n
    tells zero = none refl (λ i h. absurd (omega arith))
    tells (suc n) = by (is_of run address (entry_at ledger n)) refl (tells n)
      where
        by : (b : Bool) → is_of run address (entry_at ledger n) ≡ b → Told n → Told (suc n)
        by true e before =
            found (entry_at ledger n).actual (latest-last run address None (entries_in ledger n) (entry_at ledger n) ∙ rw e)
            (record { place = n; used_one = omega arith; its = is_one (entry_at ledger n) e; counted = refl; last = λ j i k. absurd (omega arith) })
        by false e before =
            one_more n (is_none (entry_at ledger n) e) (latest-last run address None (entries_in ledger n) (entry_at ledger n) ∙ rw e) before

    -- there is one last record
    same_count : (n a b : ℕ) → Latest n a → Latest n b → a ≡ b
    same_count n a b l m = by (ltb l.place m.place) (ltb m.place l.place) refl refl
      where
        by : (s t : Bool) → ltb l.place m.place ≡ s → ltb m.place l.place ≡ t → a ≡ b
        by true t e f = absurd (l.last m.place (ltb-true _ _ e) m.used_one m.its)
        by false true e f = absurd (m.last l.place (ltb-true _ _ f) l.used_one l.its)
        by false false e f =
            let h = ltb-false l.place m.place e in
            let i = ltb-false m.place l.place f in
            let same : l.place ≡ m.place = omega arith in
            sym l.counted ∙ ap (λ (x : ℕ). (entry_at ledger x).actual) same ∙ m.counted

    found-is : (n count : ℕ) → Told n → told run address ledger n ≡ Some count → Latest n count
    found-is n count (found c f l) e = let same : c ≡ count = cc in subst (Latest n) same l
    found-is n count (none f l) e = absurd cc

    is_found : (n count : ℕ) → Told n → Latest n count → told run address ledger n ≡ Some count
    is_found n count (found c f l) m = f ∙ ap Some (same_count n c count l m)
    is_found n count (none f l) m = absurd (l m.place m.used_one m.its)

    none_is : (n : ℕ) → Told n → told run address ledger n ≡ None → NoneBelow n
    none_is n (found c f l) e = absurd cc
    none_is n (none f l) e = l

    is-not-found : (n : ℕ) → Told n → NoneBelow n → told run address ledger n ≡ None
    is-not-found n (found c f l) m = absurd (m l.place l.used_one l.its)
    is-not-found n (none f l) m = f

pub itself : (e : Entry) → is_of e.run e.at e ≡ true
itself e = rw (eq-eqb e.at e.at refl, eq-eqb e.run e.run refl)

same-told : {x y : Option ℕ} → ◌≡◌ {A = Result (Option ℕ) Refusal} (Ok x) (Ok y) → x ≡ y
same-told e = cc

pub found-exactly : FoundExactly
found-exactly ledger used run address count s h =
    let asked = asked_of ledger used s run address h in
    let t = tells run address ledger used in (
      λ e. found-is run address ledger used count t (same-told (sym asked ∙ e)),
      λ l. asked ∙ ap Ok (is_found run address ledger used count t l),
    )

pub not-found-exactly : NotFoundExactly
not-found-exactly ledger used run address s h =
    let asked = asked_of ledger used s run address h in
    let t = tells run address ledger used in (
      λ e. none_is run address ledger used t (same-told (sym asked ∙ e)),
      λ l. asked ∙ ap Ok (is-not-found run address ledger used t l),
    )
