-- What reading and writing answer, by cases; and that an image is read exactly when it keeps the rules.
-- Assumes nothing.
use Rattle.bus.specs.Refusal.{answer_number}
use Rattle.std.specs.Prelude.{Result, Ok, Err}
use Prim.Native.Nat.{ℕ}
use mathlib.Core.Path.{◌≡◌, refl, sym, ap, subst, ◌∙◌}
use mathlib.Core.Bool.{Bool, true, false, cond}
use mathlib.Core.List.{List}
use native.Mathlib.Omega.{arith}
use lib.ListN.{length}
use borrow.Author.Tests.{eq-eqb, ne_eqb, eqb-true, lt-ltb}
use Rattle.words.specs.Numbers.{Fit}
use Rattle.words.specs.Slices.{AllBytes}
use Rattle.bus.specs.declared.Refusal.TheVariants.{BadSize, BadImage}
use Rattle.image.specs.declared.Fields.{Fields}
use Rattle.image.specs.declared.Tail.{Tail}
use Rattle.bus.specs.declared.Refusal.{Refusal}
use Rattle.image.specs.Layout.{values, widths, image, fields, tail, Typed}
use Rattle.image.specs.Rules.{lowest_broken, keeps_rules}
use Rattle.image.specs.Promise.{sized, read_of, wrote_if, image_if, image_number, ImageWasRead, WroteIf, Wrote}
use Rattle.image.specs.Helpers.WasPut.{fits}
use Rattle.image.specs.Theorems.{ReadExactly}
use Rattle.image.proofs.Facts.{edition-is, mode-le, phase-le, fault-le, zero15-is, kind-le, zero6-is}
use Rattle.image.proofs.RoundTrip.{length-image, fields-image, tail-image, image-fields, fields_fit, slot-fits}
use Rattle.image.proofs.Fitting.{keeps-fit, fit-typed}

pub keeps : (f : Fields) (t : Tail) → lowest_broken f t ≡ 0 → keeps_rules f t ≡ true
unfolding keeps_rules
keeps f t e = eq-eqb _ _ e

pub kept-none : (f : Fields) (t : Tail) → keeps_rules f t ≡ true → lowest_broken f t ≡ 0
unfolding keeps_rules
kept-none f t e = eqb-true _ _ e

-- ---- reading

pub was_read : {xs : List ℕ} {r : Result Fields Refusal} → r ≡ read_of xs → ImageWasRead xs r
unfolding read_of
was_read {xs} e = record { answer = e; number = ap answer_number e ∙ number (sized xs) (keeps_rules (fields xs) (tail xs)) }
  where
    number : (s k : Bool)
        → answer_number
        (cond s (cond k (Ok (fields xs)) (Err (BadImage (lowest_broken (fields xs) (tail xs))))) (Err BadSize))
        ≡ image_number s k (fields xs) (tail xs)
    number true true = refl
    number true false = refl
    number false k = refl

module _ (xs : List ℕ) where
  pub read-size : (length xs ≡ 85 → ⊥) → read_of xs ≡ Err BadSize
  unfolding read_of
  read-size h = rw (ne_eqb (length xs) 85 h)

  pub read-broken : length xs ≡ 85 → keeps_rules (fields xs) (tail xs) ≡ false → {n : ℕ} → n ≡ lowest_broken (fields xs) (tail xs)
      → read_of xs ≡ Err (BadImage n)
  unfolding read_of
  read-broken l h e = rw (eq-eqb (length xs) 85 l, h, e)

  pub read-good : length xs ≡ 85 → keeps_rules (fields xs) (tail xs) ≡ true → read_of xs ≡ Ok (fields xs)
  unfolding read_of
  read-good l h = rw (eq-eqb (length xs) 85 l, h)

-- what a good answer tells
good-from : (t k : Bool) (g f : Fields) (n : ℕ) → cond t (cond k (Ok g) (Err (BadImage n))) (Err BadSize) ≡ Ok f
    → (t ≡ true) × (k ≡ true) × (f ≡ g)
good-from true true g f n e = (refl, refl, cc)
good-from true false g f n e = absurd (let z : ◌≡◌ {A = ℕ} 0 1 = cc in omega arith)
good-from false k g f n e = absurd (let z : ◌≡◌ {A = ℕ} 0 1 = cc in omega arith)

module _ (xs : List ℕ) (f : Fields) (e : read_of xs ≡ Ok f) where
  told : (sized xs ≡ true) × (keeps_rules (fields xs) (tail xs) ≡ true) × (f ≡ fields xs)
  unfolding read_of
  told = good-from (sized xs) (keeps_rules (fields xs) (tail xs)) (fields xs) f _ e

  pub good_length : length xs ≡ 85
  good_length = eqb-true _ _ told.0

  pub good-fields : f ≡ fields xs
  good-fields = told.2

  pub good-keeps : lowest_broken f (tail xs) ≡ 0
  good-keeps = ap (λ (g : Fields). lowest_broken g (tail xs)) told.2 ∙ kept-none (fields xs) (tail xs) told.1

  pub good-image : AllBytes xs → image f (tail xs) ≡ xs
  good-image g = ap (λ (h : Fields). image h (tail xs)) good-fields ∙ image-fields xs good_length g

  pub good-fits : Fit widths (values f (tail xs))
  good-fits = subst (λ (g : Fields). Fit widths (values g (tail xs))) (sym told.2) (fields_fit xs good_length)

  pub good-typed : Typed f (tail xs)
  good-typed = fit-typed f (tail xs) good-fits (slot-fits xs good_length)

-- the image of fields that keep the rules is read as these fields, and has this tail
pub read-image : (f : Fields) (t : Tail) → Typed f t → lowest_broken f t ≡ 0 → read_of (image f t) ≡ Ok f
read-image f t p e =
    let fit = keeps-fit f t p e in
    let back : fields (image f t) ≡ f = fields-image f t fit in
    let rest : tail (image f t) ≡ t = tail-image f t fit p.raw in
    read-good (image f t) (length-image f t)
    (ap (λ (g : Fields). keeps_rules g (tail (image f t))) back ∙ ap (keeps_rules f) rest ∙ keeps f t e)
    ∙ ap Ok back

pub image-tail : (f : Fields) (t : Tail) → Typed f t → lowest_broken f t ≡ 0 → tail (image f t) ≡ t
image-tail f t p e = tail-image f t (keeps-fit f t p e) p.raw

-- bytes are read as f, with the tail t, exactly when they are 85, both keep the rules and they are their image
pub read-exactly : ReadExactly
read-exactly xs f t g p = (there, back)
  where
    there : (read_of xs ≡ Ok f) × (tail xs ≡ t) → (length xs ≡ 85) × (lowest_broken f t ≡ 0) × (image f t ≡ xs)
    there (e, r) = (
      good_length xs f e,
      ap (lowest_broken f) (sym r) ∙ good-keeps xs f e,
      ap (image f) (sym r) ∙ good-image xs f e g,
    )

    back : (length xs ≡ 85) × (lowest_broken f t ≡ 0) × (image f t ≡ xs) → (read_of xs ≡ Ok f) × (tail xs ≡ t)
    back (l, k, i) = (ap read_of (sym i) ∙ read-image f t p k, ap tail (sym i) ∙ image-tail f t p k)

-- ---- writing

answer-number : (s k : Bool) (f : Fields) (t : Tail)
    → answer_number {A = Unit} (cond s (cond k (Ok tt) (Err (BadImage (lowest_broken f t)))) (Err BadSize))
    ≡ image_number s k f t
answer-number true true f t = refl
answer-number true false f t = refl
answer-number false k f t = refl

module _ {good : Bool} (f : Fields) (t : Tail) (xs : List ℕ) where
  pub was-wrote : {ys : List ℕ} {r : Result Unit Refusal} → r ≡ wrote_if good f t xs → ys ≡ image_if good f t xs → WroteIf good f t xs r ys
  unfolding wrote_if
  was-wrote e h = record { answer = e; number = ap answer_number e ∙ answer-number (sized xs) good f t; lent = h }

  pub wrote-size : (length xs ≡ 85 → ⊥) → WroteIf good f t xs (Err BadSize) xs
  unfolding wrote_if image_if
  wrote-size h = was-wrote (rw (ne_eqb (length xs) 85 h)) (rw (ne_eqb (length xs) 85 h))

  pub wrote-broken : length xs ≡ 85 → good ≡ false → {why : Refusal} → why ≡ BadImage (lowest_broken f t) → WroteIf good f t xs (Err why) xs
  unfolding wrote_if image_if
  wrote-broken l h e = was-wrote (rw (eq-eqb (length xs) 85 l, h, e)) (rw (eq-eqb (length xs) 85 l, h))

  pub image-good : length xs ≡ 85 → good ≡ true → image_if good f t xs ≡ image f t
  unfolding image_if
  image-good l h = rw (eq-eqb (length xs) 85 l, h)

  pub wrote-done : length xs ≡ 85 → good ≡ true → (ys : List ℕ) → ys ≡ image f t → WroteIf good f t xs (Ok tt) ys
  unfolding wrote_if
  wrote-done l h ys e = was-wrote (rw (eq-eqb (length xs) 85 l, h)) (e ∙ sym (image-good l h))

-- fields that keep the rules fit
pub keeps-fits : (f : Fields) (t : Tail) → lowest_broken f t ≡ 0 → fits f t ≡ true
unfolding fits
keeps-fits f t e = rw (
  edition-is f t e,
  lt-ltb f.mode 4 (let h = mode-le f t e in omega arith),
  lt-ltb f.phase 8 (let h = phase-le f t e in omega arith),
  lt-ltb f.fault 32 (let h = fault-le f t e in omega arith),
  zero15-is f t e,
  lt-ltb t.kind 4 (let h = kind-le f t e in omega arith),
  zero6-is f t e,
)

-- what a done answer tells
done-from : (s k : Bool) (n : ℕ) → ◌≡◌ {A = Result Unit Refusal} (Ok tt) (cond s (cond k (Ok tt) (Err (BadImage n))) (Err BadSize))
    → (s ≡ true) × (k ≡ true)
done-from true true n e = (refl, refl)
done-from true false n e = absurd (let z : ◌≡◌ {A = ℕ} 0 1 = cc in omega arith)
done-from false k n e = absurd (let z : ◌≡◌ {A = ℕ} 0 1 = cc in omega arith)

module _ (f : Fields) (t : Tail) (xs ys : List ℕ) (w : Wrote f t xs (Ok tt) ys) where
  done-told : (sized xs ≡ true) × (keeps_rules f t ≡ true)
  unfolding wrote_if
  done-told = done-from (sized xs) (keeps_rules f t) _ w.answer

  pub done-keeps : lowest_broken f t ≡ 0
  done-keeps = kept-none f t done-told.1

  pub done-image : ys ≡ image f t
  done-image = w.lent ∙ image-good f t xs (eqb-true _ _ done-told.0) done-told.1

  -- what was written is read back
  pub done-read : Typed f t → read_of ys ≡ Ok f
  done-read p = ap read_of done-image ∙ read-image f t p done-keeps

  pub done-tail : Typed f t → tail ys ≡ t
  done-tail p = ap tail done-image ∙ image-tail f t p done-keeps
