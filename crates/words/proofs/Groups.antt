-- A long run of fields, read in groups that end at the same bits. With it a reader works a word at a time, and never meets
-- the one long number.
-- Assumes nothing.
use Prim.Native.Nat.{ℕ, ◌+◌, ◌^◌, ◌≤◌, ◌<◌}
use mathlib.Core.Path.{◌≡◌, refl, sym, ap, ◌∙◌, subst}
use mathlib.Core.List.{List, [], ◌∷◌, ◌++◌, map}
use native.Mathlib.Nat.{suc-ne-zero, suc_inj}
use native.Mathlib.Omega.{arith}
use lib.ListN.{length, take, drop, take-append-drop, length-drop}
use lib.Seq.{length-take-le}
use Rattle.words.specs.declared.Order.TheVariants.{MostFirst}
use Rattle.words.specs.Numbers.{total, join, recode, bytes, Fit}
use Rattle.words.specs.Slices.{part, number_at, AllBytes}
use Rattle.words.proofs.Recode.{join-lt, total-append, recode-append}
use Rattle.words.proofs.Bytes.{bytes_fit, take-bytes, drop-bytes}
use Rattle.words.proofs.Slices.{length-part, number_in}

-- runs one after the other
abbrev pub concat : List (List ℕ) → List ℕ
concat [] = []
concat (g ∷ gs) = g ++ concat gs

-- each run read at its own widths, one after the other
abbrev pub recodes : List (List ℕ) → List (List ℕ) → List (List ℕ) → List ℕ
recodes [] tos vss = []
recodes (f ∷ fs) [] vss = []
recodes (f ∷ fs) (t ∷ ts) [] = []
recodes (f ∷ fs) (t ∷ ts) (v ∷ vs) = recode f t v ++ recodes fs ts vs

-- each run has as many bits at the one widths as at the other
abbrev pub Even : List (List ℕ) → List (List ℕ) → Type 0
Even [] [] = Unit
Even [] (t ∷ ts) = ⊥
Even (f ∷ fs) [] = ⊥
Even (f ∷ fs) (t ∷ ts) = (total t ≡ total f) × Even fs ts

abbrev pub Fits : List (List ℕ) → List (List ℕ) → Type 0
Fits [] [] = Unit
Fits [] (v ∷ vs) = ⊥
Fits (f ∷ fs) [] = ⊥
Fits (f ∷ fs) (v ∷ vs) = Fit f v × Fits fs vs

-- the parts of xs of these sizes, one after the other
abbrev pub parts : List ℕ → List ℕ → List (List ℕ)
parts xs [] = []
parts xs (n ∷ ns) = take n xs ∷ parts (drop n xs) ns

pub even-total : (fs ts : List (List ℕ)) → Even fs ts → total (concat ts) ≡ total (concat fs)
even-total [] [] e = refl
even-total (f ∷ fs) (t ∷ ts) e =
    rw (total-append f (concat fs), total-append t (concat ts), e.0, even-total fs ts e.1)
even-total [] (t ∷ ts) e = elim e [ ]
even-total (f ∷ fs) [] e = elim e [ ]

pub fit_append : (ws us vs xs : List ℕ) → Fit ws vs → Fit us xs → Fit (ws ++ us) (vs ++ xs)
fit_append [] us [] xs p q = q
fit_append (w ∷ ws) us (v ∷ vs) xs p q = (p.0, fit_append ws us vs xs p.1 q)
fit_append [] us (v ∷ vs) xs p q = elim p [ ]
fit_append (w ∷ ws) us [] xs p q = elim p [ ]

-- and back
pub fit-both : (ws us vs xs : List ℕ) → length vs ≡ length ws → Fit (ws ++ us) (vs ++ xs) → Fit ws vs × Fit us xs
fit-both [] us [] xs e p = (tt, p)
fit-both [] us (v ∷ vs) xs e p = absurd (suc-ne-zero (length vs) e)
fit-both (w ∷ ws) us [] xs e p = absurd (suc-ne-zero (length ws) (sym e))
fit-both (w ∷ ws) us (v ∷ vs) xs e p =
    let both = fit-both ws us vs xs (suc_inj e) p.1 in
    ((p.0, both.0), both.1)

pub fits-concat : (fs vss : List (List ℕ)) → Fits fs vss → Fit (concat fs) (concat vss)
fits-concat [] [] p = tt
fits-concat (f ∷ fs) (v ∷ vs) p = fit_append f (concat fs) v (concat vs) p.0 (fits-concat fs vs p.1)
fits-concat [] (v ∷ vs) p = elim p [ ]
fits-concat (f ∷ fs) [] p = elim p [ ]

-- the whole is recoded group by group
pub recode-groups : (fs ts vss : List (List ℕ)) → Even fs ts → Fits fs vss
    → recode (concat fs) (concat ts) (concat vss) ≡ recodes fs ts vss
recode-groups [] [] [] e p = refl
recode-groups (f ∷ fs) (t ∷ ts) (v ∷ vs) e p =
    recode-append f (concat fs) t (concat ts) v (concat vs) (even-total fs ts e.1) p.0 (fits-concat fs vs p.1)
    ∙ ap (λ (r : List ℕ). recode f t v ++ r) (recode-groups fs ts vs e.1 p.1)
recode-groups [] [] (v ∷ vs) e p = elim p [ ]
recode-groups [] (t ∷ ts) vss e p = elim e [ ]
recode-groups (f ∷ fs) [] vss e p = elim e [ ]
recode-groups (f ∷ fs) (t ∷ ts) [] e p = elim p [ ]

-- the parts of a list of bytes fit the widths of so many bytes
pub parts-fit : (xs : List ℕ) (ns : List ℕ) → total ns ≤ length xs → AllBytes xs → Fits (map bytes ns) (parts xs ns)
parts-fit xs [] h g = tt
parts-fit xs (n ∷ ns) h g = (
  subst (λ (k : ℕ). Fit (bytes k) (take n xs)) (length-take-le n xs (omega arith)) (bytes_fit (take n xs) (take-bytes n xs g)),
  parts-fit (drop n xs) ns (simp length-drop (omega arith)) (drop-bytes n xs g),
)

-- a list cut into parts is these parts one after the other
pub parts_all : (xs : List ℕ) (ns : List ℕ) → length xs ≡ total ns → concat (parts xs ns) ≡ xs
parts_all [] [] e = refl
parts_all (x ∷ xs) [] e = absurd (suc-ne-zero (length xs) e)
parts_all xs (n ∷ ns) e =
    rw (parts_all (drop n xs) ns (simp length-drop (omega arith))) (take-append-drop n xs)

-- runs of 32 bits, at the widths of bytes
abbrev pub fours : List (List ℕ) → List (List ℕ)
fours [] = []
fours (f ∷ fs) = bytes 4 ∷ fours fs

-- ---- a number as a reader meets it

module _ (xs : List ℕ) (at n : ℕ) (h : at + n ≤ length xs) where
  -- it is that of its bytes side by side
  pub number-join : join (bytes n) (part xs at n) ≡ number_at MostFirst n xs at
  number-join = sym (number_in xs at MostFirst n h ∙ rw (length-part xs at n h))

  pub number_lt : AllBytes xs → number_at MostFirst n xs at < 2 ^ total (bytes n)
  number_lt g =
      subst (λ (k : ℕ). k < 2 ^ total (bytes n)) number-join
      (join-lt (bytes n) (part xs at n)
      (subst (λ (k : ℕ). Fit (bytes k) (part xs at n)) (length-part xs at n h) (bytes_fit (part xs at n) (take-bytes n (drop at xs) (drop-bytes at xs g)))))
