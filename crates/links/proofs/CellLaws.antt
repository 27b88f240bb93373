-- Three cells are enough, and there are no more blocks than cells.
-- Assumes nothing.
use Prim.Native.Nat.{ℕ, zero, suc, ◌+◌, ◌/◌, ◌%◌, ◌≤◌, ◌<◌}
use mathlib.Core.Path.{◌≡◌, refl, sym, ap, subst, ◌∙◌}
use mathlib.Core.Logic.{◌⊎◌, inl, inr}
use mathlib.Core.Bool.{Bool, true, false, cond}
use mathlib.Core.List.{List, [], ◌∷◌}
use native.Mathlib.Omega.{arith}
use lib.Dec.{eqb}
use lib.ListN.{length, get_or, set}
use borrow.Author.Tests.{eqb-true, eq-eqb, ne_eqb}
use Rattle.std.proofs.lemmas.Bool.{cases_order, cond-true, cond_both}
use Rattle.links.specs.Helpers.Cells.{Clear, below, above, mark_of, Free}
use Rattle.links.specs.Form.{All, Pairwise}

pick : (P : ℕ → Type 0) (a c x y : ℕ) → (a ≡ c → P x) → P y → P (cond (eqb a c) x y)
pick P a c x y f g = cond_both (eqb a c) x y P (λ e. f (eqb-true a c e)) (λ e. g)

unpick : (P : ℕ → Type 0) (a c x y : ℕ) → P (cond (eqb a c) x y) → (a ≡ c → P y) → P y
unpick P a c x y h f = cond_both (eqb a c) x y (λ z. P z → P y) (λ e z. f (eqb-true a c e)) (λ e z. z) h

at-eq : (a c x y : ℕ) → a ≡ c → cond (eqb a c) x y ≡ x
at-eq a c x y e = cond-true (eqb a c) x y (eq-eqb a c e)

same : (p q : ℕ) → q / 32 ≡ p / 32 → Clear p q → ⊥
same p q e (below h) = omega (arith, e, h)
same p q e (above h) = omega (arith, e, h)

lower : (p q c : ℕ) → p / 32 ≡ c + 1 → q / 32 ≡ c → Clear p q → 1 + q % 32 ≤ p % 32 + 1
lower p q c e g (below h) = omega (arith, e, g, h)
lower p q c e g (above h) = omega (arith, e, g, h)

higher : (p q : ℕ) → q / 32 ≡ p / 32 + 1 → Clear p q → p % 32 < 1 + q % 32
higher p q g (below h) = omega (arith, g, h)
higher p q g (above h) = omega (arith, g, h)

-- a block off all others finds its three cells so
pub clear-free : (p : ℕ) (qs : List ℕ) → All (Clear p) qs → Free p qs
clear-free p [] t = record { here = refl; low = λ c e. omega arith; high = λ h. omega (arith, h) }
clear-free p (q ∷ qs) t =
    let f = clear-free p qs t.1 in
    record {
      here = pick (λ (x : ℕ). x ≡ 0) (q / 32) (p / 32) (1 + q % 32) (mark_of (p / 32) qs) (λ e. absurd (same p q e t.0)) f.here;
      low = λ c e. pick (λ (x : ℕ). x ≤ p % 32 + 1) (q / 32) c (1 + q % 32) (mark_of c qs) (λ g. lower p q c e g t.0) (f.low c e);
      high = pick (λ (x : ℕ). 1 ≤ x → p % 32 < x) (q / 32) (p / 32 + 1) (1 + q % 32) (mark_of (p / 32 + 1) qs) (λ g h. higher p q g t.0) f.high;
    }

-- and where the blocks before are apart, three such cells show it off them all
module _ (p q : ℕ) (qs : List ℕ) (f : Free p (q ∷ qs)) where
  near-below : p / 32 ≡ q / 32 + 1 → Clear p q
  near-below e =
      let m : 1 + q % 32 ≤ p % 32 + 1 = subst (λ (x : ℕ). x ≤ p % 32 + 1) (at-eq (q / 32) (q / 32) (1 + q % 32) (mark_of (q / 32) qs) refl) (f.low (q / 32) e) in
      below (omega (arith, m, e))

  near-above : q / 32 ≡ p / 32 + 1 → Clear p q
  near-above e =
      let a = at-eq (q / 32) (p / 32 + 1) (1 + q % 32) (mark_of (p / 32 + 1) qs) e in
      let m : p % 32 < 1 + q % 32 = subst (λ (x : ℕ). 1 ≤ x → p % 32 < x) a f.high (omega arith) in
      above (omega (arith, m, e))

  this : Clear p q
  this = by (cases_order (q / 32) (p / 32))
    where
      by_less : q / 32 < p / 32 → (q / 32 + 1 ≡ p / 32) ⊎ ((q / 32 + 1 < p / 32) ⊎ (p / 32 < q / 32 + 1)) → Clear p q
      by_less h (inl g) = near-below (sym g)
      by_less h (inr (inl g)) = below (omega (arith, g))
      by_less h (inr (inr g)) = absurd (omega (arith, h, g))

      by-more : p / 32 < q / 32 → (p / 32 + 1 ≡ q / 32) ⊎ ((p / 32 + 1 < q / 32) ⊎ (q / 32 < p / 32 + 1)) → Clear p q
      by-more h (inl g) = near-above (sym g)
      by-more h (inr (inl g)) = above (omega (arith, g))
      by-more h (inr (inr g)) = absurd (omega (arith, h, g))

      by : (q / 32 ≡ p / 32) ⊎ ((q / 32 < p / 32) ⊎ (p / 32 < q / 32)) → Clear p q
      by (inl h) = let z : 1 + q % 32 ≡ 0 = sym (at-eq (q / 32) (p / 32) (1 + q % 32) (mark_of (p / 32) qs) h) ∙ f.here in absurd (omega (arith, z))
      by (inr (inl h)) = by_less h (cases_order (q / 32 + 1) (p / 32))
      by (inr (inr h)) = by-more h (cases_order (p / 32 + 1) (q / 32))

  rest : All (Clear q) qs → Free p qs
  rest a =
      let none : (c : ℕ) → q / 32 ≡ c → mark_of c qs ≡ 0 = λ c e. ap (λ (x : ℕ). mark_of x qs) (sym e) ∙ (clear-free q qs a).here in
      record {
        here = unpick (λ (x : ℕ). x ≡ 0) (q / 32) (p / 32) (1 + q % 32) (mark_of (p / 32) qs) f.here (λ e. none (p / 32) e);
        low = λ c e. unpick (λ (x : ℕ). x ≤ p % 32 + 1) (q / 32) c (1 + q % 32) (mark_of c qs) (f.low c e) (λ g. omega (arith, none c g));
        high = unpick (λ (x : ℕ). 1 ≤ x → p % 32 < x) (q / 32) (p / 32 + 1) (1 + q % 32) (mark_of (p / 32 + 1) qs) f.high (λ g h. omega (arith, none (p / 32 + 1) g, h));
      }

pub free-clear : (p : ℕ) (qs : List ℕ) → Pairwise Clear qs → Free p qs → All (Clear p) qs
free-clear p [] a f = tt
free-clear p (q ∷ qs) a f = (this p q qs f, free-clear p qs a.1 (rest p q qs f a.0))

-- ---- no more blocks than cells

-- the cells that say something
abbrev pub filled : List ℕ → ℕ
filled [] = 0
filled (x ∷ xs) = cond (eqb x 0) 0 1 + filled xs

one-le : (b : Bool) → cond b 0 1 ≤ 1
one-le true = omega arith
one-le false = omega arith

pub filled-le : (xs : List ℕ) → filled xs ≤ length xs
filled-le [] = omega arith
filled-le (x ∷ xs) = omega (arith, one-le (eqb x 0), filled-le xs)

-- a cell that said nothing and now does is one more
pub filled-set : (xs : List ℕ) (i x : ℕ) → i < length xs → get_or xs i 0 ≡ 0 → filled (set xs i (suc x)) ≡ filled xs + 1
filled-set [] i x h e = absurd (omega (arith, h))
filled-set (y ∷ ys) zero x h e =
    let a : ◌≡◌ {A = ℕ} (cond (eqb (suc x) 0) 0 1) 1 = ap (λ (b : Bool). cond {A = ℕ} b 0 1) (ne_eqb (suc x) 0 (λ z. omega (arith, z))) in
    let b : ◌≡◌ {A = ℕ} (cond (eqb y 0) 0 1) 0 = ap (λ (b : Bool). cond {A = ℕ} b 0 1) (eq-eqb y 0 e) in
    omega (arith, a, b)
filled-set (y ∷ ys) (suc i) x h e = omega (arith, filled-set ys i x (omega (arith, h)) e)

-- and one less where the first says nothing
pub filled-front : (xs : List ℕ) → 1 ≤ length xs → get_or xs 0 0 ≡ 0 → filled xs + 1 ≤ length xs
filled-front [] h e = absurd (omega (arith, h))
filled-front (x ∷ xs) h e =
    let a : ◌≡◌ {A = ℕ} (cond (eqb x 0) 0 1) 0 = ap (λ (b : Bool). cond {A = ℕ} b 0 1) (eq-eqb x 0 e) in omega (arith, a, filled-le xs)
