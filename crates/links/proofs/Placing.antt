-- A steady walk is over descriptors that are placed, and is no longer than there are cells.
-- Assumes nothing.
use Prim.Native.Nat.{ℕ, zero, suc, ◌+◌, ◌-◌, ◌≤◌}
use mathlib.Core.Path.{◌≡◌, refl, ap}
use mathlib.Core.Logic.{◌⊎◌, inl, inr}
use mathlib.Core.Bool.{true, false}
use mathlib.Core.List.{List, [], ◌∷◌, map}
use native.Mathlib.Omega.{arith}
use lib.Dec.{ltb}
use lib.ListN.{length}
use borrow.Author.Tests.{ltb-true, ltb-false, le-ltb, lt-ltb}
use Rattle.std.proofs.lemmas.Bool.{false_from_ne_true, and_cases, and_parts, and_left, and_right, or_parts, or_from}
use Rattle.bus.specs.declared.Window.{Window}
use Rattle.bus.specs.Window.{in_window}
use Rattle.bus.proofs.Limits.{in_bounds}
use Rattle.links.specs.Helpers.Cells.{Clear, below, above}
use Rattle.links.specs.Form.{All, Link, link_at, links_from, every_from, Pairwise, Apart, Placed}
use Rattle.links.specs.Verdicts.{meets, meets_any, Shares}
use Rattle.links.proofs.Looks.{next, address_after, seen_after, Stands, Steady}

-- ---- a byte in common

pub meets-clear : (a b : ℕ) → meets a b ≡ false → Clear a b
meets-clear a b e = by (and_cases (ltb a (b + 32)) (ltb b (a + 32)) e)
  where
    by : (ltb a (b + 32) ≡ false) ⊎ (ltb b (a + 32) ≡ false) → Clear a b
    by (inl f) = below (ltb-false a (b + 32) f)
    by (inr f) = above (ltb-false b (a + 32) f)

clear-meets : (a b : ℕ) → Clear a b → meets a b ≡ false
clear-meets a b (below h) = and_left _ (ltb b (a + 32)) (le-ltb a (b + 32) h)
clear-meets a b (above h) = and_right (ltb a (b + 32)) _ (le-ltb b (a + 32) h)

pub meets-shares : (l m : Link) → meets m.at l.at ≡ true → Shares l m
meets-shares l m e =
    let near = and_parts (ltb m.at (l.at + 32)) (ltb l.at (m.at + 32)) e in
    let h = ltb-true m.at (l.at + 32) near.0 in
    let g = ltb-true l.at (m.at + 32) near.1 in
    record { i = m.at - l.at; i_is = omega (arith, h); j = l.at - m.at; j_is = omega (arith, g); same = omega arith }

pub shares-meets : (l m : Link) → Shares l m → meets m.at l.at ≡ true
shares-meets l m s =
    rw (lt-ltb m.at (l.at + 32) (omega (arith, s.i_is, s.same)), lt-ltb l.at (m.at + 32) (omega (arith, s.j_is, s.same)))

meets-apart : (l m : Link) → meets m.at l.at ≡ false → Apart l m
meets-apart l m e i h j g s = by (meets-clear m.at l.at e)
  where
    by : Clear m.at l.at → ⊥
    by (below k) = omega (arith, k, s, h, g)
    by (above k) = omega (arith, k, s, h, g)

pub apart-meets : (l m : Link) → Apart l m → meets m.at l.at ≡ false
apart-meets l m f = false_from_ne_true _ (λ e. let s = meets-shares l m e in f s.i s.i_is s.j s.j_is s.same)

pub map-all : (P Q : Link → Type 0) → ((l : Link) → P l → Q l) → (ls : List Link) → All P ls → All Q ls
map-all P Q f [] t = tt
map-all P Q f (l ∷ ls) t = (f l t.0, map-all P Q f ls t.1)

zip-all : (P Q R : Link → Type 0) → ((l : Link) → P l → Q l → R l) → (ls : List Link) → All P ls → All Q ls → All R ls
zip-all P Q R f [] t u = tt
zip-all P Q R f (l ∷ ls) t u = (f l t.0 u.0, zip-all P Q R f ls t.1 u.1)

module _ (w : Window) (mem : List ℕ) where
  -- ---- steady is placed

  pub steady-placed : (n : ℕ) (seen : List ℕ) (a : ℕ) → Steady w mem seen a n
      → Placed w (links_from w mem a n) × All (λ l. meets_any l.at seen ≡ false) (links_from w mem a n)
  steady-placed zero seen a s = (record { aligned = tt; inside = tt; apart = tt }, tt)
  steady-placed (suc n) seen a s =
      let r = steady-placed n (a ∷ seen) (next w mem a) s.1 in
      let ls = links_from w mem (next w mem a) n in (
        record {
          aligned = (s.0.aligned, r.0.aligned);
          inside = (s.0.inside, r.0.inside);
          apart = (
            map-all
                (λ l. meets_any l.at (a ∷ seen) ≡ false)
                (λ l. Apart (link_at w mem a) l)
                (λ l e. meets-apart (link_at w mem a) l (or_parts (meets l.at a) (meets_any l.at seen) e).0)
                ls
                r.1,
            r.0.apart,
          );
        },
        (
          s.0.apart,
          map-all
              (λ l. meets_any l.at (a ∷ seen) ≡ false)
              (λ l. meets_any l.at seen ≡ false)
              (λ l e. (or_parts (meets l.at a) (meets_any l.at seen) e).1)
              ls
              r.1,
        ),
      )

  pub placed-steady : (n : ℕ) (seen : List ℕ) (a : ℕ) → Placed w (links_from w mem a n)
      → All (λ l. meets_any l.at seen ≡ false) (links_from w mem a n) → Steady w mem seen a n
  placed-steady zero seen a p f = tt
  placed-steady (suc n) seen a p f =
      let ls = links_from w mem (next w mem a) n in (
        record { aligned = p.aligned.0; inside = p.inside.0; apart = f.0 },
        placed-steady
            n
            (a ∷ seen)
            (next w mem a)
            (record { aligned = p.aligned.1; inside = p.inside.1; apart = p.apart.1 })
            (zip-all
            (λ l. Apart (link_at w mem a) l)
            (λ l. meets_any l.at seen ≡ false)
            (λ l. meets_any l.at (a ∷ seen) ≡ false)
            (λ l x y. or_from (meets l.at a) (meets_any l.at seen) (apart-meets (link_at w mem a) l x) y)
            ls
            p.apart.0
            f.1),
      )

  none-met : (ls : List Link) → All (λ l. meets_any l.at [] ≡ false) ls
  none-met [] = tt
  none-met (l ∷ ls) = (refl, none-met ls)

  pub placed_first : (n a : ℕ) → Placed w (links_from w mem a n) → Steady w mem [] a n
  placed_first n a p = placed-steady n [] a p (none-met (links_from w mem a n))

  -- n and one more
  pub every-is : (a n : ℕ) → links_from w mem a (suc n) ≡ every_from w mem a n
  every-is a zero = refl
  every-is a (suc n) = ap (λ (ls : List Link). link_at w mem a ∷ ls) (every-is (next w mem a) n)

  pub steady-last : (n : ℕ) (seen : List ℕ) (a : ℕ) → Steady w mem seen a (suc n)
      → Steady w mem seen a n × Stands w mem (seen_after w mem seen a n) (address_after w mem a n)
  steady-last zero seen a s = (tt, s.0)
  steady-last (suc n) seen a s = let r = steady-last n (a ∷ seen) (next w mem a) s.1 in ((s.0, r.0), r.1)

  pub steady-more : (n : ℕ) (seen : List ℕ) (a : ℕ) → Steady w mem seen a n
      → Stands w mem (seen_after w mem seen a n) (address_after w mem a n) → Steady w mem seen a (suc n)
  steady-more zero seen a s t = (t, tt)
  steady-more (suc n) seen a s t = (s.0, steady-more n (a ∷ seen) (next w mem a) s.1 t)

module _ (w : Window) where
  -- ---- places, from 32 on, so that a cell is below each

  abbrev pub place_in : ℕ → ℕ
  place_in a = a - w.base + 32

  abbrev pub places : List ℕ → List ℕ
  places bs = map place_in bs

  pub record In (b : ℕ) : Type 0 where
    pub low : w.base ≤ b
    pub high : b + 32 ≤ w.base + w.length

  pub in_is : (a : ℕ) → in_window w a 32 ≡ true → In a
  in_is a e = let b = in_bounds w a 32 e in record { low = b.0; high = b.1 }

  pub record Good (seen : List ℕ) : Type 0 where
    pub within : All In seen
    pub apart : Pairwise Clear (places seen)

  shifted : (a b : ℕ) → In a → In b → Clear a b → Clear (place_in a) (place_in b)
  shifted a b x y (below h) = below (omega (arith, h, x.low, y.low))
  shifted a b x y (above h) = above (omega (arith, h, x.low, y.low))

  back : (a b : ℕ) → In a → In b → Clear (place_in a) (place_in b) → Clear a b
  back a b x y (below h) = below (omega (arith, h, x.low, y.low))
  back a b x y (above h) = above (omega (arith, h, x.low, y.low))

  pub apart-clear : (a : ℕ) (seen : List ℕ) → In a → All In seen → meets_any a seen ≡ false → All (Clear (place_in a)) (places seen)
  apart-clear a [] x y e = tt
  apart-clear a (b ∷ bs) x y e =
      let n = or_parts (meets a b) (meets_any a bs) e in (shifted a b x y.0 (meets-clear a b n.0), apart-clear a bs x y.1 n.1)

  pub clear_apart : (a : ℕ) (seen : List ℕ) → In a → All In seen → All (Clear (place_in a)) (places seen) → meets_any a seen ≡ false
  clear_apart a [] x y f = refl
  clear_apart a (b ∷ bs) x y f = or_from (meets a b) (meets_any a bs) (clear-meets a b (back a b x y.0 f.0)) (clear_apart a bs x y.1 f.1)

module _ (w : Window) (mem : List ℕ) where
  pub grown : (a : ℕ) (seen : List ℕ) → Stands w mem seen a → Good w seen → Good w (a ∷ seen)
  grown a seen s g =
      let x = in_is w a s.inside in
      record { within = (x, g.within); apart = (apart-clear w a seen x g.within s.apart, g.apart) }

  pub good-after : (n : ℕ) (seen : List ℕ) (a : ℕ) → Steady w mem seen a n → Good w seen
      → Good w (seen_after w mem seen a n) × (length (seen_after w mem seen a n) ≡ length seen + n)
  good-after zero seen a s g = (g, omega arith)
  good-after (suc n) seen a s g =
      let r = good-after n (a ∷ seen) (next w mem a) s.1 (grown a seen s.0 g) in (r.0, omega (arith, r.1))
