-- No more than 2,048 descriptors are apart in a window.
-- Assumes nothing.
use Prim.Native.Nat.{ℕ, zero, suc, ◌+◌, ◌/◌, ◌%◌, ◌≤◌, ◌<◌}
use mathlib.Core.Path.{◌≡◌, refl, sym, ap, subst, ◌∙◌}
use mathlib.Core.Bool.{false}
use mathlib.Core.List.{List, [], ◌∷◌, map}
use native.Mathlib.Omega.{arith}
use lib.Dec.{eqb}
use lib.ListN.{length, get_or, set, replicate, length-set, length-replicate, get_or-replicate}
use lib.Seq.{get_or-set_same, get_or-set_other}
use borrow.Author.Tests.{eqb-true, eqb-false, ne_eqb, leb-true}
use Rattle.std.proofs.lemmas.Bool.{cond_both, and_parts, or_from}
use Rattle.std.proofs.lemmas.List.{length-map}
use Rattle.bus.specs.declared.Window.{Window}
use Rattle.links.specs.Helpers.Cells.{Clear, mark_of}
use Rattle.links.proofs.CellLaws.{clear-free, filled, filled-front, filled-set}
use Rattle.bus.specs.Window.{keeps_limits}
use Rattle.links.specs.Form.{All, Pairwise, Link, Apart, Placed}
use Rattle.links.specs.Verdicts.{meets, meets_any}
use Rattle.links.specs.Theorems.{Limited, ApartAtMost}
use Rattle.links.proofs.Placing.{apart-meets, place_in, places, In, in_is, Good, apart-clear}

-- a cell set to say where a block starts says what those of the blocks say
pub marked : (xs qs : List ℕ) (k q c : ℕ) → q / 32 ≡ k → k < length xs → get_or xs c 0 ≡ mark_of c qs
    → get_or (set xs k (1 + q % 32)) c 0 ≡ mark_of c (q ∷ qs)
marked xs qs k q c e h f =
    cond_both (eqb (q / 32) c) (1 + q % 32) (mark_of c qs) (λ x. get_or (set xs k (1 + q % 32)) c 0 ≡ x)
    (λ g. ap (λ (j : ℕ). get_or (set xs k (1 + q % 32)) j 0) (sym (eqb-true (q / 32) c g) ∙ e) ∙ get_or-set_same xs k (1 + q % 32) 0 h)
    (λ g. get_or-set_other xs k c (1 + q % 32) 0 (λ i. eqb-false (q / 32) c g (e ∙ sym i)) ∙ f)

-- of blocks in so many cells
abbrev fill : ℕ → List ℕ → List ℕ
fill n [] = replicate n 0
fill n (q ∷ qs) = set (fill n qs) (q / 32) (1 + q % 32)

fill-length : (n : ℕ) (qs : List ℕ) → length (fill n qs) ≡ n
fill-length n [] = length-replicate n 0
fill-length n (q ∷ qs) = length-set (fill n qs) (q / 32) (1 + q % 32) ∙ fill-length n qs

fill-says : (n : ℕ) (qs : List ℕ) (c : ℕ) → c < n → All (λ q. q / 32 < n) qs → get_or (fill n qs) c 0 ≡ mark_of c qs
fill-says n [] c h b = get_or-replicate n c 0 0 h
fill-says n (q ∷ qs) c h b =
    marked (fill n qs) qs (q / 32) q c refl (subst (λ (k : ℕ). q / 32 < k) (sym (fill-length n qs)) b.0) (fill-says n qs c h b.1)

none_filled : (n : ℕ) → filled (replicate n 0) ≡ 0
none_filled zero = refl
none_filled (suc n) = let h = none_filled n in omega (arith, h)

fill-count : (n : ℕ) (qs : List ℕ) → All (λ q. q / 32 < n) qs → Pairwise Clear qs → filled (fill n qs) ≡ length qs
fill-count n [] b a = none_filled n
fill-count n (q ∷ qs) b a =
    let says = fill-says n qs (q / 32) b.0 b.1 ∙ (clear-free q qs a.0).here in
    let h : q / 32 < length (fill n qs) = subst (λ (k : ℕ). q / 32 < k) (sym (fill-length n qs)) b.0 in
    let more = filled-set (fill n qs) (q / 32) (q % 32) h says in
    let rest = fill-count n qs b.1 a.1 in
    ap (λ (x : ℕ). filled (set (fill n qs) (q / 32) x)) (one (q % 32)) ∙ omega (arith, more, rest)
  where
    one : (x : ℕ) → 1 + x ≡ suc x
    one x = omega arith

-- blocks apart in n cells of which none starts in the first are fewer
pigeons : (n : ℕ) (qs : List ℕ) → 1 ≤ n → mark_of 0 qs ≡ 0 → All (λ q. q / 32 < n) qs → Pairwise Clear qs → length qs + 1 ≤ n
pigeons n qs k m b a =
    let f = fill-count n qs b a in
    let h = fill-length n qs in
    let g = filled-front (fill n qs) (omega (arith, h, k)) (fill-says n qs 0 k b ∙ m) in
    omega (arith, f, g, h)

module _ (w : Window) (small : w.length ≤ 65536) where
  none-first : (bs : List ℕ) → mark_of 0 (places w bs) ≡ 0
  none-first [] = refl
  none-first (b ∷ bs) = rw (ne_eqb (place_in w b / 32) 0 (λ e. omega (arith, e))) (none-first bs)

  below-last : (bs : List ℕ) → All (In w) bs → All (λ q. q / 32 < 2049) (places w bs)
  below-last [] t = tt
  below-last (b ∷ bs) t = (omega (arith, small, t.0.low, t.0.high), below-last bs t.1)

  pub at_most : (seen : List ℕ) → Good w seen → length seen ≤ 2048
  at_most seen g =
      let p = pigeons 2049 (places w seen) (omega arith) (none-first seen) (below-last seen g.within) g.apart in
      let l = length-map seen (place_in w) in
      omega (arith, p, l)

-- ---- descriptors that are placed

-- a window that keeps the limits is no longer than that
pub limit : (w : Window) → Limited w → w.length ≤ 65536
unfolding keeps_limits
limit w e = leb-true w.length 65536 (and_parts _ _ (and_parts _ _ e).0).0

abbrev addresses : List Link → List ℕ
addresses ls = map (λ (l : Link). l.at) ls

none-met : (l : Link) (ls : List Link) → All (Apart l) ls → meets_any l.at (addresses ls) ≡ false
none-met l [] t = refl
none-met l (m ∷ ls) t =
    or_from (meets l.at m.at) (meets_any l.at (addresses ls))
    (apart-meets m l (λ i h j g e. t.0 j g i h (sym e)))
    (none-met l ls t.1)

module _ (w : Window) where
  good_of : (ls : List Link) → Placed w ls → Good w (addresses ls)
  good_of [] p = record { within = tt; apart = tt }
  good_of (l ∷ ls) p =
      let g = good_of ls (record { aligned = p.aligned.1; inside = p.inside.1; apart = p.apart.1 }) in
      let x = in_is w l.at p.inside.0 in
      record {
        within = (x, g.within);
        apart = (apart-clear w l.at (addresses ls) x g.within (none-met l ls p.apart.0), g.apart);
      }

pub apart-at-most : ApartAtMost
apart-at-most w ls lim p =
    let m = at_most w (limit w lim) (addresses ls) (good_of w ls p) in
    let l = length-map ls (λ (m : Link). m.at) in
    omega (arith, m, l)
