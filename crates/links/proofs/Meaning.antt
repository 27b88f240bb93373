-- What the verdict means: the theorems.
-- Assumes nothing.
use Rattle.std.specs.Prelude.{Some, ◌↔◌}
use Prim.Native.Nat.{ℕ, zero, suc, ◌%◌, ◌≤◌, ◌<◌}
use mathlib.Core.Path.{◌≡◌, refl, sym, ap, subst, ◌∙◌}
use mathlib.Core.Bool.{Bool, true, false, ◌||◌, false≢true, or-true}
use mathlib.Core.List.{List, [], ◌∷◌}
use native.Mathlib.Omega.{arith}
use lib.ListN.{length}
use Rattle.bus.specs.declared.Window.{Window}
use Rattle.bus.specs.Window.{in_window}
use Rattle.descriptor.specs.Layout.{owned}
use Rattle.links.specs.declared.Kind.{Kind}
use Rattle.links.specs.declared.Kind.TheVariants.{Sound, Misaligned, Outside, Overlaps}
use Rattle.links.specs.Form.{Link, links_from, link_after, Placed, Form}
use Rattle.links.specs.Verdicts.{meets, meets_any, stop, verdict, walk, verdict_of, Front, Reached, KindMeans, Means, IsOverlapping, position_of, read_to}
use Rattle.links.specs.Theorems.{Limited, SoundExactly, OneForm, MisalignedExactly, OutsideExactly, OverlapsExactly, VerdictMeans, SoundAtMost, StopsAtMost, ReadAtMost, MoreTellTheSame}
use Rattle.links.proofs.Looks.{next, owned_at, address_after, seen_after, after_is, Steady, AllOwned, View, see-misaligned, see-outside, see-overlaps, see-end, Ends, stops, spent, ends, goes}
use Rattle.links.proofs.Placing.{meets-shares, shares-meets, steady-placed, placed_first, every-is, steady-last, steady-more}
use Rattle.links.proofs.Pigeons.{apart-at-most}

module _ (w : Window) (mem : List ℕ) where
  pub after-at : (a n : ℕ) → (link_after w mem a n).at ≡ address_after w mem a n
  after-at a n = ap (λ (l : Link). l.at) (after_is w mem a n)

  pub after_owned : (a n : ℕ) → owned (link_after w mem a n).says.control.0 ≡ owned_at w mem (address_after w mem a n)
  after_owned a n = ap (λ (l : Link). owned l.says.control.0) (after_is w mem a n)

  -- which one is met
  data Which (b : ℕ) (seen : List ℕ) (a n : ℕ) : Type 0 where
    this : (m : ℕ) → m < n → meets b (address_after w mem a m) ≡ true → Which b seen a n
    seen-before : meets_any b seen ≡ true → Which b seen a n

  which : (n b : ℕ) (seen : List ℕ) (a : ℕ) → meets_any b (seen_after w mem seen a n) ≡ true → Which b seen a n
  which zero b seen a e = seen-before e
  which (suc n) b seen a e = by (which n b (a ∷ seen) (next w mem a) e)
    where
      or : (p : Bool) → meets b a ≡ p → (p || meets_any b seen) ≡ true → Which b seen a (suc n)
      or true x y = this 0 (omega arith) x
      or false x y = seen-before y

      by : Which b (a ∷ seen) (next w mem a) n → Which b seen a (suc n)
      by (this m h x) = this (suc m) (omega (arith, h)) x
      by (seen-before x) = or (meets b a) refl x

  pub still : (n b : ℕ) (seen : List ℕ) (a : ℕ) → meets_any b seen ≡ true → meets_any b (seen_after w mem seen a n) ≡ true
  still zero b seen a e = e
  still (suc n) b seen a e = still n b (a ∷ seen) (next w mem a) (ap (λ (x : Bool). meets b a || x) e ∙ or-true (meets b a))

  met-one : (m n b : ℕ) (seen : List ℕ) (a : ℕ) → m < n → meets b (address_after w mem a m) ≡ true → meets_any b (seen_after w mem seen a n) ≡ true
  met-one m zero b seen a h e = absurd (omega (arith, h))
  met-one zero (suc n) b seen a h e = still n b (a ∷ seen) (next w mem a) (ap (λ (x : Bool). x || meets_any b seen) e)
  met-one (suc m) (suc n) b seen a h e = met-one m n b (a ∷ seen) (next w mem a) (omega (arith, h)) e

  -- ---- the form, by steady walks

  pub form-steady : (p k : ℕ) → Form w mem p k → Steady w mem [] p (suc k)
  form-steady p k f = placed_first w mem (suc k) p (subst (λ (ls : List Link). Placed w ls) (sym (every-is w mem p k)) f.placed)

  pub steady-form : (p k : ℕ) → Steady w mem [] p (suc k) → AllOwned w mem p k → owned_at w mem (address_after w mem p k) ≡ false → Form w mem p k
  steady-form p k s o e =
      record {
        k_owned = o;
        last_unowned = after_owned p k ∙ e;
        placed = subst (λ (ls : List Link). Placed w ls) (every-is w mem p k) (steady-placed w mem (suc k) [] p s).0;
      }

  pub front_of : (p k : ℕ) → Steady w mem [] p k → AllOwned w mem p k → Front w mem p k
  front_of p k s o = record { k_owned = o; placed = (steady-placed w mem k [] p s).0 }

  pub front-steady : (p k : ℕ) → Front w mem p k → Steady w mem [] p k
  front-steady p k f = placed_first w mem k p f.placed

  reached-of : (p k : ℕ) → Steady w mem [] p k → AllOwned w mem p k → Reached w mem p k (address_after w mem p k)
  reached-of p k s o = record { front = front_of p k s o; address_is = sym (after-at p k) }

  -- ---- the verdict, by where the walk ends

  pub verdict-goes : (p k : ℕ) → k < 2049 → Steady w mem [] p k → AllOwned w mem p k
      → (f : Kind) → View w mem (seen_after w mem [] p k) (address_after w mem p k) (Some f) → verdict_of w mem p ≡ verdict f (stop k (address_after w mem p k))
  unfolding verdict_of
  verdict-goes p k h s o f y = goes w mem k 2049 [] 0 k p h (omega arith) s o f y

  verdict-ends : (p : ℕ) → Ends w mem [] 2049 0 p (verdict_of w mem p)
  unfolding verdict_of
  verdict-ends p = ends w mem 2049 [] 0 p (verdict_of w mem p) refl

  over : (p k : ℕ) → Steady w mem [] p k → AllOwned w mem p k → address_after w mem p k % 4 ≡ 0 → in_window w (address_after w mem p k) 32 ≡ true
      → meets_any (address_after w mem p k) (seen_after w mem [] p k) ≡ true → IsOverlapping w mem p k (address_after w mem p k)
  over p k s o h f g = by (which k (address_after w mem p k) [] p g)
    where
      by : Which (address_after w mem p k) [] p k → IsOverlapping w mem p k (address_after w mem p k)
      by (this m l e) =
          record {
            reached = reached-of p k s o;
            aligned = h;
            inside = f;
            earlier = m;
            before = l;
            here = meets-shares (link_after w mem p m) (link_after w mem p k)
                (ap (λ (x : ℕ). meets x (link_after w mem p m).at) (after-at p k) ∙ ap (λ (x : ℕ). meets (address_after w mem p k) x) (after-at p m) ∙ e);
          }
      by (seen-before e) = absurd (false≢true e)

  means-by : (p m : ℕ) → Steady w mem [] p m → AllOwned w mem p m → (f : Kind)
      → View w mem (seen_after w mem [] p m) (address_after w mem p m) (Some f) → KindMeans f w mem p m (address_after w mem p m)
  means-by p m s o Misaligned (see-misaligned h) = record { reached = reached-of p m s o; here = h }
  means-by p m s o Outside (see-outside h f) = record { reached = reached-of p m s o; aligned = h; here = f }
  means-by p m s o Overlaps (see-overlaps h f g) = over p m s o h f g
  means-by p m s o Sound (see-end t u) =
      record { form = steady-form p m (steady-more w mem m [] p s t) o u; end_is = sym (after-at p m) }

  linked : (a n : ℕ) → length (links_from w mem a n) ≡ n
  linked a zero = refl
  linked a (suc n) = ap (λ (k : ℕ). suc k) (linked (next w mem a) n)

  module _ (lim : Limited w) where
    -- a steady walk has at most so many
    pub steady-most : (n a : ℕ) → Steady w mem [] a n → n ≤ 2048
    steady-most n a s =
        let m = apart-at-most w (links_from w mem a n) lim (steady-placed w mem n [] a s).0 in
        let l = linked a n in
        omega (arith, m, l)

    -- so a walk of 2,049 is never spent
    data Stopped (p : ℕ) : Type 0 where
      stopped : (m : ℕ) → m < 2049 → Steady w mem [] p m → AllOwned w mem p m → (f : Kind)
          → View w mem (seen_after w mem [] p m) (address_after w mem p m) (Some f)
          → verdict_of w mem p ≡ verdict f (stop m (address_after w mem p m)) → Stopped p

    verdict-stops : (p : ℕ) → Stopped p
    verdict-stops p = by (verdict-ends p)
      where
        by : Ends w mem [] 2049 0 p (verdict_of w mem p) → Stopped p
        by (spent s o) = absurd (let h = steady-most 2049 p s in omega (arith, h))
        by (stops m j h e s o f y g) =
            let i : j ≡ m = omega (arith, e) in stopped m h s o f y (g ∙ ap (λ (k : ℕ). verdict f (stop k (address_after w mem p m))) i)

    pub means : (p : ℕ) → Means w mem p (verdict_of w mem p)
    means p = by (verdict-stops p)
      where
        by : Stopped p → Means w mem p (verdict_of w mem p)
        by (stopped m h s o f y g) = subst (Means w mem p) (sym g) (means-by p m s o f y)

    pub few : (p k : ℕ) → Form w mem p k → k ≤ 2047
    few p k f = let h = steady-most (suc k) p (form-steady p k f) in omega (arith, h)

    pub sound-from : (p k : ℕ) → Form w mem p k → verdict_of w mem p ≡ verdict Sound (stop k (address_after w mem p k))
    sound-from p k f =
        let h = few p k f in
        let s = steady-last w mem k [] p (form-steady p k f) in
        verdict-goes p k (omega (arith, h)) s.0 f.k_owned Sound (see-end s.1 (sym (after_owned p k) ∙ f.last_unowned))

    defect-from : (p k a : ℕ) (f : Kind) → Reached w mem p k a → View w mem (seen_after w mem [] p k) a (Some f)
        → verdict_of w mem p ≡ verdict f (stop k a)
    defect-from p k a f r y =
        let e = r.address_is ∙ after-at p k in
        let s = front-steady p k r.front in
        let h = steady-most k p s in
        verdict-goes p k (omega (arith, h)) s r.front.k_owned f (subst (λ (b : ℕ). View w mem (seen_after w mem [] p k) b (Some f)) e y)
        ∙ ap (λ (b : ℕ). verdict f (stop k b)) (sym e)

    met-earlier : (p k a : ℕ) (d : IsOverlapping w mem p k a) → meets_any a (seen_after w mem [] p k) ≡ true
    met-earlier p k a d =
        met-one d.earlier k a [] p d.before
        (ap (λ (x : ℕ). meets x (address_after w mem p d.earlier)) d.reached.address_is
        ∙ ap (meets (link_after w mem p k).at) (sym (after-at p d.earlier))
        ∙ shares-meets (link_after w mem p d.earlier) (link_after w mem p k) d.here)

    -- what holds of the chain is told
    pub told-from : (p k a : ℕ) (f : Kind) → KindMeans f w mem p k a → verdict_of w mem p ≡ verdict f (stop k a)
    told-from p k a Sound d = sound-from p k d.form ∙ ap (λ (b : ℕ). verdict Sound (stop k b)) (sym (d.end_is ∙ after-at p k))
    told-from p k a Misaligned d = defect-from p k a Misaligned d.reached (see-misaligned d.here)
    told-from p k a Outside d = defect-from p k a Outside d.reached (see-outside d.aligned d.here)
    told-from p k a Overlaps d = defect-from p k a Overlaps d.reached (see-overlaps d.aligned d.inside (met-earlier p k a d))

    most : (p : ℕ) → position_of (verdict_of w mem p) ≤ 2048
    most p = by (verdict-stops p)
      where
        by : Stopped p → position_of (verdict_of w mem p) ≤ 2048
        by (stopped m h s o f y g) = let i = ap position_of g in omega (arith, i, h)

    read_by : (p : ℕ) (f : Kind) (k a : ℕ) → KindMeans f w mem p k a → k ≤ 2048 → read_to f k ≤ 2048
    read_by p Sound k a x h = let f = few p k x.form in omega (arith, f)
    read_by p Misaligned k a x h = h
    read_by p Outside k a x h = h
    read_by p Overlaps k a x h = h

    more : (p n : ℕ) → 2049 ≤ n → walk w mem [] n 0 p ≡ verdict_of w mem p
    more p n k = by (verdict-stops p)
      where
        by : Stopped p → walk w mem [] n 0 p ≡ verdict_of w mem p
        by (stopped m h s o f y g) = goes w mem m n [] 0 m p (omega (arith, h, k)) (omega arith) s o f y ∙ sym g

    -- each kind is told exactly where it holds of the chain
    exactly : (p k a : ℕ) (f : Kind) → (verdict_of w mem p ≡ verdict f (stop k a)) ↔ KindMeans f w mem p k a
    exactly p k a f = (λ v. subst (Means w mem p) v (means p), told-from p k a f)

-- ---- the theorems

pub verdict-means : VerdictMeans
verdict-means w mem p lim = means w mem lim p

pub sound-exactly : SoundExactly
sound-exactly w mem p k e lim = exactly w mem lim p k e Sound

pub one_form : OneForm
one_form w mem p k l lim f g = ap position_of (sym (sound-from w mem lim p k f) ∙ sound-from w mem lim p l g)

pub misaligned-exactly : MisalignedExactly
misaligned-exactly w mem p k a lim = exactly w mem lim p k a Misaligned

pub outside-exactly : OutsideExactly
outside-exactly w mem p k a lim = exactly w mem lim p k a Outside

pub overlaps-exactly : OverlapsExactly
overlaps-exactly w mem p k a lim = exactly w mem lim p k a Overlaps

pub sound-at-most : SoundAtMost
sound-at-most w mem p k lim f = few w mem lim p k f

pub stops-at-most : StopsAtMost
stops-at-most w mem p lim = most w mem lim p

pub read-at-most : ReadAtMost
read-at-most w mem p lim = read_by w mem lim p _ _ _ (means w mem lim p) (most w mem lim p)

pub more-tell-the-same : MoreTellTheSame
more-tell-the-same w mem p n lim h = more w mem lim p n h
