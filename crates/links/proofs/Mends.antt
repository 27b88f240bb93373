-- What mending does to a chain.
-- Assumes nothing.
use Prim.Native.Nat.{ℕ, zero, suc, ◌+◌, ◌-◌, ◌/◌, ◌%◌, ◌≤◌, ◌<◌}
use mathlib.Core.Path.{◌≡◌, refl, sym, ap, subst, ◌∙◌}
use mathlib.Core.Bool.{true, false, false≢true}
use mathlib.Core.List.{List, [], ◌∷◌}
use native.Mathlib.Omega.{arith}
use lib.ListN.{length, get_or, set, take, drop, length-set}
use lib.Seq.{drop-set-lt, drop-set-add, take-set-le, get_or-set_same, get_or-set_other}
use borrow.Author.Tests.{eqb-true, ne_eqb}
use Rattle.words.specs.declared.Order.TheVariants.{LeastFirst}
use Rattle.words.specs.Orders.{number_of}
use Rattle.words.specs.Slices.{part, AllBytes}
use Rattle.words.proofs.Slices.{elements-part, part-part}
use Rattle.std.proofs.lemmas.Bool.{false_from_ne_true, or_parts}
use Rattle.bus.specs.declared.Window.{Window}
use Rattle.bus.specs.Window.{in_window, place_of}
use Rattle.descriptor.specs.declared.Descriptor.{Descriptor}
use Rattle.descriptor.specs.Layout.{owned, descriptor_of, descriptor_at}
use Rattle.descriptor.proofs.Reading.{there, by-offset}
use Rattle.links.specs.declared.Kind.TheVariants.{Sound}
use Rattle.links.specs.Form.{Link, link_at, links_from, link_after, Form}
use Rattle.links.specs.Verdicts.{meets, meets_any, stop, verdict, verdict_of, position_of, Front}
use Rattle.links.specs.Theorems.{Limited}
use Rattle.links.specs.Helpers.Cells.{Clear, below, above}
use Rattle.links.specs.Mending.{control_place, change_of, cleared_at, unowned, OneBit, Kept}
use Rattle.links.proofs.Looks.{next, owned_at, address_after, seen_after, after_is, Stands, Steady, AllOwned}
use Rattle.links.proofs.Placing.{meets-clear, In, in_is, steady-last, steady-more}
use Rattle.links.proofs.Meaning.{still, after-at, steady-form, front-steady, sound-from}
use Rattle.links.proofs.Bytes.{says_same}

-- ---- one byte set

set_before : (xs : List ℕ) (k x at n : ℕ) → k < at → part (set xs k x) at n ≡ part xs at n
set_before xs k x at n h = ap (take n) (drop-set-lt at xs k x h)

set-behind : (xs : List ℕ) (k x at n : ℕ) → at + n ≤ k → part (set xs k x) at n ≡ part xs at n
set-behind xs k x at n h =
    let i : k ≡ at + (k - at) = omega (arith, h) in
    ap (λ (j : ℕ). take n (drop at (set xs j x))) i ∙ ap (take n) (drop-set-add at xs (k - at) x) ∙ take-set-le n (drop at xs) (k - at) x (omega (arith, h))

control-is : (xs : List ℕ) (at : ℕ) → at + 32 ≤ length xs → (descriptor_at xs at).control.0 ≡ get_or xs (at + 31) 0
control-is xs at h =
    ap (λ (d : Descriptor). d.control.0) (there xs at h ∙ by-offset (part xs at 32))
    ∙ ap (number_of LeastFirst) (part-part xs at 32 31 1 (omega arith) ∙ sym (elements-part xs (at + 31) 1 (omega (arith, h))))
    ∙ omega arith

fields : {s d n l a t c s' d' n' l' a' t' c' : ℕ} → s ≡ s' → d ≡ d' → n ≡ n' → l ≡ l' → a ≡ a' → t ≡ t' → c ≡ c'
    → ◌≡◌ {A = Descriptor}
    (record { source = s; destination = d; next = n; length = l; actual = a; status = t; control = record { 0 = c } })
    (record { source = s'; destination = d'; next = n'; length = l'; actual = a'; status = t'; control = record { 0 = c' } })
fields e0 e1 e2 e3 e4 e5 e6 = cc

-- the descriptor whose last byte is set has another control, and is else the same
module _ (xs : List ℕ) (at x : ℕ) (h : at + 32 ≤ length xs) where
  abbrev after : List ℕ
  after = set xs (at + 31) x

  long : at + 32 ≤ length after
  long = let l = length-set xs (at + 31) x in omega (arith, h, l)

  field-stays : (D : Descriptor → ℕ) (k n : ℕ) → k + n ≤ 31 → ((ys : List ℕ) → D (descriptor_of ys) ≡ number_of LeastFirst (part ys k n))
      → D (descriptor_at after at) ≡ D (descriptor_at xs at)
  field-stays D k n g stands =
      ap D (there after at long) ∙ stands (part after at 32)
      ∙ ap (number_of LeastFirst)
      (part-part after at 32 k n (omega (arith, g)) ∙ set-behind xs (at + 31) x (at + k) n (omega (arith, g)) ∙ sym (part-part xs at 32 k n (omega (arith, g))))
      ∙ sym (stands (part xs at 32)) ∙ sym (ap D (there xs at h))

  control-set : (descriptor_at after at).control.0 ≡ x
  control-set = control-is after at long ∙ get_or-set_same xs (at + 31) x 0 (omega (arith, h))

  says-set : (c : ℕ) → c ≡ x → descriptor_at after at
      ≡ record {
        source = (descriptor_at xs at).source;
        destination = (descriptor_at xs at).destination;
        next = (descriptor_at xs at).next;
        length = (descriptor_at xs at).length;
        actual = (descriptor_at xs at).actual;
        status = (descriptor_at xs at).status;
        control = record { 0 = c };
      }
  says-set c e =
      fields
      (field-stays (λ (d : Descriptor). d.source) 0 4 (omega arith) (λ ys. ap (λ (d : Descriptor). d.source) (by-offset ys)))
      (field-stays (λ (d : Descriptor). d.destination) 8 4 (omega arith) (λ ys. ap (λ (d : Descriptor). d.destination) (by-offset ys)))
      (field-stays (λ (d : Descriptor). d.next) 16 4 (omega arith) (λ ys. ap (λ (d : Descriptor). d.next) (by-offset ys)))
      (field-stays (λ (d : Descriptor). d.length) 24 2 (omega arith) (λ ys. ap (λ (d : Descriptor). d.length) (by-offset ys)))
      (field-stays (λ (d : Descriptor). d.actual) 28 2 (omega arith) (λ ys. ap (λ (d : Descriptor). d.actual) (by-offset ys)))
      (field-stays (λ (d : Descriptor). d.status) 30 1 (omega arith) (λ ys. ap (λ (d : Descriptor). d.status) (by-offset ys)))
      (control-set ∙ sym e)

cleared : (c : ℕ) → owned (c % 128) ≡ false
cleared c = ne_eqb (c % 128 / 128 % 2) 1 (omega arith)

set-bit : (c : ℕ) → c < 256 → owned c ≡ true → c ≡ c % 128 + 128
set-bit c h e = let i = eqb-true (c / 128 % 2) 1 e in omega (arith, h, i)

byte_at : (xs : List ℕ) (i : ℕ) → AllBytes xs → get_or xs i 0 < 256
byte_at [] i b = omega arith
byte_at (x ∷ xs) zero b = b.0
byte_at (x ∷ xs) (suc i) b = byte_at xs i b.1

-- ---- two memories in which the first n say the same

module _ (w : Window) (m o : List ℕ) where
  abbrev Same : ℕ → ℕ → Type 0
  Same zero b = Unit {0}
  Same (suc n) b = (descriptor_at o (place_of w b) ≡ descriptor_at m (place_of w b)) × Same n (next w m b)

  next-same : (b : ℕ) → descriptor_at o (place_of w b) ≡ descriptor_at m (place_of w b) → next w o b ≡ next w m b
  next-same b e = ap (λ (d : Descriptor). d.next) e

  same_after : (n b : ℕ) → Same n b → address_after w o b n ≡ address_after w m b n
  same_after zero b s = refl
  same_after (suc n) b s = ap (λ (x : ℕ). address_after w o x n) (next-same b s.0) ∙ same_after n (next w m b) s.1

  same-links : (n b : ℕ) → Same n b → links_from w o b n ≡ links_from w m b n
  same-links zero b s = refl
  same-links (suc n) b s =
      ap (λ (x : ℕ). link_at w o b ∷ links_from w o x n) (next-same b s.0)
      ∙ ap (λ (ls : List Link). link_at w o b ∷ ls) (same-links n (next w m b) s.1)
      ∙ ap (λ (d : Descriptor). record { at = b; says = d } ∷ links_from w m (next w m b) n) s.0

  same_seen : (n : ℕ) (seen : List ℕ) (b : ℕ) → Same n b → seen_after w o seen b n ≡ seen_after w m seen b n
  same_seen zero seen b s = refl
  same_seen (suc n) seen b s =
      ap (λ (x : ℕ). seen_after w o (b ∷ seen) x n) (next-same b s.0) ∙ same_seen n (b ∷ seen) (next w m b) s.1

  same-steady : (n : ℕ) (seen : List ℕ) (b : ℕ) → Same n b → Steady w m seen b n → Steady w o seen b n
  same-steady zero seen b s t = tt
  same-steady (suc n) seen b s t = (
    record { aligned = t.0.aligned; inside = t.0.inside; apart = t.0.apart },
    subst (λ (x : ℕ). Steady w o (b ∷ seen) x n) (sym (next-same b s.0)) (same-steady n (b ∷ seen) (next w m b) s.1 t.1),
  )

  same-owned : (n b : ℕ) → Same n b → AllOwned w m b n → AllOwned w o b n
  same-owned zero b s t = tt
  same-owned (suc n) b s t = (
    ap (λ (d : Descriptor). owned d.control.0) s.0 ∙ t.0,
    subst (λ (x : ℕ). AllOwned w o x n) (sym (next-same b s.0)) (same-owned n (next w m b) s.1 t.1),
  )

owned-less : (w : Window) (m : List ℕ) (n b : ℕ) → AllOwned w m b (suc n) → AllOwned w m b n × (owned_at w m (address_after w m b n) ≡ true)
owned-less w m zero b t = (tt, t.0)
owned-less w m (suc n) b t = let r = owned-less w m n (next w m b) t.1 in ((t.0, r.0), r.1)

-- ---- a byte of the descriptor at a, and all that are apart from it

module _ (w : Window) (m : List ℕ) (a x : ℕ) (i : In w a) where
  untouched : (b : ℕ) → In w b → meets a b ≡ false
      → descriptor_at (set m (control_place w a) x) (place_of w b) ≡ descriptor_at m (place_of w b)
  untouched b j e =
      says_same (set m (control_place w a) x) m (place_of w b) (by (meets-clear a b e))
    where
      by : Clear a b → part (set m (control_place w a) x) (place_of w b) 32 ≡ part m (place_of w b) 32
      by (below k) = set-behind m (control_place w a) x (place_of w b) 32 (omega (arith, k, i.low, j.low))
      by (above k) = set_before m (control_place w a) x (place_of w b) 32 (omega (arith, k, i.low, j.low))

  not-before : (n : ℕ) (seen : List ℕ) (b : ℕ) → meets_any a (seen_after w m seen b n) ≡ false → meets_any a seen ≡ false
  not-before n seen b e = false_from_ne_true (meets_any a seen) (λ g. false≢true (sym e ∙ still w m n a seen b g))

  stays_same : (n : ℕ) (seen : List ℕ) (b : ℕ) → Steady w m seen b n → meets_any a (seen_after w m seen b n) ≡ false
      → Same w m (set m (control_place w a) x) n b
  stays_same zero seen b s e = tt
  stays_same (suc n) seen b s e = (
    untouched b (in_is w b s.0.inside) (or_parts (meets a b) (meets_any a seen) (not-before n (b ∷ seen) (next w m b) e)).0,
    stays_same n (b ∷ seen) (next w m b) s.1 e,
  )

-- ---- a chain that is cut behind its descriptor at position k

module _ (w : Window) (m : List ℕ) (lim : Limited w) (whole : length m ≡ w.length) (p k : ℕ) (f : Front w m p (suc k)) where
  abbrev a : ℕ
  a = address_after w m p k

  abbrev o : List ℕ
  o = cleared_at w m a

  steps : Steady w m [] p k × Stands w m (seen_after w m [] p k) a
  steps = steady-last w m k [] p (front-steady w m p (suc k) f)

  inside-a : In w a
  inside-a = in_is w a steps.1.inside

  fits : place_of w a + 32 ≤ length m
  fits = let h = inside-a.high in let l = inside-a.low in omega (arith, h, l, whole)

  the_same : Same w m o k p
  the_same = stays_same w m a (get_or m (control_place w a) 0 % 128) inside-a k [] p steps.0 steps.1.apart

  stays : address_after w o p k ≡ a
  stays = same_after w m o k p the_same

  still-stands : Stands w o (seen_after w o [] p k) (address_after w o p k)
  still-stands =
      record {
        aligned = ap (λ (x : ℕ). x % 4) stays ∙ steps.1.aligned;
        inside = ap (λ (x : ℕ). in_window w x 32) stays ∙ steps.1.inside;
        apart = ap (λ (x : ℕ). meets_any x (seen_after w o [] p k)) stays ∙ ap (meets_any a) (same_seen w m o k [] p the_same) ∙ steps.1.apart;
      }

  was-control : (descriptor_at m (place_of w a)).control.0 ≡ get_or m (control_place w a) 0
  was-control = let g = fits in control-is m (place_of w a) g

  now-unowned : owned_at w o a ≡ false
  now-unowned = let g = fits in ap owned (control-set m (place_of w a) (get_or m (control_place w a) 0 % 128) g) ∙ cleared (get_or m (control_place w a) 0)

  pub cut-form : Form w o p k
  cut-form =
      steady-form w o p k
      (steady-more w o k [] p (same-steady w m o k [] p the_same steps.0) still-stands)
      (same-owned w m o k p the_same (owned-less w m k p f.k_owned).0)
      (ap (owned_at w o) stays ∙ now-unowned)

  was-owned : owned (get_or m (control_place w a) 0) ≡ true
  was-owned = ap owned (sym was-control) ∙ (owned-less w m k p f.k_owned).1

  end_is : link_after w o p k ≡ unowned (link_after w m p k)
  end_is =
      let g = fits in
      let c = ap (λ (x : ℕ). x % 128) was-control in
      after_is w o p k ∙ ap (link_at w o) stays
      ∙ ap (λ (d : Descriptor). record { at = a; says = d }) (says-set m (place_of w a) (get_or m (control_place w a) 0 % 128) g _ c)
      ∙ sym (ap unowned (after_is w m p k))

  pub the_kept : position_of (verdict_of w m p) ≡ suc k → Kept w m p k (change_of w m a) o
  the_kept e =
      record {
        position = e ∙ one;
        address_is = sym (after-at w m p k);
        first_k = same-links w m o k p the_same;
        end_is = end_is;
        sound = sound-from w o lim p k cut-form ∙ ap (λ (x : ℕ). verdict Sound (stop k x)) stays;
      }
    where
      one : suc k ≡ k + 1
      one = omega arith

  pub one_bit : AllBytes m → OneBit m (control_place w a) (change_of w m a) o
  one_bit b =
      record {
        old = refl;
        new = let g = fits in sym (get_or-set_same m (control_place w a) (get_or m (control_place w a) 0 % 128) 0 (omega (arith, g)));
        bit = set-bit (get_or m (control_place w a) 0) (byte_at m (control_place w a) b) was-owned;
        others = λ j h. get_or-set_other m (control_place w a) j (get_or m (control_place w a) 0 % 128) 0 h;
        size = length-set m (control_place w a) (get_or m (control_place w a) 0 % 128);
      }
