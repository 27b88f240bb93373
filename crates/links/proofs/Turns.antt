-- The loop of the check: what holds before each turn, and each way out of one.
-- Assumes nothing.
use Rattle.std.specs.Prelude.{Result, Ok, Err, Some, ◌↔◌}
use Prim.Native.Nat.{ℕ, zero, suc, ◌+◌, ◌-◌, ◌/◌, ◌%◌, ◌≤◌, ◌<◌}
use mathlib.Core.Path.{◌≡◌, refl, sym, ap, subst, ◌∙◌}
use mathlib.Core.Bool.{Bool, true, false, ◌&&◌, ◌||◌, false≢true}
use mathlib.Core.List.{List, [], ◌∷◌}
use native.Mathlib.Omega.{arith}
use lib.Dec.{eqb, ltb, leb}
use lib.ListN.{length, get_or, set, replicate, length-set, length-replicate, get_or-replicate}
use Rattle.std.proofs.lemmas.Bool.Decides.{nat_tests}
use Rattle.std.proofs.lemmas.Bool.{true_from_ne_false}
use Rattle.bus.specs.declared.Window.{Window}
use Rattle.bus.specs.declared.Place.{Place}
use Rattle.bus.specs.Window.{in_window, place_of}
use Rattle.descriptor.specs.declared.Descriptor.{Descriptor}
use Rattle.descriptor.specs.declared.Miss.{Miss}
use Rattle.descriptor.specs.declared.Miss.TheVariants as miss
use Rattle.descriptor.specs.Layout.{owned, descriptor_at}
use Rattle.descriptor.specs.Looking.{spot_of}
use Rattle.links.specs.declared.Kind.{Kind}
use Rattle.links.specs.declared.Kind.TheVariants.{Sound, Misaligned, Outside, Overlaps}
use Rattle.links.specs.Form.{link_at}
use Rattle.links.specs.Helpers.Cells.{mark_of, Free, free_in}
use Rattle.links.specs.Helpers.Walks.{last_before, Walks}
use Rattle.links.specs.Theorems.{Limited}
use Rattle.links.specs.Verdicts.{meets_any, stop, verdict, kind_of}
use Rattle.links.proofs.CellLaws.{clear-free, free-clear}
use Rattle.links.proofs.Looks.{Spotted, unaligned, out, there, spotted, next, owned_at, address_after, seen_after, Stands, Steady, AllOwned, View, see-misaligned, see-outside, see-overlaps, see-end}
use Rattle.links.proofs.Placing.{place_in, places, In, in_is, Good, apart-clear, clear_apart, good-after, steady-more}
use Rattle.links.proofs.Pigeons.{limit, marked}
use Rattle.links.proofs.Meaning.{verdict-goes, after-at, steady-most}

-- ---- cells

abbrev pub Tells : List ℕ → List ℕ → Type 0
Tells xs qs = (c : ℕ) → c < 2050 → get_or xs c 0 ≡ mark_of c qs

-- what three looks at cells tell
looks : (a b c r : ℕ) → ((eqb a 0 && leb b (r + 1) && (eqb c 0 || ltb r c)) ≡ true) ↔ ((a ≡ 0) × ((b ≤ r + 1) × (1 ≤ c → r < c)))
looks a b c r = (
  λ e. (grind (arith, nat_tests), (grind (arith, nat_tests), λ h. grind (arith, nat_tests))),
  λ f. let g = f.1.1 in grind (arith, nat_tests),
)

module _ (xs qs : List ℕ) (p : ℕ) (t : Tells xs qs) (l : 32 ≤ p) (h : p ≤ 65536) where
  here-is : get_or xs (p / 32) 0 ≡ mark_of (p / 32) qs
  here-is = t (p / 32) (omega (arith, h))

  low-is : (c : ℕ) → p / 32 ≡ c + 1 → get_or xs (p / 32 - 1) 0 ≡ mark_of c qs
  low-is c e = let i : p / 32 - 1 ≡ c = omega (arith, e) in ap (λ (k : ℕ). get_or xs k 0) i ∙ t c (omega (arith, h, e))

  high_is : get_or xs (p / 32 + 1) 0 ≡ mark_of (p / 32 + 1) qs
  high_is = t (p / 32 + 1) (omega (arith, h))

  pub free-is : free_in xs p ≡ true → Free p qs
  free-is e =
      let f = (looks (get_or xs (p / 32) 0) (get_or xs (p / 32 - 1) 0) (get_or xs (p / 32 + 1) 0) (p % 32)).0 e in
      record {
        here = sym here-is ∙ f.0;
        low = λ c g. subst (λ (x : ℕ). x ≤ p % 32 + 1) (low-is c g) f.1.0;
        high = subst (λ (x : ℕ). 1 ≤ x → p % 32 < x) high_is f.1.1;
      }

  pub free-makes : Free p qs → free_in xs p ≡ true
  free-makes f =
      let i : p / 32 ≡ p / 32 - 1 + 1 = omega (arith, l) in
      (looks (get_or xs (p / 32) 0) (get_or xs (p / 32 - 1) 0) (get_or xs (p / 32 + 1) 0) (p % 32)).1 (
        here-is ∙ f.here,
        (
          subst (λ (x : ℕ). x ≤ p % 32 + 1) (sym (low-is (p / 32 - 1) i)) (f.low (p / 32 - 1) i),
          subst (λ (x : ℕ). 1 ≤ x → p % 32 < x) (sym high_is) f.high,
        ),
      )

-- ---- the turns

module _ (w : Window) (mem : List ℕ) where
  pub after-suc : (n a : ℕ) → address_after w mem a (suc n) ≡ next w mem (address_after w mem a n)
  after-suc zero a = refl
  after-suc (suc n) a = after-suc n (next w mem a)

  pub seen-suc : (n : ℕ) (seen : List ℕ) (a : ℕ) → seen_after w mem seen a (suc n) ≡ address_after w mem a n ∷ seen_after w mem seen a n
  seen-suc zero seen a = refl
  seen-suc (suc n) seen a = seen-suc n (a ∷ seen) (next w mem a)

  pub owned-more : (n a : ℕ) → AllOwned w mem a n → owned_at w mem (address_after w mem a n) ≡ true → AllOwned w mem a (suc n)
  owned-more zero a o e = (e, tt)
  owned-more (suc n) a o e = (o.0, owned-more n (next w mem a) o.1 e)

  -- before the turn at a position
  pub record Turn (p : ℕ) (xs : List ℕ) (last address position : ℕ) : Type 0 where
    pub long : length xs ≡ 2050
    pub last_is : last ≡ last_before w mem p position
    pub address_is : address ≡ address_after w mem p position
    pub steady : Steady w mem [] p position
    pub all-owned : AllOwned w mem p position
    pub tells : Tells xs (places w (seen_after w mem [] p position))

  pub first-turn : (p : ℕ) → Turn p (replicate 2050 0) p p 0
  first-turn p =
      record {
        long = length-replicate {A = ℕ} 2050 0;
        last_is = refl;
        address_is = refl;
        steady = tt;
        all-owned = tt;
        tells = λ c h. get_or-replicate {A = ℕ} 2050 c 0 0 h;
      }

  way_out : {p i a : ℕ} {xs : List ℕ} {b : ℕ} → Turn p xs b a i → i < 2049 → (f : Kind) → View w mem (seen_after w mem [] p i) a (Some f)
      → Walks w mem p (record { verdict = verdict f (stop i a); last = b })
  way_out {p} {i} t h f y =
      record {
        verdict_is = ap (λ (b : ℕ). verdict f (stop i b)) t.address_is
            ∙ sym (verdict-goes w mem p i h t.steady t.all-owned f (subst (λ (b : ℕ). View w mem (seen_after w mem [] p i) b (Some f)) t.address_is y));
        last_is = t.last_is;
      }

-- the way out where the look at the address finds no place
pub out-missed : {w : Window} {mem : List ℕ} {p : ℕ} {xs : List ℕ} {b a i : ℕ} → Turn w mem p xs b a i → i < 2049
    → (m : Miss) → spot_of w a ≡ Err m → {f : Kind} → f ≡ kind_of m → Walks w mem p (record { verdict = verdict f (stop i a); last = b })
out-missed {w} {mem} {p} {b = b} {a = a} {i = i} t h m e f =
    subst (λ (x : Kind). Walks w mem p (record { verdict = verdict x (stop i a); last = b })) (sym f) (by m (subst (Spotted w a) e (spotted w a)))
  where
    by : (m : Miss) → Spotted w a (Err m) → Walks w mem p (record { verdict = verdict (kind_of m) (stop i a); last = b })
    by miss.Misaligned (unaligned f) = way_out w mem t h Misaligned (see-misaligned f)
    by miss.Outside (out f g) = way_out w mem t h Outside (see-outside f g)

-- where it finds a place: that of an address which is aligned and in the window
pub record Found (w : Window) (a n : ℕ) : Type 0 where
  pub aligned : a % 4 ≡ 0
  pub inside : in_window w a 32 ≡ true
  pub place_is : n ≡ place_of w a

pub found : (w : Window) (a : ℕ) (q : Place) (n : ℕ) → spot_of w a ≡ Ok q → n ≡ q.0 → Found w a n
found w a q n e f = by (spot_of w a) (spotted w a) e
  where
    by : (s : Result Place Miss) → Spotted w a s → s ≡ Ok q → Found w a n
    by (Err m) y g = absurd (cc)
    by (Ok r) (there h i) g = record { aligned = h; inside = i; place_is = cc }

-- a turn that has found one
pub record Here (w : Window) (mem : List ℕ) (p : ℕ) (xs : List ℕ) (last address position n : ℕ) : Type 0 where
  pub lim : Limited w
  pub turn : Turn w mem p xs last address position
  pub early : position < 2049
  pub place : Found w address n

module _ {w : Window} {mem : List ℕ} {p : ℕ} {xs : List ℕ} {b a i n : ℕ} (here : Here w mem p xs b a i n) where
  abbrev seen : List ℕ
  seen = seen_after w mem [] p i

  place_here : n + 32 ≡ place_in w a
  place_here = ap (λ (x : ℕ). x + 32) here.place.place_is

  in_window_lem : In w a
  in_window_lem = in_is w a here.place.inside

  good : Good w seen
  good = (good-after w mem i [] p here.turn.steady (record { within = tt; apart = tt })).0

  pub low-enough : n + 32 ≤ 65536
  low-enough = let l = limit w here.lim in let m = in_window_lem in omega (arith, l, m.low, m.high, here.place.place_is)

  met-no : free_in xs (n + 32) ≡ true → meets_any a seen ≡ false
  met-no f =
      let g = free-is xs (places w seen) (n + 32) here.turn.tells (omega arith) low-enough f in
      clear_apart w a seen in_window_lem good.within
      (free-clear (place_in w a) (places w seen) good.apart (subst (λ (x : ℕ). Free x (places w seen)) place_here g))

  met-yes : free_in xs (n + 32) ≡ false → meets_any a seen ≡ true
  met-yes f =
      true_from_ne_false (meets_any a seen)
      (λ g. let o = clear-free (place_in w a) (places w seen) (apart-clear w a seen in_window_lem good.within g) in
      let m = free-makes xs (places w seen) (n + 32) here.turn.tells (omega arith) low-enough
      (subst (λ (x : ℕ). Free x (places w seen)) (sym place_here) o) in
      false≢true (sym f ∙ m))

  stands : free_in xs (n + 32) ≡ true → Stands w mem seen a
  stands f = record { aligned = here.place.aligned; inside = here.place.inside; apart = met-no f }

  pub out-overlaps : free_in xs (n + 32) ≡ false → Walks w mem p (record { verdict = verdict Overlaps (stop i a); last = b })
  out-overlaps f = way_out w mem here.turn here.early Overlaps (see-overlaps here.place.aligned here.place.inside (met-yes f))

  -- the descriptor that is read there
  module _ (f : free_in xs (n + 32) ≡ true) (d : Descriptor) (says : d ≡ descriptor_at mem n) where
    says_is : d ≡ (link_at w mem a).says
    says_is = says ∙ ap (descriptor_at mem) here.place.place_is

    owned-is : {u : Bool} → owned d.control.0 ≡ u → owned_at w mem a ≡ u
    owned-is o = ap (λ (x : Descriptor). owned x.control.0) (sym says_is) ∙ o

    pub out-sound : owned d.control.0 ≡ false → Walks w mem p (record { verdict = verdict Sound (stop i a); last = b })
    out-sound o = way_out w mem here.turn here.early Sound (see-end (stands f) (owned-is o))

    pub turned : owned d.control.0 ≡ true → Turn w mem p (set xs ((n + 32) / 32) ((n + 32) % 32 + 1)) a d.next (i + 1)
    turned o =
        subst
        (λ (j : ℕ). Turn w mem p (set xs ((n + 32) / 32) ((n + 32) % 32 + 1)) a d.next j)
        one
        (record {
          long = length-set xs ((n + 32) / 32) ((n + 32) % 32 + 1) ∙ here.turn.long;
          last_is = here.turn.address_is ∙ sym (after-at w mem p i);
          address_is = ap (λ (x : Descriptor). x.next) says_is ∙ ap (next w mem) here.turn.address_is ∙ sym (after-suc w mem i p);
          steady = steady-more w mem i [] p here.turn.steady (subst (λ (b : ℕ). Stands w mem seen b) here.turn.address_is (stands f));
          all-owned = owned-more w mem i p here.turn.all-owned (ap (owned_at w mem) (sym here.turn.address_is) ∙ owned-is o);
          tells = λ c j. cell c j;
        })
      where
        one : suc i ≡ i + 1
        one = omega arith

        mark : (x : ℕ) → x + 1 ≡ 1 + x
        mark x = omega arith

        cell : (c : ℕ) → c < 2050 → get_or (set xs ((n + 32) / 32) ((n + 32) % 32 + 1)) c 0 ≡ mark_of c (places w (seen_after w mem [] p (suc i)))
        cell c j =
            let k = low-enough in
            let l : (n + 32) / 32 < length xs = subst (λ (m : ℕ). (n + 32) / 32 < m) (sym here.turn.long) (omega (arith, k)) in
            ap (λ (x : ℕ). get_or (set xs ((n + 32) / 32) x) c 0) (mark ((n + 32) % 32))
            ∙ marked xs (places w seen) ((n + 32) / 32) (n + 32) c refl l (here.turn.tells c j)
            ∙ ap (λ (x : ℕ). mark_of c (x ∷ places w seen)) (place_here ∙ ap (place_in w) here.turn.address_is)
            ∙ ap (λ (bs : List ℕ). mark_of c (places w bs)) (sym (seen-suc w mem i [] p))

-- the cells are full before the walk is spent
pub never : {w : Window} {mem : List ℕ} {p : ℕ} {xs : List ℕ} {b a i : ℕ} → Limited w → Turn w mem p xs b a i → 2049 ≤ i → ⊥
never {w} {mem} {p} {i = i} lim t h = let m = steady-most w mem lim i p t.steady in omega (arith, m, h)
