-- What is met at an address, and where a walk ends.
-- Assumes nothing.
use Rattle.std.specs.Prelude.{Result, Ok, Err, Option, Some, None}
use Prim.Native.Nat.{ℕ, zero, suc, ◌+◌, ◌%◌, ◌<◌}
use mathlib.Core.Path.{◌≡◌, refl, ap, ◌∙◌}
use mathlib.Core.Logic.{◌≢◌}
use mathlib.Core.Bool.{Bool, true, false, cond}
use mathlib.Core.List.{List, ◌∷◌}
use native.Mathlib.Omega.{arith}
use lib.Dec.{eqb}
use borrow.Author.Tests.{eqb-true, eqb-false, eq-eqb, ne_eqb}
use Rattle.bus.specs.declared.Window.{Window}
use Rattle.bus.specs.Window.{in_window}
use Rattle.bus.specs.Window.{place_of, located_of}
use Rattle.bus.specs.declared.Place.{Place}
use Rattle.descriptor.specs.declared.Miss.{Miss}
use Rattle.descriptor.specs.declared.Miss.TheVariants as miss
use Rattle.descriptor.specs.Layout.{owned}
use Rattle.descriptor.specs.Looking.{spot_of, placed}
use Rattle.links.specs.declared.Kind.{Kind}
use Rattle.links.specs.declared.Kind.TheVariants.{Sound, Misaligned, Outside, Overlaps}
use Rattle.links.specs.declared.Verdict.{Verdict}
use Rattle.links.specs.Form.{All, link_at, links_from, link_after}
use Rattle.links.specs.Verdicts.{meets_any, met_by, met_at, stop, verdict, told, walk}

-- the look at an address, with what it tells of it
pub data Spotted (w : Window) (a : ℕ) : Result Place Miss → Type 0 where
  unaligned : a % 4 ≢ 0 → Spotted w a (Err miss.Misaligned)
  out : a % 4 ≡ 0 → in_window w a 32 ≡ false → Spotted w a (Err miss.Outside)
  there : a % 4 ≡ 0 → in_window w a 32 ≡ true → Spotted w a (Ok (record { 0 = place_of w a }))

pub spotted : (w : Window) (a : ℕ) → Spotted w a (spot_of w a)
unfolding spot_of located_of
spotted w a = by (eqb (a % 4) 0) refl (in_window w a 32) refl
  where
    by : (t : Bool) → eqb (a % 4) 0 ≡ t → (i : Bool) → in_window w a 32 ≡ i
        → Spotted w a (cond t (placed (cond i (Some (record { 0 = place_of w a })) None)) (Err miss.Misaligned))
    by true e true f = there (eqb-true (a % 4) 0 e) f
    by true e false f = out (eqb-true (a % 4) 0 e) f
    by false e i f = unaligned (eqb-false (a % 4) 0 e)

module _ (w : Window) (mem : List ℕ) where
  abbrev pub next : ℕ → ℕ
  next a = (link_at w mem a).says.next

  abbrev pub owned_at : ℕ → Bool
  owned_at a = owned (link_at w mem a).says.control.0

  -- the address after n, and those seen by then
  abbrev pub address_after : ℕ → ℕ → ℕ
  address_after a zero = a
  address_after a (suc n) = address_after (next a) n

  abbrev pub seen_after : List ℕ → ℕ → ℕ → List ℕ
  seen_after seen a zero = seen
  seen_after seen a (suc n) = seen_after (a ∷ seen) (next a) n

  pub after_is : (a n : ℕ) → link_after w mem a n ≡ link_at w mem (address_after a n)
  after_is a zero = refl
  after_is a (suc n) = after_is (next a) n

  -- aligned, inside, apart from those seen
  pub record Stands (seen : List ℕ) (a : ℕ) : Type 0 where
    pub aligned : a % 4 ≡ 0
    pub inside : in_window w a 32 ≡ true
    pub apart : meets_any a seen ≡ false

  abbrev pub Steady : List ℕ → ℕ → ℕ → Type 0
  Steady seen a zero = Unit {0}
  Steady seen a (suc n) = Stands seen a × Steady (a ∷ seen) (next a) n

  abbrev pub AllOwned : ℕ → ℕ → Type 0
  AllOwned a n = All (λ l. owned l.says.control.0 ≡ true) (links_from w mem a n)

  -- each thing met, with what it means
  pub data View (seen : List ℕ) (a : ℕ) : Option Kind → Type 0 where
    see-misaligned : a % 4 ≢ 0 → View seen a (Some Misaligned)
    see-outside : a % 4 ≡ 0 → in_window w a 32 ≡ false → View seen a (Some Outside)
    see-overlaps : a % 4 ≡ 0 → in_window w a 32 ≡ true → meets_any a seen ≡ true → View seen a (Some Overlaps)
    see-onward : Stands seen a → owned_at a ≡ true → View seen a None
    see-end : Stands seen a → owned_at a ≡ false → View seen a (Some Sound)

  pub view : (seen : List ℕ) (a : ℕ) → View seen a (met_at w mem seen a)
  unfolding met_at
  view seen a = by (spot_of w a) (spotted w a) (meets_any a seen) refl (owned_at a) refl
    where
      by : (s : Result Place Miss) → Spotted w a s → (r : Bool) → meets_any a seen ≡ r → (u : Bool) → owned_at a ≡ u → View seen a (met_by s r u)
      by (Err miss.Misaligned) (unaligned h) r g u o = see-misaligned h
      by (Err miss.Outside) (out h f) r g u o = see-outside h f
      by (Ok p) (there h f) true g u o = see-overlaps h f g
      by (Ok p) (there h f) false g true o = see-onward (record { aligned = h; inside = f; apart = g }) o
      by (Ok p) (there h f) false g false o = see-end (record { aligned = h; inside = f; apart = g }) o

  -- and what is so is met
  pub met-is : (seen : List ℕ) (a : ℕ) (x : Option Kind) → View seen a x → met_at w mem seen a ≡ x
  unfolding met_at spot_of located_of
  met-is seen a (Some Misaligned) (see-misaligned h) = rw (ne_eqb (a % 4) 0 h)
  met-is seen a (Some Outside) (see-outside h f) = rw (eq-eqb (a % 4) 0 h, f)
  met-is seen a (Some Overlaps) (see-overlaps h f g) = rw (eq-eqb (a % 4) 0 h, f, g)
  met-is seen a None (see-onward s o) = rw (eq-eqb (a % 4) 0 s.aligned, s.inside, s.apart, o)
  met-is seen a (Some Sound) (see-end s o) = rw (eq-eqb (a % 4) 0 s.aligned, s.inside, s.apart, o)

  -- where a walk ends
  pub data Ends (seen : List ℕ) (n i a : ℕ) (v : Verdict) : Type 0 where
    stops : (m j : ℕ) → m < n → j ≡ i + m → Steady seen a m → AllOwned a m → (f : Kind) → View (seen_after seen a m) (address_after a m) (Some f)
        → v ≡ verdict f (stop j (address_after a m)) → Ends seen n i a v
    spent : Steady seen a n → AllOwned a n → Ends seen n i a v

  pub ends : (n : ℕ) (seen : List ℕ) (i a : ℕ) (v : Verdict) → v ≡ walk w mem seen n i a → Ends seen n i a v
  unfolding walk
  ends zero seen i a v e = spent tt tt
  ends (suc n) seen i a v e = by (λ (g : v ≡ walk w mem (a ∷ seen) n (i + 1) (next a)). ends n (a ∷ seen) (i + 1) (next a) v g) (met_at w mem seen a) (view seen a) e
    where
      further : Stands seen a → owned_at a ≡ true → Ends (a ∷ seen) n (i + 1) (next a) v → Ends seen (suc n) i a v
      further s o (stops m j h e p q f y g) = stops (suc m) j (omega (arith, h)) (omega (arith, e)) (s, p) (o, q) f y g
      further s o (spent p q) = spent (s, p) (o, q)

      by : (v ≡ walk w mem (a ∷ seen) n (i + 1) (next a) → Ends (a ∷ seen) n (i + 1) (next a) v) → (x : Option Kind) → View seen a x → v ≡ told (stop i a) (walk w mem (a ∷ seen) n (i + 1) (next a)) x → Ends seen (suc n) i a v
      by r (Some f) y g = stops 0 i (omega arith) (omega arith) tt tt f y g
      by r None (see-onward s o) g = further s o (r g)

  -- and a walk that can get somewhere does
  pub goes : (m n : ℕ) (seen : List ℕ) (i j a : ℕ) → m < n → j ≡ i + m → Steady seen a m → AllOwned a m
      → (f : Kind) → View (seen_after seen a m) (address_after a m) (Some f) → walk w mem seen n i a ≡ verdict f (stop j (address_after a m))
  unfolding walk
  goes m zero seen i j a h e s o f y = absurd (omega (arith, h))
  goes zero (suc n) seen i j a h e s o f y =
      let same : i ≡ j = omega (arith, e) in
      ap (told (stop i a) (walk w mem (a ∷ seen) n (i + 1) (next a))) (met-is seen a (Some f) y) ∙ ap (λ (k : ℕ). verdict f (stop k a)) same
  goes (suc m) (suc n) seen i j a h e s o f y =
      ap (told (stop i a) (walk w mem (a ∷ seen) n (i + 1) (next a))) (met-is seen a None (see-onward s.0 o.0))
      ∙ goes m n (a ∷ seen) (i + 1) j (next a) (omega (arith, h)) (omega (arith, e)) s.1 o.1 f y
