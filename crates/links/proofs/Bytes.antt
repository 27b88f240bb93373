-- What a walk goes by: the bytes of the descriptors that it reads, and no others.
-- Assumes nothing.
use Rattle.std.specs.Prelude.{Option, Some, None}
use Prim.Native.Nat.{ℕ, zero, suc, ◌+◌, ◌≤◌, ◌<◌}
use mathlib.Core.Path.{◌≡◌, refl, sym, ap, ◌∙◌}
use mathlib.Core.Bool.{Bool, cond}
use mathlib.Core.List.{List, [], ◌∷◌}
use native.Mathlib.Omega.{arith}
use lib.Dec.{leb}
use lib.ListN.{length, length-drop}
use Rattle.std.proofs.lemmas.Bool.Decides.{nat_tests}
use Rattle.std.proofs.lemmas.List.{length-take}
use Rattle.words.specs.Slices.{part}
use Rattle.bus.specs.declared.Window.{Window}
use Rattle.bus.specs.Window.{place_of}
use Rattle.descriptor.specs.declared.Descriptor.{Descriptor}
use Rattle.descriptor.specs.Layout.{owned, descriptor_of, descriptor_at}
use Rattle.links.specs.declared.Kind.{Kind}
use Rattle.links.specs.declared.Kind.TheVariants.{Sound, Misaligned, Outside, Overlaps}
use Rattle.links.specs.declared.Verdict.{Verdict}
use Rattle.links.specs.Form.{bytes_at, link_after}
use Rattle.links.specs.Verdicts.{met_at, stop, told, walk, verdict_of, read_for}
use Rattle.links.specs.Theorems.{NoOtherByte}
use Rattle.links.proofs.Looks.{next, owned_at, address_after, Stands, view, met-is}
use Rattle.links.proofs.Looks.{View, see-misaligned, see-outside, see-overlaps, see-onward, see-end}
use Rattle.links.proofs.Meaning.{after-at}

-- ---- a descriptor is known by its bytes

-- 32 stand there exactly where so many are taken
full : (xs : List ℕ) (at : ℕ) → leb (at + 32) (length xs) ≡ leb 32 (length (part xs at 32))
full xs at = simp (length-take, length-drop) (grind (arith, nat_tests))

-- that of no bytes, where there are fewer
abbrev says_of : List ℕ → Descriptor
says_of ys = cond (leb 32 (length ys)) (descriptor_of ys) (descriptor_of [])

says-by : (xs : List ℕ) (at : ℕ) → descriptor_at xs at ≡ says_of (part xs at 32)
unfolding descriptor_at
says-by xs at = ap (λ (b : Bool). cond b (descriptor_of (part xs at 32)) (descriptor_of [])) (full xs at)

pub says_same : (xs ys : List ℕ) (at : ℕ) → part xs at 32 ≡ part ys at 32 → descriptor_at xs at ≡ descriptor_at ys at
says_same xs ys at e = says-by xs at ∙ ap says_of e ∙ sym (says-by ys at)

-- ---- the walk

module _ (w : Window) (m o : List ℕ) where
  abbrev Same : ℕ → Type 0
  Same a = bytes_at w o a ≡ bytes_at w m a

  -- all before its first position have been read
  far : (n : ℕ) (seen : List ℕ) (i a : ℕ) → i ≤ read_for (walk w m seen n i a)
  unfolding walk
  far zero seen i a = omega arith
  far (suc n) seen i a = by (far n (a ∷ seen) (i + 1) (next w m a)) (met_at w m seen a)
    where
      by : i + 1 ≤ read_for (walk w m (a ∷ seen) n (i + 1) (next w m a)) → (x : Option Kind)
          → i ≤ read_for (told (stop i a) (walk w m (a ∷ seen) n (i + 1) (next w m a)) x)
      by h (Some Misaligned) = omega arith
      by h (Some Outside) = omega arith
      by h (Some Overlaps) = omega arith
      by h (Some Sound) = omega arith
      by h None = omega (arith, h)

  -- the bytes of those that it reads, from its first position on
  abbrev Alike : (i a : ℕ) → Verdict → Type 0
  Alike i a v = (j : ℕ) → i + j < read_for v → Same (address_after w m a j)

  -- one turn, at the address a
  module _ (seen : List ℕ) (n i a : ℕ) where
    abbrev rest : Verdict
    rest = walk w m (a ∷ seen) n (i + 1) (next w m a)

    abbrev other : Verdict
    other = walk w o (a ∷ seen) n (i + 1) (next w o a)

    owned-same : Same a → owned_at w o a ≡ owned_at w m a
    owned-same e = ap (λ (d : Descriptor). owned d.control.0) (says_same o m (place_of w a) e)

    met : (x : Option Kind) → View w o seen a x → told (stop i a) other (met_at w o seen a) ≡ told (stop i a) other x
    met x y = ap (told (stop i a) other) (met-is w o seen a x y)

    stands : Stands w m seen a → Stands w o seen a
    stands s = record { aligned = s.aligned; inside = s.inside; apart = s.apart }

    turn-same : (Alike (i + 1) (next w m a) rest → walk w o (a ∷ seen) n (i + 1) (next w m a) ≡ rest) → (x : Option Kind) → View w m seen a x
        → Alike i a (told (stop i a) rest x) → told (stop i a) other (met_at w o seen a) ≡ told (stop i a) rest x
    turn-same r (Some Misaligned) (see-misaligned f) g = met (Some Misaligned) (see-misaligned f)
    turn-same r (Some Outside) (see-outside f k) g = met (Some Outside) (see-outside f k)
    turn-same r (Some Overlaps) (see-overlaps f k l) g = met (Some Overlaps) (see-overlaps f k l)
    turn-same r (Some Sound) (see-end s u) g = met (Some Sound) (see-end (stands s) (owned-same (g 0 (omega arith)) ∙ u))
    turn-same r None (see-onward s u) g =
        let h = far n (a ∷ seen) (i + 1) (next w m a) in
        let e = g 0 (omega (arith, h)) in
        met None (see-onward (stands s) (owned-same e ∙ u))
        ∙ ap (λ (d : Descriptor). walk w o (a ∷ seen) n (i + 1) d.next) (says_same o m (place_of w a) e)
        ∙ r (λ j k. g (suc j) (omega (arith, k)))

  walks_same : (n : ℕ) (seen : List ℕ) (i a : ℕ) → Alike i a (walk w m seen n i a) → walk w o seen n i a ≡ walk w m seen n i a
  unfolding walk
  walks_same zero seen i a h = refl
  walks_same (suc n) seen i a h =
      turn-same seen n i a (walks_same n (a ∷ seen) (i + 1) (next w m a)) (met_at w m seen a) (view w m seen a) h

-- ---- the theorem

pub no-other-byte : NoOtherByte
unfolding verdict_of
no-other-byte w m o p h = walks_same w m o 2049 [] 0 p (λ j k. alike j (h j (omega (arith, k))))
  where
    alike : (j : ℕ) → Same w m o (link_after w m p j).at → Same w m o (address_after w m p j)
    alike j e = ap (bytes_at w o) (sym (after-at w m p j)) ∙ e ∙ ap (bytes_at w m) (after-at w m p j)
