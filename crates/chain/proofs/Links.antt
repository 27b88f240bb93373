-- The chain in memory as it is walked, and its lengths.
-- Assumes nothing.
use Prim.Native.Nat.{ℕ, zero, suc, ◌+◌, ◌≤◌, ◌<◌}
use mathlib.Core.Path.{◌≡◌, refl, sym, ap, subst, subst⁻¹, ◌∙◌}
use mathlib.Core.Logic.{◌≢◌}
use mathlib.Core.Bool.{Bool, true, false, cond}
use mathlib.Core.List.{List, [], ◌∷◌, ◌++◌}
use native.Mathlib.Omega.{arith}
use lib.Dec.{eqb}
use lib.ListN.{length, drop, length-take}
use borrow.Author.Tests.{eqb-false}
use Rattle.words.specs.declared.Order.TheVariants.{LeastFirst}
use Rattle.words.specs.Orders.{number_of}
use Rattle.words.specs.Slices.{part, AllBytes}
use Rattle.words.proofs.Bytes.{take-bytes, drop-bytes}
use Rattle.bus.specs.declared.Window.{Window}
use Rattle.bus.specs.Window.{in_window, place_of}
use Rattle.descriptor.specs.declared.Descriptor.{Descriptor}
use Rattle.descriptor.specs.Layout.{owned, descriptor_at}
use Rattle.descriptor.proofs.Reading.{by-offset, there}
use Rattle.image.specs.Rules.{asked}
use Rattle.links.specs.Form.{All, Link, link_at, links_from, link_after}
use Rattle.chain.specs.Chain.{wants}
use Rattle.chain.proofs.Memory.{Placed, placed}

-- in the memory m the chain from the address a on is the owned ls, and then the unowned e
abbrev pub Chain : Window → List ℕ → ℕ → List Link → Link → Type 0
Chain w m a [] e = (e ≡ link_at w m a) × (owned e.says.control.0 ≡ false)
Chain w m a (l ∷ ls) e = (l ≡ link_at w m a) × (owned l.says.control.0 ≡ true) × Chain w m l.says.next ls e

-- the chain is the same where all descriptors say the same
pub chain_same : (w : Window) (m o : List ℕ) (a : ℕ) (ls : List Link) (e : Link)
    → All (λ (l : Link). descriptor_at o (place_of w l.at) ≡ descriptor_at m (place_of w l.at)) (ls ++ e ∷ [])
    → Chain w m a ls e → Chain w o a ls e
chain_same w m o a [] e h c = (
  c.0 ∙ ap (λ (d : Descriptor). record { at = a; says = d })
      (sym (subst (λ (l : Link). descriptor_at o (place_of w l.at) ≡ descriptor_at m (place_of w l.at)) c.0 h.0)),
  c.1,
)
chain_same w m o a (l ∷ ls) e h c = (
  c.0 ∙ ap (λ (d : Descriptor). record { at = a; says = d })
      (sym (subst (λ (l : Link). descriptor_at o (place_of w l.at) ≡ descriptor_at m (place_of w l.at)) c.0 h.0)),
  c.1,
  chain_same w m o _ ls e h.1 c.2,
)

-- each is owned in memory
pub chain-owned : (w : Window) (m : List ℕ) (a : ℕ) (ls : List Link) (e : Link) → Chain w m a ls e
    → All (λ (l : Link). owned (link_at w m l.at).says.control.0 ≡ true) ls
chain-owned w m a [] e c = tt
chain-owned w m a (l ∷ ls) e c = (
  subst⁻¹ (λ (x : Link). owned (link_at w m x.at).says.control.0 ≡ true) c.0
      (subst (λ (x : Link). owned x.says.control.0 ≡ true) c.0 c.1),
  chain-owned w m _ ls e c.2,
)

-- that of a fresh machine's pointer
pub chain-is : (w : Window) (m : List ℕ) (a k : ℕ) → All (λ l. owned l.says.control.0 ≡ true) (links_from w m a k)
    → owned (link_after w m a k).says.control.0 ≡ false → Chain w m a (links_from w m a k) (link_after w m a k)
chain-is w m a zero o u = (refl, u)
chain-is w m a (suc k) o u = (refl, o.0, chain-is w m ((link_at w m a).says.next) k o.1 u)

-- ---- lengths

asked-some : (n : ℕ) → 0 < asked 2 n
asked-some n = by (eqb n 0) refl
  where
    by : (x : Bool) → eqb n 0 ≡ x → 0 < cond x 65535 n
    by true h = omega arith
    by false h = let k : n ≢ 0 = eqb-false n 0 h in omega arith

pub wants-some : (d : Descriptor) → 0 < wants d
wants-some d = asked-some d.length

asked-short : (n : ℕ) → n < 65536 → asked 2 n < 65536
asked-short n k = by (eqb n 0)
  where
    by : (x : Bool) → cond x 65535 n < 65536
    by true = omega arith
    by false = k

pub wants-short : (d : Descriptor) → d.length < 65536 → wants d < 65536
wants-short d k = asked-short d.length k

pub all-bytes : (xs : List ℕ) → All (λ x. x < 256) xs → AllBytes xs
all-bytes [] a = tt
all-bytes (x ∷ xs) a = (a.0, all-bytes xs a.1)

-- a length is a number of 16 bits
two_bytes : (xs : List ℕ) → length xs ≤ 2 → AllBytes xs → number_of LeastFirst xs < 65536
two_bytes [] l a = omega arith
two_bytes (x ∷ []) l a = let b : x < 256 = a.0 in omega arith
two_bytes (x ∷ y ∷ []) l a = let b : x < 256 = a.0 in let c : y < 256 = a.1.0 in omega arith
two_bytes (x ∷ y ∷ z ∷ xs) l a = absurd (omega arith)

length-short : (m : List ℕ) (p : ℕ) → AllBytes m → p + 32 ≤ length m → (descriptor_at m p).length < 65536
length-short m p a f =
    subst⁻¹ (λ (d : Descriptor). d.length < 65536) (there m p f ∙ by-offset (part m p 32))
    (two_bytes (part (part m p 32) 24 2) (omega (arith, length-take 2 (drop 24 (part m p 32))))
    (take-bytes 2 (drop 24 (part m p 32)) (drop-bytes 24 (part m p 32) (take-bytes 32 (drop p m) (drop-bytes p m a)))))

pub links-short : (w : Window) (m : List ℕ) (a k : ℕ) → AllBytes m → length m ≡ w.length
    → All (λ l. in_window w l.at 32 ≡ true) (links_from w m a k) → All (λ l. l.says.length < 65536) (links_from w m a k)
links-short w m a zero b e i = tt
links-short w m a (suc k) b e i = (
  length-short m (place_of w a) b (let p : Placed w a 32 = placed w a 32 i.0 in omega (arith, p.fits)),
  links-short w m ((link_at w m a).says.next) k b e i.1,
)
