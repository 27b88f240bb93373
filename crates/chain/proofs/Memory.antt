-- Parts of memory, what a descriptor there says, and bytes sent one after the other.
-- Assumes nothing.
use Prim.Native.Nat.{ℕ, ◌+◌, ◌-◌, ◌/◌, ◌%◌, ◌≤◌, ◌<◌, min}
use mathlib.Core.Path.{◌≡◌, refl, sym, ap, subst, ◌∙◌}
use mathlib.Core.Logic.{◌≢◌}
use mathlib.Core.Bool.{Bool, true, false, cond}
use mathlib.Core.List.{List, [], ◌∷◌, ◌++◌}
use native.Mathlib.Nat.{mod-eq_of_lt}
use native.Mathlib.Omega.{arith}
use lib.Dec.{leb, eqb}
use lib.ListN.{length, get_or, set, drop, length-take, length-drop, length-set}
use lib.Seq.{ext_get_or, get_or-take, get_or-drop, get_or-set_same, get_or-set_other}
use borrow.Author.Tests.{leb-true, eq-eqb, ne_eqb, eqb-true, eqb-false}
use Rattle.words.specs.declared.Order.TheVariants.{LeastFirst}
use Rattle.words.specs.Orders.{number_of}
use Rattle.words.specs.Slices.{part}
use Rattle.words.proofs.Orders.{number-bytes}
use Rattle.words.proofs.Slices.{part-part}
use Rattle.bus.specs.declared.Window.{Window}
use Rattle.bus.specs.Window.{in_window, place_of}
use Rattle.descriptor.specs.declared.Descriptor.{Descriptor}
use Rattle.descriptor.specs.Looking.{raw_at}
use Rattle.descriptor.specs.Layout.{owned, descriptor_at, last_four}
use Rattle.descriptor.proofs.Reading.{by-offset, there}
use Rattle.image.proofs.Tests.{and_left, and_right}
use Rattle.links.specs.Form.{All}
use Rattle.chain.specs.Chain.{Sent}
use Rattle.chain.specs.Modes.{writes}

-- ---- the window

-- n bytes at the address a are in the window: the address is base + its place, and the place + n within the length
pub record Placed (w : Window) (a n : ℕ) : Type 0 where
  pub low : w.base ≤ a
  pub address : w.base + place_of w a ≡ a
  pub fits : place_of w a + n ≤ w.length

pub placed : (w : Window) (a n : ℕ) → in_window w a n ≡ true → Placed w a n
unfolding in_window
placed w a n e =
    let l : w.base ≤ a = leb-true _ _ (and_left _ _ e) in
    let h : a + n ≤ w.base + w.length = leb-true _ _ (and_right (leb w.base a) _ e) in
    record { low = l; address = omega arith; fits = omega arith }

-- ---- parts

part_at : (m : List ℕ) (p n i : ℕ) → i < n → get_or (part m p n) i 0 ≡ get_or m (p + i) 0
part_at m p n i h = get_or-take n (drop p m) i 0 h ∙ get_or-drop p m i 0

-- parts are the same where their bytes are
pub part_ext : (m o : List ℕ) (p n : ℕ) → length m ≡ length o → ((i : ℕ) → i < n → get_or m (p + i) 0 ≡ get_or o (p + i) 0) → part m p n ≡ part o p n
part_ext m o p n l h =
    let size : (x : List ℕ) → length (part x p n) ≡ min n (length x - p) = λ x. simp (length-take, length-drop) in
    ext_get_or 0 (part m p n) (part o p n) (size m ∙ ap (λ (x : ℕ). min n (x - p)) l ∙ sym (size o))
    (λ i k. let j : i < n = omega (arith, size m) in part_at m p n i j ∙ h i j ∙ sym (part_at o p n i j))

-- ---- what a descriptor says

-- the same where its 32 bytes are
pub says_same : (m o : List ℕ) (p : ℕ) → length m ≡ length o → part m p 32 ≡ part o p 32 → descriptor_at m p ≡ descriptor_at o p
unfolding descriptor_at
says_same m o p l e = rw (l, e)

pub raw_same : (m o : List ℕ) (p : ℕ) → length m ≡ length o → part m p 32 ≡ part o p 32 → raw_at m p ≡ raw_at o p
unfolding raw_at
raw_same m o p l e = rw (l, e)

-- its last four bytes
module _ (m : List ℕ) (p actual status control : ℕ) (fits : p + 32 ≤ length m) (e : part m (p + 28) 4 ≡ last_four actual status control) where
  from-four : (k n : ℕ) → k + n ≤ 4 → part (part m p 32) (28 + k) n ≡ part (last_four actual status control) k n
  from-four k n h =
      part-part m p 32 (28 + k) n (omega arith)
      ∙ ap (λ (x : ℕ). part m x n) (let i : p + (28 + k) ≡ p + 28 + k = omega arith in i)
      ∙ sym (part-part m (p + 28) 4 k n h) ∙ ap (λ (x : List ℕ). part x k n) e

  pub actual-says : actual < 65536 → (descriptor_at m p).actual ≡ actual
  actual-says h =
      ap (λ (d : Descriptor). d.actual) (there m p fits ∙ by-offset (part m p 32))
      ∙ ap (number_of LeastFirst) (from-four 0 2 (omega arith)) ∙ number-bytes LeastFirst 2 actual ∙ mod-eq_of_lt h

  pub control-says : (descriptor_at m p).control.0 ≡ control % 256
  control-says =
      ap (λ (d : Descriptor). d.control.0) (there m p fits ∙ by-offset (part m p 32))
      ∙ ap (number_of LeastFirst) (from-four 3 1 (omega arith)) ∙ number-bytes LeastFirst 1 control

-- OWNED is clear in what is left of a number below it
pub cleared : (c : ℕ) → owned (c % 128 % 256) ≡ false
cleared c = ne_eqb (c % 128 % 256 / 128 % 2) 1 (omega arith)

-- ---- bytes sent, one after the other

-- the last byte sent to the address q, or x
abbrev pub last_at : ℕ → List Sent → ℕ → ℕ
last_at q [] x = x
last_at q (s ∷ ss) x = last_at q ss (cond (eqb q s.to) s.byte x)

module _ (w : Window) where
  pub one_byte : (p : ℕ) (s : Sent) (m : List ℕ) → Placed w s.to 1 → length m ≡ w.length
      → get_or (set m (place_of w s.to) s.byte) p 0 ≡ cond (eqb (w.base + p) s.to) s.byte (get_or m p 0)
  one_byte p s m h l = by (eqb (w.base + p) s.to) refl
    where
      by : (b : Bool) → eqb (w.base + p) s.to ≡ b → get_or (set m (place_of w s.to) s.byte) p 0 ≡ cond b s.byte (get_or m p 0)
      by true e =
          let there : place_of w s.to ≡ p = let f : w.base + p ≡ s.to = eqb-true _ _ e in omega arith in
          subst (λ (x : ℕ). get_or (set m (place_of w s.to) s.byte) x 0 ≡ s.byte) there (get_or-set_same m (place_of w s.to) s.byte 0 (omega (arith, h.fits)))
      by false e =
          get_or-set_other m (place_of w s.to) p s.byte 0 (let n : w.base + p ≢ s.to = eqb-false _ _ e in omega (arith, h.low))

  -- a place holds the last byte sent there
  pub last-writer : (p : ℕ) (ss : List Sent) (m : List ℕ) → length m ≡ w.length → All (λ s. Placed w s.to 1) ss
      → get_or (writes w ss m) p 0 ≡ last_at (w.base + p) ss (get_or m p 0)
  last-writer p [] m l a = refl
  last-writer p (s ∷ ss) m l a =
      last-writer p ss _ (length-set m (place_of w s.to) s.byte ∙ l) a.1
      ∙ ap (last_at (w.base + p) ss) (one_byte p s m a.0 l)

pub lastAt-append : (q : ℕ) (xs ys : List Sent) (x : ℕ) → last_at q (xs ++ ys) x ≡ last_at q ys (last_at q xs x)
lastAt-append q [] ys x = refl
lastAt-append q (s ∷ xs) ys x = lastAt-append q xs ys (cond (eqb q s.to) s.byte x)

pub lastAt-none : (q : ℕ) (ss : List Sent) (x : ℕ) → All (λ s. s.to ≢ q) ss → last_at q ss x ≡ x
lastAt-none q [] x a = refl
lastAt-none q (s ∷ ss) x a = rw (ne_eqb q s.to (λ e. a.0 (sym e))) (lastAt-none q ss x a.1)

pub lastAt-last : (s : Sent) (xs ys : List Sent) (x : ℕ) → All (λ y. y.to ≢ s.to) ys → last_at s.to (xs ++ s ∷ ys) x ≡ s.byte
lastAt-last s xs ys x a =
    lastAt-append s.to xs (s ∷ ys) x ∙ rw (eq-eqb s.to s.to refl) (lastAt-none s.to ys s.byte a)
