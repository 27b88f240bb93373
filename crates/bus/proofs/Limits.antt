-- The window's definitions, met through orders of numbers.
-- Assumes nothing.
use Rattle.bus.specs.Refusal.{answer_number}
use Rattle.std.specs.Prelude.{Result, Ok, Err, Some, None}
use Prim.Native.Nat.{ℕ, ◌+◌, ◌-◌, ◌≤◌, ◌<◌}
use mathlib.Core.Path.{◌≡◌, refl, sym, ap, ◌∙◌}
use mathlib.Core.Bool.{Bool, true, false, true≢false, cond, ◌&&◌}
use native.Mathlib.Omega.{arith}
use lib.Dec.{leb}
use borrow.Author.Tests.{le-leb, lt-leb, leb-true, leb-false}
use Rattle.bus.specs.declared.Place.{Place}
use Rattle.bus.specs.declared.Window.{Window}
use Rattle.bus.specs.declared.Refusal.{Refusal}
use Rattle.bus.specs.declared.Refusal.TheVariants.{BadWindow}
use Rattle.bus.specs.Window.{keeps_limits, checked_of, in_window, place_of, located_of, Checked}
use Rattle.bus.specs.Theorems.{LocatedIs}

module _ (base length : ℕ) where
  pub checked-good : length ≤ 65536 → base ≤ 4294967295 → base + length ≤ 4294967296
      → checked_of base length ≡ Ok (record { base = base; length = length })
  unfolding checked_of keeps_limits
  checked-good h i j = rw (le-leb length 65536 h, le-leb base 4294967295 i, le-leb (base + length) 4294967296 j)

  pub too_long : 65536 < length → checked_of base length ≡ Err BadWindow
  unfolding checked_of keeps_limits
  too_long h = rw (lt-leb length 65536 h)

  pub too-high : length ≤ 65536 → 4294967295 < base → checked_of base length ≡ Err BadWindow
  unfolding checked_of keeps_limits
  too-high h i = rw (le-leb length 65536 h, lt-leb base 4294967295 i)

  pub past_end : length ≤ 65536 → base ≤ 4294967295 → 4294967296 < base + length → checked_of base length ≡ Err BadWindow
  unfolding checked_of keeps_limits
  past_end h i j = rw (le-leb length 65536 h, le-leb base 4294967295 i, lt-leb (base + length) 4294967296 j)

pub was-checked : {base length : ℕ} {r : Result Window Refusal} → r ≡ checked_of base length → Checked base length r
unfolding checked_of
was-checked {base} {length} e = record { answer = e; number = ap (answer_number {A = Window}) e ∙ number (keeps_limits base length) }
  where
    number : (t : Bool) → answer_number {A = Window} (cond t (Ok (record { base = base; length = length })) (Err BadWindow)) ≡ cond t 0 3
    number true = refl
    number false = refl

module _ (w : Window) (a n : ℕ) where
  pub below-window : a < w.base → in_window w a n ≡ false
  unfolding in_window
  below-window h = rw (lt-leb w.base a h)

  module _ (h : w.base ≤ a) where
    pub past-window : w.base + w.length < a → in_window w a n ≡ false
    unfolding in_window
    past-window i = rw (le-leb w.base a h, lt-leb (a + n) (w.base + w.length) (omega arith))

    -- from an address of the window, or its end, as many bytes are in it as there are behind that
    pub from-there : a ≤ w.base + w.length → leb n (w.length - (a - w.base)) ≡ in_window w a n
    unfolding in_window
    from-there i = rw (le-leb w.base a h) (by (leb n (w.length - (a - w.base))) refl)
      where
        by : (b : Bool) → leb n (w.length - (a - w.base)) ≡ b → b ≡ leb (a + n) (w.base + w.length)
        by true e =
            let fits = leb-true n (w.length - (a - w.base)) e in
            sym (le-leb (a + n) (w.base + w.length) (omega arith))
        by false e =
            let past = leb-false n (w.length - (a - w.base)) e in
            sym (lt-leb (a + n) (w.base + w.length) (omega arith))

  pub located-out : in_window w a n ≡ false → located_of w a n ≡ None
  unfolding located_of
  located-out e = rw e

  pub located-at : in_window w a n ≡ true → located_of w a n ≡ Some (record { 0 = place_of w a })
  unfolding located_of
  located-at e = rw e

  pub in_bounds : in_window w a n ≡ true → (w.base ≤ a) × (a + n ≤ w.base + w.length)
  unfolding in_window
  in_bounds e = by (leb w.base a) (leb (a + n) (w.base + w.length)) refl refl e
    where
      by : (s t : Bool) → leb w.base a ≡ s → leb (a + n) (w.base + w.length) ≡ t → (s && t) ≡ true → (w.base ≤ a) × (a + n ≤ w.base + w.length)
      by true true f g e = (leb-true _ _ f, leb-true _ _ g)
      by true false f g e = absurd (true≢false (sym e))
      by false t f g e = absurd (true≢false (sym e))

good-by : (t : Bool) (v w : Window) → cond t (Ok v) (Err BadWindow) ≡ Ok w → (t ≡ true) × (w ≡ v)
good-by true v w e = (refl, cc)
good-by false v w e = absurd (let z : ◌≡◌ {A = ℕ} 0 1 = cc in omega arith)

-- a window that was checked is the one asked for, and keeps the limits
pub checked-is : (base length : ℕ) (w : Window) → checked_of base length ≡ Ok w
    → (keeps_limits base length ≡ true) × (w ≡ record { base = base; length = length })
unfolding checked_of
checked-is base length w e = good-by (keeps_limits base length) (record { base = base; length = length }) w e

at-by : (t : Bool) (p q : Place) → cond t (Some p) None ≡ Some q → (t ≡ true) × (q ≡ p)
at-by true p q e = (refl, cc)
at-by false p q e = absurd (let z : ◌≡◌ {A = ℕ} 0 1 = cc in omega arith)

-- the place found is the address less the base, and its bytes stand within the window
pub located-is : LocatedIs
unfolding located_of
located-is w a n q e =
    let is = at-by (in_window w a n) (record { 0 = place_of w a }) q e in
    let z : q.0 ≡ place_of w a = ap (λ (x : Place). x.0) is.1 in
    (z, omega (arith, in_bounds w a n is.0))
