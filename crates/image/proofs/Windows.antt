-- What the answers of the window's checks say of the tests behind them.
-- Assumes nothing.
use Rattle.std.specs.Prelude.{Ok, Err, Some, None}
use Prim.Native.Nat.{ℕ, ◌%◌}
use mathlib.Core.Path.{◌≡◌, refl}
use mathlib.Core.Bool.{Bool, true, false, cond, ◌&&◌}
use native.Mathlib.Omega.{arith}
use lib.Dec.{eqb}
use Rattle.bus.specs.declared.Window.{Window}
use Rattle.bus.specs.declared.Place.{Place}
use Rattle.descriptor.specs.declared.Miss.TheVariants as miss
use Rattle.bus.specs.declared.Refusal.{Refusal}
use Rattle.bus.specs.Window.{keeps_limits, checked_of, in_window, place_of, located_of}
use Rattle.descriptor.specs.Looking.{placed, spot_of, stands}
use Rattle.image.specs.Tests.{stands_in}
use Rattle.image.specs.Slot.{kind_at, kind_in}

good-true : (t : Bool) (v w : Window) (r : Refusal) → cond t (Ok v) (Err r) ≡ Ok w → t ≡ true
good-true true v w r e = refl
good-true false v w r e = absurd (let z : ◌≡◌ {A = ℕ} 0 1 = cc in omega arith)

refused-false : (t : Bool) (v : Window) (q r : Refusal) → cond t (Ok v) (Err q) ≡ Err r → t ≡ false
refused-false true v q r e = absurd (let z : ◌≡◌ {A = ℕ} 0 1 = cc in omega arith)
refused-false false v q r e = refl

at_true : (t : Bool) (p q : Place) → cond t (Some p) None ≡ Some q → t ≡ true
at_true true p q e = refl
at_true false p q e = absurd (let z : ◌≡◌ {A = ℕ} 0 1 = cc in omega arith)

outside-false : (t : Bool) (p : Place) → cond t (Some p) None ≡ None → t ≡ false
outside-false true p e = absurd (let z : ◌≡◌ {A = ℕ} 0 1 = cc in omega arith)
outside-false false p e = refl

module _ (base length : ℕ) where
  pub good-keeps : (w : Window) → checked_of base length ≡ Ok w → keeps_limits base length ≡ true
  unfolding checked_of
  good-keeps w e = good-true (keeps_limits base length) _ w _ e

  pub refused-breaks : (r : Refusal) → checked_of base length ≡ Err r → keeps_limits base length ≡ false
  unfolding checked_of
  refused-breaks r e = refused-false (keeps_limits base length) _ _ r e

-- an address in a window that keeps the limits, by its two tests
pub stands_by : (w : Window) (a : ℕ) → stands (spot_of w a) ≡ (eqb (a % 4) 0 && in_window w a 32)
unfolding spot_of located_of
stands_by w a = by (eqb (a % 4) 0) (in_window w a 32)
  where
    by : (t i : Bool) → stands (cond t (placed (cond i (Some (record { 0 = place_of w a })) None)) (Err miss.Misaligned)) ≡ (t && i)
    by true true = refl
    by true false = refl
    by false i = refl

pub stands-in : (base length a : ℕ) → keeps_limits base length ≡ true
    → stands_in (checked_of base length) a ≡ (eqb (a % 4) 0 && in_window (record { base = base; length = length }) a 32)
unfolding checked_of
stands-in base length a e = rw e (stands_by (record { base = base; length = length }) a)

-- the kind of a slot there
pub kind-in : (base length a : ℕ) → keeps_limits base length ≡ true
    → kind_in (checked_of base length) a ≡ kind_at (record { base = base; length = length }) a
unfolding checked_of
kind-in base length a e = rw e

module _ (w : Window) (a n : ℕ) where
  pub at_in : (p : Place) → located_of w a n ≡ Some p → in_window w a n ≡ true
  unfolding located_of
  at_in p e = at_true (in_window w a n) _ p e

  pub outside-out : located_of w a n ≡ None → in_window w a n ≡ false
  unfolding located_of
  outside-out e = outside-false (in_window w a n) _ e
