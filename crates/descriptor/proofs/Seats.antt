-- Where the builder and the reader find a descriptor.
-- Assumes nothing.
use Rattle.bus.specs.Refusal.{answer_number}
use Rattle.std.specs.Prelude.{Result, Ok, Err, Some, None}
use Prim.Native.Nat.{ℕ, ◌+◌, ◌-◌, ◌%◌, ◌≤◌}
use mathlib.Core.Path.{◌≡◌, refl, ap, subst, ◌∙◌}
use mathlib.Core.Logic.{◌≢◌}
use mathlib.Core.Bool.{Bool, true, false, cond}
use mathlib.Core.List.{List}
use native.Mathlib.Omega.{arith}
use lib.Dec.{eqb}
use Rattle.bus.specs.declared.Refusal.TheVariants as refusal
use Rattle.bus.specs.declared.Window.{Window}
use Rattle.bus.specs.declared.Place.{Place}
use Rattle.bus.specs.declared.Refusal.{Refusal}
use Rattle.descriptor.specs.declared.Miss.{Miss}
use Rattle.descriptor.specs.declared.Miss.TheVariants as miss
use Rattle.bus.specs.Window.{keeps_limits, checked_of, in_window, place_of, located_of}
use Rattle.bus.proofs.Limits.{checked-is}
use Rattle.descriptor.specs.declared.Job.{Job}
use Rattle.descriptor.specs.Looking.{placed, spot_of}
use Rattle.descriptor.specs.Calls.{seat_as, seat_in, seat_of, found, built, with_job}
use Rattle.descriptor.proofs.Looks.{spot_is}

-- by what the window's check and the look at the address give
pub seat-by : (length base a : ℕ) {k : Result Window Refusal} → checked_of base length ≡ k → seat_of length base a ≡ seat_in k a
unfolding seat_of
seat-by length base a e = ap (λ (k : Result Window Refusal). seat_in k a) e

pub seat-at : (length base a : ℕ) {w : Window} {s : Result Place Miss} → checked_of base length ≡ Ok w → spot_of w a ≡ s
    → seat_of length base a ≡ seat_as s
seat-at length base a e f = seat-by length base a e ∙ ap seat_as f

module _ (a : ℕ) (p : Place) where
  as-spot : (s : Result Place Miss) → seat_as s ≡ Ok p → s ≡ Ok p
  as-spot (Err miss) e = absurd (let z : ◌≡◌ {A = ℕ} 0 1 = cc in omega arith)
  as-spot (Ok q) e = cc

  seat-in : (base length : ℕ) (k : Result Window Refusal) → checked_of base length ≡ k → seat_in k a ≡ Ok p → (p.0 ≡ a - base) × (p.0 + 32 ≤ length)
  seat-in base length (Err why) e f = absurd (let z : ◌≡◌ {A = ℕ} 0 1 = cc in omega arith)
  seat-in base length (Ok w) e f =
      subst (λ (v : Window). (p.0 ≡ a - v.base) × (p.0 + 32 ≤ v.length)) (checked-is base length w e).1 (spot_is w a p (as-spot (spot_of w a) f))

  -- a seat that was found is the address less the base, and its 32 bytes stand within the window
  pub seat-is : (length base : ℕ) → seat_of length base a ≡ Ok p → (p.0 ≡ a - base) × (p.0 + 32 ≤ length)
  unfolding seat_of
  seat-is length base e = seat-in base length (checked_of base length) refl e

-- ---- the number of a seat, by its tests

within-limits : (limits : Bool) (w : Window) (a : ℕ)
    → answer_number (seat_in (cond limits (Ok w) (Err refusal.BadWindow)) a) ≡ cond limits (answer_number (seat_in (Ok w) a)) 3
within-limits true w a = refl
within-limits false w a = refl

in_place : (aligned inside : Bool) (p : Place)
    → answer_number (seat_as (cond aligned (placed (cond inside (Some p) None)) (Err miss.Misaligned))) ≡ cond aligned (cond inside 0 6) 5
in_place true true p = refl
in_place true false p = refl
in_place false inside p = refl

pub by_tests : (length base a : ℕ) → answer_number (seat_of length base a)
    ≡ cond (keeps_limits base length) (cond (eqb (a % 4) 0) (cond (in_window (record { base = base; length = length }) a 32) 0 6) 5) 3
unfolding seat_of checked_of spot_of located_of
by_tests length base a =
    let w : Window = record { base = base; length = length } in
    within-limits (keeps_limits base length) w a
    ∙ ap (λ (n : ℕ). cond (keeps_limits base length) n 3) (in_place (eqb (a % 4) 0) (in_window w a 32) (record { 0 = place_of w a }))

pub built-number : (s : Result Place Refusal) → answer_number (built s) ≡ answer_number s
built-number (Ok p) = refl
built-number (Err why) = refl

pub found_number : (xs : List ℕ) (s : Result Place Refusal) → answer_number (found xs s) ≡ answer_number s
found_number xs (Ok p) = refl
found_number xs (Err why) = refl

-- where none is built the window is as it was
pub build-stays : (s : Result Place Refusal) (window : List ℕ) (j : Job) → answer_number (built s) ≢ 0 → with_job window j s ≡ window
build-stays (Ok p) window j h = absurd (h refl)
build-stays (Err why) window j h = refl
