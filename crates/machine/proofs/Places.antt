-- What an answer of the window check says of an address that the code computed.
-- Assumes nothing.
use Rattle.std.specs.Prelude.{Option, Some, None, is_some}
use Prim.Native.Nat.{ℕ, ◌+◌, ◌≤◌, ◌<◌}
use mathlib.Core.Path.{◌≡◌, refl, sym, ap, ◌∙◌}
use mathlib.Core.Bool.{Bool, true, false, cond}
use native.Mathlib.Omega.{arith}
use borrow.Author.Tests.{le-leb, leb-true}
use Rattle.bus.specs.declared.Window.{Window}
use Rattle.bus.specs.declared.Place.{Place}
use Rattle.bus.specs.Window.{in_window, place_of, located_of, Sought}
use Rattle.bus.proofs.Limits.{located-is}
use Rattle.image.proofs.Tests.{and_left}
use Rattle.image.proofs.Windows.{at_in, outside-out}

module _ {w : Window} {a b n : ℕ} {r : Option Place} (s : Sought w a n r) (same : a ≡ b) where
  pub outside : r ≡ None → in_window w b n ≡ false
  outside e = ap (λ (x : ℕ). in_window w x n) (sym same) ∙ outside-out w a n (sym s.answer ∙ e)

  module _ {p : Place} (e : r ≡ Some p) where
    pub inside : in_window w b n ≡ true
    inside = ap (λ (x : ℕ). in_window w x n) (sym same) ∙ at_in w a n p (sym s.answer ∙ e)

    pub place : p.0 ≡ place_of w b
    place = (located-is w a n p (sym s.answer ∙ e)).0 ∙ ap (λ (x : ℕ). place_of w x) same

pub fits : {w : Window} {a n : ℕ} {r : Option Place} → Sought w a n r → {p : Place} → r ≡ Some p → p.0 + n ≤ w.length
fits {w} {a} {n} s {p} e = (located-is w a n p (sym s.answer ∙ e)).1

-- addresses in a row stand at places in a row
pub further : (w : Window) (a i : ℕ) → in_window w a 1 ≡ true → place_of w a + i < w.length
    → (in_window w (a + i) 1 ≡ true) × (place_of w (a + i) ≡ place_of w a + i)
unfolding in_window
further w a i e h =
    let low : w.base ≤ a = leb-true _ _ (and_left _ _ e) in
    (rw (le-leb w.base (a + i) (omega arith), le-leb (a + i + 1) (w.base + w.length) (omega arith)), omega arith)

known : (b : Bool) (p : Place) → is_some (cond b (Some p) None) ≡ b
known true p = refl
known false p = refl

-- whether a look finds a place is whether it is in the window
pub found-in : (w : Window) (a n : ℕ) → is_some (located_of w a n) ≡ in_window w a n
unfolding located_of
found-in w a n = known (in_window w a n) (record { 0 = place_of w a })
