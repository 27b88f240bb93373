-- The paper's "Window and stream": the window's limits, and which addresses are in it. Sums of addresses are whole numbers.
-- Assumes nothing.
use Rattle.std.specs.Prelude.{ℕ, ◌+◌, ◌-◌, ◌≤◌, ◌≡◌, Bool, cond, ◌&&◌, leb, Option, Some, None, Result, Ok, Err}
use Rattle.std.proofs.Common.{sym, ◌∙◌}
use Rattle.bus.specs.declared.Window.{Window}
use Rattle.bus.specs.declared.Place.{Place}
use Rattle.bus.specs.declared.Refusal.{Refusal}
use Rattle.bus.specs.declared.Refusal.TheVariants.{BadWindow}
use Rattle.bus.specs.Refusal.{answer_number}

-- length 0 to 65,536; base at most 4,294,967,295, base + length at most 4,294,967,296
unfoldable pub keeps_limits : (base length : ℕ) → Bool
keeps_limits base length = leb length 65536 && leb base 4294967295 && leb (base + length) 4294967296

unfoldable pub checked_of : (base length : ℕ) → Result Window Refusal
checked_of base length = cond (keeps_limits base length) (Ok (record { base = base; length = length })) (Err BadWindow)

-- n bytes at the address a are in the window
unfoldable pub in_window : Window → (a n : ℕ) → Bool
in_window w a n = leb w.base a && leb (a + n) (w.base + w.length)

-- the place of an address in the window
abbrev pub place_of : Window → ℕ → ℕ
place_of w a = a - w.base

unfoldable pub located_of : Window → (a n : ℕ) → Option Place
located_of w a n = cond (in_window w a n) (Some (record { 0 = place_of w a })) None

-- n bytes at the place stand within so many
abbrev pub PlaceWithin : Option Place → (n length : ℕ) → Type 0
PlaceWithin (Some p) n length = p.0 + n ≤ length
PlaceWithin None n length = Unit {0}

-- ---- the promises

-- Window::checked
pub record Checked (base length : ℕ) (r : Result Window Refusal) : Type 0 where
  pub answer : r ≡ checked_of base length
  pub number : answer_number r ≡ cond (keeps_limits base length) 0 3

-- Window::locate
pub record Sought (w : Window) (a n : ℕ) (r : Option Place) : Type 0 where
  pub answer : r ≡ located_of w a n
  pub within : PlaceWithin r n w.length

pub checked-unique : {base length : ℕ} {r s : Result Window Refusal} → Checked base length r → Checked base length s → r ≡ s
checked-unique p q = p.answer ∙ sym q.answer

pub sought-unique : {w : Window} {a n : ℕ} {r s : Option Place} → Sought w a n r → Sought w a n s → r ≡ s
sought-unique p q = p.answer ∙ sym q.answer
