-- What is proved of the window: each theorem's whole statement, under its name. A term of each stands in proofs/.
-- Assumes nothing.
use Rattle.std.specs.Prelude.{ℕ, ◌+◌, ◌≤◌, ◌≡◌, Some}
use Rattle.bus.specs.declared.Place.{Place}
use Rattle.bus.specs.declared.Window.{Window}
use Rattle.bus.specs.Window.{place_of, located_of}

-- The place found is the address less the base, and place + n is within the window's length.
abbrev pub LocatedIs : Type 0
LocatedIs = (w : Window) (a n : ℕ) (q : Place) → located_of w a n ≡ Some q → (q.0 ≡ place_of w a) × (q.0 + n ≤ w.length)
