-- Order 8: "Check the chain before the bench starts." What is said of a chain, and what it means.
-- Assumes nothing.
use Rattle.std.specs.Prelude.{ℕ, zero, suc, ◌+◌, ◌%◌, ◌<◌, ◌≡◌, ◌≢◌, Bool, true, false, ◌&&◌, ◌||◌, List, [], ◌∷◌, ltb, length, if◌then◌else◌, Result, Ok, Err, Option, Some, None}
use Rattle.bus.specs.declared.Window.{Window}
use Rattle.bus.specs.Window.{in_window}
use Rattle.bus.specs.declared.Place.{Place}
use Rattle.descriptor.specs.declared.Miss.{Miss}
use Rattle.descriptor.specs.declared.Miss.TheVariants as miss
use Rattle.descriptor.specs.Layout.{owned}
use Rattle.descriptor.specs.Looking.{spot_of}
use Rattle.links.specs.declared.Stop.{Stop}
use Rattle.links.specs.declared.Kind.{Kind}
use Rattle.links.specs.declared.Kind.TheVariants.{Sound, Misaligned, Outside, Overlaps}
use Rattle.links.specs.declared.Verdict.{Verdict}
use Rattle.links.specs.Form.{All, Link, link_at, links_from, link_after, Placed, Form}

-- ---- the walk

-- descriptors at two addresses have a byte in common
abbrev pub meets : (a b : ℕ) → Bool
meets a b = ltb a (b + 32) && ltb b (a + 32)

-- one at a and any of those
abbrev pub meets_any : ℕ → List ℕ → Bool
meets_any a [] = false
meets_any a (b ∷ bs) = meets a b || meets_any a bs

-- a look that finds no place tells one of this kind
abbrev pub kind_of : Miss → Kind
kind_of miss.Misaligned = Misaligned
kind_of miss.Outside = Outside

-- the kind that is told where the walk stops: "misaligned, outside, or overlaps an earlier one, the first of these three causes being
-- named", or the end, which is unowned; none where an owned descriptor leads on
abbrev pub met_by : Result Place Miss → (overlapping owned : Bool) → Option Kind
met_by (Err m) overlapping owned = Some (kind_of m)
met_by (Ok p) overlapping owned = if overlapping then Some Overlaps else if owned then None else Some Sound

-- at the address a, those before it being at `seen`
unfoldable pub met_at : Window → List ℕ → (seen : List ℕ) (a : ℕ) → Option Kind
met_at window memory seen a = met_by (spot_of window a) (meets_any a seen) (owned (link_at window memory a).says.control.0)

abbrev pub stop : (position address : ℕ) → Stop
stop position address = record { position = position; address = address }

abbrev pub verdict : Kind → Stop → Verdict
verdict kind s = record { kind = kind; stop = s }

-- what is told of the one at a stop, and further on what the rest of the walk tells
abbrev pub told : Stop → (rest : Verdict) → Option Kind → Verdict
told s rest (Some kind) = verdict kind s
told s rest None = rest

-- a walk that looks at n descriptors at most, the first of them at a, position i
unfoldable pub walk : Window → List ℕ → (seen : List ℕ) (n i a : ℕ) → Verdict
walk window memory seen zero i a = verdict Overlaps (stop i a)
walk window memory seen (suc n) i a =
    told (stop i a) (walk window memory (a ∷ seen) n (i + 1) (link_at window memory a).says.next) (met_at window memory seen a)

-- "At most 2,049 descriptors are read on one walk": so many are looked at; that a longer walk tells the same is `more-tell-the-same`
unfoldable pub verdict_of : Window → List ℕ → (pointer : ℕ) → Verdict
verdict_of window memory pointer = walk window memory [] 2049 0 pointer

-- all that is lent, as the window at its base
abbrev pub window_at : (base : ℕ) (memory : List ℕ) → Window
window_at base memory = record { base = base; length = length memory }

-- ---- what a verdict means

-- the first k are owned, aligned, in the window and not overlapping
pub record Front (window : Window) (memory : List ℕ) (pointer k : ℕ) : Type 0 where
  pub k_owned : All (λ l. owned l.says.control.0 ≡ true) (links_from window memory pointer k)
  pub placed : Placed window (links_from window memory pointer k)

-- the descriptor at position k has this address, and those before it are as they should be
pub record Reached (window : Window) (memory : List ℕ) (pointer k address : ℕ) : Type 0 where
  pub front : Front window memory pointer k
  pub address_is : address ≡ (link_after window memory pointer k).at

-- two descriptors have a byte in common
pub record Shares (l m : Link) : Type 0 where
  pub i : ℕ
  pub i_is : i < 32
  pub j : ℕ
  pub j_is : j < 32
  pub same : l.at + i ≡ m.at + j

-- each cause, where those before it do not apply
pub record IsMisaligned (window : Window) (memory : List ℕ) (pointer k address : ℕ) : Type 0 where
  pub reached : Reached window memory pointer k address
  pub here : address % 4 ≢ 0

pub record IsOutside (window : Window) (memory : List ℕ) (pointer k address : ℕ) : Type 0 where
  pub reached : Reached window memory pointer k address
  pub aligned : address % 4 ≡ 0
  pub here : in_window window address 32 ≡ false

pub record IsOverlapping (window : Window) (memory : List ℕ) (pointer k address : ℕ) : Type 0 where
  pub reached : Reached window memory pointer k address
  pub aligned : address % 4 ≡ 0
  pub inside : in_window window address 32 ≡ true
  pub earlier : ℕ
  pub before : earlier < k
  pub here : Shares (link_after window memory pointer earlier) (link_after window memory pointer k)

-- "sound with k and the end's address"
pub record IsSound (window : Window) (memory : List ℕ) (pointer k address : ℕ) : Type 0 where
  pub form : Form window memory pointer k
  pub end_is : address ≡ (link_after window memory pointer k).at

-- what a verdict of each kind says of a chain
abbrev pub KindMeans : Kind → Window → List ℕ → (pointer position address : ℕ) → Type 0
KindMeans Sound window memory pointer k a = IsSound window memory pointer k a
KindMeans Misaligned window memory pointer k a = IsMisaligned window memory pointer k a
KindMeans Outside window memory pointer k a = IsOutside window memory pointer k a
KindMeans Overlaps window memory pointer k a = IsOverlapping window memory pointer k a

-- and so what a verdict says
abbrev pub Means : Window → List ℕ → (pointer : ℕ) → Verdict → Type 0
Means window memory pointer v = KindMeans v.kind window memory pointer v.stop.position v.stop.address

-- the position that a verdict tells
abbrev pub position_of : Verdict → ℕ
position_of v = v.stop.position

-- how many descriptors are read up to a position: a defect is known by its address, an end is read
abbrev pub read_to : Kind → (position : ℕ) → ℕ
read_to Sound k = k + 1
read_to Misaligned k = k
read_to Outside k = k
read_to Overlaps k = k

-- and for a verdict
abbrev pub read_for : Verdict → ℕ
read_for v = read_to v.kind v.stop.position
