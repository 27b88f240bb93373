-- What the builder and the reader promise.
-- Assumes nothing.
use Rattle.std.specs.Prelude.{ℕ, ◌≡◌, List, length, Result, Ok, Err}
use Rattle.std.proofs.Common.{sym, ◌∙◌}
use Rattle.words.specs.Slices.{put}
use Rattle.bus.specs.declared.Refusal.TheVariants as refusal
use Rattle.bus.specs.declared.Place.{Place}
use Rattle.bus.specs.declared.Refusal.{Refusal}
use Rattle.descriptor.specs.declared.Miss.{Miss}
use Rattle.bus.specs.declared.Window.{Window}
use Rattle.descriptor.specs.declared.Descriptor.{Descriptor}
use Rattle.descriptor.specs.declared.Miss.TheVariants.{Misaligned, Outside}
use Rattle.bus.specs.Refusal.{answer_number}
use Rattle.bus.specs.Window.{checked_of}
use Rattle.descriptor.specs.declared.Job.{Job}
use Rattle.descriptor.specs.Layout.{bytes_for, descriptor_at}
use Rattle.descriptor.specs.Looking.{spot_of}

-- 5 Misaligned, then 6 Outside
abbrev pub refusal_of : Miss → Refusal
refusal_of Misaligned = refusal.Misaligned
refusal_of Outside = refusal.Outside

abbrev pub seat_as : Result Place Miss → Result Place Refusal
seat_as (Err miss) = Err (refusal_of miss)
seat_as (Ok p) = Ok p

-- 3 BadWindow before them
abbrev pub seat_in : Result Window Refusal → ℕ → Result Place Refusal
seat_in (Err why) a = Err why
seat_in (Ok w) a = seat_as (spot_of w a)

-- where the descriptor at the address a stands in a window of so many bytes at base, or the first refusal that applies
unfoldable pub seat_of : (length base a : ℕ) → Result Place Refusal
seat_of length base a = seat_in (checked_of base length) a

-- ---- the reader

abbrev pub found : List ℕ → Result Place Refusal → Result Descriptor Refusal
found xs (Ok p) = Ok (descriptor_at xs p.0)
found xs (Err why) = Err why

pub record DescriptorWasRead (xs : List ℕ) (base a : ℕ) (r : Result Descriptor Refusal) : Type 0 where
  pub answer : r ≡ found xs (seat_of (length xs) base a)
  pub number : answer_number r ≡ answer_number (seat_of (length xs) base a)

pub reader-unique : {xs : List ℕ} {base a : ℕ} {r s : Result Descriptor Refusal} → DescriptorWasRead xs base a r → DescriptorWasRead xs base a s → r ≡ s
reader-unique p q = p.answer ∙ sym q.answer

-- ---- the builder

abbrev pub built : Result Place Refusal → Result Unit Refusal
built (Ok p) = Ok tt
built (Err why) = Err why

-- the window after it: all 32 bytes written, and no other; or, refused, nothing changed
abbrev pub with_job : List ℕ → Job → Result Place Refusal → List ℕ
with_job xs j (Ok p) = put xs p.0 (bytes_for j)
with_job xs j (Err why) = xs

pub record WasBuilt (xs : List ℕ) (base a : ℕ) (j : Job) (r : Result Unit Refusal) (after : List ℕ) : Type 0 where
  pub answer : r ≡ built (seat_of (length xs) base a)
  pub number : answer_number r ≡ answer_number (seat_of (length xs) base a)
  pub lent : after ≡ with_job xs j (seat_of (length xs) base a)

pub built-unique : {xs : List ℕ} {base a : ℕ} {j : Job} {r s : Result Unit Refusal} {ys zs : List ℕ}
    → WasBuilt xs base a j r ys → WasBuilt xs base a j s zs → (r ≡ s) × (ys ≡ zs)
built-unique p q = (p.answer ∙ sym q.answer, p.lent ∙ sym q.lent)
