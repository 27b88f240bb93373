-- The descriptor at a place, met field by field.
-- Assumes nothing.
use Rattle.bus.specs.Refusal.{answer_number}
use Rattle.std.specs.Prelude.{Result}
use Prim.Native.Nat.{ℕ, ◌+◌, ◌≤◌}
use mathlib.Core.Path.{◌≡◌, ap, ◌∙◌}
use mathlib.Core.List.{List}
use lib.ListN.{length}
use borrow.Author.Tests.{le-leb}
use Rattle.words.specs.declared.Order.TheVariants.{LeastFirst}
use Rattle.words.specs.Slices.{part}
use Rattle.words.proofs.Slices.{row_from}
use Rattle.descriptor.specs.declared.Descriptor.{Descriptor}
use Rattle.bus.specs.declared.Refusal.{Refusal}
use Rattle.descriptor.specs.Layout.{widths, named, descriptor_of, descriptor_at}
use Rattle.descriptor.specs.Calls.{seat_of, found, DescriptorWasRead}
use Rattle.descriptor.specs.Theorems.{ByOffset}
use Rattle.descriptor.proofs.Seats.{found_number}

pub was_read : {xs : List ℕ} {base a : ℕ} {r : Result Descriptor Refusal} → r ≡ found xs (seat_of (length xs) base a) → DescriptorWasRead xs base a r
was_read {xs} {base} {a} e = record { answer = e; number = ap answer_number e ∙ found_number xs (seat_of (length xs) base a) }

-- each named field by its offset
pub by-offset : ByOffset
by-offset ys = ap named (row_from LeastFirst 0 widths ys)

module _ (xs : List ℕ) (at : ℕ) where
  pub there : at + 32 ≤ length xs → descriptor_at xs at ≡ descriptor_of (part xs at 32)
  unfolding descriptor_at
  there h = rw (le-leb (at + 32) (length xs) h)
