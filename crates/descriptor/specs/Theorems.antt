-- What is proved of descriptors: each theorem's whole statement, under its name. A term of each stands in proofs/.
-- Assumes nothing.
use Rattle.std.specs.Prelude.{ℕ, ◌-◌, ◌≡◌, List, ◌↔◌, length, Result, Ok}
use Rattle.words.specs.declared.Order.TheVariants.{LeastFirst}
use Rattle.words.specs.Orders.{number_of}
use Rattle.words.specs.Slices.{part, AllBytes}
use Rattle.descriptor.specs.declared.Job.{Job}
use Rattle.descriptor.specs.declared.Descriptor.{Descriptor}
use Rattle.bus.specs.declared.Refusal.{Refusal}
use Rattle.descriptor.specs.Layout.{bytes_for, descriptor_of}
use Rattle.descriptor.specs.Calls.{DescriptorWasRead, WasBuilt}
use Rattle.descriptor.specs.RoundTrip.{Typed, as_built, job_of, OthersZero}

-- Each named field stands at its offset.
abbrev pub ByOffset : Type 0
ByOffset = (ys : List ℕ) → descriptor_of ys
    ≡ record {
      source = number_of LeastFirst (part ys 0 4);
      destination = number_of LeastFirst (part ys 8 4);
      next = number_of LeastFirst (part ys 16 4);
      length = number_of LeastFirst (part ys 24 2);
      actual = number_of LeastFirst (part ys 28 2);
      status = number_of LeastFirst (part ys 30 1);
      control = record { 0 = number_of LeastFirst (part ys 31 1) };
    }

-- The bytes that the builder writes are 32.
abbrev pub LengthJob : Type 0
LengthJob = (j : Job) → length (bytes_for j) ≡ 32

-- Read after build gives the same fields.
abbrev pub ReadAfterBuild : Type 0
ReadAfterBuild = (xs ys : List ℕ) (base a : ℕ) (j : Job) (r : Result Descriptor Refusal)
    → Typed j → WasBuilt xs base a j (Ok tt) ys → DescriptorWasRead ys base a r → r ≡ Ok (as_built j)

-- Build after read gives the same bytes exactly when reserved, actual and status bytes were zero.
abbrev pub BuildAfterRead : Type 0
BuildAfterRead = (xs ys : List ℕ) (base a : ℕ) (d : Descriptor)
    → AllBytes xs → DescriptorWasRead xs base a (Ok d) → WasBuilt xs base a (job_of d) (Ok tt) ys
    → (ys ≡ xs) ↔ OthersZero (part xs (a - base) 32)
