-- The words of the paper's "read after build gives the same fields; build after read gives the same bytes exactly when
-- reserved, actual and status bytes were zero". The theorems are `read-after-build` and `build-after-read`.
-- Assumes nothing.
use Rattle.std.specs.Prelude.{ℕ, ◌^◌, ◌<◌, ◌≡◌, List, replicate}
use Rattle.words.specs.Slices.{part}
use Rattle.descriptor.specs.declared.Job.{Job}
use Rattle.descriptor.specs.declared.Descriptor.{Descriptor}

-- the numbers are of their types' widths, as those of every job are that a call is given
pub record Typed (j : Job) : Type 0 where
  pub source : j.source < 2 ^ 32
  pub destination : j.destination < 2 ^ 32
  pub next : j.next < 2 ^ 32
  pub length : j.length < 2 ^ 16
  pub control : j.control.0 < 2 ^ 8

-- the same fields, with actual and status zero
abbrev pub as_built : Job → Descriptor
as_built j =
    record {
      source = j.source;
      destination = j.destination;
      next = j.next;
      length = j.length;
      actual = 0;
      status = 0;
      control = j.control;
    }

-- what a descriptor that was read asks for
abbrev pub job_of : Descriptor → Job
job_of d =
    record { source = d.source; destination = d.destination; next = d.next; length = d.length; control = d.control }

-- the reserved, actual and status bytes of a descriptor's 32 are zero
pub record OthersZero (ys : List ℕ) : Type 0 where
  pub reserved_4 : part ys 4 4 ≡ replicate 4 0
  pub reserved_12 : part ys 12 4 ≡ replicate 4 0
  pub reserved_20 : part ys 20 4 ≡ replicate 4 0
  pub reserved_26 : part ys 26 2 ≡ replicate 2 0
  pub actual : part ys 28 2 ≡ replicate 2 0
  pub status : part ys 30 1 ≡ replicate 1 0
