-- What a report of sgdma_run tells, at the header's offsets.
-- Assumes nothing.
use Rattle.std.specs.Prelude.{ℕ, List}
use Rattle.words.specs.declared.Order.TheVariants.{MostFirst}
use Rattle.words.specs.Orders.{number_of}
use Rattle.words.specs.Slices.{part}

abbrev pub reason_told : List ℕ → ℕ
reason_told report = number_of MostFirst (part report 0 2)

abbrev pub steps_told : List ℕ → ℕ
steps_told report = number_of MostFirst (part report 2 4)

abbrev pub taken_told : List ℕ → ℕ
taken_told report = number_of MostFirst (part report 6 4)

abbrev pub made_told : List ℕ → ℕ
made_told report = number_of MostFirst (part report 10 4)

abbrev pub used_told : List ℕ → ℕ
used_told report = number_of MostFirst (part report 14 4)
