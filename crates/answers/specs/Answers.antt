-- The answers of the C calls as bytes, the most significant byte of each number first.
-- Assumes nothing.
use Rattle.std.specs.Prelude.{ℕ, Bool, cond, List, [], ◌∷◌, eqb, length}
use Rattle.words.specs.declared.Order.TheVariants.{MostFirst}
use Rattle.words.specs.Bits.{flag}
use Rattle.words.specs.Orders.{bytes_of, row_bytes}
use Rattle.descriptor.specs.declared.Descriptor.{Descriptor}

-- a register's value, and the interrupt line: 32 bits
abbrev pub value_bytes : ℕ → List ℕ
value_bytes v = bytes_of MostFirst 4 v

-- ---- a run's report

-- how many bytes each number has, in order
abbrev pub report_widths : List ℕ
report_widths =
    2  -- reason
    ∷ 4  -- steps
    ∷ 4  -- beats taken
    ∷ 4  -- beats made
    ∷ 4  -- records used
    ∷ []

abbrev pub report_bytes : (reason steps taken made used : ℕ) → List ℕ
report_bytes reason steps taken made used = row_bytes MostFirst report_widths (reason ∷ steps ∷ taken ∷ made ∷ used ∷ [])

-- ---- a descriptor answer

-- how many bytes each number has, in order
abbrev pub descriptor_widths : List ℕ
descriptor_widths =
    4  -- source
    ∷ 4  -- destination
    ∷ 4  -- next_desc_ptr
    ∷ 2  -- bytes_to_transfer
    ∷ 2  -- actual_bytes_transferred
    ∷ 1  -- desc_status
    ∷ 1  -- desc_control
    ∷ []

abbrev pub descriptor_bytes : Descriptor → List ℕ
descriptor_bytes d =
    row_bytes MostFirst descriptor_widths
    (d.source ∷ d.destination ∷ d.next ∷ d.length ∷ d.actual ∷ d.status ∷ d.control.0 ∷ [])

-- ---- what the ledger tells of a descriptor in a run

-- how many bytes each number has, in order
abbrev pub finding_widths : List ℕ
finding_widths =
    2  -- found: 1, or 0
    ∷ 2  -- its latest byte count there
    ∷ []

abbrev pub finding_bytes : (found : Bool) (count : ℕ) → List ℕ
finding_bytes found count = row_bytes MostFirst finding_widths (flag found ∷ count ∷ [])

-- ---- what is left in a lent slice

-- the answer; where the slice is not of just its size, what stood there
unfoldable pub answer_put : (answer xs : List ℕ) → List ℕ
answer_put answer xs = cond (eqb (length xs) (length answer)) answer xs
