-- The paper's "Descriptor": 32 bytes, little-endian.
-- Assumes nothing.
use Rattle.std.specs.Prelude.{ℕ, ◌+◌, Bool, cond, List, [], ◌∷◌, length, get_or, leb}
use Rattle.words.specs.declared.Order.TheVariants.{LeastFirst}
use Rattle.words.specs.Bits.{bit}
use Rattle.words.specs.Orders.{row_bytes, row_numbers}
use Rattle.words.specs.Slices.{part}
use Rattle.descriptor.specs.declared.Job.{Job}
use Rattle.descriptor.specs.declared.Descriptor.{Descriptor}

-- how many bytes each field has, in order
abbrev pub widths : List ℕ
widths =
    4  -- +0 source
    ∷ 4  -- reserved
    ∷ 4  -- +8 destination
    ∷ 4  -- reserved
    ∷ 4  -- +16 next_desc_ptr
    ∷ 4  -- reserved
    ∷ 2  -- +24 bytes_to_transfer
    ∷ 2  -- reserved
    ∷ 2  -- +28 actual_bytes_transferred
    ∷ 1  -- +30 desc_status
    ∷ 1  -- +31 desc_control
    ∷ []

-- the control bits
abbrev pub generate_eop : ℕ → Bool
generate_eop control = bit 0 control

abbrev pub read_fixed : ℕ → Bool
read_fixed control = bit 1 control

abbrev pub write_fixed : ℕ → Bool
write_fixed control = bit 2 control

abbrev pub owned : ℕ → Bool
owned control = bit 7 control

-- the builder writes all 32 bytes, with reserved, actual and status zero
unfoldable pub bytes_for : Job → List ℕ
bytes_for j =
    row_bytes LeastFirst widths
    (j.source ∷ 0 ∷ j.destination ∷ 0 ∷ j.next ∷ 0 ∷ j.length ∷ 0 ∷ 0 ∷ 0 ∷ j.control.0 ∷ [])

-- every named field of the numbers of a row; reserved ones are ignored
abbrev pub named : List ℕ → Descriptor
named ns =
    record {
      source = get_or ns 0 0;
      destination = get_or ns 2 0;
      next = get_or ns 4 0;
      length = get_or ns 6 0;
      actual = get_or ns 8 0;
      status = get_or ns 9 0;
      control = record { 0 = get_or ns 10 0 };
    }

-- the descriptor that 32 bytes are
abbrev pub descriptor_of : List ℕ → Descriptor
descriptor_of xs = named (row_numbers LeastFirst widths xs)

-- the descriptor at the place `at`; that of no bytes, all zero, where 32 bytes do not stand there
unfoldable pub descriptor_at : List ℕ → ℕ → Descriptor
descriptor_at xs at = cond (leb (at + 32) (length xs)) (descriptor_of (part xs at 32)) (descriptor_of [])

-- the last four bytes: actual, status, control
abbrev pub last_four : (actual status control : ℕ) → List ℕ
last_four actual status control = row_bytes LeastFirst (2 ∷ 1 ∷ 1 ∷ []) (actual ∷ status ∷ control ∷ [])
