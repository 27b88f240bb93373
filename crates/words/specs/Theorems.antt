-- What is proved of numbers in bytes: each theorem's whole statement, under its name. A term of each stands in proofs/.
-- Assumes nothing.
use Rattle.std.specs.Prelude.{ℕ, ◌*◌, ◌≤◌, ◌≡◌, List, length}
use Rattle.words.specs.declared.Order.{Order}
use Rattle.words.specs.Numbers.{total, recode, bytes, Fit}
use Rattle.words.specs.Orders.{bit_widths, row_bytes, row_numbers}
use Rattle.words.specs.Slices.{AllBytes}
use Rattle.words.specs.Packed.{no_fields, packed_over, fields_put, Narrow}

-- Numbers of any widths, side by side, read at other widths and back are the same numbers.
abbrev pub RecodeBack : Type 0
RecodeBack = (ws bs vs : List ℕ) → total bs ≡ total ws → Fit ws vs → recode bs ws (recode ws bs vs) ≡ vs

-- A row of numbers in bytes, in either order, comes back from its bytes.
abbrev pub RowBack : Type 0
RowBack = (order : Order) (ns vs : List ℕ) → Fit (bit_widths ns) vs → row_numbers order ns (row_bytes order ns vs) ≡ vs

-- The bytes of a row come back from its numbers.
abbrev pub RowThere : Type 0
RowThere = (order : Order) (ns xs : List ℕ) → length xs ≡ total ns → AllBytes xs → row_bytes order ns (row_numbers order ns xs) ≡ xs

-- What a packer writes of fields that were put into it one after the other is the fields side by side.
abbrev pub FieldsPacked : Type 0
FieldsPacked = (ws vs xs : List ℕ) → Fit ws vs → Narrow ws → total ws ≡ 8 * length xs → length xs ≤ 96
    → packed_over (fields_put ws vs no_fields) xs ≡ recode ws (bytes (length xs)) vs
