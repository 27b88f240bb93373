-- What the ledger tells. Order 6: "Answer whether a descriptor was written back in a given run, and its latest byte count there."
-- Assumes nothing.
use Rattle.std.specs.Prelude.{ℕ, zero, suc, ◌*◌, Bool, not, ◌&&◌, List, [], ◌∷◌, ◌++◌, eqb, length, if◌then◌else◌, Option, Some, None, Result, Ok, Err}
use Rattle.words.specs.declared.Order.TheVariants.{MostFirst}
use Rattle.words.specs.Bits.{bit}
use Rattle.words.specs.Slices.{part, number_at}
use Rattle.bus.specs.declared.Refusal.{Refusal}
use Rattle.bus.specs.declared.Refusal.TheVariants.{BadLedger, RunUnknown}
use Rattle.ledger.specs.declared.Entry.{Entry}
use Rattle.ledger.specs.Records.{is_ledger}

-- ---- the records, read back

-- the record that 12 bytes are; their zero bits are not looked at
abbrev pub entry_of : List ℕ → Entry
entry_of bytes =
    record {
      run = number_at MostFirst 4 bytes 0;
      at = number_at MostFirst 4 bytes 4;
      actual = number_at MostFirst 2 bytes 8;
      status = number_at MostFirst 1 bytes 10;
      eop = bit 0 (number_at MostFirst 1 bytes 11);
    }

-- record i of a ledger, counted from 0
abbrev pub entry_at : List ℕ → ℕ → Entry
entry_at ledger i = entry_of (part ledger (12 * i) 12)

-- the first n records
abbrev pub entries_in : List ℕ → ℕ → List Entry
entries_in ledger zero = []
entries_in ledger (suc n) = entries_in ledger n ++ (entry_at ledger n ∷ [])

-- ---- what is found among them

-- a record of this descriptor, written back in this run
abbrev pub is_of : (run address : ℕ) → Entry → Bool
is_of run address e = eqb e.at address && eqb e.run run

-- the latest byte count, if there is one: the records one after the other, the oldest first, and each that is asked for takes the place
-- of what was found before it
abbrev pub latest : (run address : ℕ) → Option ℕ → List Entry → Option ℕ
latest run address before [] = before
latest run address before (e ∷ es) = latest run address (if is_of run address e then Some e.actual else before) es

-- "18 RunUnknown when the run asked for is 4,294,967,295, after 19"
unfoldable pub finding_in : (ledger : List ℕ) (used run address : ℕ) → Result (Option ℕ) Refusal
finding_in ledger used run address =
    if not (is_ledger (length ledger) used) then Err BadLedger
    else if eqb run 4294967295 then Err RunUnknown
    else Ok (latest run address None (entries_in ledger used))
