-- What is proved of the ledger: each theorem's whole statement, under its name. A term of each stands in proofs/.
-- Assumes nothing.
use Rattle.std.specs.Prelude.{ℕ, List, Ok}
use Rattle.ledger.specs.declared.Entry.{Entry}
use Rattle.machine.specs.declared.Machine.{Machine}
use Rattle.machine.specs.declared.Ran.{Ran}
use Rattle.machine.specs.Run.{Lent, Returned, HasRun}
use Rattle.sums.specs.Sum.{Session, Adds}
use Rattle.sums.specs.Records.{OneEach}

-- Over register writes and runs from a fresh machine in mode 2, the ledger empty at first and each number handed on, the bytes that its
-- records tell, those in hand and those abandoned are the beats taken, and the ledger holds just these records.
abbrev pub SessionAdds : Type 0
SessionAdds = (m : Machine) (before ledger : List ℕ) (used : ℕ) (rs : List Entry) (taken lost : ℕ)
    → Session m before ledger used rs taken lost → Adds m before ledger used rs taken lost

-- A write-back and a record are one: the records that a run adds are, in order, one for each WriteBack step that it takes, each with the run
-- number of the machine, the descriptor's address, and the count, errors and EOP that the write-back wrote.
abbrev pub OneRecordEach : Type 0
OneRecordEach = (m : Machine) (l : Lent) (budget : ℕ) (r : Ran) (b : Returned) → HasRun m l budget (Ok r) b → OneEach m l budget r b
