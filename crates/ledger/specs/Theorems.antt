-- What is proved of the ledger: each theorem's whole statement, under its name. A term of each stands in proofs/.
-- Assumes nothing.
use Rattle.std.specs.Prelude.{ℕ, ◌+◌, ◌*◌, ◌^◌, ◌≤◌, ◌<◌, ◌≡◌, ◌≢◌, ◌↔◌, true, List, [], ◌∷◌, ◌++◌, length, Some, None, Ok}
use Rattle.words.specs.Slices.{put}
use Rattle.ledger.specs.declared.Entry.{Entry}
use Rattle.ledger.specs.Records.{ledger_bytes, is_ledger}
use Rattle.ledger.specs.Finding.{entry_at, entries_in, finding_in}

-- ---- "Answer whether a descriptor was written back in a given run, and its latest byte count there"

-- a record of this descriptor, written back in this run
abbrev pub WrittenBack : (run address : ℕ) → Entry → Type 0
WrittenBack run address e = (e.run ≡ run) × (e.at ≡ address)

-- a used record is one, with this count, and no used record behind it is another
pub record LatestCount (ledger : List ℕ) (used run address count : ℕ) : Type 0 where
  pub place : ℕ
  pub used_one : place < used
  pub its : WrittenBack run address (entry_at ledger place)
  pub counted : (entry_at ledger place).actual ≡ count
  pub last : (j : ℕ) → place < j → j < used → WrittenBack run address (entry_at ledger j) → ⊥

-- A descriptor is found, with a count, exactly where the last used record of it in that run has this count.
abbrev pub FoundExactly : Type 0
FoundExactly = (ledger : List ℕ) (used run address count : ℕ) → is_ledger (length ledger) used ≡ true → run ≢ 4294967295
    → (finding_in ledger used run address ≡ Ok (Some count)) ↔ LatestCount ledger used run address count

-- It is not found exactly where no used record is of it in that run.
abbrev pub NotFoundExactly : Type 0
NotFoundExactly = (ledger : List ℕ) (used run address : ℕ) → is_ledger (length ledger) used ≡ true → run ≢ 4294967295
    → (finding_in ledger used run address ≡ Ok None) ↔ ((i : ℕ) → i < used → WrittenBack run address (entry_at ledger i) → ⊥)

-- ---- what was appended is what is read, and is found

-- each number has no more bits than its place in the record, as those of every machine have
abbrev pub Fits : Entry → Type 0
Fits e = (e.run < 2 ^ 32) × (e.at < 2 ^ 32) × (e.actual < 2 ^ 16) × (e.status < 2 ^ 8)

abbrev pub AllFit : List Entry → Type 0
AllFit [] = Unit
AllFit (e ∷ es) = Fits e × AllFit es

-- Records that are put behind those used are read back behind them.
abbrev pub RecordsBack : Type 0
RecordsBack = (ledger : List ℕ) (used : ℕ) (es : List Entry) → AllFit es → 12 * (used + length es) ≤ length ledger
    → entries_in (put ledger (12 * used) (ledger_bytes es)) (used + length es) ≡ entries_in ledger used ++ es

-- no record among these is of this descriptor and run
abbrev pub NoneOf : (run address : ℕ) → List Entry → Type 0
NoneOf run address [] = Unit
NoneOf run address (e ∷ es) = (WrittenBack run address e → ⊥) × NoneOf run address es

-- Of records that are put behind those used, one behind which there is no other of its descriptor and run is found, with its count.
abbrev pub AppendedFound : Type 0
AppendedFound = (ledger : List ℕ) (used : ℕ) (front : List Entry) (e : Entry) (back : List Entry)
    → AllFit (front ++ (e ∷ back)) → is_ledger (length ledger) (used + length (front ++ (e ∷ back))) ≡ true
    → e.run ≢ 4294967295 → NoneOf e.run e.at back
    → finding_in (put ledger (12 * used) (ledger_bytes (front ++ (e ∷ back)))) (used + length (front ++ (e ∷ back))) e.run e.at
    ≡ Ok (Some e.actual)
