-- The 12 bytes of a record, records in a row, and what is promised of adding one.
-- Assumes nothing.
use Rattle.std.specs.Prelude.{ℕ, ◌+◌, ◌*◌, ◌/◌, ◌%◌, ◌≡◌, Bool, cond, ◌&&◌, List, [], ◌∷◌, ◌++◌, eqb, leb, ltb, length}
use Rattle.std.proofs.Common.{sym, ◌∙◌}
use Rattle.words.specs.declared.Order.TheVariants.{MostFirst}
use Rattle.words.specs.Bits.{flag}
use Rattle.words.specs.Orders.{row_bytes}
use Rattle.words.specs.Slices.{put}
use Rattle.ledger.specs.declared.Entry.{Entry}

-- "12 bytes, most significant first: run number 32, descriptor address 32, actual 16, status 8, zero 7, EOP 1"
abbrev pub entry_bytes : Entry → List ℕ
entry_bytes e =
    row_bytes MostFirst (4 ∷ 4 ∷ 2 ∷ 1 ∷ 1 ∷ []) (e.run ∷ e.at ∷ e.actual ∷ e.status ∷ flag e.eop ∷ [])

abbrev pub ledger_bytes : List Entry → List ℕ
ledger_bytes [] = []
ledger_bytes (e ∷ es) = entry_bytes e ++ ledger_bytes es

-- how many records so many bytes hold; no more than 4,294,967,295 are told
unfoldable pub capacity : ℕ → ℕ
capacity bytes = cond (leb (bytes / 12) 4294967295) (bytes / 12) 4294967295

abbrev pub has_room : (bytes used : ℕ) → Bool
has_room bytes used = ltb used (capacity bytes)

-- whole records, and no fewer than are said to be used
abbrev pub is_ledger : (bytes used : ℕ) → Bool
is_ledger bytes used = eqb (bytes % 12) 0 && leb used (bytes / 12)

-- the record stands behind those used, and one more is used; nothing changes where there is no room
pub record Appended (ledger : List ℕ) (used : ℕ) (e : Entry) (used' : ℕ) (ledger' : List ℕ) : Type 0 where
  pub used_after : used' ≡ cond (has_room (length ledger) used) (used + 1) used
  pub lent : ledger' ≡ cond (has_room (length ledger) used) (put ledger (12 * used) (entry_bytes e)) ledger

pub appended-unique : {ledger : List ℕ} {used : ℕ} {e : Entry} {u1 u2 : ℕ} {l1 l2 : List ℕ}
    → Appended ledger used e u1 l1 → Appended ledger used e u2 l2 → (u1 ≡ u2) × (l1 ≡ l2)
appended-unique p q = (p.used_after ∙ sym q.used_after, p.lent ∙ sym q.lent)
