-- Records that are put behind those used are read back behind them, and found.
-- Assumes nothing.
use Rattle.std.specs.Prelude.{if◌then◌else◌, Option, Some, None, Ok}
use Prim.Native.Nat.{ℕ, zero, suc, ◌+◌, ◌*◌, ◌≤◌}
use mathlib.Core.Path.{◌≡◌, refl, sym, ap, ◌∙◌}
use mathlib.Core.Bool.{Bool, true, false}
use mathlib.Core.List.{List, [], ◌∷◌, ◌++◌, append_assoc, append-nil}
use native.Mathlib.Nat.{add-zero}
use native.Mathlib.Omega.{arith}
use lib.ListN.{length, get_or}
use Rattle.words.specs.declared.Order.TheVariants.{MostFirst}
use Rattle.words.specs.Bits.{bit, flag}
use Rattle.words.specs.Orders.{row_numbers}
use Rattle.words.specs.Slices.{put}
use Rattle.words.proofs.Orders.{row_back}
use Rattle.words.proofs.Slices.{number_in, put-none, put-put, part-put, length-put}
use Rattle.words.proofs.Beside.{part-before}
use Rattle.ledger.specs.declared.Entry.{Entry}
use Rattle.ledger.specs.Records.{entry_bytes, ledger_bytes, is_ledger}
use Rattle.ledger.specs.Finding.{entry_of, entries_in, is_of, latest}
use Rattle.ledger.specs.Theorems.{Fits, RecordsBack, NoneOf, AppendedFound}
use Rattle.ledger.proofs.Rows.{flag-lt, length-ledger}
use Rattle.ledger.proofs.Latest.{records-within, asked_of}
use Rattle.ledger.proofs.Tells.{itself, not-of}

-- ---- one record

eop-back : (b : Bool) → bit 0 (flag b) ≡ b
eop-back true = refl
eop-back false = refl

by-fields : {r a n s r' a' n' s' : ℕ} {b b' : Bool} → r ≡ r' → a ≡ a' → n ≡ n' → s ≡ s' → b ≡ b'
    → ◌≡◌ {A = Entry} (record { run = r; at = a; actual = n; status = s; eop = b }) (record { run = r'; at = a'; actual = n'; status = s'; eop = b' })
by-fields p q r s t = cc

-- it comes back from its bytes
pub entry-back : (e : Entry) → Fits e → entry_of (entry_bytes e) ≡ e
entry-back e f =
    let numbers : row_numbers MostFirst (4 ∷ 4 ∷ 2 ∷ 1 ∷ 1 ∷ []) (entry_bytes e) ≡ e.run ∷ e.at ∷ e.actual ∷ e.status ∷ flag e.eop ∷ [] =
    row_back MostFirst (4 ∷ 4 ∷ 2 ∷ 1 ∷ 1 ∷ []) (e.run ∷ e.at ∷ e.actual ∷ e.status ∷ flag e.eop ∷ [])
    (f.0, (f.1, (f.2, (f.3, (omega (arith, flag-lt e.eop), tt))))) in
    by-fields
    (number_in (entry_bytes e) 0 MostFirst 4 (omega arith) ∙ ap (λ (l : List ℕ). get_or l 0 0) numbers)
    (number_in (entry_bytes e) 4 MostFirst 4 (omega arith) ∙ ap (λ (l : List ℕ). get_or l 1 0) numbers)
    (number_in (entry_bytes e) 8 MostFirst 2 (omega arith) ∙ ap (λ (l : List ℕ). get_or l 2 0) numbers)
    (number_in (entry_bytes e) 10 MostFirst 1 (omega arith) ∙ ap (λ (l : List ℕ). get_or l 3 0) numbers)
    (ap (bit 0) (number_in (entry_bytes e) 11 MostFirst 1 (omega arith) ∙ ap (λ (l : List ℕ). get_or l 4 0) numbers) ∙ eop-back e.eop)

-- put behind those used, it is read there, and they are as they were
module _ (ledger : List ℕ) (used : ℕ) (e : Entry) (h : 12 * used + 12 ≤ length ledger) where
  abbrev with-entry : List ℕ
  with-entry = put ledger (12 * used) (entry_bytes e)

  those-used : (n : ℕ) → n ≤ used → entries_in with-entry n ≡ entries_in ledger n
  those-used zero i = refl
  those-used (suc n) i =
      rw (those-used n (omega arith), part-before ledger (12 * used) _ (12 * n) 12 (omega arith) (omega arith))

  entry-put : Fits e → entries_in with-entry (suc used) ≡ entries_in ledger used ++ (e ∷ [])
  entry-put f = rw (those-used used (omega arith), part-put ledger (12 * used) (entry_bytes e) 12 h refl, entry-back e f)

-- ---- records in a row

pub records-back : RecordsBack
records-back ledger used [] f h = rw (add-zero used, put-none ledger (12 * used), append-nil (entries_in ledger used))
records-back ledger used (e ∷ es) f h =
    let more = with-entry ledger used e (omega arith) in
    let same : length more ≡ length ledger = length-put ledger (12 * used) (entry_bytes e) (omega arith) in
    let next : 12 * used + 12 ≡ 12 * suc used = omega arith in
    let count : used + suc (length es) ≡ suc used + length es = omega arith in
    let whole : put ledger (12 * used) (ledger_bytes (e ∷ es)) ≡ put more (12 * suc used) (ledger_bytes es) =
    sym (put-put ledger (12 * used) (entry_bytes e) (ledger_bytes es) (omega arith)) ∙ ap (λ (at : ℕ). put more at (ledger_bytes es)) next in
    ap (λ (l : List ℕ). entries_in l (used + suc (length es))) whole
    ∙ ap (entries_in (put more (12 * suc used) (ledger_bytes es))) count
    ∙ records-back more (suc used) es f.1 (omega arith)
    ∙ ap (λ (l : List Entry). l ++ es) (entry-put ledger used e (omega arith) f.0)
    ∙ append_assoc (entries_in ledger used) (e ∷ []) es

-- ---- and they are found

-- records that are none change nothing
none-later : (run address : ℕ) (before : Option ℕ) (es : List Entry) → NoneOf run address es → latest run address before es ≡ before
none-later run address before [] n = refl
none-later run address before (e ∷ es) n = rw (not-of run address e n.0) (none-later run address before es n.1)

-- the last that is one is told
last_of : (run address : ℕ) (before : Option ℕ) (front : List Entry) (e : Entry) (back : List Entry) → is_of run address e ≡ true → NoneOf run address back
    → latest run address before (front ++ (e ∷ back)) ≡ Some e.actual
last_of run address before [] e back t n =
    ap (λ (b : Bool). latest run address (if b then Some e.actual else before) back) t ∙ none-later run address (Some e.actual) back n
last_of run address before (f ∷ front) e back t n = last_of run address (if is_of run address f then Some f.actual else before) front e back t n

pub appended-found : AppendedFound
appended-found ledger used front e back f s h n =
    let es = front ++ (e ∷ back) in
    let within : 12 * (used + length es) ≤ length ledger = records-within ledger (used + length es) s in
    let bytes : length (ledger_bytes es) ≡ 12 * length es = length-ledger es in
    let same : length (put ledger (12 * used) (ledger_bytes es)) ≡ length ledger = length-put ledger (12 * used) (ledger_bytes es) (omega arith) in
    let serves : is_ledger (length (put ledger (12 * used) (ledger_bytes es))) (used + length es) ≡ true =
    ap (λ (n : ℕ). is_ledger n (used + length es)) same ∙ s in
    asked_of (put ledger (12 * used) (ledger_bytes es)) (used + length es) serves e.run e.at h
    ∙ ap (λ (es : List Entry). Ok (latest e.run e.at None es))
    (records-back ledger used es f within ∙ sym (append_assoc (entries_in ledger used) front (e ∷ back)))
    ∙ ap Ok (last_of e.run e.at None (entries_in ledger used ++ front) e back (itself e) n)
