-- Records as words, and records in a row.
-- Assumes nothing.
use Prim.Native.Nat.{ℕ, ◌+◌, ◌*◌, ◌/◌, ◌^◌, ◌<◌, ◌≤◌}
use mathlib.Core.Path.{◌≡◌, refl, sym, ap, ◌∙◌}
use mathlib.Core.Bool.{Bool, true, false, cond}
use mathlib.Core.List.{List, [], ◌∷◌, ◌++◌}
use native.Mathlib.Omega.{arith}
use lib.Dec.{leb}
use lib.ListN.{length}
use borrow.Author.Tests.{leb-true, leb-false, ltb-true}
use Rattle.words.specs.declared.Order.TheVariants.{MostFirst}
use Rattle.words.specs.Bits.{flag}
use Rattle.words.specs.Promise.{Gives}
use Rattle.words.specs.Slices.{put_at}
use Rattle.words.proofs.Slices.{put_in}
use Rattle.words.specs.Orders.{bytes_of, row_bytes, word_bytes}
use Rattle.ledger.specs.declared.Entry.{Entry}
use Rattle.ledger.specs.Records.{entry_bytes, ledger_bytes, capacity, has_room, Appended}

four : {a b c d x y z w : ℕ} → a ≡ x → b ≡ y → c ≡ z → d ≡ w → a ∷ b ∷ c ∷ d ∷ [] ≡ x ∷ y ∷ z ∷ w ∷ []
four e f g h = cc

last_word : (n s f : ℕ) → n < 2 ^ 16 → s < 2 ^ 8 → f < 2
    → bytes_of MostFirst 4 (n * 65536 + s * 256 + f) ≡ row_bytes MostFirst (2 ∷ 1 ∷ 1 ∷ []) (n ∷ s ∷ f ∷ [])
last_word n s f h i j = four (omega arith) (omega arith) (omega arith) (omega arith)

pub flag-lt : (b : Bool) → flag b < 2
flag-lt true = omega arith
flag-lt false = omega arith

-- a record is three words
pub three-words : (e : Entry) {w : ℕ} → w ≡ e.actual * 65536 + e.status * 256 + flag e.eop → e.actual < 2 ^ 16 → e.status < 2 ^ 8
    → word_bytes MostFirst (e.run ∷ e.at ∷ w ∷ []) ≡ entry_bytes e
three-words e f h i =
    ap (λ (ys : List ℕ). bytes_of MostFirst 4 e.run ++ bytes_of MostFirst 4 e.at ++ ys)
    (ap (bytes_of MostFirst 4) f ∙ last_word e.actual e.status (flag e.eop) h i (flag-lt e.eop))

pub length-ledger : (es : List Entry) → length (ledger_bytes es) ≡ 12 * length es
length-ledger [] = refl
length-ledger (e ∷ es) = let l = length-ledger es in omega arith

pub ledger-append : (es fs : List Entry) → ledger_bytes (es ++ fs) ≡ ledger_bytes es ++ ledger_bytes fs
ledger-append [] fs = refl
ledger-append (e ∷ es) fs = rw (ledger-append es fs)

capacity-by : (b : Bool) (n : ℕ) → leb n 4294967295 ≡ b → (cond b n 4294967295 ≤ n) × (cond b n 4294967295 ≤ 4294967295)
capacity-by true n e = (omega arith, leb-true n 4294967295 e)
capacity-by false n e = let h = leb-false n 4294967295 e in (omega arith, omega arith)

-- the records stand wholly in the bytes, and their number is a 32-bit one
pub capacity-le : (bytes : ℕ) → (12 * capacity bytes ≤ bytes) × (capacity bytes ≤ 4294967295)
unfolding capacity
capacity-le bytes =
    let c = capacity-by (leb (bytes / 12) 4294967295) (bytes / 12) refl in
    (omega (arith, c.0), c.1)

-- room that was found
pub room-lt : (bytes used : ℕ) {b : Bool} → Gives (has_room bytes used) b → b ≡ true → (used < 4294967295) × (12 * used + 12 ≤ bytes)
room-lt bytes used g e =
    let h : used < capacity bytes = ltb-true used (capacity bytes) (sym g.value ∙ e) in
    let c = capacity-le bytes in
    (omega (arith, c.1), omega (arith, c.0))

pub appends : (ledger : List ℕ) (used : ℕ) (e : Entry) {b : Bool} → Gives (has_room (length ledger) used) b → b ≡ true
    → {w : ℕ} {ledger' : List ℕ} → w ≡ e.actual * 65536 + e.status * 256 + flag e.eop → e.actual < 2 ^ 16 → e.status < 2 ^ 8
    → ledger' ≡ put_at ledger (12 * used) (word_bytes MostFirst (e.run ∷ e.at ∷ w ∷ [])) → Appended ledger used e (used + 1) ledger'
appends ledger used e g t f h i p =
    let room : has_room (length ledger) used ≡ true = sym g.value ∙ t in
    let fits = (room-lt (length ledger) used g t).1 in
    record {
      used_after = rw room;
      lent = p ∙ ap (put_at ledger (12 * used)) (three-words e f h i) ∙ put_in ledger (12 * used) (entry_bytes e) (omega (arith, fits)) ∙ rw room;
    }
