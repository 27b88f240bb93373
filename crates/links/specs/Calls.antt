-- What the check promises, and the C calls of the check and of mending.
-- Assumes nothing.
use Rattle.std.specs.Prelude.{ℕ, ◌≡◌, cond, not, List, [], ◌∷◌, eqb, length, if◌then◌else◌, Result, Ok, Err, Option, Some, None}
use Rattle.std.proofs.Common.{sym, ◌∙◌}
use Rattle.words.specs.declared.Order.TheVariants.{MostFirst}
use Rattle.words.specs.Orders.{row_bytes}
use Rattle.words.specs.Promise.{Answers, answers-unique}
use Rattle.bus.specs.declared.Refusal.TheVariants.{BadSize, BadWindow}
use Rattle.bus.specs.declared.Window.{Window}
use Rattle.bus.specs.declared.Refusal.{Refusal}
use Rattle.bus.specs.Refusal.{refusal_number, answer_number}
use Rattle.bus.specs.Window.{keeps_limits, checked_of}
use Rattle.links.specs.declared.Stop.{Stop}
use Rattle.links.specs.declared.Verdict.{Verdict}
use Rattle.links.specs.declared.Kind.{Kind}
use Rattle.links.specs.declared.Kind.TheVariants.{Sound, Misaligned, Outside, Overlaps}
use Rattle.links.specs.declared.mending.Change.{Change}
use Rattle.links.specs.Mending.{mended_in, left_in}
use Rattle.links.specs.Verdicts.{window_at, verdict_of}

-- "3 for a bad window; the verdicts are its answers"
abbrev pub verdict_in : Result Window Refusal → List ℕ → (pointer : ℕ) → Result Verdict Refusal
verdict_in (Err why) memory pointer = Err why
verdict_in (Ok window) memory pointer = Ok (verdict_of window memory pointer)

-- ---- check

pub record WasChecked (memory : List ℕ) (base pointer : ℕ) (r : Result Verdict Refusal) : Type 0 where
  pub answer : r ≡ verdict_in (checked_of base (length memory)) memory pointer
  pub number : answer_number r ≡ cond (keeps_limits base (length memory)) 0 3

pub was-checked-unique : {memory : List ℕ} {base pointer : ℕ} {r s : Result Verdict Refusal}
    → WasChecked memory base pointer r → WasChecked memory base pointer s → r ≡ s
was-checked-unique p q = p.answer ∙ sym q.answer

-- ---- check_chain: 7, 3

-- the numbers of the verdicts
abbrev pub kind_number : Kind → ℕ
kind_number Sound = 0
kind_number Misaligned = 1
kind_number Outside = 2
kind_number Overlaps = 3

-- how many bytes each number of its answer has, in order
abbrev pub verdict_widths : List ℕ
verdict_widths =
    2  -- the verdict, by its `kind_number`
    ∷ 4  -- k, or the position of the defect
    ∷ 4  -- the address of the end, or of the defect
    ∷ []

abbrev pub stop_bytes : (kind : ℕ) → Stop → List ℕ
stop_bytes kind s = row_bytes MostFirst verdict_widths (kind ∷ s.position ∷ s.address ∷ [])

abbrev pub verdict_bytes : Verdict → List ℕ
verdict_bytes v = stop_bytes (kind_number v.kind) v.stop

unfoldable pub check_number : (memory : List ℕ) (base : ℕ) (answer : List ℕ) → ℕ
check_number memory base answer =
    if not (eqb (length answer) 10) then refusal_number BadSize
    else if not (keeps_limits base (length memory)) then refusal_number BadWindow
    else 0

-- the number, and every byte of the answer after the call; no second outcome keeps it, by `answers-unique`
abbrev pub ChainChecked : (memory : List ℕ) (base pointer : ℕ) (answer : List ℕ) (r : ℕ) (answer' : List ℕ) → Type 0
ChainChecked memory base pointer answer r answer' =
    Answers (check_number memory base answer) answer (verdict_bytes (verdict_of (window_at base memory) memory pointer)) r answer'

-- ---- mend_chain: 7, 3, 23

-- how many bytes each number of its answer has, in order
abbrev pub change_widths : List ℕ
change_widths =
    2  -- mended: 1, or 0 where the chain was sound
    ∷ 4  -- the address of the descriptor that was changed
    ∷ 1  -- the old byte
    ∷ 1  -- the new byte
    ∷ []

abbrev pub change_bytes : (mended : ℕ) → Change → List ℕ
change_bytes n c = row_bytes MostFirst change_widths (n ∷ c.address ∷ c.before ∷ c.after ∷ [])

-- all zero where the chain was sound; none where mending is refused
abbrev pub mended_bytes : Result (Option Change) Refusal → List ℕ
mended_bytes (Ok None) = change_bytes 0 (record { address = 0; before = 0; after = 0 })
mended_bytes (Ok (Some c)) = change_bytes 1 c
mended_bytes (Err why) = []

unfoldable pub mend_number : (memory : List ℕ) (base pointer : ℕ) (answer : List ℕ) → ℕ
mend_number memory base pointer answer =
    if not (eqb (length answer) 8) then refusal_number BadSize
    else answer_number (mended_in (checked_of base (length memory)) memory pointer)

-- the number, and every byte of the window and of the answer after the call
pub record ChainMended (memory : List ℕ) (base pointer : ℕ) (answer : List ℕ) (r : ℕ) (memory' answer' : List ℕ) : Type 0 where
  pub window : Answers (mend_number memory base pointer answer) memory (left_in (checked_of base (length memory)) memory pointer) r memory'
  pub told : Answers (mend_number memory base pointer answer) answer (mended_bytes (mended_in (checked_of base (length memory)) memory pointer)) r answer'

-- No second outcome of mend_chain keeps its promise.
abbrev pub ChainMendedUnique : Type 0
ChainMendedUnique = (memory : List ℕ) (base pointer : ℕ) (answer : List ℕ) (r s : ℕ) (xs ys us vs : List ℕ)
    → ChainMended memory base pointer answer r xs us → ChainMended memory base pointer answer s ys vs → (r ≡ s) × (xs ≡ ys) × (us ≡ vs)

pub chain-mended-unique : ChainMendedUnique
chain-mended-unique memory base pointer answer r s xs ys us vs p q =
    let windows = answers-unique _ _ _ r s xs ys p.window q.window in
    let answers = answers-unique _ _ _ r s us vs p.told q.told in
    (windows.0, windows.1, answers.1)
