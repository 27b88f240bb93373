-- The modes 0, 1 and 2.
-- Assumes nothing.
use Rattle.std.specs.Prelude.{ℕ, ◌≡◌, cond, [], ◌∷◌, leb, get_or, Result, Ok, Err}
use Rattle.std.proofs.Common.{sym, ◌∙◌}
use Rattle.bus.specs.declared.Refusal.TheVariants.{BadMode}
use Rattle.bus.specs.Refusal.{answer_number}
use Rattle.regs.specs.declared.Mode.{Mode}
use Rattle.regs.specs.declared.Mode.TheVariants.{MemoryToMemory, MemoryToStream, StreamToMemory}
use Rattle.bus.specs.declared.Refusal.{Refusal}

abbrev pub mode_number : Mode → ℕ
mode_number MemoryToMemory = 0
mode_number MemoryToStream = 1
mode_number StreamToMemory = 2

-- a number above 2 is no mode: the image's rules, and `checked_mode`, leave none
abbrev pub mode_of : ℕ → Mode
mode_of n = get_or (MemoryToMemory ∷ MemoryToStream ∷ []) n StreamToMemory

-- 2 BadMode: mode above 2
unfoldable pub checked_mode : ℕ → Result Mode Refusal
checked_mode n = cond (leb n 2) (Ok (mode_of n)) (Err BadMode)

-- checked: the answer, and its number, written out so that `refusal_number` is held to it
pub record ModeChecked (n : ℕ) (r : Result Mode Refusal) : Type 0 where
  pub answer : r ≡ checked_mode n
  pub number : answer_number r ≡ cond (leb n 2) 0 2

pub mode-checked-unique : {n : ℕ} {r s : Result Mode Refusal} → ModeChecked n r → ModeChecked n s → r ≡ s
mode-checked-unique p q = p.answer ∙ sym q.answer
