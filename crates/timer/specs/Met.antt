-- The timers that are met in use.
-- Assumes nothing.
use Rattle.std.specs.Prelude.{◌≡◌, ℕ, ◌^◌, ◌<◌, List, Ok}
use Rattle.words.specs.Slices.{AllBytes}
use Rattle.timer.specs.declared.Timer.{Timer}
use Rattle.timer.specs.Counting.{created_of, after_ticks}
use Rattle.timer.specs.Registers.{write_of}
use Rattle.timer.specs.Saved.{load_of}

-- a timer that was made or loaded, and one after ticks or a write. A period is a number of 32 bits, a value written one of 16
pub data Met : Timer → Type 0 where
  created : (period : ℕ) → period < 2 ^ 32 → Met (created_of period)
  loaded : (xs : List ℕ) {t : Timer} → AllBytes xs → load_of xs ≡ Ok t → Met t
  ticked : {t : Timer} (n : ℕ) → Met t → Met (after_ticks n t)
  written : {t u : Timer} (offset v : ℕ) → Met t → v < 2 ^ 16 → write_of t offset v ≡ Ok u → Met u
