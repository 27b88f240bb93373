-- The 14 bytes that a caller of the six calls comes by.
-- Assumes nothing.
use Rattle.std.specs.Prelude.{◌≡◌, ℕ, ◌^◌, ◌<◌, List, Ok}
use Rattle.words.specs.Slices.{AllBytes}
use Rattle.timer.specs.declared.Timer.{Timer}
use Rattle.timer.specs.Saved.{load_of}
use Rattle.timer.specs.Calls.{TimerCreated, TimerWritten, TimerRan}

-- bytes are in use if sgdma_timer_create made them, and so gave back 0; or if they load, wherever they were kept; or if
-- sgdma_timer_write or sgdma_timer_run left them, over bytes in use, whatever number they gave back. The other calls write no timer
pub data InUse : List ℕ → Type 0 where
  created : {xs ys : List ℕ} {period : ℕ} → period < 2 ^ 32 → TimerCreated xs period 0 ys → InUse ys
  loaded : {xs : List ℕ} {t : Timer} → AllBytes xs → load_of xs ≡ Ok t → InUse xs
  written : {xs ys : List ℕ} {r : ℕ} (offset v : ℕ) → InUse xs → v < 2 ^ 16 → TimerWritten xs offset v r ys → InUse ys
  ran : {xs ys value value' : List ℕ} {n r : ℕ} → InUse xs → TimerRan xs n value r ys value' → InUse ys
