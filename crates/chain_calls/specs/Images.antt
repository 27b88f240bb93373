-- The paper's "Every machine met in use, from a fresh or a loaded one, saves to an image that loads back as it", of the C calls: the
-- images that a caller comes by, and what is said of each. The theorem is `images-load`.
-- Assumes nothing.
use Rattle.std.specs.Prelude.{ℕ, ◌^◌, ◌<◌, ◌≡◌, false, List, length, Ok}
use Rattle.words.specs.Slices.{AllBytes}
use Rattle.image.specs.Editions.{ImageMoved}
use Rattle.machine.specs.declared.Machine.{Machine}
use Rattle.machine.specs.Saved.{load_of}
use Rattle.met.specs.Met.{Met}
use Rattle.sgdma.specs.Calls.{image_of, Created, RegisterWritten}
use Rattle.chain_calls.specs.InC.{RunLent, RunLeft, Promised}
use Rattle.chain_calls.specs.Refused.{bad_image}

-- an image is in use if sgdma_create made it, and so gave back 0; or if it loads, wherever its bytes were kept; or if
-- sgdma_write_register or sgdma_run left it, over one in use, whatever number they gave back; or if sgdma_move_image made it of an image of
-- any edition, and gave back 0. The other calls write no image. A value written is a number of 32 bits, and what is lent is bytes
pub data InUse : List ℕ → Type 0 where
  created : {xs ys : List ℕ} {mode base length : ℕ} → Created xs mode base length 0 ys → InUse ys
  loaded : {xs : List ℕ} {m : Machine} → AllBytes xs → load_of xs ≡ Ok m → InUse xs
  written : {xs ys : List ℕ} {offset v r : ℕ} → InUse xs → v < 2 ^ 32 → RegisterWritten xs offset v r ys → InUse ys
  ran : {x : RunLent} {y : RunLeft} → InUse x.image → AllBytes x.lent.window → AllBytes x.lent.beats → Promised x y → InUse y.image
  moved : (xs to : List ℕ) {ys : List ℕ} → AllBytes xs → length to ≡ 85 → ImageMoved xs to 0 ys → InUse ys

-- it is the image of a machine met in use, and loads back as it: so no call refuses it with 8
pub record LoadsBack (xs : List ℕ) : Type 0 where
  pub machine : Machine
  pub met : Met machine
  pub image : xs ≡ image_of machine
  pub loads : load_of xs ≡ Ok machine
  pub not_8 : (bad_image xs).applies ≡ false
