-- Order 6 of the C calls: what sgdma_run leaves in the ledger, and its sum over calls. The theorems are `one-record-each-in-c` and
-- `session-adds-in-c`.
-- Assumes nothing.
use Rattle.std.specs.Prelude.{ℕ, ◌+◌, ◌*◌, ◌^◌, ◌<◌, ◌≡◌, List, [], ◌++◌, length, Ok}
use Rattle.words.specs.Slices.{put}
use Rattle.ledger.specs.declared.Entry.{Entry}
use Rattle.ledger.specs.Records.{ledger_bytes}
use Rattle.machine.specs.declared.Machine.{Machine}
use Rattle.machine.specs.Saved.{load_of}
use Rattle.machine.specs.Run.{run, world_of}
use Rattle.sums.specs.Records.{Records}
use Rattle.sums.specs.Sum.{abandoned, lost_in, Adds}
use Rattle.sgdma.specs.Calls.{Created, RegisterWritten}
use Rattle.chain_calls.specs.InC.{RunLent, RunLeft, Promised}
use Rattle.chain_calls.specs.Told.{steps_told, taken_told, used_told}
use Rattle.chain_calls.specs.Useless.{InBytes}

-- ---- one call of sgdma_run

-- of a call that is not refused, over an image that loads as m: see `OneEach`
pub record OneEachInC (m : Machine) (x : RunLent) (y : RunLeft) : Type 0 where
  pub made : List Entry
  pub records : Records m.run (steps_told y.report) (world_of m x.lent) (run x.budget (world_of m x.lent)).world made
  pub ledger : y.back.ledger ≡ put x.lent.ledger (12 * x.lent.used) (ledger_bytes made)
  pub used : used_told y.report ≡ x.lent.used + length made

-- ---- calls one after the other

-- sgdma_create in mode 2, then sgdma_write_register and sgdma_run in any order, each over the image that the one before it left: that image;
-- the ledger's bytes before and now, and the number of records used that the last report told; the records made, the beats taken by
-- the reports, and those abandoned. See `Session`: what else a run is lent is the caller's choice, and a call that is refused is left out
pub data SessionInC : (image before ledger : List ℕ) (used : ℕ) → List Entry → (taken lost : ℕ) → Type 0 where
  begins : {xs ys : List ℕ} {base length : ℕ} (ledger : List ℕ) → Created xs 2 base length 0 ys → SessionInC ys ledger ledger 0 [] 0 0
  written : {xs ys before ledger : List ℕ} {rs : List Entry} {used t l offset v : ℕ} {m : Machine} → SessionInC xs before ledger used rs t l
      → load_of xs ≡ Ok m → v < 2 ^ 32 → RegisterWritten xs offset v 0 ys → SessionInC ys before ledger used rs t (l + abandoned m offset v)
  ran : {x : RunLent} {y : RunLeft} {before : List ℕ} {rs : List Entry} {t l : ℕ} {m : Machine}
      → SessionInC x.image before x.lent.ledger x.lent.used rs t l → load_of x.image ≡ Ok m → InBytes x → Promised x y
      → y.number ≡ 0
      → SessionInC y.image before y.back.ledger (used_told y.report) (rs ++ (run x.budget (world_of m x.lent)).world.records)
      (t + taken_told y.report) (l + lost_in x.budget (world_of m x.lent))

-- what is said of it: the image loads, and it adds up with the machine that it loads as
pub record AddsInC (image before ledger : List ℕ) (used : ℕ) (rs : List Entry) (taken lost : ℕ) : Type 0 where
  pub machine : Machine
  pub loads : load_of image ≡ Ok machine
  pub adds : Adds machine before ledger used rs taken lost
