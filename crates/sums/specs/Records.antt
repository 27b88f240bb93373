-- Order 6: "Keep one record for each write-back". The theorem is `one-record-each`.
-- Assumes nothing.
use Rattle.std.specs.Prelude.{ℕ, suc, ◌+◌, ◌*◌, ◌≡◌, ◌≢◌, List, [], ◌∷◌, length}
use Rattle.words.specs.Slices.{put, put_at}
use Rattle.bus.specs.Window.{place_of}
use Rattle.descriptor.specs.Layout.{last_four}
use Rattle.ledger.specs.declared.Entry.{Entry}
use Rattle.ledger.specs.Records.{ledger_bytes}
use Rattle.machine.specs.declared.Machine.{Machine}
use Rattle.machine.specs.declared.Work.{Work}
use Rattle.machine.specs.declared.Ran.{Ran}
use Rattle.machine.specs.declared.Phase.TheVariants.{WriteBack}
use Rattle.machine.specs.State.{home}
use Rattle.machine.specs.Step.{World, taken, home_bytes, written_control, step}
use Rattle.machine.specs.Run.{run, Lent, Returned, world_of}

-- a WriteBack step from w to v, and its record
pub record Recorded (number : ℕ) (w v : World) (e : Entry) : Type 0 where
  -- the descriptor in hand
  pub work : Work
  pub phase : w.core.phase ≡ WriteBack work
  -- the run, and the descriptor's address
  pub run : e.run ≡ number
  pub at : e.at ≡ work.at
  -- count and errors are those that were written: memory differs in the last four bytes of the descriptor at that address, which are they
  -- and the control byte
  pub bytes : v.memory
      ≡ put_at (home_bytes w) (place_of (home w.core) e.at + 28) (last_four e.actual e.status (written_control w.core work))
  -- and EOP is what was seen
  pub eop : e.eop ≡ work.eop

-- n steps, each taken, lead from w to u; the WriteBack steps among them, and no others, make these records, in this order
pub data Records (number : ℕ) : ℕ → World → World → List Entry → Type 0 where
  none : {w : World} → Records number 0 w w []
  one : {n : ℕ} {w v u : World} {e : Entry} {es : List Entry} → step w ≡ taken v → Recorded number w v e → Records number n v u es
      → Records number (suc n) w u (e ∷ es)
  other : {n : ℕ} {w v u : World} {es : List Entry} → step w ≡ taken v → ((k : Work) → w.core.phase ≢ WriteBack k) → Records number n v u es
      → Records number (suc n) w u es

-- of a run
pub record OneEach (m : Machine) (l : Lent) (budget : ℕ) (r : Ran) (b : Returned) : Type 0 where
  pub made : List Entry
  pub records : Records m.run r.steps (world_of m l) (run budget (world_of m l)).world made
  -- they stand behind those used, and no other byte of the ledger differs; the number told counts them
  pub ledger : b.ledger ≡ put l.ledger (12 * l.used) (ledger_bytes made)
  pub used : r.used ≡ l.used + length made
