-- Order 6: what becomes of the beats that are taken in mode 2. Over runs from a fresh machine, the ledger empty at first and each
-- number handed on, its bytes sum to the beats taken less those of descriptors not written back. The theorem is `session-adds`.
-- Assumes nothing.
use Rattle.std.specs.Prelude.{ℕ, zero, suc, ◌+◌, ◌≡◌, cond, ◌&&◌, List, [], ◌∷◌, ◌++◌, eqb, length, Ok}
use Rattle.words.specs.Slices.{put}
use Rattle.bus.specs.declared.Window.{Window}
use Rattle.regs.specs.declared.Mode.TheVariants.{StreamToMemory}
use Rattle.regs.specs.Control.{reset_by}
use Rattle.ledger.specs.declared.Entry.{Entry}
use Rattle.ledger.specs.Records.{ledger_bytes}
use Rattle.machine.specs.declared.Machine.{Machine}
use Rattle.machine.specs.declared.Ran.{Ran}
use Rattle.machine.specs.declared.Phase.{Phase}
use Rattle.machine.specs.declared.Phase.TheVariants.{Rest, Fetch, Move, WriteBack, Ended, Halted, Faulted}
use Rattle.machine.specs.Saved.{in_hand}
use Rattle.machine.specs.State as state
use Rattle.machine.specs.Registers.{WasWritten}
use Rattle.machine.specs.Step.{World, Answer, taken, stopped, step}
use Rattle.machine.specs.Run.{run, Lent, Returned, world_of, HasRun}

-- the beats of the descriptor in hand
abbrev pub held : Machine → ℕ
held m = (in_hand m.core.phase).moved

-- the bytes that records tell, summed
abbrev pub sum_of : List Entry → ℕ
sum_of [] = 0
sum_of (e ∷ es) = e.actual + sum_of es

-- "abandoned by a reset": what a register write abandons. Any other write leaves what is in hand
abbrev pub abandoned : Machine → (offset v : ℕ) → ℕ
abandoned m offset v = cond (eqb offset 4 && reset_by v m.core.control) (held m) 0

-- "or fault": what a step abandons. In Move fault 14 drops the descriptor in hand
abbrev pub lost_by : Phase → Phase → ℕ
lost_by (Move k) (Faulted f) = cond (eqb f.code 14) k.moved 0
lost_by (Move k) Rest = 0
lost_by (Move k) Fetch = 0
lost_by (Move k) (Move j) = 0
lost_by (Move k) (WriteBack j) = 0
lost_by (Move k) Ended = 0
lost_by (Move k) Halted = 0
lost_by Rest q = 0
lost_by Fetch q = 0
lost_by (WriteBack k) q = 0
lost_by Ended q = 0
lost_by Halted q = 0
lost_by (Faulted f) q = 0

-- over a run
abbrev pub lost_on : ℕ → World → Answer → ℕ
lost_on zero w a = 0
lost_on (suc n) w (stopped r) = 0
lost_on (suc n) w (taken v) = lost_by w.core.phase v.core.phase + lost_on n v (step v)

abbrev pub lost_in : ℕ → World → ℕ
lost_in n w = lost_on n w (step w)

-- calls from a fresh machine in mode 2 on: the machine now; the ledger's bytes before and now, and how many of its records are used; the
-- records made, the beats taken and those abandoned. A run is lent the ledger and the number that the last one left, and any window,
-- beats and room: "the window rewritten by the host as it likes". A call that is refused changes nothing and is left out
pub data Session : Machine → (before ledger : List ℕ) (used : ℕ) → List Entry → (taken lost : ℕ) → Type 0 where
  begins : (window : Window) (ledger : List ℕ) → Session (state.fresh StreamToMemory window) ledger ledger 0 [] 0 0
  written : {m n : Machine} {before ledger : List ℕ} {rs : List Entry} {used t l offset v : ℕ} → Session m before ledger used rs t l
      → WasWritten m offset v (Ok n) → Session n before ledger used rs t (l + abandoned m offset v)
  ran : {m : Machine} {before : List ℕ} {rs : List Entry} {t l budget : ℕ} {given : Lent} {r : Ran} {b : Returned}
      → Session m before given.ledger given.used rs t l → HasRun m given budget (Ok r) b
      → Session r.machine before b.ledger r.used (rs ++ (run budget (world_of m given)).world.records) (t + r.taken)
      (l + lost_in budget (world_of m given))

-- what is said of it
pub record Adds (m : Machine) (before ledger : List ℕ) (used : ℕ) (rs : List Entry) (taken lost : ℕ) : Type 0 where
  -- the records' bytes, those in hand and those abandoned are the beats taken
  pub sum : sum_of rs + held m + lost ≡ taken
  -- the ledger holds those records from its start on, and past them what it held before
  pub holds : ledger ≡ put before 0 (ledger_bytes rs)
  -- and the number handed on is how many they are
  pub number : used ≡ length rs
