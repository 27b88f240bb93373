-- The chain theorem of the calls that a user makes: a fresh machine, two register writes, one run, by what they promise. The
-- theorems are `of-run-in-each-mode` and `of-run-in-each-mode-at-every-step`, and of demand 3 `chain-of-run` and
-- `chain-of-run-at-every-step`.
-- Assumes nothing.
use Rattle.std.specs.Prelude.{ℕ, ◌-◌, ◌*◌, ◌/◌, ◌≡◌, true, List, ◌++◌, length, drop, Result, Ok}
use Rattle.words.specs.Promise.{Gives}
use Rattle.words.specs.Slices.{put}
use Rattle.bus.specs.declared.Window.{Window}
use Rattle.regs.specs.declared.Mode.{Mode}
use Rattle.regs.specs.declared.Mode.TheVariants.{StreamToMemory}
use Rattle.ledger.specs.declared.Entry.{Entry}
use Rattle.ledger.specs.Records.{ledger_bytes, capacity, is_ledger}
use Rattle.flow.specs.Beats.{beats_in, beat_bytes}
use Rattle.machine.specs.declared.Machine.{Machine}
use Rattle.bus.specs.declared.Refusal.{Refusal}
use Rattle.machine.specs.declared.Ran.{Ran}
use Rattle.machine.specs.State.{fresh}
use Rattle.machine.specs.Registers.{WasWritten}
use Rattle.machine.specs.Run.{even, Lent, Returned, HasRun}
use Rattle.chain.specs.Chain.{Given, shares, records_of, Outcome}
use Rattle.chain.specs.Modes.{shares_in, made_by_all, OutcomeOf}

-- what is given, with beats and output lent as bytes
abbrev pub given_by : Window → (pointer control k : ℕ) → Lent → Given
given_by window pointer control k l =
    record {
      window = window;
      memory = l.window;
      pointer = pointer;
      control = control;
      beats = beats_in l.beats;
      room = length l.out / 2;
      used = l.used;
      left = capacity (length l.ledger) - l.used;
      k = k;
    }

-- beats in front of the lent output, and what stood past them
abbrev pub in_front : List ℕ → (out : List ℕ) → List ℕ
in_front beats out = beat_bytes beats ++ drop (2 * length beats) out

-- records behind those used
abbrev pub behind : List Entry → (ledger : List ℕ) (used : ℕ) → List ℕ
behind records ledger used = put ledger (12 * used) (ledger_bytes records)

-- the calls: next_descriptor_pointer is at 8, control at 4; neither write is refused
pub record CalledIn (mode : Mode) (window : Window) (pointer control : ℕ) (l : Lent) (budget : ℕ) (r : Result Ran Refusal) (b : Returned) : Type 0 where
  pub m0 : Machine
  pub m1 : Machine
  pub m2 : Machine
  pub made : Gives (fresh mode window) m0
  pub pointed : WasWritten m0 8 pointer (Ok m1)
  pub started : WasWritten m1 4 control (Ok m2)
  -- whole beats are lent
  pub even_beats : even l.beats ≡ true
  pub even_out : even l.out ≡ true
  -- and a ledger
  pub is_ledger : is_ledger (length l.ledger) l.used ≡ true
  pub ran : HasRun m2 l budget r b

abbrev pub Called : Window → (pointer control : ℕ) → Lent → (budget : ℕ) → Result Ran Refusal → Returned → Type 0
Called = CalledIn StreamToMemory

-- the run is done, with this outcome; the beats made stand in front of the lent output, and the rest of it is unchanged; the records of the
-- k stand behind those used, and no other byte of the ledger differs
pub record FinishedIn (mode : Mode) (g : Given) (l : Lent) (r : Result Ran Refusal) (b : Returned) : Type 0 where
  pub told : Ran
  pub answer : r ≡ Ok told
  pub outcome : OutcomeOf g (shares_in mode g) told b.window
  pub output : b.out ≡ in_front (made_by_all (shares_in mode g)) l.out
  pub ledger_after : b.ledger ≡ behind (records_of 1 (shares_in mode g)) l.ledger g.used

-- demand 3: the run is done, with this outcome; the lent output is unchanged; the records of the k stand behind those used, and no other byte of
-- the ledger differs
pub record Finished (g : Given) (l : Lent) (r : Result Ran Refusal) (b : Returned) : Type 0 where
  pub told : Ran
  pub answer : r ≡ Ok told
  pub outcome : Outcome g told b.window
  pub output : b.out ≡ l.out
  pub ledger_after : b.ledger ≡ behind (records_of 1 (shares g)) l.ledger g.used
