-- A scene: a core with what it is lent, what is done with it, and what is found at the end. A row of a table is one scene.
-- Assumes nothing.
use Rattle.std.specs.Prelude.{ℕ, suc, ◌+◌, ◌/◌, ◌%◌, Bool, true, false, cond, ◌&&◌, List, [], ◌∷◌, ◌++◌, eqb, length, replicate, Result, Ok, Err, Some, None}
use Rattle.words.specs.Slices.{part, put}
use Rattle.regs.specs.Status.{status_number}
use Rattle.regs.specs.Control.{ie_global}
use Rattle.regs.specs.Modes.{mode_of}
use Rattle.bus.specs.declared.Refusal.{Refusal}
use Rattle.descriptor.specs.declared.Miss.TheVariants as miss
use Rattle.ledger.specs.Records.{ledger_bytes}
use Rattle.machine.specs.declared.Machine.{Machine}
use Rattle.machine.specs.declared.Fault.{Fault}
use Rattle.machine.specs.declared.Reason.TheVariants.{Rest}
use Rattle.machine.specs.State.{fresh, phase_number, machine_with, Slot}
use Rattle.machine.specs.Saved.{fault_in, keeps}
use Rattle.machine.specs.Registers.{write_of}
use Rattle.machine.specs.Step.{World, stored, noted, opened, machine_in}
use Rattle.machine.specs.Run.{Report, run, reason_number}

-- what is done: a register is written, a run is made with a budget, the ledger gets room for so many records more, the host writes bytes
-- into the window at a place, or the run number is one that an image tells
pub data Act : Type 0 where
  write : (offset value : ℕ) → Act
  go : (budget : ℕ) → Act
  lend : (records : ℕ) → Act
  poke : (place : ℕ) → List ℕ → Act
  numbered : (run : ℕ) → Act

-- what is found at the end; steps and reason are those of the last run, taken, out and the ledger's bytes of all. The slot is told by its
-- kind: 0 empty, 1 a descriptor, 2 fault 10, 3 fault 11
pub data Fact : Type 0 where
  reason : ℕ → Fact
  steps : ℕ → Fact
  taken : ℕ → Fact
  out : List ℕ → Fact
  status : ℕ → Fact
  control : ℕ → Fact
  pointer : ℕ → Fact
  phase : ℕ → Fact
  pending : Bool → Fact
  line : Bool → Fact
  count : ℕ → Fact
  fault : (code address : ℕ) → Fact
  bytes : (place : ℕ) → List ℕ → Fact
  ledger : List ℕ → Fact
  slot : (kind : ℕ) → Fact
  run_number : ℕ → Fact

pub record Scene : Type 0 where
  pub mode : ℕ
  pub base : ℕ
  pub window : List ℕ
  pub beats : List ℕ
  pub room : ℕ
  pub acts : List Act
  pub facts : List Fact

-- ---- memory by hand, least significant byte first

abbrev pub word : ℕ → List ℕ
word n = n % 256 ∷ n / 256 % 256 ∷ n / 65536 % 256 ∷ n / 16777216 ∷ []

-- a descriptor's 32 bytes
abbrev pub desc : (source destination next size dcontrol : ℕ) → List ℕ
desc source destination next size dcontrol =
    word source ++ word 0 ++ word destination ++ word 0 ++ word next ++ word 0 ++ word size ++ 0 ∷ 0 ∷ 0 ∷ dcontrol ∷ []

abbrev pub zeros : List ℕ
zeros = replicate 256 0

-- a window of 256 bytes with a descriptor at its start and bytes from 128 on
abbrev pub window : List ℕ → List ℕ → List ℕ
window first held = put (put zeros 0 first) 128 held

-- ---- playing a scene

abbrev pub written : Machine → Result Machine Refusal → Machine
written m (Ok n) = n
written m (Err why) = m

-- the machine alone changes, all of it
abbrev pub with_machine : World → Machine → World
with_machine w m =
    record {
      core = m.core;
      slot = m.slot;
      run = m.run;
      memory = w.memory;
      input = w.input;
      output = w.output;
      room = w.room;
      records = w.records;
      left = w.left;
    }

-- between runs the world changes, and what the last run told stays
abbrev pub meanwhile : Report → World → Report
meanwhile r w = record { reason = r.reason; steps = r.steps; world = w }

abbrev pub done : Report → Act → Report
done r (write offset value) =
    let m = machine_in r.world in
    meanwhile r (with_machine r.world (written m (write_of m offset value)))
done r (go budget) = run budget r.world
done r (lend n) = meanwhile r (noted r.world r.world.records n)
done r (poke place xs) = meanwhile r (stored r.world r.world.core (put r.world.memory place xs))
done r (numbered n) = meanwhile r (with_machine r.world (machine_with r.world.core r.world.slot n))

abbrev pub played : Report → List Act → Report
played r [] = r
played r (a ∷ rest) = played (done r a) rest

-- "the known runs are made with room for theirs": no scene writes back more often
abbrev pub enough : ℕ
enough = 16

abbrev pub opening : Scene → Report
opening s =
    record {
      reason = Rest;
      steps = 0;
      world = opened (fresh (mode_of s.mode) (record { base = s.base; length = length s.window })) s.window s.beats s.room enough;
    }

-- ---- looking at the end

abbrev pub same : List ℕ → List ℕ → Bool
same [] [] = true
same [] (y ∷ ys) = false
same (x ∷ xs) [] = false
same (x ∷ xs) (y ∷ ys) = eqb x y && same xs ys

abbrev pub alike : Bool → Bool → Bool
alike true b = b
alike false true = false
alike false false = true

abbrev pub fault_is : Fault → (code address : ℕ) → Bool
fault_is f code address = eqb f.code code && eqb f.address address

abbrev pub kind_of : Slot → ℕ
kind_of None = 0
kind_of (Some (Ok r)) = 1
kind_of (Some (Err miss.Misaligned)) = 2
kind_of (Some (Err miss.Outside)) = 3

abbrev pub holds : Scene → Report → Fact → Bool
holds s r (reason n) = eqb (reason_number r.reason) n
holds s r (steps n) = eqb r.steps n
holds s r (taken n) = eqb (length r.world.input + n) (length s.beats)
holds s r (out bs) = same r.world.output bs
holds s r (status n) = eqb (status_number r.world.core.status) n
holds s r (control n) = eqb r.world.core.control.0 n
holds s r (pointer n) = eqb r.world.core.pointer.0 n
holds s r (phase n) = eqb (phase_number r.world.core.phase) n
holds s r (pending b) = alike r.world.core.pending b
holds s r (line b) = alike (r.world.core.pending && ie_global r.world.core.control) b
holds s r (count n) = eqb r.world.core.count n
holds s r (fault code address) = fault_is (fault_in r.world.core.phase) code address
holds s r (bytes place xs) = same (part r.world.memory place (length xs)) xs
holds s r (ledger bs) = same (ledger_bytes r.world.records) bs
holds s r (slot kind) = eqb (kind_of r.world.slot) kind
holds s r (run_number n) = eqb r.world.run n

abbrev pub all_hold : Scene → Report → List Fact → Bool
all_hold s r [] = true
all_hold s r (f ∷ fs) = holds s r f && all_hold s r fs

-- every fact holds, and the machine keeps the image rules
abbrev pub right : Scene → Bool
right s = let r = played (opening s) s.acts in keeps (machine_in r.world) && all_hold s r s.facts

-- the numbers, from k on, of the scenes that are not right
abbrev pub wrong : ℕ → List Scene → List ℕ
wrong k [] = []
wrong k (s ∷ ss) = cond (right s) (wrong (suc k) ss) (k ∷ wrong (suc k) ss)
