-- What the laws of a step and of a run speak of: what steps leave, the bytes that a step writes, and what a run tells. The theorems
-- are `step-passed` and `step-spares` of a step, `run-add` and `run-tells` of a run.
-- Assumes nothing.
use Rattle.std.specs.Prelude.{ℕ, suc, ◌+◌, ◌≤◌, ◌<◌, ◌≡◌, ◌≢◌, List, ◌++◌, length, drop}
use Rattle.bus.specs.Window.{place_of}
use Rattle.regs.specs.declared.Mode.{Mode}
use Rattle.regs.specs.declared.Mode.TheVariants.{MemoryToMemory, MemoryToStream, StreamToMemory}
use Rattle.ledger.specs.declared.Entry.{Entry}
use Rattle.machine.specs.declared.Work.{Work}
use Rattle.machine.specs.declared.Phase.{Phase}
use Rattle.machine.specs.declared.Phase.TheVariants.{Rest, Fetch, Move, WriteBack, Ended, Halted, Faulted}
use Rattle.machine.specs.declared.Reason.TheVariants.{Budget}
use Rattle.machine.specs.Step.{World, taken, stopped, destination_of, step}
use Rattle.machine.specs.Run.{Report}

-- ---- steps

-- what n steps from w to v leave of the machine and of what is lent
pub record Passed (n : ℕ) (w v : World) : Type 0 where
  pub mode : v.core.mode ≡ w.core.mode
  pub window : v.core.window ≡ w.core.window
  -- no step changes the run number
  pub run : v.run ≡ w.run
  -- the window's length never changes
  pub memory : length v.memory ≡ length w.memory
  -- beats are taken from the front
  pub took : ℕ
  pub there : took ≤ length w.input
  pub input : v.input ≡ drop took w.input
  -- beats are made at the end, into the room
  pub made : List ℕ
  pub output : v.output ≡ w.output ++ made
  pub room : v.room + length made ≡ w.room
  -- records are made at the end, into the ledger's room
  pub logged : List Entry
  pub records : v.records ≡ w.records ++ logged
  pub left : v.left + length logged ≡ w.left
  -- a step takes one or makes one or neither
  pub moved : took + length made ≤ n

-- the place q is none that a byte moved in this mode is written to: modes 0 and 2 write it "at destination + i, without i under the
-- matching FIXED bit", mode 1 not into memory
abbrev pub spares_move : Mode → World → Work → ℕ → Type 0
spares_move MemoryToMemory w k q = q ≢ place_of w.core.window (destination_of k)
spares_move MemoryToStream w k q = Unit {0}
spares_move StreamToMemory w k q = q ≢ place_of w.core.window (destination_of k)

-- the place q is none that a step in this phase writes: a Move its byte, a WriteBack "the last four descriptor bytes only"
abbrev pub spares_in : Phase → World → ℕ → Type 0
spares_in Rest w q = Unit {0}
spares_in Fetch w q = Unit {0}
spares_in (Move k) w q = spares_move w.core.mode w k q
spares_in (WriteBack k) w q = (j : ℕ) → j < 4 → q ≢ place_of w.core.window k.at + 28 + j
spares_in Ended w q = Unit {0}
spares_in Halted w q = Unit {0}
spares_in (Faulted f) w q = Unit {0}

-- ---- runs

-- n applications of the step rule, each taken, lead from w to u, and P holds of every world on the way
pub data Along (P : World → Type 0) : ℕ → World → World → Type 0 where
  here : {w : World} → P w → Along P 0 w w
  more : {n : ℕ} {w v u : World} → P w → step w ≡ taken v → Along P n v u → Along P (suc n) w u

-- n applications of the step rule, each taken, lead from w to u
abbrev pub Steps : ℕ → World → World → Type 0
Steps n w u = Along (λ (x : World). Unit {0}) n w u

-- "its answer is the reason found there": why no step can be taken, or, where the budget is spent, Budget, "only if another step
-- was possible"
pub data Found (budget : ℕ) (r : Report) : Type 0 where
  stops : step r.world ≡ stopped r.reason → Found budget r
  spent : (v : World) → step r.world ≡ taken v → r.reason ≡ Budget → r.steps ≡ budget → Found budget r

-- what a run from w tells
pub record Tells (budget : ℕ) (w : World) (r : Report) : Type 0 where
  -- "steps equal the applications of the step rule"
  pub steps : Steps r.steps w r.world
  -- and at most the budget
  pub within : r.steps ≤ budget
  pub found : Found budget r
  -- what is left of the machine and of what is lent: see `Passed`
  pub passed : Passed r.steps w r.world

-- the report r, with n steps taken before it
abbrev pub on_top : ℕ → Report → Report
on_top n r = record { reason = r.reason; steps = n + r.steps; world = r.world }
