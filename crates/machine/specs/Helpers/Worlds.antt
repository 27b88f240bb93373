-- A world in the middle of what is lent, the machine in a fault, and the phases that stand.
-- Assumes nothing.
use Rattle.std.specs.Prelude.{ℕ, ◌-◌, ◌/◌, ◌≤◌, Bool, true, false, List, length, drop, Result, Ok, Err}
use Rattle.flow.specs.Beats.{beats_in}
use Rattle.machine.specs.declared.Core.{Core}
use Rattle.machine.specs.declared.Phase.{Phase}
use Rattle.machine.specs.declared.Phase.TheVariants.{Rest, Fetch, Move, WriteBack, Ended, Halted, Faulted}
use Rattle.bus.specs.declared.Refusal.{Refusal}
use Rattle.machine.specs.State.{with_phase, with_busy}
use Rattle.machine.specs.Step.{World, laid}
use Rattle.machine.specs.Run.{Served, serves, refused}

-- ---- worlds

-- the world w in the middle of lent beats, of which so many are taken
abbrev pub world_at : World → Core → (window beats : List ℕ) (took : ℕ) (output : List ℕ) (room : ℕ) → World
world_at w m window beats took output room = laid w m window (drop took (beats_in beats)) output room

-- and of a lent output, in which so many are made: those made before are w's
abbrev pub midway : World → Core → (window beats : List ℕ) (took : ℕ) (out : List ℕ) (made : ℕ) → World
midway w m window beats took out made = world_at w m window beats took w.output (length out / 2 - made)

-- where steps led, with the beats taken and made then
pub record Reached : Type 0 where
  pub core : Core
  pub taken : ℕ
  pub made : ℕ

abbrev pub reached_as : Core → (took made : ℕ) → Reached
reached_as m took made = record { core = m; taken = took; made = made }

-- ---- what is lent

abbrev pub served_as : Result Unit Refusal → Served
served_as (Ok tt) = serves
served_as (Err why) = refused why

-- no more beats are taken than there are, or made than there is room for
pub record Within (beats out : List ℕ) (took made : ℕ) : Type 0 where
  pub taken_in : took ≤ length beats / 2
  pub made_in : made ≤ length out / 2

-- ---- the machine in a fault

abbrev pub in_fault : Core → (code address : ℕ) → Core
in_fault m code address = with_phase (Faulted (record { code = code; address = address })) (with_busy false m)

-- ---- the phases that stand until RUN is written 0

abbrev pub stands : Phase → Bool
stands Rest = false
stands Fetch = false
stands (Move k) = false
stands (WriteBack k) = false
stands Ended = true
stands Halted = true
stands (Faulted f) = false

-- ---- the phases that hold what was read ahead

abbrev pub reads_ahead : Phase → Bool
reads_ahead Rest = false
reads_ahead Fetch = true
reads_ahead (Move k) = true
reads_ahead (WriteBack k) = true
reads_ahead Ended = false
reads_ahead Halted = false
reads_ahead (Faulted f) = false
