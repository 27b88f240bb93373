-- Steps, a burst and the end of a run, with the lent streams as they stand before and after.
-- Assumes nothing.
use Rattle.std.specs.Prelude.{ℕ, ◌≡◌, Bool, List, length, Option}
use Rattle.bus.specs.declared.Window.{Window}
use Rattle.regs.specs.declared.Mode.{Mode}
use Rattle.machine.specs.declared.Core.{Core}
use Rattle.machine.specs.declared.Work.{Work}
use Rattle.machine.specs.declared.Reason.{Reason}
use Rattle.machine.specs.declared.streams.Streams.{Streams}
use Rattle.machine.specs.Step.{World, Answer}
use Rattle.machine.specs.Helpers.Worlds.{reached_as}
use Rattle.machine.specs.Helpers.Waiting.{Goes, Halts}
use Rattle.machine.specs.Helpers.Turns.{Went, Advances}
use Rattle.machine.specs.Helpers.AtOnce.{Bursts}

-- they are the same slices
pub record Kept (s s' : Streams) : Type 0 where
  pub beats : s'.beats.now ≡ s.beats.now
  pub out : s'.out.ghost_name ≡ s.out.ghost_name
  pub room : length s'.out.now ≡ length s.out.now

abbrev pub GoesOn : (World → Answer) → Core → (window : List ℕ) → Streams → Type 0
GoesOn rule m window s = Goes rule m window s.beats.now s.taken s.out.now s.made

abbrev pub HaltsOn : Core → Streams → (ledger : List ℕ) (used : ℕ) (spent : Bool) → Option Reason → Type 0
HaltsOn m s ledger used spent r = Halts m s.beats.now s.taken s.out.now s.made ledger used spent r

pub record Applies (rule : World → Answer) (m : Core) (window : List ℕ) (s : Streams) (m' : Core) (window' : List ℕ) (s' : Streams) : Type 0 where
  pub kept : Kept s s'
  pub went : Went rule m window s.beats.now s.taken s.out.now s.made (reached_as m' s'.taken s'.made) window' s'.out.now

pub record BurstsOn (mode : Mode) (place : Window) (k : Work) (most n errors : ℕ) (window : List ℕ) (s : Streams) (window' : List ℕ) (s' : Streams) : Type 0 where
  pub kept : Kept s s'
  pub bursts : Bursts mode place k most n errors window s.beats.now s.taken s.out.now s.made s'.taken s'.made window' s'.out.now

pub record AdvancesOn (m : Core) (window : List ℕ) (s : Streams) (n : ℕ) (m' : Core) (window' : List ℕ) (s' : Streams) : Type 0 where
  pub kept : Kept s s'
  pub advances : Advances m window s.beats.now s.taken s.out.now s.made n (reached_as m' s'.taken s'.made) window' s'.out.now
