-- Order 4: memory is read as a descriptor only in the Fetch that uses it, or in the Fetch of an owned one just before it; and what a
-- Fetch uses is what memory held at that earlier step, unless the slot was emptied in between. Two worlds that differ in the window's
-- bytes alone. That their steps are alike, but for what a Fetch reads, is `read-in-fetch-alone`; that what was read ahead is used is
-- `used-as-read`.
-- Assumes nothing.
use Rattle.std.specs.Prelude.{ℕ, ◌≡◌, List, Ok}
use Rattle.descriptor.specs.declared.Raw.{Raw}
use Rattle.descriptor.specs.Looking.{named_in, look_at}
use Rattle.machine.specs.declared.Work.{Work}
use Rattle.machine.specs.declared.Phase.TheVariants.{Fetch, Move, WriteBack}
use Rattle.machine.specs.declared.Reason.{Reason}
use Rattle.machine.specs.State.{home}
use Rattle.machine.specs.Step.{World, Answer, home_bytes, taken, stopped, stored, seen, step}

-- the same world over other bytes
abbrev pub over : List ℕ → World → World
over memory w = stored w w.core memory

-- a Fetch reads the same over both: what it goes by, and, behind a descriptor, the next one
pub record ReadsSame (w : World) (memory : List ℕ) : Type 0 where
  pub used : seen w ≡ seen (over memory w)
  pub ahead : (r : Raw) → seen w ≡ Ok r
      → look_at (home w.core) (home_bytes w) (named_in r).next ≡ look_at (home w.core) memory (named_in r).next

-- both steps are taken, to the same machine, and leave the same beats and the same room; or both cannot be, for the same reason
pub data Alike : Answer → Answer → Type 0 where
  both : {v u : World} → v.core ≡ u.core → v.slot ≡ u.slot → v.run ≡ u.run → v.input ≡ u.input → v.room ≡ u.room
      → Alike (taken v) (taken u)
  neither : {r : Reason} → Alike (stopped r) (stopped r)

-- steps of Move and WriteBack, and then a Fetch
pub data ToFetch : World → World → Type 0 where
  there : {u : World} → u.core.phase ≡ Fetch → ToFetch u u
  moves : {w v u : World} (k : Work) → w.core.phase ≡ Move k → step w ≡ taken v → ToFetch v u → ToFetch w u
  marks : {w v u : World} (k : Work) → w.core.phase ≡ WriteBack k → step w ≡ taken v → ToFetch v u → ToFetch w u
