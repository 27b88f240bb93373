-- One step or several at once, in the middle of what is lent.
-- Assumes nothing.
use Rattle.std.specs.Prelude.{ℕ, zero, suc, ◌+◌, ◌-◌, ◌*◌, ◌/◌, ◌≡◌, List, [], ◌∷◌, ◌++◌, length}
use Rattle.words.specs.Slices.{put}
use Rattle.flow.specs.Beats.{beat_bytes}
use Rattle.machine.specs.declared.Core.{Core}
use Rattle.machine.specs.declared.fetch.Fetched.{Fetched}
use Rattle.machine.specs.declared.Work.{Work}
use Rattle.machine.specs.Step.{World, Answer, taken, stopped, stored, noted, holding, entry_for, back_to, settle, step}
use Rattle.machine.specs.State.{settled, Slot}
use Rattle.machine.specs.Helpers.Worlds.{Reached, world_at, midway, Within}

-- n steps after an answer; no step after one that could not be taken
abbrev pub steps_on : ℕ → Answer → Answer
steps_on zero a = a
steps_on (suc n) (stopped r) = stopped r
steps_on (suc n) (taken w) = steps_on n (step w)

-- n applications of the step rule
unfoldable pub steps : ℕ → World → Answer
steps n w = steps_on n (taken w)

-- a rule that can be applied, and touches neither beats nor output
abbrev pub Still : (World → Answer) → Core → (window : List ℕ) → Core → (window' : List ℕ) → Type 0
Still rule m window m' window' =
    (w : World) → rule (stored w m window) ≡ taken (stored w m' window')

-- a rule that can be applied, in the middle of lent slices: `new` are the beats that it made
pub record Went (rule : World → Answer) (m : Core) (window beats : List ℕ) (took : ℕ) (out : List ℕ) (made : ℕ) (r : Reached)
    (window' out' : List ℕ) : Type 0 where
  pub new : List ℕ
  pub counted : r.made ≡ made + length new
  pub wrote : out' ≡ put out (2 * made) (beat_bytes new)
  pub goes : (w : World)
      → rule (midway w m window beats took out made)
      ≡ taken (world_at w r.core window' beats r.taken (w.output ++ new) (length out / 2 - r.made))

-- several steps at once, so many: where they led; the slot is as the last of them leaves it
pub record Advances (m : Core) (window beats : List ℕ) (took : ℕ) (out : List ℕ) (made n : ℕ) (r : Reached) (window' out' : List ℕ) : Type 0 where
  pub within : Within beats out r.taken r.made
  pub new : List ℕ
  pub counted : r.made ≡ made + length new
  pub wrote : out' ≡ put out (2 * made) (beat_bytes new)
  pub goes : (w : World)
      → steps n (midway w m window beats took out made)
      ≡ taken (world_at (holding w (settled r.core.phase w.slot)) r.core window' beats r.taken (w.output ++ new) (length out / 2 - r.made))

-- a rule of Fetch, applied and settled: the core and the slot change
abbrev pub Looks : (World → Answer) → Core → Slot → (window : List ℕ) → Fetched → Type 0
Looks rule c slot window r =
    (w : World)
    → settle (rule (holding (stored w c window) slot)) ≡ taken (holding (stored w r.core window) (settled r.core.phase r.slot))

-- a step out of Rest or Fetch
abbrev pub Begun : Core → Slot → (window : List ℕ) → Fetched → Type 0
Begun c slot window r =
    (w : World)
    → step (holding (stored w c window) (settled c.phase slot))
    ≡ taken (holding (stored w r.core window) (settled r.core.phase r.slot))

-- a write-back, and the record that it makes
abbrev pub Backs : Core → Work → (window : List ℕ) → Core → (window' : List ℕ) → Type 0
Backs m k window m' window' =
    (w : World) (left : ℕ)
    → back_to (stored w m window) k (suc left) ≡ taken (noted (stored w m' window') (w.records ++ entry_for w.run k ∷ []) left)
