-- WriteBack: a step that makes one record, and where the code puts it.
-- Assumes nothing.
use Rattle.std.specs.Prelude.{None}
use Prim.Native.Nat.{ℕ, zero, suc, ◌+◌, ◌-◌, ◌*◌, ◌/◌, ◌≤◌, ◌<◌}
use mathlib.Core.Path.{◌≡◌, sym, ap, ◌∙◌}
use mathlib.Core.Bool.{Bool, true, cond}
use mathlib.Core.List.{List, [], ◌∷◌, ◌++◌}
use native.Mathlib.Omega.{arith}
use lib.ListN.{length}
use borrow.Author.Tests.{lt-ltb}
use Rattle.words.specs.Slices.{put}
use Rattle.ledger.specs.declared.Entry.{Entry}
use Rattle.ledger.specs.Records.{entry_bytes, ledger_bytes, capacity, has_room, Appended}
use Rattle.ledger.proofs.Rows.{capacity-le}
use Rattle.machine.specs.declared.Core.{Core}
use Rattle.machine.specs.declared.Work.{Work}
use Rattle.machine.specs.declared.Phase.TheVariants.{WriteBack}
use Rattle.machine.specs.Step.{World, taken, stored, noted, holding, entry_for, back_to, write_back_step, settle, step}
use Rattle.machine.specs.State.{settled}
use Rattle.machine.specs.Helpers.Waiting.{wait_of}
use Rattle.machine.specs.Helpers.Turns.{Backs}
use Rattle.machine.proofs.Waiting.{at-phase, settle-waits, never-goes}

is-back : (w : World) (k : Work) → w.core.phase ≡ WriteBack k → step w ≡ settle (back_to w k w.left)
unfolding write_back_step
is-back w k e = at-phase w e

module _ (w : World) (k : Work) {m' : Core} {window' : List ℕ} (b : Backs w.core k w.memory m' window') where
  back_by : (left : ℕ) → wait_of (back_to w k left) ≡ None
      → (0 < left) × (back_to w k left ≡ taken (noted (stored w m' window') (w.records ++ entry_for w.run k ∷ []) (left - 1)))
  back_by zero can = absurd (never-goes can)
  back_by (suc n) can =
      let one : n ≡ suc n - 1 = omega arith in
      (omega arith, b w n ∙ ap (λ (i : ℕ). taken (noted (stored w m' window') (w.records ++ entry_for w.run k ∷ []) i)) one)

  -- where it can be taken there is room for its record
  pub back-goes : w.core.phase ≡ WriteBack k → wait_of (step w) ≡ None
      → (0 < w.left)
      × (step w ≡ taken (holding (noted (stored w m' window') (w.records ++ entry_for w.run k ∷ []) (w.left - 1)) (settled m'.phase w.slot)))
  back-goes e can =
      let by = back_by w.left (sym (ap wait_of (is-back w k e) ∙ settle-waits (back_to w k w.left)) ∙ can) in
      (by.0, is-back w k e ∙ ap settle by.1)

-- there it is put behind those used
pub appended_one : (ledger : List ℕ) (used : ℕ) {used' : ℕ} (e : Entry) {ledger' : List ℕ} → 0 < capacity (length ledger) - used
    → Appended ledger used e used' ledger'
    → (used' ≡ used + 1) × (ledger' ≡ put ledger (12 * used) (ledger_bytes (e ∷ []))) × (used' ≤ length ledger / 12)
appended_one ledger used {used'} e h a =
    let some : used < capacity (length ledger) = omega arith in
    let room : has_room (length ledger) used ≡ true = lt-ltb used (capacity (length ledger)) some in
    let more : used' ≡ used + 1 = a.used_after ∙ ap (λ (b : Bool). cond b (used + 1) used) room in (
      more,
      a.lent ∙ ap (λ (b : Bool). cond b (put ledger (12 * used) (entry_bytes e)) ledger) room,
      omega (arith, more, some, (capacity-le (length ledger)).0),
    )
