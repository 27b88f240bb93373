-- Descriptor control: "Bits 3..6 have no effect and are kept as given."
-- Assumes nothing.
use Rattle.std.specs.Prelude.{Ok}
use Prim.Native.Nat.{ℕ, zero, suc, ◌/◌, ◌%◌}
use mathlib.Core.Path.{◌≡◌, refl, sym, ap, subst, subst⁻¹, ◌∙◌}
use mathlib.Core.Bool.{Bool, true, false, not, cond, ◌&&◌, ◌||◌}
use mathlib.Core.List.{List, [], ◌∷◌}
use native.Mathlib.Omega.{arith}
use lib.Dec.{eqb}
use Rattle.words.specs.Bits.{bit}
use Rattle.bus.specs.Window.{in_window}
use Rattle.descriptor.specs.declared.Descriptor.{Descriptor}
use Rattle.descriptor.specs.declared.Raw.{Raw}
use Rattle.descriptor.specs.Looking.{named_in, Look}
use Rattle.descriptor.specs.Layout.{owned}
use Rattle.regs.specs.declared.Mode.{Mode}
use Rattle.regs.specs.declared.Mode.TheVariants.{MemoryToMemory, MemoryToStream, StreamToMemory}
use Rattle.regs.specs.Control.{run, park}
use Rattle.flow.specs.Beats.{beat_error, beat_eop}
use Rattle.machine.specs.declared.Core.{Core}
use Rattle.machine.specs.declared.Work.{Work}
use Rattle.machine.specs.declared.Phase.{Phase}
use Rattle.machine.specs.declared.Phase.TheVariants.{Rest, Fetch, Move, WriteBack, Ended, Halted, Faulted}
use Rattle.machine.specs.State.{with_phase, settled, Slot}
use Rattle.machine.specs.Step.{World, Answer, taken, stopped, holding, settle, wants_length, fetched, seen, meets, fetch_step, source_of, destination_of, whole, with_byte, onward, copy_step, beat_for, send_to, send_step, receive_from, move_step, written_control, written_back, completed, back_to, write_back_step, step_in, step}
use Rattle.met.specs.Reading.{over}
use Rattle.met.specs.Unused.{SameUse, descriptor_under, work_under, phase_under, world_under, answer_under, answer_over, answer_holding, slot_after}
use Rattle.met.specs.Theorems.{NoEffectInFetch, NoEffectInMove, NoEffectInWriteBack, KeptAsGiven}
use Rattle.met.proofs.Fetches.{rests_at, ends_at, empty_at, begins_at}

-- ---- they have no effect

module _ (c : ℕ) where
  choice : (b : Bool) {x y : Answer} (u v : Answer) → x ≡ answer_under c u → y ≡ answer_under c v → cond b x y ≡ answer_under c (cond b u v)
  choice true u v p q = p
  choice false u v p q = q

  moved_on : (m : Core) (p : Phase) (k : Work)
      → onward (with_phase p m) (work_under c k) ≡ with_phase (phase_under c (onward m k).phase) (onward m k)
  unfolding onward
  moved_on m p k = ap (λ (q : Phase). with_phase q m) (in-phase (k.eop || eqb k.moved (whole m k)))
    where
      in-phase : (b : Bool) → cond b (WriteBack (work_under c k)) (Move (work_under c k)) ≡ phase_under c (cond b (WriteBack k) (Move k))
      in-phase true = refl
      in-phase false = refl

  module _ (k : Work) (same : SameUse c k.control.0) where
    same_source : source_of (work_under c k) ≡ source_of k
    unfolding source_of
    same_source = rw same.read

    same-destination : destination_of (work_under c k) ≡ destination_of k
    unfolding destination_of
    same-destination = rw same.write

    same-beat : (byte : ℕ) → beat_for (work_under c k) byte ≡ beat_for k byte
    unfolding beat_for
    same-beat byte = rw (same.write, same.eop)

    module _ (w : World) where
      copied : copy_step (world_under c w) (work_under c k) ≡ answer_under c (copy_step w k)
      unfolding copy_step
      copied =
          let m = w.core in
          rw (same_source, same-destination)
          (choice (in_window m.window (source_of k) 1) _ _
          (choice (in_window m.window (destination_of k) 1) _ _ (rw (moved_on m (phase_under c m.phase) (with_byte 0 false k))) refl)
          refl)

      sent-to : (room : ℕ) → send_to (world_under c w) (work_under c k) room ≡ answer_under c (send_to w k room)
      sent-to zero = refl
      sent-to (suc left) =
          let m = w.core in
          rw (same_source, same-beat, moved_on m (phase_under c m.phase) (with_byte 0 false k))

      sent : send_step (world_under c w) (work_under c k) ≡ answer_under c (send_step w k)
      unfolding send_step
      sent = rw (same_source) (choice (in_window w.core.window (source_of k) 1) _ _ (sent-to w.room) refl)

      received : (input : List ℕ) → receive_from (world_under c w) (work_under c k) input ≡ answer_under c (receive_from w k input)
      received [] = refl
      received (b ∷ bs) =
          let m = w.core in
          rw (same-destination)
          (choice (in_window m.window (destination_of k) 1) _ _
          (rw (moved_on m (phase_under c m.phase) (with_byte (beat_error b) (beat_eop b) k)))
          refl)

      moved : (mode : Mode) → move_step mode (world_under c w) (work_under c k) ≡ answer_under c (move_step mode w k)
      moved MemoryToMemory = copied
      moved MemoryToStream = sent
      moved StreamToMemory = received w.input

-- In Fetch the descriptor is kept, or not, as under the other control.
module _ (c : ℕ) (memory : List ℕ) (slot : Slot) (w : World) where
  abbrev beside : World
  beside = over memory (holding w slot)

  -- the answer x beside the answer a: but for that control, the bytes and what is read ahead
  abbrev Under : Answer → Answer → Type 0
  Under x a = x ≡ answer_holding (slot_after x) (answer_over memory (answer_under c a))

  either : (b : Bool) (x y u v : Answer) → Under (settle x) (settle u) → Under (settle y) (settle v) → Under (settle (cond b x y)) (settle (cond b u v))
  either true x y u v p q = p
  either false x y u v p q = q

  kept : (d : Descriptor) → SameUse c d.control.0 → Under (settle (fetched beside (descriptor_under c d))) (settle (fetched w d))
  unfolding fetched
  kept d same =
      let empty = wants_length w.core.mode && eqb d.length 0 in
      let under = begins_at beside (descriptor_under c d) in
      rw same.own
      (either (not (owned d.control.0)) (ends_at beside) (cond empty (empty_at beside) under) (ends_at w) (cond empty (empty_at w) (begins_at w d)) refl
      (either empty (empty_at beside) under (empty_at w) (begins_at w d) refl refl))

  in-fetch : (r s : Raw) → seen w ≡ Ok r → seen beside ≡ Ok s → named_in s ≡ descriptor_under c (named_in r) → SameUse c (named_in r).control.0
      → Under (settle (fetch_step beside)) (settle (fetch_step w))
  unfolding fetch_step
  in-fetch r s e f g same =
      either (not (run w.core.control)) (rests_at beside) (meets beside (seen beside)) (rests_at w) (meets w (seen w)) refl
      (subst⁻¹ (λ (l : Look). Under (settle (meets beside l)) (settle (meets w (seen w)))) f
      (subst⁻¹ (λ (l : Look). Under (settle (fetched beside (named_in s))) (settle (meets w l))) e
      (subst⁻¹ (λ (d : Descriptor). Under (settle (fetched beside d)) (settle (fetched w (named_in r)))) g (kept (named_in r) same))))

pub no-effect-in-fetch : NoEffectInFetch
unfolding step
no-effect-in-fetch c memory slot w r s p e f g same =
    subst⁻¹ (λ (q : Phase). Under c memory slot w (settle (step_in q (beside c memory slot w))) (settle (step_in q w))) p (in-fetch c memory slot w r s e f g same)

-- what a phase leaves of the slot is the same under another control
same-slot : (c : ℕ) (p : Phase) (s : Slot) → settled (phase_under c p) s ≡ settled p s
same-slot c Rest s = refl
same-slot c Fetch s = refl
same-slot c (Move k) s = refl
same-slot c (WriteBack k) s = refl
same-slot c Ended s = refl
same-slot c Halted s = refl
same-slot c (Faulted f) s = refl

settle-under : (c : ℕ) (a : Answer) → settle (answer_under c a) ≡ answer_under c (settle a)
settle-under c (taken v) = ap (λ (s : Slot). taken (holding (world_under c v) s)) (same-slot c v.core.phase v.slot)
settle-under c (stopped r) = refl

settle-over : (memory : List ℕ) (a : Answer) → settle (answer_over memory a) ≡ answer_over memory (settle a)
settle-over memory (taken v) = refl
settle-over memory (stopped r) = refl

-- In Move the step is the same, but for the control that is kept.
pub no-effect-in-move : NoEffectInMove
unfolding step
no-effect-in-move c k same w e =
    subst (λ (p : Phase). settle (step_in (phase_under c p) (world_under c w)) ≡ answer_under c (settle (step_in p w))) (sym e)
    (ap settle (moved c k same w w.core.mode) ∙ settle-under c (move_step w.core.mode w k))

-- In WriteBack it is the same, but for the control that is written.
pub no-effect-in-write-back : NoEffectInWriteBack
unfolding step write_back_step completed written_back written_control
no-effect-in-write-back c k w e =
    subst (λ (p : Phase). settle (step_in (phase_under c p) (world_under c w)) ≡ answer_over (written_back w (work_under c k)) (settle (step_in p w))) (sym e)
    (ap settle back ∙ settle-over (written_back w (work_under c k)) (write_back_step w k))
  where
    back_to_lem : (left : ℕ) → back_to (world_under c w) (work_under c k) left ≡ answer_over (written_back w (work_under c k)) (back_to w k left)
    back_to_lem zero = refl
    back_to_lem (suc left) = refl

    back : write_back_step (world_under c w) (work_under c k) ≡ answer_over (written_back w (work_under c k)) (write_back_step w k)
    back = back_to_lem w.left

-- ---- they are kept as given

module _ (n : ℕ) where
  third : n % 128 / 8 % 2 ≡ n / 8 % 2
  third = omega arith

  fourth : n % 128 / 16 % 2 ≡ n / 16 % 2
  fourth = omega arith

  fifth : n % 128 / 32 % 2 ≡ n / 32 % 2
  fifth = omega arith

  sixth : n % 128 / 64 % 2 ≡ n / 64 % 2
  sixth = omega arith

pub kept-as-given : KeptAsGiven
unfolding written_control
kept-as-given m k = under (park m.control)
  where
    under : (parks : Bool) → let n = cond parks k.control.0 (k.control.0 % 128) in
        (bit 3 n ≡ bit 3 k.control.0) × (bit 4 n ≡ bit 4 k.control.0) × (bit 5 n ≡ bit 5 k.control.0) × (bit 6 n ≡ bit 6 k.control.0)
    under true = (refl, refl, refl, refl)
    under false =
        let set : ℕ → Bool = λ d. eqb d 1 in
        let n = k.control.0 in
        (ap set (third n), ap set (fourth n), ap set (fifth n), ap set (sixth n))
