-- Beats and records made before do not show in a run, and it leaves them: what it makes stands behind them.
-- Assumes nothing.
use Rattle.machine.specs.State.{Slot}
use Rattle.std.specs.Prelude.{Ok, Err, Some, None}
use Prim.Native.Nat.{ℕ, zero, suc}
use mathlib.Core.Path.{◌≡◌, refl, ap, ◌∙◌}
use mathlib.Core.Bool.{Bool, true, false, not, cond, ◌&&◌}
use mathlib.Core.List.{List, [], ◌∷◌, ◌++◌, append_assoc}
use lib.Dec.{eqb}
use Rattle.bus.specs.Window.{in_window}
use Rattle.descriptor.specs.declared.Miss.TheVariants as miss
use Rattle.descriptor.specs.Layout.{owned}
use Rattle.descriptor.specs.Looking.{named_in, Look}
use Rattle.regs.specs.declared.Mode.{Mode}
use Rattle.regs.specs.declared.Mode.TheVariants.{MemoryToMemory, MemoryToStream, StreamToMemory}
use Rattle.regs.specs.Control as register
use Rattle.ledger.specs.declared.Entry.{Entry}
use Rattle.machine.specs.declared.Work.{Work}
use Rattle.machine.specs.declared.Phase.{Phase}
use Rattle.machine.specs.declared.Phase.TheVariants.{Rest, Fetch, Move, WriteBack, Ended, Halted, Faulted}
use Rattle.machine.specs.Step.{World, Answer, taken, stopped, sent, noted, settle, seen_in, seen, rest_step, wants_length, fetched, meets, fetch_step, source_of, destination_of}
use Rattle.machine.specs.Step.{copy_step, send_to, send_step, receive_from, move_step, written_back, back_to, write_back_step, step_in, step}
use Rattle.machine.specs.Run.{Report, one_more_of, run_on, run}

module _ (beats : List ℕ) (records : List Entry) where
  -- the world, with these made before
  abbrev pub behind : World → World
  behind w = noted (sent w w.core (beats ++ w.output) w.room) (records ++ w.records) w.left

  abbrev answer_behind : Answer → Answer
  answer_behind (taken w) = taken (behind w)
  answer_behind (stopped r) = stopped r

  abbrev pub report_behind : Report → Report
  report_behind r = record { reason = r.reason; steps = r.steps; world = behind r.world }

  -- ---- a step

  choice : (b : Bool) {x y : Answer} (u v : Answer) → x ≡ answer_behind u → y ≡ answer_behind v → cond b x y ≡ answer_behind (cond b u v)
  choice true u v p q = p
  choice false u v p q = q

  settle-behind : (a : Answer) → settle (answer_behind a) ≡ answer_behind (settle a)
  settle-behind (taken v) = refl
  settle-behind (stopped r) = refl

  module _ (w : World) where
    rest-behind : rest_step (behind w) ≡ answer_behind (rest_step w)
    unfolding rest_step
    rest-behind = choice (register.run w.core.control) _ _ refl refl

    met-behind : (l : Look) → meets (behind w) l ≡ answer_behind (meets w l)
    unfolding fetched
    met-behind (Err miss.Misaligned) = refl
    met-behind (Err miss.Outside) = refl
    met-behind (Ok r) =
        let d = named_in r in
        choice (not (owned d.control.0)) _ _ refl (choice (wants_length w.core.mode && eqb d.length 0) _ _ refl refl)

    seen-behind : (s : Slot) → seen_in (behind w) s ≡ seen_in w s
    seen-behind None = refl
    seen-behind (Some look) = refl

    fetch-behind : fetch_step (behind w) ≡ answer_behind (fetch_step w)
    unfolding fetch_step seen
    fetch-behind =
        let m = w.core in
        choice (not (register.run m.control)) _ _ refl (ap (meets (behind w)) (seen-behind w.slot) ∙ met-behind (seen w))

    module _ (k : Work) where
      copy-behind : copy_step (behind w) k ≡ answer_behind (copy_step w k)
      unfolding copy_step
      copy-behind =
          choice (in_window w.core.window (source_of k) 1) _ _
          (choice (in_window w.core.window (destination_of k) 1) _ _ refl refl)
          refl

      send-to-behind : (room : ℕ) → send_to (behind w) k room ≡ answer_behind (send_to w k room)
      send-to-behind zero = refl
      send-to-behind (suc room) = rw append_assoc

      send-behind : send_step (behind w) k ≡ answer_behind (send_step w k)
      unfolding send_step
      send-behind = choice (in_window w.core.window (source_of k) 1) _ _ (send-to-behind w.room) refl

      receive-behind : (input : List ℕ) → receive_from (behind w) k input ≡ answer_behind (receive_from w k input)
      receive-behind [] = refl
      receive-behind (b ∷ bs) = choice (in_window w.core.window (destination_of k) 1) _ _ refl refl

      move-behind : (mode : Mode) → move_step mode (behind w) k ≡ answer_behind (move_step mode w k)
      move-behind MemoryToMemory = copy-behind
      move-behind MemoryToStream = send-behind
      move-behind StreamToMemory = receive-behind w.input

      back-behind : (left : ℕ) → back_to (behind w) k left ≡ answer_behind (back_to w k left)
      unfolding written_back
      back-behind zero = refl
      back-behind (suc left) = rw append_assoc

    in-phase : (p : Phase) → step_in p (behind w) ≡ answer_behind (step_in p w)
    unfolding write_back_step
    in-phase Rest = rest-behind
    in-phase Fetch = fetch-behind
    in-phase (Move k) = move-behind k w.core.mode
    in-phase (WriteBack k) = back-behind k w.left
    in-phase Ended = refl
    in-phase Halted = refl
    in-phase (Faulted f) = refl

    step-behind : step (behind w) ≡ answer_behind (step w)
    unfolding step
    step-behind = ap settle (in-phase w.core.phase) ∙ settle-behind (step_in w.core.phase w)

  -- ---- a run

  on-behind : (n : ℕ) (w : World) (a : Answer) → run_on n (behind w) (answer_behind a) ≡ report_behind (run_on n w a)
  on-behind zero w (taken v) = refl
  on-behind zero w (stopped r) = refl
  on-behind (suc n) w (taken v) = ap one_more_of (ap (run_on n (behind v)) (step-behind v) ∙ on-behind n v (step v))
  on-behind (suc n) w (stopped r) = refl

  pub run-behind : (n : ℕ) (w : World) → run n (behind w) ≡ report_behind (run n w)
  unfolding run
  run-behind n w = ap (run_on n (behind w)) (step-behind w) ∙ on-behind n w (step w)
