-- Memory is read as a descriptor only in a Fetch: what it goes by, where nothing was read ahead, and the next one; and what was read ahead
-- is what the next Fetch goes by.
-- Assumes nothing.
use Rattle.std.specs.Prelude.{Ok, Err, Some}
use Prim.Native.Nat.{ℕ, zero, suc}
use mathlib.Core.Path.{◌≡◌, refl, sym, ap, subst, ◌∙◌}
use mathlib.Core.Bool.{Bool, true, false, not, cond, ◌&&◌}
use mathlib.Core.List.{List, [], ◌∷◌}
use native.Mathlib.Omega.{arith}
use lib.Dec.{eqb}
use Rattle.bus.specs.Window.{in_window}
use Rattle.descriptor.specs.declared.Descriptor.{Descriptor}
use Rattle.descriptor.specs.declared.Miss.TheVariants as miss
use Rattle.descriptor.specs.Layout.{owned}
use Rattle.descriptor.specs.Looking.{named_in, look_at, Look}
use Rattle.regs.specs.declared.Mode.{Mode}
use Rattle.regs.specs.declared.Mode.TheVariants.{MemoryToMemory, MemoryToStream, StreamToMemory}
use Rattle.regs.specs.Control.{run}
use Rattle.machine.specs.declared.Work.{Work}
use Rattle.machine.specs.declared.Phase.{Phase}
use Rattle.machine.specs.declared.Phase.TheVariants.{Rest, Fetch, Move, WriteBack, Ended, Halted, Faulted}
use Rattle.machine.specs.declared.Reason.{Reason}
use Rattle.machine.specs.State.{phase_number, home, settled, Slot}
use Rattle.machine.specs.Step.{World, Answer, home_bytes, taken, stopped, wants_length, rest_step, fetched, seen_in, seen, meets, fetch_step, source_of, destination_of, onward, copy_step, send_to, send_step, receive_from, move_step, completed, back_to, write_back_step, settle, step_in, step}
use Rattle.met.specs.Reading.{over, ReadsSame, Alike, both, neither, ToFetch, there, moves, marks}
use Rattle.met.specs.Theorems.{ReadInFetchAlone, UsedAsRead}
use Rattle.met.proofs.Fetches.{rests_at, ends_at, empty_at, begins_at}

choice : (b : Bool) {x y u v : Answer} → Alike x u → Alike y v → Alike (cond b x y) (cond b u v)
choice true p q = p
choice false p q = q

settles : {x y : Answer} → Alike x y → Alike (settle x) (settle y)
settles (both a b c d e) = both a (λ i. settled (a i).phase (b i)) c d e
settles neither = neither

module _ (w : World) (memory : List ℕ) where
  rest-alike : Alike (rest_step w) (rest_step (over memory w))
  unfolding rest_step
  rest-alike = choice (run w.core.control) (both refl refl refl refl refl) neither

  fetched-alike : (d : Descriptor) → look_at (home w.core) (home_bytes w) d.next ≡ look_at (home w.core) memory d.next
      → Alike (fetched w d) (fetched (over memory w) d)
  unfolding fetched
  fetched-alike d e =
      choice (not (owned d.control.0)) (both refl refl refl refl refl)
      (choice (wants_length w.core.mode && eqb d.length 0) (both refl refl refl refl refl) (both refl (ap Some e) refl refl refl))

  met-alike : ReadsSame w memory → (l : Look) → seen w ≡ l → Alike (meets w l) (meets (over memory w) l)
  met-alike h (Err miss.Misaligned) e = both refl refl refl refl refl
  met-alike h (Err miss.Outside) e = both refl refl refl refl refl
  met-alike h (Ok r) e = fetched-alike (named_in r) (h.ahead r e)

  fetch-alike : ReadsSame w memory → Alike (fetch_step w) (fetch_step (over memory w))
  unfolding fetch_step
  fetch-alike h =
      choice (not (run w.core.control)) (both refl refl refl refl refl)
      (subst (λ (l : Look). Alike (meets w (seen w)) (meets (over memory w) l)) h.used (met-alike h (seen w) refl))

  module _ (k : Work) where
    copy-alike : Alike (copy_step w k) (copy_step (over memory w) k)
    unfolding copy_step
    copy-alike =
        choice (in_window w.core.window (source_of k) 1)
        (choice (in_window w.core.window (destination_of k) 1) (both refl refl refl refl refl) (both refl refl refl refl refl))
        (both refl refl refl refl refl)

    sent-alike : (room : ℕ) → Alike (send_to w k room) (send_to (over memory w) k room)
    sent-alike zero = neither
    sent-alike (suc left) = both refl refl refl refl refl

    send-alike : Alike (send_step w k) (send_step (over memory w) k)
    unfolding send_step
    send-alike = choice (in_window w.core.window (source_of k) 1) (sent-alike w.room) (both refl refl refl refl refl)

    receive-alike : (input : List ℕ) → Alike (receive_from w k input) (receive_from (over memory w) k input)
    receive-alike [] = neither
    receive-alike (b ∷ bs) =
        choice (in_window w.core.window (destination_of k) 1) (both refl refl refl refl refl) (both refl refl refl refl refl)

    move-alike : (mode : Mode) → Alike (move_step mode w k) (move_step mode (over memory w) k)
    move-alike MemoryToMemory = copy-alike
    move-alike MemoryToStream = send-alike
    move-alike StreamToMemory = receive-alike w.input

    back-alike : (left : ℕ) → Alike (back_to w k left) (back_to (over memory w) k left)
    back-alike zero = neither
    back-alike (suc left) = both refl refl refl refl refl

  step-alike : (p : Phase) → (p ≡ Fetch → ReadsSame w memory) → Alike (step_in p w) (step_in p (over memory w))
  unfolding write_back_step
  step-alike Rest h = rest-alike
  step-alike Fetch h = fetch-alike (h refl)
  step-alike (Move k) h = move-alike k w.core.mode
  step-alike (WriteBack k) h = back-alike k w.left
  step-alike Ended h = neither
  step-alike Halted h = neither
  step-alike (Faulted f) h = neither

pub read-in-fetch-alone : ReadInFetchAlone
unfolding step
read-in-fetch-alone w memory h = settles (step-alike w memory w.core.phase h)

-- ---- what was read ahead is used

same-world : (w v : World) → taken w ≡ taken v → w ≡ v
same-world w v e = cc

-- a Fetch that goes to Move has read the next one ahead
data Began (w : World) : Answer → Type 0 where
  reads : {v : World} → (phase_number v.core.phase ≡ 2 → v.slot ≡ Some (look_at (home w.core) (home_bytes w) v.core.pointer.0))
      → v.core.window ≡ w.core.window → Began w (taken v)

module _ (w : World) where
  pick : (b : Bool) (x y : Answer) → Began w (settle x) → Began w (settle y) → Began w (settle (cond b x y))
  pick true x y p q = p
  pick false x y p q = q

  other : {v : World} (n : ℕ) → phase_number v.core.phase ≡ n → (n ≡ 2 → ⊥) → v.core.window ≡ w.core.window → Began w (taken v)
  other n e h f = reads (λ z. absurd (h (sym e ∙ z))) f

  fetched-began : (d : Descriptor) → Began w (settle (fetched w d))
  unfolding fetched
  fetched-began d =
      pick (not (owned d.control.0)) (ends_at w) (cond (wants_length w.core.mode && eqb d.length 0) (empty_at w) (begins_at w d)) (other 4 refl (λ z. absurd (omega arith)) refl)
      (pick (wants_length w.core.mode && eqb d.length 0) (empty_at w) (begins_at w d) (other 6 refl (λ z. absurd (omega arith)) refl) (reads (λ z. refl) refl))

  met-began : (l : Look) → Began w (settle (meets w l))
  met-began (Err miss.Misaligned) = other 6 refl (λ z. absurd (omega arith)) refl
  met-began (Err miss.Outside) = other 6 refl (λ z. absurd (omega arith)) refl
  met-began (Ok r) = fetched-began (named_in r)

  fetch-began : Began w (settle (fetch_step w))
  unfolding fetch_step
  fetch-began = pick (not (run w.core.control)) (rests_at w) (meets w (seen w)) (other 0 refl (λ z. absurd (omega arith)) refl) (met-began (seen w))

  began-ahead : {a : Answer} {v : World} (k : Work) → Began w a → a ≡ taken v → v.core.phase ≡ Move k
      → (v.slot ≡ Some (look_at (home w.core) (home_bytes w) v.core.pointer.0)) × (v.core.window ≡ w.core.window)
  began-ahead {v = v} k (reads {v = u} f g) e p =
      let same = same-world u v e in (
        subst (λ (x : World). phase_number x.core.phase ≡ 2 → x.slot ≡ Some (look_at (home w.core) (home_bytes w) x.core.pointer.0)) same f
            (ap phase_number p),
        subst (λ (x : World). x.core.window ≡ w.core.window) same g,
      )

-- a step of Move or WriteBack leaves the pointer, and the slot as the phase leaves it
data Carries (w : World) : Answer → Type 0 where
  carries : {v : World} → v.slot ≡ w.slot → v.core.pointer.0 ≡ w.core.pointer.0 → Carries w (taken v)
  halts : {r : Reason} → Carries w (stopped r)

module _ (w : World) where
  way : (b : Bool) {x y : Answer} → Carries w x → Carries w y → Carries w (cond b x y)
  way true p q = p
  way false p q = q

  copy-carries : (k : Work) → Carries w (copy_step w k)
  unfolding copy_step onward
  copy-carries k =
      way (in_window w.core.window (source_of k) 1) (way (in_window w.core.window (destination_of k) 1) (carries refl refl) (carries refl refl))
      (carries refl refl)

  send-to-carries : (k : Work) (room : ℕ) → Carries w (send_to w k room)
  unfolding onward
  send-to-carries k zero = halts
  send-to-carries k (suc left) = carries refl refl

  receive-carries : (k : Work) (input : List ℕ) → Carries w (receive_from w k input)
  unfolding onward
  receive-carries k [] = halts
  receive-carries k (b ∷ bs) = way (in_window w.core.window (destination_of k) 1) (carries refl refl) (carries refl refl)

  move-carries : (k : Work) (mode : Mode) → Carries w (move_step mode w k)
  unfolding send_step
  move-carries k MemoryToMemory = copy-carries k
  move-carries k MemoryToStream = way (in_window w.core.window (source_of k) 1) (send-to-carries k w.room) (carries refl refl)
  move-carries k StreamToMemory = receive-carries k w.input

  back-carries : (k : Work) (left : ℕ) → Carries w (back_to w k left)
  unfolding completed
  back-carries k zero = halts
  back-carries k (suc left) = carries refl refl

  -- where it goes on to a Fetch, the phase keeps the slot
  carried : {a : Answer} {v : World} → Carries w a → settle a ≡ taken v → ((s : Slot) → settled v.core.phase s ≡ s)
      → (v.slot ≡ w.slot) × (v.core.pointer.0 ≡ w.core.pointer.0)
  carried {v = v} (carries {v = u} s p) e keeps =
      let same = same-world _ v e in
      let phase : u.core.phase ≡ v.core.phase = ap (λ (x : World). x.core.phase) same in (
        sym (ap (λ (x : World). x.slot) same) ∙ ap (λ (q : Phase). settled q u.slot) phase ∙ keeps u.slot ∙ s,
        sym (ap (λ (x : World). x.core.pointer.0) same) ∙ p,
      )
  carried halts e keeps = absurd (let z : ◌≡◌ {A = ℕ} 0 1 = cc in omega arith)

to-keeps : {w u : World} → ToFetch w u → (s : Slot) → settled w.core.phase s ≡ s
to-keeps (there e) s = ap (λ (p : Phase). settled p s) e
to-keeps (moves k e f t) s = ap (λ (p : Phase). settled p s) e
to-keeps (marks k e f t) s = ap (λ (p : Phase). settled p s) e

to-carried : {w u : World} → ToFetch w u → (u.slot ≡ w.slot) × (u.core.pointer.0 ≡ w.core.pointer.0)
unfolding step write_back_step
to-carried (there e) = (refl, refl)
to-carried {w} (moves k e f t) =
    let c = carried w (move-carries w k w.core.mode) (sym (ap (λ (p : Phase). settle (step_in p w)) e) ∙ f) (to-keeps t) in
    let r = to-carried t in
    (r.0 ∙ c.0, r.1 ∙ c.1)
to-carried {w} (marks k e f t) =
    let c = carried w (back-carries w k w.left) (sym (ap (λ (p : Phase). settle (step_in p w)) e) ∙ f) (to-keeps t) in
    let r = to-carried t in
    (r.0 ∙ c.0, r.1 ∙ c.1)

pub used-as-read : UsedAsRead
unfolding step seen
used-as-read w v u k p e q t =
    let a = began-ahead w k (fetch-began w) (sym (ap (λ (x : Phase). settle (step_in x w)) p) ∙ e) q in
    let c = to-carried t in
    ap (seen_in u) (c.0 ∙ a.0) ∙ ap (look_at (home w.core) (home_bytes w)) (sym c.1)
