-- A machine that keeps the image rules is ready for a step, and a step leaves it ready for the next.
-- Assumes nothing.
use Rattle.std.specs.Prelude.{Result, Ok, Err, Some, None}
use Prim.Native.Nat.{ℕ, zero, suc, ◌%◌, ◌≤◌, ◌<◌}
use mathlib.Core.Path.{◌≡◌, refl, sym, ap, subst, subst⁻¹, ◌∙◌}
use mathlib.Core.Logic.{◌⊎◌, inl, inr}
use Rattle.machine.specs.declared.Fault.{Fault}
use mathlib.Core.Bool.{Bool, true, false, not, cond, ◌&&◌, ◌||◌}
use mathlib.Core.List.{List, [], ◌∷◌}
use native.Mathlib.Omega.{arith}
use lib.Dec.{eqb, ltb}
use borrow.Author.Tests.{eqb-true, eqb-false, ltb-true, lt-ltb, not-true}
use Rattle.bus.specs.declared.Window.{Window}
use Rattle.bus.specs.Window.{in_window}
use Rattle.descriptor.specs.declared.Miss.{Miss}
use Rattle.bus.specs.declared.Place.{Place}
use Rattle.descriptor.specs.declared.Miss.TheVariants as miss
use Rattle.descriptor.specs.Looking.{spot_of, stands, Look}
use Rattle.image.specs.Slot.{descriptor, kind_at}
use Rattle.image.specs.Slot.{kind_of as spot_kind}
use Rattle.image.proofs.Windows.{stands_by}
use Rattle.descriptor.specs.declared.Descriptor.{Descriptor}
use Rattle.descriptor.specs.Layout.{owned}
use Rattle.descriptor.proofs.Looks.{Looked, misaligned, outside, there, looked}
use Rattle.regs.specs.declared.Mode.{Mode}
use Rattle.regs.specs.declared.Mode.TheVariants.{MemoryToMemory, MemoryToStream, StreamToMemory}
use Rattle.regs.specs.Modes.{mode_number}
use Rattle.regs.specs.Control.{run, stop_dma_er}
use Rattle.image.specs.Rules.{asked, keeps_rules, lowest_broken}
use Rattle.image.specs.Rules as rules
use Rattle.image.specs.declared.Tail.{Tail}
use Rattle.image.proofs.Facts.{move-lt, move-eop, address-inside, held-kind}
use Rattle.image.proofs.Tests.{and_left, and_right, neither}
use Rattle.flow.specs.Beats.{beat_error, beat_eop}
use Rattle.machine.specs.declared.Core.{Core}
use Rattle.machine.specs.declared.Work.{Work}
use Rattle.machine.specs.declared.Phase.{Phase}
use Rattle.machine.specs.declared.Phase.TheVariants.{Rest, Fetch, Move, WriteBack, Ended, Halted, Faulted}
use Rattle.machine.specs.declared.Reason.{Reason}
use Rattle.machine.specs.declared.Machine.{Machine}
use Rattle.machine.specs.State.{phase_number, home, with_pointer, with_phase, with_busy, settled, Slot}
use Rattle.machine.specs.Saved.{in_hand, fields_of, tail_with, tail_of, keeps}
use Rattle.machine.specs.Step.{World, Answer, home_bytes, taken, stopped, laid, settle, step, step_in, rest_step, seen_in, seen, begun, meets, fetch_step, fetched, wants_length, move_step, copy_step, send_step, send_to, receive_from, back_to, write_back_step, completed, after_back, onward, with_byte, whole, source_of, destination_of}
use Rattle.machine.specs.Helpers.Turns.{steps_on, steps}
use Rattle.machine.specs.Helpers.Resume.{InMove, ready_in, core_ready, seated_in, ready_of, Left, Placed, SeatedAs, Seated, Ready}
use Rattle.machine.proofs.InRows.{kept-onward}

-- what a rule leads to is ready, with the slot as the phase leaves it
data Stays (n : ℕ) : Answer → Type 0 where
  goes : {v : World} → Ready v.core n → Seated v.core (settled v.core.phase v.slot) → Stays n (taken v)
  stops : {r : Reason} → Stays n (stopped r)

-- and so is what a step leads to
data Poised (n : ℕ) : Answer → Type 0 where
  on : {v : World} → Ready v.core n → Seated v.core v.slot → Poised n (taken v)
  off : {r : Reason} → Poised n (stopped r)

poise : (n : ℕ) {a : Answer} → Stays n a → Poised n (settle a)
poise n (goes r s) = on r s
poise n stops = off

either : (n : ℕ) (b : Bool) {x y : Answer} → (b ≡ true → Stays n x) → (b ≡ false → Stays n y) → Stays n (cond b x y)
either n true f g = f refl
either n false f g = g refl

-- ---- Fetch

some-length : (b : Bool) (n : ℕ) → eqb n 0 ≡ b → 0 < cond b 65535 n
some-length true n e = omega arith
some-length false n e = let h : (n ≡ 0 → ⊥) = eqb-false n 0 e in omega arith

begins : (o : Mode) (n : ℕ) → (wants_length o && eqb n 0) ≡ false → 0 < asked (mode_number o) n
begins MemoryToMemory n e = let h : (n ≡ 0 → ⊥) = eqb-false n 0 e in omega arith
begins MemoryToStream n e = let h : (n ≡ 0 → ⊥) = eqb-false n 0 e in omega arith
begins StreamToMemory n e = some-length (eqb n 0) n refl

-- a look finds a descriptor only in the window
look-seats : (m : Core) (memory : List ℕ) {a : ℕ} {l : Look} → Looked (home m) memory a l → a ≡ m.pointer.0 → SeatedAs m l
look-seats m memory (misaligned e) f = tt
look-seats m memory (outside e h) f = tt
look-seats m memory (there e h) f = subst (λ (x : ℕ). in_window (home m) x 32 ≡ true) f h

module _ (n : ℕ) (w : World) (s : w.core.window.length ≡ n) (t : Seated w.core w.slot) where
  fetched-stays : (d : Descriptor) → in_window w.core.window w.core.pointer.0 32 ≡ true → Stays n (fetched w d)
  unfolding fetched
  fetched-stays d h =
      either n (not (owned d.control.0))
      (λ e. goes (record { size = s; left = tt; placed = tt }) tt)
      (λ e.
      either n (wants_length w.core.mode && eqb d.length 0)
      (λ f. goes (record { size = s; left = tt; placed = tt }) tt)
      (λ f. goes (record { size = s; left = (begins w.core.mode d.length f, refl); placed = h })
      (look-seats (with_phase (Move (begun w.core.pointer.0 d)) (with_pointer d.next w.core)) (home_bytes w) (looked (home w.core) (home_bytes w) d.next) refl)))

  met-stays : (l : Look) → SeatedAs w.core l → Stays n (meets w l)
  met-stays (Err miss.Misaligned) p = goes (record { size = s; left = tt; placed = tt }) tt
  met-stays (Err miss.Outside) p = goes (record { size = s; left = tt; placed = tt }) tt
  met-stays (Ok r) p = fetched-stays _ p

  seen-seats : (slot : Slot) → Seated w.core slot → SeatedAs w.core (seen_in w slot)
  seen-seats None p = look-seats w.core (home_bytes w) (looked (home w.core) (home_bytes w) w.core.pointer.0) refl
  seen-seats (Some look) p = p

  fetch-stays : Stays n (fetch_step w)
  unfolding fetch_step seen
  fetch-stays =
      either n (not (run w.core.control))
      (λ e. goes (record { size = s; left = tt; placed = tt }) tt)
      (λ e. met-stays (seen w) (seen-seats w.slot t))

-- ---- Move

module _ (n : ℕ) (m : Core) (k : Work) (s : m.window.length ≡ n) (p : in_window m.window k.at 32 ≡ true) where
  onward-by : (b : Bool) → (k.eop || eqb k.moved (whole m k)) ≡ b → k.moved ≤ whole m k → Ready (with_phase (cond b (WriteBack k) (Move k)) m) n
  onward-by true e l = record { size = s; left = tt; placed = p }
  onward-by false e l =
      let not_done = neither k.eop _ e in
      let other : (k.moved ≡ whole m k → ⊥) = eqb-false _ _ not_done.1 in
      record { size = s; left = (omega arith, not_done.0); placed = p }

  onward-ready : k.moved ≤ whole m k → Ready (onward m k) n
  unfolding onward
  onward-ready l = onward-by _ refl l

-- on in Move or WriteBack, what was read ahead stays where it is
onward-seated : (m : Core) (k : Work) (slot : Slot) → Seated m slot → Seated (onward m k) (settled (onward m k).phase slot)
unfolding onward
onward-seated m k slot h = subst⁻¹ (λ (x : Slot). Seated (onward m k) x) (kept-onward m k slot) (same slot h)
  where
    same : (slot : Slot) → Seated m slot → Seated (onward m k) slot
    same None h = tt
    same (Some look) h = looks look h
      where
        looks : (look : Look) → SeatedAs m look → SeatedAs (onward m k) look
        looks (Err miss.Misaligned) h = tt
        looks (Err miss.Outside) h = tt
        looks (Ok r) h = h

module _ (n : ℕ) (w : World) (k : Work) (s : w.core.window.length ≡ n) (l : k.moved < whole w.core k)
    (p : in_window w.core.window k.at 32 ≡ true) (t : Seated w.core w.slot) where
  byte-stays : (errors : ℕ) (eop : Bool) (memory input output : List ℕ) (room : ℕ)
      → Stays n (taken (laid w (onward w.core (with_byte errors eop k)) memory input output room))
  byte-stays errors eop memory input output room =
      goes (onward-ready n w.core (with_byte errors eop k) s p (omega arith)) (onward-seated w.core (with_byte errors eop k) w.slot t)

  copy-stays : Stays n (copy_step w k)
  unfolding copy_step
  copy-stays =
      either n (in_window w.core.window (source_of k) 1)
      (λ e. either n (in_window w.core.window (destination_of k) 1) (λ f. byte-stays 0 false _ _ _ _) (λ f. goes (record { size = s; left = tt; placed = tt }) tt))
      (λ e. goes (record { size = s; left = tt; placed = tt }) tt)

  send-to-stays : (room : ℕ) → Stays n (send_to w k room)
  send-to-stays zero = stops
  send-to-stays (suc room) = byte-stays 0 false _ _ _ _

  send-stays : Stays n (send_step w k)
  unfolding send_step
  send-stays = either n (in_window w.core.window (source_of k) 1) (λ e. send-to-stays w.room) (λ e. goes (record { size = s; left = tt; placed = tt }) tt)

  receive-stays : (input : List ℕ) → Stays n (receive_from w k input)
  receive-stays [] = stops
  receive-stays (b ∷ bs) =
      either n (in_window w.core.window (destination_of k) 1) (λ e. byte-stays (beat_error b) (beat_eop b) _ _ _ _)
      (λ e. goes (record { size = s; left = tt; placed = tt }) tt)

  move-stays : (o : Mode) → Stays n (move_step o w k)
  move-stays MemoryToMemory = copy-stays
  move-stays MemoryToStream = send-stays
  move-stays StreamToMemory = receive-stays w.input

whole_by : (b : Bool) (n : ℕ) → n ≤ 65535 → cond b 65535 n ≤ 65535
whole_by true n h = omega arith
whole_by false n h = h

-- one byte more can be counted
pub left_lt : (m : Core) (k : Work) → k.length ≤ 65535 → k.moved < whole m k → k.moved < 65535
left_lt m k h l = omega (arith, whole_by (eqb (mode_number m.mode) 2 && eqb k.length 0) k.length h)

pub one-more : {m : Core} {k : Work} {lent : ℕ} → k.length ≤ 65535 → InMove m k lent → k.moved < 65535
one-more {m} {k} h p = left_lt m k h p.left.0

-- what is ready in Move
pub in-move : {m : Core} {k : Work} {lent : ℕ} → Ready m lent → m.phase ≡ Move k → InMove m k lent
in-move {m} r e = record { size = r.size; phase = e; left = subst (λ (p : Phase). Left m p) e r.left }

-- ---- the others

after-left : (m : Core) (runs halts : Bool) → Left m (after_back runs halts)
after-left m true true = tt
after-left m true false = tt
after-left m false halts = tt

after-placed : (m : Core) (runs halts : Bool) → Placed m (after_back runs halts)
after-placed m true true = tt
after-placed m true false = tt
after-placed m false halts = tt

completed-ready : (n : ℕ) (m : Core) (k : Work) → m.window.length ≡ n → Ready (completed m k) n
unfolding completed
completed-ready n m k s =
    let halts : Bool = not (eqb k.errors 0) && stop_dma_er m.control in
    record { size = s; left = after-left (completed m k) (run m.control) halts; placed = after-placed (completed m k) (run m.control) halts }

after-seated : (m : Core) (runs halts : Bool) (slot : Slot) → Seated m slot → Seated m (settled (after_back runs halts) slot)
after-seated m true true slot h = tt
after-seated m true false slot h = h
after-seated m false halts slot h = tt

completed-seated : (m : Core) (k : Work) (slot : Slot) → Seated m slot → Seated (completed m k) (settled (completed m k).phase slot)
unfolding completed
completed-seated m k slot h =
    same (settled (after_back (run m.control) (not (eqb k.errors 0) && stop_dma_er m.control)) slot)
    (after-seated m (run m.control) (not (eqb k.errors 0) && stop_dma_er m.control) slot h)
  where
    same : (slot : Slot) → Seated m slot → Seated (completed m k) slot
    same None h = tt
    same (Some (Err miss.Misaligned)) h = tt
    same (Some (Err miss.Outside)) h = tt
    same (Some (Ok r)) h = h

back-stays : (n : ℕ) (w : World) (k : Work) → w.core.window.length ≡ n → Seated w.core w.slot → (left : ℕ) → Stays n (back_to w k left)
back-stays n w k s t zero = stops
back-stays n w k s t (suc left) = goes (completed-ready n w.core k s) (completed-seated w.core k w.slot t)

phase-stays : (n : ℕ) (phase : Phase) (w : World) → w.core.window.length ≡ n → Left w.core phase → Placed w.core phase
    → Seated w.core w.slot → Stays n (step_in phase w)
unfolding rest_step write_back_step
phase-stays n Rest w s l p t = either n (run w.core.control) (λ e. goes (record { size = s; left = tt; placed = tt }) (started w.slot t)) (λ e. stops)
  where
    started : (slot : Slot) → Seated w.core slot → Seated (with_phase Fetch (with_busy true w.core)) slot
    started None h = tt
    started (Some (Err miss.Misaligned)) h = tt
    started (Some (Err miss.Outside)) h = tt
    started (Some (Ok r)) h = h
phase-stays n Fetch w s l p t = fetch-stays n w s t
phase-stays n (Move k) w s l p t = move-stays n w k s l.0 p t w.core.mode
phase-stays n (WriteBack k) w s l p t = back-stays n w k s t w.left
phase-stays n Ended w s l p t = stops
phase-stays n Halted w s l p t = stops
phase-stays n (Faulted f) w s l p t = stops

step-poised : (n : ℕ) (w : World) → Ready w.core n → Seated w.core w.slot → Poised n (step w)
unfolding step
step-poised n w r t = poise n (phase-stays n w.core.phase w r.size r.left r.placed t)

steps-poised : (n count : ℕ) (a : Answer) → Poised n a → Poised n (steps_on count a)
steps-poised n zero a h = h
steps-poised n (suc count) (stopped r) h = off
steps-poised n (suc count) (taken w) (on h t) = steps-poised n count (step w) (step-poised n w h t)

taken-poised : (n : ℕ) (v : World) → Poised n (taken v) → Ready v.core n × Seated v.core v.slot
taken-poised n v (on h t) = (h, t)

-- steps leave it ready
pub steps-ready : (n count : ℕ) (w v : World) → steps count w ≡ taken v → Ready w.core n → Seated w.core w.slot
    → Ready v.core n × Seated v.core v.slot
unfolding steps
steps-ready n count w v e h t = taken-poised n v (subst (λ (a : Answer). Poised n a) e (steps-poised n count (taken w) (on h t)))

-- ---- the image rules

abbrev in_hand_number : Phase → Bool
in_hand_number p = rules.working (phase_number p)

module _ (m : Core) (t : Tail) (e : lowest_broken (fields_of m) t ≡ 0) where
  left_by : (p : Phase) → m.phase ≡ p → Left m p
  left_by Rest q = tt
  left_by Fetch q = tt
  left_by (Move k) q = (
    subst (λ (p : Phase). (in_hand p).moved < asked (mode_number m.mode) (in_hand p).length) q (move-lt (fields_of m) t e (ap phase_number q)),
    subst (λ (p : Phase). (in_hand p).eop ≡ false) q (move-eop (fields_of m) t e (ap phase_number q)),
  )
  left_by (WriteBack k) q = tt
  left_by Ended q = tt
  left_by Halted q = tt
  left_by (Faulted f) q = tt

  placed_by : (p : Phase) → m.phase ≡ p → Placed m p
  placed_by Rest q = tt
  placed_by Fetch q = tt
  placed_by (Move k) q = subst (λ (p : Phase). in_window m.window (in_hand p).at 32 ≡ true) q (address-inside (fields_of m) t e (ap in_hand_number q))
  placed_by (WriteBack k) q = subst (λ (p : Phase). in_window m.window (in_hand p).at 32 ≡ true) q (address-inside (fields_of m) t e (ap in_hand_number q))
  placed_by Ended q = tt
  placed_by Halted q = tt
  placed_by (Faulted f) q = tt

-- a machine that keeps them is ready
pub keeps-ready : (m : Machine) (n : ℕ) → keeps m ≡ true → n ≡ m.core.window.length → Ready m.core n
unfolding keeps_rules
keeps-ready m n e s =
    let z : lowest_broken (fields_of m.core) (tail_of m) ≡ 0 = eqb-true _ _ e in
    record { size = sym s; left = left_by m.core (tail_of m) z m.core.phase refl; placed = placed_by m.core (tail_of m) z m.core.phase refl }

-- a look finds a descriptor only there
kind-inside : (w : Window) (a : ℕ) → kind_at w a ≡ descriptor → in_window w a 32 ≡ true
kind-inside w a e = and_right (eqb (a % 4) 0) _ (sym (stands_by w a) ∙ by (spot_of w a) e)
  where
    by : (s : Result Place Miss) → spot_kind s ≡ descriptor → stands s ≡ true
    by (Err miss.Misaligned) h = absurd (omega arith)
    by (Err miss.Outside) h = absurd (omega arith)
    by (Ok p) h = refl

-- and what it has read ahead, if it is a descriptor, lies in the window
pub keeps-seated : (m : Machine) → keeps m ≡ true → Seated m.core m.slot
unfolding keeps_rules
keeps-seated m e = by m.slot (eqb-true _ _ e)
  where
    by : (s : Slot) → lowest_broken (fields_of m.core) (tail_with s m.core.pointer.0 m.run) ≡ 0 → Seated m.core s
    by None z = tt
    by (Some (Err miss.Misaligned)) z = tt
    by (Some (Err miss.Outside)) z = tt
    by (Some (Ok r)) z =
        kind-inside m.core.window m.core.pointer.0
        (sym (held-kind (fields_of m.core) (tail_with (Some (Ok r)) m.core.pointer.0 m.run) z refl))

-- ---- what a step needs, as a test

module _ (m : Core) where
  ready-left : (p : Phase) → ready_in m p ≡ true → Left m p
  ready-left Rest e = tt
  ready-left Fetch e = tt
  ready-left (Move k) e =
      let both = and_left (ltb k.moved (whole m k) && not k.eop) _ e in
      (ltb-true _ _ (and_left _ _ both), not-true _ (and_right (ltb k.moved (whole m k)) _ both))
  ready-left (WriteBack k) e = tt
  ready-left Ended e = tt
  ready-left Halted e = tt
  ready-left (Faulted f) e = tt

  ready-placed : (p : Phase) → ready_in m p ≡ true → Placed m p
  ready-placed Rest e = tt
  ready-placed Fetch e = tt
  ready-placed (Move k) e = and_right (ltb k.moved (whole m k) && not k.eop) _ e
  ready-placed (WriteBack k) e = e
  ready-placed Ended e = tt
  ready-placed Halted e = tt
  ready-placed (Faulted f) e = tt

  core-ready : core_ready m ≡ true → Ready m m.window.length
  unfolding core_ready
  core-ready e = record { size = refl; left = ready-left m.phase e; placed = ready-placed m.phase e }

  ready_by : (p : Phase) → Left m p → Placed m p → ready_in m p ≡ true
  ready_by Rest l h = refl
  ready_by Fetch l h = refl
  ready_by (Move k) l h = rw (lt-ltb k.moved (whole m k) l.0, l.1, h)
  ready_by (WriteBack k) l h = h
  ready_by Ended l h = refl
  ready_by Halted l h = refl
  ready_by (Faulted f) l h = refl

  seats : (slot : Slot) → seated_in m slot ≡ true → Seated m slot
  seats None e = tt
  seats (Some (Err miss.Misaligned)) e = tt
  seats (Some (Err miss.Outside)) e = tt
  seats (Some (Ok r)) e = e

  seated-by : (slot : Slot) → Seated m slot → seated_in m slot ≡ true
  seated-by None h = refl
  seated-by (Some (Err miss.Misaligned)) h = refl
  seated-by (Some (Err miss.Outside)) h = refl
  seated-by (Some (Ok r)) h = h

module _ (m : Machine) where
  pub tested-ready : ready_of m ≡ true → Ready m.core m.core.window.length
  unfolding ready_of
  tested-ready e = core-ready m.core (and_right (seated_in m.core m.slot) _ e)

  pub tested-seated : ready_of m ≡ true → Seated m.core m.slot
  unfolding ready_of
  tested-seated e = seats m.core m.slot (and_left _ _ e)

  -- a machine that keeps the rules has it
  pub keeps-tested : keeps m ≡ true → ready_of m ≡ true
  unfolding ready_of core_ready
  keeps-tested k =
      let r = keeps-ready m m.core.window.length k refl in
      rw (seated-by m.core m.slot (keeps-seated m k)) (ready_by m.core m.core.phase r.left r.placed)

-- a phase with no descriptor in hand is ready
pub idle-ready : (m : Core) {p : Phase} → (p ≡ Rest) ⊎ ((p ≡ Fetch) ⊎ ((p ≡ Ended) ⊎ ((p ≡ Halted) ⊎ ((f : Fault) × (p ≡ Faulted f)))))
    → ready_in m p ≡ true
idle-ready m (inl e) = ap (ready_in m) e
idle-ready m (inr (inl e)) = ap (ready_in m) e
idle-ready m (inr (inr (inl e))) = ap (ready_in m) e
idle-ready m (inr (inr (inr (inl e)))) = ap (ready_in m) e
idle-ready m (inr (inr (inr (inr (f, e))))) = ap (ready_in m) e
