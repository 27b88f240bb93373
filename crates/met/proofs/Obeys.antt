-- How long until the core obeys: with RUN clear every step pays one of those that the phase owes.
-- Assumes nothing.
use Rattle.std.specs.Prelude.{Ok}
use Prim.Native.Nat.{ℕ, zero, suc, ◌+◌, ◌-◌, ◌/◌, ◌%◌, ◌≤◌, ◌<◌}
use mathlib.Core.Path.{◌≡◌, refl, sym, ap, subst, ◌∙◌}
use mathlib.Core.Bool.{Bool, true, false, cond, not, ◌&&◌, ◌||◌, true≢false}
use mathlib.Core.List.{List, [], ◌∷◌, ◌++◌}
use native.Mathlib.Omega.{arith}
use lib.Dec.{eqb}
use lib.ListN.{length, take, drop, replicate, length-replicate, get_or-replicate}
use borrow.Author.Tests.{eq-eqb}
use Rattle.words.specs.Slices.{AllBytes}
use Rattle.bus.specs.Window.{in_window, place_of}
use Rattle.regs.specs.declared.Mode.{Mode}
use Rattle.regs.specs.declared.Mode.TheVariants.{MemoryToMemory, MemoryToStream, StreamToMemory}
use Rattle.regs.specs.Modes.{mode_number}
use Rattle.regs.specs.Control as control
use Rattle.flow.specs.Beats.{beat_error, beat_eop}
use Rattle.flow.specs.Rows.{gathered, spread}
use Rattle.machine.specs.declared.Core.{Core}
use Rattle.machine.specs.declared.Machine.{Machine}
use Rattle.machine.specs.declared.Work.{Work}
use Rattle.machine.specs.declared.Ran.{Ran}
use Rattle.machine.specs.declared.Reason.{Reason}
use Rattle.machine.specs.declared.Reason.TheVariants as reason
use Rattle.machine.specs.declared.Phase.{Phase}
use Rattle.machine.specs.declared.Phase.TheVariants.{Rest, Fetch, Move, WriteBack, Ended, Halted, Faulted}
use Rattle.machine.specs.State.{with_phase, with_busy, rested, fresh_core, settled, Slot}
use Rattle.machine.specs.Registers.{control_stored, released, control_written}
use Rattle.machine.specs.Step.{World, Answer, taken, stopped, laid, became, stored, received, noted, holding, settle, faulted, entry_for, written_back, rest_step, fetch_step, whole, source_of, destination_of, with_byte, onward, copy_step, send_to, send_step, receive_from, move_step, after_back, completed, back_to, write_back_step, step_in, step}
use Rattle.machine.specs.Helpers.Turns.{steps}
use Rattle.machine.specs.Helpers.AtOnce.{moved_by}
use Rattle.machine.specs.Run.{Report, one_more_of, run_on, run, Lent, Returned, serves, served_of, world_of, ran_as, HasRun}
use Rattle.machine.proofs.RunLaws.{run-stopped, run-taken}
use Rattle.machine.proofs.Loop.{more_by, run-steps}
use Rattle.machine.proofs.InRows.{receive-steps}
use Rattle.machine.proofs.Outcomes.{ran-serves}
use Rattle.machine.proofs.Writes.{was-done}
use Rattle.met.specs.Sound.{SoundWorld}
use Rattle.met.specs.Met.{Met}
use Rattle.met.specs.Met as met
use Rattle.met.specs.Obeys.{Cleared, owes_in, owes, supplied_move, supplied_in, Supplied, Obeyed, rests, faults, Stands, obeyed, no_beat, no_room, no_record, RunsOn, none, one_more, ObeyedRun, longest_work, longest_core, longest}
use Rattle.met.specs.Theorems.{OwesAtMost, OwesSteps, StandsThen, Obeys, RunsObey, ClearedByWrite, ObeysInRun, BoundIsMet}
use Rattle.met.proofs.Kept.{Suits}
use Rattle.met.proofs.ByParts.{sound-kept, asked-lt}
use Rattle.met.proofs.Worlds.{KeptWorld, kept-world, After}
use Rattle.met.proofs.Steps.{step_after, run-keeps}
use Rattle.met.proofs.InUse.{IfServes, lent-sound, met-sound}

-- ---- a step

-- an answer in the phase p with RUN clear: a step pays one, leaves control, and what was supplied is; or it stands there
data Pays (p : Phase) (w : World) : Answer → Type 0 where
  goes : {v : World} → v.core.control ≡ w.core.control → owes v.core + 1 ≤ owes_in w.core p → (supplied_in w p → Supplied v)
      → Pays p w (taken v)
  stays : {r : Reason} → Stands w r p → Pays p w (stopped r)

choice : {p : Phase} {w : World} (b : Bool) {x y : Answer} → Pays p w x → Pays p w y → Pays p w (cond b x y)
choice true p q = p
choice false p q = q

-- what is read ahead is none of it
held : {p : Phase} {w : World} (v : World) (slot : Slot) → Pays p w (taken v) → Pays p w (taken (holding v slot))
held v slot (goes c o s) = goes {v = holding v slot} c o (λ u. same v.core.phase (s u))
  where
    same : (p : Phase) → supplied_in v p → supplied_in (holding v slot) p
    same Rest u = tt
    same Fetch u = tt
    same (Move k) u = (by_mode v.core.mode k u.0, u.1)
      where
        by_mode : (o : Mode) (k : Work) → supplied_move o v k → supplied_move o (holding v slot) k
        by_mode MemoryToMemory k h = tt
        by_mode MemoryToStream k h = h
        by_mode StreamToMemory k h = h
    same (WriteBack k) u = u
    same Ended u = tt
    same Halted u = tt
    same (Faulted f) u = tt

settles : {p : Phase} {w : World} {a : Answer} → Pays p w a → Pays p w (settle a)
settles {a = taken v} h = held v (settled v.core.phase v.slot) h
settles {a = stopped r} (stays s) = stays s

module _ (w : World) (clear : Cleared w.core) where
  rest-pays : Pays Rest w (rest_step w)
  unfolding rest_step
  rest-pays = rw clear (stays (obeyed rests))

  fetch-pays : Pays Fetch w (fetch_step w)
  unfolding fetch_step
  fetch-pays = rw clear (goes {v = became w (rested w.core)} refl (omega arith) (λ s. tt))

  back-pays : (k : Work) (left : ℕ) → w.left ≡ left → Pays (WriteBack k) w (back_to w k left)
  unfolding completed
  back-pays k zero e = stays (no_record e)
  back-pays k (suc left) e =
      let halts : Bool = not (eqb k.errors 0) && control.stop_dma_er w.core.control in
      let at_rest : after_back (control.run w.core.control) halts ≡ Rest = rw clear in
      let v = noted (stored w (completed w.core k) (written_back w k)) (w.records ++ entry_for w.run k ∷ []) left in
      goes {v = v} refl (subst (λ (p : Phase). owes_in (completed w.core k) p + 1 ≤ 1) (sym at_rest) (omega arith))
      (λ s. subst (λ (p : Phase). supplied_in v p) (sym at_rest) tt)

  -- a byte is moved, or a fault drops the descriptor
  module _ (k : Work) (less : k.moved < whole w.core k) where
    abbrev left : ℕ
    left = whole w.core k - k.moved

    next-owes : (c : Core) (j : Work) (done : Bool) → whole c j - j.moved + 2 ≤ left + 1 → owes_in c (cond done (WriteBack j) (Move j)) + 1 ≤ left + 1
    next-owes c j true h = omega (arith, less)
    next-owes c j false h = omega (arith, h)

    next-supplied : (v : World) (j : Work) (done : Bool) → 1 ≤ v.left → supplied_move v.core.mode v j
        → supplied_in v (cond done (WriteBack j) (Move j))
    next-supplied v j true l s = l
    next-supplied v j false l s = (s, l)

    fault-pays : (code address : ℕ) → Pays (Move k) w (faulted w code address)
    fault-pays code address =
        goes {v = became w (with_phase (Faulted (record { code = code; address = address })) (with_busy false w.core))} refl (omega arith) (λ s. tt)

    module _ (mode : Mode) (e : w.core.mode ≡ mode) where
      moved-pays : (errors : ℕ) (eop : Bool) (memory input output : List ℕ) (room : ℕ)
          → (let j = with_byte errors eop k in
          supplied_move mode w k → supplied_move mode (laid w (onward w.core j) memory input output room) j)
          → Pays (Move k) w (taken (laid w (onward w.core (with_byte errors eop k)) memory input output room))
      unfolding onward
      moved-pays errors eop memory input output room next =
          let j = with_byte errors eop k in
          let v = laid w (onward w.core j) memory input output room in
          let done : Bool = j.eop || eqb j.moved (whole w.core j) in
          goes refl (next-owes v.core j done (omega (arith, less)))
          (λ s. next-supplied v j done s.1
          (subst (λ (o : Mode). supplied_move o v j) (sym e) (next (subst (λ (o : Mode). supplied_move o w k) e s.0))))

    send-pays : w.core.mode ≡ MemoryToStream → (room : ℕ) → w.room ≡ room → Pays (Move k) w (send_to w k room)
    unfolding onward
    send-pays e zero r = stays (no_room e r)
    send-pays e (suc room) r =
        moved-pays MemoryToStream e 0 false w.memory w.input _ room
        (λ s. let h : left ≤ w.room = s in let x : whole w.core k - (k.moved + 1) ≤ room = omega (arith, h, r) in x)

    receive-pays : w.core.mode ≡ StreamToMemory → (input : List ℕ) → w.input ≡ input → Pays (Move k) w (receive_from w k input)
    unfolding onward
    receive-pays e [] i = stays (no_beat e i)
    receive-pays e (b ∷ bs) i =
        choice (in_window w.core.window (destination_of k) 1)
        (moved-pays StreamToMemory e (beat_error b) (beat_eop b) _ bs w.output w.room
        (λ s. let h : left ≤ length w.input = s in let n : length w.input ≡ suc (length bs) = ap length i in
        let x : whole w.core k - (k.moved + 1) ≤ length bs = omega (arith, h, n) in x))
        (fault-pays _ _)

    move-pays : (mode : Mode) → w.core.mode ≡ mode → Pays (Move k) w (move_step mode w k)
    unfolding copy_step send_step
    move-pays MemoryToMemory e =
        choice (in_window w.core.window (source_of k) 1)
        (choice (in_window w.core.window (destination_of k) 1)
        (moved-pays MemoryToMemory e 0 false _ w.input w.output w.room (λ s. tt))
        (fault-pays _ _))
        (fault-pays _ _)
    move-pays MemoryToStream e = choice (in_window w.core.window (source_of k) 1) (send-pays e w.room refl) (fault-pays _ _)
    move-pays StreamToMemory e = receive-pays e w.input refl

  step-pays : Suits w.core w.core.phase → Pays w.core.phase w (step w)
  unfolding step write_back_step
  step-pays h = settles (by w.core.phase h)
    where
      by : (p : Phase) → Suits w.core p → Pays p w (step_in p w)
      by Rest s = rest-pays
      by Fetch s = fetch-pays
      by (Move k) s = move-pays k s.2.less w.core.mode refl
      by (WriteBack k) s = back-pays k w.left refl
      by Ended s = absurd (true≢false (sym s.1 ∙ clear))
      by Halted s = absurd (true≢false (sym s.1 ∙ clear))
      by (Faulted f) s = stays (obeyed faults)

-- ---- a run

record Paid (budget : ℕ) (w : World) (r : Report) : Type 0 where
  paid : r.steps + owes r.world.core ≤ owes w.core
  clear : Cleared r.world.core
  supplied : Supplied w → Supplied r.world
  stands : owes w.core ≤ budget → Stands r.world r.reason r.world.core.phase

pays-on : (n : ℕ) {w : World} (a : Answer) → KeptWorld w → Cleared w.core → Pays w.core.phase w a → After a → Paid n w (run_on n w a)
pays-on zero (stopped r) h c (stays s) k = record { paid = omega arith; clear = c; supplied = λ u. u; stands = λ u. s }
pays-on zero (taken v) h c (goes e o s) k = record { paid = omega arith; clear = c; supplied = λ u. u; stands = λ u. absurd (omega (arith, o, u)) }
pays-on (suc n) (stopped r) h c (stays s) k = record { paid = omega arith; clear = c; supplied = λ u. u; stands = λ u. s }
pays-on (suc n) (taken v) h c (goes e o s) k =
    let still : Cleared v.core = ap control.run e ∙ c in
    let rest = pays-on n (step v) k still (step-pays v still k.core.phase) (step_after k) in
    record {
      paid = omega (arith, o, rest.paid);
      clear = rest.clear;
      supplied = λ u. rest.supplied (s u);
      stands = λ u. rest.stands (omega (arith, o, u));
    }

run-pays : (n : ℕ) (w : World) → SoundWorld w → Cleared w.core → Paid n w (run n w)
unfolding run
run-pays n w s c =
    let k = kept-world s in
    pays-on n (step w) k c (step-pays w c k.core.phase) (step_after k)

pub owes-steps : OwesSteps
owes-steps n w s c = let p = run-pays n w s c in (p.paid, p.clear)

pub stands-then : StandsThen
stands-then n w s c h = (run-pays n w s c).stands h

abbrev goes_on : Phase → ℕ
goes_on Rest = 0
goes_on Fetch = 1
goes_on (Move k) = 1
goes_on (WriteBack k) = 1
goes_on Ended = 1
goes_on Halted = 1
goes_on (Faulted f) = 0

obeyed-at : {r : Reason} {p : Phase} → Obeyed r p → goes_on p ≡ 0
obeyed-at rests = refl
obeyed-at faults = refl

-- one that is supplied lacks nothing, and BUSY is 0 where it stands
obeyed-there : (w : World) (p : Phase) (r : Reason) → Suits w.core p → supplied_in w p → Stands w r p → Obeyed r p × (w.core.status.busy ≡ false)
obeyed-there w Rest r h u (obeyed rests) = (rests, h)
obeyed-there w Fetch r h u (obeyed o) = absurd (let z : ◌≡◌ {A = ℕ} 1 0 = obeyed-at o in omega arith)
obeyed-there w Ended r h u (obeyed o) = absurd (let z : ◌≡◌ {A = ℕ} 1 0 = obeyed-at o in omega arith)
obeyed-there w Halted r h u (obeyed o) = absurd (let z : ◌≡◌ {A = ℕ} 1 0 = obeyed-at o in omega arith)
obeyed-there w (Faulted f) r h u (obeyed faults) = (faults, h.0)
obeyed-there w (Move k) r h u (no_beat e i) =
    let some : whole w.core k - k.moved ≤ length w.input = subst (λ (o : Mode). supplied_move o w k) e u.0 in
    absurd (omega (arith, some, h.2.less, ap length i))
obeyed-there w (Move k) r h u (no_room e i) =
    let some : whole w.core k - k.moved ≤ w.room = subst (λ (o : Mode). supplied_move o w k) e u.0 in
    absurd (omega (arith, some, h.2.less, i))
obeyed-there w (WriteBack k) r h u (no_record i) = absurd (omega (arith, u, i))
obeyed-there w (Move k) r h u (obeyed o) = elim o [ ]
obeyed-there w (WriteBack k) r h u (obeyed o) = elim o [ ]

pub obeys : Obeys
obeys n w s c u h =
    let p = run-pays n w s c in
    let end = (run n w).world in
    obeyed-there end end.core.phase (run n w).reason (kept-world (run-keeps n w s)).core.phase (p.supplied u) (p.stands h)

-- ---- the bound

owes-most : (m : Core) (p : Phase) → Suits m p → owes_in m p ≤ 65536
owes-most m Rest s = omega arith
owes-most m Fetch s = omega arith
owes-most m (Move k) s = let l = asked-lt (mode_number m.mode) k.length s.1.length in omega (arith, l)
owes-most m (WriteBack k) s = omega arith
owes-most m Ended s = omega arith
owes-most m Halted s = omega arith
owes-most m (Faulted f) s = omega arith

pub owes-at-most : OwesAtMost
owes-at-most m s = owes-most m.core m.core.phase (sound-kept s).core.phase

-- ---- of the methods

-- bit 5 is stored as written
stored-5 : (v : ℕ) → v % 262144 / 32 % 2 ≡ v / 32 % 2
stored-5 v = omega arith

released-control : (p : Phase) (m : Core) → (released p m).control ≡ m.control
released-control Rest m = refl
released-control Fetch m = refl
released-control (Move k) m = refl
released-control (WriteBack k) m = refl
released-control Ended m = refl
released-control Halted m = refl
released-control (Faulted f) m = refl

control-clear : (m : Core) (v : ℕ) → control.run (control.as_control v) ≡ false → Cleared (control_written v m)
unfolding control_written
control-clear m v e = by (control.reset_by v m.control) (control.run (control.as_control v)) e
  where
    by : (reset runs : Bool) → runs ≡ false
        → Cleared (cond reset (fresh_core m.mode m.window) (cond runs (control_stored v m) (released m.phase (control_stored v m))))
    by true runs h = refl
    by false true h = absurd (true≢false h)
    by false false h = ap control.run (released-control m.phase (control_stored v m)) ∙ rw (stored-5 v) e

pub cleared-by-write : ClearedByWrite
cleared-by-write m n v e c =
    subst (λ (x : Machine). Cleared x.core) (sym (was-done m n 4 v refl c.answer).1) (control-clear m.core v e)

-- one run more
module _ {n : Machine} {l : Lent} {budget : ℕ} {r : Ran} {b : Returned} (h : Met n) (c : Cleared n.core) (g : AllBytes l.window)
    (bs : AllBytes l.beats) (d : HasRun n l budget (Ok r) b) where
  both : (served_of n l ≡ serves) × (r ≡ ran_as l.used (world_of n l) (run budget (world_of n l)))
  both = ran-serves l (served_of n l) (world_of n l) budget r d.answer

  lent : SoundWorld (world_of n l)
  lent = subst (IfServes (SoundWorld (world_of n l))) both.0 (lent-sound n l (met-sound h) g bs)

  more-paid : r.steps + owes r.machine.core ≤ owes n.core
  more-paid =
      subst (λ (x : Ran). x.steps + owes x.machine.core ≤ owes n.core) (sym both.1) (run-pays budget (world_of n l) lent c).paid

  more-clear : Cleared r.machine.core
  more-clear = subst (λ (x : Ran). Cleared x.machine.core) (sym both.1) (run-pays budget (world_of n l) lent c).clear

  obeyed-run : Supplied (world_of n l) → 65536 ≤ budget → ObeyedRun r
  obeyed-run u most =
      let o = obeys budget (world_of n l) lent c u (omega (arith, most, owes-at-most n (met-sound h))) in
      subst ObeyedRun (sym both.1)
      (record { stands = o.0; steps = omega (arith, owes-at-most n (met-sound h), (run-pays budget (world_of n l) lent c).paid); busy = o.1 })

record Still (m n : Machine) (t : ℕ) : Type 0 where
  met : Met n
  clear : Cleared n.core
  paid : t + owes n.core ≤ owes m.core

still : {m n : Machine} {t : ℕ} → Met m → Cleared m.core → RunsOn m n t → Still m n t
still h c none = record { met = h; clear = c; paid = omega arith }
still h c (one_more rs g b d) =
    let s = still h c rs in
    record { met = met.ran s.met g b d; clear = more-clear s.met s.clear g b d; paid = omega (arith, s.paid, more-paid s.met s.clear g b d) }

pub runs-obey : RunsObey
runs-obey m n t h c rs = (still h c rs).paid

pub obeys-in-run : ObeysInRun
obeys-in-run m n v l budget r b h bits e w g bs u most d =
    obeyed-run (met.written h bits w) (cleared-by-write m n v e w) g bs d u most

-- ---- the bound is met

-- a write-back with RUN clear, and room for its record, is the last step
module _ (w : World) (k : Work) (e : w.core.phase ≡ WriteBack k) (c : Cleared w.core) (l : w.left ≡ 1) where
  abbrev after : World
  after =
      let v = noted (stored w (completed w.core k) (written_back w k)) (w.records ++ entry_for w.run k ∷ []) 0 in
      holding v (settled v.core.phase v.slot)

  written : step w ≡ taken after
  unfolding step write_back_step
  written = ap (λ (p : Phase). settle (step_in p w)) e ∙ ap (λ (n : ℕ). settle (back_to w k n)) l

  at_rest : after.core.phase ≡ Rest
  unfolding completed
  at_rest = rw c

  stands-there : step after ≡ stopped reason.Rest
  unfolding step rest_step completed
  stands-there = ap (λ (p : Phase). settle (step_in p after)) at_rest ∙ rw c

  last_step : run 1 w ≡ record { reason = reason.Rest; steps = 1; world = after }
  last_step = run-taken w after written 0 ∙ ap one_more_of (run-stopped after reason.Rest stands-there 0)

abbrev beats : List ℕ
beats = replicate 65535 0

-- all bytes moved
abbrev longest_moved : World
longest_moved =
    received longest (onward longest_core (moved_by longest_work 65535 (gathered 0 (take 65535 beats)))) (spread (replicate 64 0) true 32 beats 65535)
    (drop 65535 beats)

lands : in_window (record { base = 0; length = 64 }) (destination_of longest_work) 1 ≡ true
unfolding in_window destination_of
lands = refl

lands-at : 32 ≡ place_of (record { base = 0; length = 64 }) (destination_of longest_work)
unfolding destination_of
lands-at = refl

all_moved : steps 65535 longest ≡ taken longest_moved
all_moved =
    receive-steps (record { base = 0; length = 64 }) longest_work 65535 longest_core
    (record { mode_is = refl; window_is = refl; phase_is = refl; no_eop = refl; some = omega arith; left = omega arith })
    32 65535 (record { inside = lands; place = lands-at; fits = omega arith }) (omega arith)
    longest (replicate 64 0) beats (omega (arith, length-replicate {A = ℕ} 65535 0)) (λ i h. ap beat_eop (get_or-replicate 65535 i 0 0 h))

moved-phase : longest_moved.core.phase ≡ WriteBack (moved_by longest_work 65535 (gathered 0 (take 65535 beats)))
unfolding onward
moved-phase = by (eqb 65535 65535) (eq-eqb 65535 65535 refl) (moved_by longest_work 65535 (gathered 0 (take 65535 beats)))
  where
    by : (done : Bool) → done ≡ true → (k : Work) → cond done (WriteBack k) (Move k) ≡ WriteBack k
    by true e k = refl
    by false e k = absurd (true≢false (sym e))

moved-clear : Cleared longest_moved.core
unfolding onward
moved-clear = refl

pub bound-is-met : BoundIsMet
bound-is-met =
    let whole = run-steps 65535 1 longest longest_moved all_moved ∙ ap (more_by 65535) (last_step longest_moved _ moved-phase moved-clear refl) in
    (refl, ap (λ (r : Report). r.steps) whole, ap (λ (r : Report). r.reason) whole)
