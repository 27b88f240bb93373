-- When a step can be taken.
-- Assumes nothing.
use Rattle.std.specs.Prelude.{Ok, Err, Option, Some, None}
use Prim.Native.Nat.{ℕ, zero, suc, ◌-◌, ◌/◌, ◌<◌}
use mathlib.Core.Path.{◌≡◌, refl, sym, ap, ◌∙◌}
use mathlib.Core.Bool.{Bool, true, false, not, cond, ◌&&◌}
use mathlib.Core.List.{List, [], ◌∷◌}
use native.Mathlib.Omega.{arith}
use lib.Dec.{eqb, ltb}
use lib.ListN.{length, drop}
use borrow.Author.Tests.{lt-ltb, ltb-true}
use Rattle.bus.specs.Window.{in_window}
use Rattle.descriptor.specs.declared.Descriptor.{Descriptor}
use Rattle.descriptor.specs.declared.Miss.TheVariants as miss
use Rattle.descriptor.specs.Layout.{owned}
use Rattle.descriptor.specs.Looking.{named_in, Look}
use Rattle.regs.specs.declared.Mode.{Mode}
use Rattle.regs.specs.declared.Mode.TheVariants.{MemoryToMemory, MemoryToStream, StreamToMemory}
use Rattle.regs.specs.Control.{run}
use Rattle.flow.specs.Beats.{beats_in}
use Rattle.ledger.specs.Records.{capacity}
use Rattle.machine.specs.declared.Reason.{Reason}
use Rattle.machine.specs.declared.Reason.TheVariants as reason
use Rattle.machine.specs.declared.Core.{Core}
use Rattle.machine.specs.declared.Phase.{Phase}
use Rattle.machine.specs.declared.Work.{Work}
use Rattle.machine.specs.Step.{World, Answer, taken, stopped, settle, step, step_in, rest_step, seen, meets, fetch_step, fetched, wants_length, copy_step, send_step, send_to, receive_from, move_step, back_to, write_back_step, source_of, destination_of}
use Rattle.machine.specs.Helpers.Worlds.{midway}
use Rattle.machine.specs.Helpers.Waiting.{wait_of, some, Waits, Goes, halt_of, Halts}
use Rattle.machine.proofs.Beats.{some-beat, some-room}

-- an answer that is a step; a choice of two of them is one
data Step : Answer → Type 0 where
  goes : {v : World} → Step (taken v)

both : (b : Bool) {x y : Answer} → Step x → Step y → Step (cond b x y)
both true p q = p
both false p q = q

step-goes : {a : Answer} → Step a → wait_of a ≡ None
step-goes goes = refl

fetched-step : (w : World) (d : Descriptor) → Step (fetched w d)
unfolding fetched
fetched-step w d = both (not (owned d.control.0)) goes (both (wants_length w.core.mode && eqb d.length 0) goes goes)

met-step : (w : World) (l : Look) → Step (meets w l)
met-step w (Err miss.Misaligned) = goes
met-step w (Err miss.Outside) = goes
met-step w (Ok r) = fetched-step w (named_in r)

pub fetch_goes : (w : World) → wait_of (fetch_step w) ≡ None
unfolding fetch_step
fetch_goes w =
    step-goes (both (not (run w.core.control)) goes (met-step w (seen w)))

either-waits : (b : Bool) (x : Answer) (v : World) → wait_of (cond b x (taken v)) ≡ cond b (wait_of x) None
either-waits true x v = refl
either-waits false x v = refl

module _ (w : World) (k : Work) where
  copy_goes : wait_of (copy_step w k) ≡ None
  unfolding copy_step
  copy_goes =
      step-goes
      (both (in_window w.core.window (source_of k) 1) (both (in_window w.core.window (destination_of k) 1) goes goes) goes)

  send-to-waits : (room : ℕ) → wait_of (send_to w k room) ≡ cond (ltb 0 room) None (Some reason.OutputFull)
  send-to-waits zero = refl
  send-to-waits (suc room) = rw (lt-ltb 0 (suc room) (omega arith))

  -- 13, then the room
  send-waits : wait_of (send_step w k)
      ≡ cond (in_window w.core.window (source_of k) 1) (cond (ltb 0 w.room) None (Some reason.OutputFull)) None
  unfolding send_step
  send-waits =
      either-waits (in_window w.core.window (source_of k) 1) _ _
      ∙ ap (λ (x : Option Reason). cond (in_window w.core.window (source_of k) 1) x None) (send-to-waits w.room)

  receive-waits : (input : List ℕ) → wait_of (receive_from w k input) ≡ cond (some input) None (Some reason.NeedsInput)
  receive-waits [] = refl
  receive-waits (b ∷ bs) = step-goes (both (in_window w.core.window (destination_of k) 1) goes goes)

-- WriteBack
back-to-waits : (w : World) (k : Work) (left : ℕ) → wait_of (back_to w k left) ≡ cond (ltb 0 left) None (Some reason.LedgerFull)
back-to-waits w k zero = refl
back-to-waits w k (suc left) = rw (lt-ltb 0 (suc left) (omega arith))

pub back-waits : (w : World) (k : Work) → wait_of (write_back_step w k) ≡ cond (ltb 0 w.left) None (Some reason.LedgerFull)
unfolding write_back_step
back-waits w k = back-to-waits w k w.left

-- Move, by what the code looks at
abbrev move_wait : Mode → (inside more room : Bool) → Option Reason
move_wait MemoryToMemory inside more room = None
move_wait MemoryToStream inside more room = cond inside (cond room None (Some reason.OutputFull)) None
move_wait StreamToMemory inside more room = cond more None (Some reason.NeedsInput)

pub move-waits : (o : Mode) (w : World) (k : Work)
    → wait_of (move_step o w k) ≡ move_wait o (in_window w.core.window (source_of k) 1) (some w.input) (ltb 0 w.room)
move-waits MemoryToMemory w k = copy_goes w k
move-waits MemoryToStream w k = send-waits w k
move-waits StreamToMemory w k = receive-waits w k w.input

-- and what it says where a step can be taken
pub go-true : (b : Bool) (r : Reason) → cond b None (Some r) ≡ None → b ≡ true
go-true true r e = refl
go-true false r e = absurd (let z : ◌≡◌ {A = ℕ} 0 1 = cc in omega arith)

runs_by : (b : Bool) (v : World) → wait_of (cond b (taken v) (stopped reason.Rest)) ≡ None → b ≡ true
runs_by true v e = refl
runs_by false v e = absurd (let z : ◌≡◌ {A = ℕ} 0 1 = cc in omega arith)

module _ (m : Core) (k : Work) (window beats : List ℕ) (took : ℕ) (out : List ℕ) (made : ℕ)
    (g : Goes (λ (w : World). move_step m.mode w k) m window beats took out made) where
  by_mode : (o : Mode) → m.mode ≡ o
      → move_wait o (in_window m.window (source_of k) 1) (some (drop took (beats_in beats))) (ltb 0 (length out / 2 - made)) ≡ None
  by_mode o e =
      ap (λ (x : Mode). move_wait x (in_window m.window (source_of k) 1) (some (drop took (beats_in beats))) (ltb 0 (length out / 2 - made))) (sym e)
      ∙ sym (move-waits m.mode (midway g.around m window beats took out made) k) ∙ g.can

  pub goes-room : m.mode ≡ MemoryToStream → in_window m.window (source_of k) 1 ≡ true → made < length out / 2
  goes-room e i =
      let room : ltb 0 (length out / 2 - made) ≡ true =
      go-true _ reason.OutputFull (ap (λ (x : Bool). cond x (cond (ltb 0 (length out / 2 - made)) None (Some reason.OutputFull)) None) (sym i) ∙ by_mode MemoryToStream e) in
      let some_left : 0 < length out / 2 - made = ltb-true _ _ room in
      omega arith

  pub goes-beat : m.mode ≡ StreamToMemory → took < length beats / 2
  goes-beat e = ltb-true _ _ (some-beat beats took ∙ go-true _ reason.NeedsInput (by_mode StreamToMemory e))

pub either-go : {A : Type 0} (b : Bool) → cond {A = Option A} b None None ≡ None
either-go true = refl
either-go false = refl

-- a step, by the phase
pub at-phase : (w : World) {p : Phase} → w.core.phase ≡ p → step w ≡ settle (step_in p w)
unfolding step
at-phase w e = ap (λ (x : Phase). settle (step_in x w)) e

-- what the phase that is entered leaves of the slot is nothing to wait for
pub settle-waits : (a : Answer) → wait_of (settle a) ≡ wait_of a
settle-waits (taken v) = refl
settle-waits (stopped r) = refl

pub waits-by : (w : World) {p : Phase} → w.core.phase ≡ p → wait_of (step w) ≡ wait_of (step_in p w)
waits-by w {p} e = ap wait_of (at-phase w e) ∙ settle-waits (step_in p w)

-- where a step can be taken, so can that of the phase
pub goes_in : (m : Core) (window beats : List ℕ) (took : ℕ) (out : List ℕ) (made : ℕ) {p : Phase} → m.phase ≡ p
    → Goes step m window beats took out made → Goes (step_in p) m window beats took out made
goes_in m window beats took out made e g =
    record { around = g.around; can = sym (waits-by (midway g.around m window beats took out made) e) ∙ g.can }

pub rest-runs : (w : World) → wait_of (rest_step w) ≡ None → run w.core.control ≡ true
unfolding rest_step
rest-runs w e = runs_by (run w.core.control) _ e

pub never-goes : {r : Reason} → Some r ≡ None → ⊥
never-goes e = let z : ◌≡◌ {A = ℕ} 0 1 = cc in omega arith

-- in the middle of lent slices, whatever was made before
pub waits-at : (m : Core) (window beats : List ℕ) (took : ℕ) (out : List ℕ) (made : ℕ) {keeps : Bool} {r : Option Reason}
    → Waits step m (ltb took (length beats / 2)) (ltb made (length out / 2)) keeps r → (w : World) → keeps ≡ ltb 0 w.left
    → wait_of (step (midway w m window beats took out made)) ≡ r
waits-at m window beats took out made f w e =
    sym (f (midway w m window beats took out made) (some-beat beats took) (some-room (length out / 2) made) e)

-- why a run ends, by what its next step waits for
pub halts_at : (m : Core) (beats : List ℕ) (took : ℕ) (out : List ℕ) (made : ℕ) (ledger : List ℕ) (used : ℕ) (spent : Bool) {keeps : Bool} {x r : Option Reason}
    → Waits step m (ltb took (length beats / 2)) (ltb made (length out / 2)) keeps x → keeps ≡ ltb used (capacity (length ledger)) → r ≡ halt_of spent x
    → Halts m beats took out made ledger used spent r
halts_at m beats took out made ledger used spent f e h w window left =
    let keeps = e ∙ some-room (capacity (length ledger)) used ∙ ap (ltb 0) (sym left) in
    h ∙ ap (halt_of spent) (sym (waits-at m window beats took out made f w keeps))

-- where it goes on a step can be taken, and the budget is not spent
pub halt-go : (spent : Bool) (x : Option Reason) → halt_of spent x ≡ None → (x ≡ None) × (spent ≡ false)
halt-go true None e = absurd (never-goes e)
halt-go false None e = (refl, refl)
halt-go spent (Some r) e = absurd (never-goes e)
