-- The step rule where the chain meets it, phase by phase.
-- Assumes nothing.
use Rattle.std.specs.Prelude.{Ok, Some, None}
use Prim.Native.Nat.{ℕ, zero, suc, ◌+◌, ◌-◌, ◌%◌, ◌<◌}
use mathlib.Core.Path.{◌≡◌, refl, sym, ap, subst, ◌∙◌}
use mathlib.Core.Logic.{◌≢◌}
use mathlib.Core.Bool.{Bool, true, false, not, cond, ◌&&◌, ◌||◌}
use mathlib.Core.List.{List, [], ◌∷◌, ◌++◌}
use native.Mathlib.Omega.{arith}
use lib.Dec.{eqb}
use lib.ListN.{get_or, set}
use borrow.Author.Tests.{eq-eqb, ne_eqb}
use Rattle.words.specs.Slices.{part, put_at, AllBytes}
use Rattle.bus.specs.Window.{in_window, place_of}
use Rattle.descriptor.specs.declared.Descriptor.{Descriptor}
use Rattle.descriptor.specs.Layout.{owned, last_four}
use Rattle.descriptor.specs.declared.Raw.{Raw}
use Rattle.descriptor.specs.Looking.{named_in, raw_at, look_at, Look}
use Rattle.descriptor.proofs.Looks.{look-there, named-at}
use Rattle.regs.specs.declared.Mode.{Mode}
use Rattle.regs.specs.declared.Mode.TheVariants.{MemoryToMemory, MemoryToStream, StreamToMemory}
use Rattle.regs.specs.declared.Control.{Control}
use Rattle.regs.specs.Control.{run, stop_dma_er, park}
use Rattle.flow.specs.Beats.{beat_error, beat_eop, beat_data}
use Rattle.machine.specs.declared.Core.{Core}
use Rattle.machine.specs.declared.Work.{Work}
use Rattle.machine.specs.declared.Phase.{Phase}
use Rattle.machine.specs.declared.Phase.TheVariants.{Rest, Fetch, Move, WriteBack}
use Rattle.machine.specs.State.{remade, with_pointer, with_phase, with_busy, rested, settled, Slot}
use Rattle.machine.specs.Step.{World, taken, became, stored, received, sent, noted, holding, settle, seen, entry_for, back_to, rest_step, ended, wants_length, begun, fetched, meets, fetch_step, whole, source_of, destination_of, with_byte, onward, copy_step, beat_for, send_to, send_step, receive_from, move_step, written_control, written_back, completed, write_back_step, step_in, step}
use Rattle.links.specs.Form.{Link, link_at}

-- the machine runs and does not park
pub record SetSo (control : Control) : Type 0 where
  pub runs : run control ≡ true
  pub unparked : park control ≡ false

abbrev pub Set : Core → Type 0
Set m = SetSo m.control

pub rest-step : (w : World) → w.core.phase ≡ Rest → run w.core.control ≡ true
    → step w ≡ taken (became w (with_phase Fetch (with_busy true w.core)))
unfolding step rest_step
rest-step w p r = rw (p, r)

-- ---- Fetch

-- the descriptor's fields are kept, the pointer is at the next, and that one is read ahead
abbrev pub fetched_world : World → Link → World
fetched_world w l =
    holding (became w (with_phase (Move (begun l.at l.says)) (with_pointer l.says.next w.core)))
    (Some (look_at w.core.window w.memory l.says.next))

-- a Fetch sees a descriptor that says d
pub record Sees (w : World) (d : Descriptor) : Type 0 where
  pub raw : Raw
  pub look : seen w ≡ Ok raw
  pub names : named_in raw ≡ d

-- as it does where it looks at a descriptor of the memory m, the present one or one that was
pub sees-in : (w : World) (m : List ℕ) (l : Link) → l ≡ link_at w.core.window m w.core.pointer.0 → l.at % 4 ≡ 0
    → in_window w.core.window l.at 32 ≡ true → AllBytes (part m (place_of w.core.window l.at) 32)
    → seen w ≡ look_at w.core.window m w.core.pointer.0 → Sees w l.says
sees-in w m l h a i g v =
    let c = w.core in
    let al : eqb (c.pointer.0 % 4) 0 ≡ true = eq-eqb _ _ (subst (λ (x : Link). x.at % 4 ≡ 0) h a) in
    let il : in_window c.window c.pointer.0 32 ≡ true = subst (λ (x : Link). in_window c.window x.at 32 ≡ true) h i in
    let bytes : AllBytes (part m (place_of c.window c.pointer.0) 32) =
    subst (λ (x : Link). AllBytes (part m (place_of c.window x.at) 32)) h g in
    record {
      raw = raw_at m (place_of c.window c.pointer.0);
      look = v ∙ look-there c.window m c.pointer.0 al il;
      names = named-at m (place_of c.window c.pointer.0) bytes ∙ sym (ap (λ (x : Link). x.says) h);
    }

-- what a Fetch sees is what stands in memory: nothing is read ahead, or it stands there still
abbrev pub SeesMemory : World → Type 0
SeesMemory w = seen w ≡ look_at w.core.window w.memory w.core.pointer.0

module _ (w : World) (l : Link) (p : w.core.phase ≡ Fetch) (c : Set w.core) (h : w.core.pointer.0 ≡ l.at) (v : Sees w l.says) where
  looked : step w ≡ settle (fetched w l.says)
  unfolding step fetch_step
  looked =
      ap (λ (x : Phase). settle (step_in x w)) p
      ∙ ap (λ (b : Bool). settle (cond (not b) (taken (became w (rested w.core))) (meets w (seen w)))) c.runs
      ∙ ap (λ (x : Look). settle (meets w x)) v.look
      ∙ ap (λ (d : Descriptor). settle (fetched w d)) v.names

  pub fetch-step : owned l.says.control.0 ≡ true → (wants_length w.core.mode && eqb l.says.length 0) ≡ false
      → step w ≡ taken (fetched_world w l)
  unfolding fetched
  fetch-step o long =
      looked ∙ rw (o, long) (ap (λ (a : ℕ). taken (fetched_world w (record { at = a; says = l.says }))) h)

  pub end_step : owned l.says.control.0 ≡ false → step w ≡ taken (holding (became w (ended w.core)) None)
  unfolding fetched
  end_step o = looked ∙ rw o

-- ---- Move, from stream to memory

-- a beat is taken, and its byte written
abbrev pub received_world : World → Work → ℕ → List ℕ → Phase → World
received_world w k b bs q =
    received w (with_phase q w.core) (set w.memory (place_of w.core.window (destination_of k)) (beat_data b)) bs

abbrev pub with_beat : ℕ → Work → Work
with_beat b k = with_byte (beat_error b) (beat_eop b) k

-- where the work goes: on, or to WriteBack after an EOP or the last byte
abbrev pub goes_to : Core → Work → Phase
goes_to m k = cond (k.eop || eqb k.moved (whole m k)) (WriteBack k) (Move k)

pub on-eop : (m : Core) (k : Work) → k.eop ≡ true → goes_to m k ≡ WriteBack k
on-eop m k h = rw h

pub on-count : (m : Core) (k : Work) → k.eop ≡ false → k.moved ≡ whole m k → goes_to m k ≡ WriteBack k
on-count m k h l = simp (h, eq-eqb k.moved (whole m k) l)

pub on-more : (m : Core) (k : Work) → k.eop ≡ false → k.moved ≢ whole m k → goes_to m k ≡ Move k
on-more m k h l = simp (h, ne_eqb k.moved (whole m k) l)

kept-going : (m : Core) (k : Work) (slot : Slot) → settled (goes_to m k) slot ≡ slot
kept-going m k slot = by (k.eop || eqb k.moved (whole m k))
  where
    by : (done : Bool) → settled (cond done (WriteBack k) (Move k)) slot ≡ slot
    by true = refl
    by false = refl

pub move_step_lem : (w : World) (k : Work) (b : ℕ) (bs : List ℕ) (q : Phase) → w.core.phase ≡ Move k → w.core.mode ≡ StreamToMemory
    → w.input ≡ b ∷ bs → in_window w.core.window (destination_of k) 1 ≡ true
    → goes_to w.core (with_beat b k) ≡ q → step w ≡ taken (received_world w k b bs q)
unfolding step onward
move_step_lem w k b bs q p c i h g =
    ap (λ (x : Phase). settle (step_in x w)) p ∙ ap (λ (x : Mode). settle (move_step x w k)) c ∙ ap (λ (bs : List ℕ). settle (receive_from w k bs)) i
    ∙ rw h (λ x. taken (holding (received_world w k b bs (g x)) (kept-going w.core (with_beat b k) w.slot x)))

-- ---- Move, from memory

-- a byte of memory is written to memory
pub copy_step_lem : (w : World) (k : Work) (byte : ℕ) (q : Phase) → w.core.phase ≡ Move k → w.core.mode ≡ MemoryToMemory
    → in_window w.core.window (source_of k) 1 ≡ true → in_window w.core.window (destination_of k) 1 ≡ true
    → get_or w.memory (place_of w.core.window (source_of k)) 0 ≡ byte → goes_to w.core (with_byte 0 false k) ≡ q
    → step w ≡ taken (stored w (with_phase q w.core) (set w.memory (place_of w.core.window (destination_of k)) byte))
unfolding step onward copy_step
copy_step_lem w k byte q p c i h b g =
    let to : ℕ = place_of w.core.window (destination_of k) in
    ap (λ (x : Phase). settle (step_in x w)) p ∙ ap (λ (x : Mode). settle (move_step x w k)) c
    ∙ rw (i, h) (λ x. taken (holding (stored w (with_phase (g x) w.core) (set w.memory to (b x))) (kept-going w.core (with_byte 0 false k) w.slot x)))

-- or made a beat, where there is room
pub send-step : (w : World) (k : Work) (beat left : ℕ) (q : Phase) → w.core.phase ≡ Move k → w.core.mode ≡ MemoryToStream
    → in_window w.core.window (source_of k) 1 ≡ true → w.room ≡ suc left
    → beat_for k (get_or w.memory (place_of w.core.window (source_of k)) 0) ≡ beat → goes_to w.core (with_byte 0 false k) ≡ q
    → step w ≡ taken (sent w (with_phase q w.core) (w.output ++ beat ∷ []) left)
unfolding step onward send_step
send-step w k beat left q p c i r b g =
    ap (λ (x : Phase). settle (step_in x w)) p ∙ ap (λ (x : Mode). settle (move_step x w k)) c
    ∙ rw i (ap (λ (n : ℕ). settle (send_to w k n)) r
    ∙ (λ x. taken (holding (sent w (with_phase (g x) w.core) (w.output ++ b x ∷ []) left) (kept-going w.core (with_byte 0 false k) w.slot x))))

-- ---- WriteBack

-- the last four bytes are written
abbrev marked_by : World → Work → (left : ℕ) → World
marked_by w k left =
    let m = w.core in
    let n = completed w.core k in
    noted
    (stored w (remade n.status m.control m.pointer Fetch n.pending n.count m)
    (put_at w.memory (place_of m.window k.at + 28) (last_four k.moved k.errors (k.control.0 % 128))))
    (w.records ++ entry_for w.run k ∷ []) left

abbrev pub marked_world : World → Work → World
marked_world w k = marked_by w k (w.left - 1)

-- its errors do not stop the machine
abbrev pub Unhalted : Core → (errors : ℕ) → Type 0
Unhalted m errors = (not (eqb errors 0) && stop_dma_er m.control) ≡ false

write-by : (w : World) (k : Work) → Set w.core → Unhalted w.core k.errors → (left : ℕ) → w.left ≡ left → 0 < left
    → back_to w k left ≡ taken (marked_world w k)
unfolding written_back written_control completed
write-by w k c u zero l h = absurd (omega arith)
write-by w k c u (suc left) l h =
    let one : left ≡ w.left - 1 = omega (arith, l) in
    let back : back_to w k (suc left) ≡ taken (marked_by w k left) = simp (c.runs, c.unparked, u) in
    back ∙ ap (λ (n : ℕ). taken (marked_by w k n)) one

pub write_step : (w : World) (k : Work) → w.core.phase ≡ WriteBack k → Set w.core → Unhalted w.core k.errors → 0 < w.left
    → step w ≡ taken (marked_world w k)
unfolding step write_back_step
write_step w k p c u h = ap (λ (x : Phase). settle (step_in x w)) p ∙ ap settle (write-by w k c u w.left refl h)
