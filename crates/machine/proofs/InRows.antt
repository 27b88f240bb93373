-- Bytes moved at once are as many steps: a row of worlds, each a step after the one before. What the modes share, and then the row
-- of each mode.
-- Assumes nothing.
use Prim.Native.Nat.{ℕ, zero, suc, ◌+◌, ◌-◌, ◌≤◌, ◌<◌}
use mathlib.Core.Path.{◌≡◌, refl, sym, ap, ◌∙◌}
use mathlib.Core.Bool.{Bool, true, false, cond, ◌||◌}
use mathlib.Core.List.{List, [], ◌∷◌, ◌++◌, append_assoc, append-nil}
use native.Mathlib.Nat.{add-zero, sub-zero}
use native.Mathlib.Numerals.{add-one}
use native.Mathlib.Omega.{arith}
use lib.Bits.{bit_or, or_zero_r}
use lib.ListN.{length, take, drop, get_or, set}
use lib.Seq.{drop-cons}
use lib.Dec.{eqb}
use borrow.Author.Tests.{ne_eqb}
use Rattle.bus.specs.declared.Window.{Window}
use Rattle.bus.specs.Window.{in_window, place_of}
use Rattle.descriptor.specs.Layout.{read_fixed, write_fixed}
use Rattle.regs.specs.declared.Mode.{Mode}
use Rattle.regs.specs.declared.Mode.TheVariants.{MemoryToMemory, MemoryToStream, StreamToMemory}
use Rattle.flow.specs.Beats.{beat_error, beat_eop, beat_data}
use Rattle.flow.specs.Rows.{landing, gathered, spread, copied, plain}
use Rattle.flow.proofs.Longer.{gathered_next}
use Rattle.machine.specs.declared.Core.{Core}
use Rattle.machine.specs.declared.Work.{Work}
use Rattle.machine.specs.declared.Phase.{Phase}
use Rattle.machine.specs.declared.Phase.TheVariants.{Move, WriteBack}
use Rattle.machine.specs.State.{with_phase, settled, Slot}
use Rattle.machine.specs.Step.{World, taken, laid, became, stored, received, sent, holding, settle, step, whole, source_of, destination_of, with_byte, onward, copy_step, send_step, receive_from, move_step, beat_for}
use Rattle.machine.specs.Helpers.Turns.{steps_on, steps}
use Rattle.machine.specs.Helpers.AtOnce.{moved_by, Moving, Row, Unmarked}
use Rattle.machine.specs.Theorems.{RowSteps, CopySteps, SendSteps, ReceiveSteps}
use Rattle.machine.proofs.Places.{further}

-- ---- a row of worlds

pub row-steps : RowSteps
unfolding steps
row-steps row zero h = refl
row-steps row (suc n) h =
    ap (steps_on n) (h 0 (omega arith)) ∙ row-steps (λ (i : ℕ). row (suc i)) n (λ i l. h (suc i) (omega arith))

-- ---- the machine along the row

on-move : (m : Core) (p : Phase) (k : Work) → onward (with_phase p m) k ≡ onward m k
unfolding onward
on-move m p k = refl

-- which keeps what was read ahead
pub kept-onward : (m : Core) (k : Work) (slot : Slot) → settled (onward m k).phase slot ≡ slot
unfolding onward
kept-onward m k slot = by (k.eop || eqb k.moved (whole m k))
  where
    by : (done : Bool) → settled (cond done (WriteBack k) (Move k)) slot ≡ slot
    by true = refl
    by false = refl

settle-onward : (w : World) (m : Core) (k : Work) (memory input output : List ℕ) (room : ℕ)
    → settle (taken (laid w (onward m k) memory input output room)) ≡ taken (laid w (onward m k) memory input output room)
settle-onward w m k memory input output room =
    ap (λ (s : Slot). taken (holding (laid w (onward m k) memory input output room) s)) (kept-onward m k w.slot)

-- a byte that is not the last leaves it in Move
pub stays-moving : (m : Core) (k : Work) → k.eop ≡ false → k.moved < whole m k → onward m k ≡ with_phase (Move k) m
unfolding onward
stays-moving m k e l = rw (e, ne_eqb k.moved (whole m k) (λ (x : k.moved ≡ whole m k). omega arith))

module _ {mode : Mode} {window : Window} {k : Work} {most : ℕ} {m : Core} (g : Moving mode window k most m) where
  -- no byte yet
  none-moved : moved_by k 0 k.errors ≡ k
  none-moved = ap (λ (n : ℕ). record { at = k.at; source = k.source; destination = k.destination; length = k.length; control = k.control; errors = k.errors; moved = n; eop = k.eop }) (add-zero k.moved)

  pub at_first : onward m (moved_by k 0 k.errors) ≡ m
  at_first =
      ap (onward m) none-moved ∙ stays-moving m k g.no_eop g.some ∙ ap (λ (p : Phase). with_phase p m) (sym g.phase_is)

  -- one byte more
  byte_more : (i errors more : ℕ) → with_byte more false (moved_by k i errors) ≡ moved_by k (suc i) (bit_or errors more)
  byte_more i errors more =
      let n : k.moved + i + 1 ≡ k.moved + suc i = omega arith in
      λ x. record {
        at = k.at;
        source = k.source;
        destination = k.destination;
        length = k.length;
        control = k.control;
        errors = bit_or errors more;
        moved = n x;
        eop = sym g.no_eop x;
      }

  -- the step there is the mode's
  step-there : (i errors : ℕ) → i < most → (w : World)
      → step (became w (onward m (moved_by k i errors)))
      ≡ settle (move_step mode (became w (with_phase (Move (moved_by k i errors)) m)) (moved_by k i errors))
  unfolding step
  step-there i errors l w =
      let j = moved_by k i errors in
      let h = g.left in
      ap (λ (x : Core). step (became w x)) (stays-moving m j g.no_eop (omega arith))
      ∙ ap (λ (o : Mode). settle (move_step o (became w (with_phase (Move j) m)) j)) g.mode_is

  machine-there : (i errors more : ℕ) (p : Phase) → onward (with_phase p m) (with_byte more false (moved_by k i errors)) ≡ onward m (moved_by k (suc i) (bit_or errors more))
  machine-there i errors more p = on-move m p _ ∙ ap (onward m) (byte_more i errors more)

-- ---- addresses along the row

fixed-or-on : (fixed : Bool) (start moved i : ℕ) → landing fixed start (moved + i) ≡ landing fixed (landing fixed start moved) i
fixed-or-on true start moved i = refl
fixed-or-on false start moved i = omega arith

module _ (k : Work) (i errors : ℕ) where
  source-there : source_of (moved_by k i errors) ≡ landing (read_fixed k.control.0) (source_of k) i
  unfolding source_of
  source-there = fixed-or-on (read_fixed k.control.0) k.source k.moved i

  destination-there : destination_of (moved_by k i errors) ≡ landing (write_fixed k.control.0) (destination_of k) i
  unfolding destination_of
  destination-there = fixed-or-on (write_fixed k.control.0) k.destination k.moved i

there : (window : Window) (fixed : Bool) {a at n : ℕ} → Row window fixed a at n → (i : ℕ) → i < n
    → (in_window window (landing fixed a i) 1 ≡ true) × (place_of window (landing fixed a i) ≡ landing fixed at i)
there window true r i l = (r.inside, sym r.place)
there window false {a} {at} r i l =
    let f = further window a i r.inside (omega (arith, r.place, r.fits)) in
    (f.0, f.1 ∙ ap (λ (x : ℕ). x + i) (sym r.place))

module _ {window : Window} {fixed : Bool} {a at n : ℕ} (r : Row window fixed a at n) (m : Core) (w : m.window ≡ window) (i : ℕ) (l : i < n) where
  in_row : (b : ℕ) → b ≡ landing fixed a i → in_window m.window b 1 ≡ true
  in_row b e = ap (λ (v : Window). in_window v b 1) w ∙ ap (λ (x : ℕ). in_window window x 1) e ∙ (there window fixed r i l).0

  place-in-row : (b : ℕ) → b ≡ landing fixed a i → place_of m.window b ≡ landing fixed at i
  place-in-row b e = ap (λ (v : Window). place_of v b) w ∙ ap (λ (x : ℕ). place_of window x) e ∙ (there window fixed r i l).1

-- ---- mode 0

module _ {window : Window} {k : Work} {most : ℕ} {m : Core} (g : Moving MemoryToMemory window k most m) (from to n : ℕ)
    (r : Row window (read_fixed k.control.0) (source_of k) from n) (s : Row window (write_fixed k.control.0) (destination_of k) to n) (l : n ≤ most)
    (w : World) (memory : List ℕ) where
  abbrev bytes-copied : ℕ → List ℕ
  bytes-copied i = copied memory (read_fixed k.control.0) from (write_fixed k.control.0) to i

  abbrev copy-row : ℕ → World
  copy-row i = stored w (onward m (moved_by k i k.errors)) (bytes-copied i)

  copy-next : (i : ℕ) → i < n → step (copy-row i) ≡ taken (copy-row (suc i))
  unfolding copy_step copied
  copy-next i h =
      let j = moved_by k i k.errors in
      let a = source-there k i k.errors in
      let b = destination-there k i k.errors in
      let here : onward (with_phase (Move j) m) (with_byte 0 false j) ≡ onward m (moved_by k (suc i) k.errors) =
      machine-there g i k.errors 0 (Move j) ∙ ap (λ (e : ℕ). onward m (moved_by k (suc i) e)) (or_zero_r k.errors) in
      let goes : copy_step (became (copy-row i) (with_phase (Move j) m)) j ≡ taken (copy-row (suc i)) =
      rw (
        in_row r m g.window_is i h (source_of j) a,
        in_row s m g.window_is i h (destination_of j) b,
        place-in-row r m g.window_is i h (source_of j) a,
        place-in-row s m g.window_is i h (destination_of j) b,
        here,
      ) in
      step-there g i k.errors (omega arith) (copy-row i) ∙ ap settle goes ∙ settle-onward w m _ (bytes-copied (suc i)) w.input w.output w.room

  copies : steps n (stored w m memory) ≡ taken (copy-row n)
  unfolding copied
  copies = ap (λ (x : Core). steps n (stored w x memory)) (sym (at_first g)) ∙ row-steps copy-row n copy-next

pub copy-steps : CopySteps
copy-steps window k most m g from to n r s l w memory = copies g from to n r s l w memory

-- ---- mode 1

send-one : (w : World) (j : Work) (left : ℕ) → in_window w.core.window (source_of j) 1 ≡ true → w.room ≡ suc left
    → send_step w j ≡ taken (sent w (onward w.core (with_byte 0 false j))
    (w.output ++ beat_for j (get_or w.memory (place_of w.core.window (source_of j)) 0) ∷ []) left)
unfolding send_step
send-one w j left e f = rw (e, f)

module _ {window : Window} {k : Work} {most : ℕ} {m : Core} (g : Moving MemoryToStream window k most m) (from n : ℕ)
    (r : Row window (read_fixed k.control.0) (source_of k) from n) (l : n ≤ most) (unmarked : Unmarked k n)
    (w : World) (some : n ≤ w.room) where
  abbrev beats-sent : ℕ → List ℕ
  beats-sent i = plain w.memory (read_fixed k.control.0) from i

  abbrev send-row : ℕ → World
  send-row i = sent w (onward m (moved_by k i k.errors)) (w.output ++ beats-sent i) (w.room - i)

  send-next : (i : ℕ) → i < n → step (send-row i) ≡ taken (send-row (suc i))
  unfolding plain
  send-next i h =
      let j = moved_by k i k.errors in
      let a = source-there k i k.errors in
      let here-is : World = became (send-row i) (with_phase (Move j) m) in
      let here : onward (with_phase (Move j) m) (with_byte 0 false j) ≡ onward m (moved_by k (suc i) k.errors) =
      machine-there g i k.errors 0 (Move j) ∙ ap (λ (e : ℕ). onward m (moved_by k (suc i) e)) (or_zero_r k.errors) in
      let byte : beat_for j (get_or w.memory (place_of m.window (source_of j)) 0) ≡ get_or w.memory (landing (read_fixed k.control.0) from i) 0 =
      unmarked i k.errors _ h ∙ ap (λ (p : ℕ). get_or w.memory p 0) (place-in-row r m g.window_is i h (source_of j) a) in
      let made : (w.output ++ beats-sent i) ++ beat_for j (get_or w.memory (place_of m.window (source_of j)) 0) ∷ [] ≡ w.output ++ beats-sent (suc i) =
      append_assoc w.output (beats-sent i) _ ∙ ap (λ (x : ℕ). w.output ++ (beats-sent i ++ x ∷ [])) byte in
      step-there g i k.errors (omega arith) (send-row i)
      ∙ ap settle (send-one here-is j (w.room - suc i) (in_row r m g.window_is i h (source_of j) a) (omega arith))
      ∙ (λ x. settle (taken (sent w (here x) (made x) (w.room - suc i))))
      ∙ settle-onward w m _ w.memory w.input (w.output ++ beats-sent (suc i)) (w.room - suc i)

  sends : steps n (became w m) ≡ taken (send-row n)
  unfolding plain
  sends =
      let first = sym (at_first g) in
      let none = sym (append-nil w.output) in
      let all = sym (sub-zero w.room) in
      (λ x. steps n (sent w (first x) (none x) (all x))) ∙ row-steps send-row n send-next

pub send-steps : SendSteps
send-steps window k most m g from n r l unmarked w some = sends g from n r l unmarked w some

-- ---- mode 2

pub receive-one : (w : World) (j : Work) (b : ℕ) (bs : List ℕ) → w.input ≡ b ∷ bs → in_window w.core.window (destination_of j) 1 ≡ true
    → receive_from w j w.input ≡ taken (received w (onward w.core (with_byte (beat_error b) (beat_eop b) j))
    (set w.memory (place_of w.core.window (destination_of j)) (beat_data b)) bs)
receive-one w j b bs e f = ap (receive_from w j) e ∙ rw f

module _ {window : Window} {k : Work} {most : ℕ} {m : Core} (g : Moving StreamToMemory window k most m) (to n : ℕ)
    (r : Row window (write_fixed k.control.0) (destination_of k) to n) (l : n ≤ most)
    (w : World) (memory beats : List ℕ) (some : n ≤ length beats) (calm : (i : ℕ) → i < n → beat_eop (get_or beats i 0) ≡ false) where
  abbrev errors-row : ℕ → ℕ
  errors-row i = gathered k.errors (take i beats)

  abbrev bytes-received : ℕ → List ℕ
  bytes-received i = spread memory (write_fixed k.control.0) to beats i

  abbrev receive-row : ℕ → World
  receive-row i = received w (onward m (moved_by k i (errors-row i))) (bytes-received i) (drop i beats)

  receive-next : (i : ℕ) → i < n → step (receive-row i) ≡ taken (receive-row (suc i))
  unfolding spread
  receive-next i h =
      let e = errors-row i in
      let j = moved_by k i e in
      let b = get_or beats i 0 in
      let a = destination-there k i e in
      let here-is : World = became (receive-row i) (with_phase (Move j) m) in
      let errors : bit_or e (beat_error b) ≡ errors-row (suc i) =
      sym (gathered_next beats i (omega arith) k.errors) ∙ ap (λ (x : ℕ). gathered k.errors (take x beats)) (add-one i) in
      let here : onward (with_phase (Move j) m) (with_byte (beat_error b) (beat_eop b) j) ≡ onward m (moved_by k (suc i) (errors-row (suc i))) =
      ap (λ (x : Bool). onward (with_phase (Move j) m) (with_byte (beat_error b) x j)) (calm i h)
      ∙ machine-there g i e (beat_error b) (Move j) ∙ ap (λ (x : ℕ). onward m (moved_by k (suc i) x)) errors in
      let bytes : set (bytes-received i) (place_of m.window (destination_of j)) (beat_data b) ≡ bytes-received (suc i) =
      ap (λ (p : ℕ). set (bytes-received i) p (beat_data b)) (place-in-row r m g.window_is i h (destination_of j) a) in
      step-there g i e (omega arith) (receive-row i)
      ∙ ap settle (receive-one here-is j b (drop (suc i) beats) (drop-cons beats i 0 (omega arith)) (in_row r m g.window_is i h (destination_of j) a))
      ∙ (λ x. settle (taken (received w (here x) (bytes x) (drop (suc i) beats))))
      ∙ settle-onward w m _ (bytes-received (suc i)) (drop (suc i) beats) w.output w.room

  receives : steps n (received w m memory beats) ≡ taken (receive-row n)
  unfolding spread
  receives = ap (λ (x : Core). steps n (received w x memory beats)) (sym (at_first g)) ∙ row-steps receive-row n receive-next

pub receive-steps : ReceiveSteps
receive-steps window k most m g to n r l w memory beats some calm = receives g to n r l w memory beats some calm
