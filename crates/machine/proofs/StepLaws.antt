-- The laws of a step: what it leaves of the machine and of what is lent, and which bytes of memory it names.
-- Assumes nothing.
use Rattle.std.specs.Prelude.{Ok, Err}
use Prim.Native.Nat.{ℕ, zero, suc, ◌+◌, ◌-◌, ◌<◌}
use mathlib.Core.Path.{◌≡◌, refl, sym, ap, subst, ◌∙◌}
use mathlib.Core.Logic.{◌≢◌}
use mathlib.Core.Bool.{Bool, true, false, not, cond, ◌&&◌}
use mathlib.Core.List.{List, [], ◌∷◌, ◌++◌, append_assoc, append-nil}
use native.Mathlib.Nat.{add-zero}
use native.Mathlib.Numerals.{add-one}
use native.Mathlib.Omega.{arith}
use lib.Dec.{eqb}
use lib.ListN.{length, get_or, drop, length-append, length-set, length-drop}
use lib.Seq.{drop-drop, get_or-set_other}
use Rattle.bus.specs.Window.{in_window, place_of}
use Rattle.descriptor.specs.declared.Miss.TheVariants as miss
use Rattle.descriptor.specs.Layout.{owned}
use Rattle.descriptor.specs.Looking.{named_in, Look}
use Rattle.regs.specs.declared.Mode.{Mode}
use Rattle.regs.specs.declared.Mode.TheVariants.{MemoryToMemory, MemoryToStream, StreamToMemory}
use Rattle.regs.specs.Control.{run}
use Rattle.ledger.specs.declared.Entry.{Entry}
use Rattle.machine.specs.declared.Core.{Core}
use Rattle.machine.specs.declared.Work.{Work}
use Rattle.machine.specs.declared.Phase.{Phase}
use Rattle.machine.specs.declared.Phase.TheVariants.{Rest, Fetch, Move, WriteBack, Ended, Halted, Faulted}
use Rattle.machine.specs.declared.Reason.{Reason}
use Rattle.machine.specs.declared.Reason.TheVariants as reason
use Rattle.machine.specs.State.{settled, Slot}
use Rattle.machine.specs.Step.{World, Answer, taken, stopped, became, stored, holding, settle, seen, entry_for, back_to, rest_step, fetched, meets, fetch_step, wants_length, source_of, destination_of, beat_for, copy_step, send_to, send_step, receive_from, move_step, onward, completed, written_back, write_back_step, step_in, step}
use Rattle.machine.specs.Saved.{in_hand}
use Rattle.machine.specs.Run.{reason_number, taken_since}
use Rattle.machine.specs.Laws.{Passed, spares_move, spares_in}
use Rattle.machine.specs.Theorems.{StepPassed, StepSpares}
use Rattle.machine.proofs.Puts.{length-put-at, put-off}

-- ---- what n steps leave

pub passed_none : (n : ℕ) (w : World) → Passed n w w
passed_none n w =
    record {
      mode = refl;
      window = refl;
      run = refl;
      memory = refl;
      took = 0;
      there = omega arith;
      input = refl;
      made = [];
      output = sym (append-nil w.output);
      room = omega arith;
      logged = [];
      records = sym (append-nil w.records);
      left = add-zero w.left;
      moved = omega arith;
    }

pub passed_on : {a b : ℕ} {w v u : World} → Passed a w v → Passed b v u → Passed (a + b) w u
passed_on {w = w} {v = v} {u = u} p q =
    let l : length v.input ≡ length w.input - p.took = ap length p.input ∙ length-drop p.took w.input in
    record {
      mode = q.mode ∙ p.mode;
      window = q.window ∙ p.window;
      run = q.run ∙ p.run;
      memory = q.memory ∙ p.memory;
      took = p.took + q.took;
      there = omega (arith, p.there, q.there);
      input = q.input ∙ ap (drop q.took) p.input ∙ drop-drop q.took p.took w.input;
      made = p.made ++ q.made;
      output = q.output ∙ ap (λ (l : List ℕ). l ++ q.made) p.output ∙ append_assoc w.output p.made q.made;
      room = simp length-append (omega (arith, p.room, q.room));
      logged = p.logged ++ q.logged;
      records = q.records ∙ ap (λ (l : List Entry). l ++ q.logged) p.records ∙ append_assoc w.records p.logged q.logged;
      left = simp length-append (omega (arith, p.left, q.left));
      moved = simp length-append (omega (arith, p.moved, q.moved));
    }

-- the beats told are the beats taken
pub took-since : {n : ℕ} {w v : World} → (p : Passed n w v) → taken_since w v ≡ p.took
took-since {w = w} {v = v} p =
    let l : length v.input ≡ length w.input - p.took = ap length p.input ∙ length-drop p.took w.input in
    omega (arith, p.there)

-- ---- Fetch

-- a Fetch changes the core and what is read ahead alone, and leaves no byte moved
pub fetch-turns : (w : World) (P : Answer → Type 0)
    → ((m : Core) → m.mode ≡ w.core.mode → m.window ≡ w.core.window → (in_hand m.phase).moved ≡ 0 → (s : Slot) → P (taken (holding (became w m) s)))
    → P (fetch_step w)
unfolding fetch_step fetched
fetch-turns w P turns =
    let m = w.core in
    either (not (run m.control)) (turns _ refl refl refl w.slot) (met (seen w))
  where
    either : (b : Bool) {x y : Answer} → P x → P y → P (cond b x y)
    either true p q = p
    either false p q = q

    met : (l : Look) → P (meets w l)
    met (Err miss.Misaligned) = turns _ refl refl refl w.slot
    met (Err miss.Outside) = turns _ refl refl refl w.slot
    met (Ok r) =
        either (not (owned (named_in r).control.0)) (turns _ refl refl refl w.slot)
        (either (wants_length w.core.mode && eqb (named_in r).length 0) (turns _ refl refl refl w.slot) (turns _ refl refl refl _))

-- ---- the bytes that a step names

-- an answer with which a step spares the places `free`: it is taken and leaves them, or stops for a reason of its own
pub data Lawful (w : World) (free : ℕ → Type 0) : Answer → Type 0 where
  goes : {v : World} → Passed 1 w v → ((q : ℕ) → free q → get_or v.memory q 0 ≡ get_or w.memory q 0) → Lawful w free (taken v)
  stays : {r : Reason} → r ≢ reason.Budget → Lawful w free (stopped r)

stops : {w : World} {free : ℕ → Type 0} (r : Reason) → reason_number r ≢ 6 → Lawful w free (stopped r)
stops r h = stays (λ e. h (ap reason_number e))

choice : {w : World} {free : ℕ → Type 0} (b : Bool) {x y : Answer} → Lawful w free x → Lawful w free y → Lawful w free (cond b x y)
choice true p q = p
choice false p q = q

-- what is read ahead is none of it
held : {w v : World} {free : ℕ → Type 0} (s : Slot) → Lawful w free (taken v) → Lawful w free (taken (holding v s))
held s (goes p h) =
    goes
    (record {
      mode = p.mode;
      window = p.window;
      run = p.run;
      memory = p.memory;
      took = p.took;
      there = p.there;
      input = p.input;
      made = p.made;
      output = p.output;
      room = p.room;
      logged = p.logged;
      records = p.records;
      left = p.left;
      moved = p.moved;
    })
    h

settles : {w : World} {free : ℕ → Type 0} {a : Answer} → Lawful w free a → Lawful w free (settle a)
settles (goes {v = v} p h) = held (settled v.core.phase v.slot) (goes p h)
settles (stays h) = stays h

module _ (w : World) where
  -- no beat is moved: machine and memory change
  still : {free : ℕ → Type 0} (m : Core) (mem : List ℕ) → m.mode ≡ w.core.mode → m.window ≡ w.core.window
      → length mem ≡ length w.memory → ((q : ℕ) → free q → get_or mem q 0 ≡ get_or w.memory q 0)
      → Lawful w free (taken (stored w m mem))
  still m mem e f l h =
      let p : Passed 1 w (stored w m mem) =
      record {
        mode = e;
        window = f;
        run = refl;
        memory = l;
        took = 0;
        there = omega arith;
        input = refl;
        made = [];
        output = sym (append-nil w.output);
        room = omega arith;
        logged = [];
        records = sym (append-nil w.records);
        left = add-zero w.left;
        moved = omega arith;
      } in
      goes p h

  -- the machine alone changes
  turned : {free : ℕ → Type 0} (m : Core) → m.mode ≡ w.core.mode → m.window ≡ w.core.window → Lawful w free (taken (became w m))
  turned m e f = still m w.memory e f refl (λ q h. refl)

  sound-rest : Lawful w (λ q. Unit {0}) (rest_step w)
  unfolding rest_step
  sound-rest = choice (run w.core.control) (turned _ refl refl) (stops reason.Rest (omega arith))

  sound-fetch : Lawful w (λ q. Unit {0}) (fetch_step w)
  sound-fetch = fetch-turns w (Lawful w (λ q. Unit {0})) (λ m e f h s. held s (turned m e f))

  module _ (k : Work) where
    abbrev at : ℕ
    at = place_of w.core.window (destination_of k)

    sound-copy : Lawful w (λ q. q ≢ at) (copy_step w k)
    unfolding copy_step onward
    sound-copy =
        choice (in_window w.core.window (source_of k) 1)
        (choice (in_window w.core.window (destination_of k) 1)
        (still _ _ refl refl (length-set w.memory _ _) (λ q h. get_or-set_other w.memory at q _ 0 h))
        (turned _ refl refl))
        (turned _ refl refl)

    sound-send : (room : ℕ) → w.room ≡ room → Lawful w (λ q. Unit {0}) (send_to w k room)
    unfolding onward
    sound-send zero r = stops reason.OutputFull (omega arith)
    sound-send (suc left) r =
        goes
        (record {
          mode = refl;
          window = refl;
          run = refl;
          memory = refl;
          took = 0;
          there = omega arith;
          input = refl;
          made = beat_for k (get_or w.memory (place_of w.core.window (source_of k)) 0) ∷ [];
          output = refl;
          room = add-one left ∙ sym r;
          logged = [];
          records = sym (append-nil w.records);
          left = add-zero w.left;
          moved = omega arith;
        })
        (λ q h. refl)

    sound-receive : (input : List ℕ) → w.input ≡ input → Lawful w (λ q. q ≢ at) (receive_from w k input)
    unfolding onward
    sound-receive [] i = stops reason.NeedsInput (omega arith)
    sound-receive (b ∷ bs) i =
        choice (in_window w.core.window (destination_of k) 1)
        (goes
        (record {
          mode = refl;
          window = refl;
          run = refl;
          memory = length-set w.memory _ _;
          took = 1;
          there = rw i (omega arith);
          input = rw i;
          made = [];
          output = sym (append-nil w.output);
          room = omega arith;
          logged = [];
          records = sym (append-nil w.records);
          left = add-zero w.left;
          moved = omega arith;
        })
        (λ q h. get_or-set_other w.memory at q _ 0 h))
        (turned _ refl refl)

    sound_back : (left : ℕ) → w.left ≡ left
        → Lawful w (λ q. (j : ℕ) → j < 4 → q ≢ place_of w.core.window k.at + 28 + j) (back_to w k left)
    unfolding written_back completed
    sound_back zero e = stops reason.LedgerFull (omega arith)
    sound_back (suc left) e =
        goes
        (record {
          mode = refl;
          window = refl;
          run = refl;
          memory = length-put-at w.memory _ _;
          took = 0;
          there = omega arith;
          input = refl;
          made = [];
          output = sym (append-nil w.output);
          room = add-zero w.room;
          logged = entry_for w.run k ∷ [];
          records = refl;
          left = add-one left ∙ sym e;
          moved = omega arith;
        })
        (λ q h. put-off w.memory _ _ q h)

  -- a step spares every byte of memory but those that it names
  pub step-sound : Lawful w (spares_in w.core.phase w) (step w)
  unfolding step send_step write_back_step
  step-sound = settles (by w.core.phase)
    where
      by_mode : (k : Work) (m : Mode) → Lawful w (spares_move m w k) (move_step m w k)
      by_mode k MemoryToMemory = sound-copy k
      by_mode k MemoryToStream = choice (in_window w.core.window (source_of k) 1) (sound-send k w.room refl) (turned _ refl refl)
      by_mode k StreamToMemory = sound-receive k w.input refl

      by : (p : Phase) → Lawful w (spares_in p w) (step_in p w)
      by Rest = sound-rest
      by Fetch = sound-fetch
      by (Move k) = by_mode k w.core.mode
      by (WriteBack k) = sound_back k w.left refl
      by Ended = stops reason.Ended (omega arith)
      by Halted = stops reason.Halted (omega arith)
      by (Faulted f) = stops reason.Faulted (omega arith)

  module _ (v : World) (e : step w ≡ taken v) where
    taken_is : {a : Answer} → Lawful w (spares_in w.core.phase w) a → a ≡ taken v
        → Passed 1 w v × ((q : ℕ) → spares_in w.core.phase w q → get_or v.memory q 0 ≡ get_or w.memory q 0)
    taken_is (goes {v = u} p h) f =
        let u-is : u ≡ v = cc in
        subst (λ (x : World). Passed 1 w x × ((q : ℕ) → spares_in w.core.phase w q → get_or x.memory q 0 ≡ get_or w.memory q 0)) u-is (p, h)
    taken_is (stays h) f = absurd (let z : ◌≡◌ {A = ℕ} 0 1 = cc in omega arith)

  -- a step never stops for the budget
  pub never-budget : step w ≢ stopped reason.Budget
  never-budget e = by step-sound e
    where
      by : {a : Answer} → Lawful w (spares_in w.core.phase w) a → a ≢ stopped reason.Budget
      by (goes p h) f = let z : ◌≡◌ {A = ℕ} 0 1 = cc in omega arith
      by (stays {r = r} h) f = h (let g : r ≡ reason.Budget = cc in g)

-- ---- a step that is taken

pub step-passed : StepPassed
step-passed w v e = (taken_is w v e (step-sound w) e).0

-- a step leaves every byte of memory but those that it names
pub step-spares : StepSpares
step-spares w v e = (taken_is w v e (step-sound w) e).1
