-- The records of a run are those of its write-backs.
-- Assumes nothing.
use Prim.Native.Nat.{ℕ, zero, suc, ◌+◌, ◌*◌}
use mathlib.Core.Path.{◌≡◌, refl, sym, ap, subst, ◌∙◌}
use mathlib.Core.Bool.{Bool, true, false, cond}
use mathlib.Core.List.{List, [], ◌∷◌, ◌++◌, append_assoc, append-nil}
use native.Mathlib.Omega.{arith}
use lib.ListN.{length}
use Rattle.words.specs.Slices.{put}
use Rattle.bus.specs.Window.{in_window}
use Rattle.regs.specs.declared.Mode.{Mode}
use Rattle.regs.specs.declared.Mode.TheVariants.{MemoryToMemory, MemoryToStream, StreamToMemory}
use Rattle.regs.specs.Control.{run}
use Rattle.ledger.specs.declared.Entry.{Entry}
use Rattle.ledger.specs.Records.{ledger_bytes}
use Rattle.machine.specs.declared.Work.{Work}
use Rattle.machine.specs.declared.Ran.{Ran}
use Rattle.machine.specs.declared.Reason.{Reason}
use Rattle.machine.specs.declared.Phase.{Phase}
use Rattle.machine.specs.declared.Phase.TheVariants.{Rest, Fetch, Move, WriteBack, Ended, Halted, Faulted}
use Rattle.machine.specs.Step.{World, Answer, taken, stopped, settle, entry_for, rest_step, source_of, destination_of, copy_step, send_to, send_step, receive_from, move_step, written_back, back_to, write_back_step, step_in, step}
use Rattle.machine.specs.Run as runs
use Rattle.machine.specs.Run.{Returned, Served, served_of, world_of, returned}
use Rattle.machine.proofs.StepLaws.{fetch-turns, step-passed}
use Rattle.machine.proofs.Outcomes.{ran-serves}
use Rattle.sums.specs.Records.{Recorded, Records, none, one, other}
use Rattle.sums.specs.Theorems.{OneRecordEach}

-- ---- a step

-- an answer that makes these records
data Makes (w : World) (es : List Entry) : Answer → Type 0 where
  goes : {v : World} → v.records ≡ w.records ++ es → Makes w es (taken v)
  stays : {r : Reason} → Makes w es (stopped r)

choice : {w : World} {es : List Entry} (b : Bool) {x y : Answer} → Makes w es x → Makes w es y → Makes w es (cond b x y)
choice true p q = p
choice false p q = q

settles : {w : World} {es : List Entry} {a : Answer} → Makes w es a → Makes w es (settle a)
settles (goes e) = goes e
settles stays = stays

-- what an answer holds
abbrev memory_in : Answer → List ℕ
memory_in (taken v) = v.memory
memory_in (stopped r) = []

abbrev records_in : Answer → List Entry
records_in (taken v) = v.records
records_in (stopped r) = []

abbrev is_back : Phase → ℕ
is_back Rest = 0
is_back Fetch = 0
is_back (Move k) = 0
is_back (WriteBack k) = 1
is_back Ended = 0
is_back Halted = 0
is_back (Faulted f) = 0

-- none but in WriteBack
abbrev made_in : (number : ℕ) → Phase → List Entry
made_in number Rest = []
made_in number Fetch = []
made_in number (Move k) = []
made_in number (WriteBack k) = entry_for number k ∷ []
made_in number Ended = []
made_in number Halted = []
made_in number (Faulted f) = []

module _ (w : World) where
  quiet : {v : World} → v.records ≡ w.records → Makes w [] (taken v)
  quiet e = goes (e ∙ sym (append-nil w.records))

  rest-makes : Makes w [] (rest_step w)
  unfolding rest_step
  rest-makes = choice (run w.core.control) (quiet refl) stays

  send-makes : (k : Work) (room : ℕ) → Makes w [] (send_to w k room)
  send-makes k zero = stays
  send-makes k (suc room) = quiet refl

  receive-makes : (k : Work) (input : List ℕ) → Makes w [] (receive_from w k input)
  receive-makes k [] = stays
  receive-makes k (b ∷ bs) = choice (in_window w.core.window (destination_of k) 1) (quiet refl) (quiet refl)

  move-makes : (k : Work) (mode : Mode) → Makes w [] (move_step mode w k)
  unfolding copy_step send_step
  move-makes k MemoryToMemory =
      choice (in_window w.core.window (source_of k) 1)
      (choice (in_window w.core.window (destination_of k) 1) (quiet refl) (quiet refl))
      (quiet refl)
  move-makes k MemoryToStream = choice (in_window w.core.window (source_of k) 1) (send-makes k w.room) (quiet refl)
  move-makes k StreamToMemory = receive-makes k w.input

  back-makes : (k : Work) (left : ℕ) → Makes w (entry_for w.run k ∷ []) (back_to w k left)
  back-makes k zero = stays
  back-makes k (suc left) = goes refl

  step-makes : Makes w (made_in w.run w.core.phase) (step w)
  unfolding step write_back_step
  step-makes = settles (by w.core.phase)
    where
      by : (p : Phase) → Makes w (made_in w.run p) (step_in p w)
      by Rest = rest-makes
      by Fetch = fetch-turns w (Makes w []) (λ m e f h s. quiet refl)
      by (Move k) = move-makes k w.core.mode
      by (WriteBack k) = back-makes k w.left
      by Ended = stays
      by Halted = stays
      by (Faulted f) = stays

  -- the bytes that a write-back leaves
  back-writes : (k : Work) (left : ℕ) (v : World) → settle (back_to w k left) ≡ taken v → v.memory ≡ written_back w k
  back-writes k zero v e = absurd (let z : ◌≡◌ {A = ℕ} 0 1 = cc in omega arith)
  back-writes k (suc left) v e = ap memory_in (sym e)

  recorded : (k : Work) (v : World) → w.core.phase ≡ WriteBack k → step w ≡ taken v → Recorded w.run w v (entry_for w.run k)
  unfolding step write_back_step written_back
  recorded k v e s =
      record {
        work = k;
        phase = e;
        run = refl;
        at = refl;
        bytes = back-writes k w.left v (sym (ap (λ (p : Phase). settle (step_in p w)) e) ∙ s);
        eop = refl;
      }

  module _ {v u : World} {n : ℕ} {es : List Entry} (s : step w ≡ taken v) (rest : Records v.run n v u es) where
    onward : Records w.run n v u es
    onward = subst (λ (number : ℕ). Records number n v u es) (step-passed w v s).run rest

    elsewhere : (p : Phase) → w.core.phase ≡ p → is_back p ≡ 0 → Records w.run (suc n) w u es
    elsewhere p e h = other s (λ k f. let back : is_back p ≡ 1 = ap is_back (sym e ∙ f) in omega arith) onward

    more : (p : Phase) → w.core.phase ≡ p → Records w.run (suc n) w u (made_in w.run p ++ es)
    more Rest e = elsewhere Rest e refl
    more Fetch e = elsewhere Fetch e refl
    more (Move k) e = elsewhere (Move k) e refl
    more (WriteBack k) e = one s (recorded k v e s) onward
    more Ended e = elsewhere Ended e refl
    more Halted e = elsewhere Halted e refl
    more (Faulted f) e = elsewhere (Faulted f) e refl

-- ---- a run

makes-taken : {w v : World} {es : List Entry} {a : Answer} → Makes w es a → a ≡ taken v → v.records ≡ w.records ++ es
makes-taken (goes h) e = ap records_in (sym e) ∙ h
makes-taken stays e = absurd (let z : ◌≡◌ {A = ℕ} 0 1 = cc in omega arith)

record Made (w : World) (r : runs.Report) : Type 0 where
  made : List Entry
  records : Records w.run r.steps w r.world made
  after : r.world.records ≡ w.records ++ made

run_on_lem : (n : ℕ) (w : World) (a : Answer) → step w ≡ a → Made w (runs.run_on n w a)
run_on_lem zero w (stopped r) e = record { made = []; records = none; after = sym (append-nil w.records) }
run_on_lem zero w (taken v) e = record { made = []; records = none; after = sym (append-nil w.records) }
run_on_lem (suc n) w (stopped r) e = record { made = []; records = none; after = sym (append-nil w.records) }
run_on_lem (suc n) w (taken v) e =
    let rest = run_on_lem n v (step v) refl in
    let new = made_in w.run w.core.phase in
    record {
      made = new ++ rest.made;
      records = more w e rest.records w.core.phase refl;
      after = rest.after ∙ ap (λ (rs : List Entry). rs ++ rest.made) (makes-taken (step-makes w) e) ∙ append_assoc w.records new rest.made;
    }

run-made : (n : ℕ) (w : World) → Made w (runs.run n w)
unfolding runs.run
run-made n w = run_on_lem n w (step w) refl

-- A write-back and a record are one.
pub one-record-each : OneRecordEach
one-record-each m l budget r b d =
    let w = world_of m l in
    let x = run-made budget w in
    let both = ran-serves l (served_of m l) w budget r d.answer in
    record {
      made = x.made;
      records = subst (λ (n : ℕ). Records m.run n w (runs.run budget w).world x.made) (sym (ap (λ (a : Ran). a.steps) both.1)) x.records;
      ledger = ap (λ (a : Returned). a.ledger) (d.back ∙ ap (λ (s : Served). returned l s (runs.run budget w).world) both.0)
          ∙ ap (λ (rs : List Entry). put l.ledger (12 * l.used) (ledger_bytes rs)) x.after;
      used = ap (λ (a : Ran). a.used) both.1 ∙ ap (λ (rs : List Entry). l.used + length rs) x.after;
    }
