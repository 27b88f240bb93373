-- The paper's "Steps": the rule of one step, by phase, in the paper's order and words. The paper's sections are read in this order:
--   "Window and stream", "Descriptor"   in the crates bus, flow and descriptor, whose words are used here
--   "Steps"                             here: the world of a step (`World`); Rest, Fetch, Move, WriteBack; and `step`, by the phase
--   its run                             Run.antt, with what a step and a run promise
--   "Registers"                         Registers.antt
--   "Saved image"                       Saved.antt
-- The machine and its parts are named in State.antt.
-- Assumes nothing.
use Rattle.std.specs.Prelude.{ℕ, zero, suc, ◌+◌, ◌%◌, ◌^◌, Bool, true, false, not, cond, ◌&&◌, ◌||◌, List, [], ◌∷◌, ◌++◌, eqb, get_or, set, if◌then◌else◌, Ok, Err, Some, None}
use Rattle.std.specs.Int.Bits.{bit_or}
use Rattle.words.specs.Slices.{put_at}
use Rattle.bus.specs.Window.{in_window, place_of}
use Rattle.descriptor.specs.declared.Descriptor.{Descriptor}
use Rattle.descriptor.specs.declared.Miss.TheVariants as miss
use Rattle.descriptor.specs.Layout.{generate_eop, read_fixed, write_fixed, owned, last_four}
use Rattle.descriptor.specs.Looking.{named_in, look_at, Look}
use Rattle.regs.specs.declared.Mode.{Mode}
use Rattle.regs.specs.declared.Mode.TheVariants.{MemoryToMemory, MemoryToStream, StreamToMemory}
use Rattle.regs.specs.declared.Count.{Count}
use Rattle.regs.specs.Modes.{mode_number}
use Rattle.regs.specs.Status.{chain_ended, status_back}
use Rattle.regs.specs.Control.{ie_chain, run, stop_dma_er, max_desc_processed, park, counted, pends}
use Rattle.image.specs.Rules.{asked}
use Rattle.ledger.specs.declared.Entry.{Entry}
use Rattle.flow.specs.Beats.{beat_error, beat_eop, beat_data, output_beat}
use Rattle.flow.specs.Rows.{landing}
use Rattle.machine.specs.declared.Core.{Core}
use Rattle.machine.specs.declared.Machine.{Machine}
use Rattle.machine.specs.declared.Work.{Work}
use Rattle.machine.specs.declared.Phase.{Phase}
use Rattle.machine.specs.declared.Phase.TheVariants.{Rest, Fetch, Move, WriteBack, Ended, Halted, Faulted}
use Rattle.machine.specs.declared.Reason.{Reason}
use Rattle.machine.specs.declared.Reason.TheVariants as reason
use Rattle.machine.specs.State.{misaligned, descriptor_outside, no_length, source_outside, destination_outside, home, remade, with_status, with_pointer, with_phase, with_busy, pend, rested, settled, Slot}

-- the world of a step: the machine, which is its core, what it has read ahead and the run number; the window's bytes; the beats not yet taken; the beats made, and the room for more;
-- the records made, and the room for more
pub record World : Type 0 where
  pub core : Core
  pub slot : Slot
  pub run : ℕ
  pub memory : List ℕ
  pub input : List ℕ
  pub output : List ℕ
  pub room : ℕ
  pub records : List Entry
  pub left : ℕ

-- the bytes of the window that descriptors live in
abbrev pub home_bytes : World → List ℕ
home_bytes w = w.memory

-- a step is taken, or it cannot be, and why
pub data Answer : Type 0 where
  taken : World → Answer
  stopped : Reason → Answer

-- ---- the world with some parts changed

-- these parts. No other update of a world names its parts
abbrev pub laid : World → Core → (memory input output : List ℕ) (room : ℕ) → World
laid w m memory input output room =
    record {
      core = m;
      slot = w.slot;
      run = w.run;
      memory = memory;
      input = input;
      output = output;
      room = room;
      records = w.records;
      left = w.left;
    }

-- the core alone changes
abbrev pub became : World → Core → World
became w m = laid w m w.memory w.input w.output w.room

-- and bytes of the window
abbrev pub stored : World → Core → (memory : List ℕ) → World
stored w m memory = laid w m memory w.input w.output w.room

-- and a beat is taken
abbrev pub received : World → Core → (memory input : List ℕ) → World
received w m memory input = laid w m memory input w.output w.room

-- a beat is made
abbrev pub sent : World → Core → (output : List ℕ) (room : ℕ) → World
sent w m output room = laid w m w.memory w.input output room

-- the ledger alone
abbrev pub noted : World → (records : List Entry) (left : ℕ) → World
noted w records left =
    record {
      core = w.core;
      slot = w.slot;
      run = w.run;
      memory = w.memory;
      input = w.input;
      output = w.output;
      room = w.room;
      records = records;
      left = left;
    }

-- what was read ahead alone
abbrev pub holding : World → Slot → World
holding w slot =
    record {
      core = w.core;
      slot = slot;
      run = w.run;
      memory = w.memory;
      input = w.input;
      output = w.output;
      room = w.room;
      records = w.records;
      left = w.left;
    }

-- the world before the first step: nothing is made yet
abbrev pub opened : Machine → (memory input : List ℕ) (room left : ℕ) → World
opened m memory input room left =
    record {
      core = m.core;
      slot = settled m.core.phase m.slot;
      run = m.run;
      memory = memory;
      input = input;
      output = [];
      room = room;
      records = [];
      left = left;
    }

-- the machine in it
abbrev pub machine_in : World → Machine
machine_in w = record { core = w.core; slot = w.slot; run = w.run }

-- a fault counts as a step: it sets BUSY 0, keeps code and address, drops the descriptor in hand, and writes nothing
abbrev pub faulted : World → (code address : ℕ) → Answer
faulted w code address =
    taken (became w (with_phase (Faulted (record { code = code; address = address })) (with_busy false w.core)))

-- ---- Rest. RUN 0: no step. RUN 1: BUSY 1, go to Fetch.

unfoldable pub rest_step : World → Answer
rest_step w =
    cond (run w.core.control) (taken (became w (with_phase Fetch (with_busy true w.core)))) (stopped reason.Rest)

-- ---- Fetch

-- OWNED 0: set CHAIN_COMPLETED, pend if IE_CHAIN, go to Ended (BUSY stays 1, pointer stays)
abbrev pub ended : Core → Core
ended m =
    with_phase Ended
    (pend (ie_chain m.control)
    (with_status (chain_ended m.status) m))

-- modes 0 and 1 take no length of 0
abbrev pub wants_length : Mode → Bool
wants_length MemoryToMemory = true
wants_length MemoryToStream = true
wants_length StreamToMemory = false

-- the fields kept
abbrev pub begun : ℕ → Descriptor → Work
begun a d =
    record {
      at = a;
      source = d.source;
      destination = d.destination;
      length = d.length;
      control = d.control;
      errors = 0;
      moved = 0;
      eop = false;
    }

-- OWNED 0; length 0 in mode 0 or 1, fault 12; otherwise keep the fields, set the pointer to next_desc_ptr, go to Move: "on the step that
-- fetches an owned descriptor, also read the next one into a slot", as it stands in memory now
unfoldable pub fetched : World → Descriptor → Answer
fetched w d =
    let m = w.core in
    let a = w.core.pointer.0 in
    if not (owned d.control.0) then taken (became w (ended m))
    else if wants_length m.mode && eqb d.length 0 then faulted w no_length a
    else taken (holding (became w (with_phase (Move (begun a d)) (with_pointer d.next m))) (Some (look_at (home m) (home_bytes w) d.next)))

-- what the look finds: misaligned, fault 10; not wholly in the window, fault 11; a descriptor
abbrev pub meets : World → Look → Answer
meets w (Err miss.Misaligned) = faulted w misaligned w.core.pointer.0
meets w (Err miss.Outside) = faulted w descriptor_outside w.core.pointer.0
meets w (Ok r) = fetched w (named_in r)

-- the look that a Fetch goes by: "the next Fetch uses the slot instead of memory"; where it is empty, 32 bytes at the pointer
abbrev pub seen_in : World → Slot → Look
seen_in w None = look_at (home w.core) (home_bytes w) w.core.pointer.0
seen_in w (Some look) = look

unfoldable pub seen : World → Look
seen w = seen_in w w.slot

-- RUN 0: Rest, BUSY 0. Otherwise what is seen
unfoldable pub fetch_step : World → Answer
fetch_step w =
    let m = w.core in
    if not (run m.control) then taken (became w (rested m))
    else meets w (seen w)

-- ---- Move

-- L is bytes_to_transfer; in mode 2 a 0 means 65,535
abbrev pub whole : Core → Work → ℕ
whole m k = asked (mode_number m.mode) k.length

-- byte i is at start + i, without i under the FIXED bit: `landing`
unfoldable pub source_of : Work → ℕ
source_of k = landing (read_fixed k.control.0) k.source k.moved

unfoldable pub destination_of : Work → ℕ
destination_of k = landing (write_fixed k.control.0) k.destination k.moved

-- one byte more, its errors gathered by OR; and whether its beat had EOP
abbrev pub with_byte : (errors : ℕ) (eop : Bool) → Work → Work
with_byte errors eop k =
    record {
      at = k.at;
      source = k.source;
      destination = k.destination;
      length = k.length;
      control = k.control;
      errors = bit_or k.errors errors;
      moved = k.moved + 1;
      eop = eop;
    }

-- when L bytes are moved or a taken beat had EOP, go to WriteBack
unfoldable pub onward : Core → Work → Core
onward m k = with_phase (cond (k.eop || eqb k.moved (whole m k)) (WriteBack k) (Move k)) m

-- mode 0: source outside, 13; destination outside, 14
unfoldable pub copy_step : World → Work → Answer
copy_step w k =
    let m = w.core in
    cond (in_window m.window (source_of k) 1)
    (cond (in_window m.window (destination_of k) 1)
    (taken (stored w (onward m (with_byte 0 false k))
    (set w.memory (place_of m.window (destination_of k)) (get_or w.memory (place_of m.window (source_of k)) 0))))
    (faulted w destination_outside (destination_of k % 2 ^ 32)))
    (faulted w source_outside (source_of k % 2 ^ 32))

-- SOP on byte 0 if WRITE_FIXED, EOP on byte L-1 if GENERATE_EOP
unfoldable pub beat_for : Work → ℕ → ℕ
beat_for k byte =
    output_beat (write_fixed k.control.0 && eqb k.moved 0) (generate_eop k.control.0 && eqb (k.moved + 1) k.length) byte

-- no room, no step
abbrev pub send_to : World → Work → (room : ℕ) → Answer
send_to w k zero = stopped reason.OutputFull
send_to w k (suc left) =
    let m = w.core in
    taken (sent w (onward m (with_byte 0 false k)) (w.output ++ beat_for k (get_or w.memory (place_of m.window (source_of k)) 0) ∷ []) left)

-- mode 1: 13, then no room, no step
unfoldable pub send_step : World → Work → Answer
send_step w k = cond (in_window w.core.window (source_of k) 1) (send_to w k w.room) (faulted w source_outside (source_of k % 2 ^ 32))

-- mode 2: no beat, no step; then 14, beat not taken; otherwise the byte is moved and counted, with an error or without
abbrev pub receive_from : World → Work → (input : List ℕ) → Answer
receive_from w k [] = stopped reason.NeedsInput
receive_from w k (b ∷ bs) =
    let m = w.core in
    cond (in_window m.window (destination_of k) 1)
    (taken (received w (onward m (with_byte (beat_error b) (beat_eop b) k)) (set w.memory (place_of m.window (destination_of k)) (beat_data b)) bs))
    (faulted w destination_outside (destination_of k % 2 ^ 32))

abbrev pub move_step : Mode → World → Work → Answer
move_step MemoryToMemory w k = copy_step w k
move_step MemoryToStream w k = send_step w k
move_step StreamToMemory w k = receive_from w k w.input

-- ---- WriteBack

-- control as fetched with bit 7 cleared unless PARK
unfoldable pub written_control : Core → Work → ℕ
written_control m k = cond (park m.control) k.control.0 (k.control.0 % 128)

-- write the last four descriptor bytes only: actual, errors, control. The 32 bytes are in the window: the address rule of the image
-- says so of every machine that is served, so nothing is written past its end
unfoldable pub written_back : World → Work → List ℕ
written_back w k =
    put_at (home_bytes w) (place_of (home w.core) k.at + 28) (last_four k.moved k.errors (written_control w.core k))

-- RUN 0: Rest, BUSY 0; errors with STOP_DMA_ER: Halted, BUSY 0; else Fetch
abbrev pub after_back : (run halts : Bool) → Phase
after_back run halts = cond run (cond halts Halted Fetch) Rest

-- the registers after a descriptor
unfoldable pub completed : Core → Work → Core
completed m k =
    let c = m.control in
    let failed : Bool = not (eqb k.errors 0) in
    let halts : Bool = failed && stop_dma_er c in
    let n : Count = counted m.count (max_desc_processed c) in
    remade (status_back m.status k.eop failed (run c && not halts)) c m.pointer (after_back (run c) halts)
    (m.pending || pends c k.eop failed n.full) n.count m

-- what the ledger keeps of it, dated with the run
abbrev pub entry_for : (run : ℕ) → Work → Entry
entry_for run k = record { run = run; at = k.at; actual = k.moved; status = k.errors; eop = k.eop }

-- no room for the record, no step
abbrev pub back_to : World → Work → (left : ℕ) → Answer
back_to w k zero = stopped reason.LedgerFull
back_to w k (suc left) =
    taken (noted (stored w (completed w.core k) (written_back w k)) (w.records ++ entry_for w.run k ∷ []) left)

unfoldable pub write_back_step : World → Work → Answer
write_back_step w k = back_to w k w.left

-- ---- the step

-- Ended, Halted, Faulted: no step
abbrev pub step_in : Phase → World → Answer
step_in Rest w = rest_step w
step_in Fetch w = fetch_step w
step_in (Move k) w = move_step w.core.mode w k
step_in (WriteBack k) w = write_back_step w k
step_in Ended w = stopped reason.Ended
step_in Halted w = stopped reason.Halted
step_in (Faulted f) w = stopped reason.Faulted

-- the slot as the phase that is entered leaves it
abbrev pub settle : Answer → Answer
settle (taken v) = taken (holding v (settled v.core.phase v.slot))
settle (stopped r) = stopped r

unfoldable pub step : World → Answer
step w = settle (step_in w.core.phase w)
