-- Known run 1, the chain of copies and the chain of packets through the C calls, in numbers. What is lent for them, and for the chain of three,
-- is well lent.
-- Assumes nothing.
use Prim.Native.Nat.{ℕ, zero, suc, ◌+◌, ◌*◌, ◌/◌, ◌%◌, ◌^◌, ◌≤◌, ◌<◌}
use mathlib.Core.Path.{◌≡◌, refl, ◌∙◌}
use mathlib.Core.Bool.{true}
use mathlib.Core.List.{List, [], ◌∷◌}
use native.Mathlib.Nat.{mod-lt}
use native.Mathlib.Omega.{arith}
use lib.ListN.{length, replicate, length-replicate}
use borrow.Author.Tests.{eq-eqb, le-leb}
use Rattle.words.specs.Slices.{put_at, AllBytes}
use Rattle.bus.specs.Window.{keeps_limits, in_window, located_of}
use Rattle.descriptor.specs.Layout.{bytes_for, descriptor_at}
use Rattle.descriptor.specs.Looking.{spot_of, named_in, raw_at, look_at}
use Rattle.regs.specs.declared.Mode.{Mode}
use Rattle.regs.specs.declared.Mode.TheVariants.{MemoryToMemory, MemoryToStream, StreamToMemory}
use Rattle.regs.specs.Control.{counted}
use Rattle.image.specs.Slot.{slot_number}
use Rattle.image.specs.Layout.{image}
use Rattle.image.proofs.RoundTrip.{image-bytes}
use Rattle.flow.specs.Beats.{beat_bytes}
use Rattle.flow.proofs.Streams.{length-beat-bytes}
use Rattle.machine.specs.Saved.{fields_of, tail_of}
use Rattle.machine.specs.Registers.{control_written}
use Rattle.machine.specs.Step.{rest_step, fetched, fetch_step, source_of, destination_of, onward, copy_step, beat_for, send_step, written_control, written_back, completed, write_back_step, World, step, machine_in, seen}
use Rattle.ledger.specs.Records.{capacity, is_ledger}
use Rattle.machine.specs.Run.{back, run, even}
use Rattle.chain.specs.Chain.{Given, machine_for, world_in, cost, given, records_of, Premises}
use Rattle.chain.specs.Modes.{shares_in, made_by_all, PremisesIn}
use Rattle.chain.specs.Calls.{in_front, behind}
use Rattle.chain.specs.Known.{known, three, copier, sender}
use Rattle.chain.proofs.Demand.{premises}
use Rattle.chain.proofs.Instances.{known-run-1}
use Rattle.chain.proofs.InModes.{chain-of-copies, chain-of-packets}
use Rattle.answers.specs.Answers.{report_bytes}
use Rattle.sgdma.specs.Calls.{image_of}
use Rattle.chain_calls.specs.InC.{RunLeft, Lends, WellLent, given_in, CalledIn, AllDone}
use Rattle.chain_calls.specs.Known.{lends, lent_to, known_left, copier_left, sender_left}
use Rattle.chain_calls.specs.Useless.{InBytes}
use Rattle.chain_calls.specs.Theorems.{KnownRun1InC, CopiesInC, PacketsInC}
use Rattle.chain_calls.proofs.OfCalls.{are-all-bytes, run_is}
use Rattle.chain_calls.proofs.InEachMode.{run-memory, run-image, none-refused-in-each-mode, of-calls-in-each-mode}

-- zeros and the bytes of beats are bytes, and whole beats
zero-bytes : (n : ℕ) → AllBytes (replicate n 0)
zero-bytes zero = tt
zero-bytes (suc n) = (omega arith, zero-bytes n)

are-beat_bytes : (bs : List ℕ) → AllBytes (beat_bytes bs)
are-beat_bytes [] = tt
are-beat_bytes (b ∷ bs) = (mod-lt _ (omega arith), (mod-lt _ (omega arith), are-beat_bytes bs))

whole : (xs : List ℕ) (n : ℕ) → length xs ≡ 2 * n → even xs ≡ true
whole xs n l = eq-eqb (length xs % 2) 0 (omega arith)

whole-records : (xs : List ℕ) (n used : ℕ) → length xs ≡ 12 * n → used ≤ n → is_ledger (length xs) used ≡ true
whole-records xs n used l h = rw (eq-eqb (length xs % 12) 0 (omega arith), le-leb used (length xs / 12) (omega arith))

-- within the limits and with registers of 32 bits all is well lent
well-lent : (g : Given) → keeps_limits g.window.base g.window.length ≡ true → g.pointer < 2 ^ 32 → g.control < 2 ^ 32
    → WellLent (lends g)
well-lent g limits pointer control =
    record {
      image_size = refl;
      report_size = refl;
      even_beats = whole (beat_bytes g.beats) (length g.beats) (length-beat-bytes g.beats);
      even_out = whole (replicate (2 * g.room) 0) g.room (length-replicate (2 * g.room) 0);
      is_ledger = whole-records (replicate (12 * (g.used + g.left)) 0) (g.used + g.left) g.used (length-replicate (12 * (g.used + g.left)) 0) (omega arith);
      limits = limits;
      beat_bytes = are-beat_bytes g.beats;
      pointer_bits = pointer;
      control_bits = control;
    }

-- what the run is lent then is bytes
pub in_bytes : (g : Given) → Premises g → g.used < 2 ^ 32 → InBytes (lent_to g)
in_bytes g h u =
    record {
      image = image-bytes (fields_of (machine_for g).core) (tail_of (machine_for g));
      window = are-all-bytes g.memory h.bytes;
      beats = are-beat_bytes g.beats;
      out = zero-bytes (2 * g.room);
      ledger = zero-bytes (12 * (g.used + g.left));
      used = u;
      budget = omega arith;
      report = zero-bytes 18;
    }

pub known-lent : WellLent (lends known)
unfolding keeps_limits
known-lent = well-lent known refl (omega arith) (omega arith)

pub three-lent : WellLent (lends three)
unfolding keeps_limits
three-lent = well-lent three refl (omega arith) (omega arith)

copier-lent : WellLent (lends copier)
unfolding keeps_limits
copier-lent = well-lent copier refl (omega arith) (omega arith)

sender-lent : WellLent (lends sender)
unfolding keeps_limits
sender-lent = well-lent sender refl (omega arith) (omega arith)

-- ---- what the calls leave, where the run leaves this image and this window

abbrev left_with : Mode → Lends → (k : ℕ) (image window : List ℕ) → RunLeft
left_with mode l k image window =
    let g = given_in l k in
    let ss = shares_in mode g in
    record {
      number = 0;
      image = image;
      back = back window (in_front (made_by_all ss) l.lent.out) (behind (records_of 1 ss) l.lent.ledger l.lent.used);
      report = report_bytes 1 (2 + cost ss) (given ss) (length (made_by_all ss)) (g.used + k);
    }

module _ (mode : Mode) (l : Lends) (k : ℕ) (w : WellLent l) (h : PremisesIn mode (given_in l k)) where
  abbrev after : World
  after = (run l.budget (world_in mode (given_in l k))).world

  left_is : 2 + cost (shares_in mode (given_in l k)) ≤ l.budget → (image window : List ℕ)
      → (image_of (machine_in after) ≡ image) × (after.memory ≡ window)
      → (created pointed started : ℕ) (left : RunLeft) → CalledIn mode l created pointed started left
      → AllDone created pointed started left × (left ≡ left_with mode l k image window)
  left_is b image window e created pointed started left c =
      let p = run_is mode w c in
      let f = of-calls-in-each-mode mode l created pointed started left k c w h b in
      let n = none-refused-in-each-mode mode l created pointed started left k c w h in
      let as-image = run-image k w h p ∙ e.0 in
      let as-window = run-memory k w h p ∙ e.1 in
      (n, λ i. record { number = n.run i; image = as-image i; back = back (as-window i) (f.output i) (f.ledger i); report = f.report i })

-- ---- the three chains

-- after 100 steps the image and the window are these
abbrev EndsAs : Mode → Given → RunLeft → Type 0
EndsAs mode g left =
    let w = (run 100 (world_in mode g)).world in
    (image_of (machine_in w) ≡ left.image) × (w.memory ≡ left.back.window)

-- by computation over the step rules
all_end : EndsAs StreamToMemory known known_left × (EndsAs MemoryToMemory copier copier_left × EndsAs MemoryToStream sender sender_left)
unfolding image slot_number bytes_for in_window located_of put_at descriptor_at spot_of named_in raw_at look_at control_written rest_step fetched seen fetch_step source_of destination_of onward copy_step beat_for send_step written_control written_back counted completed write_back_step step run
all_end = ((refl, refl), ((refl, refl), (refl, refl)))

-- Known run 1 through the C calls: each gives back 0, and these bytes are left.
pub known-run-1-in-c : KnownRun1InC
unfolding descriptor_at bytes_for capacity
known-run-1-in-c =
    left_is StreamToMemory (lends known) 1 known-lent (premises known known-run-1.meets) (omega arith) known_left.image known_left.back.window all_end.0

-- The chain of copies and the chain of packets.
pub copies-in-c : CopiesInC
unfolding descriptor_at bytes_for capacity
copies-in-c =
    left_is MemoryToMemory (lends copier) 2 copier-lent chain-of-copies.meets (omega arith) copier_left.image copier_left.back.window all_end.1.0

pub packets-in-c : PacketsInC
unfolding descriptor_at bytes_for capacity
packets-in-c =
    left_is MemoryToStream (lends sender) 3 sender-lent chain-of-packets.meets (omega arith) sender_left.image sender_left.back.window all_end.1.1
