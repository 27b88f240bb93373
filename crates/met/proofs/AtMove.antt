-- A step in Move, in each mode.
-- Assumes nothing.
use Prim.Native.Nat.{ℕ, zero, suc, ◌+◌, ◌%◌, ◌<◌, ◌^◌}
use mathlib.Core.Path.{◌≡◌, refl, sym, ap, ◌∙◌}
use mathlib.Core.Bool.{Bool, true, false, ◌||◌, true≢false}
use mathlib.Core.List.{List, [], ◌∷◌}
use native.Mathlib.Nat.{mod-lt}
use native.Mathlib.Omega.{arith}
use lib.Bits.{or_lt}
use lib.Dec.{eqb}
use lib.ListN.{length-set}
use borrow.Author.Tests.{eqb-true, eqb-false}
use Rattle.bus.specs.Window.{in_window, place_of}
use Rattle.regs.specs.declared.Mode.{Mode}
use Rattle.regs.specs.declared.Mode.TheVariants.{MemoryToMemory, MemoryToStream, StreamToMemory}
use Rattle.image.proofs.Tests.{else}
use Rattle.flow.specs.Beats.{beat_error, beat_eop}
use Rattle.machine.specs.declared.Core.{Core}
use Rattle.machine.specs.declared.Work.{Work}
use Rattle.machine.specs.declared.Phase.TheVariants.{Move, WriteBack}
use Rattle.machine.specs.Step.{World, wants_length, whole, source_of, destination_of, with_byte, onward, copy_step, send_to, send_step, receive_from, move_step}
use Rattle.met.specs.Sound.{AllBeats}
use Rattle.met.proofs.Kept.{Hand, Moving, Suits, RulesKept, moves-to, on, neither}
use Rattle.met.proofs.Memory.{get-byte, set-bytes}
use Rattle.met.proofs.Worlds.{KeptWorld, Leads, laid_kept, fault-after}

-- ---- one byte more

module _ {m : Core} (k : RulesKept m) (d : Work) (busy : m.status.busy ≡ true) (h : Hand m.mode m.window d) (g : Moving m.mode d)
    (errors : ℕ) (eop : Bool) (low : errors < 128) (clean : wants_length m.mode ≡ true → (errors ≡ 0) × (eop ≡ false)) where
  abbrev e : Work
  e = with_byte errors eop d

  byte-hand : Hand m.mode m.window e
  byte-hand =
      record {
        aligned = h.aligned;
        inside = h.inside;
        hardware = h.hardware;
        low = or_lt 7 d.errors errors h.low low;
        nonzero = h.nonzero;
        clean = λ r. rw (h.clean r, (clean r).0);
        no_eop = λ r. (clean r).1;
        at = h.at;
        source = h.source;
        destination = h.destination;
        length = h.length;
        control = h.control;
      }

  -- L bytes are moved or the beat taken had EOP
  abbrev over : Bool
  over = eop || eqb (d.moved + 1) (whole m e)

  to_back : over ≡ true → Suits m (WriteBack e)
  to_back t = (
    busy,
    byte-hand,
    record { some = omega arith; most = let l = g.less in omega arith; whole = λ z. eqb-true _ _ (else eop _ t z) },
  )

  on-with : over ≡ false → Suits m (Move e)
  on-with f =
      let n = neither eop (eqb (d.moved + 1) (whole m e)) f in
      let l = g.less in
      let ne = eqb-false (d.moved + 1) (whole m e) n.1 in
      (busy, byte-hand, record { less = omega arith; eop = n.0; errors = λ z. absurd (omega arith) })

  onward-kept : RulesKept (onward m e)
  unfolding onward
  onward-kept = moves-to k _ m.status.busy (on (Suits m) over to_back on-with)

-- ---- the modes

low-32 : (a : ℕ) → a % 2 ^ 32 < 4294967296
low-32 a = mod-lt a (omega arith)

module _ {w : World} (h : KeptWorld w) (d : Work) (busy : w.core.status.busy ≡ true)
    (g : Hand w.core.mode w.core.window d) (l : Moving w.core.mode d) where
  abbrev m : Core
  m = w.core

  -- a byte of no beat
  plain-kept : RulesKept (onward m (with_byte 0 false d))
  plain-kept = onward-kept h.core d busy g l 0 false (omega arith) (λ r. (refl, refl))

  copy-after : m.mode ≡ MemoryToMemory → Leads (copy_step w d)
  unfolding copy_step onward
  copy-after e =
      on Leads (in_window m.window (source_of d) 1)
      (λ s. on Leads (in_window m.window (destination_of d) 1)
      (λ t. laid_kept h _ _ w.input w.output w.room refl refl plain-kept
      (length-set w.memory (place_of m.window (destination_of d)) _) (set-bytes w.memory _ h.memory (get-byte w.memory _ h.memory)) h.input)
      (λ t. fault-after h 14 _ (rw e) (low-32 (destination_of d))))
      (λ s. fault-after h 13 _ (rw e) (low-32 (source_of d)))

  send-to : (room : ℕ) → Leads (send_to w d room)
  unfolding onward
  send-to zero = tt
  send-to (suc left) = laid_kept h _ w.memory w.input _ left refl refl plain-kept refl h.memory h.input

  send-after : m.mode ≡ MemoryToStream → Leads (send_step w d)
  unfolding send_step
  send-after e =
      on Leads (in_window m.window (source_of d) 1) (λ s. send-to w.room) (λ s. fault-after h 13 _ (rw e) (low-32 (source_of d)))

  receive-after : m.mode ≡ StreamToMemory → (input : List ℕ) → AllBeats input → Leads (receive_from w d input)
  unfolding onward
  receive-after e [] i = tt
  receive-after e (b ∷ bs) i =
      on Leads (in_window m.window (destination_of d) 1)
      (λ t. laid_kept h _ _ bs w.output w.room refl refl
      (onward-kept h.core d busy g l (beat_error b) (beat_eop b) (let x = i.0 in omega arith) (λ r. absurd (true≢false (sym r ∙ ap wants_length e))))
      (length-set w.memory (place_of m.window (destination_of d)) _) (set-bytes w.memory _ h.memory (mod-lt b (omega arith))) i.1)
      (λ t. fault-after h 14 _ (rw e) (low-32 (destination_of d)))

  pub move-after : (mode : Mode) → m.mode ≡ mode → Leads (move_step mode w d)
  move-after MemoryToMemory e = copy-after e
  move-after MemoryToStream e = send-after e
  move-after StreamToMemory e = receive-after e w.input h.input
