-- A step in Fetch.
-- Assumes nothing.
use Rattle.std.specs.Prelude.{Result, Ok, Err, Some, None}
use Prim.Native.Nat.{ℕ, ◌%◌, ◌<◌}
use mathlib.Core.Path.{◌≡◌, refl, sym, ap, ◌∙◌}
use mathlib.Core.Bool.{Bool, true, false, not, ◌&&◌}
use native.Mathlib.Omega.{arith}
use lib.Dec.{eqb}
use borrow.Author.Tests.{eqb-true, eqb-false, not-false}
use mathlib.Core.List.{List}
use Rattle.words.specs.Slices.{AllBytes}
use Rattle.bus.specs.declared.Window.{Window}
use Rattle.bus.specs.Window.{in_window}
use Rattle.descriptor.specs.declared.Descriptor.{Descriptor}
use Rattle.bus.specs.declared.Place.{Place}
use Rattle.descriptor.specs.declared.Miss.{Miss}
use Rattle.descriptor.specs.declared.Miss.TheVariants as miss
use Rattle.descriptor.specs.Layout.{owned}
use Rattle.descriptor.specs.Looking.{spot_of, stands, named_in, look_in, look_at, WordsFit, Look}
use Rattle.descriptor.specs.RoundTrip.{Typed, job_of}
use Rattle.descriptor.proofs.Looks.{no-words-fit, raw-fits}
use Rattle.image.specs.Slot.{descriptor, kind_at}
use Rattle.image.specs.Slot.{kind_of as spot_kind}
use Rattle.image.proofs.Windows.{stands_by}
use Rattle.regs.specs.declared.Mode.{Mode}
use Rattle.regs.specs.declared.Mode.TheVariants.{MemoryToMemory, MemoryToStream, StreamToMemory}
use Rattle.regs.specs.Modes.{mode_number}
use Rattle.regs.specs.Control.{run}
use Rattle.image.specs.Rules.{asked, fault_code}
use Rattle.image.proofs.Tests.{and_left, and_right}
use Rattle.machine.specs.declared.Core.{Core}
use Rattle.machine.specs.declared.Phase.TheVariants.{Rest, Move}
use Rattle.machine.specs.State.{phase_number, home, with_phase, with_pointer, Slot}
use Rattle.machine.specs.Saved.{kind_of, bytes_of}
use Rattle.machine.specs.Step.{World, home_bytes, taken, became, holding, ended, wants_length, begun, fetched, seen_in, seen, meets, fetch_step}
use Rattle.met.proofs.Kept.{RulesKept, LookKept, HoldsIn, on}
use Rattle.met.proofs.Memory.{named-typed}
use Rattle.met.proofs.Worlds.{KeptWorld, Leads, became-kept, phase-after, fault-after}

-- OWNED 0 ends the chain
ended-kept : {m : Core} → RulesKept m → m.status.busy ≡ true → run m.control ≡ true → RulesKept (ended m)
ended-kept k b r =
    record {
      limits = k.limits;
      marks = k.marks;
      control = k.control;
      pointer = k.pointer;
      count = k.count;
      phase = (b, r);
    }

-- fault 12 is for modes 0 and 1
twelve : (mode : Mode) → wants_length mode ≡ true → fault_code (mode_number mode) 12 ≡ true
twelve MemoryToMemory h = refl
twelve MemoryToStream h = refl
twelve StreamToMemory h = h

-- a length taken leaves something to move
asked-pos : (mode : Mode) (n : ℕ) → (wants_length mode && eqb n 0) ≡ false → 0 < asked (mode_number mode) n
asked-pos MemoryToMemory n h = let ne = eqb-false n 0 h in omega arith
asked-pos MemoryToStream n h = let ne = eqb-false n 0 h in omega arith
asked-pos StreamToMemory n h =
    on (λ (x : ℕ). 0 < x) (eqb n 0) (λ e. omega arith) (λ e. let ne = eqb-false n 0 e in omega arith)

not-zero : (b : Bool) (n : ℕ) → (b && eqb n 0) ≡ false → b ≡ true → n ≡ 0 → ⊥
not-zero b n z r = eqb-false n 0 (ap (λ (c : Bool). c && eqb n 0) (sym r) ∙ z)

-- the look, by its kind
look-kind : (w : Window) (xs : List ℕ) (a : ℕ) → kind_of (look_at w xs a) ≡ kind_at w a
unfolding look_at
look-kind w xs a = by (spot_of w a)
  where
    by : (s : Result Place Miss) → kind_of (look_in xs s) ≡ spot_kind s
    by (Err miss.Misaligned) = refl
    by (Err miss.Outside) = refl
    by (Ok p) = refl

look-fits : (w : Window) (xs : List ℕ) (a : ℕ) → AllBytes xs → WordsFit (bytes_of (look_at w xs a))
unfolding look_at
look-fits w xs a g = by (spot_of w a)
  where
    by : (s : Result Place Miss) → WordsFit (bytes_of (look_in xs s))
    by (Err miss.Misaligned) = no-words-fit
    by (Err miss.Outside) = no-words-fit
    by (Ok p) = raw-fits xs p.0 g

-- a descriptor's kind is that of an address that is aligned and in the window
kind-stands : (w : Window) (a : ℕ) → kind_at w a ≡ descriptor → (eqb (a % 4) 0 && in_window w a 32) ≡ true
kind-stands w a e = sym (stands_by w a) ∙ by (spot_of w a) e
  where
    by : (s : Result Place Miss) → spot_kind s ≡ descriptor → stands s ≡ true
    by (Err miss.Misaligned) k = absurd (omega arith)
    by (Err miss.Outside) k = absurd (omega arith)
    by (Ok p) k = refl

module _ {w : World} (h : KeptWorld w) (b : w.core.status.busy ≡ true) (r : run w.core.control ≡ true) where
  abbrev m : Core
  m = w.core

  abbrev a : ℕ
  a = w.core.pointer.0

  -- the fields are kept
  begun_kept : (d : Descriptor) → Typed (job_of d) → a % 4 ≡ 0 → in_window m.window a 32 ≡ true → owned d.control.0 ≡ true
      → (wants_length m.mode && eqb d.length 0) ≡ false → RulesKept (with_phase (Move (begun a d)) (with_pointer d.next m))
  begun_kept d t aligned inside o z =
      let k = h.core in
      record {
        limits = k.limits;
        marks = k.marks;
        control = k.control;
        pointer = t.next;
        count = k.count;
        phase = (
          b,
          record {
            aligned = aligned;
            inside = inside;
            hardware = o;
            low = omega arith;
            nonzero = not-zero (wants_length m.mode) d.length z;
            clean = λ q. refl;
            no_eop = λ q. refl;
            at = k.pointer;
            source = t.source;
            destination = t.destination;
            length = t.length;
            control = t.control;
          },
          record { less = asked-pos m.mode d.length z; eop = refl; errors = λ q. refl },
        );
      }

  -- what is read ahead is what stands at the new pointer
  ahead-kept : (a : ℕ) → LookKept m.window a (look_at (home m) (home_bytes w) a)
  ahead-kept a = record { kind = look-kind m.window w.memory a; fits = look-fits m.window w.memory a h.memory }

  begun-after : (d : Descriptor) → Typed (job_of d) → a % 4 ≡ 0 → in_window m.window a 32 ≡ true → owned d.control.0 ≡ true
      → (wants_length m.mode && eqb d.length 0) ≡ false
      → Leads (taken (holding (became w (with_phase (Move (begun a d)) (with_pointer d.next m))) (Some (look_at (home m) (home_bytes w) d.next))))
  begun-after d t aligned inside o z =
      record { core = begun_kept d t aligned inside o z; slot = (refl, ahead-kept d.next); run = h.run; size = h.size; memory = h.memory; input = h.input }

  fetched-after : (d : Descriptor) → Typed (job_of d) → a % 4 ≡ 0 → in_window m.window a 32 ≡ true → Leads (fetched w d)
  unfolding fetched
  fetched-after d t aligned inside =
      on Leads (not (owned d.control.0))
      (λ o. became-kept h (ended m) refl refl (ended-kept h.core b r))
      (λ o. on Leads (wants_length m.mode && eqb d.length 0)
      (λ z. fault-after h 12 a (twelve m.mode (and_left _ _ z)) h.core.pointer)
      (λ z. begun-after d t aligned inside (not-false _ o) z))

  -- what is seen is what the look at the pointer finds, as far as its kind goes
  met-after : (l : Look) → LookKept m.window a l → Leads (meets w l)
  met-after (Err miss.Misaligned) k = fault-after h 10 a refl h.core.pointer
  met-after (Err miss.Outside) k = fault-after h 11 a refl h.core.pointer
  met-after (Ok x) k =
      let in_window_lem = kind-stands m.window a (sym k.kind) in
      fetched-after (named_in x) (named-typed x) (eqb-true _ _ (and_left _ _ in_window_lem)) (and_right (eqb (a % 4) 0) _ in_window_lem)

  seen-kept : (s : Slot) → HoldsIn (phase_number m.phase) m.window a s → LookKept m.window a (seen_in w s)
  seen-kept None k = ahead-kept a
  seen-kept (Some look) k = k.1

pub fetch-after : {w : World} → KeptWorld w → w.core.status.busy ≡ true → Leads (fetch_step w)
unfolding fetch_step seen
fetch-after {w} h b =
    on Leads (not (run w.core.control))
    (λ r. phase-after h Rest false refl)
    (λ r. met-after h b (not-false _ r) (seen w) (seen-kept h b (not-false _ r) w.slot h.slot))
