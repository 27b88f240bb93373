-- A machine is sound exactly where its parts are kept.
-- Assumes nothing.
use Rattle.std.specs.Prelude.{Ok, Err, Some, None}
use Prim.Native.Nat.{ℕ, ◌≤◌, ◌<◌}
use mathlib.Core.Path.{◌≡◌, refl, sym, ap, subst, subst⁻¹, ◌∙◌}
use mathlib.Core.Bool.{Bool, true, false, not, cond, ◌&&◌, ◌||◌, or-true, or_comm}
use native.Mathlib.Omega.{arith}
use lib.Dec.{eqb}
use borrow.Author.Tests.{eq-eqb, ne_eqb, lt-ltb, le-leb, eqb-true, not-true, not-false}
use Rattle.bus.specs.declared.Window.{Window}
use Rattle.bus.specs.Window.{keeps_limits}
use Rattle.regs.specs.declared.Mode.{Mode}
use Rattle.regs.specs.declared.Mode.TheVariants.{MemoryToMemory, MemoryToStream, StreamToMemory}
use Rattle.regs.specs.declared.Status.{Status}
use Rattle.regs.specs.Modes.{mode_number}
use Rattle.regs.specs.Status.{status_number}
use Rattle.regs.specs.Control.{run, sw_reset}
use Rattle.image.specs.Rules as rule
use Rattle.image.specs.Rules.{◌⇒◌, ◌exactly◌, between, either, lowest_broken}
use Rattle.image.specs.Layout.{Typed}
use Rattle.image.proofs.Tests.{both}
use Rattle.image.proofs.EachRule.{Each, each-rule, each_keeps}
use Rattle.image.proofs.Windows.{stands-in}
use Rattle.image.proofs.Facts as fact
use Rattle.image.proofs.Answers.{keeps, kept-none}
use Rattle.descriptor.specs.declared.Miss.TheVariants as miss
use Rattle.descriptor.specs.Looking.{WordsFit, is_zero, Look}
use Rattle.descriptor.proofs.Looks.{zero-none, no-words-fit}
use Rattle.image.specs.declared.Tail.{Tail}
use Rattle.image.specs.Slot.{descriptor}
use Rattle.image.proofs.Slots.{SlotKept, empty-kept, held_kept_lem}
use Rattle.machine.specs.declared.Core.{Core}
use Rattle.machine.specs.declared.Machine.{Machine}
use Rattle.machine.specs.declared.Work.{Work}
use Rattle.machine.specs.declared.Phase.{Phase}
use Rattle.machine.specs.declared.Phase.TheVariants.{Rest, Fetch, Move, WriteBack, Ended, Halted, Faulted}
use Rattle.machine.specs.State.{phase_number, with_phase, Slot}
use Rattle.machine.specs.Saved.{none, in_hand, fault_in, fields_of, kind_of, bytes_of, tail_with, tail_of}
use Rattle.machine.specs.Step.{wants_length}
use Rattle.met.specs.Sound.{Sound}
use Rattle.met.proofs.Numbers.{status-lt-32, error-bit, eop-bit, busy-bit}
use Rattle.met.proofs.Kept.{Hand, Moving, Moved, Suits, RulesKept, HoldsIn, MachineKept}

-- ---- tests from facts

if-so : (a b : Bool) → (a ≡ true → b ≡ true) → (a ⇒ b) ≡ true
if-so true b h = h refl
if-so false b h = refl

unless : (a b : Bool) → (a ≡ false → b ≡ true) → (a || b) ≡ true
unless true b h = refl
unless false b h = h refl

alike : (a b : Bool) → a ≡ b → (a exactly b) ≡ true
alike true true e = refl
alike true false e = sym e
alike false true e = e
alike false false e = refl

-- ---- modes 0 and 1 are those that want a length

reads : (mode : Mode) → either 0 1 (mode_number mode) ≡ wants_length mode
reads MemoryToMemory = refl
reads MemoryToStream = refl
reads StreamToMemory = refl

streams : (mode : Mode) → eqb (mode_number mode) 2 ≡ not (wants_length mode)
streams MemoryToMemory = refl
streams MemoryToStream = refl
streams StreamToMemory = refl

mode-le : (mode : Mode) → mode_number mode ≤ 2
mode-le MemoryToMemory = omega arith
mode-le MemoryToStream = omega arith
mode-le StreamToMemory = omega arith

-- ---- the rules from the parts

status-rule : (mode : Mode) (n : ℕ) (s : Status) → s.busy ≡ between 1 4 n
    → (wants_length mode ≡ true → (s.error || s.eop) ≡ false) → rule.status_kept (mode_number mode) n (status_number s) ≡ true
status-rule mode n s b h =
    both (both (lt-ltb _ _ (status-lt-32 s)) (alike _ _ (busy-bit s ∙ b)))
    (rw (error-bit s, eop-bit s, streams mode) (unless _ _ (λ r. ap not (h (not-false _ r)))))

-- the rules of the descriptor in hand, at a phase's number
record HandRules (mode : Mode) (w : Window) (n : ℕ) (k : Work) : Type 0 where
  address : rule.address_kept (rule.working n) w.base w.length k.at ≡ true
  source : rule.zero_outside (rule.working n) k.source ≡ true
  destination : rule.zero_outside (rule.working n) k.destination ≡ true
  size : rule.size_kept (mode_number mode) (rule.working n) k.length ≡ true
  dcontrol : rule.dcontrol_kept (rule.working n) k.control.0 ≡ true
  errors : rule.errors_kept (mode_number mode) (rule.working n) k.errors ≡ true
  moved : rule.moved_kept n (rule.asked (mode_number mode) k.length) k.errors k.moved ≡ true
  eop : rule.eop_kept (mode_number mode) n (rule.asked (mode_number mode) k.length) k.moved k.eop ≡ true

module _ (mode : Mode) (w : Window) (n : ℕ) where
  -- no descriptor in hand
  no-hand : rule.in_move n ≡ false → rule.in_write_back n ≡ false → HandRules mode w n none
  no-hand a b =
      record {
        address = rw (a, b);
        source = rw (a, b);
        destination = rw (a, b);
        size = rw (a, b);
        dcontrol = rw (a, b);
        errors = rw (a, b, or-true (not (either 0 1 (mode_number mode))));
        moved = rw (a, b);
        eop = rw (a, b, or-true (not (either 0 1 (mode_number mode))));
      }

  in-hand : (k : Work) → keeps_limits w.base w.length ≡ true → rule.working n ≡ true → Hand mode w k
      → rule.moved_kept n (rule.asked (mode_number mode) k.length) k.errors k.moved ≡ true
      → rule.eop_kept (mode_number mode) n (rule.asked (mode_number mode) k.length) k.moved k.eop ≡ true
      → HandRules mode w n k
  in-hand k limits h d moved eop =
      record {
        address = rw h (stands-in w.base w.length k.at limits ∙ both (eq-eqb _ _ d.aligned) d.inside);
        source = rw h;
        destination = rw h;
        size = rw (h, reads mode) (if-so _ _ (λ r. ap not (ne_eqb _ _ (d.nonzero r))));
        dcontrol = rw h d.hardware;
        errors = rw (h, reads mode) (both (if-so _ _ (λ r. eq-eqb _ _ (d.clean r))) (lt-ltb _ _ d.low));
        moved = moved;
        eop = eop;
      }

-- what was moved, and EOP seen
module _ (mode : Mode) (w : Window) (k : Work) (h : Hand mode w k) where
  abbrev all : ℕ
  all = rule.asked (mode_number mode) k.length

  move-rule : Moving mode k → (rule.moved_kept 2 all k.errors k.moved ≡ true) × (rule.eop_kept (mode_number mode) 2 all k.moved k.eop ≡ true)
  move-rule g = (
    both (both (lt-ltb _ _ g.less) (if-so _ _ (λ z. eq-eqb _ _ (g.errors (eqb-true _ _ z))))) refl,
    rw (g.eop, or-true (not (either 0 1 (mode_number mode)))),
  )

  back-rule : Moved mode k → (rule.moved_kept 3 all k.errors k.moved ≡ true) × (rule.eop_kept (mode_number mode) 3 all k.moved k.eop ≡ true)
  back-rule g =
      let none : (either 0 1 (mode_number mode) ⇒ not k.eop) ≡ true = rw (reads mode) (if-so _ _ (λ r. ap not (h.no_eop r))) in
      let enough : (eqb k.moved all || k.eop) ≡ true = or_comm (eqb k.moved all) k.eop ∙ unless _ _ (λ z. eq-eqb _ _ (g.whole z)) in
      (both (le-leb _ _ g.some) (le-leb _ _ g.most), both (both none refl) enough)

-- ---- from the parts to the rules

-- at a phase
module _ (m : Core) (p : Phase) (k : RulesKept m) where
  abbrev at : ℕ
  at = phase_number p

  each_at : rule.phase_kept (mode_number m.mode) at ≡ true → rule.fault_kept (mode_number m.mode) at (fault_in p).code ≡ true
      → m.status.busy ≡ between 1 4 at → (rule.in_ended at || rule.in_halted at ⇒ run m.control) ≡ true
      → HandRules m.mode m.window at (in_hand p) → (rule.◌outside◌ (eqb (fault_in p).address 0) (rule.in_faulted at)) ≡ true
      → (t : Tail) → t.zero6 ≡ 0 → SlotKept at m.window.base m.window.length m.pointer.0 t.kind t.at t.raw
      → Each (fields_of (with_phase p m)) t
  each_at phase fault busy runs hand faultat t zero6 slot =
      record {
        edition = refl;
        mode = le-leb _ _ (mode-le m.mode);
        phase = phase;
        fault = fault;
        status = status-rule m.mode at m.status busy k.marks;
        count = le-leb _ _ k.count;
        control = both (both (lt-ltb _ _ k.control) (alike (sw_reset m.control) _ refl)) runs;
        window = k.limits;
        address = hand.address;
        source = hand.source;
        destination = hand.destination;
        size = hand.size;
        dcontrol = hand.dcontrol;
        errors = hand.errors;
        moved = hand.moved;
        eop = hand.eop;
        zero15 = refl;
        faultat = faultat;
        kind = slot.kind;
        zero6 = eq-eqb _ _ zero6;
        at = slot.at;
        raw = slot.raw;
      }

each_in : (m : Core) (p : Phase) → RulesKept m → Suits m p → (t : Tail) → t.zero6 ≡ 0
    → SlotKept (phase_number p) m.window.base m.window.length m.pointer.0 t.kind t.at t.raw → Each (fields_of (with_phase p m)) t
each_in m Rest k h t z s = each_at m Rest k refl refl h refl (no-hand m.mode m.window 0 refl refl) refl t z s
each_in m Fetch k h t z s = each_at m Fetch k refl refl h refl (no-hand m.mode m.window 1 refl refl) refl t z s
each_in m (Move w) k (b, h, g) t z s =
    let r = move-rule m.mode m.window w h g in
    each_at m (Move w) k refl refl b refl (in-hand m.mode m.window 2 w k.limits refl h r.0 r.1) refl t z s
each_in m (WriteBack w) k (b, h, g) t z s =
    let r = back-rule m.mode m.window w h g in
    each_at m (WriteBack w) k refl refl b refl (in-hand m.mode m.window 3 w k.limits refl h r.0 r.1) refl t z s
each_in m Ended k (b, r) t z s = each_at m Ended k refl refl b r (no-hand m.mode m.window 4 refl refl) refl t z s
each_in m Halted k (b, r, u) t z s =
    each_at m Halted k (streams m.mode ∙ ap not u) refl b r (no-hand m.mode m.window 5 refl refl) refl t z s
each_in m (Faulted f) k (b, c, a) t z s =
    each_at m (Faulted f) k refl (both c refl) b refl (no-hand m.mode m.window 6 refl refl) refl t z s

-- L is a number of 16 bits
pub asked-lt : (mode n : ℕ) → n < 65536 → rule.asked mode n < 65536
asked-lt mode n h = pick (eqb mode 2 && eqb n 0)
  where
    pick : (b : Bool) → cond b 65535 n < 65536
    pick true = omega arith
    pick false = h

typed-in : (m : Core) (p : Phase) → RulesKept m → Suits m p → (t : Tail) → t.at < 4294967296 → WordsFit t.raw → t.run < 4294967296
    → Typed (fields_of (with_phase p m)) t
typed-in m Rest k h t a r n =
    record { pointer = k.pointer; address = omega arith; source = omega arith; destination = omega arith; size = omega arith; dcontrol = omega arith; moved = omega arith; faultat = omega arith; at = a; raw = r; run = n }
typed-in m Fetch k h t a r n =
    record { pointer = k.pointer; address = omega arith; source = omega arith; destination = omega arith; size = omega arith; dcontrol = omega arith; moved = omega arith; faultat = omega arith; at = a; raw = r; run = n }
typed-in m (Move w) k (b, h, g) t a r n =
    let l = asked-lt (mode_number m.mode) w.length h.length in
    record { pointer = k.pointer; address = h.at; source = h.source; destination = h.destination; size = h.length; dcontrol = h.control; moved = (let x = g.less in omega arith); faultat = omega arith; at = a; raw = r; run = n }
typed-in m (WriteBack w) k (b, h, g) t a r n =
    let l = asked-lt (mode_number m.mode) w.length h.length in
    record { pointer = k.pointer; address = h.at; source = h.source; destination = h.destination; size = h.length; dcontrol = h.control; moved = (let x = g.most in omega arith); faultat = omega arith; at = a; raw = r; run = n }
typed-in m Ended k h t a r n =
    record { pointer = k.pointer; address = omega arith; source = omega arith; destination = omega arith; size = omega arith; dcontrol = omega arith; moved = omega arith; faultat = omega arith; at = a; raw = r; run = n }
typed-in m Halted k h t a r n =
    record { pointer = k.pointer; address = omega arith; source = omega arith; destination = omega arith; size = omega arith; dcontrol = omega arith; moved = omega arith; faultat = omega arith; at = a; raw = r; run = n }
typed-in m (Faulted f) k (b, c, h) t a r n =
    record { pointer = k.pointer; address = omega arith; source = omega arith; destination = omega arith; size = omega arith; dcontrol = omega arith; moved = omega arith; faultat = h; at = a; raw = r; run = n }

-- ---- what was read ahead

-- no look is the kind of an empty slot
zero-bytes : (look : Look) → (eqb (kind_of look) descriptor || is_zero (bytes_of look)) ≡ true
zero-bytes (Err miss.Misaligned) = zero-none
zero-bytes (Err miss.Outside) = zero-none
zero-bytes (Ok r) = refl

slot-rules : (n : ℕ) (w : Window) (pointer number : ℕ) → keeps_limits w.base w.length ≡ true → (s : Slot) → HoldsIn n w pointer s
    → (let t = tail_with s pointer number in SlotKept n w.base w.length pointer t.kind t.at t.raw)
slot-rules n w pointer number l None h = empty-kept n w.base w.length pointer
slot-rules n w pointer number l (Some look) h =
    subst⁻¹ (λ (k : ℕ). SlotKept n w.base w.length pointer k pointer (bytes_of look)) h.1.kind
    (held_kept_lem n w.base w.length pointer (bytes_of look) h.0 l
    (subst (λ (k : ℕ). (eqb k descriptor || is_zero (bytes_of look)) ≡ true) h.1.kind (zero-bytes look)))

zero-there : (s : Slot) (pointer number : ℕ) → (tail_with s pointer number).zero6 ≡ 0
zero-there None pointer number = refl
zero-there (Some look) pointer number = refl

at_typed : (s : Slot) (pointer number : ℕ) → pointer < 4294967296 → (tail_with s pointer number).at < 4294967296
at_typed None pointer number h = omega arith
at_typed (Some look) pointer number h = h

raw_typed : (n : ℕ) (w : Window) (s : Slot) (pointer number : ℕ) → HoldsIn n w pointer s → WordsFit (tail_with s pointer number).raw
raw_typed n w None pointer number h = no-words-fit
raw_typed n w (Some look) pointer number h = h.1.fits

run-there : (s : Slot) (pointer number : ℕ) → (tail_with s pointer number).run ≡ number
run-there None pointer number = refl
run-there (Some look) pointer number = refl

pub kept-sound : {m : Machine} → MachineKept m → Sound m
kept-sound {m} k =
    let c = m.core in
    let a = c.pointer.0 in
    let r = k.core in
    record {
      rules = keeps (fields_of c) (tail_of m)
          (each_keeps (fields_of c) (tail_of m)
          (each_in c c.phase r r.phase (tail_of m) (zero-there m.slot a m.run) (slot-rules (phase_number c.phase) c.window a m.run r.limits m.slot k.slot)));
      typed = typed-in c c.phase r r.phase (tail_of m) (at_typed m.slot a m.run r.pointer) (raw_typed (phase_number c.phase) c.window m.slot a m.run k.slot)
          (subst⁻¹ (λ (n : ℕ). n < 4294967296) (run-there m.slot a m.run) k.run);
    }

-- ---- from the rules to the parts

module _ (m : Core) (p : Phase) (u : Tail) (e : lowest_broken (fields_of (with_phase p m)) u ≡ 0) (t : Typed (fields_of (with_phase p m)) u) where
  busy-in : m.status.busy ≡ between 1 4 (phase_number p)
  busy-in = sym (busy-bit m.status) ∙ fact.busy-is (fields_of (with_phase p m)) u e

  hand_in : rule.working (phase_number p) ≡ true → Hand m.mode m.window (in_hand p)
  hand_in h =
      let f = fields_of (with_phase p m) in
      record {
        aligned = fact.address-aligned f u e h;
        inside = fact.address-inside f u e h;
        hardware = fact.dcontrol-owned f u e h;
        low = fact.errors-lt f u e;
        nonzero = λ r. fact.memory-size f u e (reads m.mode ∙ r) h;
        clean = λ r. fact.memory-errors f u e (reads m.mode ∙ r);
        no_eop = λ r. fact.memory-eop f u e (reads m.mode ∙ r);
        at = t.address;
        source = t.source;
        destination = t.destination;
        length = t.size;
        control = t.dcontrol;
      }

in-phase : (m : Core) (p : Phase) (u : Tail) → lowest_broken (fields_of (with_phase p m)) u ≡ 0 → Typed (fields_of (with_phase p m)) u → Suits m p
in-phase m Rest u e t = busy-in m Rest u e t
in-phase m Fetch u e t = busy-in m Fetch u e t
in-phase m (Move k) u e t =
    let f = fields_of (with_phase (Move k) m) in (
      busy-in m (Move k) u e t,
      hand_in m (Move k) u e t refl,
      record { less = fact.move-lt f u e refl; eop = fact.move-eop f u e refl; errors = fact.move-errors f u e refl },
    )
in-phase m (WriteBack k) u e t =
    let f = fields_of (with_phase (WriteBack k) m) in (
      busy-in m (WriteBack k) u e t,
      hand_in m (WriteBack k) u e t refl,
      record { some = fact.back-ge f u e refl; most = fact.back-le f u e refl; whole = fact.back_whole f u e refl },
    )
in-phase m Ended u e t = (busy-in m Ended u e t, fact.run_set (fields_of (with_phase Ended m)) u e refl)
in-phase m Halted u e t = (
  busy-in m Halted u e t,
  fact.run_set (fields_of (with_phase Halted m)) u e refl,
  not-true _ (sym (streams m.mode) ∙ eq-eqb _ _ (fact.halted-mode (fields_of (with_phase Halted m)) u e refl)),
)
in-phase m (Faulted f) u e t =
    (busy-in m (Faulted f) u e t, fact.fault-code (fields_of (with_phase (Faulted f) m)) u e refl, t.faultat)

-- what was read ahead
seat-kept : (c : Core) (number : ℕ) (s : Slot) → (let t = tail_with s c.pointer.0 number in
    lowest_broken (fields_of c) t ≡ 0 → WordsFit t.raw → HoldsIn (phase_number c.phase) c.window c.pointer.0 s)
seat-kept c number None e f = tt
seat-kept c number (Some (Err miss.Misaligned)) e f = let t = tail_with (Some (Err miss.Misaligned)) c.pointer.0 number in
    (fact.held-phase (fields_of c) t e refl, record { kind = fact.held-kind (fields_of c) t e refl; fits = f })
seat-kept c number (Some (Err miss.Outside)) e f = let t = tail_with (Some (Err miss.Outside)) c.pointer.0 number in
    (fact.held-phase (fields_of c) t e refl, record { kind = fact.held-kind (fields_of c) t e refl; fits = f })
seat-kept c number (Some (Ok r)) e f = let t = tail_with (Some (Ok r)) c.pointer.0 number in
    (fact.held-phase (fields_of c) t e refl, record { kind = fact.held-kind (fields_of c) t e refl; fits = f })

pub sound-kept : {m : Machine} → Sound m → MachineKept m
sound-kept {m} s =
    let c = m.core in
    let f = fields_of c in
    let u = tail_of m in
    let e = kept-none f u s.rules in
    record {
      core = record {
        limits = (each-rule f u e).window;
        marks = λ r. rw (error-bit c.status, eop-bit c.status) at (fact.no-marks f u e (streams c.mode ∙ ap not r));
        control = fact.control-lt f u e;
        pointer = s.typed.pointer;
        count = fact.count-le f u e;
        phase = in-phase c c.phase u e s.typed;
      };
      slot = seat-kept c m.run m.slot e s.typed.raw;
      run = subst (λ (n : ℕ). n < 4294967296) (run-there m.slot c.pointer.0 m.run) s.typed.run;
    }
