-- A fresh machine keeps the rules, and every register write takes a machine that keeps them to one that does.
-- Assumes nothing.
use Rattle.std.specs.Prelude.{Result, Ok, Err, None}
use Prim.Native.Nat.{ℕ, ◌/◌, ◌%◌, ◌≤◌, ◌<◌}
use mathlib.Core.Path.{◌≡◌, refl, sym, ap, subst, subst⁻¹, ◌∙◌}
use mathlib.Core.Bool.{Bool, true, false, not, cond, ◌&&◌, ◌||◌}
use native.Mathlib.Nat.{mod-lt}
use native.Mathlib.Omega.{arith}
use lib.Dec.{eqb, ltb}
use borrow.Author.Tests.{ltb-true}
use Rattle.words.specs.Bits.{bit}
use Rattle.bus.specs.declared.Window.{Window}
use Rattle.bus.specs.Window.{keeps_limits}
use Rattle.regs.specs.declared.Mode.{Mode}
use Rattle.regs.specs.Control.{run, sw_reset, reset_by, started_by, raised, run_from}
use Rattle.regs.specs.Offsets.{is_register}
use Rattle.machine.specs.declared.Core.{Core}
use Rattle.bus.specs.declared.Refusal.{Refusal}
use Rattle.machine.specs.declared.Machine.{Machine}
use Rattle.machine.specs.declared.Phase.{Phase}
use Rattle.machine.specs.declared.Phase.TheVariants.{Rest, Fetch, Move, WriteBack, Ended, Halted, Faulted}
use Rattle.machine.specs.State.{phase_number, with_pointer, with_phase, with_busy, fresh_core, settled, machine_with, fresh}
use Rattle.machine.specs.Saved.{keeps}
use Rattle.machine.specs.Registers.{status_written, control_stored, released, control_written, written_to, write_of}
use Rattle.machine.proofs.Writes.{write-resets}
use Rattle.met.specs.Sound.{Sound}
use Rattle.met.specs.Theorems.{WriteKeeps}
use Rattle.met.proofs.Kept.{InPhase, Suits, RulesKept, HoldsIn, settles, MachineKept, on, neither}
use Rattle.met.proofs.ByParts.{kept-sound, sound-kept}

fresh_kept : (mode : Mode) (w : Window) → keeps_limits w.base w.length ≡ true → RulesKept (fresh_core mode w)
fresh_kept mode w l =
    record { limits = l; marks = λ r. refl; control = omega arith; pointer = omega arith; count = omega arith; phase = refl }

-- A fresh machine over a window within its limits keeps the rules.
pub fresh_keeps : (mode : Mode) (w : Window) → keeps_limits w.base w.length ≡ true → Sound (fresh mode w)
fresh_keeps mode w l = kept-sound (record { core = fresh_kept mode w l; slot = tt; run = omega arith })

-- clearing leaves no mark where there was none
cleared : (a b c d : Bool) → (a || b) ≡ false → (a && c || b && d) ≡ false
cleared a b c d e = rw ((neither a b e).0, (neither a b e).1)

-- RUN 1 serves every phase
runs-in : (mode : Mode) (w : Window) (busy run : Bool) (p : Phase) → InPhase mode w busy run p → InPhase mode w busy true p
runs-in mode w busy run Rest h = h
runs-in mode w busy run Fetch h = h
runs-in mode w busy run (Move k) h = h
runs-in mode w busy run (WriteBack k) h = h
runs-in mode w busy run Ended h = (h.0, refl)
runs-in mode w busy run Halted h = (h.0, refl, h.2)
runs-in mode w busy run (Faulted f) h = h

run-stored : (v : ℕ) → bit 5 (v % 262144) ≡ bit 5 v
run-stored v =
    let same : v % 262144 / 32 % 2 ≡ v / 32 % 2 = omega arith in
    ap (λ (n : ℕ). eqb n 1) same

abbrev AfterWrite : Result Machine Refusal → Type 0
AfterWrite (Ok n) = MachineKept n
AfterWrite (Err why) = Unit {0}

module _ (v : ℕ) {m : Core} (k : RulesKept m) where
  status-kept : RulesKept (status_written v m)
  status-kept =
      record {
        limits = k.limits;
        marks = λ r. cleared m.status.error m.status.eop (not (bit 0 v)) (not (bit 1 v)) (k.marks r);
        control = k.control;
        pointer = k.pointer;
        count = k.count;
        phase = k.phase;
      }

  pointer-kept : v < 4294967296 → RulesKept (with_pointer v m)
  pointer-kept h =
      record { limits = k.limits; marks = k.marks; control = k.control; pointer = h; count = k.count; phase = k.phase }

  -- what is control_stored, in a phase that the new RUN serves
  stored-as : (p : Phase) (busy : Bool) → InPhase m.mode m.window busy (bit 5 (v % 262144)) p
      → RulesKept (with_phase p (with_busy busy (control_stored v m)))
  stored-as p busy h =
      record {
        limits = k.limits;
        marks = k.marks;
        control = mod-lt v (omega arith);
        pointer = k.pointer;
        count = pick (not (run m.control) && bit 5 v);
        phase = h;
      }
    where
      pick : (b : Bool) → cond b 0 m.count ≤ 254
      pick true = omega arith
      pick false = k.count

  stored-kept : bit 5 v ≡ true → RulesKept (control_stored v m)
  stored-kept e =
      let h = runs-in m.mode m.window m.status.busy (run m.control) m.phase k.phase in
      stored-as m.phase m.status.busy
      (subst (λ (b : Bool). InPhase m.mode m.window m.status.busy b m.phase) (sym (run-stored v ∙ e)) h)

  released-kept : (p : Phase) → Suits m p → RulesKept (released p (with_phase p (control_stored v m)))
  released-kept Rest h = stored-as Rest m.status.busy h
  released-kept Fetch h = stored-as Fetch m.status.busy h
  released-kept (Move d) h = stored-as (Move d) m.status.busy h
  released-kept (WriteBack d) h = stored-as (WriteBack d) m.status.busy h
  released-kept Ended h = stored-as Rest false refl
  released-kept Halted h = stored-as Rest false refl
  released-kept (Faulted f) h = stored-as (Faulted f) m.status.busy h

  control-kept : RulesKept (control_written v m)
  unfolding control_written
  control-kept =
      on RulesKept (bit 16 v && sw_reset m.control) (λ e. fresh_kept m.mode m.window k.limits)
      (λ e. on RulesKept (bit 5 v) stored-kept (λ f. released-kept m.phase k.phase))

-- the run number stays one of 32 bits
raised_lt : (n : ℕ) → n < 4294967296 → raised n < 4294967296
raised_lt n h = on (λ (x : ℕ). x < 4294967296) (ltb n 4294967295) (λ e. let l = ltb-true n 4294967295 e in omega arith) (λ e. h)

-- a core that keeps its window and pointer keeps the slot, as its phase leaves it
with-slot : {m : Machine} → MachineKept m → (c : Core) (number : ℕ) → RulesKept c → c.window ≡ m.core.window → c.pointer.0 ≡ m.core.pointer.0
    → number < 4294967296 → MachineKept (machine_with c m.slot number)
with-slot {m} k c number r e a n =
    record {
      core = r;
      slot = subst⁻¹ (λ (x : Window). HoldsIn (phase_number c.phase) x c.pointer.0 (settled c.phase m.slot)) e
          (subst⁻¹ (λ (x : ℕ). HoldsIn (phase_number c.phase) m.core.window x (settled c.phase m.slot)) a
          (settles (phase_number m.core.phase) m.core.window m.core.pointer.0 c.phase m.slot k.slot));
      run = n;
    }

-- and one with nothing read ahead
nothing-held : (p : Phase) (w : Window) (a : ℕ) → HoldsIn (phase_number p) w a (settled p None)
nothing-held p w a = settles 0 w a p None tt

module _ (v : ℕ) {m : Machine} (k : MachineKept m) where
  -- a control write: the reset, or what is stored
  control-machine : MachineKept (machine_with (control_written v m.core) m.slot (run_from v m.core.control m.run))
  unfolding control_written
  control-machine = by (reset_by v m.core.control) refl
    where
      number : run_from v m.core.control m.run < 4294967296
      number = on (λ (x : ℕ). x < 4294967296) (not (reset_by v m.core.control) && started_by v m.core.control) (λ e. raised_lt m.run k.run) (λ e. k.run)

      placed : (runs : Bool) → (let c = cond runs (control_stored v m.core) (released m.core.phase (control_stored v m.core)) in
          (c.window ≡ m.core.window) × (c.pointer.0 ≡ m.core.pointer.0))
      placed true = (refl, refl)
      placed false = released-placed m.core.phase (control_stored v m.core)
        where
          released-placed : (p : Phase) (c : Core) → ((released p c).window ≡ c.window) × ((released p c).pointer.0 ≡ c.pointer.0)
          released-placed Rest c = (refl, refl)
          released-placed Fetch c = (refl, refl)
          released-placed (Move d) c = (refl, refl)
          released-placed (WriteBack d) c = (refl, refl)
          released-placed Ended c = (refl, refl)
          released-placed Halted c = (refl, refl)
          released-placed (Faulted f) c = (refl, refl)

      by : (b : Bool) → reset_by v m.core.control ≡ b → MachineKept (machine_with (control_written v m.core) m.slot (run_from v m.core.control m.run))
      by true e =
          subst⁻¹ (λ (c : Core). MachineKept (machine_with c m.slot (run_from v m.core.control m.run))) (write-resets v m.core e)
          (record { core = fresh_kept m.core.mode m.core.window k.core.limits; slot = tt; run = number })
      by false e =
          let p = placed (bit 5 v) in
          let c = ap (λ (b : Bool). cond b (fresh_core m.core.mode m.core.window) (cond (bit 5 v) (control_stored v m.core) (released m.core.phase (control_stored v m.core)))) e in
          with-slot k (control_written v m.core) _ (control-kept v k.core) (ap (λ (x : Core). x.window) c ∙ p.0) (ap (λ (x : Core). x.pointer.0) c ∙ p.1) number

  written-kept : v < 4294967296 → (offset : ℕ) → MachineKept (written_to m offset v)
  written-kept h offset = by (eqb offset 0) (eqb offset 4) (eqb offset 8) refl refl refl
    where
      by : (a b c : Bool) → eqb offset 0 ≡ a → eqb offset 4 ≡ b → eqb offset 8 ≡ c → MachineKept (written_to m offset v)
      by true b c e f g = rw e (with-slot k (status_written v m.core) m.run (status-kept v k.core) refl refl k.run)
      by false true c e f g = rw (e, f) control-machine
      by false false true e f g =
          rw (e, f, g) (record { core = pointer-kept v k.core h; slot = nothing-held m.core.phase m.core.window v; run = k.run })
      by false false false e f g = rw (e, f, g) (with-slot k m.core m.run k.core refl refl k.run)

  write-after : v < 4294967296 → (offset : ℕ) → AfterWrite (write_of m offset v)
  unfolding write_of
  write-after h offset =
      on AfterWrite (keeps m)
      (λ e. on AfterWrite (is_register offset) (λ r. written-kept h offset) (λ r. tt))
      (λ e. tt)

-- Every register write takes a machine that keeps the rules to one that keeps them.
pub write_keeps : WriteKeeps
write_keeps m n offset v s h w =
    kept-sound (subst AfterWrite (sym w.answer) (write-after v (sound-kept s) h offset))
