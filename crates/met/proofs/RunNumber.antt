-- What a register write does to the slot and to the run number; no step changes the number.
-- Assumes nothing.
use Rattle.std.specs.Prelude.{Ok, Err, None}
use Prim.Native.Nat.{ℕ, ◌/◌, ◌%◌}
use mathlib.Core.Path.{◌≡◌, refl, sym, ap, ◌∙◌}
use mathlib.Core.Bool.{Bool, true, false, not, cond, ◌&&◌, and-false}
use native.Mathlib.Omega.{arith}
use lib.Dec.{eqb}
use borrow.Author.Tests.{eqb-true}
use Rattle.words.specs.Bits.{bit}
use Rattle.regs.specs.Control as control
use Rattle.regs.specs.Control.{reset_by, started_by, raised, run_from}
use Rattle.regs.specs.Offsets.{chosen, is_register}
use Rattle.machine.specs.declared.Core.{Core}
use Rattle.bus.specs.declared.Refusal.TheVariants.{NoRegister}
use Rattle.machine.specs.declared.Machine.{Machine}
use Rattle.machine.specs.declared.Phase.{Phase}
use Rattle.machine.specs.declared.Phase.TheVariants.{Rest, Fetch, Move, WriteBack, Ended, Halted, Faulted}
use Rattle.machine.specs.State.{settled}
use Rattle.machine.specs.Saved.{keeps, spoiled}
use Rattle.machine.specs.Registers.{control_stored, released, control_written, written_to, write_of}
use Rattle.machine.proofs.RunLaws.{run-tells}
use Rattle.met.specs.Theorems.{SlotOutlives, RunNumberRises, RunNumberStays}

-- a write that is done
done-is : (m n : Machine) (offset v : ℕ) → Ok n ≡ write_of m offset v → n ≡ written_to m offset v
unfolding write_of
done-is m n offset v e = by (keeps m) (is_register offset) refl refl
  where
    by : (k r : Bool) → keeps m ≡ k → is_register offset ≡ r → n ≡ written_to m offset v
    by true true f g = let d : Ok n ≡ Ok (written_to m offset v) = e ∙ rw (f, g) in cc
    by true false f g = absurd (let d : Ok n ≡ Err NoRegister = e ∙ rw (f, g) in let z : ◌≡◌ {A = ℕ} 0 1 = cc in omega arith)
    by false r f g = absurd (let d : Ok n ≡ Err (spoiled m) = e ∙ rw f in let z : ◌≡◌ {A = ℕ} 0 1 = cc in omega arith)

pub slot-outlives : SlotOutlives
slot-outlives m n offset v w other =
    let is = done-is m n offset v w.answer in
    ap (λ (x : Machine). x.slot) is
    ∙ (λ i. settled (sym (ap (λ (x : Machine). x.core.phase) is) i) (same (eqb offset 0) (eqb offset 4) (eqb offset 8) refl refl refl i))
  where
    same : (a b c : Bool) → eqb offset 0 ≡ a → eqb offset 4 ≡ b → eqb offset 8 ≡ c → chosen offset m.slot m.slot None m.slot ≡ m.slot
    same true b c e f g = rw e
    same false true c e f g = rw (e, f)
    same false false true e f g = absurd (other (eqb-true offset 8 g))
    same false false false e f g = rw (e, f, g)

-- RUN of a control register that a write leaves, and RUN that is written
run-stored : (v : ℕ) → bit 5 (v % 262144) ≡ bit 5 v
run-stored v =
    let same : v % 262144 / 32 % 2 ≡ v / 32 % 2 = omega arith in
    ap (λ (x : ℕ). eqb x 1) same

never_both : (b : Bool) → (not b && b) ≡ false
never_both true = refl
never_both false = refl

released-control : (p : Phase) (c : Core) → (released p c).control ≡ c.control
released-control Rest c = refl
released-control Fetch c = refl
released-control (Move k) c = refl
released-control (WriteBack k) c = refl
released-control Ended c = refl
released-control Halted c = refl
released-control (Faulted f) c = refl

-- RUN after a control write: 0 after a reset, else as written
run-after : (v : ℕ) (c : Core) (r : Bool) → reset_by v c.control ≡ r → control.run (control_written v c).control ≡ (not r && bit 5 v)
unfolding control_written
run-after v c true e = rw e
run-after v c false e = rw e (by (bit 5 v))
  where
    by : (runs : Bool) → control.run (cond runs (control_stored v c) (released c.phase (control_stored v c))).control ≡ bit 5 v
    by true = run-stored v
    by false = ap control.run (released-control c.phase (control_stored v c)) ∙ run-stored v

starts_by : (was r now : Bool) (x y : ℕ) → cond (not r && (not was && now)) x y ≡ cond (not was && (not r && now)) x y
starts_by was true now x y = ap (λ (b : Bool). cond b x y) (sym (and-false (not was)))
starts_by was false now x y = refl

pub run-number-rises : RunNumberRises
run-number-rises m n offset v w =
    let is = done-is m n offset v w.answer in
    ap (λ (x : Machine). x.run) is ∙ by (eqb offset 0) (eqb offset 4) (eqb offset 8) refl refl refl
    ∙ ap (λ (x : Machine). cond (not (control.run m.core.control) && control.run x.core.control) (raised m.run) m.run) (sym is)
  where
    stays : cond (not (control.run m.core.control) && control.run m.core.control) (raised m.run) m.run ≡ m.run
    stays = ap (λ (b : Bool). cond b (raised m.run) m.run) (never_both (control.run m.core.control))

    by : (a b c : Bool) → eqb offset 0 ≡ a → eqb offset 4 ≡ b → eqb offset 8 ≡ c
        → (written_to m offset v).run ≡ cond (not (control.run m.core.control) && control.run (written_to m offset v).core.control) (raised m.run) m.run
    by true b c e f g = rw e (sym stays)
    by false true c e f g =
        rw (e, f)
        (starts_by (control.run m.core.control) (reset_by v m.core.control) (bit 5 v) (raised m.run) m.run
        ∙ ap (λ (x : Bool). cond (not (control.run m.core.control) && x) (raised m.run) m.run) (sym (run-after v m.core _ refl)))
    by false false true e f g = rw (e, f, g) (sym stays)
    by false false false e f g = rw (e, f, g) (sym stays)

pub run-number-stays : RunNumberStays
run-number-stays budget w = (run-tells budget w).passed.run
