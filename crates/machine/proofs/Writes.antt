-- A register write, and a control write, by their cases.
-- Assumes nothing.
use Rattle.std.specs.Prelude.{Ok, Err}
use Prim.Native.Nat.{ℕ, ◌%◌, ◌^◌}
use mathlib.Core.Path.{◌≡◌, refl, ap, ◌∙◌}
use mathlib.Core.Bool.{Bool, true, false, not, cond, ◌&&◌}
use Rattle.bus.specs.declared.Refusal.{Refusal}
use Rattle.bus.specs.declared.Refusal.TheVariants.{NoRegister}
use lib.Dec.{eqb}
use native.Mathlib.Omega.{arith}
use borrow.Author.Tests.{eqb-true, eqb-false}
use Rattle.regs.specs.Offsets.{chosen, is_register}
use Rattle.regs.proofs.Offsets.{at-status, at_none}
use Rattle.regs.specs.Control.{run, clear_interrupt, as_control, reset_by, count_from}
use Rattle.machine.specs.declared.Core.{Core}
use Rattle.machine.specs.declared.Machine.{Machine}
use Rattle.machine.specs.declared.Phase.{Phase}
use Rattle.machine.specs.declared.Phase.TheVariants.{Rest, Fetch, Move, WriteBack, Ended, Halted, Faulted}
use Rattle.machine.specs.Saved.{keeps, spoiled}
use Rattle.machine.specs.State.{with_control, rested, fresh_core}
use Rattle.machine.specs.Registers.{control_stored, released, control_written, written_to, wrote_to, write_of}
use Rattle.machine.specs.Helpers.Worlds.{stands}

-- RUN 0 leads to Rest from the phases that stand, and leaves the others
released-if : (p : Phase) (m : Core) → released p m ≡ cond (stands p) (rested m) m
released-if Rest m = refl
released-if Fetch m = refl
released-if (Move k) m = refl
released-if (WriteBack k) m = refl
released-if Ended m = refl
released-if Halted m = refl
released-if (Faulted f) m = refl

module _ (v : ℕ) (m : Core) where
  pub write-resets : reset_by v m.control ≡ true → control_written v m ≡ fresh_core m.mode m.window
  unfolding control_written
  write-resets e = rw e

  pub stored-by : {clears : Bool} {count : ℕ} → clears ≡ clear_interrupt (as_control v) → count ≡ count_from v m.control m.count
      → with_control (v % 2 ^ 18) (m.pending && not clears) count m ≡ control_stored v m
  stored-by p n = rw (p, n)

  -- what is control_stored, and whether the phase ends with it
  ends : (runs stood : Bool) (p : Phase) → stands p ≡ stood
      → cond runs (control_stored v m) (released p (control_stored v m)) ≡ cond (stood && not runs) (rested (control_stored v m)) (control_stored v m)
  ends true true p e = refl
  ends true false p e = refl
  ends false true p e = released-if p (control_stored v m) ∙ rw e
  ends false false p e = released-if p (control_stored v m) ∙ rw e

  module _ (e : reset_by v m.control ≡ false) where
    pub write-runs : run (as_control v) ≡ true → control_written v m ≡ control_stored v m
    unfolding control_written
    write-runs f = rw (e, f)

    written : control_written v m ≡ cond (stands m.phase && not (run (as_control v))) (rested (control_stored v m)) (control_stored v m)
    unfolding control_written
    written = rw e (ends (run (as_control v)) _ m.phase refl)

    pub write-ends : (stands m.phase && not (run (as_control v))) ≡ true → control_written v m ≡ rested (control_stored v m)
    write-ends h = written ∙ rw h

    pub write-stays : (stands m.phase && not (run (as_control v))) ≡ false → control_written v m ≡ control_stored v m
    write-stays h = written ∙ rw h

-- ---- a register write, by the tests that led there

-- what a control write and a pointer write alone change
pub neither : {A : Type 0} (offset : ℕ) (same control pointer : A) → (offset ≡ 4 → ⊥) → (offset ≡ 8 → ⊥) → chosen offset same control pointer same ≡ same
neither offset same control pointer f g = by (eqb offset 0) refl
  where
    by : (t : Bool) → eqb offset 0 ≡ t → chosen offset same control pointer same ≡ same
    by true e = at-status same control pointer same offset (eqb-true offset 0 e)
    by false e = at_none same control pointer same offset (eqb-false offset 0 e) f g

module _ (m : Machine) (offset v : ℕ) where
  pub wrote_none : is_register offset ≡ false → Err NoRegister ≡ wrote_to m offset v
  wrote_none r = rw r

  pub wrote-done : {n : Machine} → is_register offset ≡ true → n ≡ written_to m offset v → Ok n ≡ wrote_to m offset v
  wrote-done r e = rw r (ap Ok e)

  pub write-broken : keeps m ≡ false → {why : Refusal} → why ≡ spoiled m → Err why ≡ write_of m offset v
  unfolding write_of
  write-broken k e = rw (k, e)

  pub write_kept : keeps m ≡ true → wrote_to m offset v ≡ write_of m offset v
  unfolding write_of
  write_kept k = rw k

-- a write that is done was made of a machine that keeps the rules
pub was-done : (m n : Machine) (offset v : ℕ) → is_register offset ≡ true → Ok n ≡ write_of m offset v
    → (keeps m ≡ true) × (n ≡ written_to m offset v)
unfolding write_of
was-done m n offset v o e = by (keeps m) refl
  where
    by : (b : Bool) → keeps m ≡ b → (keeps m ≡ true) × (n ≡ written_to m offset v)
    by true k = (k, let f : Ok n ≡ Ok (written_to m offset v) = e ∙ rw (k, o) in cc)
    by false k = absurd (let f : Ok n ≡ Err (spoiled m) = e ∙ rw k in let z : ◌≡◌ {A = ℕ} 0 1 = cc in omega arith)
