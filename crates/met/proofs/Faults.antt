-- "Only reset leaves Faulted": no step is taken there, so that a run leaves everything as it is; and of the register writes every one
-- but the reset leaves it so.
-- Assumes nothing.
use Rattle.std.specs.Prelude.{Result, Ok, Err}
use Prim.Native.Nat.{ℕ}
use mathlib.Core.Path.{◌≡◌, refl, sym, ap, subst, ◌∙◌}
use mathlib.Core.Bool.{Bool, true, false}
use lib.Dec.{eqb}
use borrow.Author.Tests.{eqb-true}
use Rattle.regs.specs.Control as register
use Rattle.regs.specs.Offsets.{is_register}
use Rattle.machine.specs.declared.Core.{Core}
use Rattle.machine.specs.declared.Machine.{Machine}
use Rattle.machine.specs.declared.Fault.{Fault}
use Rattle.machine.specs.declared.Phase.{Phase}
use Rattle.machine.specs.declared.Phase.TheVariants.{Faulted}
use Rattle.machine.specs.declared.Reason.TheVariants as reason
use Rattle.bus.specs.declared.Refusal.{Refusal}
use Rattle.machine.specs.Saved.{keeps}
use Rattle.machine.specs.Registers.{control_stored, released, control_written, written_to, write_of}
use Rattle.machine.specs.State.{machine_with}
use Rattle.machine.specs.Step.{settle, step, step_in}
use Rattle.machine.proofs.RunLaws.{run-stopped}
use Rattle.met.specs.Faults.{AfterWrite, stays, reset}
use Rattle.met.specs.Theorems.{FaultedStands, OnlyResetLeaves}
use Rattle.met.proofs.Kept.{on}

-- No step is taken: a run of any budget ends at once, with that reason.
pub faulted-stands : FaultedStands
unfolding step
faulted-stands w f p budget = run-stopped w reason.Faulted (ap (λ (q : Phase). settle (step_in q w)) p) budget

abbrev After : (m : Machine) (f : Fault) (v offset : ℕ) → Result Machine Refusal → Type 0
After m f v offset (Ok n) = AfterWrite m f offset v n
After m f v offset (Err why) = Unit {0}

module _ (m : Machine) (f : Fault) (p : m.core.phase ≡ Faulted f) (v : ℕ) where
  released-stays : (released m.core.phase (control_stored v m.core)).phase ≡ Faulted f
  released-stays = ap (λ (q : Phase). (released q (control_stored v m.core)).phase) p ∙ p

  after-control : (offset : ℕ) → offset ≡ 4
      → AfterWrite m f offset v (machine_with (control_written v m.core) m.slot (register.run_from v m.core.control m.run))
  unfolding control_written
  after-control offset e = by (register.reset_by v m.core.control) refl (register.run (register.as_control v))
    where
      by : (b : Bool) → register.reset_by v m.core.control ≡ b → Bool
          → AfterWrite m f offset v (machine_with (control_written v m.core) m.slot (register.run_from v m.core.control m.run))
      by true r runs = reset e r (rw r)
      by false r runs =
          stays (rw r (on (λ (c : Core). c.phase ≡ Faulted f) (register.run (register.as_control v)) (λ g. p) (λ g. released-stays)))

  after : (offset : ℕ) → After m f v offset (write_of m offset v)
  unfolding write_of
  after offset =
      on (After m f v offset) (keeps m)
      (λ k. on (After m f v offset) (is_register offset) (λ r. by (eqb offset 0) (eqb offset 4) (eqb offset 8) refl refl refl) (λ r. tt))
      (λ k. tt)
    where
      by : (a b c : Bool) → eqb offset 0 ≡ a → eqb offset 4 ≡ b → eqb offset 8 ≡ c → AfterWrite m f offset v (written_to m offset v)
      by true b c e g h = rw e (stays p)
      by false true c e g h = rw (e, g) (after-control offset (eqb-true offset 4 g))
      by false false true e g h = rw (e, g, h) (stays p)
      by false false false e g h = rw (e, g, h) (stays p)

-- Of the register writes only the reset leaves it.
pub only-reset-leaves : OnlyResetLeaves
only-reset-leaves m f p offset v n w = subst (After m f v offset) (sym w.answer) (after m f p v offset)
