-- Where the registers are, and reading them.
-- Assumes nothing.
use Rattle.std.specs.Prelude.{ℕ, Bool, true, false, cond, eqb, Result, Ok, Err}
use Rattle.bus.specs.declared.Refusal.TheVariants.{NoRegister}
use Rattle.regs.specs.declared.Status.{Status}
use Rattle.regs.specs.declared.Control.{Control}
use Rattle.regs.specs.declared.Pointer.{Pointer}
use Rattle.bus.specs.declared.Refusal.{Refusal}
use Rattle.regs.specs.Status.{status_number}

-- offsets 0 status, 4 control, 8 next_descriptor_pointer; any other is none
abbrev pub chosen {ℓ} : {A : Type ℓ} → (offset : ℕ) (status control pointer none : A) → A
chosen offset status control pointer none =
    cond (eqb offset 0) status (cond (eqb offset 4) control (cond (eqb offset 8) pointer none))

abbrev pub is_register : ℕ → Bool
is_register offset = chosen offset true true true false

-- a register reads as its number; 1 NoRegister: offset not 0, 4, 8
abbrev pub register_at : Status → Control → Pointer → (offset : ℕ) → Result ℕ Refusal
register_at status control pointer offset =
    chosen offset (Ok (status_number status)) (Ok control.0) (Ok pointer.0) (Err NoRegister)
