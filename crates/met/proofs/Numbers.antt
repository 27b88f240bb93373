-- The mode, the status and the phase as numbers, and back.
-- Assumes nothing.
use Prim.Native.Nat.{ℕ, zero, suc, ◌+◌, ◌*◌, ◌/◌, ◌%◌, ◌≤◌, ◌<◌}
use mathlib.Core.Path.{◌≡◌, refl, sym, ap, ◌∙◌}
use mathlib.Core.Bool.{Bool, true, false}
use mathlib.Core.List.{[], ◌∷◌}
use native.Mathlib.Omega.{arith}
use native.Mathlib.Nat.{mod-eq_of_lt}
use lib.ListN.{get_or}
use lib.Dec.{eqb}
use Rattle.words.specs.Bits.{bit}
use Rattle.words.specs.Bits.{flag}
use Rattle.words.proofs.Recode.{join-split}
use Rattle.regs.specs.declared.Mode.{Mode}
use Rattle.regs.specs.declared.Mode.TheVariants.{MemoryToMemory, MemoryToStream, StreamToMemory}
use Rattle.regs.specs.declared.Status.{Status}
use Rattle.regs.specs.Modes.{mode_number, mode_of}
use Rattle.regs.specs.Status.{status_number, status_of}
use Rattle.image.specs.Rules as rule
use Rattle.words.proofs.Bits.{flag-back, flag-there}
use Rattle.machine.specs.declared.Work.{Work}
use Rattle.machine.specs.declared.Fault.{Fault}
use Rattle.machine.specs.declared.Phase.{Phase}
use Rattle.machine.specs.declared.Phase.TheVariants.{Rest, Fetch, Move, WriteBack, Ended, Halted, Faulted}
use Rattle.machine.specs.State.{phase_number}
use Rattle.machine.specs.Saved.{none, no_fault, in_hand, fault_in}

pub mode-back : (mode : Mode) → mode_of (mode_number mode) ≡ mode
mode-back MemoryToMemory = refl
mode-back MemoryToStream = refl
mode-back StreamToMemory = refl

pub mode-there : (n : ℕ) → n ≤ 2 → mode_number (mode_of n) ≡ n
mode-there zero h = refl
mode-there (suc zero) h = refl
mode-there (suc (suc n)) h = omega arith

flag-lt : (b : Bool) → flag b < 2
flag-lt true = omega arith
flag-lt false = omega arith

as-flag : (n : ℕ) (b : Bool) → n ≡ flag b → eqb n 1 ≡ b
as-flag n b e = ap (λ (x : ℕ). eqb x 1) e ∙ flag-back b

-- the bits of a status
module _ (s : Status) where
  abbrev bounds : Type 0
  bounds = (flag s.error < 2) × (flag s.eop < 2) × (flag s.descriptor < 2) × (flag s.chain < 2) × (flag s.busy < 2)

  small : bounds
  small = (flag-lt s.error, flag-lt s.eop, flag-lt s.descriptor, flag-lt s.chain, flag-lt s.busy)

  pub status-lt-32 : status_number s < 32
  status-lt-32 = omega (arith, small)

  pub error-bit : bit 0 (status_number s) ≡ s.error
  error-bit = as-flag (status_number s / 1 % 2) s.error (omega (arith, small))

  pub eop-bit : bit 1 (status_number s) ≡ s.eop
  eop-bit = as-flag (status_number s / 2 % 2) s.eop (omega (arith, small))

  descriptor-bit : bit 2 (status_number s) ≡ s.descriptor
  descriptor-bit = as-flag (status_number s / 4 % 2) s.descriptor (omega (arith, small))

  chain-bit : bit 3 (status_number s) ≡ s.chain
  chain-bit = as-flag (status_number s / 8 % 2) s.chain (omega (arith, small))

  pub busy-bit : bit 4 (status_number s) ≡ s.busy
  busy-bit = as-flag (status_number s / 16 % 2) s.busy (omega (arith, small))

  pub status-back : status_of (status_number s) ≡ s
  status-back = λ i. record { error = error-bit i; eop = eop-bit i; descriptor = descriptor-bit i; chain = chain-bit i; busy = busy-bit i }

in_order : (a b c d e : ℕ) → a * 1 + b * 2 + c * 4 + d * 8 + e * 16 ≡ e * 16 + (d * 8 + (c * 4 + (b * 2 + (a * 1 + 0))))
in_order a b c d e = omega arith

pub status-there : (n : ℕ) → n < 32 → status_number (status_of n) ≡ n
status-there n h =
    let f : (w : ℕ) → flag (eqb (n / w % 2) 1) ≡ n / w % 2 = λ w. flag-there (n / w % 2) (omega arith) in
    simp f (in_order (n / 1 % 2) (n / 2 % 2) (n / 4 % 2) (n / 8 % 2) (n / 16 % 2) ∙ join-split (1 ∷ 1 ∷ 1 ∷ 1 ∷ 1 ∷ []) n ∙ mod-eq_of_lt h)

-- the phase of this number, with what it keeps
abbrev pub phase_by : ℕ → Work → Fault → Phase
phase_by n k g = get_or (Rest ∷ Fetch ∷ Move k ∷ WriteBack k ∷ Ended ∷ Halted ∷ []) n (Faulted g)

pub phase-back : (p : Phase) → phase_by (phase_number p) (in_hand p) (fault_in p) ≡ p
phase-back Rest = refl
phase-back Fetch = refl
phase-back (Move k) = refl
phase-back (WriteBack k) = refl
phase-back Ended = refl
phase-back Halted = refl
phase-back (Faulted g) = refl

module _ (k : Work) (g : Fault) where
  -- the number comes back, and what the phase keeps, where the rest is zero
  pub phase-there : (n : ℕ) → n ≤ 6 → (rule.working n ≡ false → k ≡ none) → (rule.in_faulted n ≡ false → g ≡ no_fault)
      → (phase_number (phase_by n k g) ≡ n) × (in_hand (phase_by n k g) ≡ k) × (fault_in (phase_by n k g) ≡ g)
  phase-there zero h e f = (refl, sym (e refl), sym (f refl))
  phase-there (suc zero) h e f = (refl, sym (e refl), sym (f refl))
  phase-there (suc (suc zero)) h e f = (refl, refl, sym (f refl))
  phase-there (suc (suc (suc zero))) h e f = (refl, refl, sym (f refl))
  phase-there (suc (suc (suc (suc zero)))) h e f = (refl, sym (e refl), sym (f refl))
  phase-there (suc (suc (suc (suc (suc zero))))) h e f = (refl, sym (e refl), sym (f refl))
  phase-there (suc (suc (suc (suc (suc (suc zero)))))) h e f = (refl, sym (e refl), refl)
  phase-there (suc (suc (suc (suc (suc (suc (suc n))))))) h e f = absurd (omega arith)
