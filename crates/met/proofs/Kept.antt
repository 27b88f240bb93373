-- The image rules, as what they ask of a machine's parts: of each phase what it needs, and of the rest the same in all phases.
-- Assumes nothing.
use Rattle.std.specs.Prelude.{Some, None}
use Prim.Native.Nat.{ℕ, ◌%◌, ◌≤◌, ◌<◌}
use mathlib.Core.Path.{◌≡◌, refl}
use mathlib.Core.Bool.{Bool, true, false, cond, ◌||◌, true≢false}
use Rattle.bus.specs.declared.Window.{Window}
use Rattle.bus.specs.Window.{keeps_limits, in_window}
use Rattle.descriptor.specs.Layout.{owned}
use Rattle.descriptor.specs.Looking.{WordsFit, Look}
use Rattle.regs.specs.declared.Mode.{Mode}
use Rattle.regs.specs.Modes.{mode_number}
use Rattle.regs.specs.Control.{run}
use Rattle.image.specs.Rules.{between, asked, fault_code}
use Rattle.image.specs.Slot.{kind_at}
use Rattle.machine.specs.declared.Core.{Core}
use Rattle.machine.specs.declared.Machine.{Machine}
use Rattle.machine.specs.declared.Work.{Work}
use Rattle.machine.specs.declared.Phase.{Phase}
use Rattle.machine.specs.declared.Phase.TheVariants.{Rest, Fetch, Move, WriteBack, Ended, Halted, Faulted}
use Rattle.machine.specs.State.{phase_number, with_phase, with_busy, settled, Slot}
use Rattle.machine.specs.Saved.{kind_of, bytes_of}
use Rattle.machine.specs.Step.{wants_length}

-- ---- the descriptor in hand

-- address aligned and in the window, control bit 7 set, errors bit 7 zero; in modes 0 and 1 length not 0, errors and EOP seen 0
pub record Hand (mode : Mode) (w : Window) (k : Work) : Type 0 where
  pub aligned : k.at % 4 ≡ 0
  pub inside : in_window w k.at 32 ≡ true
  pub hardware : owned k.control.0 ≡ true
  pub low : k.errors < 128
  pub nonzero : wants_length mode ≡ true → k.length ≡ 0 → ⊥
  pub clean : wants_length mode ≡ true → k.errors ≡ 0
  pub no_eop : wants_length mode ≡ true → k.eop ≡ false
  pub at : k.at < 4294967296
  pub source : k.source < 4294967296
  pub destination : k.destination < 4294967296
  pub length : k.length < 65536
  pub control : k.control.0 < 256

-- Move: moved < L, EOP seen 0, errors 0 if moved is 0
pub record Moving (mode : Mode) (k : Work) : Type 0 where
  pub less : k.moved < asked (mode_number mode) k.length
  pub eop : k.eop ≡ false
  pub errors : k.moved ≡ 0 → k.errors ≡ 0

-- WriteBack: 1 <= moved <= L, and moved = L or EOP seen
pub record Moved (mode : Mode) (k : Work) : Type 0 where
  pub some : 1 ≤ k.moved
  pub most : k.moved ≤ asked (mode_number mode) k.length
  pub whole : k.eop ≡ false → k.moved ≡ asked (mode_number mode) k.length

-- ---- the core

abbrev pub InPhase : Mode → Window → (busy run : Bool) → Phase → Type 0
InPhase mode w busy run Rest = busy ≡ false
InPhase mode w busy run Fetch = busy ≡ true
InPhase mode w busy run (Move k) = (busy ≡ true) × Hand mode w k × Moving mode k
InPhase mode w busy run (WriteBack k) = (busy ≡ true) × Hand mode w k × Moved mode k
InPhase mode w busy run Ended = (busy ≡ true) × (run ≡ true)
InPhase mode w busy run Halted = (busy ≡ false) × (run ≡ true) × (wants_length mode ≡ false)
InPhase mode w busy run (Faulted f) =
    (busy ≡ false) × (fault_code (mode_number mode) f.code ≡ true) × (f.address < 4294967296)

-- the core's mode, window, BUSY and RUN suit the phase
abbrev pub Suits : Core → Phase → Type 0
Suits m p = InPhase m.mode m.window m.status.busy (run m.control) p

pub record RulesKept (m : Core) : Type 0 where
  pub limits : keeps_limits m.window.base m.window.length ≡ true
  pub marks : wants_length m.mode ≡ true → (m.status.error || m.status.eop) ≡ false
  pub control : m.control.0 < 262144
  pub pointer : m.pointer.0 < 4294967296
  pub count : m.count ≤ 254
  pub phase : Suits m m.phase

-- where only the phase and BUSY change, only what the phase asks is to be shown again
pub moves-to : {m : Core} → RulesKept m → (p : Phase) (busy : Bool) → InPhase m.mode m.window busy (run m.control) p
    → RulesKept (with_phase p (with_busy busy m))
moves-to k p busy h =
    record { limits = k.limits; marks = k.marks; control = k.control; pointer = k.pointer; count = k.count; phase = h }

-- what holds either way of a test holds of the choice
pub on {ℓ} : {A : Type ℓ} (P : A → Type 0) (b : Bool) {x y : A} → (b ≡ true → P x) → (b ≡ false → P y) → P (cond b x y)
on P true f g = f refl
on P false f g = g refl

pub neither : (a b : Bool) → (a || b) ≡ false → (a ≡ false) × (b ≡ false)
neither false b e = (refl, e)
neither true b e = absurd (true≢false e)

-- ---- what was read ahead

-- it is what the look at the pointer finds, and its words are of 32 bits
pub record LookKept (w : Window) (pointer : ℕ) (look : Look) : Type 0 where
  pub kind : kind_of look ≡ kind_at w pointer
  pub fits : WordsFit (bytes_of look)

-- a held slot stands only in Fetch, Move and WriteBack
abbrev pub HoldsIn : (phase : ℕ) → Window → (pointer : ℕ) → Slot → Type 0
HoldsIn phase w pointer None = Unit {0}
HoldsIn phase w pointer (Some look) = (between 1 3 phase ≡ true) × LookKept w pointer look

-- what a phase leaves of it is kept there
pub settles : (n : ℕ) (w : Window) (pointer : ℕ) (p : Phase) (slot : Slot) → HoldsIn n w pointer slot → HoldsIn (phase_number p) w pointer (settled p slot)
settles n w pointer Rest slot h = tt
settles n w pointer Fetch None h = tt
settles n w pointer Fetch (Some look) h = (refl, h.1)
settles n w pointer (Move k) None h = tt
settles n w pointer (Move k) (Some look) h = (refl, h.1)
settles n w pointer (WriteBack k) None h = tt
settles n w pointer (WriteBack k) (Some look) h = (refl, h.1)
settles n w pointer Ended slot h = tt
settles n w pointer Halted slot h = tt
settles n w pointer (Faulted f) slot h = tt

-- ---- the machine

pub record MachineKept (m : Machine) : Type 0 where
  pub core : RulesKept m.core
  pub slot : HoldsIn (phase_number m.core.phase) m.core.window m.core.pointer.0 m.slot
  pub run : m.run < 4294967296
