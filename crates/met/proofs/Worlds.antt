-- Worlds whose machine is kept, and the steps that change the machine alone: to rest, to Fetch, to a fault.
-- Assumes nothing.
use Prim.Native.Nat.{ℕ, ◌<◌}
use mathlib.Core.Path.{◌≡◌, refl, subst⁻¹, ◌∙◌}
use mathlib.Core.List.{List}
use mathlib.Core.Bool.{Bool, true, false}
use lib.ListN.{length}
use Rattle.words.specs.Slices.{AllBytes}
use Rattle.regs.specs.Modes.{mode_number}
use Rattle.regs.specs.Control.{run}
use Rattle.image.specs.Rules.{fault_code}
use Rattle.machine.specs.declared.Core.{Core}
use Rattle.machine.specs.declared.Phase.{Phase}
use Rattle.machine.specs.declared.Phase.TheVariants.{Fetch, Faulted}
use Rattle.bus.specs.declared.Window.{Window}
use Rattle.machine.specs.State.{phase_number, with_phase, with_busy, settled}
use Rattle.machine.specs.Step.{World, Answer, taken, stopped, laid, became, holding, settle, faulted, rest_step}
use Rattle.met.specs.Sound.{AllBeats, SoundWorld}
use Rattle.met.proofs.Kept.{InPhase, RulesKept, HoldsIn, settles, moves-to, on}
use Rattle.met.proofs.ByParts.{kept-sound, sound-kept}

pub record KeptWorld (w : World) : Type 0 where
  pub core : RulesKept w.core
  pub slot : HoldsIn (phase_number w.core.phase) w.core.window w.core.pointer.0 w.slot
  pub run : w.run < 4294967296
  pub size : length w.memory ≡ w.core.window.length
  pub memory : AllBytes w.memory
  pub input : AllBeats w.input

pub sound-world : {w : World} → KeptWorld w → SoundWorld w
sound-world h =
    record { machine = kept-sound (record { core = h.core; slot = h.slot; run = h.run }); size = h.size; memory = h.memory; input = h.input }

pub kept-world : {w : World} → SoundWorld w → KeptWorld w
kept-world h =
    let k = sound-kept h.machine in
    record { core = k.core; slot = k.slot; run = k.run; size = h.size; memory = h.memory; input = h.input }

-- what is to hold after a step
abbrev pub After : Answer → Type 0
After (taken v) = KeptWorld v
After (stopped r) = Unit {0}

-- and after a rule: with the slot as the phase that is entered leaves it
abbrev pub Leads : Answer → Type 0
Leads (taken v) = KeptWorld (holding v (settled v.core.phase v.slot))
Leads (stopped r) = Unit {0}

pub settles-after : (a : Answer) → Leads a → After (settle a)
settles-after (taken v) h = h
settles-after (stopped r) h = tt

module _ {w : World} (h : KeptWorld w) where
  -- memory, beats and the core change, and not its window or pointer
  pub laid_kept : (m : Core) (memory input output : List ℕ) (room : ℕ) → m.window ≡ w.core.window → m.pointer.0 ≡ w.core.pointer.0 → RulesKept m
      → length memory ≡ length w.memory → AllBytes memory → AllBeats input → Leads (taken (laid w m memory input output room))
  laid_kept m memory input output room e a k l g i =
      record {
        core = k;
        slot = subst⁻¹ (λ (x : Window). HoldsIn (phase_number m.phase) x m.pointer.0 (settled m.phase w.slot)) e
            (subst⁻¹ (λ (x : ℕ). HoldsIn (phase_number m.phase) w.core.window x (settled m.phase w.slot)) a
            (settles (phase_number w.core.phase) w.core.window w.core.pointer.0 m.phase w.slot h.slot));
        run = h.run;
        size = l ∙ rw e h.size;
        memory = g;
        input = i;
      }

  -- the core alone changes, and not its window or pointer
  pub became-kept : (m : Core) → m.window ≡ w.core.window → m.pointer.0 ≡ w.core.pointer.0 → RulesKept m → Leads (taken (became w m))
  became-kept m e a k = laid_kept m w.memory w.input w.output w.room e a k refl h.memory h.input

  -- of the core only the phase and BUSY
  pub phase-after : (p : Phase) (busy : Bool) → InPhase w.core.mode w.core.window busy (run w.core.control) p
      → Leads (taken (became w (with_phase p (with_busy busy w.core))))
  phase-after p busy i = became-kept (with_phase p (with_busy busy w.core)) refl refl (moves-to h.core p busy i)

  pub fault-after : (code address : ℕ) → fault_code (mode_number w.core.mode) code ≡ true → address < 4294967296
      → Leads (faulted w code address)
  fault-after code address c a = phase-after (Faulted (record { code = code; address = address })) false (refl, c, a)

  pub rest-after : Leads (rest_step w)
  unfolding rest_step
  rest-after = on Leads (run w.core.control) (λ r. phase-after Fetch true refl) (λ r. tt)
