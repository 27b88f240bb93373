-- Every machine met in use keeps the image rules, hence saves to an image that loads back as it.
-- Assumes nothing.
use Rattle.std.specs.Prelude.{Result, Ok, Err, Some, None}
use Prim.Native.Nat.{ℕ}
use mathlib.Core.Path.{◌≡◌, refl, sym, subst}
use mathlib.Core.Bool.{true, true≢false, ◌&&◌}
use mathlib.Core.List.{List, [], ◌∷◌}
use native.Mathlib.Omega.{arith}
use lib.ListN.{length}
use lib.Dec.{eqb}
use borrow.Author.Tests.{eqb-true}
use Rattle.words.specs.Slices.{AllBytes}
use Rattle.ledger.specs.Records.{is_ledger}
use Rattle.flow.specs.Beats.{beats_in}
use Rattle.machine.specs.declared.Machine.{Machine}
use Rattle.machine.specs.declared.Progress.{Progress}
use Rattle.machine.specs.declared.Ran.{Ran}
use Rattle.machine.specs.declared.StepAnswer.{StepAnswer}
use Rattle.machine.specs.declared.StepAnswer.TheVariants as one
use Rattle.bus.specs.declared.Refusal.{Refusal}
use Rattle.bus.specs.declared.Window.{Window}
use Rattle.image.specs.Layout.{Typed}
use Rattle.machine.specs.declared.Phase.{Phase}
use Rattle.machine.specs.declared.Phase.TheVariants.{Rest, Fetch, Move, WriteBack, Ended, Halted, Faulted}
use Rattle.machine.specs.Saved.{fields_of, tail_of, keeps}
use Rattle.machine.specs.Step.{World, Answer, taken, stopped, machine_in, step}
use Rattle.machine.specs.State.{phase_number, settled, Slot}
use Rattle.machine.specs.Run.{Lent, Returned, Served, serves, refused, even, served_of, world_of, stepped_as, step_answer, run_answer, Stepped, HasRun}
use Rattle.met.specs.Sound.{Sound, AllBeats, SoundWorld}
use Rattle.met.specs.Met.{Met}
use Rattle.met.specs.Met as met
use Rattle.met.specs.Theorems.{MetKeeps, MetSaves}
use Rattle.met.proofs.RoundTrip.{loaded-keeps, loaded-typed, loads-back}
use Rattle.met.proofs.Writes.{fresh_keeps, write_keeps}
use Rattle.met.proofs.Kept.{HoldsIn, settles, on}
use Rattle.met.proofs.ByParts.{kept-sound, sound-kept}
use Rattle.met.proofs.Steps.{step_keeps, run-keeps}

-- ---- the world of a call

beats-of : (xs : List ℕ) → AllBytes xs → AllBeats (beats_in xs)
beats-of [] g = tt
beats-of (x ∷ []) g = tt
beats-of (x ∷ y ∷ xs) g = (let a = g.0 in let b = g.1.0 in omega arith, beats-of xs g.1.1)

-- where what is lent serves, the world is sound
abbrev pub IfServes : Type 0 → Served → Type 0
IfServes A serves = A
IfServes A (refused why) = Unit {0}

-- the world's machine is the one that is given: it holds nothing outside Fetch, Move and WriteBack
open-sound : (m : Machine) (l : Lent) → Sound m → Sound (machine_in (world_of m l))
open-sound m l s =
    let k = sound-kept s in
    kept-sound
    (record { core = k.core; slot = settles (phase_number m.core.phase) m.core.window m.core.pointer.0 m.core.phase m.slot k.slot; run = k.run })

-- so that nothing of it changes
held_same : (p : Phase) (w : Window) (pointer : ℕ) (slot : Slot) → HoldsIn (phase_number p) w pointer slot → settled p slot ≡ slot
held_same Rest w pointer None h = refl
held_same Rest w pointer (Some look) h = absurd (true≢false (sym h.0))
held_same Fetch w pointer slot h = refl
held_same (Move k) w pointer slot h = refl
held_same (WriteBack k) w pointer slot h = refl
held_same Ended w pointer None h = refl
held_same Ended w pointer (Some look) h = absurd (true≢false (sym h.0))
held_same Halted w pointer None h = refl
held_same Halted w pointer (Some look) h = absurd (true≢false (sym h.0))
held_same (Faulted f) w pointer None h = refl
held_same (Faulted f) w pointer (Some look) h = absurd (true≢false (sym h.0))

pub opened-same : (m : Machine) → keeps m ≡ true → Typed (fields_of m.core) (tail_of m)
    → ◌≡◌ {A = Machine} (record { core = m.core; slot = settled m.core.phase m.slot; run = m.run }) m
opened-same m k t =
    let s : Sound m = record { rules = k; typed = t } in
    let h = (sound-kept s).slot in
    λ i. record { core = m.core; slot = held_same m.core.phase m.core.window m.core.pointer.0 m.slot h i; run = m.run }

pub lent-sound : (m : Machine) (l : Lent) → Sound m → AllBytes l.window → AllBytes l.beats
    → IfServes (SoundWorld (world_of m l)) (served_of m l)
unfolding served_of
lent-sound m l s g b =
    let opened = open-sound m l s in
    let P = IfServes (SoundWorld (world_of m l)) in
    on P (keeps m)
    (λ k. on P (even l.beats && even l.out)
    (λ e. on P (is_ledger (length l.ledger) l.used)
    (λ d. on P (eqb (length l.window) m.core.window.length)
    (λ n. record { machine = opened; size = eqb-true _ _ n; memory = g; input = beats-of l.beats b }) (λ n. tt))
    (λ d. tt))
    (λ e. tt))
    (λ k. tt)

-- ---- the machine that comes back

abbrev SoundStep : Result StepAnswer Refusal → Type 0
SoundStep (Ok (one.Taken p)) = Sound p.machine
SoundStep (Ok (one.Stopped r)) = Unit {0}
SoundStep (Err why) = Unit {0}

abbrev SoundRun : Result Ran Refusal → Type 0
SoundRun (Ok r) = Sound r.machine
SoundRun (Err why) = Unit {0}

module _ (l : Lent) (w : World) where
  answer-sound : SoundWorld w → (a : Answer) → step w ≡ a → SoundStep (Ok (stepped_as l.used w a))
  answer-sound s (taken v) e = (step_keeps w v s e).machine
  answer-sound s (stopped r) e = tt

  step-sound : (served : Served) → IfServes (SoundWorld w) served → SoundStep (step_answer l served w)
  step-sound serves s = answer-sound s (step w) refl
  step-sound (refused why) s = tt

  run_sound : (served : Served) → IfServes (SoundWorld w) served → (budget : ℕ) → SoundRun (run_answer l served w budget)
  run_sound serves s budget = (run-keeps budget w s).machine
  run_sound (refused why) s budget = tt

module _ {m : Machine} {l : Lent} {back : Returned} (s : Sound m) (g : AllBytes l.window) (b : AllBytes l.beats) where
  stepped-keeps : {p : Progress} → Stepped m l (Ok (one.Taken p)) back → Sound p.machine
  stepped-keeps h = subst SoundStep (sym h.answer) (step-sound l (world_of m l) (served_of m l) (lent-sound m l s g b))

  ran-keeps : {budget : ℕ} {r : Ran} → HasRun m l budget (Ok r) back → Sound r.machine
  ran-keeps {budget} h = subst SoundRun (sym h.answer) (run_sound l (world_of m l) (served_of m l) (lent-sound m l s g b) budget)

-- ---- every machine met

pub met-sound : {m : Machine} → Met m → Sound m
met-sound (met.fresh mode w l) = fresh_keeps mode w l
met-sound (met.loaded l) = record { rules = loaded-keeps l; typed = loaded-typed l }
met-sound (met.written h v w) = write_keeps _ _ _ _ (met-sound h) v w
met-sound (met.stepped h g b s) = stepped-keeps (met-sound h) g b s
met-sound (met.ran h g b r) = ran-keeps (met-sound h) g b r

-- Every machine met in use keeps the image rules.
pub met-keeps : MetKeeps
met-keeps m h = (met-sound h).rules

-- Hence it saves to an image that loads back as it.
pub met-saves : MetSaves
met-saves m ys zs r s h l p q = loads-back m ys zs r s (met-sound h).typed (met-keeps m h) l p q
