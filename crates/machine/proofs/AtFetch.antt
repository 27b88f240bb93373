-- The cases of Fetch, by the tests that led there.
-- Assumes nothing.
use Rattle.std.specs.Prelude.{Err, Some, None}
use Prim.Native.Nat.{ℕ}
use mathlib.Core.Path.{◌≡◌, refl, sym, ap, ◌∙◌}
use mathlib.Core.Bool.{Bool, true, false, ◌&&◌}
use mathlib.Core.List.{List}
use lib.Dec.{eqb}
use Rattle.words.specs.Promise.{Gives}
use Rattle.descriptor.specs.declared.Descriptor.{Descriptor}
use Rattle.descriptor.specs.declared.Miss.TheVariants as miss
use Rattle.descriptor.specs.Layout.{owned}
use Rattle.descriptor.specs.Looking.{look_at, Look}
use Rattle.regs.specs.Control.{run}
use Rattle.machine.specs.declared.Core.{Core}
use Rattle.machine.specs.declared.fetch.Fetched.{Fetched}
use Rattle.machine.specs.declared.Phase.{Phase}
use Rattle.machine.specs.declared.Phase.TheVariants.{Rest, Fetch, Move}
use Rattle.machine.specs.State.{misaligned, descriptor_outside, no_length, home, rested, with_phase, with_pointer, with_busy, settled, Slot}
use Rattle.machine.specs.Step.{World, stored, holding, settle, rest_step, wants_length, begun, ended, fetched, seen, meets, fetch_step}
use Rattle.machine.specs.Helpers.Worlds.{in_fault}
use Rattle.machine.specs.Helpers.Turns.{Looks, Begun}
use Rattle.machine.proofs.Answers.{both}
use Rattle.machine.proofs.Waiting.{at-phase}

-- nothing is read ahead
abbrev pub alone : Core → Fetched
alone c = record { core = c; slot = None }

module _ (m : Core) (r : Fetched) (slot : Slot) (memory : List ℕ) where
  pub not-running : {c : Core} → run m.control ≡ false → c ≡ rested m → r ≡ alone c → Looks fetch_step m slot memory r
  unfolding fetch_step
  not-running e g f = λ w. rw (e, f, g)

  -- what is seen
  pub running : run m.control ≡ true → {l : Look} → ((w : World) → l ≡ seen (holding (stored w m memory) slot))
      → Looks (λ (w : World). meets w l) m slot memory r → Looks fetch_step m slot memory r
  unfolding fetch_step
  running e f s = λ w. rw (e, sym (f w)) (s w)

  pub no_address : {c : Core} → c ≡ in_fault m misaligned m.pointer.0 → r ≡ alone c → Looks (λ (w : World). meets w (Err miss.Misaligned)) m slot memory r
  no_address g f = λ w. rw (f, g)

  pub no-descriptor : {c : Core} → c ≡ in_fault m descriptor_outside m.pointer.0 → r ≡ alone c → Looks (λ (w : World). meets w (Err miss.Outside)) m slot memory r
  no-descriptor g f = λ w. rw (f, g)

-- of a descriptor; OWNED and whether a length is wanted are told
module _ (m : Core) {c : Core} (r : Fetched) (d : Descriptor) (slot : Slot) (memory : List ℕ) {o : Bool} (t : Gives (owned d.control.0) o) where
  pub not-owned : o ≡ false → c ≡ ended m → r ≡ alone c → Looks (λ (w : World). fetched w d) m slot memory r
  unfolding fetched
  not-owned e g f = λ w. rw (sym t.value ∙ e, f, g)

  module _ (e : o ≡ true) {l : Bool} (u : l ≡ wants_length m.mode) where
    pub no_length_lem : (l && eqb d.length 0) ≡ true → c ≡ in_fault m no_length m.pointer.0 → r ≡ alone c
        → Looks (λ (w : World). fetched w d) m slot memory r
    unfolding fetched
    no_length_lem f g h = λ w. rw (sym t.value ∙ e, both u refl f, h, g)

    pub begins : (l && eqb d.length 0) ≡ false → c ≡ with_phase (Move (begun m.pointer.0 d)) (with_pointer d.next m)
        → {next : Look} → next ≡ look_at (home m) memory d.next → r ≡ record { core = c; slot = Some next }
        → Looks (λ (w : World). fetched w d) m slot memory r
    unfolding fetched
    begins f g n h = λ w. rw (sym t.value ∙ e, both u refl f, h, g, n)

-- ---- a step out of Rest or Fetch

module _ (m : Core) (slot : Slot) (memory : List ℕ) where
  pub rest-begun : {c : Core} {r : Fetched} → m.phase ≡ Rest → run m.control ≡ true → c ≡ with_phase Fetch (with_busy true m) → r ≡ alone c
      → Begun m slot memory r
  unfolding rest_step
  rest-begun e runs g f =
      λ w. at-phase (holding (stored w m memory) (settled m.phase slot)) e
      ∙ ap (λ (p : Phase). settle (rest_step (holding (stored w m memory) (settled p slot)))) e ∙ rw (runs, f, g)

  pub fetch-begun : (r : Fetched) → m.phase ≡ Fetch → Looks fetch_step m slot memory r → Begun m slot memory r
  fetch-begun r e g =
      λ w. at-phase (holding (stored w m memory) (settled m.phase slot)) e
      ∙ ap (λ (p : Phase). settle (fetch_step (holding (stored w m memory) (settled p slot)))) e ∙ g w
