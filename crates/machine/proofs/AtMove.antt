-- The cases of Move, by the tests that led there: one byte more, and each mode's.
-- Assumes nothing.
use Prim.Native.Nat.{ℕ, suc, ◌+◌, ◌-◌, ◌*◌, ◌/◌, ◌%◌, ◌^◌, ◌<◌}
use mathlib.Core.Path.{◌≡◌, refl, ap, ◌∙◌}
use mathlib.Core.Bool.{true, false, cond, ◌||◌}
use mathlib.Core.List.{List, [], ◌∷◌}
use native.Mathlib.Omega.{arith}
use lib.Dec.{eqb}
use lib.ListN.{length, get_or, set}
use Rattle.words.specs.declared.Order.TheVariants.{MostFirst}
use Rattle.words.specs.Orders.{bytes_of}
use Rattle.words.specs.Slices.{put_at}
use Rattle.bus.specs.Window.{in_window, place_of}
use Rattle.flow.specs.declared.Beat.{Beat}
use Rattle.flow.specs.Beats.{beat_of}
use Rattle.flow.proofs.Streams.{beat_at, next-beat}
use Rattle.machine.specs.declared.Core.{Core}
use Rattle.machine.specs.declared.Work.{Work}
use Rattle.machine.specs.declared.Phase.{Phase}
use Rattle.machine.specs.declared.Phase.TheVariants.{Move, WriteBack}
use Rattle.machine.specs.State.{source_outside, destination_outside, with_phase}
use Rattle.machine.specs.Step.{World, whole, source_of, destination_of, with_byte, onward, copy_step, beat_for, send_step, receive_from}
use Rattle.machine.specs.Helpers.Worlds.{Reached, reached_as, in_fault}
use Rattle.machine.specs.Helpers.Turns.{Still, Went}
use Rattle.machine.proofs.Beats.{beat-made}
use Rattle.machine.proofs.Turning.{went-none}

-- when L bytes are moved or a taken beat had EOP
pub onward-by : (m : Core) (k : Work) {l : ℕ} {p : Phase} → l ≡ whole m k → p ≡ cond (k.eop || eqb k.moved l) (WriteBack k) (Move k)
    → with_phase p m ≡ onward m k
unfolding onward
onward-by m k f g =
    ap (λ (x : Phase). with_phase x m) (g ∙ ap (λ (x : ℕ). cond (k.eop || eqb k.moved x) (WriteBack k) (Move k)) f)

-- a fault keeps the address modulo 2^32
pub fault-at : (m : Core) (code : ℕ) {m' : Core} {a b : ℕ} → m' ≡ in_fault m code (a % 2 ^ 32) → a ≡ b
    → m' ≡ in_fault m code (b % 2 ^ 32)
fault-at m code e f = e ∙ ap (λ (x : ℕ). in_fault m code (x % 2 ^ 32)) f

-- mode 0
module _ (m : Core) {m' : Core} (k : Work) (window : List ℕ) where
  pub no_source : in_window m.window (source_of k) 1 ≡ false → m' ≡ in_fault m source_outside (source_of k % 2 ^ 32)
      → Still (λ (w : World). copy_step w k) m window m' window
  unfolding copy_step
  no_source e g = λ w. rw (e, g)

  module _ (e : in_window m.window (source_of k) 1 ≡ true) where
    pub no-destination : in_window m.window (destination_of k) 1 ≡ false → m' ≡ in_fault m destination_outside (destination_of k % 2 ^ 32)
        → Still (λ (w : World). copy_step w k) m window m' window
    unfolding copy_step
    no-destination f g = λ w. rw (e, f, g)

    pub copies : in_window m.window (destination_of k) 1 ≡ true → m' ≡ onward m (with_byte 0 false k) → {i j : ℕ}
        → i ≡ place_of m.window (source_of k) → j ≡ place_of m.window (destination_of k)
        → Still (λ (w : World). copy_step w k) m window m' (set window j (get_or window i 0))
    unfolding copy_step
    copies f g p q = λ w. rw (e, f, g, p, q)

-- mode 1
module _ (m : Core) (k : Work) (window beats : List ℕ) (took : ℕ) (out : List ℕ) (made : ℕ) {m' : Core} {r : Reached} where
  pub send-out : in_window m.window (source_of k) 1 ≡ false → m' ≡ in_fault m source_outside (source_of k % 2 ^ 32) → r ≡ reached_as m' took made
      → Went (λ (w : World). send_step w k) m window beats took out made r window out
  unfolding send_step
  send-out e f g =
      rw g (went-none (λ (w : World). send_step w k) m _ window window beats took out made took (λ w. rw (e, f)))

  pub send-in : in_window m.window (source_of k) 1 ≡ true → made < length out / 2 → {b : ℕ} {out' : List ℕ}
      → b ≡ beat_for k (get_or window (place_of m.window (source_of k)) 0) → out' ≡ put_at out (2 * made) (bytes_of MostFirst 2 b)
      → m' ≡ onward m (with_byte 0 false k) → r ≡ reached_as m' took (made + 1)
      → Went (λ (w : World). send_step w k) m window beats took out made r window out'
  unfolding send_step
  send-in e h {b} same put f g =
      let left : length out / 2 - made ≡ suc (length out / 2 - (made + 1)) = omega arith in
      rw g
      (record {
        new = b ∷ [];
        counted = refl;
        wrote = put ∙ beat-made out made b h;
        goes = λ w. rw (e, left, same, f);
      })

-- mode 2
module _ (m : Core) (k : Work) (window beats : List ℕ) (took : ℕ) (out : List ℕ) (made : ℕ) (h : took < length beats / 2) {m' : Core} {r : Reached} where
  pub receive-out : in_window m.window (destination_of k) 1 ≡ false → m' ≡ in_fault m destination_outside (destination_of k % 2 ^ 32)
      → r ≡ reached_as m' took made → Went (λ (w : World). receive_from w k w.input) m window beats took out made r window out
  receive-out e f g =
      rw g
      (went-none (λ (w : World). receive_from w k w.input) m _ window window beats took out made took
      (λ w. rw (next-beat beats took h, e, f)))

  pub receive-in : in_window m.window (destination_of k) 1 ≡ true → {b at : ℕ} {beat : Beat} → b ≡ beat_at beats took → beat ≡ beat_of b
      → at ≡ place_of m.window (destination_of k) → m' ≡ onward m (with_byte beat.errors beat.eop k) → r ≡ reached_as m' (took + 1) made
      → Went (λ (w : World). receive_from w k w.input) m window beats took out made r (set window at beat.byte) out
  receive-in e p q s f g =
      rw g
      (went-none (λ (w : World). receive_from w k w.input) m _ window _ beats took out made (took + 1)
      (λ w. rw (next-beat beats took h, e, f, q, p, s)))
