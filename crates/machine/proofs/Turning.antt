-- Any rule, applied in the middle of lent slices.
-- Assumes nothing.
use Prim.Native.Nat.{ℕ, ◌+◌, ◌-◌, ◌*◌, ◌/◌, ◌≤◌, ◌<◌}
use mathlib.Core.Path.{◌≡◌, sym, ap, ◌∙◌}
use mathlib.Core.Bool.{true}
use mathlib.Core.List.{List, [], append-nil}
use native.Mathlib.Nat.{add-zero}
use native.Mathlib.Omega.{arith}
use lib.ListN.{length}
use Rattle.regs.specs.Control.{run}
use Rattle.machine.specs.declared.Core.{Core}
use Rattle.machine.specs.declared.Phase.TheVariants.{Fetch}
use Rattle.machine.specs.State.{with_phase, with_busy}
use Rattle.machine.specs.Step.{World, Answer, taken, became, rest_step}
use Rattle.machine.specs.Helpers.Worlds.{Reached, world_at, midway, reached_as}
use Rattle.machine.specs.Helpers.Turns.{Still, Went}
use Rattle.machine.proofs.Beats.{none_made}

module _ (rule : World → Answer) (m m' : Core) (window window' beats : List ℕ) (took : ℕ) (out : List ℕ) (made : ℕ) where
  -- no beat made
  pub went-none : (took' : ℕ)
      → ((w : World) → rule (midway w m window beats took out made) ≡ taken (midway w m' window' beats took' out made))
      → Went rule m window beats took out made (reached_as m' took' made) window' out
  went-none took' f =
      record {
        new = [];
        counted = sym (add-zero made);
        wrote = none_made out (2 * made);
        goes = λ w. f w ∙ ap (λ (x : List ℕ). taken (world_at w m' window' beats took' x (length out / 2 - made))) (sym (append-nil w.output));
      }

  -- no beat taken either
  pub went-still : Still rule m window m' window' → Went rule m window beats took out made (reached_as m' took made) window' out
  went-still s = went-none took (λ w. s (midway w m window beats took out made))

-- a rule that says the same of the machine
pub went-as : (other rule : World → Answer) {m : Core} {window beats : List ℕ} {took : ℕ} {out : List ℕ} {made : ℕ} {r : Reached} {window' out' : List ℕ}
    → ((w : World) → rule (became w m) ≡ other (became w m))
    → Went other m window beats took out made r window' out' → Went rule m window beats took out made r window' out'
went-as other rule {m} {window} {beats} {took} {out} {made} e g =
    record { new = g.new; counted = g.counted; wrote = g.wrote; goes = λ w. e (midway w m window beats took out made) ∙ g.goes w }

-- Rest, RUN 1
pub rest-starts : (m m' : Core) (memory : List ℕ) → run m.control ≡ true → m' ≡ with_phase Fetch (with_busy true m)
    → Still rest_step m memory m' memory
unfolding rest_step
rest-starts m m' memory e f = λ w. rw (e, f)

-- one more is still within
pub past : {n m : ℕ} → n < m → n + 1 ≤ m
past h = omega arith

pub within : {n m : ℕ} → n < m → n ≤ m
within h = omega arith
