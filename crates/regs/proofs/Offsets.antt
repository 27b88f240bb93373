-- The choice among the three registers, by the tests that led there.
-- Assumes nothing.
use Prim.Native.Nat.{ℕ}
use mathlib.Core.Path.{◌≡◌}
use borrow.Author.Tests.{ne_eqb}
use Rattle.regs.specs.Offsets.{chosen}

module _ {A : Type 0} (status control pointer none : A) (offset : ℕ) where
  pub at-status : offset ≡ 0 → chosen offset status control pointer none ≡ status
  at-status e = rw e

  pub at-control : offset ≡ 4 → chosen offset status control pointer none ≡ control
  at-control e = rw e

  pub at_pointer : offset ≡ 8 → chosen offset status control pointer none ≡ pointer
  at_pointer e = rw e

  pub at_none : (offset ≡ 0 → ⊥) → (offset ≡ 4 → ⊥) → (offset ≡ 8 → ⊥) → chosen offset status control pointer none ≡ none
  at_none e f g = rw (ne_eqb offset 0 e, ne_eqb offset 4 f, ne_eqb offset 8 g)
