-- A window that was checked, and the verdict in it.
-- Assumes nothing.
use Rattle.std.specs.Prelude.{Ok, Err}
use Prim.Native.Nat.{ℕ}
use mathlib.Core.Path.{◌≡◌, sym, subst}
use mathlib.Core.Bool.{Bool, true, false, cond}
use mathlib.Core.List.{List}
use lib.ListN.{length}
use Rattle.bus.specs.declared.Refusal.TheVariants.{BadWindow}
use Rattle.bus.specs.declared.Window.{Window}
use Rattle.bus.specs.Window.{keeps_limits, checked_of}
use Rattle.bus.proofs.Limits.{checked-is}
use Rattle.links.specs.declared.Verdict.{Verdict}
use Rattle.links.specs.Verdicts.{window_at, verdict_of}
use Rattle.links.specs.Calls.{verdict_in}
use Rattle.links.specs.Theorems.{Limited}

-- a window that was checked keeps the limits
pub limited : (base n : ℕ) (w : Window) → checked_of base n ≡ Ok w → Limited w
limited base n w e = let c = checked-is base n w e in subst Limited (sym c.1) c.0

module _ (mem : List ℕ) (base pointer : ℕ) where
  -- a verdict is that of the window in which the bytes stand
  pub verdict-is : (v : Verdict) → Ok v ≡ verdict_in (checked_of base (length mem)) mem pointer → v ≡ verdict_of (window_at base mem) mem pointer
  unfolding checked_of
  verdict-is v e = by (keeps_limits base (length mem)) e
    where
      by : (b : Bool) → Ok v ≡ verdict_in (cond b (Ok (window_at base mem)) (Err BadWindow)) mem pointer → v ≡ verdict_of (window_at base mem) mem pointer
      by true f = cc
      by false f = absurd (cc)
