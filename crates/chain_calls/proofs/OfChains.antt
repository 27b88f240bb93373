-- The calls over a chain in memory: the number given back is the first that applies, and where it is not 0 nothing has changed.
-- Assumes nothing.
use Prim.Native.Nat.{ℕ}
use mathlib.Core.Path.{refl, ap, ◌∙◌}
use mathlib.Core.Bool.{cond, not}
use lib.ListN.{length}
use Rattle.bus.specs.Window.{keeps_limits}
use Rattle.descriptor.specs.Looking.{spot_of, stands}
use Rattle.links.specs.Verdicts.{window_at}
use Rattle.links.proofs.Mended.{mended-number}
use Rattle.sgdma.specs.Calls.{is_size}
use Rattle.links.specs.Calls.{check_number, mend_number}
use Rattle.chain_calls.specs.Theorems.{CheckInOrder, CheckUnchanged, MendInOrder, MendUnchanged}
use Rattle.chain_calls.proofs.Refused.{unless}
use Rattle.chain_calls.proofs.Unchanged.{as_lent_lem}

pub check-in-order : CheckInOrder
unfolding check_number
check-in-order window base pointer answer r answer' p = record { number = p.answer; in_order = refl }

pub check-unchanged : CheckUnchanged
check-unchanged window base pointer answer r answer' p h = as_lent_lem p h

pub mend-in-order : MendInOrder
unfolding mend_number
mend-in-order window base pointer answer r window' answer' p =
    record {
      number = p.told.answer
          ∙ ap (λ (n : ℕ). cond (not (is_size 8 answer)) 7 n)
          (mended-number window base pointer
          ∙ unless (keeps_limits base (length window)) 3 (unless (stands (spot_of (window_at base window) pointer)) 23 refl));
      in_order = refl;
    }

pub mend-unchanged : MendUnchanged
mend-unchanged window base pointer answer r window' answer' p h = (as_lent_lem p.window h, as_lent_lem p.told h)
