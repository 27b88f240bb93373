-- The move of an image: the number given back is the first that applies, and where it is not 0 nothing has changed.
-- Assumes nothing.
use mathlib.Core.Path.{refl}
use Rattle.image.specs.Editions.{move_number}
use Rattle.chain_calls.specs.Theorems.{MoveInOrder, MoveUnchanged}
use Rattle.chain_calls.proofs.Unchanged.{as_lent_lem}

pub move-in-order : MoveInOrder
unfolding move_number
move-in-order xs to r to' p = record { number = p.answer; in_order = refl }

pub move-unchanged : MoveUnchanged
move-unchanged xs to r to' p h = as_lent_lem p h
