use Rattle.descriptor.specs.Looking.{is_zero}
use mathlib.Core.Path.{refl}
use Rattle.descriptor.proofs.Raw.is_zero.Goals as goal

pub returns : goal.returns
unfolding is_zero
returns c = record { value = refl }
