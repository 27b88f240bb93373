use Rattle.descriptor.proofs.Looks.{named-words}
use mathlib.Core.Path.{sym}
use Rattle.descriptor.proofs.Raw.named.Goals as goal

pub returns : goal.returns
returns c = record { value = sym (named-words _) }
