use Rattle.machine.specs.State.{Slot}
use mathlib.Core.Path.{sym, ap, ◌∙◌}
use Rattle.machine.specs.Saved.{tail_with}
use Rattle.machine.proofs.saved.tail_with.Goals as goal

pub returns-in-None : goal.returns-in-None
returns-in-None c = let a = c.args in sym (ap (λ (s : Slot). tail_with s a.pointer a.run) c.in-None.is)

pub returns-in-Some : goal.returns-in-Some
returns-in-Some c = let a = c.args in (λ x. record { kind = c.kind_of.ensures x; zero6 = 0; at = a.pointer; raw = c.bytes_of.ensures x; run = a.run }) ∙ sym (ap (λ (s : Slot). tail_with s a.pointer a.run) c.in-Some.is)
