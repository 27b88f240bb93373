use Rattle.machine.proofs.Answers.{was-written}
use Rattle.machine.proofs.Writes.{write-broken, write_kept}
use mathlib.Core.Path.{sym, ◌∙◌}
use Rattle.machine.proofs.Machine.write_register.Goals as goal

pub returns-then-not-keeps : goal.returns-then-not-keeps
returns-then-not-keeps c = was-written (write-broken _ _ _ (sym c.keeps.ensures ∙ c.if-not-keeps.true) c.spoiled.ensures)

pub returns : goal.returns
returns c = was-written (c.write.ensures.value ∙ write_kept _ _ _ (sym c.keeps.ensures ∙ c.if-not-keeps.false))
