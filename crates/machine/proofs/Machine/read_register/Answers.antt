use Rattle.machine.proofs.Answers.{was-register}
use Rattle.machine.specs.Registers.{reading_of}
use mathlib.Core.Path.{sym, ◌∙◌}
use Rattle.machine.proofs.Machine.read_register.Goals as goal

pub returns-then-not-keeps : goal.returns-then-not-keeps
unfolding reading_of
returns-then-not-keeps c = was-register (rw (sym c.keeps.ensures ∙ c.if-not-keeps.true, c.spoiled.ensures))

pub returns : goal.returns
unfolding reading_of
returns c = was-register (rw (sym c.keeps.ensures ∙ c.if-not-keeps.false) c.register.ensures.value)
