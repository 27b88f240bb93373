use Rattle.machine.proofs.Answers.{was-line}
use Rattle.machine.specs.Registers.{line_of}
use Rattle.std.specs.Prelude.{Ok}
use mathlib.Core.Path.{sym, ap, ◌∙◌}
use Rattle.machine.proofs.Machine.line.Goals as goal

pub returns-then-not-keeps : goal.returns-then-not-keeps
unfolding line_of
returns-then-not-keeps c = was-line (rw (sym c.keeps.ensures ∙ c.if-not-keeps.true, c.spoiled.ensures))

pub returns : goal.returns
unfolding line_of
returns c = was-line (rw (sym c.keeps.ensures ∙ c.if-not-keeps.false) (ap Ok c.up.ensures.value))
