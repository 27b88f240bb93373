use Rattle.machine.proofs.Writes.{wrote-done, wrote_none}
use mathlib.Core.Path.{sym, ◌∙◌}
use Rattle.machine.proofs.Machine.write.Goals as goal

pub returns-then-is_register : goal.returns-then-is_register
returns-then-is_register c = let a = c.args in
    record { value = wrote-done a.self a.offset a.value (sym c.is_register.ensures.value ∙ c.if-is_register.true) c.written.ensures }

pub returns-else-is_register : goal.returns-else-is_register
returns-else-is_register c = let a = c.args in
    record { value = wrote_none a.self a.offset a.value (sym c.is_register.ensures.value ∙ c.if-is_register.false) }
