use Rattle.regs.proofs.Ranges.{status-below}
use borrow.Author.Rules.{rules}
use Rattle.machine.proofs.Core.fields.Goals as goal

pub overflow_cast-result : goal.overflow_cast-result
overflow_cast-result c = let told = c.from.ensures.value in
    let h = status-below c.args.self.status in
    search rules

pub returns : goal.returns
returns c = rw (
  c.size.ensures.value,
  c.base.ensures.value,
  c.from.ensures.value,
  c.has.ensures.value,
  c.into-2.ensures.value,
  c.into.ensures.value,
  c.fault_in-fault.ensures,
  c.in_hand-work.ensures,
)
