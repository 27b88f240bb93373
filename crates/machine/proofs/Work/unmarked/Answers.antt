use Rattle.machine.proofs.Bulk.{unmarked-none, unmarked-all, unmarked-inner}
use borrow.Author.Rules.{rules}
use Rattle.machine.proofs.Work.unmarked.Goals as goal

pub returns-then-has-self : goal.returns-then-has-self
returns-then-has-self c = record { upper_bound = search rules; unmarked = λ l. unmarked-none c.args.self }

pub returns-then-has : goal.returns-then-has
returns-then-has c = record { upper_bound = search rules; unmarked = λ l. unmarked-inner c.args.self c.has.ensures.value c.has-2.ensures.value c.if-has-self.false _ l }

pub returns : goal.returns
returns c = record { upper_bound = search rules; unmarked = λ l. unmarked-all c.args.self c.has.ensures.value c.has-2.ensures.value c.if-has-self.false _ c.if-has.false }
