use mathlib.Core.Path.{refl, ap, ◌∙◌}
use Rattle.descriptor.specs.Looking.{look_at}
use Rattle.bus.specs.declared.Window.{Window}
use Rattle.machine.proofs.AtFetch.{not-owned, no_length_lem, begins}
use Rattle.machine.proofs.Core.fetched.Goals as goal

pub returns-then-not-has : goal.returns-then-not-has
returns-then-not-has c = λ slot. not-owned _ _ _ slot _ c.has.ensures c.if-not-has.true c.ended.ensures c.alone.ensures

pub returns-then-empty : goal.returns-then-empty
returns-then-empty c = λ slot. no_length_lem _ _ _ slot _ c.has.ensures c.if-not-has.false c.wants_length.ensures c.if-empty.true c.faulted.ensures c.alone-then-empty.ensures

pub returns : goal.returns
returns c = let a = c.args in λ slot. begins _ _ _ slot _ c.has.ensures c.if-not-has.false c.wants_length.ensures c.if-empty.false c.begun.ensures (c.look_at-next.ensures.value ∙ ap (λ (v : Window). look_at v a.window.now a.d.next) c.home.ensures) refl
