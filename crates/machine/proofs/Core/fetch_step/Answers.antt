use Rattle.descriptor.specs.Looking.{Look}
use Rattle.std.specs.Prelude.{Err}
use Rattle.machine.proofs.AtFetch.{not-running, running, no_address, no-descriptor}
use Rattle.machine.specs.Helpers.Turns.{Looks}
use Rattle.machine.specs.Step.{World, meets, fetch_step}
use Rattle.machine.specs.declared.fetch.Fetched.{Fetched}
use mathlib.Core.Path.{◌≡◌, sym, ap, ◌∙◌}
use Rattle.machine.proofs.Core.fetch_step.Goals as goal
use Rattle.machine.proofs.Core.fetch_step.Goals.{After-seen-look}

-- where this was seen
finds : (c : After-seen-look) {l : Look} → c.seen-look.result ≡ l → (r : Fetched)
    → (let a = c.args in
    Looks (λ (w : World). meets w l) a.self a.slot a.window.now r → Looks fetch_step a.self a.slot a.window.now r)
finds c e r s =
    running _ r _ _ (sym c.has.ensures.value ∙ c.if-not-has.false) (λ w. sym e ∙ c.seen-look.ensures w) s

pub returns-then-not-has : goal.returns-then-not-has
returns-then-not-has c = not-running _ _ _ _ (sym c.has.ensures.value ∙ c.if-not-has.true) c.rested.ensures c.alone.ensures

pub returns-in-Misaligned : goal.returns-in-Misaligned
returns-in-Misaligned c = finds (goal.at.returns-in-Misaligned c).After-seen-look (c.in-Err.is ∙ ap Err c.in-Misaligned.is) _ (let a = c.args in no_address a.self _ a.slot a.window.now c.faulted.ensures c.alone-in-Misaligned.ensures)

pub returns-in-Outside : goal.returns-in-Outside
returns-in-Outside c = finds (goal.at.returns-in-Outside c).After-seen-look (c.in-Err.is ∙ ap Err c.in-Outside.is) _ (let a = c.args in no-descriptor a.self _ a.slot a.window.now c.faulted-in-Outside.ensures c.alone-in-Outside.ensures)

pub returns-in-Ok : goal.returns-in-Ok
returns-in-Ok c = finds (goal.at.returns-in-Ok c).After-seen-look c.in-Ok.is _ (rw (sym c.named.ensures.value) (c.fetched.ensures _))
