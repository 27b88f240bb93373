use mathlib.Core.Path.{sym, ap, ◌∙◌}
use mathlib.Core.Bool.{not, ◌&&◌}
use lib.Dec.{ltb}
use Rattle.machine.specs.Helpers.Resume.{ready_in, ready_of}
use Rattle.machine.proofs.Readiness.{idle-ready}
use Rattle.machine.proofs.Core.ready.Goals as goal

pub returns-in-Move : goal.returns-in-Move
unfolding ready_of
returns-in-Move c = let k = c.in-Move.k in
    let bytes = c.asked.ensures in
    let inside = c.holds.ensures in
    (λ x. (ltb k.moved (bytes x) && not k.eop) && inside x) ∙ sym (ap (ready_in c.args.self) c.in-Move.is)

pub returns-in-WriteBack : goal.returns-in-WriteBack
unfolding ready_of
returns-in-WriteBack c = c.holds-in-WriteBack.ensures ∙ sym (ap (ready_in c.args.self) c.in-WriteBack.is)

pub returns-in-Rest : goal.returns-in-Rest
unfolding ready_of
returns-in-Rest c = sym (idle-ready c.args.self c.in-Rest.is)
