use mathlib.Core.Path.{◌≡◌, sym, ◌∙◌}
use native.Mathlib.Omega.{arith}
use lib.ListN.{replicate}
use Rattle.std.proofs.lemmas.Grind.{common_steps}
use Rattle.words.proofs.Answering.{answers-done}
use Rattle.vic.specs.Calls.{create_number}
use Rattle.vic.proofs.Refusing.{created, create-done}
use Rattle.vic.proofs.Telling.{fresh_put}
use Rattle.vic.proofs.create.Goals as goal

pub returns : goal.returns
returns c =
    let a = c.args in
    let done : create_number a.vic.now a.ports ≡ 0 = create-done a.vic.now a.ports (omega arith) (sym c.ports_kept.ensures ∙ c.if-not-ports_kept.false) in
    let zeros : c.fill.new.self ≡ replicate 88 0 = grind (arith, common_steps) in
    answers-done done (c.put_words.ensures.lent ∙ fresh_put c.fill.new.self a.ports a.vector a.base zeros (created a.vic.now a.ports done).1)
