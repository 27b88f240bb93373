use Prim.Native.Nat.{◌<◌, ◌^◌}
use mathlib.Core.Path.{◌≡◌, sym, ap, ◌∙◌}
use native.Mathlib.Omega.{arith}
use Rattle.bus.specs.Refusal.{answer_number}
use Rattle.words.proofs.Answering.{answers-done}
use Rattle.vic.specs.Choice.{chosen_level, chosen_port, handler}
use Rattle.vic.specs.Calls.{load_number}
use Rattle.vic.proofs.Refusing.{choose-told, answer-told}
use Rattle.vic.proofs.Telling.{told_is}
use Rattle.vic.proofs.choose.Goals as goal

pub returns : goal.returns
returns c =
    let xs = c.args.vic.now in
    let ys = c.args.answer.now in
    let found = c.in-Some.found in
    let fit = c.address_of-handler.ensures in
    let e : load_number xs ≡ 0 = sym c.loaded.ensures.value ∙ ap answer_number c.in_ok-loaded.was in
    let some : 0 < chosen_level xs = grind arith in
    let port : found.port ≡ chosen_port xs = grind arith in
    let own : found.level ≡ chosen_level xs = grind arith in
    let at : c.in_ok-address.address ≡ handler xs (chosen_port xs) = grind arith in
    let low : handler xs (chosen_port xs) < 2 ^ 32 = grind arith in
    answers-done (choose-told xs ys (omega arith) e some low)
    (c.tell.ensures.lent ∙ told_is xs some port own c.config.ensures.value at ∙ sym (answer-told xs some))
