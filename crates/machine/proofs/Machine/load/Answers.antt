use Rattle.std.specs.Prelude.{Ok}
use Rattle.bus.proofs.Passed.{handed-on}
use Rattle.machine.proofs.Answers.{was-loaded}
use Rattle.image.specs.declared.Tail.{Tail}
use Rattle.image.specs.Layout.{tail}
use Rattle.machine.specs.Saved.{machine_of, loaded_as, load_of}
use Rattle.image.proofs.Answers.{good-keeps}
use Rattle.image.proofs.EachRule.{each-rule}
use mathlib.Core.Path.{sym, ap, ◌∙◌}
use Rattle.machine.proofs.Machine.load.Goals as goal

pub machine_of-requires : goal.machine_of-requires
machine_of-requires c = (each-rule _ _ (good-keeps _ _ (sym c.read.ensures.answer ∙ c.in_ok-f.was))).window

pub returns : goal.returns
unfolding load_of
returns c = was-loaded
    (c.machine_of.ensures ∙ ap (λ (t : Tail). Ok (machine_of c.in_ok-f.f t)) c.tail_in.ensures.value
    ∙ sym (ap (loaded_as (tail c.args.from.now)) (sym c.read.ensures.answer ∙ c.in_ok-f.was)))

pub returns-in_err-f : goal.returns-in_err-f
unfolding load_of
returns-in_err-f c = was-loaded (handed-on _ c.from_residual.ensures.1 ∙ sym (ap (loaded_as (tail c.args.from.now)) (sym c.read.ensures.answer ∙ c.in_err-f.was)))
