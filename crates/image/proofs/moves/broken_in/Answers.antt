use mathlib.Core.Path.{refl, sym, ap, ◌∙◌}
use lib.ListN.{length}
use Rattle.words.proofs.Bytes.{all-bytes}
use Rattle.image.specs.Rules.{rules, told}
use Rattle.image.proofs.Moved.{known, known-lt, told-number, told-rules}
use Rattle.image.proofs.moves.broken_in.Goals as goal

pub front-f-requires : goal.front-f-requires
front-f-requires c = (known-lt (known (length c.args.from.now) (λ z. c.requires.fact (sym c.requires.from_value ∙ z)))).2

pub returns-then-f-edition : goal.returns-then-f-edition
returns-then-f-edition c = let xs = c.args.from.now in
    ap told (told-number xs (λ z. c.requires.fact (sym c.requires.from_value ∙ z)) (all-bytes xs (λ i. (c.type_inv.from i).fits))
    c.front-f.ensures (λ e. c.if-f-edition.true (e ∙ c.requires.from_value)))

pub returns : goal.returns
unfolding rules
returns c = let xs = c.args.from.now in
    c.broken.ensures.value
    ∙ ap told (told-rules xs (λ z. c.requires.fact (sym c.requires.from_value ∙ z)) (all-bytes xs (λ i. (c.type_inv.from i).fits)) _
    c.front-f.ensures c.tail_in.ensures.value (c.if-f-edition.false ∙ sym c.requires.from_value) refl)
