use Rattle.std.proofs.Common.{◌≡◌, true, false, arith, rules, tests}
use Rattle.std.proofs.lemmas.Iterator.{first_from_Range}
use Rattle.vic.specs.Layout.{ports, config}
use Rattle.vic.specs.Rules.{config_kept}
use Rattle.vic.proofs.Ruling.{searched}
use Rattle.vic.proofs.broken_port.Goals as goal

pub returns : goal.returns
returns c =
    let xs = c.args.vic.now in
    searched xs _ (first_from_Range _ _ _ _ (λ i. config_kept (ports xs) i (config xs i) ≡ false) (λ i. config_kept (ports xs) i (config xs i) ≡ true) c.find.ensures.ran
    (λ x q k. grind (arith, tests))
    (λ x q k. (search rules, grind (arith, tests))))
