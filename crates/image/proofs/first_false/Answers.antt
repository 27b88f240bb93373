use Rattle.std.specs.Prelude.{option_map, Some}
use Rattle.std.proofs.lemmas.Iterator.{YieldsList-from_slice}
use Rattle.std.proofs.lemmas.Iterator.Search.{position_from_yields_List}
use Rattle.std.proofs.lemmas.Iterator.Adapters.{position_from-zero}
use borrow.Author.Rules.{rules}
use borrow.Author.Tests.{tests}
use mathlib.Core.Bool.{not}
use mathlib.Core.Path.{sym, ap, ◌∙◌}
use native.Mathlib.Numerals.{add-one}
use Prim.Native.Nat.{suc}
use Rattle.image.proofs.Foremost.{first-place}
use Rattle.image.proofs.first_false.Goals as goal

pub returns-in_err-place : goal.returns-in_err-place
returns-in_err-place c = let bs = c.args.kept in
    let e = position_from_yields_List not _ _ c.position.result c.position.ensures.ran (YieldsList-from_slice bs cc) (λ x b q k. search (rules, tests)) in
    c.from_residual.ensures ∙ sym (first-place 0 bs ∙ ap (option_map suc) (sym (position_from-zero not bs) ∙ sym e ∙ c.in_err-place.was))

pub returns : goal.returns
returns c = let bs = c.args.kept in
    let e = position_from_yields_List not _ _ c.position.result c.position.ensures.ran (YieldsList-from_slice bs cc) (λ x b q k. search (rules, tests)) in
    ap Some (add-one c.in_ok-place.place) ∙ sym (first-place 0 bs ∙ ap (option_map suc) (sym (position_from-zero not bs) ∙ sym e ∙ c.in_ok-place.was))
