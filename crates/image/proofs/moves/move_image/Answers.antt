use mathlib.Core.Path.{refl, sym, ap, ◌∙◌}
use native.Mathlib.Omega.{arith}
use Rattle.bus.specs.Refusal.{refusal_number, answer_number}
use Rattle.bus.proofs.Passed.{handed-on}
use Rattle.words.proofs.Bytes.{all-bytes}
use Rattle.image.proofs.Foremost.{told-some, told-none}
use Rattle.image.proofs.Moved.{known, known-lt, sized-some, sized-none, refused-old, refused-new, refused-broken, refused-held, moved}
use Rattle.image.proofs.moves.move_image.Goals as goal

pub returns-in_err-old : goal.returns-in_err-old
returns-in_err-old c = let none = sized-none c.edition_sized.ensures c.in_err-old.was in
    refused-old _ _ none.0 (ap answer_number (handed-on _ c.from_residual.ensures.1) ∙ ap refusal_number none.1)

pub returns-in_err-new : goal.returns-in_err-new
returns-in_err-new c = let old = sized-some c.edition_sized.ensures c.in_ok-old.was in
    let none = sized-none c.edition_sized-2.ensures c.in_err-new.was in
    refused-new _ _ old.1 none.0 (ap answer_number (handed-on _ c.from_residual-in_err-new.ensures.1) ∙ ap refusal_number none.1)

pub returns-in-Some : goal.returns-in-Some
returns-in-Some c = let old = sized-some c.edition_sized.ensures c.in_ok-old.was in
    let new = sized-some c.edition_sized-2.ensures c.in_ok-new.was in
    let field = told-some _ (sym c.broken_in.ensures ∙ c.in-Some.is) in
    refused-broken _ _ old.1 new.1 field.0 (λ z. field.1 (sym field.0 ∙ z)) refl

pub returns-then-held-new : goal.returns-then-held-new
returns-then-held-new c = let old = sized-some c.edition_sized.ensures c.in_ok-old.was in
    let new = sized-some c.edition_sized-2.ensures c.in_ok-new.was in
    refused-held _ _ old.1 new.1 (told-none _ (sym c.broken_in.ensures ∙ c.in_default.is)) c.tail_in-t.ensures.value new.0 c.if-held-new.true refl

pub put_moved-requires : goal.put_moved-requires
put_moved-requires c = let new = sized-some c.edition_sized-2.ensures c.in_ok-new.was in
    let lt = known-lt (known _ new.1) in record { edition_bound = omega (arith, lt.0, new.0); to_nonzero = lt.1 }

pub returns : goal.returns
returns c = let old = sized-some c.edition_sized.ensures c.in_ok-old.was in
    let new = sized-some c.edition_sized-2.ensures c.in_ok-new.was in
    moved _ _ old.1 new.1 (told-none _ (sym c.broken_in.ensures ∙ c.in_default.is)) c.tail_in-t.ensures.value new.0
    (all-bytes c.args.from.now (λ i. (c.type_inv.from i).fits)) c.if-held-new.false c.put_moved.ensures.lent
