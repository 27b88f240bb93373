use Rattle.std.specs.Prelude.{Ok, Option, unwrap_or}
use Rattle.image.proofs.Foremost.{told-back}
use Rattle.words.proofs.Bytes.{all-bytes}
use Rattle.image.proofs.WordByWord.{fields-front}
use Rattle.image.specs.declared.Fields.{Fields}
use Rattle.image.specs.Layout.{fields, tail}
use Rattle.image.specs.Rules.{keeps_rules}
use Rattle.image.specs.Helpers.ByPhase.{core_kept, slot_kept_of}
use Rattle.image.proofs.Answers.{was_read, read-size, read-broken, read-good}
use Rattle.image.proofs.ByPhase.{kept-in-parts}
use Rattle.image.proofs.Editions.{edition-second, broken-second}
use mathlib.Core.Bool.{Bool, ◌&&◌}
use Prim.Native.Nat.{ℕ}
use mathlib.Core.List.{List}
use mathlib.Core.Path.{◌≡◌, sym, ap, ◌∙◌}
use Rattle.image.proofs.read.Goals as goal

-- the two tests, of the fields that were read
kept-is : (xs : List ℕ) {f : Fields} {a b : Bool} → f ≡ fields xs → a ≡ core_kept f → b ≡ slot_kept_of (fields xs) (tail xs)
    → keeps_rules (fields xs) (tail xs) ≡ (a && b)
kept-is xs e p q = kept-in-parts (fields xs) (tail xs) ∙ rw (p, q, e)

pub returns-then-from-ne-SIZE : goal.returns-then-from-ne-SIZE
returns-then-from-ne-SIZE c = was_read (sym (read-size _ c.if-from-ne-SIZE.true))

pub broken_in-requires-clause-from_value : goal.broken_in-requires-clause-from_value
broken_in-requires-clause-from_value c = edition-second c.args.from.now c.if-from-ne-SIZE.false

pub returns-then-not-kept : goal.returns-then-not-kept
returns-then-not-kept c = let f = c.front-f.ensures ∙ sym (fields-front _ c.if-from-ne-SIZE.false (all-bytes _ (λ i. (c.type_inv.from i).fits))) in
    was_read
    (sym
    (read-broken _ c.if-from-ne-SIZE.false
    (kept-is _ f c.core_kept.ensures c.slot_kept_in.ensures ∙ c.if-not-kept.true)
    (c.unwrap_or.ensures ∙ ap (λ (field : Option ℕ). unwrap_or field 0) c.broken_in.ensures ∙ told-back _ ∙ broken-second _ c.if-from-ne-SIZE.false)))

pub returns : goal.returns
returns c = let f = c.front-f.ensures ∙ sym (fields-front _ c.if-from-ne-SIZE.false (all-bytes _ (λ i. (c.type_inv.from i).fits))) in
    was_read
    (ap Ok f
    ∙ sym
    (read-good _ c.if-from-ne-SIZE.false
    (kept-is _ f c.core_kept.ensures c.slot_kept_in.ensures ∙ c.if-not-kept.false)))
