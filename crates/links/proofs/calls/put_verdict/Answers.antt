use Prim.Native.Nat.{ℕ}
use mathlib.Core.Path.{ap, ◌∙◌}
use mathlib.Core.List.{List, [], ◌∷◌}
use Rattle.words.specs.declared.Order.TheVariants.{MostFirst}
use Rattle.words.specs.Orders.{bytes_of, word_bytes}
use Rattle.words.specs.Slices.{put_at}
use Rattle.links.proofs.Telling.{stop-filled}
use Rattle.links.proofs.calls.put_verdict.Goals as goal

pub returns : goal.returns
returns c = let a = c.args in let s = a.verdict.stop in
    record {
      lent = c.put_words.ensures.lent
          ∙ ap (λ (l : List ℕ). put_at l 2 (word_bytes MostFirst (s.position ∷ s.address ∷ []))) c.put_u16.ensures.lent
          ∙ ap (λ (n : ℕ). put_at (put_at a.answer.now 0 (bytes_of MostFirst 2 n)) 2 (word_bytes MostFirst (s.position ∷ s.address ∷ []))) c.into.ensures.value
          ∙ stop-filled a.answer.now _ s c.requires;
    }
