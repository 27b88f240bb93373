use native.Mathlib.Nat.{div-one}
use mathlib.Core.Path.{sym}
use Rattle.words.proofs.Bytes.{all-bytes}
use Rattle.image.proofs.WordByWord.{front-words}
use Rattle.image.proofs.front.Goals as goal

pub returns : goal.returns
returns c = let xs = c.args.from.now in
    rw (
      c.word-head.ensures.value,
      c.word-sizes.ensures.value,
      c.word-done.ensures.value,
      c.word.ensures.value,
      c.word-2.ensures.value,
      c.word-3.ensures.value,
      c.word-4.ensures.value,
      c.word-5.ensures.value,
      c.word-6.ensures.value,
      c.word-7.ensures.value,
      c.word-8.ensures.value,
    ) (simp div-one at (sym (front-words xs c.requires (all-bytes xs (λ i. (c.type_inv.from i).fits)))))
