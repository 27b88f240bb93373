use Rattle.words.proofs.Bytes.{all-bytes}
use Rattle.image.proofs.WordByWord.{fields-words, tail-words}
use Rattle.image.proofs.slot_kept_in.Goals as goal

pub returns : goal.returns
returns c = let xs = c.args.from.now in
    let all = all-bytes xs (λ i. (c.type_inv.from i).fits) in
    rw (
      c.held_kept.ensures,
      c.slot_at_kept.ensures,
      c.word.ensures.value,
      c.word-2.ensures.value,
      c.word-3.ensures.value,
      c.word-4.ensures.value,
      c.word-5.ensures.value,
      c.bytes_kept_in.ensures,
      fields-words xs c.requires all,
      tail-words xs c.requires all,
    )
