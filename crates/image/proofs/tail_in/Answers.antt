use Rattle.image.specs.Slot.{slot_raw}
use Rattle.image.proofs.RoundTrip.{tail-other}
use Rattle.image.proofs.WordByWord.{tail-words}
use Rattle.words.proofs.Bytes.{all-bytes}
use mathlib.Core.Path.{sym}
use Rattle.image.proofs.tail_in.Goals as goal

pub returns-then-from-eq-SIZE : goal.returns-then-from-eq-SIZE
returns-then-from-eq-SIZE c = let xs = c.args.from.now in
    record {
      value = rw (c.word.ensures.value, c.raw_in.ensures.value, c.word-then-from-eq-SIZE.ensures.value)
          (sym (tail-words xs c.if-from-eq-SIZE.true (all-bytes xs (λ i. (c.type_inv.from i).fits))));
    }

pub returns : goal.returns
unfolding slot_raw
returns c = record { value = sym (tail-other _ c.if-from-eq-SIZE.false) }
