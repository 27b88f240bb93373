use Rattle.descriptor.proofs.Reading.{was_read}
use Rattle.descriptor.proofs.Looks.{named-at}
use Rattle.descriptor.specs.Looking.{named_in}
use Rattle.descriptor.specs.Calls.{found}
use Rattle.std.specs.Prelude.{Ok}
use Rattle.words.proofs.Bytes.{all-bytes, take-bytes, drop-bytes}
use lib.ListN.{drop}
use mathlib.Core.Path.{sym, ap, ◌∙◌}
use Rattle.descriptor.proofs.read.Goals as goal

pub returns : goal.returns
returns c = let xs = c.args.window.now in
    let p = c.in_ok-place.place in
    let bytes = take-bytes 32 (drop p.0 xs) (drop-bytes p.0 xs (all-bytes xs (λ i. (c.type_inv.window i).fits))) in
    was_read
    (ap Ok (c.named.ensures.value ∙ ap named_in c.raw_at.ensures.value ∙ named-at xs p.0 bytes)
    ∙ sym (ap (found _) (sym c.seat_of.ensures ∙ c.in_ok-place.was)))
