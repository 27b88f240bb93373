use Rattle.machine.specs.Saved.{fields_of, tail_of}
use Rattle.image.proofs.Answers.{kept-none, keeps-fits, image-good}
use mathlib.Core.Path.{◌∙◌}
use Rattle.sgdma.proofs.put_image.Goals as goal

pub returns : goal.returns
returns c = let f = fields_of c.args.m.core in
    let t = tail_of c.args.m in
    record {
      lent = c.put.ensures.lent
          ∙ image-good f t c.args.image.now c.requires.image_len (keeps-fits f t (kept-none f t c.requires.m_value));
    }
