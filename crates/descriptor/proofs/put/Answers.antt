use mathlib.Core.Path.{ap, ◌∙◌}
use Rattle.words.specs.Slices.{put_at}
use Rattle.descriptor.proofs.Writing.{eight-words}
use borrow.Author.Rules.{rules}
use Rattle.descriptor.proofs.put.Goals as goal

pub returns : goal.returns
returns c = record { lent = c.put_words.ensures.lent ∙ ap (put_at c.args.window.now c.args.at) (eight-words c.args.job (search rules) (search rules)) }
