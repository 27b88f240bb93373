use Rattle.descriptor.proofs.Looks.{read-words}
use Rattle.descriptor.proofs.words_at.Goals as goal

pub returns : goal.returns
returns c = read-words _ _ c.requires _ _ _ _ c.two_words.ensures c.two_words-2.ensures c.two_words-3.ensures c.two_words-4.ensures
