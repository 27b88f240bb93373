use mathlib.Core.Path.{◌∙◌}
use borrow.Author.Rules.{rules}
use Rattle.vic.proofs.Telling.{told_put}
use Rattle.vic.proofs.tell.Goals as goal

pub returns : goal.returns
returns c =
    let a = c.args in
    let q = c.requires in
    record { lent = c.put_words.ensures.lent ∙ told_put a.answer.now a.c _ a.found.port a.found.level a.address (search rules) q.port_bound q.level_bound q.answer_len }
