use Rattle.std.proofs.Common.{arith, rules}
use Rattle.ledger.proofs.Rows.{room-lt, appends}
use Rattle.ledger.proofs.append.Goals as goal

pub overflow_add-result : goal.overflow_add-result
overflow_add-result c = omega (arith, (room-lt _ _ c.has_room.ensures c.if-has_room.true).0)

pub returns-then-has_room : goal.returns-then-has_room
returns-then-has_room c = appends _ _ c.args.e c.has_room.ensures c.if-has_room.true c.last.ensures (search rules) (search rules) c.put_words.ensures.lent
