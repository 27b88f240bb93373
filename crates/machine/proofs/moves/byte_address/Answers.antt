use Rattle.machine.proofs.moves.byte_address.Goals as goal

pub returns-else-fixed : goal.returns-else-fixed
returns-else-fixed c = simp c.if-fixed.false
