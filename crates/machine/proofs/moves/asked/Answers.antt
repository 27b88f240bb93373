use borrow.Author.Tests.{eq-eqb, ne_eqb}
use Rattle.machine.proofs.moves.asked.Goals as goal

pub returns-in-MemoryToMemory : goal.returns-in-MemoryToMemory
returns-in-MemoryToMemory c = simp c.in-MemoryToMemory.is

pub returns-in-MemoryToStream : goal.returns-in-MemoryToStream
returns-in-MemoryToStream c = simp c.in-MemoryToStream.is

pub returns-then-length-eq0 : goal.returns-then-length-eq0
returns-then-length-eq0 c = simp (c.in-StreamToMemory.is, eq-eqb _ _ c.if-length-eq0.true)

pub returns-else-length-eq0 : goal.returns-else-length-eq0
returns-else-length-eq0 c = simp (c.in-StreamToMemory.is, ne_eqb _ _ c.if-length-eq0.false)
