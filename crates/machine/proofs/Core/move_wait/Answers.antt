use Rattle.machine.proofs.Waiting.{move-waits, either-go}
use mathlib.Core.Path.{◌∙◌, sym}
use Rattle.machine.proofs.Places.{inside, outside}
use Rattle.machine.specs.Step.{became}
use Rattle.machine.proofs.Core.move_wait.Goals as goal

pub returns-then-room : goal.returns-then-room
returns-then-room c = let a = c.args in
    λ w p q h. sym (move-waits a.self.mode (became w a.self) a.k ∙ simp (c.in-MemoryToStream.is, sym q, c.if-room.true, either-go))

pub returns-in-MemoryToMemory : goal.returns-in-MemoryToMemory
returns-in-MemoryToMemory c = let a = c.args in
    λ w p q h. sym (move-waits a.self.mode (became w a.self) a.k ∙ simp c.in-MemoryToMemory.is)

pub returns-in-None : goal.returns-in-None
returns-in-None c = let a = c.args in
    λ w p q h. sym (move-waits a.self.mode (became w a.self) a.k ∙ simp (c.in-MemoryToStream.is, outside c.locate-found.ensures c.read_address.ensures c.in-None.is))

pub returns-in-Some : goal.returns-in-Some
returns-in-Some c = let a = c.args in
    λ w p q h. sym (move-waits a.self.mode (became w a.self) a.k ∙ simp (c.in-MemoryToStream.is, inside c.locate-found.ensures c.read_address.ensures c.in-Some.is, sym q, c.if-room.false))

pub returns-then-more : goal.returns-then-more
returns-then-more c = let a = c.args in
    λ w p q h. sym (move-waits a.self.mode (became w a.self) a.k ∙ simp (c.in-StreamToMemory.is, sym p, c.if-more.true))

pub returns-else-more : goal.returns-else-more
returns-else-more c = let a = c.args in
    λ w p q h. sym (move-waits a.self.mode (became w a.self) a.k ∙ simp (c.in-StreamToMemory.is, sym p, c.if-more.false))
