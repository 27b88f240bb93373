use mathlib.Core.Path.{refl}
use Rattle.machine.proofs.Bulk.{moving, burst-told}
use Rattle.machine.proofs.Core.move_many.Goals as goal

pub returns-in-MemoryToMemory-clause-advances : goal.returns-in-MemoryToMemory-clause-advances
returns-in-MemoryToMemory-clause-advances c = let most = c.least-most.ensures.upper_bound in
    let s = c.args.streams.now in
    (burst-told _ (moving c.in-MemoryToMemory.is c.requires.in_move c.asked.ensures most.0)
    (record { kept = record { beats = refl; out = refl; room = refl }; bursts = c.copy_many-n.ensures.by_index s.beats.now s.taken s.out.now s.made }) c.moved.ensures
    c.copy_many-n.ensures.upper_bound).1

pub returns-in-MemoryToStream-clause-advances : goal.returns-in-MemoryToStream-clause-advances
returns-in-MemoryToStream-clause-advances c = let most = c.least-most.ensures.upper_bound in
    let sent = c.send_many-n.ensures in
    (burst-told _ (moving c.in-MemoryToStream.is c.requires.in_move c.asked.ensures most.0)
    sent.bursts c.moved-in-MemoryToStream.ensures sent.upper_bound).1

pub returns-in-StreamToMemory-clause-advances : goal.returns-in-StreamToMemory-clause-advances
returns-in-StreamToMemory-clause-advances c = let most = c.least-most.ensures.upper_bound in
    let got = c.receive_many-a.ensures in
    (burst-told _ (moving c.in-StreamToMemory.is c.requires.in_move c.asked.ensures most.0)
    got.bursts c.moved-in-StreamToMemory.ensures got.upper_bound).1
