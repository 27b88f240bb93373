use Rattle.machine.proofs.Bulk.{send-bursts}
use mathlib.Core.Path.{refl}
use borrow.Author.Rules.{rules}
use native.Mathlib.Omega.{arith}
use Rattle.machine.proofs.Work.send_many.Goals as goal

pub returns-clause-bursts : goal.returns-clause-bursts
returns-clause-bursts c = let plain = c.unmarked.ensures in
    let n = c.least-n.ensures.upper_bound in
    let room = c.least-room.ensures.upper_bound in
    let s = c.args.streams.now in
    record {
      kept = record { beats = refl; out = refl; room = search rules };
      bursts = send-bursts _ _ _ _ _ c.reads-from.ensures c.requires.length_value (omega (arith, n.0, plain.upper_bound)) (omega (arith, n.1, room.0))
          (omega (arith, n.1, room.1, s.within.1))
          (λ l i errors byte h. plain.unmarked l i errors byte (omega (arith, h, n.0))) c.send.ensures.lent s.beats.now s.taken;
    }
