use Rattle.machine.proofs.Bulk.{copy-bursts}
use native.Mathlib.Omega.{arith}
use Rattle.machine.proofs.Work.copy_many.Goals as goal

pub returns : goal.returns
returns c = let n = c.least-n.ensures.upper_bound in
    let both = c.least.ensures.upper_bound in record {
      upper_bound = n.0;
      by_index = copy-bursts _ _ _ c.reads-from.ensures c.writes-to.ensures c.requires n.0 (omega (arith, n.1, both.0))
          (omega (arith, n.1, both.1)) c.copy.ensures.lent;
    }
