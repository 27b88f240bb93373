-- A budget of 32 bits that is enough exists: a chain has no more than 2,047 owned descriptors, and none moves more than 65,535 bytes.
-- Assumes nothing.
use Prim.Native.Nat.{◌+◌, ◌*◌, ◌^◌, ◌≤◌, ◌<◌}
use mathlib.Core.Path.{subst}
use mathlib.Core.List.{List, [], ◌∷◌}
use native.Mathlib.Omega.{arith}
use lib.ListN.{length}
use Rattle.regs.specs.declared.Mode.TheVariants.{StreamToMemory}
use Rattle.links.specs.Form.{All}
use Rattle.links.proofs.Meaning.{sound-at-most}
use Rattle.chain.specs.Chain.{Share, cost}
use Rattle.chain.specs.Modes.{shares_in}
use Rattle.chain.specs.Theorems.{BudgetExists, BudgetExistsIn}
use Rattle.chain.proofs.Start.{fetching}
use Rattle.chain.proofs.Shares.{all_short}
use Rattle.chain.proofs.Theorem.{length-links, k-shares, all-ready, in-each-mode}
use Rattle.chain.proofs.Demand.{same-shares, premises, in-its-words}

-- ---- what they cost

cost-most : (ss : List Share) → All (λ (s : Share). s.count < 65536) ss → cost ss ≤ 65537 * length ss
cost-most [] a = omega arith
cost-most (s ∷ ss) a = let rest = cost-most ss a.1 in omega (arith, a.0)

-- ---- the theorems

pub budget-exists-in : BudgetExistsIn
budget-exists-in mode g h limits =
    let w = g.window in
    let few = sound-at-most w g.memory g.pointer g.k limits h.form in
    let paid = cost-most (shares_in mode g) (all_short (shares_in mode g) (fetching mode g) (all-ready mode g h)) in
    let same = k-shares mode g h in
    let owned = length-links w g.memory g.pointer g.k in
    record { few = omega arith; steps = omega arith; ends = in-each-mode mode g h 4294967295 (omega arith) }

pub budget-exists : BudgetExists
budget-exists g h limits =
    let b = budget-exists-in StreamToMemory g (premises g h) limits in
    record {
      few = omega (arith, b.few);
      steps = subst (λ (ss : List Share). 2 + cost ss < 2 ^ 32) (same-shares g) b.steps;
      outcome = in-its-words g _ _ b.ends.outcome;
    }
