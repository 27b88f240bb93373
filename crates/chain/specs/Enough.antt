-- Demand 3 speaks of a run "with budget enough": there is such a budget, in each mode. The theorems are `budget-exists-in` and, of demand 3,
-- `budget-exists`.
-- Assumes nothing.
use Rattle.std.specs.Prelude.{◌+◌, ◌^◌, ◌≤◌, ◌<◌}
use Rattle.regs.specs.declared.Mode.{Mode}
use Rattle.machine.specs.Run.{run, ran_as}
use Rattle.chain.specs.Chain.{Given, world_in, world_for, shares, cost, Outcome}
use Rattle.chain.specs.Modes.{shares_in, EndsIn}

-- how far a chain goes, and what it costs
pub record WithinBudget (g : Given) : Type 0 where
  -- the k owned descriptors and the one at their end are at most 2,048
  pub few : g.k < 2048
  -- the steps of a run to its end are a number of 32 bits
  pub steps : 2 + cost (shares g) < 2 ^ 32
  -- so the largest budget that can be given is enough
  pub outcome : Outcome g (ran_as g.used (world_for g) (run 4294967295 (world_for g))) (run 4294967295 (world_for g)).world.memory

-- the same in a mode: the k and the one at their end
pub record WithinBudgetIn (mode : Mode) (g : Given) : Type 0 where
  pub few : g.k + 1 ≤ 2048
  pub steps : 2 + cost (shares_in mode g) < 2 ^ 32
  pub ends : EndsIn mode g (run 4294967295 (world_in mode g))
