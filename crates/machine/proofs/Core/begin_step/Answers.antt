use mathlib.Core.Bool.{true}
use mathlib.Core.Path.{◌≡◌}
use Rattle.regs.specs.Control.{run}
use Rattle.machine.specs.declared.Phase.TheVariants.{Rest, Fetch}
use Rattle.machine.specs.declared.Core.{Core}
use Rattle.machine.specs.Helpers.Waiting.{Begins, rests, fetches}
use Rattle.machine.proofs.AtFetch.{rest-begun, fetch-begun}
use Rattle.machine.proofs.Core.begin_step.Goals as goal

-- out of another phase than Fetch it is Rest, with RUN 1
at_rest : (m : Core) → Begins m → (m.phase ≡ Fetch → ⊥) → (m.phase ≡ Rest) × (run m.control ≡ true)
at_rest m (rests e r) other = (e, r)
at_rest m (fetches e) other =
    absurd (other e)

pub returns-in-Fetch : goal.returns-in-Fetch
returns-in-Fetch c = let a = c.args in fetch-begun a.self a.slot a.window.now _ c.in-Fetch.is c.fetch_step.ensures

pub returns-in_default : goal.returns-in_default
returns-in_default c = let rest = at_rest c.args.self c.requires c.in_default.not-Fetch in rest-begun _ _ _ rest.0 rest.1 c.enters.ensures c.alone.ensures
