use Prim.Native.Nat.{◌/◌, ◌^◌}
use mathlib.Core.Path.{◌≡◌}
use Rattle.vic.specs.Choice.{best_port, most_level}
use Rattle.vic.proofs.Choosing.{mask}
use Rattle.vic.proofs.best.Given as goal

abbrev pub invariant-loop-port : goal.invariant-loop-port
invariant-loop-port l = record {
  half : l.rest ≡ mask l.vic / 2 ^ l.port;
  best : (l.best.port ≡ best_port l.vic l.port) × (l.best.level ≡ most_level l.vic l.port);
}
