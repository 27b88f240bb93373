use Prim.Native.Nat.{ℕ, ◌/◌}
use mathlib.Core.Path.{refl, sym, ap, ◌∙◌}
use native.Mathlib.Nat.{div-one}
use native.Mathlib.Omega.{arith}
use Rattle.vic.specs.Choice.{best_port, most_level}
use Rattle.vic.proofs.Choosing.{mask-half, turn_won, turn_idle, turn_lost}
use Rattle.vic.proofs.best.Goals.{then-rest-eq1+then-best-level, else-rest-eq1, else-rest-eq1-via-then-rest-eq1+else-best-level, else-rest-eq1-via-else-rest-eq1}
use Rattle.vic.proofs.best.Goals as goal

pub loop-port-init : goal.loop-port-init
unfolding best_port most_level
loop-port-init c = record { half = c.waiting-rest.ensures ∙ sym (div-one _); best = (refl, refl) }

pub loop-port-preserved : goal.loop-port-preserved
loop-port-preserved c =
    let loop = c.loop-port in
    let before = loop.invariant.best in
    record {
      half = ap (λ (x : ℕ). x / 2) loop.invariant.half ∙ mask-half _ loop.port;
      best = elim c.if-rest-eq1.branch [
        | then-rest-eq1+then-best-level w ↦
            (let won = turn_won c.args.vic.now loop.port loop.rest c.level-level.result loop.best.level loop.invariant.half c.level-level.ensures.value before.1 w.if-rest-eq1.true w.if-best-level.true in grind arith)
        | else-rest-eq1 w ↦ elim w.else-rest-eq1.branch [
          | else-rest-eq1-via-then-rest-eq1+else-best-level w' ↦
              (let lost = turn_lost c.args.vic.now loop.port loop.rest c.level-level.result loop.best.level loop.invariant.half c.level-level.ensures.value before.1 w'.if-rest-eq1.true w'.if-best-level.false in grind arith)
          | else-rest-eq1-via-else-rest-eq1 w' ↦
              (let idle = turn_idle c.args.vic.now loop.port loop.rest c.level-level.result loop.best.level loop.invariant.half c.level-level.ensures.value before.1 w'.if-rest-eq1.false in grind arith)
        ]
      ];
    }
