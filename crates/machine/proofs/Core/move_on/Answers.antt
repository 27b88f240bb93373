use native.Mathlib.Omega.{arith}
use Rattle.machine.specs.Step.{World, move_step}
use Rattle.machine.specs.Helpers.Waiting.{Goes}
use Rattle.machine.specs.Helpers.Resume.{InMove}
use Rattle.machine.proofs.Waiting.{goes_in}
use Rattle.machine.proofs.Bulk.{as_before, then-step}
use lib.ListN.{length}
use Rattle.machine.proofs.Core.move_on.Goals as goal

pub move_step-core-requires : goal.move_step-core-requires
move_step-core-requires c = let a = c.args in
    let s = a.streams.now in
    let still = as_before c.move_many-b.ensures.advances c.if-b-ne0.false in
    let goes = goes_in a.self a.window.now s.beats.now s.taken s.out.now s.made c.requires.in_move.phase c.requires.goes in record {
      in_move = still (λ window beats took out made. InMove a.self a.k (length window)) c.requires.in_move;
      goes = still (λ window beats took out made. Goes (λ (w : World). move_step a.self.mode w a.k) a.self window beats took out made)
          (record { around = goes.around; can = goes.can });
    }

pub returns : goal.returns
returns c = record { le_steps = (omega arith, c.requires.le_left); advances = then-step c.move_many-b.ensures.advances c.if-b-ne0.false c.requires.in_move.phase c.move_step-core.ensures }
