use Rattle.regs.specs.declared.Mode.{Mode}
use Rattle.machine.proofs.Waiting.{goes-room, goes-beat}
use Rattle.machine.proofs.Turning.{went-still, went-as}
use Rattle.machine.specs.declared.Core.{Core}
use Rattle.machine.specs.declared.streams.Streams.{Streams}
use Rattle.machine.specs.Helpers.Lending.{Applies}
use Rattle.machine.specs.Step.{World, became, move_step}
use mathlib.Core.Path.{◌≡◌, refl, ap}
use mathlib.Core.List.{List}
use Prim.Native.Nat.{ℕ}
use Rattle.machine.proofs.Core.move_step.Goals as goal
use Rattle.machine.proofs.Core.move_step.Goals.{Start}

-- the rule of the mode that was found is Move's
module _ (c : Start) {o : Mode} (e : c.args.self.mode ≡ o) where
  is_move : {m' : Core} {window' : List ℕ} {s' : Streams}
      → Applies (λ (w : World). move_step o w c.args.k) c.args.self c.args.window.now c.args.streams.now m' window' s'
      → Applies (λ (w : World). move_step c.args.self.mode w c.args.k) c.args.self c.args.window.now c.args.streams.now m' window' s'
  is_move g =
      record {
        kept = g.kept;
        went = went-as (λ (w : World). move_step o w c.args.k) (λ (w : World). move_step c.args.self.mode w c.args.k)
            (λ w. ap (λ (x : Mode). move_step x (became w c.args.self) c.args.k) e) g.went;
      }

pub send_step-requires : goal.send_step-requires
send_step-requires c = let a = c.args in
    let s = a.streams.now in
    let p = c.requires in record { in_move = p.in_move; room = goes-room a.self a.k a.window.now s.beats.now s.taken s.out.now s.made p.goes c.in-MemoryToStream.is }

pub receive_step-requires : goal.receive_step-requires
receive_step-requires c = let a = c.args in
    let s = a.streams.now in
    let p = c.requires in record { in_move = p.in_move; more = goes-beat a.self a.k a.window.now s.beats.now s.taken s.out.now s.made p.goes c.in-StreamToMemory.is }

pub returns-in-MemoryToMemory : goal.returns-in-MemoryToMemory
returns-in-MemoryToMemory c =
    is_move (goal.at.returns-in-MemoryToMemory c).Start c.in-MemoryToMemory.is
    (record { kept = record { beats = refl; out = refl; room = refl }; went = went-still _ _ _ _ _ _ _ _ _ c.copy_step.ensures })

pub returns-in-MemoryToStream : goal.returns-in-MemoryToStream
returns-in-MemoryToStream c = is_move (goal.at.returns-in-MemoryToStream c).Start c.in-MemoryToStream.is c.send_step.ensures

pub returns-in-StreamToMemory : goal.returns-in-StreamToMemory
returns-in-StreamToMemory c = is_move (goal.at.returns-in-StreamToMemory c).Start c.in-StreamToMemory.is c.receive_step.ensures
