-- The machine after its two writes, and after the step out of Rest.
-- Assumes nothing.
use Rattle.std.specs.Prelude.{None}
use Prim.Native.Nat.{ℕ, ◌/◌, ◌%◌}
use mathlib.Core.Path.{◌≡◌, ap, ap₂}
use mathlib.Core.Bool.{true, false, and-false}
use native.Mathlib.Omega.{arith}
use Rattle.words.specs.Bits.{bit}
use Rattle.regs.specs.declared.Mode.{Mode}
use Rattle.regs.specs.Control.{as_control, run, park, stop_dma_er, run_from}
use Rattle.machine.specs.declared.Core.{Core}
use Rattle.machine.specs.declared.Machine.{Machine}
use Rattle.machine.specs.declared.Phase.TheVariants.{Fetch}
use Rattle.machine.specs.State.{with_pointer, with_phase, with_busy, fresh_core, machine_with}
use Rattle.machine.specs.Registers.{control_stored}
use Rattle.machine.specs.Step.{World, became, opened, seen_in, seen}
use Rattle.machine.proofs.Writes.{write-runs}
use Rattle.chain.specs.Chain.{Given, world_in}
use Rattle.chain.proofs.Rules.{Set, SeesMemory}

-- RUN, STOP_DMA_ER and PARK are stored as written
stored-5 : (c : ℕ) → c % 262144 / 32 % 2 ≡ c / 32 % 2
stored-5 c = omega arith

stored-6 : (c : ℕ) → c % 262144 / 64 % 2 ≡ c / 64 % 2
stored-6 c = omega arith

stored-17 : (c : ℕ) → c % 262144 / 131072 % 2 ≡ c / 131072 % 2
stored-17 c = omega arith

-- it is the first run
first_run : (c : ℕ) → run (as_control c) ≡ true → run_from c (record { 0 = 0 }) 0 ≡ 1
first_run c h = rw (and-false (bit 16 c), h)

pub nothing-ahead : (w : World) → w.slot ≡ None → SeesMemory w
unfolding seen
nothing-ahead w e = ap (seen_in w) e

module _ (mode : Mode) (g : Given) where
  abbrev m0 : Machine
  m0 = machine_with (control_stored g.control (with_pointer g.pointer (fresh_core mode g.window))) None 1

  abbrev pub resting : World
  resting = opened m0 g.memory g.beats g.room g.left

  abbrev pub fetching : World
  fetching = became resting (with_phase Fetch (with_busy true m0.core))

  pub starts : run (as_control g.control) ≡ true → world_in mode g ≡ resting
  starts h =
      ap₂ (λ (c : Core) (number : ℕ). opened (machine_with c None number) g.memory g.beats g.room g.left)
      (write-runs g.control (with_pointer g.pointer (fresh_core mode g.window)) (and-false (bit 16 g.control)) h)
      (first_run g.control h)

  pub set_so : run (as_control g.control) ≡ true → park (as_control g.control) ≡ false → Set fetching.core
  set_so r p = record { runs = rw (stored-5 g.control) r; unparked = rw (stored-17 g.control) p }

  pub unstopped : stop_dma_er (as_control g.control) ≡ false → stop_dma_er fetching.core.control ≡ false
  unstopped s = rw (stored-6 g.control) s
