-- The balance of beats.
-- Assumes nothing.
use Prim.Native.Nat.{ℕ, zero, suc, ◌+◌}
use mathlib.Core.Path.{◌≡◌, refl, sym, subst, ◌∙◌}
use mathlib.Core.Bool.{Bool, true, false, cond, not, ◌&&◌, ◌||◌}
use mathlib.Core.List.{List, [], ◌∷◌, ◌++◌}
use native.Mathlib.Omega.{arith}
use lib.Dec.{eqb}
use lib.ListN.{length}
use Rattle.bus.specs.Window.{in_window}
use Rattle.regs.specs.declared.Mode.{Mode}
use Rattle.regs.specs.declared.Mode.TheVariants.{StreamToMemory}
use Rattle.regs.specs.Control.{run, stop_dma_er}
use Rattle.machine.specs.declared.Work.{Work}
use Rattle.machine.specs.declared.Phase.{Phase}
use Rattle.machine.specs.declared.Phase.TheVariants.{Rest, Fetch, Move, WriteBack, Ended, Halted, Faulted}
use Rattle.machine.specs.declared.Reason.{Reason}
use Rattle.flow.specs.Beats.{beat_error, beat_eop}
use Rattle.machine.specs.Saved.{in_hand}
use Rattle.machine.specs.Step.{World, Answer, taken, stopped, stored, noted, settle, machine_in, entry_for, back_to, rest_step, fetch_step, destination_of, onward, with_byte, receive_from, move_step, after_back, completed, written_back, write_back_step, step_in, step, whole}
use Rattle.machine.specs.Run as runs
use Rattle.machine.proofs.StepLaws.{fetch-turns}
use Rattle.ledger.specs.declared.Entry.{Entry}
use Rattle.sums.specs.Sum.{held, sum_of, lost_by, lost_on}

pub sum-append : (xs ys : List Entry) → sum_of (xs ++ ys) ≡ sum_of xs + sum_of ys
sum-append [] ys = omega arith
sum-append (x ∷ xs) ys = let h = sum-append xs ys in omega arith

-- an answer in the phase p that balances: what was held and taken is held, told by a record or abandoned
pub data Balanced (p : Phase) (w : World) : Answer → Type 0 where
  goes : {v : World} → v.core.mode ≡ w.core.mode
      → (in_hand p).moved + length w.input + sum_of w.records
      ≡ held (machine_in v) + sum_of v.records + lost_by p v.core.phase + length v.input → Balanced p w (taken v)
  stays : {r : Reason} → Balanced p w (stopped r)

choice : {p : Phase} {w : World} (b : Bool) {x y : Answer} → Balanced p w x → Balanced p w y → Balanced p w (cond b x y)
choice true p q = p
choice false p q = q

-- what is read ahead is none of it
settles : {p : Phase} {w : World} {a : Answer} → Balanced p w a → Balanced p w (settle a)
settles (goes e h) = goes e h
settles stays = stays

-- a byte more is in hand, wherever it leads
on-held : (b : Bool) (j : Work) → (in_hand (cond b (WriteBack j) (Move j))).moved ≡ j.moved
on-held true j = refl
on-held false j = refl

on-lost : (b : Bool) (k j : Work) → lost_by (Move k) (cond b (WriteBack j) (Move j)) ≡ 0
on-lost true k j = refl
on-lost false k j = refl

-- nothing is in hand after a write-back
none-held : (run halts : Bool) → (in_hand (after_back run halts)).moved ≡ 0
none-held true true = refl
none-held true false = refl
none-held false halts = refl

module _ (w : World) where
  rest-balanced : Balanced Rest w (rest_step w)
  unfolding rest_step
  rest-balanced = choice (run w.core.control) (goes refl (omega arith)) stays

  fetch-balanced : Balanced Fetch w (fetch_step w)
  fetch-balanced = fetch-turns w (Balanced Fetch w) (λ m e f h s. goes e (omega (arith, h)))

  receive-balanced : (k : Work) (input : List ℕ) → w.input ≡ input → Balanced (Move k) w (receive_from w k input)
  unfolding onward
  receive-balanced k [] i = stays
  receive-balanced k (b ∷ bs) i =
      choice (in_window w.core.window (destination_of k) 1)
      (goes refl
      (let j = with_byte (beat_error b) (beat_eop b) k in
      let done = j.eop || eqb j.moved (whole w.core j) in
      rw i (omega (arith, on-held done j, on-lost done k j))))
      (goes refl (rw i (omega arith)))

  back-balanced : (k : Work) (left : ℕ) → Balanced (WriteBack k) w (back_to w k left)
  unfolding completed
  back-balanced k zero = stays
  back-balanced k (suc left) =
      goes {v = noted (stored w (completed w.core k) (written_back w k)) (w.records ++ entry_for w.run k ∷ []) left} refl
      (omega (
        arith,
        none-held (run w.core.control) (not (eqb k.errors 0) && stop_dma_er w.core.control),
        sum-append w.records (entry_for w.run k ∷ []),
      ))

  pub step-balanced : w.core.mode ≡ StreamToMemory → Balanced w.core.phase w (step w)
  unfolding step write_back_step
  step-balanced e = settles (by w.core.phase)
    where
      by : (p : Phase) → Balanced p w (step_in p w)
      by Rest = rest-balanced
      by Fetch = fetch-balanced
      by (Move k) = subst (λ (o : Mode). Balanced (Move k) w (move_step o w k)) (sym e) (receive-balanced k w.input refl)
      by (WriteBack k) = back-balanced k w.left
      by Ended = stays
      by Halted = stays
      by (Faulted f) = stays

-- over a run
run_on_lem : (n : ℕ) (w : World) (a : Answer) → w.core.mode ≡ StreamToMemory → Balanced w.core.phase w a
    → held (machine_in w) + length w.input + sum_of w.records
    ≡ held (machine_in (runs.run_on n w a).world) + sum_of (runs.run_on n w a).world.records + lost_on n w a + length (runs.run_on n w a).world.input
run_on_lem zero w (stopped r) e b = omega arith
run_on_lem zero w (taken v) e b = omega arith
run_on_lem (suc n) w (stopped r) e b = omega arith
run_on_lem (suc n) w (taken v) e (goes m h) = omega (arith, h, run_on_lem n v (step v) (m ∙ e) (step-balanced v (m ∙ e)))

pub run-balanced : (n : ℕ) (w : World) → w.core.mode ≡ StreamToMemory
    → held (machine_in w) + length w.input + sum_of w.records
    ≡ held (machine_in (runs.run n w).world) + sum_of (runs.run n w).world.records + lost_on n w (step w) + length (runs.run n w).world.input
unfolding runs.run
run-balanced n w e = run_on_lem n w (step w) e (step-balanced w e)
