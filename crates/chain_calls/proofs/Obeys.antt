-- How long until the core obeys, of the C calls: the image between two calls is that of a machine met in use.
-- Assumes nothing.
use Rattle.bus.specs.Refusal.{answer_number}
use Rattle.std.specs.Prelude.{Result, Ok, Err}
use Prim.Native.Nat.{ℕ, ◌≤◌}
use mathlib.Core.Path.{◌≡◌, refl, sym, ap, subst, ◌∙◌}
use mathlib.Core.Logic.{◌⊎◌, inl, inr}
use mathlib.Core.List.{List}
use native.Mathlib.Nat.{mod-eq_of_lt}
use native.Mathlib.Omega.{arith}
use lib.ListN.{length}
use Rattle.bus.proofs.Numbers.{refused-not-done}
use Rattle.words.specs.declared.Order.TheVariants.{MostFirst}
use Rattle.words.specs.Bits.{bit}
use Rattle.words.specs.Orders.{bytes_of, number_of}
use Rattle.words.proofs.Orders.{number-bytes}
use Rattle.bus.specs.declared.Refusal.{Refusal}
use Rattle.regs.specs.Status.{status_number}
use Rattle.image.proofs.RoundTrip.{length-image}
use Rattle.machine.specs.declared.Machine.{Machine}
use Rattle.machine.specs.declared.Phase.{Phase}
use Rattle.machine.specs.declared.Reason.{Reason}
use Rattle.machine.specs.Saved.{fields_of, tail_of, load_of}
use Rattle.machine.specs.Registers.{reading_of, write_of}
use Rattle.machine.specs.Step.{machine_in}
use Rattle.machine.specs.Run.{reason_number, world_of, HasRun}
use Rattle.machine.proofs.Answers.{was-written}
use Rattle.met.specs.Met.{Met}
use Rattle.met.specs.Met as met
use Rattle.met.specs.Obeys.{Supplied, Obeyed, rests, faults, ObeyedRun}
use Rattle.met.proofs.Numbers.{status-lt-32, busy-bit}
use Rattle.met.proofs.InUse.{met-keeps}
use Rattle.met.proofs.Obeys.{obeys-in-run}
use Rattle.sgdma.specs.Calls.{image_of, register_of, read_call, value_over, written_in, RegisterRead}
use Rattle.sgdma.proofs.Opened.{sizes-right}
use Rattle.chain_calls.specs.InC.{RunLent, RunLeft}
use Rattle.chain_calls.specs.Images.{LoadsBack}
use Rattle.chain_calls.specs.Obeys.{Cleared, ObeyedInC}
use Rattle.chain_calls.specs.Theorems.{ObeysInC}
use Rattle.chain_calls.proofs.OfCalls.{loads-as, written_over_lem}
use Rattle.chain_calls.proofs.Done as done
use Rattle.chain_calls.proofs.Images.{images-load}
use Rattle.chain_calls.proofs.Ledger.{one-machine}

-- ---- status, read over the image of a machine met in use

module _ {m : Machine} {before value : List ℕ} (h : Met m) (size : length before ≡ 4) (r : RegisterRead (image_of m) 0 before 0 value) where
  reads : read_call (image_of m) 0 before ≡ Ok (status_number m.core.status)
  unfolding read_call reading_of
  reads =
      sizes-right _ _ 4 (image_of m) before (length-image (fields_of m.core) (tail_of m)) size
      ∙ ap (λ (x : Result Machine Refusal). register_of x 0) (loads-as h) ∙ rw (met-keeps m h)

  busy-read : bit 4 (number_of MostFirst value) ≡ m.core.status.busy
  busy-read =
      let s = m.core.status in
      ap (λ (xs : List ℕ). bit 4 (number_of MostFirst xs)) (r.value_after ∙ ap (λ (x : Result ℕ Refusal). value_over x before) reads)
      ∙ ap (bit 4) (number-bytes MostFirst 4 (status_number s) ∙ mod-eq_of_lt (omega (arith, status-lt-32 s))) ∙ busy-bit s

-- ---- the calls

reason-told : {r : Reason} {p : Phase} {n : ℕ} → Obeyed r p → n ≡ number_of MostFirst (bytes_of MostFirst 2 (reason_number r)) → (n ≡ 0) ⊎ (n ≡ 3)
reason-told rests e = inl e
reason-told faults e = inr e

module _ {xs : List ℕ} {v : ℕ} {x : RunLent} {y : RunLeft} {value : List ℕ} (c : Cleared xs v x y value) where
  abbrev b : LoadsBack xs
  b = images-load xs c.in_use

  s : done.Accepted x
  s = done.was-accepted x y c.ran c.done

  left : done.LeftBy s y
  left = done.left_by s y c.ran c.lent.used c.lent.budget

  after : Met (machine_in (done.ran s).world)
  after = done.met-after s y c.ran c.lent.window c.lent.beats

  -- the machine that the write leaves is the one that runs
  module _ {n : Machine} (e : write_of b.machine 4 v ≡ Ok n) where
    met-n : Met n
    met-n = met.written b.met c.bits (was-written (sym e))

    loads-n : load_of x.image ≡ Ok n
    loads-n = ap load_of (written_over_lem b.loads e c.written).1 ∙ loads-as met-n

    told : ObeyedRun (done.told s)
    told =
        obeys-in-run b.machine n v x.lent x.budget (done.told s) y.back b.met c.bits c.run_clear (was-written (sym e))
        c.lent.window c.lent.beats
        (subst (λ (m : Machine). Supplied (world_of m x.lent)) (one-machine x.image c.loads loads-n) c.supplied) c.budget
        (subst (λ (m : Machine). HasRun m x.lent x.budget (Ok (done.told s)) y.back) (one-machine x.image s.loads loads-n)
        (done.makes s y c.ran))

    obeyed-so : ObeyedInC y.report value
    obeyed-so =
        record {
          reason = reason-told told.stands left.reason;
          steps = subst (λ (n : ℕ). n ≤ 65536) (sym left.steps) told.steps;
          busy = busy-read after c.value_size (subst (λ (zs : List ℕ). RegisterRead zs 0 c.before 0 value) left.image c.read) ∙ told.busy;
        }

  obeyed-by : (a : Result Machine Refusal) → write_of b.machine 4 v ≡ a → ObeyedInC y.report value
  obeyed-by (Ok n) e = obeyed-so e
  obeyed-by (Err why) e =
      let a : written_in (load_of xs) 4 v ≡ Err why = ap (λ (l : Result Machine Refusal). written_in l 4 v) b.loads ∙ e in
      absurd (refused-not-done why (sym (c.written.number ∙ ap answer_number a)))

pub obeys-in-c : ObeysInC
obeys-in-c xs v x y value c = obeyed-by c _ refl
