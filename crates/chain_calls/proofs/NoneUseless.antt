-- None of the useless models keeps the promise of sgdma_run, though it can be kept.
-- Assumes nothing.
use Rattle.std.specs.Prelude.{Ok}
use Prim.Native.Nat.{ℕ}
use mathlib.Core.Path.{◌≡◌, refl, sym, ap, ◌∙◌}
use mathlib.Core.List.{List}
use native.Mathlib.Omega.{arith}
use lib.ListN.{length, get_or}
use Rattle.descriptor.specs.Layout.{bytes_for, descriptor_at}
use Rattle.image.proofs.RoundTrip.{length-image}
use Rattle.machine.specs.Saved.{fields_of, tail_of, WasLoaded}
use Rattle.ledger.specs.Records.{capacity}
use Rattle.machine.proofs.Answers.{was-loaded}
use Rattle.met.proofs.RoundTrip.{loaded-typed, loads-exactly}
use Rattle.chain.specs.Chain.{sent}
use Rattle.chain.specs.Known.{known, three}
use Rattle.chain.proofs.Demand.{premises, same-cost}
use Rattle.chain.proofs.Instances.{known-run-1, chain-of-three, landed-nth}
use Rattle.chain_calls.specs.InC.{RunLent, Found}
use Rattle.chain_calls.specs.Useless.{Model, Keeps, NotRefused}
use Rattle.chain_calls.specs.Known.{lends, lent_to}
use Rattle.chain_calls.specs.Theorems.{HonestKeeps, RefuserFails, FixedFails, NeverMovingFails, MarkerFails, MadeUpFails, UnrecordedFails}
use Rattle.chain_calls.proofs.InEachMode.{run-not-refused, run-finds}
use Rattle.chain_calls.proofs.OfDemand.{found-in-its-words}
use Rattle.chain_calls.proofs.Done.{Accepted, LeftBy, left_by}
use Rattle.chain_calls.proofs.Instances.{in_bytes, known-lent, three-lent}

-- ---- the promise can be kept

pub honest-keeps : HonestKeeps
honest-keeps x b = record { number = refl; image_after = refl; back = refl; report_after = refl }

-- ---- what a model that keeps it makes of known run 1, and of the chain of three

module _ (f : Model) (k : Keeps f) where
  known-found : Found known (lends known) (f (lent_to known))
  unfolding descriptor_at bytes_for capacity
  known-found =
      found-in-its-words known (lends known) (f (lent_to known))
      (run-finds 1 known-lent (premises known known-run-1.meets) (k (lent_to known) (in_bytes known known-run-1.meets (omega arith))) (same-cost known (omega arith)))

  three-found : Found three (lends three) (f (lent_to three))
  unfolding descriptor_at bytes_for capacity
  three-found =
      found-in-its-words three (lends three) (f (lent_to three))
      (run-finds 3 three-lent (premises three chain-of-three.meets) (k (lent_to three) (in_bytes three chain-of-three.meets (omega arith))) (same-cost three (omega arith)))

  -- and neither is refused
  known-done : (f (lent_to known)).number ≡ 0
  unfolding capacity
  known-done = run-not-refused 1 known-lent (premises known known-run-1.meets) (k (lent_to known) (in_bytes known known-run-1.meets (omega arith)))

  three-done : (f (lent_to three)).number ≡ 0
  unfolding descriptor_at bytes_for capacity
  three-done = run-not-refused 3 three-lent (premises three chain-of-three.meets) (k (lent_to three) (in_bytes three chain-of-three.meets (omega arith)))

-- ---- the models

-- known run 1 gives back 0
pub refuser-fails : RefuserFails
refuser-fails f r k = r (lent_to known) (known-done f k)

-- known run 1 takes 8 steps, and the chain of three 16
pub fixed-fails : FixedFails
unfolding descriptor_at bytes_for capacity
fixed-fails f e k =
    let same = e (lent_to known) (lent_to three) (known-done f k) (three-done f k) in
    let z : ◌≡◌ {A = ℕ} 8 16 = ap (λ (r : List ℕ). get_or r 5 0) (sym (known-found f k).report ∙ same ∙ (three-found f k).report) in
    omega arith

-- in known run 1 the byte 0x11 lands at place 128, where 0 was
pub never-moving-fails : NeverMovingFails
unfolding descriptor_at bytes_for capacity
never-moving-fails f n k =
    let landed : get_or (f (lent_to known)).back.window 128 0 ≡ 0x11 = landed-nth known.window (sent known) (f (lent_to known)).back.window (known-found f k).outcome.landed 0 (omega arith) refl in
    let z : ◌≡◌ {A = ℕ} 0x11 0 = sym landed ∙ ap (λ (m : List ℕ). get_or m 128 0) (n (lent_to known)) in
    omega arith

-- in the chain of three the second descriptor's byte 0x55 lands at place 131, where 0 was
pub marker-fails : MarkerFails
unfolding descriptor_at bytes_for capacity
marker-fails f o k =
    let landed : get_or (f (lent_to three)).back.window 131 0 ≡ 0x55 = landed-nth three.window (sent three) (f (lent_to three)).back.window (three-found f k).outcome.landed 4 (omega arith) refl in
    let kept = o (lends three) 3 three-lent chain-of-three.meets 131
    (λ e. omega arith, (λ e. omega arith, (λ e. omega arith, tt)))
    (λ j a e. omega arith, (λ j a e. omega arith, (λ j a e. omega arith, tt))) in
    let z : ◌≡◌ {A = ℕ} 0x55 0 = sym landed ∙ kept in
    omega arith

-- what is lent to a call that is not refused, as it is accepted
abbrev accepted : {x : RunLent} → NotRefused x → Accepted x
accepted {x} d =
    let l : WasLoaded x.image (Ok d.machine) = was-loaded (sym d.loads) in
    record {
      machine = d.machine;
      size = ap length ((loads-exactly x.image d.machine d.bytes.image (loaded-typed l)).0 l).1
          ∙ length-image (fields_of d.machine.core) (tail_of d.machine);
      report_size = d.report_size;
      loads = d.loads;
      served = d.served;
    }

-- what a model that keeps the promise leaves of it
kept-left : (f : Model) → Keeps f → {x : RunLent} (d : NotRefused x) → LeftBy (accepted d) (f x)
kept-left f k {x} d = left_by (accepted d) (f x) (k x d.bytes) d.bytes.used d.bytes.budget

-- the report's steps are the applications of the step rule
pub made-up-fails : MadeUpFails
made-up-fails f u k = u.made_up (kept-left f k u.done).steps

-- the report's number of records used counts those of the run
pub unrecorded-fails : UnrecordedFails
unrecorded-fails f u k = omega (arith, (kept-left f k u.done).used, u.unrecorded, u.written_back)
