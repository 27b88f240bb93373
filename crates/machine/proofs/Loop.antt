-- A run by its turns: where it stops, and how it goes on after steps that were taken at once.
-- Assumes nothing.
use Rattle.std.specs.Prelude.{Some, None}
use Prim.Native.Nat.{ℕ, zero, suc, ◌+◌}
use mathlib.Core.Path.{◌≡◌, refl, sym, ap, ◌∙◌}
use native.Mathlib.Nat.{zero-add, add_assoc}
use native.Mathlib.Omega.{arith}
use Rattle.machine.specs.declared.Reason.{Reason}
use Rattle.machine.specs.declared.Reason.TheVariants as reason
use Rattle.machine.specs.Step.{World, Answer, taken, stopped, step}
use Rattle.machine.specs.Run.{Report, one_more_of, run_on, run}
use Rattle.machine.specs.Helpers.Waiting.{wait_of}
use Rattle.machine.specs.Helpers.Turns.{steps_on, steps}

abbrev pub report : World → ℕ → Reason → Report
report w n r = record { reason = r; steps = n; world = w }

-- a report with n steps more
abbrev pub more_by : ℕ → Report → Report
more_by n r = record { reason = r.reason; steps = n + r.steps; world = r.world }

stops-by : (budget : ℕ) (w : World) (a : Answer) (r : Reason) → wait_of a ≡ Some r → run_on budget w a ≡ report w 0 r
stops-by budget w (taken v) r e = absurd (let z : ◌≡◌ {A = ℕ} 0 1 = cc in omega arith)
stops-by zero w (stopped q) r e = let same : q ≡ r = cc in ap (λ (x : Reason). report w 0 x) same
stops-by (suc n) w (stopped q) r e = let same : q ≡ r = cc in ap (λ (x : Reason). report w 0 x) same

-- the reason is the one found there
pub run-stops : (budget : ℕ) (w : World) (r : Reason) → wait_of (step w) ≡ Some r → run budget w ≡ report w 0 r
unfolding run
run-stops budget w r e = stops-by budget w (step w) r e

out-by : (w : World) (a : Answer) → wait_of a ≡ None → run_on 0 w a ≡ report w 0 reason.Budget
out-by w (taken v) e = refl
out-by w (stopped q) e = absurd (let z : ◌≡◌ {A = ℕ} 0 1 = cc in omega arith)

-- Budget where another step was possible
pub run_out : (w : World) → wait_of (step w) ≡ None → run 0 w ≡ report w 0 reason.Budget
unfolding run
run_out w e = out-by w (step w) e

-- n steps that were taken, and then a run, are a run over n more
on-steps : (n left : ℕ) (w : World) (a : Answer) (v : World) → steps_on n a ≡ taken v → run_on (suc (n + left)) w a ≡ more_by (suc n) (run left v)
unfolding run
on-steps zero left w (stopped r) v e = absurd (let z : ◌≡◌ {A = ℕ} 0 1 = cc in omega arith)
on-steps zero left w (taken u) v e =
    let same : u ≡ v = cc in
    let one : suc (run left v).steps ≡ 1 + (run left v).steps = omega arith in
    rw (same, zero-add left) (ap (λ (n : ℕ). report (run left v).world n (run left v).reason) one)
on-steps (suc n) left w (stopped r) v e = absurd (let z : ◌≡◌ {A = ℕ} 0 1 = cc in omega arith)
on-steps (suc n) left w (taken u) v e =
    let out : suc n + left ≡ suc (n + left) = omega arith in
    let more : suc (suc n + (run left v).steps) ≡ suc (suc n) + (run left v).steps = omega arith in
    ap (λ (b : ℕ). one_more_of (run_on b u (step u))) out ∙ ap one_more_of (on-steps n left u (step u) v e)
    ∙ ap (λ (n : ℕ). report (run left v).world n (run left v).reason) more

pub run-steps : (n left : ℕ) (w v : World) → steps n w ≡ taken v → run (n + left) w ≡ more_by n (run left v)
unfolding run steps
run-steps zero left w v e =
    let same : w ≡ v = cc in
    rw (same, zero-add left) (ap (λ (n : ℕ). report (run left v).world n (run left v).reason) (sym (zero-add (run left v).steps)))
run-steps (suc n) left w v e =
    let out : suc n + left ≡ suc (n + left) = omega arith in
    ap (λ (b : ℕ). run_on b w (step w)) out ∙ on-steps n left w (step w) v e

-- no step more, and steps told twice over
pub more-none : (r : Report) → more_by 0 r ≡ r
more-none r = ap (λ (k : ℕ). report r.world k r.reason) (zero-add r.steps)

pub more-more : (n m : ℕ) (r : Report) → more_by n (more_by m r) ≡ more_by (n + m) r
more-more n m r = ap (λ (k : ℕ). report r.world k r.reason) (sym (add_assoc n m r.steps))
