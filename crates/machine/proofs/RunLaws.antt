-- The laws of a run: what it tells, what it leaves, and how runs follow each other.
-- Assumes nothing.
use Prim.Native.Nat.{ℕ, zero, suc, ◌+◌, ◌≤◌, ◌<◌}
use mathlib.Core.Path.{◌≡◌, refl, sym, ap, subst, subst⁻¹, ◌∙◌}
use mathlib.Core.Logic.{◌≢◌}
use native.Mathlib.Nat.{suc-add, zero-add, le_of_suc-le-suc, not-suc-le-zero}
use native.Mathlib.Omega.{arith}
use lib.ListN.{drop}
use Rattle.machine.specs.declared.Reason.{Reason}
use Rattle.machine.specs.declared.Reason.TheVariants.{Budget}
use Rattle.machine.specs.Step.{World, Answer, taken, stopped, step}
use Rattle.machine.specs.Run.{Report, one_more_of, run, taken_since}
use Rattle.machine.specs.Laws.{Passed, on_top, Along, here, more, Found, stops, spent, Tells}
use Rattle.machine.specs.Theorems.{RunAdd, RunTells, BudgetOnly}
use Rattle.machine.proofs.StepLaws.{passed_none, passed_on, took-since, step-passed, never-budget}

-- ---- a run by its first step

module _ (w : World) where
  -- a stopped world stops again, whatever the budget
  pub run-stopped : (r : Reason) → step w ≡ stopped r → (n : ℕ) → run n w ≡ record { reason = r; steps = 0; world = w }
  unfolding run
  run-stopped r e zero = rw e
  run-stopped r e (suc n) = rw e

  module _ (v : World) (e : step w ≡ taken v) where
    pub run-spent : run 0 w ≡ record { reason = Budget; steps = 0; world = w }
    unfolding run
    run-spent = rw e

    pub run-taken : (n : ℕ) → run (suc n) w ≡ one_more_of (run n v)
    unfolding run
    run-taken n = rw e

-- a run of no step ends where it began
pub run-nowhere : (b : ℕ) (w : World) → (run b w).steps ≡ 0 → (run b w).world ≡ w
run-nowhere b w none = by (step w) b refl none
  where
    by : (x : Answer) (n : ℕ) → step w ≡ x → (run n w).steps ≡ 0 → (run n w).world ≡ w
    by (stopped r) n e none = ap (λ (x : Report). x.world) (run-stopped w r e n)
    by (taken v) zero e none = ap (λ (x : Report). x.world) (run-spent w v e)
    by (taken v) (suc n) e none =
        let some : suc (run n v).steps ≡ 0 = sym (ap (λ (x : Report). x.steps) (run-taken w v e n)) ∙ none in
        absurd (omega arith)

-- ---- a run of a + b is a run of a followed by one of b

on-zero : (r : Report) → on_top 0 r ≡ r
on-zero r = ap (λ (n : ℕ). record { reason = r.reason; steps = n; world = r.world }) (zero-add r.steps)

on-suc : (n : ℕ) (r : Report) → on_top (suc n) r ≡ one_more_of (on_top n r)
on-suc n r = ap (λ (k : ℕ). record { reason = r.reason; steps = k; world = r.world }) (suc-add n r.steps)

-- the report r, and a run of b after it
abbrev then : ℕ → Report → Report
then b r = on_top r.steps (run b r.world)

pub run-add : RunAdd
run-add zero b w = by (step w) refl
  where
    by : (x : Answer) → step w ≡ x → run (0 + b) w ≡ then b (run 0 w)
    by (stopped r) e = run-stopped w r e (0 + b) ∙ sym (ap (then b) (run-stopped w r e 0) ∙ ap (on_top 0) (run-stopped w r e b))
    by (taken v) e = ap (λ (n : ℕ). run n w) (zero-add b) ∙ sym (ap (then b) (run-spent w v e) ∙ on-zero (run b w))
run-add (suc a) b w = by (step w) refl (λ v. run-add a b v)
  where
    by : (x : Answer) → step w ≡ x → ((v : World) → run (a + b) v ≡ then b (run a v)) → run (suc a + b) w ≡ then b (run (suc a) w)
    by (stopped r) e h =
        run-stopped w r e (suc a + b) ∙ sym (ap (then b) (run-stopped w r e (suc a)) ∙ ap (on_top 0) (run-stopped w r e b))
    by (taken v) e h =
        ap (λ (n : ℕ). run n w) (suc-add a b) ∙ run-taken w v e (a + b) ∙ ap one_more_of (h v)
        ∙ sym (ap (then b) (run-taken w v e a) ∙ on-suc (run a v).steps (run b (run a v).world))

-- ---- what a run tells

later : {b : ℕ} {r : Report} → Found b r → Found (suc b) (one_more_of r)
later (stops e) = stops e
later (spent v e f g) = spent v e f (ap suc g)

pub run-tells : RunTells
run-tells zero w = by (step w) refl
  where
    by : (x : Answer) → step w ≡ x → Tells 0 w (run 0 w)
    by (stopped r) e = subst⁻¹ (Tells 0 w) (run-stopped w r e 0) (record { steps = here tt; within = omega arith; found = stops e; passed = passed_none 0 w })
    by (taken v) e =
        subst⁻¹ (Tells 0 w) (run-spent w v e) (record { steps = here tt; within = omega arith; found = spent v e refl refl; passed = passed_none 0 w })
run-tells (suc b) w = by (step w) refl (λ v. run-tells b v)
  where
    by : (x : Answer) → step w ≡ x → ((v : World) → Tells b v (run b v)) → Tells (suc b) w (run (suc b) w)
    by (stopped r) e h =
        subst⁻¹ (Tells (suc b) w) (run-stopped w r e (suc b)) (record { steps = here tt; within = omega arith; found = stops e; passed = passed_none 0 w })
    by (taken v) e h =
        let t = h v in
        subst⁻¹ (Tells (suc b) w) (run-taken w v e b)
        (record {
          steps = more tt e t.steps;
          within = omega (arith, t.within);
          found = later t.found;
          passed = subst (λ (n : ℕ). Passed n w (run b v).world) (let i : 1 + (run b v).steps ≡ suc (run b v).steps = omega arith in i) (passed_on (step-passed w v e) t.passed);
        })

-- the beats that it tells are taken from the front of the input
pub run-input : (b : ℕ) (w : World) → (run b w).world.input ≡ drop (taken_since w (run b w).world) w.input
run-input b w =
    let p = (run-tells b w).passed in
    p.input ∙ ap (λ (n : ℕ). drop n w.input) (sym (took-since p))

-- a run that stopped for another reason stops there again, at once
pub run-again : (b : ℕ) (w : World) → (run b w).reason ≢ Budget → (n : ℕ)
    → run n (run b w).world ≡ record { reason = (run b w).reason; steps = 0; world = (run b w).world }
run-again b w h n = by (run-tells b w).found
  where
    by : Found b (run b w) → run n (run b w).world ≡ record { reason = (run b w).reason; steps = 0; world = (run b w).world }
    by (stops e) = run-stopped (run b w).world (run b w).reason e n
    by (spent v e f g) = absurd (h f)

-- Budget is told only where another step was possible
pub budget-only : BudgetOnly
budget-only b w h = by (run-tells b w).found
  where
    by : Found b (run b w) → ((run b w).steps ≡ b) × ((v : World) × (step (run b w).world ≡ taken v))
    by (stops e) = absurd (never-budget (run b w).world (e ∙ ap stopped h))
    by (spent v e f g) = (g, (v, e))

-- ---- along a way

module _ {P : World → Type 0} where
  pub join : {a b : ℕ} {w v u : World} → Along P a w v → Along P b v u → Along P (a + b) w u
  join {b = b} {u = u} (here {w = w} p) r = subst (λ (n : ℕ). Along P n w u) (sym (zero-add b)) r
  join {b = b} {u = u} (more {n = n} {w = w} p e l) r = subst (λ (n : ℕ). Along P n w u) (sym (suc-add n b)) (more p e (join l r))

  pub along-first : {n : ℕ} {w u : World} → Along P n w u → P w
  along-first (here p) = p
  along-first (more p e l) = p

  pub along-last : {n : ℕ} {w u : World} → Along P n w u → P u
  along-last (here p) = p
  along-last (more p e l) = along-last l

  -- to where it stops: a run with budget enough tells just that
  pub run-to-end : {n : ℕ} {w u : World} {r : Reason} → Along P n w u → step u ≡ stopped r → (b : ℕ) → n ≤ b
      → run b w ≡ record { reason = r; steps = n; world = u }
  run-to-end (here {w = w} p) e b h = run-stopped w _ e b
  run-to-end (more p q l) e zero h = absurd (not-suc-le-zero h)
  run-to-end (more {w = w} {v = v} p q l) e (suc b) h = run-taken w v q b ∙ ap one_more_of (run-to-end l e b (le_of_suc-le-suc h))

  -- a smaller budget is spent
  pub run_short : {n : ℕ} {w u : World} → Along P n w u → (b : ℕ) → b < n → ((run b w).steps ≡ b) × ((run b w).reason ≡ Budget)
  run_short (here p) b h = absurd (not-suc-le-zero h)
  run_short (more {w = w} {v = v} p q l) zero h = rw (run-spent w v q) (refl, refl)
  run_short (more {w = w} {v = v} p q l) (suc b) h =
      rw (run-taken w v q b) (let i = run_short l b (le_of_suc-le-suc h) in (ap suc i.0, i.1))

  -- and the run stands on the way, whatever the budget
  pub run-on-way : {n : ℕ} {w u : World} {r : Reason} → Along P n w u → step u ≡ stopped r → (b : ℕ) → P (run b w).world
  run-on-way (here {w = w} p) e b = rw (run-stopped w _ e b) p
  run-on-way (more {w = w} {v = v} p q l) e zero = rw (run-spent w v q) p
  run-on-way (more {w = w} {v = v} p q l) e (suc b) = rw (run-taken w v q b) (run-on-way l e b)

pub along-map : {P Q : World → Type 0} → ((w : World) → P w → Q w) → {n : ℕ} {w u : World} → Along P n w u → Along Q n w u
along-map f (here {w = w} p) = here (f w p)
along-map f (more {w = w} p e l) = more (f w p) e (along-map f l)
