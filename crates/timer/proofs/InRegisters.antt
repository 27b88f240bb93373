-- The register at an offset and the time between two snapshots: what a good answer tells.
-- Assumes nothing.
use Rattle.std.specs.Prelude.{Ok, Err}
use Rattle.std.proofs.Common.{◌≡◌, ℕ, Bool, true, false, cond, refl, eq-eqb}
use Rattle.bus.specs.declared.Refusal.{Refusal}
use Rattle.timer.specs.declared.Timer.{Timer}
use Rattle.timer.specs.Registers.{is_register, register_of, read_of, written_of, write_of, is_full, elapsed_of, between_of}

-- of an answer that is good where the test holds, and else refused
good-by : {A : Type 0} (b : Bool) (x : A) (why : Refusal) {y : A} → cond b (Ok x) (Err why) ≡ Ok y → (b ≡ true) × (y ≡ x)
good-by true x why e = (refl, cc)
good-by false x why e = cc

module _ (t : Timer) (offset : ℕ) where
  pub value-is : {w : ℕ} → read_of t offset ≡ Ok w → (is_register offset ≡ true) × (w ≡ register_of t offset)
  unfolding read_of
  value-is e = good-by (is_register offset) _ _ e

  pub written_is : (v : ℕ) {u : Timer} → write_of t offset v ≡ Ok u → (is_register offset ≡ true) × (u ≡ written_of t offset v)
  unfolding write_of
  written_is v e = good-by (is_register offset) _ _ e

module _ (t : Timer) (earlier later : ℕ) where
  pub between-full : t.period ≡ 4294967295 → between_of t earlier later ≡ Ok (elapsed_of earlier later)
  unfolding between_of
  between-full h = rw (eq-eqb t.period 4294967295 h)

  pub ticks-are : {n : ℕ} → between_of t earlier later ≡ Ok n → (is_full t ≡ true) × (n ≡ elapsed_of earlier later)
  unfolding between_of
  ticks-are e = good-by (is_full t) _ _ e
