-- A machine written as an image without a look at the rules.
-- Assumes nothing.
use Rattle.bus.specs.Refusal.{answer_number}
use Rattle.std.specs.Prelude.{ℕ, ◌≡◌, List, Result}
use Rattle.std.proofs.Common.{sym, ◌∙◌}
use Rattle.image.specs.Helpers.WasPut.{image_put_of, image_put}
use Rattle.machine.specs.declared.Machine.{Machine}
use Rattle.bus.specs.declared.Refusal.{Refusal}
use Rattle.machine.specs.Saved.{fields_of, tail_of}

-- as `save_of`, of a machine that may break a rule: else 7, or 8 where a number does not fit its width
unfoldable pub put_of : Machine → List ℕ → Result Unit Refusal
put_of m xs = image_put_of (fields_of m.core) (tail_of m) xs

pub record MachineWasPut (m : Machine) (xs : List ℕ) (r : Result Unit Refusal) (after : List ℕ) : Type 0 where
  pub answer : r ≡ put_of m xs
  pub number : answer_number r ≡ answer_number (image_put_of (fields_of m.core) (tail_of m) xs)
  pub lent : after ≡ image_put (fields_of m.core) (tail_of m) xs

pub machine-put-unique : {m : Machine} {xs ys zs : List ℕ} {r s : Result Unit Refusal} → MachineWasPut m xs r ys → MachineWasPut m xs s zs → (r ≡ s) × (ys ≡ zs)
machine-put-unique p q = (p.answer ∙ sym q.answer, p.lent ∙ sym q.lent)
