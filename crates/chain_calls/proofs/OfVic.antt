-- The calls on a controller: the number given back is the first that applies, and where it is not 0 nothing has changed.
-- Assumes nothing.
use Prim.Native.Nat.{ℕ, ◌+◌, ◌*◌, ◌^◌}
use mathlib.Core.Path.{◌≡◌, refl, ap, ◌∙◌}
use mathlib.Core.Bool.{Bool, true, false, not, cond, ◌&&◌}
use native.Mathlib.Omega.{arith}
use lib.Dec.{eqb, leb, ltb}
use lib.ListN.{length}
use borrow.Author.Tests.{ne_eqb}
use Rattle.vic.specs.Layout.{ports}
use Rattle.vic.specs.Rules.{lowest_broken}
use Rattle.vic.specs.Choice.{handler, chosen_port}
use Rattle.vic.specs.Calls.{create_number, load_number, port_number, choose_number, chosen}
use Rattle.chain_calls.specs.Theorems.{VicCreateInOrder, VicPortInOrder, VicChooseInOrder, VicUnchanged}
use Rattle.chain_calls.proofs.Unchanged.{as_lent_lem}

-- 7 and 8 come first: by whether the size is right, and no rule broken
load-first : (s k : Bool) (f n : ℕ)
    → cond (not (eqb (cond (not s) 7 (cond (not k) (8 + 256 * f) 0)) 0)) (cond (not s) 7 (cond (not k) (8 + 256 * f) 0)) n
    ≡ cond (not s) 7 (cond (not k) (8 + 256 * f) n)
load-first true true f n = refl
load-first true false f n = ap (λ (b : Bool). cond (not b) (8 + 256 * f) n) (ne_eqb (8 + 256 * f) 0 (λ z. absurd (omega (arith, z))))
load-first false k f n = refl

-- and another size with the first
size-first : (s a : Bool) (n : ℕ) → cond (not a) 7 (cond (not s) 7 n) ≡ cond (not (s && a)) 7 n
size-first true true n = refl
size-first true false n = refl
size-first false true n = refl
size-first false false n = refl

pub vic-create-in-order : VicCreateInOrder
unfolding create_number
vic-create-in-order xs ports vector_bytes base r xs' p = record { number = p.answer; in_order = refl }

pub vic-port-in-order : VicPortInOrder
unfolding port_number load_number
vic-port-in-order xs done p r xs' a =
    record {
      number = a.answer ∙ load-first (eqb (length xs) 88) (eqb (lowest_broken xs) 0) (lowest_broken xs) (cond (not (ltb p (ports xs))) 21 0);
      in_order = refl;
    }

pub vic-choose-in-order : VicChooseInOrder
unfolding choose_number load_number
vic-choose-in-order xs answer r answer' a =
    let s = eqb (length xs) 88 in
    let k = eqb (lowest_broken xs) 0 in
    let last : ℕ = cond (chosen xs && leb (2 ^ 32) (handler xs (chosen_port xs))) 22 0 in
    record {
      number = a.answer
          ∙ ap (λ (n : ℕ). cond (not (eqb (length answer) 12)) 7 n) (load-first s k (lowest_broken xs) last)
          ∙ size-first s (eqb (length answer) 12) (cond (not k) (8 + 256 * lowest_broken xs) last);
      in_order = refl;
    }

pub vic-unchanged : VicUnchanged
vic-unchanged number lent done r after a h = as_lent_lem a h
