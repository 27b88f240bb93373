-- What a call answers, from what it learnt.
-- Assumes nothing.
use Rattle.bus.specs.Refusal.{answer_number}
use Rattle.std.specs.Prelude.{Result, Ok, Err}
use Prim.Native.Nat.{ℕ, ◌+◌, ◌*◌}
use mathlib.Core.Path.{◌≡◌, refl, ap, ◌∙◌}
use mathlib.Core.Bool.{Bool, true, false, cond, ◌&&◌}
use mathlib.Core.List.{List}
use lib.Dec.{eqb}
use Rattle.bus.specs.declared.Refusal.TheVariants.{NoRegister}
use Rattle.bus.specs.declared.Refusal.{Refusal}
use Rattle.regs.specs.Control.{line_up}
use Rattle.regs.specs.Offsets.{is_register, register_at}
use Rattle.image.specs.declared.Fields.{Fields}
use Rattle.image.specs.declared.Tail.{Tail}
use Rattle.image.specs.Layout.{tail}
use Rattle.image.specs.Rules.{lowest_broken, keeps_rules}
use Rattle.image.specs.Promise.{WroteIf, Wrote, read_of, wrote_if, image_if}
use Rattle.image.specs.Helpers.WasPut.{fits, ImageWasPut}
use Rattle.machine.specs.declared.Machine.{Machine}
use Rattle.machine.specs.Saved.{fields_of, tail_of, keeps, spoiled, loaded_as, load_of, save_of, WasLoaded, WasSaved}
use Rattle.machine.specs.Helpers.Put.{put_of, MachineWasPut}
use Rattle.machine.specs.Registers.{written_to, write_of, line_of, register_number, WasWritten, WasLine}
use Rattle.machine.specs.Registers as registers
use Rattle.machine.specs.Step.{World}
use Rattle.machine.specs.Run.{Lent, Served, serves, refused, run_answer, served_number}

-- a test of two flags, by what they tell
pub both : {a b c d t : Bool} → a ≡ c → b ≡ d → (a && b) ≡ t → (c && d) ≡ t
both p q e = cc

-- ---- load and save

loaded-number : (t : Tail) (a : Result Fields Refusal) → answer_number (loaded_as t a) ≡ answer_number a
loaded-number t (Ok f) = refl
loaded-number t (Err why) = refl

pub was-loaded : {xs : List ℕ} {r : Result Machine Refusal} → r ≡ load_of xs → WasLoaded xs r
unfolding load_of
was-loaded {xs} e = record { answer = e; number = ap (answer_number {A = Machine}) e ∙ loaded-number (tail xs) (read_of xs) }

-- an image written of fields, whichever test of them the call makes
as-wrote : {f g : Fields} {t u : Tail} {xs ys : List ℕ} {r : Result Unit Refusal} (good : Fields → Tail → Bool) → f ≡ g → t ≡ u
    → WroteIf (good f t) f t xs r ys
    → (r ≡ wrote_if (good g u) g u xs) × (answer_number r ≡ answer_number (wrote_if (good g u) g u xs)) × (ys ≡ image_if (good g u) g u xs)
as-wrote {xs = xs} good e h p =
    let is = p.answer ∙ (λ x. wrote_if (good (e x) (h x)) (e x) (h x) xs) in (
      is,
      ap (answer_number {A = Unit}) is,
      p.lent ∙ (λ x. image_if (good (e x) (h x)) (e x) (h x) xs),
    )

module _ {m : Machine} {xs ys : List ℕ} {f : Fields} {t : Tail} {r : Result Unit Refusal} (e : f ≡ fields_of m.core) (h : t ≡ tail_of m) where
  pub was-saved : Wrote f t xs r ys → WasSaved m xs r ys
  unfolding save_of
  was-saved p = let s = as-wrote keeps_rules e h p in record { answer = s.0; number = s.1; lent = s.2 }

  pub was-put : ImageWasPut f t xs r ys → MachineWasPut m xs r ys
  unfolding put_of
  was-put p = let s = as-wrote fits e h p in record { answer = s.0; number = s.1; lent = s.2 }

-- ---- the registers and the line

known : (a b c : Bool) (u v w : ℕ)
    → answer_number {A = ℕ} (cond a (Ok u) (cond b (Ok v) (cond c (Ok w) (Err NoRegister)))) ≡ cond (cond a true (cond b true (cond c true false))) 0 1
known true b c u v w = refl
known false true c u v w = refl
known false false true u v w = refl
known false false false u v w = refl

module _ {m : Machine} {offset : ℕ} where
  pub was-register : {r : Result ℕ Refusal} → r ≡ registers.reading_of m offset → registers.RegisterWasRead m offset r
  unfolding registers.reading_of
  was-register e = record { answer = e; number = ap (answer_number {A = ℕ}) e ∙ number (keeps m) }
    where
      number : (k : Bool) → answer_number {A = ℕ} (cond k (register_at m.core.status m.core.control m.core.pointer offset) (Err (spoiled m)))
          ≡ cond k (cond (is_register offset) 0 1) (8 + 256 * lowest_broken (fields_of m.core) (tail_of m))
      number true = known (eqb offset 0) (eqb offset 4) (eqb offset 8) _ _ _
      number false = refl

  pub was-written : {v : ℕ} {r : Result Machine Refusal} → r ≡ write_of m offset v → WasWritten m offset v r
  unfolding write_of
  was-written {v} e = record { answer = e; number = ap (answer_number {A = Machine}) e ∙ number (keeps m) (is_register offset) }
    where
      number : (k known : Bool)
          → answer_number {A = Machine} (cond k (cond known (Ok (written_to m offset v)) (Err NoRegister)) (Err (spoiled m)))
          ≡ cond k (cond known 0 1) (8 + 256 * lowest_broken (fields_of m.core) (tail_of m))
      number true true = refl
      number true false = refl
      number false known = refl

pub was-line : {m : Machine} {r : Result Bool Refusal} → r ≡ line_of m → WasLine m r
unfolding line_of
was-line {m} e = record { answer = e; number = ap (answer_number {A = Bool}) e ∙ number (keeps m) (line_up m.core.control m.core.pending) }
  where
    number : (k up : Bool) → answer_number {A = Bool} (cond k (Ok up) (Err (spoiled m))) ≡ cond k 0 (8 + 256 * lowest_broken (fields_of m.core) (tail_of m))
    number true up = refl
    number false up = refl

-- ---- steps and runs

pub run-number : (l : Lent) (served : Served) (w : World) (budget : ℕ) → answer_number (run_answer l served w budget) ≡ served_number served
run-number l serves w budget = refl
run-number l (refused why) w budget = refl
