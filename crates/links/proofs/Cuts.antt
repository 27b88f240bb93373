-- Mending, function by function.
-- Assumes nothing.
use Rattle.std.specs.Prelude.{Result, Ok, Err, Option, Some, None}
use Prim.Native.Nat.{ℕ, zero, suc, ◌+◌, ◌%◌}
use mathlib.Core.Path.{◌≡◌, refl, sym, ap, subst, ◌∙◌}
use mathlib.Core.List.{List, []}
use native.Mathlib.Omega.{arith}
use lib.ListN.{get_or, set}
use Rattle.bus.specs.declared.Refusal.{Refusal}
use Rattle.bus.specs.declared.Refusal.TheVariants.{NothingToKeep}
use Rattle.bus.specs.declared.Window.{Window}
use Rattle.bus.specs.Window.{in_window, place_of}
use Rattle.links.specs.declared.Walked.{Walked}
use Rattle.links.specs.declared.mending.Change.{Change}
use Rattle.links.specs.declared.Verdict.{Verdict}
use Rattle.links.specs.declared.Kind.{Kind}
use Rattle.links.specs.declared.Kind.TheVariants.{Sound, Misaligned, Outside, Overlaps}
use Rattle.links.specs.Verdicts.{verdict_of, position_of, KindMeans, Front}
use Rattle.links.specs.Theorems.{Limited}
use Rattle.links.specs.Mending.{Cut, nowhere, cut_at, cut_for, cut_by, cut_of, mended_by, left_by}
use Rattle.links.specs.Helpers.Walks.{last_before, Walks}
use Rattle.links.specs.Helpers.Cuts.{cut_from, KeepsFront, WasCut}
use Rattle.links.proofs.Placing.{steady-last}
use Rattle.links.proofs.Meaning.{means, after-at, form-steady, front_of, front-steady}

-- ---- one byte

module _ (w : Window) (mem : List ℕ) (position last : ℕ) where
  pub cut-none : position ≡ 0 → WasCut w mem (cut_from position last) (Err NothingToKeep) mem
  cut-none e = subst (λ (k : ℕ). WasCut w mem (cut_from k last) (Err NothingToKeep) mem) (sym e) (record { answer = refl; lent = refl })

  pub cut-some : (position ≡ 0 → ⊥) → (n : ℕ) → n ≡ place_of w last
      → WasCut w mem (cut_from position last)
      (Ok (Some (record { address = last; before = get_or mem (n + 31) 0; after = get_or mem (n + 31) 0 % 128 })))
      (set mem (n + 31) (get_or mem (n + 31) 0 % 128))
  cut-some h n e = by position refl
    where
      by : (k : ℕ) → k ≡ position → WasCut w mem (cut_from k last)
          (Ok (Some (record { address = last; before = get_or mem (n + 31) 0; after = get_or mem (n + 31) 0 % 128 })))
          (set mem (n + 31) (get_or mem (n + 31) 0 % 128))
      by zero f = absurd (h (sym f))
      by (suc k) f =
          record {
            answer = ap (λ (x : ℕ). Ok (Some (record { address = last; before = get_or mem (x + 31) 0; after = get_or mem (x + 31) 0 % 128 }))) e;
            lent = ap (λ (x : ℕ). set mem (x + 31) (get_or mem (x + 31) 0 % 128)) e;
          }

-- ---- by the verdict

module _ (w : Window) (mem : List ℕ) (lim : Limited w) (p : ℕ) where
  front_by : (f : Kind) (k a : ℕ) → KindMeans f w mem p k a → Front w mem p k
  front_by Sound k a x = front_of w mem p k (steady-last w mem k [] p (form-steady w mem p k x.form)).0 x.form.k_owned
  front_by Misaligned k a x = x.reached.front
  front_by Outside k a x = x.reached.front
  front_by Overlaps k a x = x.reached.front

  -- all before where the walk stops is as it should be
  pub front-is : Front w mem p (position_of (verdict_of w mem p))
  front-is = front_by _ _ _ (means w mem lim p)

  keeps-by : (k : ℕ) → Front w mem p k → KeepsFront w k (last_before w mem p k)
  keeps-by zero f = record { inside = λ h. absurd (omega (arith, h)) }
  keeps-by (suc k) f =
      record {
        inside = λ h. ap (λ (x : ℕ). in_window w x 32) (after-at w mem p k) ∙ (steady-last w mem k [] p (front-steady w mem p (suc k) f)).1.inside;
      }

  pub keeps : (r : Walked) → Walks w mem p r → KeepsFront w (position_of r.verdict) r.last
  keeps r x =
      subst
      (λ (a : ℕ). KeepsFront w (position_of r.verdict) a)
      (sym x.last_is)
      (keeps-by (position_of r.verdict) (subst (λ (u : Verdict). Front w mem p (position_of u)) (sym x.verdict_is) front-is))

-- any other kind is a defect
defect-cut : (f : Kind) (c : Cut) → (f ≡ Sound → ⊥) → cut_for f c ≡ c
defect-cut Sound c h = absurd (h refl)
defect-cut Misaligned c h = refl
defect-cut Outside c h = refl
defect-cut Overlaps c h = refl

module _ (w : Window) (mem : List ℕ) (p : ℕ) where
  from_at : (k : ℕ) → cut_from k (last_before w mem p k) ≡ cut_at w mem p k
  from_at zero = refl
  from_at (suc k) = refl

  module _ (r : Walked) (x : Walks w mem p r) where
    -- cut at the last that the walk has passed
    pub mends-cut : (r.verdict.kind ≡ Sound → ⊥) → (a : Result (Option Change) Refusal) (mem' : List ℕ)
        → WasCut w mem (cut_from r.verdict.stop.position r.last) a mem' → WasCut w mem (cut_of w mem p) a mem'
    unfolding cut_by
    mends-cut d a mem' c =
        let k = r.verdict.stop.position in
        let cut : cut_from k r.last ≡ cut_of w mem p =
        ap (cut_from k) x.last_is ∙ from_at k ∙ sym (defect-cut r.verdict.kind (cut_at w mem p k) d) ∙ ap (cut_by w mem p) x.verdict_is in
        record { answer = c.answer ∙ ap (mended_by w mem) cut; lent = c.lent ∙ ap (left_by w mem) cut }

    pub mends-sound : r.verdict.kind ≡ Sound → WasCut w mem (cut_of w mem p) (Ok None) mem
    unfolding cut_by
    mends-sound e =
        let cut : nowhere ≡ cut_of w mem p = sym (ap (λ (f : Kind). cut_for f (cut_at w mem p r.verdict.stop.position)) e) ∙ ap (cut_by w mem p) x.verdict_is in
        record { answer = ap (mended_by w mem) cut; lent = ap (left_by w mem) cut }
