-- Mending, by where the chain is cut: the theorems.
-- Assumes nothing.
use Rattle.std.specs.Prelude.{Result, Ok, Err, Option, Some, None}
use Prim.Native.Nat.{ℕ, zero, suc, ◌%◌}
use mathlib.Core.Path.{◌≡◌, refl, sym, ap, subst, ◌∙◌}
use mathlib.Core.Logic.{◌≢◌}
use mathlib.Core.Bool.{Bool, true, false, cond, true≢false}
use mathlib.Core.List.{List}
use native.Mathlib.Omega.{arith}
use lib.ListN.{length, length-set, get_or}
use borrow.Author.Tests.{eq-eqb, ne_eqb}
use Rattle.words.specs.Slices.{AllBytes}
use Rattle.bus.specs.declared.Refusal.{Refusal}
use Rattle.bus.specs.declared.Refusal.TheVariants.{BadWindow, NothingToKeep}
use Rattle.bus.specs.declared.Window.{Window}
use Rattle.bus.specs.Refusal.{answer_number}
use Rattle.bus.specs.Window.{keeps_limits, in_window, located_of, checked_of}
use Rattle.bus.proofs.Limits.{checked-is}
use Rattle.descriptor.specs.Looking.{spot_of, stands}
use Rattle.links.specs.declared.mending.Change.{Change}
use Rattle.links.specs.declared.Kind.{Kind}
use Rattle.links.specs.declared.Kind.TheVariants.{Sound, Misaligned, Outside, Overlaps}
use Rattle.links.specs.Form.{link_after, Form}
use Rattle.links.specs.Verdicts.{window_at, verdict_of, position_of, Front, Reached, KindMeans}
use Rattle.links.specs.Theorems.{Limited, NothingExactly, SoundUntouched, OneBitDiffers, FrontKept, MendOnce}
use Rattle.links.specs.Mending.{Cut, nowhere, before_all, behind, cut_at, cut_for, cut_by, cut_of, control_place, change_of, cleared_at, mended_by, left_by, mended_of, left_of, mended_in, left_in, WasMended, OneBit, Kept}
use Rattle.links.specs.Helpers.Cuts.{WasCut}
use Rattle.links.proofs.Meaning.{means, after-at, form-steady, front-steady, sound-from}
use Rattle.links.proofs.Windows.{limited}
use Rattle.links.proofs.Cuts.{front-is}
use Rattle.links.proofs.Mends.{cut-form, the_kept, one_bit}

-- ---- where a chain is cut

-- the first descriptor is as it should be, or not
module _ (w : Window) (p : ℕ) where
  first-stands : p % 4 ≡ 0 → in_window w p 32 ≡ true → stands (spot_of w p) ≡ true
  unfolding spot_of located_of
  first-stands e f = rw (eq-eqb (p % 4) 0 e, f)

  first-misaligned : p % 4 ≢ 0 → stands (spot_of w p) ≡ false
  unfolding spot_of
  first-misaligned h = rw (ne_eqb (p % 4) 0 h)

  first-outside : p % 4 ≡ 0 → in_window w p 32 ≡ false → stands (spot_of w p) ≡ false
  unfolding spot_of located_of
  first-outside e f = rw (eq-eqb (p % 4) 0 e, f)

module _ (w : Window) (m : List ℕ) (p : ℕ) where
  data Where : Cut → Type 0 where
    whole : (k : ℕ) → Form w m p k → Where nowhere
    first : stands (spot_of w p) ≡ false → Where before_all
    later : (k : ℕ) → Front w m p (suc k) → position_of (verdict_of w m p) ≡ suc k → Where (behind (link_after w m p k).at)

  pointed : (j b : ℕ) → j ≡ 0 → Reached w m p j b → b ≡ p
  pointed j b e r = r.address_is ∙ ap (λ (n : ℕ). (link_after w m p n).at) e

  at : (j : ℕ) → Front w m p j → position_of (verdict_of w m p) ≡ j → (j ≡ 0 → stands (spot_of w p) ≡ false) → Where (cut_at w m p j)
  at zero f e h = first (h refl)
  at (suc k) f e h = later k f e

  where-by : (f : Kind) (k a : ℕ) → position_of (verdict_of w m p) ≡ k → Front w m p k → KindMeans f w m p k a → Where (cut_for f (cut_at w m p k))
  where-by Sound k a e f x = whole k x.form
  where-by Misaligned k a e f x =
      at k f e (λ z. first-misaligned w p (subst (λ (b : ℕ). b % 4 ≢ 0) (pointed k a z x.reached) x.here))
  where-by Outside k a e f x =
      at k f e
      (λ z. let b = pointed k a z x.reached in
      first-outside w p (subst (λ (b : ℕ). b % 4 ≡ 0) b x.aligned) (subst (λ (b : ℕ). in_window w b 32 ≡ false) b x.here))
  where-by Overlaps k a e f x = at k f e (λ z. let h = x.before in absurd (omega (arith, z, h)))

  module _ (lim : Limited w) where
    cut-where : Where (cut_of w m p)
    unfolding cut_by
    cut-where = where-by _ _ _ refl (front-is w m lim p) (means w m lim p)

    -- ---- nothing to keep

    nothing-by : (x : Cut) → Where x → mended_by w m x ≡ Err NothingToKeep → stands (spot_of w p) ≡ false
    nothing-by nowhere (whole k f) g = absurd (cc)
    nothing-by before_all (first h) g = h
    nothing-by (behind b) (later k f e) g = absurd (cc)

    nothing-from : (x : Cut) → Where x → stands (spot_of w p) ≡ false → mended_by w m x ≡ Err NothingToKeep
    nothing-from nowhere (whole k f) g =
        let s = form-steady w m p k f in absurd (true≢false (sym (first-stands w p s.0.aligned s.0.inside) ∙ g))
    nothing-from before_all (first h) g = refl
    nothing-from (behind b) (later k f e) g =
        let s = front-steady w m p (suc k) f in absurd (true≢false (sym (first-stands w p s.0.aligned s.0.inside) ∙ g))

    number_by : (x : Cut) → Where x → answer_number (mended_by w m x) ≡ cond (stands (spot_of w p)) 0 23
    number_by nowhere (whole k f) = let s = form-steady w m p k f in rw (first-stands w p s.0.aligned s.0.inside)
    number_by before_all (first h) = rw h
    number_by (behind b) (later k f e) = let s = front-steady w m p (suc k) f in rw (first-stands w p s.0.aligned s.0.inside)

    untouched : (k : ℕ) → Form w m p k → (mended_of w m p ≡ Ok None) × (left_of w m p ≡ m)
    unfolding cut_by
    untouched k f =
        let e : cut_of w m p ≡ nowhere = ap (cut_by w m p) (sound-from w m lim p k f) in
        (ap (mended_by w m) e, ap (left_by w m) e)

    module _ (size : length m ≡ w.length) where
      -- ---- one that is cut

      kept_by : (x : Cut) → Where x → (c : Change) → mended_by w m x ≡ Ok (Some c) → (k : ℕ) × Kept w m p k c (left_by w m x)
      kept_by nowhere (whole k f) c g = absurd (cc)
      kept_by before_all (first h) c g = absurd (cc)
      kept_by (behind b) (later k f e) c g =
          let same : change_of w m b ≡ c = cc in (
            k,
            subst (λ (d : Change). Kept w m p k d (cleared_at w m b)) same
                (subst (λ (y : ℕ). Kept w m p k (change_of w m y) (cleared_at w m y)) (sym (after-at w m p k)) (the_kept w m lim size p k f e)),
          )

      bit-by : (x : Cut) → Where x → (c : Change) → AllBytes m → mended_by w m x ≡ Ok (Some c) → OneBit m (control_place w c.address) c (left_by w m x)
      bit-by nowhere (whole k f) c b g = absurd (cc)
      bit-by before_all (first h) c b g = absurd (cc)
      bit-by (behind y) (later k f e) c b g =
          let same : change_of w m y ≡ c = cc in
          subst (λ (d : Change). OneBit m (control_place w d.address) d (cleared_at w m y)) same
          (subst (λ (z : ℕ). OneBit m (control_place w z) (change_of w m z) (cleared_at w m z)) (sym (after-at w m p k)) (one_bit w m lim size p k f b))

-- ---- the answer of mending

module _ (m : List ℕ) (base p : ℕ) where
  pub mended-number : answer_number (mended_in (checked_of base (length m)) m p) ≡ cond (keeps_limits base (length m)) (cond (stands (spot_of (window_at base m) p)) 0 23) 3
  unfolding checked_of
  mended-number = by (keeps_limits base (length m)) refl
    where
      by : (b : Bool) → keeps_limits base (length m) ≡ b → answer_number (mended_in (cond b (Ok (window_at base m)) (Err BadWindow)) m p)
          ≡ cond b (cond (stands (spot_of (window_at base m) p)) 0 23) 3
      by true k = number_by (window_at base m) m p k (cut_of (window_at base m) m p) (cut-where (window_at base m) m p k)
      by false k = refl

  pub a-dump : (w : Window) (r : Result (Option Change) Refusal) (m' : List ℕ) → checked_of base (length m) ≡ Ok w → WasCut w m (cut_of w m p) r m' → WasMended m base p r m'
  a-dump w r m' e c =
      let f = c.answer ∙ sym (ap (λ (x : Result Window Refusal). mended_in x m p) e) in
      record {
        answer = f;
        number = ap (answer_number {A = Option Change}) f ∙ mended-number;
        lent = c.lent ∙ sym (ap (λ (x : Result Window Refusal). left_in x m p) e);
      }

  pub lent-whole : (w : Window) → checked_of base (length m) ≡ Ok w → length m ≡ w.length
  lent-whole w e = sym (ap (λ (x : Window). x.length) (checked-is base (length m) w e).1)

-- ---- the theorems

pub nothing-exactly : NothingExactly
nothing-exactly w m p lim = (nothing-by w m p lim (cut_of w m p) (cut-where w m p lim), nothing-from w m p lim (cut_of w m p) (cut-where w m p lim))

pub sound-untouched : SoundUntouched
sound-untouched w m p k lim f = untouched w m p lim k f

pub one-bit-differs : OneBitDiffers
one-bit-differs w m p c lim size b g = bit-by w m p lim size (cut_of w m p) (cut-where w m p lim) c b g

pub front_kept : FrontKept
front_kept w m p c lim size g = kept_by w m p lim size (cut_of w m p) (cut-where w m p lim) c g

-- ---- twice

module _ (w : Window) (m : List ℕ) (p : ℕ) (lim : Limited w) (size : length m ≡ w.length) where
  again_by : (x : Cut) → Where w m p x → cut_of w m p ≡ x → left_of w (left_by w m x) p ≡ left_by w m x
  again_by nowhere y e = ap (left_by w m) e
  again_by before_all y e = ap (left_by w m) e
  again_by (behind b) (later k f i) e =
      subst (λ (a : ℕ). left_of w (cleared_at w m a) p ≡ cleared_at w m a) (sym (after-at w m p k))
      (untouched w _ p lim k (cut-form w m lim size p k f)).1

  again : left_of w (left_of w m p) p ≡ left_of w m p
  again = again_by (cut_of w m p) (cut-where w m p lim) refl

left-size : (w : Window) (m : List ℕ) (x : Cut) → length (left_by w m x) ≡ length m
left-size w m nowhere = refl
left-size w m before_all = refl
left-size w m (behind b) = length-set m (control_place w b) (get_or m (control_place w b) 0 % 128)

once_by : (x : Result Window Refusal) (m : List ℕ) (base p : ℕ) → checked_of base (length m) ≡ x
    → left_in (checked_of base (length (left_in x m p))) (left_in x m p) p ≡ left_in x m p
once_by (Err why) m base p e = ap (λ (y : Result Window Refusal). left_in y m p) e
once_by (Ok w) m base p e =
    ap (λ (n : ℕ). left_in (checked_of base n) (left_of w m p) p) (left-size w m (cut_of w m p))
    ∙ ap (λ (y : Result Window Refusal). left_in y (left_of w m p) p) e ∙ again w m p (limited base (length m) w e) (lent-whole m base p w e)

pub mend-once : MendOnce
mend-once m base p r s after more x y =
    y.lent ∙ ap (λ (z : List ℕ). left_in (checked_of base (length z)) z p) x.lent ∙ once_by (checked_of base (length m)) m base p refl ∙ sym x.lent
