-- Calls that change an image.
-- Assumes nothing.
use Rattle.std.specs.Prelude.{Result, Ok, Err}
use Prim.Native.Nat.{ℕ, ◌^◌, ◌<◌}
use mathlib.Core.Path.{◌≡◌, refl, sym, ap, subst, ◌∙◌}
use mathlib.Core.Bool.{true}
use mathlib.Core.List.{List}
use lib.ListN.{length}
use borrow.Author.Tests.{ne_eqb}
use Rattle.words.specs.Promise.{Gives}
use Rattle.bus.specs.declared.Refusal.{Refusal}
use Rattle.bus.specs.declared.Refusal.TheVariants.{BadSize}
use Rattle.bus.specs.Refusal.{refusal_number, answer_number}
use Rattle.bus.specs.declared.Window.{Window}
use Rattle.bus.specs.Window.{keeps_limits, checked_of}
use Rattle.bus.proofs.Limits.{checked-is}
use Rattle.regs.specs.declared.Mode.{Mode}
use Rattle.image.proofs.Answers.{read-size}
use Rattle.image.specs.Layout.{tail}
use Rattle.machine.specs.declared.Machine.{Machine}
use Rattle.machine.specs.State.{fresh}
use Rattle.machine.specs.Saved.{keeps, loaded_as, load_of, WasLoaded}
use Rattle.machine.specs.Registers.{wrote_to, WasWritten}
use Rattle.machine.proofs.Answers.{was-loaded}
use Rattle.machine.proofs.Writes.{write_kept}
use Rattle.met.specs.Sound.{Sound}
use Rattle.met.proofs.RoundTrip.{loaded-keeps, loaded-typed}
use Rattle.met.proofs.Writes.{fresh_keeps, write_keeps}
use Rattle.sgdma.specs.Calls.{create_number, Created, written_in, written_over, RegisterWritten}
use Rattle.sgdma.proofs.Opened.{keeps-loaded, write-loaded}

-- ---- sgdma_write_register

-- a loaded machine is sound
pub sound-loaded : (xs : List ℕ) {m : Machine} → load_of xs ≡ Ok m → Sound m
sound-loaded xs {m} e =
    let l : WasLoaded xs (Ok m) = was-loaded (sym e) in
    record { rules = loaded-keeps l; typed = loaded-typed l }

pub written_keeps : (xs : List ℕ) {m n : Machine} {w : Result Machine Refusal} (offset v : ℕ) → load_of xs ≡ Ok m → v < 2 ^ 32
    → Gives (wrote_to m offset v) w → w ≡ Ok n → keeps n ≡ true
written_keeps xs {m} {n} offset v e h g f =
    (write_keeps m n offset v (sound-loaded xs e) h (subst (λ (x : Result Machine Refusal). WasWritten m offset v x) f (write-loaded xs e offset v g))).rules

-- a write to what was loaded goes by the offset alone
abbrev pub wrote_in : Result Machine Refusal → (offset v : ℕ) → Result Machine Refusal
wrote_in (Ok m) offset v = wrote_to m offset v
wrote_in (Err why) offset v = Err why

pub loaded-wrote : (xs : List ℕ) (offset v : ℕ) → written_in (load_of xs) offset v ≡ wrote_in (load_of xs) offset v
loaded-wrote xs offset v = by (load_of xs) refl
  where
    by : (l : Result Machine Refusal) → load_of xs ≡ l → written_in l offset v ≡ wrote_in l offset v
    by (Ok m) e = sym (write_kept m offset v (keeps-loaded xs e))
    by (Err why) e = refl

pub ruleset by_loaded = (loaded-wrote)

module _ {xs ys : List ℕ} {offset v r : ℕ} where
  says : (a : Result Machine Refusal) → written_in (load_of xs) offset v ≡ a → r ≡ answer_number a → ys ≡ written_over a xs → RegisterWritten xs offset v r ys
  says a e p q =
      record { number = p ∙ sym (ap answer_number e); image_after = q ∙ sym (ap (λ (b : Result Machine Refusal). written_over b xs) e) }

  pub image-short : (length xs ≡ 85 → ⊥) → r ≡ 7 → ys ≡ xs → RegisterWritten xs offset v r ys
  unfolding load_of
  image-short h p q = says (Err BadSize) (ap (λ (x : Result Machine Refusal). written_in x offset v) (ap (loaded_as (tail xs)) (read-size xs h))) p q

  pub image-spoiled : {why : Refusal} → load_of xs ≡ Err why → r ≡ refusal_number why → ys ≡ xs → RegisterWritten xs offset v r ys
  image-spoiled {why} e p q = says (Err why) (ap (λ (x : Result Machine Refusal). written_in x offset v) e) p q

-- ---- sgdma_create

-- a fresh machine over a checked window keeps the rules
pub create-keeps : {m : Machine} {k : Mode} {w : Window} {r : Result Window Refusal} (base size : ℕ) → m ≡ fresh k w → r ≡ checked_of base size → r ≡ Ok w
    → keeps m ≡ true
create-keeps {m} {k} {w} base size e f g =
    let is = checked-is base size w (sym f ∙ g) in
    ap keeps e ∙ (fresh_keeps k w (ap (λ (v : Window). keeps_limits v.base v.length) is.1 ∙ is.0)).rules

module _ {xs ys : List ℕ} {n base size r : ℕ} where
  pub create-short : (length xs ≡ 85 → ⊥) → r ≡ 7 → ys ≡ xs → Created xs n base size r ys
  create-short h p q =
      let e : create_number xs n base size ≡ 7 = rw (ne_eqb (length xs) 85 h) in
      record { number = p ∙ sym e; image_after = q ∙ rw e }
