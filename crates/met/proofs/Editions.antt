-- A machine moved forward, back, and back and forward again.
-- Assumes nothing.
use Rattle.std.specs.Prelude.{Ok, Err, Some, None}
use Prim.Native.Nat.{ℕ, zero, suc, ◌+◌, ◌*◌}
use mathlib.Core.Path.{◌≡◌, refl, sym, ap, subst, ◌∙◌}
use mathlib.Core.Bool.{Bool, true, false, not, cond, ◌&&◌, true≢false}
use mathlib.Core.List.{List, [], ◌∷◌}
use native.Mathlib.Omega.{arith}
use borrow.Author.Tests.{eqb-true, eqb-false}
use lib.Dec.{eqb, ltb}
use lib.ListN.{length, get_or}
use Rattle.words.specs.Slices.{AllBytes}
use Rattle.descriptor.specs.declared.Raw.{Raw}
use Rattle.descriptor.specs.declared.Miss.TheVariants as miss
use Rattle.image.specs.declared.Fields.{Fields}
use Rattle.image.specs.declared.Tail.{Tail}
use Rattle.image.specs.Slot.{tail_from}
use Rattle.image.specs.Layout.{fields_in, fields, tail}
use Rattle.image.specs.Rules.{lowest_broken}
use Rattle.image.specs.Promise.{read_of}
use Rattle.image.specs.Editions.{edition_of, is_image, broken_in, slot_held, moved_to, move_number, ImageMoved}
use Rattle.image.proofs.Answers.{keeps, good_length, good-fields, good-keeps, read-good}
use Rattle.image.proofs.Moved.{Known, first, second, known, number-kept}
use Rattle.image.proofs.Editions.{edition-first, edition-second, told-first, told-second, none-held, held-second, broken-second, moved-as-it-is, done, forward-bytes, forward-read, forward-tail, back-length, back_fields, back-kept}
use Rattle.machine.specs.declared.Core.{Core}
use Rattle.machine.specs.declared.Machine.{Machine}
use Rattle.machine.specs.Saved.{core_of, slot_of, machine_of, loaded_as, load_of}
use Rattle.machine.proofs.Answers.{was-loaded}
use Rattle.met.specs.Forward.{in_run_zero}
use Rattle.met.specs.Theorems.{MovedForward, BackExactly, BackThenForward}
use Rattle.met.proofs.RoundTrip.{from-read}

-- ---- forward

pub forward-loads : (xs : List ℕ) → length xs ≡ 44 → broken_in xs ≡ 0 → load_of (moved_to 2 xs) ≡ Ok (in_run_zero (core_of (fields_in 1 xs)))
unfolding load_of
forward-loads xs l z =
    ap (λ (t : Tail). loaded_as t (read_of (moved_to 2 xs))) (forward-tail xs l z) ∙ ap (loaded_as (tail_from [])) (forward-read xs l z)

-- A machine moved forward is that of its old fields with an empty slot and run number 0.
pub moved-forward : MovedForward
moved-forward xs to to' r l z p m =
    let d = done xs to to' r (told-first xs l) (told-second to p) z (none-held xs l) m in
    (d.0, ap load_of (d.1 ∙ ap (λ (n : ℕ). moved_to n xs) (edition-second to p)) ∙ forward-loads xs l z)

-- ---- back

-- a slot is empty exactly where its kind is 0
empty-kind : (n : ℕ) (r : Raw) → get_or (None ∷ Some (Ok r) ∷ Some (Err miss.Misaligned) ∷ []) n (Some (Err miss.Outside)) ≡ None → n ≡ 0
empty-kind zero r e = refl
empty-kind (suc zero) r e = absurd (let z : ◌≡◌ {A = ℕ} 0 1 = cc in omega arith)
empty-kind (suc (suc zero)) r e = absurd (let z : ◌≡◌ {A = ℕ} 0 1 = cc in omega arith)
empty-kind (suc (suc (suc n))) r e = absurd (let z : ◌≡◌ {A = ℕ} 0 1 = cc in omega arith)

kind-empty : (t : Tail) → t.kind ≡ 0 → slot_of t ≡ None
kind-empty t k = ap (λ (n : ℕ). get_or (None ∷ Some (Ok t.raw) ∷ Some (Err miss.Misaligned) ∷ []) n (Some (Err miss.Outside))) k

-- the image of a machine that loads
module _ (xs : List ℕ) (m : Machine) (e : load_of xs ≡ Ok m) where
  was : (f : Fields) × (read_of xs ≡ Ok f) × (m ≡ machine_of f (tail xs))
  was = from-read (was-loaded (sym e))

  size : length xs ≡ 85
  size = good_length xs was.0 was.1

  kept : broken_in xs ≡ 0
  kept =
      broken-second xs size ∙ ap (λ (f : Fields). lowest_broken f (tail xs)) (sym (good-fields xs was.0 was.1))
      ∙ good-keeps xs was.0 was.1

  slot_is : m.slot ≡ slot_of (tail xs)
  slot_is = ap (λ (n : Machine). n.slot) was.2

  -- its number, by the kind of its slot
  back-number : (to to' : List ℕ) (r : ℕ) → length to ≡ 44 → ImageMoved xs to r to' → r ≡ cond (not (eqb (tail xs).kind 0)) 15 0
  back-number to to' r l mv =
      mv.answer ∙ number-kept xs to (told-second xs size) (told-first to l) kept
      ∙ ap (λ (n : ℕ). cond (slot_held xs && ltb n 2) 15 0) (edition-first to l)
      ∙ ap (λ (b : Bool). cond (b && true) 15 0) (held-second xs size)
      ∙ alone (not (eqb (tail xs).kind 0))
    where
      alone : (b : Bool) → ◌≡◌ {A = ℕ} (cond (b && true) 15 0) (cond b 15 0)
      alone true = refl
      alone false = refl

  empty-held : m.slot ≡ None → slot_held xs ≡ false
  empty-held h =
      held-second xs size
      ∙ ap (λ (n : ℕ). not (eqb n 0)) (empty-kind (tail xs).kind (tail xs).raw (sym slot_is ∙ h))

-- A move back is allowed exactly when the slot is empty.
pub back-exactly : BackExactly
back-exactly xs to to' m r e l mv = (there, back)
  where
    number : r ≡ cond (not (eqb (tail xs).kind 0)) 15 0
    number = back-number xs m e to to' r l mv

    there : r ≡ 0 → m.slot ≡ None
    there z = slot_is xs m e ∙ kind-empty (tail xs) (by (eqb (tail xs).kind 0) refl (sym number ∙ z))
      where
        by : (b : Bool) → eqb (tail xs).kind 0 ≡ b → ◌≡◌ {A = ℕ} (cond (not b) 15 0) 0 → (tail xs).kind ≡ 0
        by true p q = eqb-true _ _ p
        by false p q = absurd (omega (arith, q))

    back : m.slot ≡ None → r ≡ 0
    back h = number ∙ ap (λ (n : ℕ). cond (not (eqb n 0)) 15 0) (empty-kind (tail xs).kind (tail xs).raw (sym (slot_is xs m e) ∙ h))

-- Back then forward gives the machine with run number 0.
pub back-then-forward : BackThenForward
back-then-forward xs to to' again again' m r s e h l p mv again-mv =
    let f = (was xs m e).0 in
    let read_as = (was xs m e).1 in
    let d = done xs to to' r (told-second xs (size xs m e)) (told-first to l) (kept xs m e) (empty-held xs m e h) mv in
    let at : to' ≡ moved_to 1 xs = d.1 ∙ ap (λ (n : ℕ). moved_to n xs) (edition-first to l) in
    let forth = moved-forward to' again again' s (ap length at ∙ back-length xs f read_as) (ap broken_in at ∙ back-kept xs f read_as) p again-mv in
    let core : core_of (fields_in 1 to') ≡ m.core =
    ap core_of (ap (fields_in 1) at ∙ back_fields xs f read_as) ∙ sym (ap (λ (n : Machine). n.core) (was xs m e).2) in
    (d.0, forth.0, forth.1 ∙ ap (λ (k : Core). Ok (in_run_zero k)) core)

-- ---- what a move leaves that was done

-- no refusal applied
none-applied : (a b c d : Bool) (n : ℕ) → ◌≡◌ {A = ℕ} 0 (cond (not (a && b)) 7 (cond (not c) (8 + 256 * n) (cond d 15 0))) → (a ≡ true) × (c ≡ true)
none-applied true true true d n e = (refl, refl)
none-applied true true false d n e = absurd (omega (arith, e))
none-applied true false c d n e = absurd (omega (arith, e))
none-applied false b c d n e = absurd (omega (arith, e))

module _ (xs to ys : List ℕ) (g : AllBytes xs) (l : length to ≡ 85) (m : ImageMoved xs to 0 ys) where
  asked : (is_image xs ≡ true) × (eqb (broken_in xs) 0 ≡ true)
  unfolding move_number
  asked = none-applied (is_image xs) (is_image to) (eqb (broken_in xs) 0) (slot_held xs && ltb (edition_of to) 2) (broken_in xs) m.answer

  none-broken : broken_in xs ≡ 0
  none-broken = eqb-true _ _ asked.1

  reads : length xs ≡ 85 → load_of xs ≡ Ok (machine_of (fields xs) (tail xs))
  unfolding load_of
  reads p = ap (loaded_as (tail xs)) (read-good xs p (keeps (fields xs) (tail xs) (sym (broken-second xs p) ∙ none-broken)))

  -- of either edition
  by-edition : {old : ℕ} → Known (length xs) old → (machine : Machine) × AllBytes ys × (load_of ys ≡ Ok machine)
  by-edition (first p) =
      let d = done xs to ys 0 (told-first xs p) (told-second to l) none-broken (none-held xs p) m in
      let at : ys ≡ moved_to 2 xs = d.1 ∙ ap (λ (n : ℕ). moved_to n xs) (edition-second to l) in
      (in_run_zero (core_of (fields_in 1 xs)), subst AllBytes (sym at) (forward-bytes xs p), ap load_of at ∙ forward-loads xs p none-broken)
  by-edition (second p) =
      let same = (moved-as-it-is xs to ys 0 g (told-second xs p) none-broken (l ∙ sym p) m).1 in
      (machine_of (fields xs) (tail xs), subst AllBytes (sym same) g, ap load_of same ∙ reads p)

  pub moved-loads : (machine : Machine) × AllBytes ys × (load_of ys ≡ Ok machine)
  moved-loads = by-edition (known (length xs) (eqb-false _ _ (was-not (eqb (edition_of xs) 0) asked.0)))
    where
      was-not : (b : Bool) → not b ≡ true → b ≡ false
      was-not false e = refl
      was-not true e = absurd (true≢false (sym e))
