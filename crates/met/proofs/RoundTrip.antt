-- Images and machines come back from one another: a loaded image saved again gives the same bytes; a machine that keeps the
-- rules saves to an image that loads back as it; bytes load as a machine exactly when it keeps the rules and they are its image.
-- Assumes nothing.
use Rattle.machine.specs.State.{Slot}
use Rattle.std.specs.Prelude.{Result, Ok, Err, Some, None}
use Prim.Native.Nat.{ℕ, zero, suc, ◌≤◌}
use mathlib.Core.Path.{◌≡◌, refl, sym, ap, subst⁻¹, ◌∙◌}
use mathlib.Core.Bool.{true, false}
use mathlib.Core.List.{List, [], ◌∷◌}
use native.Mathlib.Omega.{arith}
use lib.ListN.{length, get_or}
use borrow.Author.Tests.{eqb-false}
use Rattle.words.specs.Slices.{AllBytes}
use Rattle.bus.specs.declared.Refusal.{Refusal}
use Rattle.descriptor.specs.declared.Miss.TheVariants as miss
use Rattle.image.specs.declared.Fields.{Fields}
use Rattle.image.specs.declared.Tail.{Tail}
use Rattle.image.specs.Slot.{held}
use Rattle.image.specs.Layout.{image, fields, tail, Typed}
use Rattle.image.specs.Rules.{lowest_broken, keeps_rules, working, in_faulted}
use Rattle.image.specs.Promise.{read_of}
use Rattle.image.proofs.Facts.{edition-is, mode-le, phase-le, armed-is, status-lt, zero15-is, fault-none, faultat-none, no_address, no_source, no-destination, no_size, no-dcontrol, no-errors, no-moved, no_eop, zero6-is, empty-at, empty-raw, held_at, fault-raw, kind-le}
use Rattle.image.proofs.Answers.{keeps, kept-none, good-keeps, good-image, good-typed, read-broken, read-image, image-tail, wrote-done}
use Rattle.image.proofs.RoundTrip.{length-image, fields-image, tail-image}
use Rattle.machine.specs.declared.Core.{Core}
use Rattle.machine.specs.declared.Machine.{Machine}
use Rattle.machine.specs.Saved as core
use Rattle.machine.proofs.Answers.{was-loaded}
use Rattle.met.specs.Theorems.{SavedAgain, LoadsBack, LoadsExactly, SameField}
use Rattle.met.proofs.Numbers.{mode-back, mode-there, status-back, status-there, phase-back, phase-there}

-- ---- a machine as fields, and back

core-back : (m : Core) → core.core_of (core.fields_of m) ≡ m
core-back m = λ i. record {
  mode = mode-back m.mode i;
  window = m.window;
  status = status-back m.status i;
  control = m.control;
  pointer = m.pointer;
  phase = phase-back m.phase i;
  pending = m.pending;
  count = m.count;
}

slot-back : (s : Slot) (pointer number : ℕ) → core.slot_of (core.tail_with s pointer number) ≡ s
slot-back None pointer number = refl
slot-back (Some (Err miss.Misaligned)) pointer number = refl
slot-back (Some (Err miss.Outside)) pointer number = refl
slot-back (Some (Ok r)) pointer number = refl

run-back : (s : Slot) (pointer number : ℕ) → (core.tail_with s pointer number).run ≡ number
run-back None pointer number = refl
run-back (Some look) pointer number = refl

pub machine-back : (m : Machine) → core.machine_of (core.fields_of m.core) (core.tail_of m) ≡ m
machine-back m = λ i. record {
  core = core-back m.core i;
  slot = slot-back m.slot m.core.pointer.0 m.run i;
  run = run-back m.slot m.core.pointer.0 m.run i;
}

-- descriptor fields are zero outside Move and WriteBack, code and address outside Faulted
module _ (f : Fields) (t : Tail) (e : lowest_broken f t ≡ 0) where
  no-work : working f.phase ≡ false → core.work_of f ≡ core.none
  no-work h = λ i. record {
    at = no_address f t e h i;
    source = no_source f t e h i;
    destination = no-destination f t e h i;
    length = no_size f t e h i;
    control = record { 0 = no-dcontrol f t e h i };
    errors = no-errors f t e h i;
    moved = no-moved f t e h i;
    eop = no_eop f t e h i;
  }

  no-fault : in_faulted f.phase ≡ false → record { code = f.fault; address = f.faultat } ≡ core.no_fault
  no-fault h =
      let out : f.phase ≡ 6 → ⊥ = eqb-false f.phase 6 h in
      λ i. record { code = fault-none f t e out i; address = faultat-none f t e out i }

  pub fields-there : core.fields_of (core.core_of f) ≡ f
  fields-there =
      let p = phase-there (core.work_of f) (record { code = f.fault; address = f.faultat }) f.phase (phase-le f t e) no-work no-fault in
      λ i. record {
        edition = sym (edition-is f t e) i;
        mode = mode-there f.mode (mode-le f t e) i;
        phase = p.0 i;
        armed = armed-is f t e i;
        pending = f.pending;
        fault = (p.2 i).code;
        status = status-there f.status (status-lt f t e) i;
        count = f.count;
        control = f.control;
        pointer = f.pointer;
        base = f.base;
        window = f.window;
        address = (p.1 i).at;
        source = (p.1 i).source;
        destination = (p.1 i).destination;
        size = (p.1 i).length;
        dcontrol = (p.1 i).control.0;
        errors = (p.1 i).errors;
        moved = (p.1 i).moved;
        eop = (p.1 i).eop;
        zero15 = sym (zero15-is f t e) i;
        faultat = (p.2 i).address;
      }

  -- and so does what edition 2 adds
  pub tail-there : core.tail_of (core.machine_of f t) ≡ t
  tail-there = by t.kind refl (kind-le f t e)
    where
      by : (n : ℕ) → t.kind ≡ n → n ≤ 3 → core.tail_of (core.machine_of f t) ≡ t
      by zero k l =
          ap (λ (n : ℕ). core.tail_with (get_or (None ∷ Some (Ok t.raw) ∷ Some (Err miss.Misaligned) ∷ []) n (Some (Err miss.Outside))) f.pointer t.run) k
          ∙ (λ i. record { kind = sym k i; zero6 = sym (zero6-is f t e) i; at = sym (empty-at f t e k) i; raw = sym (empty-raw f t e k) i; run = t.run })
      by (suc zero) k l =
          ap (λ (n : ℕ). core.tail_with (get_or (None ∷ Some (Ok t.raw) ∷ Some (Err miss.Misaligned) ∷ []) n (Some (Err miss.Outside))) f.pointer t.run) k
          ∙ (λ i. record { kind = sym k i; zero6 = sym (zero6-is f t e) i; at = sym (held_at f t e (ap held k)) i; raw = t.raw; run = t.run })
      by (suc (suc zero)) k l =
          ap (λ (n : ℕ). core.tail_with (get_or (None ∷ Some (Ok t.raw) ∷ Some (Err miss.Misaligned) ∷ []) n (Some (Err miss.Outside))) f.pointer t.run) k
          ∙ (λ i. record { kind = sym k i; zero6 = sym (zero6-is f t e) i; at = sym (held_at f t e (ap held k)) i; raw = sym (fault-raw f t e (λ x. absurd (let y = k in omega arith))) i; run = t.run })
      by (suc (suc (suc zero))) k l =
          ap (λ (n : ℕ). core.tail_with (get_or (None ∷ Some (Ok t.raw) ∷ Some (Err miss.Misaligned) ∷ []) n (Some (Err miss.Outside))) f.pointer t.run) k
          ∙ (λ i. record { kind = sym k i; zero6 = sym (zero6-is f t e) i; at = sym (held_at f t e (ap held k)) i; raw = sym (fault-raw f t e (λ x. absurd (let y = k in omega arith))) i; run = t.run })
      by (suc (suc (suc (suc n)))) k l = absurd (omega arith)

-- ---- load and save

-- what a good load tells: the image was read as fields, and these are the machine's
read-from : (t : Tail) (r : Result Fields Refusal) (m : Machine) → Ok m ≡ core.loaded_as t r → (f : Fields) × (r ≡ Ok f) × (m ≡ core.machine_of f t)
read-from t (Ok f) m e = (f, refl, cc)
read-from t (Err why) m e = absurd (let z : ◌≡◌ {A = ℕ} 0 1 = cc in omega arith)

module _ {xs : List ℕ} {m : Machine} (l : core.WasLoaded xs (Ok m)) where
  pub from-read : (f : Fields) × (read_of xs ≡ Ok f) × (m ≡ core.machine_of f (tail xs))
  unfolding core.load_of
  from-read = read-from (tail xs) (read_of xs) m l.answer

  loaded-tail : core.tail_of m ≡ tail xs
  loaded-tail = let r = from-read in ap core.tail_of r.2 ∙ tail-there r.0 (tail xs) (good-keeps xs r.0 r.1)

  loaded-read : read_of xs ≡ Ok (core.fields_of m.core)
  loaded-read =
      let r = from-read in
      let f = r.0 in
      r.1 ∙ ap Ok (sym (ap (λ (x : Machine). core.fields_of x.core) r.2 ∙ fields-there f (tail xs) (good-keeps xs f r.1)))

  pub loaded-keeps : core.keeps m ≡ true
  loaded-keeps =
      ap (keeps_rules (core.fields_of m.core)) loaded-tail
      ∙ keeps (core.fields_of m.core) (tail xs) (good-keeps xs (core.fields_of m.core) loaded-read)

  pub loaded-typed : Typed (core.fields_of m.core) (core.tail_of m)
  loaded-typed = subst⁻¹ (Typed (core.fields_of m.core)) loaded-tail (good-typed xs (core.fields_of m.core) loaded-read)

  loaded-image : AllBytes xs → image (core.fields_of m.core) (core.tail_of m) ≡ xs
  loaded-image g = ap (image (core.fields_of m.core)) loaded-tail ∙ good-image xs (core.fields_of m.core) loaded-read g

-- a machine that keeps the rules is saved, and what is left is its image
pub saves : {m : Machine} {ys zs : List ℕ} {r : Result Unit Refusal} → core.keeps m ≡ true → length ys ≡ 85 → core.WasSaved m ys r zs
    → (r ≡ (Ok tt)) × (zs ≡ image (core.fields_of m.core) (core.tail_of m))
unfolding core.save_of
saves {m} {ys} k l s =
    let w = wrote-done (core.fields_of m.core) (core.tail_of m) ys l k (image (core.fields_of m.core) (core.tail_of m)) refl in
    (s.answer ∙ sym w.answer, s.lent ∙ sym w.lent)

-- the image of a machine that keeps the rules loads as it
pub loads : (m : Machine) → Typed (core.fields_of m.core) (core.tail_of m) → core.keeps m ≡ true
    → core.load_of (image (core.fields_of m.core) (core.tail_of m)) ≡ Ok m
unfolding core.load_of
loads m p k =
    let f = core.fields_of m.core in
    let t = core.tail_of m in
    let e = kept-none f t k in
    ap (λ (x : Tail). core.loaded_as x (read_of (image f t))) (image-tail f t p e)
    ∙ ap (core.loaded_as t) (read-image f t p e) ∙ ap Ok (machine-back m)

-- A loaded image saved again gives the same bytes.
pub saved-again : SavedAgain
saved-again xs ys zs m r g l p s =
    let d = saves (loaded-keeps p) l s in
    (d.0, d.1 ∙ loaded-image p g)

-- A machine that keeps the rules saves to an image that loads back as it.
pub loads-back : LoadsBack
loads-back m ys zs r s t k l p q =
    let d = saves k l p in
    (d.0, q.answer ∙ ap core.load_of d.1 ∙ loads m t k)

-- Bytes load as m exactly when m keeps the rules and they are its image.
pub loads-exactly : LoadsExactly
loads-exactly xs m g t = (there, back)
  where
    there : core.WasLoaded xs (Ok m) → (core.keeps m ≡ true) × (xs ≡ image (core.fields_of m.core) (core.tail_of m))
    there l = (loaded-keeps l, sym (loaded-image l g))

    back : (core.keeps m ≡ true) × (xs ≡ image (core.fields_of m.core) (core.tail_of m)) → core.WasLoaded xs (Ok m)
    back (k, e) = was-loaded (sym (ap core.load_of e ∙ loads m t k))

-- A machine that breaks a rule is refused with the same field as its image is.
pub same-field : SameField
unfolding core.load_of
same-field m fit words k =
    let f = core.fields_of m.core in
    let t = core.tail_of m in
    let back : fields (image f t) ≡ f = fields-image f t fit in
    let rest : tail (image f t) ≡ t = tail-image f t fit words in
    ap (core.loaded_as (tail (image f t)))
    (read-broken (image f t) (length-image f t) ((λ i. keeps_rules (back i) (rest i)) ∙ k) (λ i. lowest_broken (sym back i) (sym rest i)))
