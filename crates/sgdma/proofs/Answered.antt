-- What a call answers, from what it learnt.
-- Assumes nothing.
use Rattle.std.specs.Prelude.{Option, Some, None, is_some, unwrap_or, Result, Ok, Err}
use Prim.Native.Nat.{ℕ}
use mathlib.Core.Path.{◌≡◌, refl, sym, ap, ◌∙◌}
use mathlib.Core.Bool.{Bool, true, false}
use mir.Val.{bool_byte}
use mathlib.Core.List.{List, []}
use lib.ListN.{length}
use borrow.Author.Tests.{ne_eqb}
use Rattle.words.specs.Bits.{flag}
use Rattle.words.specs.Promise.{Gives, Leaves}
use Rattle.bus.specs.declared.Refusal.{Refusal}
use Rattle.bus.specs.declared.Refusal.TheVariants.{BadSize}
use Rattle.bus.specs.Refusal.{refusal_number, answer_number}
use Rattle.descriptor.specs.declared.Descriptor.{Descriptor}
use Rattle.regs.specs.Control.{line_up}
use Rattle.regs.specs.Offsets.{register_at}
use Rattle.answers.specs.Answers.{value_bytes, report_bytes, descriptor_bytes, finding_bytes, answer_put}
use Rattle.answers.proofs.Filled.{is-put}
use Rattle.machine.specs.declared.Machine.{Machine}
use Rattle.machine.specs.declared.Ran.{Ran}
use Rattle.machine.specs.Run.{reason_number}
use Rattle.machine.specs.Saved.{load_of}
use Rattle.sgdma.specs.Calls.{register_of, read_call, value_over, RegisterRead, line_in, line_call, line_over, LineRead, report_over, descriptor_call, answer_over, DescriptorRead, find_call, finding_over, RecordFound}
use Rattle.sgdma.proofs.Opened.{first-wrong, second-wrong, sizes-right, register-loaded, line-loaded}

-- ---- sgdma_read_register

module _ {xs value ys : List ℕ} {offset r : ℕ} where
  answers : (a : Result ℕ Refusal) → read_call xs offset value ≡ a → r ≡ answer_number a → ys ≡ value_over a value → RegisterRead xs offset value r ys
  answers a e p q =
      record { number = p ∙ sym (ap answer_number e); value_after = q ∙ sym (ap (λ (b : Result ℕ Refusal). value_over b value) e) }

  pub register-short : (length xs ≡ 85 → ⊥) → r ≡ 7 → ys ≡ value → RegisterRead xs offset value r ys
  unfolding read_call
  register-short h p q = answers (Err BadSize) (first-wrong _ _ 4 xs value h) p q

  module _ (l : length xs ≡ 85) where
    pub value-short : (length value ≡ 4 → ⊥) → r ≡ 7 → ys ≡ value → RegisterRead xs offset value r ys
    unfolding read_call
    value-short h p q = answers (Err BadSize) (second-wrong _ _ 4 xs value l h) p q

    module _ (k : length value ≡ 4) where
      pub register-spoiled : {why : Refusal} → load_of xs ≡ Err why → r ≡ refusal_number why → ys ≡ value → RegisterRead xs offset value r ys
      unfolding read_call
      register-spoiled {why} e p q =
          answers (Err why) (sizes-right _ _ 4 xs value l k ∙ ap (λ (x : Result Machine Refusal). register_of x offset) e) p q

      pub register-answers : {m : Machine} {a b : Result ℕ Refusal} → load_of xs ≡ Ok m → Gives (register_at m.core.status m.core.control m.core.pointer offset) a → a ≡ b
          → r ≡ answer_number b → ys ≡ value_over b value → RegisterRead xs offset value r ys
      unfolding read_call
      register-answers {m} {a} {b} e w f p q =
          answers b (sizes-right _ _ 4 xs value l k ∙ ap (λ (x : Result Machine Refusal). register_of x offset) e ∙ sym (register-loaded xs e offset w).answer ∙ f) p q

-- ---- sgdma_line

-- a flag as the machine's byte
pub flag-byte : (b : Bool) → bool_byte b ≡ flag b
flag-byte true = refl
flag-byte false = refl

module _ {xs value ys : List ℕ} {r : ℕ} where
  line-says : (a : Result Bool Refusal) → line_call xs value ≡ a → r ≡ answer_number a → ys ≡ line_over a value → LineRead xs value r ys
  line-says a e p q = record { number = p ∙ sym (ap answer_number e); value_after = q ∙ sym (ap (λ (b : Result Bool Refusal). line_over b value) e) }

  pub line-short : (length xs ≡ 85 → ⊥) → r ≡ 7 → ys ≡ value → LineRead xs value r ys
  unfolding line_call
  line-short h p q = line-says (Err BadSize) (first-wrong _ _ 4 xs value h) p q

  module _ (l : length xs ≡ 85) where
    pub line-value-short : (length value ≡ 4 → ⊥) → r ≡ 7 → ys ≡ value → LineRead xs value r ys
    unfolding line_call
    line-value-short h p q = line-says (Err BadSize) (second-wrong _ _ 4 xs value l h) p q

    module _ (k : length value ≡ 4) where
      pub line-spoiled : {why : Refusal} → load_of xs ≡ Err why → r ≡ refusal_number why → ys ≡ value → LineRead xs value r ys
      unfolding line_call
      line-spoiled {why} e p q = line-says (Err why) (sizes-right _ _ 4 xs value l k ∙ ap line_in e) p q

-- the line of what was loaded goes by its control and what pends alone
abbrev pub line_seen : Result Machine Refusal → Result Bool Refusal
line_seen (Ok m) = Ok (line_up m.core.control m.core.pending)
line_seen (Err why) = Err why

pub loaded-line : (xs : List ℕ) → line_in (load_of xs) ≡ line_seen (load_of xs)
loaded-line xs = by (load_of xs) refl
  where
    by : (l : Result Machine Refusal) → load_of xs ≡ l → line_in l ≡ line_seen l
    by (Ok m) e = line-loaded xs e
    by (Err why) e = refl

-- the bytes of a value, put in a slice of their size
pub value-put : (v : ℕ) (xs : List ℕ) → length xs ≡ 4 → answer_put (value_bytes v) xs ≡ value_bytes v
value-put v xs l = is-put (value_bytes v) xs l

pub ruleset line_told = (loaded-line, value-put, flag-byte)

-- ---- sgdma_run

-- the report of a run, from what was put over it
pub report-told : (r : Ran) (n : ℕ) (xs : List ℕ) {ys : List ℕ} → length xs ≡ 18 → n ≡ reason_number r.reason
    → Leaves (answer_put (report_bytes n r.steps r.taken r.made r.used) xs) ys → Leaves (report_over (Ok r) []) ys
report-told r n xs l e q =
    record {
      lent = q.lent ∙ is-put (report_bytes n r.steps r.taken r.made r.used) xs l
          ∙ ap (λ (m : ℕ). report_bytes m r.steps r.taken r.made r.used) e;
    }

-- ---- sgdma_read_descriptor

module _ {window answer ys : List ℕ} {base a r : ℕ} where
  found_as : (d : Result Descriptor Refusal) → descriptor_call window base a answer ≡ d → r ≡ answer_number d → ys ≡ answer_over d answer
      → DescriptorRead window base a answer r ys
  found_as d e p q =
      record { number = p ∙ sym (ap answer_number e); answer_after = q ∙ sym (ap (λ (b : Result Descriptor Refusal). answer_over b answer) e) }

  pub answer-short : (length answer ≡ 18 → ⊥) → r ≡ 7 → ys ≡ answer → DescriptorRead window base a answer r ys
  unfolding descriptor_call
  answer-short h p q = found_as (Err BadSize) (rw (ne_eqb (length answer) 18 h)) p q

-- the bytes of a descriptor, put in a slice of their size
pub descriptor-put : (d : Descriptor) (xs : List ℕ) → length xs ≡ 18 → answer_put (descriptor_bytes d) xs ≡ descriptor_bytes d
descriptor-put d xs l = is-put (descriptor_bytes d) xs l

pub ruleset in_place = (descriptor-put)

-- ---- sgdma_find_record

module _ {ledger answer ys : List ℕ} {used run address r : ℕ} where
  told-as : (f : Result (Option ℕ) Refusal) → find_call ledger used run address answer ≡ f → r ≡ answer_number f → ys ≡ finding_over f answer
      → RecordFound ledger used run address answer r ys
  told-as f e p q =
      record { number = p ∙ sym (ap (answer_number {A = Option ℕ}) e); answer_after = q ∙ sym (ap (λ (g : Result (Option ℕ) Refusal). finding_over g answer) e) }

  pub finding-short : (length answer ≡ 4 → ⊥) → r ≡ 7 → ys ≡ answer → RecordFound ledger used run address answer r ys
  unfolding find_call
  finding-short h p q = told-as (Err BadSize) (rw (ne_eqb (length answer) 4 h)) p q

-- the bytes of a finding, put in a slice of their size
pub finding-put : (found : Bool) (count : ℕ) (xs : List ℕ) → length xs ≡ 4 → answer_put (finding_bytes found count) xs ≡ finding_bytes found count
finding-put found count xs l = is-put (finding_bytes found count) xs l

-- what was put, found or not
pub finding-told : (found : Option ℕ) (answer : List ℕ) → finding_bytes (is_some found) (unwrap_or found 0) ≡ finding_over (Ok found) answer
finding-told (Some count) answer = refl
finding-told None answer = refl

pub ruleset found_told = (finding-put, finding-told)
