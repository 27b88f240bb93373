-- "First that applies: 7, 8, 9, 19, 18, 2, 3, 4, 1, 5, 6": the number that a C call gives back is the first, in this one order, of the
-- refusals that apply to it.
-- Assumes nothing.
use Rattle.std.specs.Prelude.{Option, Result, Ok, Err}
use Prim.Native.Nat.{ℕ, ◌+◌, ◌*◌, ◌%◌}
use mathlib.Core.Path.{◌≡◌, refl, sym, ap, ◌∙◌}
use mathlib.Core.Bool.{Bool, true, false, not, cond, ◌&&◌}
use mathlib.Core.List.{List}
use lib.Dec.{eqb, leb}
use lib.ListN.{length}
use Rattle.bus.specs.declared.Refusal.{Refusal}
use Rattle.bus.specs.declared.Refusal.TheVariants.{OtherWindow, BadSize, BadImage, OddStream, BadLedger, RunUnknown}
use Rattle.bus.specs.Refusal.{refusal_number, answer_number}
use Rattle.bus.specs.Window.{keeps_limits, in_window}
use Rattle.descriptor.specs.Calls.{seat_of}
use Rattle.descriptor.proofs.Seats.{by_tests, built-number, found_number}
use Rattle.regs.specs.Offsets.{is_register}
use Rattle.image.specs.Layout.{fields, tail}
use Rattle.image.specs.Rules.{lowest_broken, keeps_rules}
use Rattle.image.specs.Promise.{sized}
use Rattle.image.specs.Promise as image
use Rattle.image.proofs.Tests.{and_left}
use Rattle.machine.specs.declared.Machine.{Machine}
use Rattle.machine.specs.Saved.{keeps, machine_of, loaded_as, load_of}
use Rattle.machine.specs.Registers.{reading_of, write_of}
use Rattle.ledger.specs.Records.{is_ledger}
use Rattle.ledger.specs.Finding.{finding_in}
use Rattle.machine.specs.Run.{serves, refused, even, served_of, served_number}
use Rattle.machine.proofs.Answers.{was-loaded, was-register, was-written, was-line, run-number}
use Rattle.met.proofs.RoundTrip.{loaded-keeps}
use Rattle.sgdma.specs.Calls.{is_size, register_of, read_call, written_in, line_in, line_call, run_in, run_call, descriptor_call, find_call}
use Rattle.chain_calls.specs.Refused.{first, build_tests}
use Rattle.chain_calls.specs.Theorems.{CreateInOrder, ReadInOrder, WriteInOrder, LineInOrder, RunInOrder, BuildInOrder, DescriptorInOrder, FindInOrder}

-- ---- tests one after the other

pub unless : (b : Bool) (x : ℕ) {y z : ℕ} → y ≡ z → cond b y x ≡ cond (not b) x z
unless true x e = e
unless false x e = refl

-- the number of a choice is a choice of numbers
chosen : {A : Type 0} (number : A → ℕ) (b : Bool) (x y : A) → number (cond b x y) ≡ cond b (number x) (number y)
chosen number true x y = refl
chosen number false x y = refl

-- where it is known that b holds
if-so : (b : Bool) (x : ℕ) {y z : ℕ} → (b ≡ true → y ≡ z) → cond b y x ≡ cond (not b) x z
if-so true x h = h refl
if-so false x h = refl

-- ---- an image that is loaded

module _ (xs : List ℕ) where
  abbrev machine : Machine
  machine = machine_of (fields xs) (tail xs)

  loads : sized xs ≡ true → keeps_rules (fields xs) (tail xs) ≡ true → load_of xs ≡ Ok machine
  unfolding load_of image.read_of
  loads s k = rw (s, k)

  keeps-loaded : sized xs ≡ true → keeps_rules (fields xs) (tail xs) ≡ true → keeps machine ≡ true
  keeps-loaded s k = loaded-keeps (was-loaded (sym (loads s k)))

  -- the number of a call that loads it: 7 and 8 come first
  module _ (body : Result Machine Refusal → ℕ) (passes : (why : Refusal) → body (Err why) ≡ refusal_number why) where
    opened : body (load_of xs) ≡ cond (sized xs) (cond (keeps_rules (fields xs) (tail xs)) (body (Ok machine)) (8 + 256 * lowest_broken (fields xs) (tail xs))) 7
    unfolding load_of image.read_of
    opened = by (sized xs) (keeps_rules (fields xs) (tail xs))
      where
        by : (s k : Bool)
            → body (loaded_as (tail xs) (cond s (cond k (Ok (fields xs)) (Err (BadImage (lowest_broken (fields xs) (tail xs))))) (Err BadSize)))
            ≡ cond s (cond k (body (Ok machine)) (8 + 256 * lowest_broken (fields xs) (tail xs))) 7
        by true true = refl
        by true false = passes (BadImage (lowest_broken (fields xs) (tail xs)))
        by false k = passes BadSize

    -- and of one that looks at another size too
    opened_with : (other : Bool) {n : ℕ} → (sized xs ≡ true → keeps_rules (fields xs) (tail xs) ≡ true → body (Ok machine) ≡ n)
        → cond (sized xs && other) (body (load_of xs)) 7 ≡ cond (not (sized xs && other)) 7 (cond (not (keeps_rules (fields xs) (tail xs))) (8 + 256 * lowest_broken (fields xs) (tail xs)) n)
    opened_with other h =
        if-so (sized xs && other) 7
        (λ e. let s = and_left (sized xs) other e in
        opened ∙ rw s (if-so (keeps_rules (fields xs) (tail xs)) (8 + 256 * lowest_broken (fields xs) (tail xs)) (h s)))

-- ---- the registers and the line

module _ (xs : List ℕ) (offset : ℕ) where
  read_known : sized xs ≡ true → keeps_rules (fields xs) (tail xs) ≡ true
      → answer_number (reading_of (machine xs) offset) ≡ cond (not (is_register offset)) 1 0
  read_known s k = (was-register refl).number ∙ rw (keeps-loaded xs s k) (unless (is_register offset) 1 refl)

  written_known : (v : ℕ) → sized xs ≡ true → keeps_rules (fields xs) (tail xs) ≡ true
      → answer_number (write_of (machine xs) offset v) ≡ cond (not (is_register offset)) 1 0
  written_known v s k = (was-written refl).number ∙ rw (keeps-loaded xs s k) (unless (is_register offset) 1 refl)

pub create-in-order : CreateInOrder
create-in-order xs mode base length r xs' p =
    record { number = p.number ∙ unless (sized xs) 7 (unless (leb mode 2) 2 (unless (keeps_limits base length) 3 refl)); in_order = refl }

pub read-in-order : ReadInOrder
unfolding read_call
read-in-order xs offset value r value' p =
    record {
      number = p.number ∙ chosen answer_number (sized xs && is_size 4 value) _ _
          ∙ opened_with xs (λ l. answer_number (register_of l offset)) (λ why. refl) (is_size 4 value) (read_known xs offset);
      in_order = refl;
    }

pub write-in-order : WriteInOrder
write-in-order xs offset v r xs' p =
    record {
      number = p.number ∙ opened xs (λ l. answer_number (written_in l offset v)) (λ why. refl)
          ∙ if-so (sized xs) 7 (λ s. if-so (keeps_rules (fields xs) (tail xs)) (8 + 256 * lowest_broken (fields xs) (tail xs)) (λ k. written_known xs offset v s k));
      in_order = refl;
    }

pub line-in-order : LineInOrder
unfolding line_call
line-in-order xs value r value' p =
    record {
      number = p.number ∙ chosen answer_number (sized xs && is_size 4 value) _ _
          ∙ opened_with xs (λ l. answer_number (line_in l)) (λ why. refl) (is_size 4 value)
          (λ s k. (was-line refl).number ∙ rw (keeps-loaded xs s k));
      in_order = refl;
    }

-- ---- a run

served-number : (even kept right : Bool)
    → served_number (cond even (cond kept (cond right serves (refused OtherWindow)) (refused BadLedger)) (refused OddStream))
    ≡ cond (not even) 9 (cond (not kept) 19 (cond (not right) 4 0))
served-number true true true = refl
served-number true true false = refl
served-number true false right = refl
served-number false kept right = refl

pub run-in-order : RunInOrder
unfolding run_call served_of
run-in-order xs l budget report r xs' b report' p =
    record {
      number = p.number ∙ chosen answer_number (sized xs && is_size 18 report) _ _
          ∙ opened_with xs (λ m. answer_number (run_in m l budget)) (λ why. refl) (is_size 18 report) known;
      in_order = refl;
    }
  where
    known : sized xs ≡ true → keeps_rules (fields xs) (tail xs) ≡ true → answer_number (run_in (Ok (machine xs)) l budget)
        ≡ cond (not (even l.beats && even l.out)) 9
        (cond (not (is_ledger (length l.ledger) l.used)) 19 (cond (not (eqb (length l.window) (fields xs).window)) 4 0))
    known s k =
        run-number l (served_of (machine xs) l) _ budget
        ∙ rw (keeps-loaded xs s k)
        (served-number (even l.beats && even l.out) (is_ledger (length l.ledger) l.used) (eqb (length l.window) (fields xs).window))

-- ---- descriptors

seat-number : (window : List ℕ) (base a : ℕ) → answer_number (seat_of (length window) base a) ≡ first (build_tests window base a)
seat-number window base a =
    by_tests (length window) base a
    ∙ unless (keeps_limits base (length window)) 3
    (unless (eqb (a % 4) 0) 5 (unless (in_window (record { base = base; length = length window }) a 32) 6 refl))

pub build-in-order : BuildInOrder
build-in-order window base a j r window' p =
    record { number = p.number ∙ built-number (seat_of (length window) base a) ∙ seat-number window base a; in_order = refl }

pub descriptor-in-order : DescriptorInOrder
unfolding descriptor_call
descriptor-in-order window base a answer r answer' p =
    record {
      number = p.number ∙ chosen answer_number (is_size 18 answer) _ _
          ∙ unless (is_size 18 answer) 7 (found_number window (seat_of (length window) base a) ∙ seat-number window base a);
      in_order = refl;
    }

-- ---- the ledger, asked

finding-number : (ledger : List ℕ) (used run address : ℕ)
    → answer_number (finding_in ledger used run address) ≡ cond (not (is_ledger (length ledger) used)) 19 (cond (eqb run 4294967295) 18 0)
unfolding finding_in
finding-number ledger used run address =
    chosen (answer_number {A = Option ℕ}) (not (is_ledger (length ledger) used)) (Err BadLedger) _
    ∙ ap (cond (not (is_ledger (length ledger) used)) 19) (chosen (answer_number {A = Option ℕ}) (eqb run 4294967295) (Err RunUnknown) _)

pub find-in-order : FindInOrder
unfolding find_call
find-in-order ledger used run address answer r answer' p =
    record {
      number = p.number ∙ chosen (answer_number {A = Option ℕ}) (is_size 4 answer) _ _
          ∙ unless (is_size 4 answer) 7 (finding-number ledger used run address);
      in_order = refl;
    }
