-- The C calls: over an 85-byte image, with numbers in lent bytes most significant first. Each promise gives the number returned,
-- in the paper's order of refusals, and every lent byte after the call; refused, nothing has changed.
-- Assumes nothing.
use Rattle.std.specs.Prelude.{ℕ, ◌≡◌, Bool, true, false, cond, ◌&&◌, List, eqb, leb, length, Option, Some, None, Result, Ok, Err}
use Rattle.std.proofs.Common.{sym, ◌∙◌}
use Rattle.bus.specs.declared.Refusal.TheVariants.{BadMode, BadWindow, BadSize}
use Rattle.bus.specs.Refusal.{refusal_number, answer_number}
use Rattle.bus.specs.Window.{keeps_limits}
use Rattle.descriptor.specs.declared.Job.{Job}
use Rattle.bus.specs.declared.Refusal.{Refusal}
use Rattle.machine.specs.declared.Ran.{Ran}
use Rattle.descriptor.specs.declared.Descriptor.{Descriptor}
use Rattle.descriptor.specs.Calls.{seat_of, found, built, with_job}
use Rattle.words.specs.Bits.{flag}
use Rattle.answers.specs.Answers.{value_bytes, report_bytes, descriptor_bytes, finding_bytes}
use Rattle.ledger.specs.Finding.{finding_in}
use Rattle.regs.specs.Modes.{mode_of}
use Rattle.image.specs.Layout.{image}
use Rattle.image.specs.Promise.{sized}
use Rattle.machine.specs.declared.Machine.{Machine}
use Rattle.machine.specs.State.{fresh}
use Rattle.machine.specs.Run.{run, reason_number, Lent, Returned, as_lent, served_of, world_of, returned, run_answer}
use Rattle.machine.specs.Saved.{fields_of, tail_of, load_of}
use Rattle.machine.specs.Registers.{reading_of, write_of, line_of}

-- the 85 bytes of a machine
abbrev pub image_of : Machine → List ℕ
image_of m = image (fields_of m.core) (tail_of m)

-- a lent slice of so many bytes
abbrev pub is_size : ℕ → List ℕ → Bool
is_size n xs = eqb (length xs) n

-- ---- sgdma_create: 7, 2, 3

abbrev pub create_number : (xs : List ℕ) (mode base length : ℕ) → ℕ
create_number xs mode base length =
    cond (sized xs) (cond (leb mode 2) (cond (keeps_limits base length) 0 (refusal_number BadWindow)) (refusal_number BadMode)) (refusal_number BadSize)

-- what stands in a lent slice after a call with this number
abbrev pub if_done : (number : ℕ) (done kept : List ℕ) → List ℕ
if_done number done kept = cond (eqb number 0) done kept

pub record Created (xs : List ℕ) (mode base length : ℕ) (r : ℕ) (xs' : List ℕ) : Type 0 where
  pub number : r ≡ create_number xs mode base length
  pub image_after : xs'
      ≡ if_done (create_number xs mode base length) (image_of (fresh (mode_of mode) (record { base = base; length = length }))) xs

-- No second outcome of sgdma_create keeps its promise.
abbrev pub CreatedUnique : Type 0
CreatedUnique = (xs : List ℕ) (mode base length r s : ℕ) (ys zs : List ℕ)
    → Created xs mode base length r ys → Created xs mode base length s zs → (r ≡ s) × (ys ≡ zs)

pub created-unique : CreatedUnique
created-unique xs mode base length r s ys zs p q = (p.number ∙ sym q.number, p.image_after ∙ sym q.image_after)

-- ---- sgdma_read_register: 7, 8, 1

abbrev pub register_of : Result Machine Refusal → (offset : ℕ) → Result ℕ Refusal
register_of (Ok m) offset = reading_of m offset
register_of (Err why) offset = Err why

-- both sizes are looked at before the image
unfoldable pub read_call : (xs : List ℕ) (offset : ℕ) (value : List ℕ) → Result ℕ Refusal
read_call xs offset value = cond (sized xs && is_size 4 value) (register_of (load_of xs) offset) (Err BadSize)

abbrev pub value_over : Result ℕ Refusal → List ℕ → List ℕ
value_over (Ok v) value = value_bytes v
value_over (Err why) value = value

pub record RegisterRead (xs : List ℕ) (offset : ℕ) (value : List ℕ) (r : ℕ) (value' : List ℕ) : Type 0 where
  pub number : r ≡ answer_number (read_call xs offset value)
  pub value_after : value' ≡ value_over (read_call xs offset value) value

-- No second outcome of sgdma_read_register keeps its promise.
abbrev pub RegisterReadUnique : Type 0
RegisterReadUnique = (xs : List ℕ) (offset : ℕ) (value : List ℕ) (r s : ℕ) (ys zs : List ℕ)
    → RegisterRead xs offset value r ys → RegisterRead xs offset value s zs → (r ≡ s) × (ys ≡ zs)

pub register-read-unique : RegisterReadUnique
register-read-unique xs offset value r s ys zs p q = (p.number ∙ sym q.number, p.value_after ∙ sym q.value_after)

-- ---- sgdma_write_register: 7, 8, 1

abbrev pub written_in : Result Machine Refusal → (offset v : ℕ) → Result Machine Refusal
written_in (Ok m) offset v = write_of m offset v
written_in (Err why) offset v = Err why

abbrev pub written_over : Result Machine Refusal → List ℕ → List ℕ
written_over (Ok n) xs = image_of n
written_over (Err why) xs = xs

pub record RegisterWritten (xs : List ℕ) (offset v : ℕ) (r : ℕ) (xs' : List ℕ) : Type 0 where
  pub number : r ≡ answer_number (written_in (load_of xs) offset v)
  pub image_after : xs' ≡ written_over (written_in (load_of xs) offset v) xs

-- No second outcome of sgdma_write_register keeps its promise.
abbrev pub RegisterWrittenUnique : Type 0
RegisterWrittenUnique = (xs : List ℕ) (offset v r s : ℕ) (ys zs : List ℕ)
    → RegisterWritten xs offset v r ys → RegisterWritten xs offset v s zs → (r ≡ s) × (ys ≡ zs)

pub register-written-unique : RegisterWrittenUnique
register-written-unique xs offset v r s ys zs p q = (p.number ∙ sym q.number, p.image_after ∙ sym q.image_after)

-- ---- sgdma_line: 7, 8; the value is 1 where the line is up, else 0

abbrev pub line_in : Result Machine Refusal → Result Bool Refusal
line_in (Ok m) = line_of m
line_in (Err why) = Err why

unfoldable pub line_call : (xs value : List ℕ) → Result Bool Refusal
line_call xs value = cond (sized xs && is_size 4 value) (line_in (load_of xs)) (Err BadSize)

abbrev pub line_over : Result Bool Refusal → List ℕ → List ℕ
line_over (Ok up) value = value_bytes (flag up)
line_over (Err why) value = value

pub record LineRead (xs value : List ℕ) (r : ℕ) (value' : List ℕ) : Type 0 where
  pub number : r ≡ answer_number (line_call xs value)
  pub value_after : value' ≡ line_over (line_call xs value) value

-- No second outcome of sgdma_line keeps its promise.
abbrev pub LineReadUnique : Type 0
LineReadUnique = (xs value : List ℕ) (r s : ℕ) (ys zs : List ℕ)
    → LineRead xs value r ys → LineRead xs value s zs → (r ≡ s) × (ys ≡ zs)

pub line-read-unique : LineReadUnique
line-read-unique xs value r s ys zs p q = (p.number ∙ sym q.number, p.value_after ∙ sym q.value_after)

-- ---- sgdma_run: 7, 8, 9, 19, 4

abbrev pub run_in : Result Machine Refusal → Lent → (budget : ℕ) → Result Ran Refusal
run_in (Ok m) l budget = run_answer l (served_of m l) (world_of m l) budget
run_in (Err why) l budget = Err why

-- both sizes are looked at before the image
unfoldable pub run_call : (xs : List ℕ) → Lent → (budget : ℕ) (report : List ℕ) → Result Ran Refusal
run_call xs l budget report = cond (sized xs && is_size 18 report) (run_in (load_of xs) l budget) (Err BadSize)

abbrev pub ran_over : Result Ran Refusal → List ℕ → List ℕ
ran_over (Ok r) xs = image_of r.machine
ran_over (Err why) xs = xs

abbrev pub report_over : Result Ran Refusal → List ℕ → List ℕ
report_over (Ok r) report = report_bytes (reason_number r.reason) r.steps r.taken r.made r.used
report_over (Err why) report = report

-- what comes back of a run of what was loaded
abbrev pub returned_in : Result Machine Refusal → Lent → (budget : ℕ) → Returned
returned_in (Ok m) l budget = returned l (served_of m l) (run budget (world_of m l)).world
returned_in (Err why) l budget = as_lent l

pub record RunMade (xs : List ℕ) (l : Lent) (budget : ℕ) (report : List ℕ) (r : ℕ) (xs' : List ℕ) (b : Returned) (report' : List ℕ) : Type 0 where
  pub number : r ≡ answer_number (run_call xs l budget report)
  pub image_after : xs' ≡ ran_over (run_call xs l budget report) xs
  pub back : b ≡ cond (sized xs && is_size 18 report) (returned_in (load_of xs) l budget) (as_lent l)
  pub report_after : report' ≡ report_over (run_call xs l budget report) report

-- No second outcome of sgdma_run keeps its promise.
abbrev pub RunMadeUnique : Type 0
RunMadeUnique = (xs : List ℕ) (l : Lent) (budget : ℕ) (report : List ℕ) (r s : ℕ) (x1 : List ℕ) (b1 : Returned) (p1 x2 : List ℕ) (b2 : Returned)
    (p2 : List ℕ)
    → RunMade xs l budget report r x1 b1 p1 → RunMade xs l budget report s x2 b2 p2 → (r ≡ s) × (x1 ≡ x2) × (b1 ≡ b2) × (p1 ≡ p2)

pub run-made-unique : RunMadeUnique
run-made-unique xs l budget report r s x1 b1 p1 x2 b2 p2 p q = (
  p.number ∙ sym q.number,
  p.image_after ∙ sym q.image_after,
  p.back ∙ sym q.back,
  p.report_after ∙ sym q.report_after,
)

-- ---- sgdma_build_descriptor: 3, 5, 6

pub record DescriptorBuilt (window : List ℕ) (base a : ℕ) (j : Job) (r : ℕ) (window' : List ℕ) : Type 0 where
  pub number : r ≡ answer_number (built (seat_of (length window) base a))
  pub window_after : window' ≡ with_job window j (seat_of (length window) base a)

-- No second outcome of sgdma_build_descriptor keeps its promise.
abbrev pub DescriptorBuiltUnique : Type 0
DescriptorBuiltUnique = (window : List ℕ) (base a : ℕ) (j : Job) (r s : ℕ) (ys zs : List ℕ)
    → DescriptorBuilt window base a j r ys → DescriptorBuilt window base a j s zs → (r ≡ s) × (ys ≡ zs)

pub descriptor-built-unique : DescriptorBuiltUnique
descriptor-built-unique window base a j r s ys zs p q = (p.number ∙ sym q.number, p.window_after ∙ sym q.window_after)

-- ---- sgdma_read_descriptor: 7, 3, 5, 6

unfoldable pub descriptor_call : (window : List ℕ) (base a : ℕ) (answer : List ℕ) → Result Descriptor Refusal
descriptor_call window base a answer =
    cond (is_size 18 answer) (found window (seat_of (length window) base a)) (Err BadSize)

abbrev pub answer_over : Result Descriptor Refusal → List ℕ → List ℕ
answer_over (Ok d) answer = descriptor_bytes d
answer_over (Err why) answer = answer

pub record DescriptorRead (window : List ℕ) (base a : ℕ) (answer : List ℕ) (r : ℕ) (answer' : List ℕ) : Type 0 where
  pub number : r ≡ answer_number (descriptor_call window base a answer)
  pub answer_after : answer' ≡ answer_over (descriptor_call window base a answer) answer

-- No second outcome of sgdma_read_descriptor keeps its promise.
abbrev pub DescriptorReadUnique : Type 0
DescriptorReadUnique = (window : List ℕ) (base a : ℕ) (answer : List ℕ) (r s : ℕ) (ys zs : List ℕ)
    → DescriptorRead window base a answer r ys → DescriptorRead window base a answer s zs → (r ≡ s) × (ys ≡ zs)

pub descriptor-read-unique : DescriptorReadUnique
descriptor-read-unique window base a answer r s ys zs p q = (p.number ∙ sym q.number, p.answer_after ∙ sym q.answer_after)

-- ---- sgdma_find_record: 7, 19, 18

unfoldable pub find_call : (ledger : List ℕ) (used run address : ℕ) (answer : List ℕ) → Result (Option ℕ) Refusal
find_call ledger used run address answer = cond (is_size 4 answer) (finding_in ledger used run address) (Err BadSize)

-- found is 1 with the latest byte count; else both are 0
abbrev pub finding_over : Result (Option ℕ) Refusal → List ℕ → List ℕ
finding_over (Ok (Some count)) answer = finding_bytes true count
finding_over (Ok None) answer = finding_bytes false 0
finding_over (Err why) answer = answer

pub record RecordFound (ledger : List ℕ) (used run address : ℕ) (answer : List ℕ) (r : ℕ) (answer' : List ℕ) : Type 0 where
  pub number : r ≡ answer_number (find_call ledger used run address answer)
  pub answer_after : answer' ≡ finding_over (find_call ledger used run address answer) answer

-- No second outcome of sgdma_find_record keeps its promise.
abbrev pub RecordFoundUnique : Type 0
RecordFoundUnique = (ledger : List ℕ) (used run address : ℕ) (answer : List ℕ) (r s : ℕ) (ys zs : List ℕ)
    → RecordFound ledger used run address answer r ys → RecordFound ledger used run address answer s zs → (r ≡ s) × (ys ≡ zs)

pub record-found-unique : RecordFoundUnique
record-found-unique ledger used run address answer r s ys zs p q = (p.number ∙ sym q.number, p.answer_after ∙ sym q.answer_after)
