-- "A refused call returns its number and nothing else; machine and lent bytes keep their values": where a C call gives back another
-- number than 0, everything that it may write is as it was lent. The machine is its image.
-- Assumes nothing.
use Rattle.bus.specs.Refusal.{answer_number}
use Rattle.std.specs.Prelude.{Option, Some, None, Result, Ok, Err}
use Prim.Native.Nat.{ℕ}
use mathlib.Core.Path.{◌≡◌, refl, ap, ◌∙◌}
use mathlib.Core.Logic.{◌≢◌}
use mathlib.Core.Bool.{Bool, true, false, cond, ◌&&◌}
use mathlib.Core.List.{List}
use lib.ListN.{length}
use borrow.Author.Tests.{ne_eqb}
use Rattle.words.specs.Promise.{Answers}
use Rattle.bus.specs.declared.Refusal.TheVariants.{BadSize}
use Rattle.bus.specs.declared.Refusal.{Refusal}
use Rattle.machine.specs.declared.Machine.{Machine}
use Rattle.descriptor.specs.declared.Descriptor.{Descriptor}
use Rattle.machine.specs.declared.Ran.{Ran}
use Rattle.descriptor.specs.Calls.{seat_of}
use Rattle.descriptor.proofs.Seats.{build-stays}
use Rattle.image.specs.Promise.{sized}
use Rattle.machine.specs.Saved.{load_of}
use Rattle.machine.specs.Step.{World}
use Rattle.machine.specs.Run.{Lent, as_lent, Served, serves, refused, served_of, world_of, returned, run_answer}
use Rattle.sgdma.specs.Calls.{create_number, read_call, value_over, written_in, written_over, line_call, line_over, is_size, run_in, run_call, ran_over, report_over, returned_in, descriptor_call, answer_over, find_call, finding_over}
use Rattle.chain_calls.specs.Theorems.{CreateUnchanged, ReadUnchanged, WriteUnchanged, LineUnchanged, RunUnchanged, BuildUnchanged, DescriptorUnchanged, FindUnchanged}

-- the number given back is that of the answer, so the answer is a refusal too
answer-refused : {r n : ℕ} → r ≡ n → r ≢ 0 → n ≢ 0
answer-refused e h z = h (e ∙ z)

-- the bytes that a call leaves which promises no more than a number and them
pub as_lent_lem : {number r : ℕ} {lent done after : List ℕ} → Answers number lent done r after → r ≢ 0 → after ≡ lent
as_lent_lem {number} {r} {lent} {done} a h =
    a.lent ∙ ap (λ (b : Bool). cond b done lent) (ne_eqb number 0 (answer-refused a.answer h))

-- ---- what each answer leaves, where its number is not 0

read_stays : (a : Result ℕ Refusal) (value : List ℕ) → answer_number a ≢ 0 → value_over a value ≡ value
read_stays (Ok v) value h = absurd (h refl)
read_stays (Err why) value h = refl

write-stays : (a : Result Machine Refusal) (xs : List ℕ) → answer_number a ≢ 0 → written_over a xs ≡ xs
write-stays (Ok m) xs h = absurd (h refl)
write-stays (Err why) xs h = refl

line_stays : (a : Result Bool Refusal) (value : List ℕ) → answer_number a ≢ 0 → line_over a value ≡ value
line_stays (Ok true) value h = absurd (h refl)
line_stays (Ok false) value h = absurd (h refl)
line_stays (Err why) value h = refl

descriptor-stays : (a : Result Descriptor Refusal) (answer : List ℕ) → answer_number a ≢ 0 → answer_over a answer ≡ answer
descriptor-stays (Ok d) answer h = absurd (h refl)
descriptor-stays (Err why) answer h = refl

find-stays : (f : Result (Option ℕ) Refusal) (answer : List ℕ) → answer_number f ≢ 0 → finding_over f answer ≡ answer
find-stays (Ok (Some count)) answer h = absurd (h refl)
find-stays (Ok None) answer h = absurd (h refl)
find-stays (Err why) answer h = refl

-- ---- a run

-- image and report, by the answer
run-stays : (a : Result Ran Refusal) (xs report : List ℕ) → answer_number a ≢ 0 → (ran_over a xs ≡ xs) × (report_over a report ≡ report)
run-stays (Ok r) xs report h = absurd (h refl)
run-stays (Err why) xs report h = (refl, refl)

-- window, output and ledger, by whether what is lent serves
lent-stays : (l : Lent) (served : Served) (w v : World) (budget : ℕ) → answer_number (run_answer l served w budget) ≢ 0 → returned l served v ≡ as_lent l
lent-stays l serves w v budget h = absurd (h refl)
lent-stays l (refused why) w v budget h = refl

-- and by what was loaded
module _ (l : Lent) (budget : ℕ) where
  slices-stay : (right : Bool) (m : Result Machine Refusal) → answer_number (cond right (run_in m l budget) (Err BadSize)) ≢ 0
      → cond right (returned_in m l budget) (as_lent l) ≡ as_lent l
  slices-stay true (Ok m) h = lent-stays l (served_of m l) (world_of m l) _ budget h
  slices-stay true (Err why) h = refl
  slices-stay false m h = refl

-- ---- the calls

pub create-unchanged : CreateUnchanged
create-unchanged xs mode base length r xs' c h =
    c.image_after ∙ rw (ne_eqb (create_number xs mode base length) 0 (answer-refused c.number h))

pub read-unchanged : ReadUnchanged
read-unchanged xs offset value r value' c h = c.value_after ∙ read_stays (read_call xs offset value) value (answer-refused c.number h)

pub write-unchanged : WriteUnchanged
write-unchanged xs offset v r xs' c h = c.image_after ∙ write-stays (written_in (load_of xs) offset v) xs (answer-refused c.number h)

pub line-unchanged : LineUnchanged
line-unchanged xs value r value' c h = c.value_after ∙ line_stays (line_call xs value) value (answer-refused c.number h)

pub run-unchanged : RunUnchanged
unfolding run_call
run-unchanged xs l budget report r xs' b report' c h =
    let n = answer-refused c.number h in
    let a = run-stays (run_call xs l budget report) xs report n in
    let s = slices-stay l budget (sized xs && is_size 18 report) (load_of xs) n in
    (c.image_after ∙ a.0, c.back ∙ s, c.report_after ∙ a.1)

pub build-unchanged : BuildUnchanged
build-unchanged window base a j r window' c h =
    c.window_after ∙ build-stays (seat_of (length window) base a) window j (answer-refused c.number h)

pub descriptor-unchanged : DescriptorUnchanged
descriptor-unchanged window base a answer r answer' c h =
    c.answer_after ∙ descriptor-stays (descriptor_call window base a answer) answer (answer-refused c.number h)

pub find-unchanged : FindUnchanged
find-unchanged ledger used run address answer r answer' c h =
    c.answer_after ∙ find-stays (find_call ledger used run address answer) answer (answer-refused c.number h)
