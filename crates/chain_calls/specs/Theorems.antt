-- What is proved of the C calls: each theorem's whole statement, under its name. A term of each stands in proofs/.
-- Assumes nothing.
use Rattle.std.specs.Prelude.{ℕ, ◌+◌, ◌^◌, ◌≤◌, ◌<◌, ◌≡◌, true, List, length, Ok}
use Rattle.words.specs.Promise.{Answers}
use Rattle.descriptor.specs.declared.Job.{Job}
use Rattle.regs.specs.declared.Mode.{Mode}
use Rattle.regs.specs.declared.Mode.TheVariants.{MemoryToMemory, MemoryToStream}
use Rattle.ledger.specs.declared.Entry.{Entry}
use Rattle.image.specs.Editions.{ImageMoved}
use Rattle.links.specs.Calls.{ChainChecked, ChainMended}
use Rattle.machine.specs.declared.Machine.{Machine}
use Rattle.machine.specs.Saved.{load_of}
use Rattle.machine.specs.Run.{Lent, Returned, as_lent}
use Rattle.answers.specs.Answers.{finding_bytes}
use Rattle.links.specs.Form.{All, Form}
use Rattle.links.specs.Verdicts.{stop}
use Rattle.links.specs.Calls.{stop_bytes}
use Rattle.chain.specs.Chain.{Share, last, shares, cost, Premises}
use Rattle.chain.specs.Modes.{shares_in, PremisesIn, Separate, CopiedAsHeld}
use Rattle.chain.specs.Known.{known, copier, sender}
use Rattle.sgdma.specs.Calls.{Created, RegisterRead, RegisterWritten, LineRead, RunMade, DescriptorBuilt, DescriptorRead, RecordFound}
use Rattle.timer.specs.Calls.{TimerCreated, TimerRead, TimerWritten, TimerLine, TimerRan, TimerElapsed}
use Rattle.vic.specs.Calls.{port_number, VicCreated, VicChosen}
use Rattle.chain_calls.specs.InC.{RunLent, RunLeft, Promised, Lends, WellLent, given_in, CalledIn, Called, AllDone, FoundIn, Found, BeatsLeft, FoundAtEveryStepIn, FoundAtEveryStep}
use Rattle.chain_calls.specs.Known.{lends, known_left, copier_left, sender_left}
use Rattle.chain_calls.specs.Refused.{FirstThatApplies, WhereRefused}
use Rattle.chain_calls.specs.Refused.{create_tests, read_tests, write_tests, line_tests, run_tests, build_tests, descriptor_tests, find_tests, move_tests, check_tests, mend_tests, vic_create_tests, vic_port_tests, vic_choose_tests}
use Rattle.chain_calls.specs.Refused.{timer_create_tests, timer_read_tests, timer_write_tests, timer_value_tests, timer_elapsed_tests}
use Rattle.chain_calls.specs.TwoRuns.{lent_next, lent_with, DoTheSame}
use Rattle.chain_calls.specs.Images.{InUse, LoadsBack}
use Rattle.chain_calls.specs.Useless.{Model, InBytes, Keeps, honest, RefusesEverything, OneFixedAnswer, NeverMoves, OnlyMarksTheOthers, MakesUpSteps, MarksUnrecorded}
use Rattle.chain_calls.specs.Ledger.{OneEachInC, SessionInC, AddsInC}
use Rattle.chain_calls.specs.Obeys.{Cleared, ObeyedInC}

-- ---- "First that applies": the number that a call gives back is the first, in the paper's one order, of the refusals that apply to
-- it, or 0

-- sgdma_create gives back the first that applies.
abbrev pub CreateInOrder : Type 0
CreateInOrder = (xs : List ℕ) (mode base length r : ℕ) (xs' : List ℕ) → Created xs mode base length r xs'
    → FirstThatApplies (create_tests xs mode base length) r

-- sgdma_read_register does.
abbrev pub ReadInOrder : Type 0
ReadInOrder = (xs : List ℕ) (offset : ℕ) (value : List ℕ) (r : ℕ) (value' : List ℕ) → RegisterRead xs offset value r value'
    → FirstThatApplies (read_tests xs offset value) r

-- sgdma_write_register does.
abbrev pub WriteInOrder : Type 0
WriteInOrder = (xs : List ℕ) (offset v r : ℕ) (xs' : List ℕ) → RegisterWritten xs offset v r xs'
    → FirstThatApplies (write_tests xs offset) r

-- sgdma_line does.
abbrev pub LineInOrder : Type 0
LineInOrder = (xs value : List ℕ) (r : ℕ) (value' : List ℕ) → LineRead xs value r value' → FirstThatApplies (line_tests xs value) r

-- sgdma_run does.
abbrev pub RunInOrder : Type 0
RunInOrder = (xs : List ℕ) (l : Lent) (budget : ℕ) (report : List ℕ) (r : ℕ) (xs' : List ℕ) (b : Returned) (report' : List ℕ)
    → RunMade xs l budget report r xs' b report' → FirstThatApplies (run_tests xs l report) r

-- sgdma_build_descriptor does.
abbrev pub BuildInOrder : Type 0
BuildInOrder = (window : List ℕ) (base a : ℕ) (j : Job) (r : ℕ) (window' : List ℕ) → DescriptorBuilt window base a j r window'
    → FirstThatApplies (build_tests window base a) r

-- sgdma_read_descriptor does.
abbrev pub DescriptorInOrder : Type 0
DescriptorInOrder = (window : List ℕ) (base a : ℕ) (answer : List ℕ) (r : ℕ) (answer' : List ℕ) → DescriptorRead window base a answer r answer'
    → FirstThatApplies (descriptor_tests window base a answer) r

-- sgdma_find_record does.
abbrev pub FindInOrder : Type 0
FindInOrder = (ledger : List ℕ) (used run address : ℕ) (answer : List ℕ) (r : ℕ) (answer' : List ℕ)
    → RecordFound ledger used run address answer r answer' → FirstThatApplies (find_tests ledger used run answer) r

-- sgdma_move_image does.
abbrev pub MoveInOrder : Type 0
MoveInOrder = (xs to : List ℕ) (r : ℕ) (to' : List ℕ) → ImageMoved xs to r to' → FirstThatApplies (move_tests xs to) r

-- sgdma_check_chain does.
abbrev pub CheckInOrder : Type 0
CheckInOrder = (window : List ℕ) (base pointer : ℕ) (answer : List ℕ) (r : ℕ) (answer' : List ℕ)
    → ChainChecked window base pointer answer r answer' → FirstThatApplies (check_tests window base answer) r

-- sgdma_mend_chain does.
abbrev pub MendInOrder : Type 0
MendInOrder = (window : List ℕ) (base pointer : ℕ) (answer : List ℕ) (r : ℕ) (window' answer' : List ℕ)
    → ChainMended window base pointer answer r window' answer' → FirstThatApplies (mend_tests window base pointer answer) r

-- Each of the six calls on a timer does.
pub record EachInOrder : Type 0 where
  pub create : (xs : List ℕ) (period r : ℕ) (xs' : List ℕ) → TimerCreated xs period r xs' → FirstThatApplies (timer_create_tests xs) r
  pub read : (xs : List ℕ) (offset : ℕ) (value : List ℕ) (r : ℕ) (value' : List ℕ) → TimerRead xs offset value r value'
      → FirstThatApplies (timer_read_tests xs offset value) r
  pub write : (xs : List ℕ) (offset v r : ℕ) (xs' : List ℕ) → TimerWritten xs offset v r xs'
      → FirstThatApplies (timer_write_tests xs offset) r
  pub line : (xs value : List ℕ) (r : ℕ) (value' : List ℕ) → TimerLine xs value r value' → FirstThatApplies (timer_value_tests xs value) r
  pub run : (xs : List ℕ) (n : ℕ) (value : List ℕ) (r : ℕ) (xs' value' : List ℕ) → TimerRan xs n value r xs' value'
      → FirstThatApplies (timer_value_tests xs value) r
  pub elapsed : (xs : List ℕ) (earlier later : ℕ) (value : List ℕ) (r : ℕ) (value' : List ℕ) → TimerElapsed xs earlier later value r value'
      → FirstThatApplies (timer_elapsed_tests xs value) r

abbrev pub TimerInOrder : Type 0
TimerInOrder = EachInOrder

-- sgdma_vic_create does.
abbrev pub VicCreateInOrder : Type 0
VicCreateInOrder = (xs : List ℕ) (ports vector_bytes base r : ℕ) (xs' : List ℕ) → VicCreated xs ports vector_bytes base r xs'
    → FirstThatApplies (vic_create_tests xs ports) r

-- sgdma_vic_configure, sgdma_vic_enable, sgdma_vic_trigger and sgdma_vic_line do, whatever they leave where they are done.
abbrev pub VicPortInOrder : Type 0
VicPortInOrder = (xs done : List ℕ) (p r : ℕ) (xs' : List ℕ) → Answers (port_number xs p) xs done r xs'
    → FirstThatApplies (vic_port_tests xs p) r

-- sgdma_vic_choose does.
abbrev pub VicChooseInOrder : Type 0
VicChooseInOrder = (xs answer : List ℕ) (r : ℕ) (answer' : List ℕ) → VicChosen xs answer r answer'
    → FirstThatApplies (vic_choose_tests xs answer) r

-- ---- a call that gives back another number than 0 leaves everything that it may write as it was lent

-- sgdma_create, refused, leaves the image.
abbrev pub CreateUnchanged : Type 0
CreateUnchanged = (xs : List ℕ) (mode base length r : ℕ) (xs' : List ℕ) → Created xs mode base length r xs' → WhereRefused r (xs' ≡ xs)

-- sgdma_read_register leaves the value.
abbrev pub ReadUnchanged : Type 0
ReadUnchanged = (xs : List ℕ) (offset : ℕ) (value : List ℕ) (r : ℕ) (value' : List ℕ) → RegisterRead xs offset value r value'
    → WhereRefused r (value' ≡ value)

-- sgdma_write_register leaves the image.
abbrev pub WriteUnchanged : Type 0
WriteUnchanged = (xs : List ℕ) (offset v r : ℕ) (xs' : List ℕ) → RegisterWritten xs offset v r xs' → WhereRefused r (xs' ≡ xs)

-- sgdma_line leaves the value.
abbrev pub LineUnchanged : Type 0
LineUnchanged = (xs value : List ℕ) (r : ℕ) (value' : List ℕ) → LineRead xs value r value' → WhereRefused r (value' ≡ value)

-- sgdma_run leaves image, window, output, ledger and report.
abbrev pub RunUnchanged : Type 0
RunUnchanged = (xs : List ℕ) (l : Lent) (budget : ℕ) (report : List ℕ) (r : ℕ) (xs' : List ℕ) (b : Returned) (report' : List ℕ)
    → RunMade xs l budget report r xs' b report' → WhereRefused r ((xs' ≡ xs) × (b ≡ as_lent l) × (report' ≡ report))

-- sgdma_build_descriptor leaves the window.
abbrev pub BuildUnchanged : Type 0
BuildUnchanged = (window : List ℕ) (base a : ℕ) (j : Job) (r : ℕ) (window' : List ℕ) → DescriptorBuilt window base a j r window'
    → WhereRefused r (window' ≡ window)

-- sgdma_read_descriptor leaves the answer.
abbrev pub DescriptorUnchanged : Type 0
DescriptorUnchanged = (window : List ℕ) (base a : ℕ) (answer : List ℕ) (r : ℕ) (answer' : List ℕ)
    → DescriptorRead window base a answer r answer' → WhereRefused r (answer' ≡ answer)

-- sgdma_find_record leaves the answer.
abbrev pub FindUnchanged : Type 0
FindUnchanged = (ledger : List ℕ) (used run address : ℕ) (answer : List ℕ) (r : ℕ) (answer' : List ℕ)
    → RecordFound ledger used run address answer r answer' → WhereRefused r (answer' ≡ answer)

-- sgdma_move_image leaves the bytes that the image was to be moved to.
abbrev pub MoveUnchanged : Type 0
MoveUnchanged = (xs to : List ℕ) (r : ℕ) (to' : List ℕ) → ImageMoved xs to r to' → WhereRefused r (to' ≡ to)

-- sgdma_check_chain leaves the answer.
abbrev pub CheckUnchanged : Type 0
CheckUnchanged = (window : List ℕ) (base pointer : ℕ) (answer : List ℕ) (r : ℕ) (answer' : List ℕ)
    → ChainChecked window base pointer answer r answer' → WhereRefused r (answer' ≡ answer)

-- sgdma_mend_chain leaves the window and the answer.
abbrev pub MendUnchanged : Type 0
MendUnchanged = (window : List ℕ) (base pointer : ℕ) (answer : List ℕ) (r : ℕ) (window' answer' : List ℕ)
    → ChainMended window base pointer answer r window' answer' → WhereRefused r ((window' ≡ window) × (answer' ≡ answer))

-- Each of the six calls on a timer leaves the timer, and the value that it may write.
pub record EachUnchanged : Type 0 where
  pub create : (xs : List ℕ) (period r : ℕ) (xs' : List ℕ) → TimerCreated xs period r xs' → WhereRefused r (xs' ≡ xs)
  pub read : (xs : List ℕ) (offset : ℕ) (value : List ℕ) (r : ℕ) (value' : List ℕ) → TimerRead xs offset value r value'
      → WhereRefused r (value' ≡ value)
  pub write : (xs : List ℕ) (offset v r : ℕ) (xs' : List ℕ) → TimerWritten xs offset v r xs' → WhereRefused r (xs' ≡ xs)
  pub line : (xs value : List ℕ) (r : ℕ) (value' : List ℕ) → TimerLine xs value r value' → WhereRefused r (value' ≡ value)
  pub run : (xs : List ℕ) (n : ℕ) (value : List ℕ) (r : ℕ) (xs' value' : List ℕ) → TimerRan xs n value r xs' value'
      → WhereRefused r ((xs' ≡ xs) × (value' ≡ value))
  pub elapsed : (xs : List ℕ) (earlier later : ℕ) (value : List ℕ) (r : ℕ) (value' : List ℕ) → TimerElapsed xs earlier later value r value'
      → WhereRefused r (value' ≡ value)

abbrev pub TimerUnchanged : Type 0
TimerUnchanged = EachUnchanged

-- Every call on a controller leaves the bytes that it may write: the controller, and sgdma_vic_choose the answer.
abbrev pub VicUnchanged : Type 0
VicUnchanged = (number : ℕ) (lent done : List ℕ) (r : ℕ) (after : List ℕ) → Answers number lent done r after → WhereRefused r (after ≡ lent)

-- ---- images

-- Every image that the C calls leave, from one created or one that loads, is that of a machine met in use and loads back as it, so that
-- 8 never applies to it.
abbrev pub ImagesLoad : Type 0
ImagesLoad = (xs : List ℕ) → InUse xs → LoadsBack xs

-- ---- demand 3 of the C calls: sgdma_create, sgdma_write_register twice, sgdma_run

-- Every number that they give back is 0.
abbrev pub NoneRefused : Type 0
NoneRefused = (l : Lends) (created pointed started : ℕ) (left : RunLeft) (k : ℕ)
    → Called l created pointed started left → WellLent l → Premises (given_in l k) → AllDone created pointed started left

-- With budget enough: every lent byte after them.
abbrev pub ChainOfCalls : Type 0
ChainOfCalls = (l : Lends) (created pointed started : ℕ) (left : RunLeft) (k : ℕ)
    → Called l created pointed started left → WellLent l → Premises (given_in l k) → 2 + cost (shares (given_in l k)) ≤ l.budget
    → Found (given_in l k) l left

-- Order 8: where sgdma_check_chain answers 0, sound, with k and e, and all that demand 3 asks besides the form of the chain holds, the calls
-- leave what demand 3 says, and the run ends at e.
abbrev pub CheckedRuns : Type 0
CheckedRuns = (l : Lends) (created pointed started : ℕ) (left : RunLeft) (k e : ℕ) (answer answer' : List ℕ)
    → ChainChecked l.lent.window l.window.base l.pointer answer 0 answer'
    → answer' ≡ stop_bytes 0 (stop k e) → k < 2 ^ 32 → e < 2 ^ 32
    → Called l created pointed started left → WellLent l → length l.lent.window ≡ l.window.length
    → (Form l.window l.lent.window l.pointer k → Premises (given_in l k)) → 2 + cost (shares (given_in l k)) ≤ l.budget
    → Found (given_in l k) l left × ((last (given_in l k)).at ≡ e)

-- With any budget: after every step.
abbrev pub ChainOfCallsAtEveryStep : Type 0
ChainOfCallsAtEveryStep = (l : Lends) (created pointed started : ℕ) (left : RunLeft) (k : ℕ)
    → Called l created pointed started left → WellLent l → Premises (given_in l k) → FoundAtEveryStep (given_in l k) l left

-- sgdma_find_record finds the descriptor of each share in run 1, with its count, among what was used and k more
abbrev pub AllFindable : Lends → RunLeft → (k : ℕ) → List Share → Type 0
AllFindable l left k ss = (answer : List ℕ) → length answer ≡ 4
    → All (λ s. (r : ℕ) (answer' : List ℕ) → RecordFound left.back.ledger (l.lent.used + k) 1 s.link.at answer r answer'
    → (r ≡ 0) × (answer' ≡ finding_bytes true s.count)) ss

-- Order 6: and sgdma_find_record then finds each of the k in run 1, with its count.
abbrev pub EachFoundInC : Type 0
EachFoundInC = (l : Lends) (created pointed started : ℕ) (left : RunLeft) (k : ℕ)
    → Called l created pointed started left → WellLent l → Premises (given_in l k) → 2 + cost (shares (given_in l k)) ≤ l.budget
    → AllFindable l left k (shares (given_in l k))

-- ---- order 10 of the C calls: the same in each mode

-- Every number that they give back is 0.
abbrev pub NoneRefusedInEachMode : Type 0
NoneRefusedInEachMode = (mode : Mode) (l : Lends) (created pointed started : ℕ) (left : RunLeft) (k : ℕ)
    → CalledIn mode l created pointed started left → WellLent l → PremisesIn mode (given_in l k) → AllDone created pointed started left

-- With budget enough: every lent byte after them.
abbrev pub OfCallsInEachMode : Type 0
OfCallsInEachMode = (mode : Mode) (l : Lends) (created pointed started : ℕ) (left : RunLeft) (k : ℕ)
    → CalledIn mode l created pointed started left → WellLent l → PremisesIn mode (given_in l k) → 2 + cost (shares_in mode (given_in l k)) ≤ l.budget
    → FoundIn mode (given_in l k) l left

-- With any budget: after every step.
abbrev pub OfCallsInEachModeAtEveryStep : Type 0
OfCallsInEachModeAtEveryStep = (mode : Mode) (l : Lends) (created pointed started : ℕ) (left : RunLeft) (k : ℕ)
    → CalledIn mode l created pointed started left → WellLent l → PremisesIn mode (given_in l k) → FoundAtEveryStepIn mode (given_in l k) l left

-- What a user reads of the copier, and of a stream made.
abbrev pub CopiesWhatWasHeldInC : Type 0
CopiesWhatWasHeldInC = (l : Lends) (created pointed started : ℕ) (left : RunLeft) (k : ℕ)
    → CalledIn MemoryToMemory l created pointed started left → WellLent l
    → let g = given_in l k in
    PremisesIn MemoryToMemory g → Separate g → 2 + cost (shares_in MemoryToMemory g) ≤ l.budget → CopiedAsHeld g left.back.window

abbrev pub SendsTheseBeatsInC : Type 0
SendsTheseBeatsInC = (l : Lends) (created pointed started : ℕ) (left : RunLeft) (k : ℕ)
    → CalledIn MemoryToStream l created pointed started left → WellLent l
    → let g = given_in l k in
    PremisesIn MemoryToStream g → 2 + cost (shares_in MemoryToStream g) ≤ l.budget → BeatsLeft g l left

-- And sgdma_find_record then finds each of the k in run 1, with its count.
abbrev pub EachFoundInEachMode : Type 0
EachFoundInEachMode = (mode : Mode) (l : Lends) (created pointed started : ℕ) (left : RunLeft) (k : ℕ)
    → CalledIn mode l created pointed started left → WellLent l → PremisesIn mode (given_in l k) → 2 + cost (shares_in mode (given_in l k)) ≤ l.budget
    → AllFindable l left k (shares_in mode (given_in l k))

-- ---- in numbers

-- Known run 1 through the C calls: the numbers, all 85 bytes of the image, the window's 256, the report's 18, the ledger's 12.
abbrev pub KnownRun1InC : Type 0
KnownRun1InC = (created pointed started : ℕ) (left : RunLeft) → Called (lends known) created pointed started left
    → AllDone created pointed started left × (left ≡ known_left)

-- The chain of copies through them in mode 0, and the chain of packets in mode 1: the same bytes.
abbrev pub CopiesInC : Type 0
CopiesInC = (created pointed started : ℕ) (left : RunLeft) → CalledIn MemoryToMemory (lends copier) created pointed started left
    → AllDone created pointed started left × (left ≡ copier_left)

abbrev pub PacketsInC : Type 0
PacketsInC = (created pointed started : ℕ) (left : RunLeft) → CalledIn MemoryToStream (lends sender) created pointed started left
    → AllDone created pointed started left × (left ≡ sender_left)

-- ---- runs in a row

-- Two runs, with budgets a and b, do what one of a + b does: whatever C lends the first, where it is not refused and a + b is a number of
-- 32 bits. The report slice of the second has its 18 bytes.
abbrev pub TwoRunsAdd : Type 0
TwoRunsAdd = (x : RunLent) (b : ℕ) (report : List ℕ) (first second one : RunLeft) → InBytes x → x.budget + b < 2 ^ 32 → length report ≡ 18
    → Promised x first → first.number ≡ 0 → Promised (lent_next x first b report) second → Promised (lent_with x (x.budget + b)) one
    → DoTheSame first second one

-- ---- the ledger

-- A write-back and a record are one, of sgdma_run: see `OneRecordEach`.
abbrev pub OneRecordEachInC : Type 0
OneRecordEachInC = (m : Machine) (x : RunLent) (y : RunLeft) → load_of x.image ≡ Ok m → InBytes x → Promised x y → y.number ≡ 0
    → OneEachInC m x y

-- The ledger's law, of sgdma_create, sgdma_write_register and sgdma_run: see `SessionAdds`.
abbrev pub SessionAddsInC : Type 0
SessionAddsInC = (image before ledger : List ℕ) (used : ℕ) (rs : List Entry) (taken lost : ℕ)
    → SessionInC image before ledger used rs taken lost → AddsInC image before ledger used rs taken lost

-- ---- order 9: how long until it obeys

-- From any image in use: once control is written with RUN clear, one sgdma_run with what it needs tells reason 0 or 3 and at most 65,536
-- steps, and BUSY reads 0.
abbrev pub ObeysInC : Type 0
ObeysInC = (xs : List ℕ) (v : ℕ) (x : RunLent) (y : RunLeft) (value : List ℕ) → Cleared xs v x y value → ObeyedInC y.report value

-- ---- the useless models

-- The promise of sgdma_run can be kept: one model keeps it.
abbrev pub HonestKeeps : Type 0
HonestKeeps = Keeps honest

-- "The one that refuses everything" does not.
abbrev pub RefuserFails : Type 0
RefuserFails = (f : Model) → RefusesEverything f → Keeps f → ⊥

-- "The one with one fixed answer" does not.
abbrev pub FixedFails : Type 0
FixedFails = (f : Model) → OneFixedAnswer f → Keeps f → ⊥

-- "The one that never moves" does not.
abbrev pub NeverMovingFails : Type 0
NeverMovingFails = (f : Model) → NeverMoves f → Keeps f → ⊥

-- "The one that does the first descriptor honestly and only marks the others" does not.
abbrev pub MarkerFails : Type 0
MarkerFails = (f : Model) → OnlyMarksTheOthers f → Keeps f → ⊥

-- One with "a made-up step count" does not.
abbrev pub MadeUpFails : Type 0
MadeUpFails = (f : Model) → MakesUpSteps f → Keeps f → ⊥

-- The one that marks a descriptor done and writes no record does not.
abbrev pub UnrecordedFails : Type 0
UnrecordedFails = (f : Model) → MarksUnrecorded f → Keeps f → ⊥
