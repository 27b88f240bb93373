-- Begin here: what is proved of the core, on one page. Each theorem has the sentence that it carries, the name of its statement and, by
-- its path, the term that proves it. A statement stands whole, with every premise, under its name in specs/Theorems.antt of its crate;
-- those of image_rows in its specs/Rows.antt and Moves.antt, and those of uniqueness beside the promises, in specs/Calls.antt of sgdma, links
-- and timer and specs/Promise.antt of words. What else a reader believes are the definitions that the statements use, all of them in specs/.
-- Assumes nothing.
use Rattle.words.specs.Promise.{AnswersUnique}
use Rattle.words.specs.Theorems.{RecodeBack, FieldsPacked, RowBack, RowThere}
use Rattle.bus.specs.Theorems.{LocatedIs}
use Rattle.image.specs.Theorems.{ReadExactly, EditionFront, ForwardThenBack, MovedAsItIs, FieldTold}
use Rattle.image_rows.specs.Rows.{RowsHold, SampleWritten, SampleRead}
use Rattle.image_rows.specs.Moves.{MovesHold}
use Rattle.descriptor.specs.Theorems.{LengthJob, ByOffset, ReadAfterBuild, BuildAfterRead}
use Rattle.ledger.specs.Theorems.{FoundExactly, NotFoundExactly, RecordsBack, AppendedFound}
use Rattle.machine.specs.Theorems.{RunAdd, RunTells, BudgetOnly, ResumedRuns, StepPassed, StepSpares, RowSteps, CopySteps, SendSteps, ReceiveSteps}
use Rattle.known_runs.specs.Theorems.{KnownRunsHold, WorkedCasesHold}
use Rattle.met.specs.Theorems.{FaultedStands, OnlyResetLeaves, ReadInFetchAlone, UsedAsRead, SlotOutlives, RunNumberRises, RunNumberStays, NoEffectInFetch, NoEffectInMove, NoEffectInWriteBack, KeptAsGiven}
use Rattle.met.specs.Theorems.{LoadsExactly, SameField, SavedAgain, LoadsBack, MovedForward, BackExactly, BackThenForward, WriteKeeps, StepKeeps, RunKeeps, MetKeeps, MetSaves}
use Rattle.met.specs.Theorems.{OwesAtMost, OwesSteps, StandsThen, Obeys, RunsObey, ClearedByWrite, ObeysInRun, BoundIsMet}
use Rattle.sums.specs.Theorems.{OneRecordEach, SessionAdds}
use Rattle.chain.specs.Theorems.{ChainTheorem, ChainAtEveryStep, ChainRecords, BudgetExists, RunsTwice, SoundRuns, ChainOfRun, ChainOfRunAtEveryStep, EachFound, KnownRun1, ChainOfThree}
use Rattle.chain.specs.Theorems.{InEachMode, InEachModeAtEveryStep, CopiesWhatWasHeld, SendsTheseBeats, BudgetExistsIn, OfRunInEachMode, OfRunInEachModeAtEveryStep, EachFoundIn}
use Rattle.chain.specs.Theorems.{ChainOfCopies, ChainOfPackets}
use Rattle.sgdma.specs.Calls.{CreatedUnique, RegisterReadUnique, RegisterWrittenUnique, LineReadUnique, RunMadeUnique, DescriptorBuiltUnique}
use Rattle.sgdma.specs.Calls.{DescriptorReadUnique, RecordFoundUnique}
use Rattle.chain_calls.specs.Theorems.{CreateInOrder, ReadInOrder, WriteInOrder, LineInOrder, RunInOrder, BuildInOrder, DescriptorInOrder, CreateUnchanged}
use Rattle.chain_calls.specs.Theorems.{ReadUnchanged, WriteUnchanged, LineUnchanged, RunUnchanged, BuildUnchanged, DescriptorUnchanged, ImagesLoad}
use Rattle.chain_calls.specs.Theorems.{NoneRefused, ChainOfCalls, ChainOfCallsAtEveryStep, KnownRun1InC, HonestKeeps, RefuserFails, FixedFails}
use Rattle.chain_calls.specs.Theorems.{NeverMovingFails, MarkerFails, MadeUpFails, UnrecordedFails, TwoRunsAdd, OneRecordEachInC, SessionAddsInC, EachFoundInC, ObeysInC}
use Rattle.chain_calls.specs.Theorems.{NoneRefusedInEachMode, OfCallsInEachMode, OfCallsInEachModeAtEveryStep, EachFoundInEachMode, CopiesInC, PacketsInC}
use Rattle.chain_calls.specs.Theorems.{CopiesWhatWasHeldInC, SendsTheseBeatsInC}
use Rattle.chain_calls.specs.Theorems.{VicCreateInOrder, VicPortInOrder, VicChooseInOrder, VicUnchanged}
use Rattle.chain_calls.specs.Theorems.{MoveInOrder, MoveUnchanged, TimerInOrder, TimerUnchanged}
use Rattle.chain_calls.specs.Theorems.{FindInOrder, FindUnchanged}
use Rattle.chain_calls.specs.Theorems.{CheckInOrder, CheckUnchanged, CheckedRuns, MendInOrder, MendUnchanged}
use Rattle.links.specs.Theorems.{SoundExactly, OneForm, MisalignedExactly, OutsideExactly, OverlapsExactly, VerdictMeans, ApartAtMost, SoundAtMost, StopsAtMost, ReadAtMost, NoOtherByte, MoreTellTheSame, VerdictsHold}
use Rattle.links.specs.Theorems.{NothingExactly, SoundUntouched, OneBitDiffers, FrontKept, MendOnce, MendsHold}
use Rattle.links.specs.Calls.{ChainMendedUnique}
use Rattle.timer.specs.Calls.{TimerRanUnique}
use Rattle.timer.specs.Theorems.{TicksAdd, ZerosWithin, TicksSetTO, ReachesEveryPeriod, OneShot, ElapsedIsTicks, TimerSavesLoaded, TimerMetSaves, TimersLoad}
use Rattle.timer.specs.Theorems.{TimerFieldTold, TimerCasesHold}
use Rattle.vic.specs.Theorems.{ChosenIs, ChosenOne, NothingChosen, TooLargeExactly, ToldWhole, Configures, Drives, Triggers, Enables, VicFieldTold, Stays, Starts, CasesHold}

-- ======== demand 1: every call gets a defined answer, and one that is refused changes nothing

-- ---- defined answers: of each C call the promise leaves nothing open

-- No second outcome of sgdma_create keeps its promise.
pub created-unique : CreatedUnique
created-unique = Rattle.sgdma.specs.Calls.created-unique

-- No second outcome of sgdma_read_register keeps its promise.
pub register-read-unique : RegisterReadUnique
register-read-unique = Rattle.sgdma.specs.Calls.register-read-unique

-- No second outcome of sgdma_write_register keeps its promise.
pub register-written-unique : RegisterWrittenUnique
register-written-unique = Rattle.sgdma.specs.Calls.register-written-unique

-- No second outcome of sgdma_line keeps its promise.
pub line-read-unique : LineReadUnique
line-read-unique = Rattle.sgdma.specs.Calls.line-read-unique

-- No second outcome of sgdma_run keeps its promise.
pub run-made-unique : RunMadeUnique
run-made-unique = Rattle.sgdma.specs.Calls.run-made-unique

-- No second outcome of sgdma_build_descriptor keeps its promise.
pub descriptor-built-unique : DescriptorBuiltUnique
descriptor-built-unique = Rattle.sgdma.specs.Calls.descriptor-built-unique

-- No second outcome of sgdma_read_descriptor keeps its promise.
pub descriptor-read-unique : DescriptorReadUnique
descriptor-read-unique = Rattle.sgdma.specs.Calls.descriptor-read-unique

-- No second outcome of sgdma_find_record keeps its promise.
pub record-found-unique : RecordFoundUnique
record-found-unique = Rattle.sgdma.specs.Calls.record-found-unique

-- No second outcome of sgdma_timer_run keeps its promise.
pub timer-ran-unique : TimerRanUnique
timer-ran-unique = Rattle.timer.specs.Calls.timer-ran-unique

-- No second outcome of sgdma_mend_chain keeps its promise.
pub chain-mended-unique : ChainMendedUnique
chain-mended-unique = Rattle.links.specs.Calls.chain-mended-unique

-- No second outcome of another call on a timer keeps its promise, nor one of a call on a controller, nor one of sgdma_move_image, nor one of
-- sgdma_check_chain: these promises are of one form.
pub answers-unique : AnswersUnique
answers-unique = Rattle.words.specs.Promise.answers-unique

-- ---- "First that applies": 0, or the first number in the paper's one order of the refusals that apply

-- sgdma_create gives back the first that applies.
pub create-in-order : CreateInOrder
create-in-order = Rattle.chain_calls.proofs.Refused.create-in-order

-- sgdma_read_register gives back the first that applies.
pub read-in-order : ReadInOrder
read-in-order = Rattle.chain_calls.proofs.Refused.read-in-order

-- sgdma_write_register gives back the first that applies.
pub write-in-order : WriteInOrder
write-in-order = Rattle.chain_calls.proofs.Refused.write-in-order

-- sgdma_line gives back the first that applies.
pub line-in-order : LineInOrder
line-in-order = Rattle.chain_calls.proofs.Refused.line-in-order

-- sgdma_run gives back the first that applies.
pub run-in-order : RunInOrder
run-in-order = Rattle.chain_calls.proofs.Refused.run-in-order

-- sgdma_build_descriptor gives back the first that applies.
pub build-in-order : BuildInOrder
build-in-order = Rattle.chain_calls.proofs.Refused.build-in-order

-- sgdma_read_descriptor gives back the first that applies.
pub descriptor-in-order : DescriptorInOrder
descriptor-in-order = Rattle.chain_calls.proofs.Refused.descriptor-in-order

-- sgdma_find_record gives back the first that applies.
pub find-in-order : FindInOrder
find-in-order = Rattle.chain_calls.proofs.Refused.find-in-order

-- sgdma_move_image gives back the first that applies.
pub move-in-order : MoveInOrder
move-in-order = Rattle.chain_calls.proofs.OfMoves.move-in-order

-- sgdma_check_chain gives back the first that applies.
pub check-in-order : CheckInOrder
check-in-order = Rattle.chain_calls.proofs.OfChains.check-in-order

-- sgdma_mend_chain gives back the first that applies.
pub mend-in-order : MendInOrder
mend-in-order = Rattle.chain_calls.proofs.OfChains.mend-in-order

-- sgdma_timer_create, sgdma_timer_read, sgdma_timer_write, sgdma_timer_line, sgdma_timer_run and sgdma_timer_elapsed give back the first
-- that applies.
pub timer-in-order : TimerInOrder
timer-in-order = Rattle.chain_calls.proofs.OfTimer.timer-in-order

-- sgdma_vic_create gives back the first that applies.
pub vic-create-in-order : VicCreateInOrder
vic-create-in-order = Rattle.chain_calls.proofs.OfVic.vic-create-in-order

-- So do sgdma_vic_configure, sgdma_vic_enable, sgdma_vic_trigger and sgdma_vic_line.
pub vic-port-in-order : VicPortInOrder
vic-port-in-order = Rattle.chain_calls.proofs.OfVic.vic-port-in-order

-- So does sgdma_vic_choose.
pub vic-choose-in-order : VicChooseInOrder
vic-choose-in-order = Rattle.chain_calls.proofs.OfVic.vic-choose-in-order

-- ---- "A refused call returns its number and nothing else": what a call may write is left as it was lent

-- sgdma_create, refused, leaves the image.
pub create-unchanged : CreateUnchanged
create-unchanged = Rattle.chain_calls.proofs.Unchanged.create-unchanged

-- sgdma_read_register, refused, leaves the value.
pub read-unchanged : ReadUnchanged
read-unchanged = Rattle.chain_calls.proofs.Unchanged.read-unchanged

-- sgdma_write_register, refused, leaves the image.
pub write-unchanged : WriteUnchanged
write-unchanged = Rattle.chain_calls.proofs.Unchanged.write-unchanged

-- sgdma_line, refused, leaves the value.
pub line-unchanged : LineUnchanged
line-unchanged = Rattle.chain_calls.proofs.Unchanged.line-unchanged

-- sgdma_run, refused, leaves image, window, output, ledger and report.
pub run-unchanged : RunUnchanged
run-unchanged = Rattle.chain_calls.proofs.Unchanged.run-unchanged

-- sgdma_build_descriptor, refused, leaves the window.
pub build-unchanged : BuildUnchanged
build-unchanged = Rattle.chain_calls.proofs.Unchanged.build-unchanged

-- sgdma_read_descriptor, refused, leaves the answer.
pub descriptor-unchanged : DescriptorUnchanged
descriptor-unchanged = Rattle.chain_calls.proofs.Unchanged.descriptor-unchanged

-- sgdma_find_record, refused, leaves the answer.
pub find-unchanged : FindUnchanged
find-unchanged = Rattle.chain_calls.proofs.Unchanged.find-unchanged

-- sgdma_move_image, refused, leaves the bytes that the image was to be moved to.
pub move-unchanged : MoveUnchanged
move-unchanged = Rattle.chain_calls.proofs.OfMoves.move-unchanged

-- sgdma_check_chain, refused, leaves the answer.
pub check-unchanged : CheckUnchanged
check-unchanged = Rattle.chain_calls.proofs.OfChains.check-unchanged

-- sgdma_mend_chain, refused, leaves the window and the answer.
pub mend-unchanged : MendUnchanged
mend-unchanged = Rattle.chain_calls.proofs.OfChains.mend-unchanged

-- A call on a timer, refused, leaves the timer and the value.
pub timer-unchanged : TimerUnchanged
timer-unchanged = Rattle.chain_calls.proofs.OfTimer.timer-unchanged

-- A call on a controller, refused, leaves the controller, and sgdma_vic_choose the answer.
pub vic-unchanged : VicUnchanged
vic-unchanged = Rattle.chain_calls.proofs.OfVic.vic-unchanged

-- ======== demand 2: registers, descriptors, bytes, status and interrupts, step for step

-- ---- runs

-- A run of a + b is a run of a followed by one of b.
pub run-add : RunAdd
run-add = Rattle.machine.proofs.RunLaws.run-add

-- A run tells its steps, its reason, its beats and its records as the step rule makes them, and stays within the budget.
pub run-tells : RunTells
run-tells = Rattle.machine.proofs.RunLaws.run-tells

-- Budget is given only if another step was possible.
pub budget-only : BudgetOnly
budget-only = Rattle.machine.proofs.RunLaws.budget-only

-- Two runs through sgdma_run, with budgets a and b, do what one of a + b does.
pub two-runs-add : TwoRunsAdd
two-runs-add = Rattle.chain_calls.proofs.TwoRuns.two-runs-add

-- A machine that keeps the rules is resumed as it is run.
pub resumed-runs : ResumedRuns
resumed-runs = Rattle.machine.proofs.Outcomes.resumed-runs

-- ---- steps

-- A step leaves mode and window, takes beats from the front, and makes beats and records at the end, within the room.
pub step-passed : StepPassed
step-passed = Rattle.machine.proofs.StepLaws.step-passed

-- A step leaves every byte of memory but those that it names.
pub step-spares : StepSpares
step-spares = Rattle.machine.proofs.StepLaws.step-spares

-- Bytes moved at once are as many steps: one law over the modes.
pub row-steps : RowSteps
row-steps = Rattle.machine.proofs.InRows.row-steps

-- The row of mode 0.
pub copy-steps : CopySteps
copy-steps = Rattle.machine.proofs.InRows.copy-steps

-- The row of mode 1.
pub send-steps : SendSteps
send-steps = Rattle.machine.proofs.InRows.send-steps

-- The row of mode 2.
pub receive-steps : ReceiveSteps
receive-steps = Rattle.machine.proofs.InRows.receive-steps

-- The place found is the address less the base, and place + n is within the window's length.
pub located-is : LocatedIs
located-is = Rattle.bus.proofs.Limits.located-is

-- ---- faults

-- No step is taken in Faulted: a run of any budget ends at once, with that reason.
pub faulted-stands : FaultedStands
faulted-stands = Rattle.met.proofs.Faults.faulted-stands

-- Only reset leaves Faulted: every other register write keeps it.
pub only-reset-leaves : OnlyResetLeaves
only-reset-leaves = Rattle.met.proofs.Faults.only-reset-leaves

-- ---- descriptors are read in a Fetch, their own or the one before; the run number; and control bits 3 to 6 have no effect

-- Memory is read as a descriptor only in a Fetch: what it goes by, where nothing was read ahead, and the next one.
pub read-in-fetch-alone : ReadInFetchAlone
read-in-fetch-alone = Rattle.met.proofs.Reading.read-in-fetch-alone

-- What a Fetch uses is what memory held when the one just before it was fetched.
pub used-as-read : UsedAsRead
used-as-read = Rattle.met.proofs.Reading.used-as-read

-- The slot outlives every register write but a pointer write, as the phase leaves it.
pub slot-outlives : SlotOutlives
slot-outlives = Rattle.met.proofs.RunNumber.slot-outlives

-- The run number rises by 1 whenever RUN goes 0 to 1, and no other register write changes it.
pub run-number-rises : RunNumberRises
run-number-rises = Rattle.met.proofs.RunNumber.run-number-rises

-- Nor does a run.
pub run-number-stays : RunNumberStays
run-number-stays = Rattle.met.proofs.RunNumber.run-number-stays

-- In Fetch the descriptor is kept, or not, as under another control with the same use.
pub no-effect-in-fetch : NoEffectInFetch
no-effect-in-fetch = Rattle.met.proofs.Unused.no-effect-in-fetch

-- In Move the step is the same, but for the control that is kept.
pub no-effect-in-move : NoEffectInMove
no-effect-in-move = Rattle.met.proofs.Unused.no-effect-in-move

-- In WriteBack it is the same, but for the control that is written.
pub no-effect-in-write-back : NoEffectInWriteBack
no-effect-in-write-back = Rattle.met.proofs.Unused.no-effect-in-write-back

-- Bits 3 to 6 are written back as given.
pub kept-as-given : KeptAsGiven
kept-as-given = Rattle.met.proofs.Unused.kept-as-given

-- ---- images

-- An image is read as fields exactly when it has 85 bytes, the fields keep the rules and it is their image.
pub read-exactly : ReadExactly
read-exactly = Rattle.image.proofs.Answers.read-exactly

-- The image of edition 1 is the front of that of edition 2.
pub edition-front : EditionFront
edition-front = Rattle.image.proofs.RoundTrip.edition-front

-- Bytes load as m exactly when m keeps the rules and they are its image.
pub loads-exactly : LoadsExactly
loads-exactly = Rattle.met.proofs.RoundTrip.loads-exactly

-- Order 1: the field told breaks its rule, and every field before it keeps its own.
pub field_told : FieldTold
field_told = Rattle.image.proofs.EachRule.field_told

-- Order 1: a machine that breaks a rule is refused with the same field as its image is, where its numbers fit their widths.
pub same-field : SameField
same-field = Rattle.met.proofs.RoundTrip.same-field

-- A loaded image saved again gives the same bytes.
pub saved-again : SavedAgain
saved-again = Rattle.met.proofs.RoundTrip.saved-again

-- A machine that keeps the rules saves to an image that loads back as it.
pub loads-back : LoadsBack
loads-back = Rattle.met.proofs.RoundTrip.loads-back

-- Every register write takes a machine that keeps the rules to one that keeps them.
pub write_keeps : WriteKeeps
write_keeps = Rattle.met.proofs.Writes.write_keeps

-- So does every step.
pub step_keeps : StepKeeps
step_keeps = Rattle.met.proofs.Steps.step_keeps

-- So does every run.
pub run-keeps : RunKeeps
run-keeps = Rattle.met.proofs.Steps.run-keeps

-- Every machine met in use keeps the rules.
pub met-keeps : MetKeeps
met-keeps = Rattle.met.proofs.InUse.met-keeps

-- Every machine met in use saves to an image that loads back as it.
pub met-saves : MetSaves
met-saves = Rattle.met.proofs.InUse.met-saves

-- Every image that the C calls leave, from one created or one that loads, loads back, so that 8 never applies to it.
pub images-load : ImagesLoad
images-load = Rattle.chain_calls.proofs.Images.images-load

-- ---- images of another edition

-- Order 5: forward then back gives the old bytes exactly, for every image of edition 1 that keeps its rules.
pub forward-then-back : ForwardThenBack
forward-then-back = Rattle.image.proofs.Editions.forward-then-back

-- Order 5: back then forward gives the machine with run number 0.
pub back-then-forward : BackThenForward
back-then-forward = Rattle.met.proofs.Editions.back-then-forward

-- Order 5: a machine moved forward is that of its old fields, with an empty slot and run number 0.
pub moved-forward : MovedForward
moved-forward = Rattle.met.proofs.Editions.moved-forward

-- Order 5: a move back is allowed exactly when the slot is empty.
pub back-exactly : BackExactly
back-exactly = Rattle.met.proofs.Editions.back-exactly

-- Order 5: an image that keeps the rules of its edition is moved to that edition as it is.
pub moved-as-it-is : MovedAsItIs
moved-as-it-is = Rattle.image.proofs.Editions.moved-as-it-is

-- ---- descriptors as bytes

-- The bytes that the builder writes are 32.
pub length-job : LengthJob
length-job = Rattle.descriptor.proofs.Writing.length-job

-- Each named field stands at its offset.
pub by-offset : ByOffset
by-offset = Rattle.descriptor.proofs.Reading.by-offset

-- Read after build gives the same fields.
pub read-after-build : ReadAfterBuild
read-after-build = Rattle.descriptor.proofs.RoundTrip.read-after-build

-- Build after read gives the same bytes exactly when reserved, actual and status bytes were zero.
pub build-after-read : BuildAfterRead
build-after-read = Rattle.descriptor.proofs.RoundTrip.build-after-read

-- ---- numbers as bytes

-- Numbers of any widths, side by side, read at other widths and back are the same numbers.
pub recode-back : RecodeBack
recode-back = Rattle.words.proofs.Recode.recode-back

-- What a packer writes of fields that were put into it one after the other is the fields side by side.
pub fields-packed : FieldsPacked
fields-packed = Rattle.words.proofs.Packing.fields-packed

-- A row of numbers in bytes, in either order, comes back from its bytes.
pub row_back : RowBack
row_back = Rattle.words.proofs.Orders.row_back

-- The bytes of a row come back from its numbers.
pub row-there : RowThere
row-there = Rattle.words.proofs.Orders.row-there

-- ---- the definitions held against the paper

-- The eleven known runs of the paper.
pub known-runs-hold : KnownRunsHold
known-runs-hold = Rattle.known_runs.proofs.Claims.known-runs-hold

-- One hundred and forty-nine cases worked out by hand.
pub worked-cases-hold : WorkedCasesHold
worked-cases-hold = Rattle.known_runs.proofs.Claims.worked-cases-hold

-- Each image rule, broken alone, is refused with 8 at its field, and the repaired twin is read.
pub rows-hold : RowsHold
rows-hold = Rattle.image_rows.specs.Rows.rows-hold

-- One image byte by byte: the bytes that the fields are written as.
pub sample-written : SampleWritten
sample-written = Rattle.image_rows.specs.Rows.sample-written

-- And the fields that the bytes are read as.
pub sample-read : SampleRead
sample-read = Rattle.image_rows.specs.Rows.sample-read

-- Each worked move of an image gives its number and leaves its bytes.
pub moves-hold : MovesHold
moves-hold = Rattle.image_rows.specs.Moves.moves-hold

-- ======== demand 3: what one run makes of a chain of descriptors and of a stream

-- ---- of the definitions

-- "With budget enough it stops after exactly 2 steps plus, for each of the k, its bytes and 2 more": all that holds at the end.
pub chain-theorem : ChainTheorem
chain-theorem = Rattle.chain.proofs.Demand.chain-theorem

-- "After every step those of the k marked done are the first few of the chain, each with the count of bytes the stream gave it".
pub chain-at-every-step : ChainAtEveryStep
chain-at-every-step = Rattle.chain.proofs.Demand.chain-at-every-step

-- The records made are those of the k, in order.
pub chain-records : ChainRecords
chain-records = Rattle.chain.proofs.Demand.chain-records

-- A budget of 32 bits that is enough exists.
pub budget-exists : BudgetExists
budget-exists = Rattle.chain.proofs.Enough.budget-exists

-- Order 4: an unparked descriptor that links to itself runs twice before Ended.
pub runs-twice : RunsTwice
runs-twice = Rattle.chain.proofs.Twice.runs-twice

-- ---- of the calls in Rattle: fresh, two register writes, one run

-- With budget enough the run is done, with that outcome; the output is unchanged, and the ledger holds the records of the k.
pub chain-of-run : ChainOfRun
chain-of-run = Rattle.chain.proofs.OfRun.chain-of-run

-- With any budget those marked done are the first few.
pub chain-of-run-at-every-step : ChainOfRunAtEveryStep
chain-of-run-at-every-step = Rattle.chain.proofs.OfRun.chain-of-run-at-every-step

-- ---- of the C calls: sgdma_create, sgdma_write_register twice, sgdma_run

-- Every number that they give back is 0.
pub none-refused : NoneRefused
none-refused = Rattle.chain_calls.proofs.OfDemand.none-refused

-- With budget enough that outcome, and every byte of the report, the image, the output and the ledger after them.
pub chain-of-calls : ChainOfCalls
chain-of-calls = Rattle.chain_calls.proofs.OfDemand.chain-of-calls

-- With any budget those marked done are the first few, the image loads back, and a budget not enough is spent.
pub chain-of-calls-at-every-step : ChainOfCallsAtEveryStep
chain-of-calls-at-every-step = Rattle.chain_calls.proofs.OfDemand.chain-of-calls-at-every-step

-- ---- its premises can be met

-- Known run 1 meets them; in numbers.
pub known-run-1 : KnownRun1
known-run-1 = Rattle.chain.proofs.Instances.known-run-1

-- A chain of three meets them, with an EOP in the second and a fixed destination in the third; in numbers.
pub chain-of-three : ChainOfThree
chain-of-three = Rattle.chain.proofs.Instances.chain-of-three

-- Known run 1 through the C calls: the numbers, all 85 bytes of the image, the window's 256, the report's 18, the ledger's 12.
pub known-run-1-in-c : KnownRun1InC
known-run-1-in-c = Rattle.chain_calls.proofs.Instances.known-run-1-in-c

-- ======== order 10: the same in each of the three modes, demand 3 being the stream-to-memory case

-- ---- of the definitions

-- With budget enough: "the count formula is the same", and all that holds at the end; the beats and the records made are those of the k.
pub in-each-mode : InEachMode
in-each-mode = Rattle.chain.proofs.Theorem.in-each-mode

-- After every step those of the k marked done are the first few of the chain, each with its count.
pub in-each-mode-at-every-step : InEachModeAtEveryStep
in-each-mode-at-every-step = Rattle.chain.proofs.Theorem.in-each-mode-at-every-step

-- From memory to memory, where no source is ever a destination, each byte sent is the one that memory held before the run.
pub copies-what-was-held : CopiesWhatWasHeld
copies-what-was-held = Rattle.chain.proofs.Users.copies-what-was-held

-- From memory to stream: "exactly which beats come out", and memory is unchanged but for the descriptors' last four bytes.
pub sends-these-beats : SendsTheseBeats
sends-these-beats = Rattle.chain.proofs.Users.sends-these-beats

-- A budget of 32 bits that is enough exists.
pub budget-exists-in : BudgetExistsIn
budget-exists-in = Rattle.chain.proofs.Enough.budget-exists-in

-- ---- of the calls in Rattle

-- With budget enough the run is done, with that outcome; the beats stand in front of the output, and the ledger holds the records of the k.
pub of-run-in-each-mode : OfRunInEachMode
of-run-in-each-mode = Rattle.chain.proofs.OfRun.of-run-in-each-mode

-- With any budget those marked done are the first few.
pub of-run-in-each-mode-at-every-step : OfRunInEachModeAtEveryStep
of-run-in-each-mode-at-every-step = Rattle.chain.proofs.OfRun.of-run-in-each-mode-at-every-step

-- Each of the k is found in run 1, with its count.
pub each-found-in : EachFoundIn
each-found-in = Rattle.chain.proofs.Found.each-found-in

-- ---- of the C calls

-- Every number that they give back is 0.
pub none-refused-in-each-mode : NoneRefusedInEachMode
none-refused-in-each-mode = Rattle.chain_calls.proofs.InEachMode.none-refused-in-each-mode

-- With budget enough that outcome, and every byte of the report, the image, the output and the ledger after them.
pub of-calls-in-each-mode : OfCallsInEachMode
of-calls-in-each-mode = Rattle.chain_calls.proofs.InEachMode.of-calls-in-each-mode

-- With any budget those marked done are the first few, the image loads back, and a budget not enough is spent.
pub of-calls-in-each-mode-at-every-step : OfCallsInEachModeAtEveryStep
of-calls-in-each-mode-at-every-step = Rattle.chain_calls.proofs.InEachMode.of-calls-in-each-mode-at-every-step

-- From memory to memory, where no source is ever a destination: what memory held before the run.
pub copies-what-was-held-in-c : CopiesWhatWasHeldInC
copies-what-was-held-in-c = Rattle.chain_calls.proofs.InEachMode.copies-what-was-held-in-c

-- From memory to stream: the bytes of exactly these beats in the lent output, and the window but for the descriptors' last four bytes.
pub sends-these-beats-in-c : SendsTheseBeatsInC
sends-these-beats-in-c = Rattle.chain_calls.proofs.InEachMode.sends-these-beats-in-c

-- And sgdma_find_record finds each of the k in run 1, with its count.
pub each-found-in-each-mode : EachFoundInEachMode
each-found-in-each-mode = Rattle.chain_calls.proofs.Ledger.each-found-in-each-mode

-- ---- its premises can be met

-- From memory to memory: a copy onto itself, and a fixed source that the first has written; in numbers.
pub chain-of-copies : ChainOfCopies
chain-of-copies = Rattle.chain.proofs.InModes.chain-of-copies

-- From memory to stream: a packet of three beats, one of one, and two beats that begin and end none; in numbers.
pub chain-of-packets : ChainOfPackets
chain-of-packets = Rattle.chain.proofs.InModes.chain-of-packets

-- The chain of copies and the chain of packets through the C calls: the numbers, and every lent byte.
pub copies-in-c : CopiesInC
copies-in-c = Rattle.chain_calls.proofs.Instances.copies-in-c

pub packets-in-c : PacketsInC
packets-in-c = Rattle.chain_calls.proofs.Instances.packets-in-c

-- ======== the other requests on the core

-- ---- order 6: the dated ledger

-- A write-back and a record are one: the records that a run adds are those of its WriteBack steps, in order, each with the run number, the
-- address, and the count, errors and EOP that was written.
pub one-record-each : OneRecordEach
one-record-each = Rattle.sums.proofs.Marks.one-record-each

-- The same of sgdma_run.
pub one-record-each-in-c : OneRecordEachInC
one-record-each-in-c = Rattle.chain_calls.proofs.Ledger.one-record-each-in-c

-- From a fresh machine in mode 2 on, the bytes that the records tell, those in hand and those abandoned are the beats taken.
pub session-adds : SessionAdds
session-adds = Rattle.sums.proofs.Sessions.session-adds

-- The same of the C calls, by what their reports tell.
pub session-adds-in-c : SessionAddsInC
session-adds-in-c = Rattle.chain_calls.proofs.Ledger.session-adds-in-c

-- A descriptor is found, with a count, exactly where the last used record of it in that run has this count.
pub found-exactly : FoundExactly
found-exactly = Rattle.ledger.proofs.Tells.found-exactly

-- It is not found exactly where no used record is of it in that run.
pub not-found-exactly : NotFoundExactly
not-found-exactly = Rattle.ledger.proofs.Tells.not-found-exactly

-- After demand 3's run each of the k is found in run 1, with its count.
pub each-found : EachFound
each-found = Rattle.chain.proofs.Found.each-found

-- And sgdma_find_record says so.
pub each-found-in-c : EachFoundInC
each-found-in-c = Rattle.chain_calls.proofs.Ledger.each-found-in-c

-- Records that are put behind those used are read back behind them.
pub records-back : RecordsBack
records-back = Rattle.ledger.proofs.ReadBack.records-back

-- Of these, one behind which there is no other of its descriptor and run is found, with its count.
pub appended-found : AppendedFound
appended-found = Rattle.ledger.proofs.ReadBack.appended-found

-- ---- order 8: the chain checked before the bench starts

-- "Sound exactly when the chain has demand 3's form", for this k, and the address told is that of its end.
pub sound-exactly : SoundExactly
sound-exactly = Rattle.links.proofs.Meaning.sound-exactly

-- A chain has the form for one k at most, and so one end.
pub one_form : OneForm
one_form = Rattle.links.proofs.Meaning.one_form

-- A defect told is one: everything before it is as it should be, and the cause is the first of the three that applies there. Misaligned so,
pub misaligned-exactly : MisalignedExactly
misaligned-exactly = Rattle.links.proofs.Meaning.misaligned-exactly

-- outside so,
pub outside-exactly : OutsideExactly
outside-exactly = Rattle.links.proofs.Meaning.outside-exactly

-- and an overlap so.
pub overlaps-exactly : OverlapsExactly
overlaps-exactly = Rattle.links.proofs.Meaning.overlaps-exactly

-- Every chain gets one of these four verdicts, and it holds of the chain.
pub verdict-means : VerdictMeans
verdict-means = Rattle.links.proofs.Meaning.verdict-means

-- No more than 2,048 descriptors of 32 bytes are apart in 65,536 bytes.
pub apart-at-most : ApartAtMost
apart-at-most = Rattle.links.proofs.Pigeons.apart-at-most

-- So a sound chain has at most 2,047 owned descriptors and its end.
pub sound-at-most : SoundAtMost
sound-at-most = Rattle.links.proofs.Meaning.sound-at-most

-- A walk stops at position 2,048 at the latest.
pub stops-at-most : StopsAtMost
stops-at-most = Rattle.links.proofs.Meaning.stops-at-most

-- "At most 2,049 descriptors are read on one walk": 2,048, since a defect is known by its address and is not read.
pub read-at-most : ReadAtMost
read-at-most = Rattle.links.proofs.Meaning.read-at-most

-- "descriptors are read on one walk": a memory that has the 32 bytes of each of those at the same addresses gets the same verdict.
pub no-other-byte : NoOtherByte
no-other-byte = Rattle.links.proofs.Bytes.no-other-byte

-- A walk that may look at more than 2,049 tells the same.
pub more-tell-the-same : MoreTellTheSame
more-tell-the-same = Rattle.links.proofs.Meaning.more-tell-the-same

-- Twenty-eight verdicts worked out by hand.
pub verdicts-hold : VerdictsHold
verdicts-hold = Rattle.links.proofs.Cases.verdicts-hold

-- Where the check says sound, and all that demand 3 asks besides the form of the chain holds, the run does what demand 3 says, and ends there.
pub sound-runs : SoundRuns
sound-runs = Rattle.chain.proofs.Checked.sound-runs

-- So do the calls where sgdma_check_chain says sound.
pub checked-runs : CheckedRuns
checked-runs = Rattle.chain_calls.proofs.Checked.checked-runs

-- ---- order 13: a chain mended in a memory dump

-- "23 NothingToKeep when the defect is the first descriptor", and only then.
pub nothing-exactly : NothingExactly
nothing-exactly = Rattle.links.proofs.Mended.nothing-exactly

-- "a sound chain is untouched".
pub sound-untouched : SoundUntouched
sound-untouched = Rattle.links.proofs.Mended.sound-untouched

-- "Nothing else in the dump changes": of a chain that is cut one byte differs, and of it bit 7.
pub one-bit-differs : OneBitDiffers
one-bit-differs = Rattle.links.proofs.Mended.one-bit-differs

-- "the mended chain is sound", with k the position of the defect less 1, and its descriptors are those of the old chain.
pub front_kept : FrontKept
front_kept = Rattle.links.proofs.Mended.front_kept

-- Mending twice is mending once.
pub mend-once : MendOnce
mend-once = Rattle.links.proofs.Mended.mend-once

-- Thirteen chains mended by hand.
pub mends-hold : MendsHold
mends-hold = Rattle.links.proofs.Cases.mends-hold

-- ---- order 9: how long until it obeys

-- A machine that keeps the rules owes no more than 65,536 steps: 1 in Fetch, L - moved + 1 in Move, 1 in WriteBack, none elsewhere.
pub owes-at-most : OwesAtMost
owes-at-most = Rattle.met.proofs.Obeys.owes-at-most

-- With RUN clear a run takes no more steps than are owed, and then owes that much less.
pub owes-steps : OwesSteps
owes-steps = Rattle.met.proofs.Obeys.owes-steps

-- With as much budget it stops at Rest or at a fault, or for want of a beat, of room or of a record.
pub stands-then : StandsThen
stands-then = Rattle.met.proofs.Obeys.stands-then

-- With what it needs it stops at Rest or at a fault, with BUSY 0.
pub obeys : Obeys
obeys = Rattle.met.proofs.Obeys.obeys

-- Without, it goes on where it stopped: the steps of all the runs together are no more than were owed.
pub runs-obey : RunsObey
runs-obey = Rattle.met.proofs.Obeys.runs-obey

-- A write of control with RUN clear leaves RUN clear.
pub cleared-by-write : ClearedByWrite
cleared-by-write = Rattle.met.proofs.Obeys.cleared-by-write

-- From any machine met in use: after that write one run with what it needs stops at Rest, with BUSY 0, or at a fault, in at most 65,536 steps.
pub obeys-in-run : ObeysInRun
obeys-in-run = Rattle.met.proofs.Obeys.obeys-in-run

-- The same of the C calls.
pub obeys-in-c : ObeysInC
obeys-in-c = Rattle.chain_calls.proofs.Obeys.obeys-in-c

-- The bound is met.
pub bound-is-met : BoundIsMet
bound-is-met = Rattle.met.proofs.Obeys.bound-is-met

-- ======== what the promises owe: the useless models, of sgdma_run

-- The promise can be kept: one model keeps it.
pub honest-keeps : HonestKeeps
honest-keeps = Rattle.chain_calls.proofs.NoneUseless.honest-keeps

-- "The one that refuses everything" does not.
pub refuser-fails : RefuserFails
refuser-fails = Rattle.chain_calls.proofs.NoneUseless.refuser-fails

-- "The one with one fixed answer" does not.
pub fixed-fails : FixedFails
fixed-fails = Rattle.chain_calls.proofs.NoneUseless.fixed-fails

-- "The one that never moves" does not.
pub never-moving-fails : NeverMovingFails
never-moving-fails = Rattle.chain_calls.proofs.NoneUseless.never-moving-fails

-- "The one that does the first descriptor honestly and only marks the others" does not.
pub marker-fails : MarkerFails
marker-fails = Rattle.chain_calls.proofs.NoneUseless.marker-fails

-- One with "a made-up step count" does not.
pub made-up-fails : MadeUpFails
made-up-fails = Rattle.chain_calls.proofs.NoneUseless.made-up-fails

-- The one that marks a descriptor done and writes no record does not.
pub unrecorded-fails : UnrecordedFails
unrecorded-fails = Rattle.chain_calls.proofs.NoneUseless.unrecorded-fails

-- ======== order 2: the interval timer

-- ---- ticks

-- "Show that a running continuous timer with stored period value P, not written to, reaches zero every P + 1 ticks and sets TO each time":
-- first after its counter's ticks, or after P + 1 where the counter stands at 0; P = 0 included.
pub reaches-every-period : ReachesEveryPeriod
reaches-every-period = Rattle.timer.proofs.Periods.reaches-every-period

-- A tick that reaches zero sets TO, whatever TO was; another leaves it.
pub ticks-set-to : TicksSetTO
ticks-set-to = Rattle.timer.proofs.Periods.ticks-set-to

-- A running one-shot timer, not written to, is at 0 after its counter's ticks, and on the next tick it is loaded again and stands. Where the
-- counter was above 0, zero is reached then, TO is set and, the period being above 0, that is the only time; where both are 0, the load is.
pub one-shot : OneShot
one-shot = Rattle.timer.proofs.Periods.one-shot

-- Ticks made in two goes are the ticks of both.
pub ticks-add : TicksAdd
ticks-add = Rattle.timer.proofs.Periods.ticks-add

-- No more than n of n ticks reach zero: so the value of a run tells their number whole.
pub zeros_within : ZerosWithin
zeros_within = Rattle.timer.proofs.Periods.zeros_within

-- "Time between two snapshots of a full-period timer": n ticks apart, and written to in no other way, it is n modulo 2^32.
pub elapsed-is-ticks : ElapsedIsTicks
elapsed-is-ticks = Rattle.timer.proofs.Periods.elapsed-is-ticks

-- ---- timers in use

-- A loaded timer saves to the same bytes, and is not refused.
pub timer-saves-loaded : TimerSavesLoaded
timer-saves-loaded = Rattle.timer.proofs.InBytes.timer-saves-loaded

-- Every timer met in use saves to bytes that load, as it.
pub timer-met-saves : TimerMetSaves
timer-met-saves = Rattle.timer.proofs.InUses.timer-met-saves

-- All bytes that are reached by the calls are those of a timer met in use, and load back as it.
pub timers-load : TimersLoad
timers-load = Rattle.timer.proofs.InUses.timers-load

-- The field told breaks its rule, and every field before it keeps its own.
pub timer-field-told : TimerFieldTold
timer-field-told = Rattle.timer.proofs.InBytes.timer-field-told

-- ---- the definitions held against the request and the chapter

-- Thirty-seven worked cases.
pub timer-cases-hold : TimerCasesHold
timer-cases-hold = Rattle.timer.proofs.Cases.timer-cases-hold

-- ======== order 12: the interrupt controller

-- ---- "Prove the choice is that port and no other"

-- The port told is pending with a level above 0, none pending has a larger level, and none with the same level a lower index.
pub the-chosen : ChosenIs
the-chosen = Rattle.vic.proofs.Proved.the-chosen

-- No other port has all that.
pub only-chosen : ChosenOne
only-chosen = Rattle.vic.proofs.Proved.only-chosen

-- Nothing is told exactly when no port is pending with a level above 0.
pub nothing-chosen : NothingChosen
nothing-chosen = Rattle.vic.proofs.Proved.nothing-chosen

-- 22 exactly where port x bytes per vector + base, of the chosen port, is 2^32 or more.
pub too_large : TooLargeExactly
too_large = Rattle.vic.proofs.Proved.too_large

-- The numbers told are those of the chosen port, and none is cut.
pub told-whole : ToldWhole
told-whole = Rattle.vic.proofs.Proved.told-whole

-- ---- one port leaves the others as they were

-- Configuring a port changes its configuration, and nothing else.
pub configures : Configures
configures = Rattle.vic.proofs.Proved.configures

-- Driving the line of a port changes its line, and nothing else.
pub drives : Drives
drives = Rattle.vic.proofs.Proved.drives

-- Its software trigger changes that, and nothing else.
pub triggers : Triggers
triggers = Rattle.vic.proofs.Proved.triggers

-- Enabling it changes its enable, and nothing else.
pub enables : Enables
enables = Rattle.vic.proofs.Proved.enables

-- ---- controllers in use

-- The field of a controller that is told breaks its rule, and every field before it keeps its own.
pub vic-field-told : VicFieldTold
vic-field-told = Rattle.vic.proofs.Keeping.vic-field-told

-- A new controller keeps the rules.
pub starts : Starts
starts = Rattle.vic.proofs.Keeping.starts

-- So does what every call leaves of one that keeps them.
pub stays : Stays
stays = Rattle.vic.proofs.Keeping.stays

-- ---- the definitions held against the request

-- Nineteen worked cases.
pub cases-hold : CasesHold
cases-hold = Rattle.vic.proofs.Cases.cases-hold
