-- What is proved of the machines met in use: each theorem's whole statement, under its name. A term of each stands in proofs/.
-- Assumes nothing.
use Rattle.std.specs.Prelude.{ℕ, ◌+◌, ◌^◌, ◌≤◌, ◌<◌, ◌≡◌, true, false, not, cond, ◌&&◌, List, ◌↔◌, ◌≢◌, length, Result, Ok, Err, None}
use Rattle.words.specs.Bits.{bit}
use Rattle.words.specs.Numbers.{Fit}
use Rattle.words.specs.Slices.{AllBytes}
use Rattle.image.specs.Layout.{fields_in, values, widths, image, Typed}
use Rattle.image.specs.Editions.{broken_in, ImageMoved}
use Rattle.descriptor.specs.declared.Raw.{Raw}
use Rattle.bus.specs.declared.Refusal.{Refusal}
use Rattle.descriptor.specs.Looking.{named_in, look_at, WordsFit}
use Rattle.regs.specs.Control as control
use Rattle.regs.specs.Control.{raised}
use Rattle.machine.specs.declared.Core.{Core}
use Rattle.machine.specs.declared.Machine.{Machine}
use Rattle.machine.specs.State.{home, settled, Slot}
use Rattle.machine.specs.declared.Work.{Work}
use Rattle.machine.specs.declared.Fault.{Fault}
use Rattle.machine.specs.declared.Phase.TheVariants.{Fetch, Move, WriteBack, Faulted}
use Rattle.machine.specs.declared.Reason.TheVariants as reason
use Rattle.machine.specs.declared.Ran.{Ran}
use Rattle.machine.specs.Saved.{fields_of, core_of, tail_of, keeps, spoiled, load_of, WasLoaded, WasSaved}
use Rattle.machine.specs.Registers.{WasWritten}
use Rattle.machine.specs.Step.{World, home_bytes, taken, holding, seen, written_control, written_back, step}
use Rattle.machine.specs.Run.{run, Lent, Returned, world_of, HasRun}
use Rattle.met.specs.Sound.{Sound, SoundWorld}
use Rattle.met.specs.Met.{Met}
use Rattle.met.specs.Forward.{in_run_zero}
use Rattle.met.specs.Faults.{AfterWrite}
use Rattle.met.specs.Reading.{over, ReadsSame, Alike, ToFetch}
use Rattle.met.specs.Obeys.{longest, Cleared, owes, Supplied, Obeyed, Stands, RunsOn, ObeyedRun}
use Rattle.met.specs.Unused.{SameUse, descriptor_under, work_under, world_under, answer_under, answer_over, answer_holding, slot_after}

-- ---- images

-- A loaded image saved again gives the same bytes.
abbrev pub SavedAgain : Type 0
SavedAgain = (xs ys zs : List ℕ) (m : Machine) (r : Result Unit Refusal) → AllBytes xs → length ys ≡ 85
    → WasLoaded xs (Ok m) → WasSaved m ys r zs → (r ≡ (Ok tt)) × (zs ≡ xs)

-- A machine that keeps the rules saves to an image that loads back as it.
abbrev pub LoadsBack : Type 0
LoadsBack = (m : Machine) (ys zs : List ℕ) (r : Result Unit Refusal) (s : Result Machine Refusal) → Typed (fields_of m.core) (tail_of m) → keeps m ≡ true
    → length ys ≡ 85 → WasSaved m ys r zs → WasLoaded zs s → (r ≡ (Ok tt)) × (s ≡ Ok m)

-- Bytes load as m exactly when m keeps the rules and they are its image.
abbrev pub LoadsExactly : Type 0
LoadsExactly = (xs : List ℕ) (m : Machine) → AllBytes xs → Typed (fields_of m.core) (tail_of m)
    → WasLoaded xs (Ok m) ↔ ((keeps m ≡ true) × (xs ≡ image (fields_of m.core) (tail_of m)))

-- Order 1: a machine that breaks a rule is refused with the same field as its image is, where its numbers fit their widths, so that it
-- has one.
abbrev pub SameField : Type 0
SameField = (m : Machine) → Fit widths (values (fields_of m.core) (tail_of m)) → WordsFit (tail_of m).raw → keeps m ≡ false → load_of (image (fields_of m.core) (tail_of m)) ≡ Err (spoiled m)

-- Order 5: a machine moved forward is that of its old fields with an empty slot and run number 0, so that every register read, run and
-- line of it answers as that machine's.
abbrev pub MovedForward : Type 0
MovedForward = (xs to to' : List ℕ) (r : ℕ) → length xs ≡ 44 → broken_in xs ≡ 0 → length to ≡ 85 → ImageMoved xs to r to'
    → (r ≡ 0) × (load_of to' ≡ Ok (in_run_zero (core_of (fields_in 1 xs))))

-- Order 5: a move back is allowed exactly when the slot is empty.
abbrev pub BackExactly : Type 0
BackExactly = (xs to to' : List ℕ) (m : Machine) (r : ℕ) → load_of xs ≡ Ok m → length to ≡ 44 → ImageMoved xs to r to'
    → (r ≡ 0) ↔ (m.slot ≡ None)

-- Order 5: "back then forward gives the machine with run number 0". Its slot was empty.
abbrev pub BackThenForward : Type 0
BackThenForward = (xs to to' again again' : List ℕ) (m : Machine) (r s : ℕ) → load_of xs ≡ Ok m → m.slot ≡ None
    → length to ≡ 44 → length again ≡ 85 → ImageMoved xs to r to' → ImageMoved to' again s again'
    → (r ≡ 0) × (s ≡ 0) × (load_of again' ≡ Ok (in_run_zero m.core))

-- ---- the rules are kept

-- Every register write takes a machine that keeps the rules to one that keeps them.
abbrev pub WriteKeeps : Type 0
WriteKeeps = (m n : Machine) (offset v : ℕ) → Sound m → v < 2 ^ 32 → WasWritten m offset v (Ok n) → Sound n

-- So does every step.
abbrev pub StepKeeps : Type 0
StepKeeps = (w v : World) → SoundWorld w → step w ≡ taken v → SoundWorld v

-- So does every run.
abbrev pub RunKeeps : Type 0
RunKeeps = (budget : ℕ) (w : World) → SoundWorld w → SoundWorld (run budget w).world

-- Every machine met in use keeps the rules.
abbrev pub MetKeeps : Type 0
MetKeeps = (m : Machine) → Met m → keeps m ≡ true

-- Every machine met in use saves to an image that loads back as it.
abbrev pub MetSaves : Type 0
MetSaves = (m : Machine) (ys zs : List ℕ) (r : Result Unit Refusal) (s : Result Machine Refusal) → Met m → length ys ≡ 85
    → WasSaved m ys r zs → WasLoaded zs s → (r ≡ (Ok tt)) × (s ≡ Ok m)

-- ---- Faulted

-- No step is taken in Faulted: a run of any budget ends at once, with that reason.
abbrev pub FaultedStands : Type 0
FaultedStands = (w : World) (f : Fault) → w.core.phase ≡ Faulted f → (budget : ℕ)
    → run budget w ≡ record { reason = reason.Faulted; steps = 0; world = w }

-- Only reset leaves Faulted: every other register write keeps it.
abbrev pub OnlyResetLeaves : Type 0
OnlyResetLeaves = (m : Machine) (f : Fault) → m.core.phase ≡ Faulted f → (offset v : ℕ) (n : Machine)
    → WasWritten m offset v (Ok n) → AfterWrite m f offset v n

-- ---- descriptors

-- Memory is read as a descriptor only in a Fetch: in every other phase the window's bytes do not show in the machine, and in a Fetch no more
-- of them than what it goes by, where nothing was read ahead, and the next descriptor, which it reads ahead.
abbrev pub ReadInFetchAlone : Type 0
ReadInFetchAlone = (w : World) (memory : List ℕ) → (w.core.phase ≡ Fetch → ReadsSame w memory) → Alike (step w) (step (over memory w))

-- What a Fetch uses is what memory held when the one just before it was fetched.
abbrev pub UsedAsRead : Type 0
UsedAsRead = (w v u : World) (k : Work) → w.core.phase ≡ Fetch → step w ≡ taken v → v.core.phase ≡ Move k → ToFetch v u
    → seen u ≡ look_at (home w.core) (home_bytes w) u.core.pointer.0

-- The slot outlives every register write but a pointer write, as the phase leaves it; a reset goes to Rest.
abbrev pub SlotOutlives : Type 0
SlotOutlives = (m n : Machine) (offset v : ℕ) → WasWritten m offset v (Ok n) → offset ≢ 8 → n.slot ≡ settled n.core.phase m.slot

-- ---- the run number

-- It rises by 1 whenever RUN goes 0 to 1, stays at its largest value, and no other register write changes it.
abbrev pub RunNumberRises : Type 0
RunNumberRises = (m n : Machine) (offset v : ℕ) → WasWritten m offset v (Ok n)
    → n.run ≡ cond (not (control.run m.core.control) && control.run n.core.control) (raised m.run) m.run

-- Nor does a run.
abbrev pub RunNumberStays : Type 0
RunNumberStays = (budget : ℕ) (w : World) → (run budget w).world.run ≡ w.run

-- ---- descriptor control

-- Descriptor control bits 3 to 6 have no effect. In Fetch the step over bytes, and with a slot, of which the descriptor that it goes by has
-- another control with the same use is the same, but for that control, which is kept, and for what is read ahead.
abbrev pub NoEffectInFetch : Type 0
NoEffectInFetch = (c : ℕ) (memory : List ℕ) (slot : Slot) (w : World) (r s : Raw) → w.core.phase ≡ Fetch → seen w ≡ Ok r
    → seen (over memory (holding w slot)) ≡ Ok s → named_in s ≡ descriptor_under c (named_in r) → SameUse c (named_in r).control.0
    → step (over memory (holding w slot))
    ≡ answer_holding (slot_after (step (over memory (holding w slot)))) (answer_over memory (answer_under c (step w)))

-- In Move the step is the same, but for the control that is kept.
abbrev pub NoEffectInMove : Type 0
NoEffectInMove = (c : ℕ) (k : Work) → SameUse c k.control.0 → (w : World) → w.core.phase ≡ Move k
    → step (world_under c w) ≡ answer_under c (step w)

-- In WriteBack it is the same, but for the control that is written.
abbrev pub NoEffectInWriteBack : Type 0
NoEffectInWriteBack = (c : ℕ) (k : Work) (w : World) → w.core.phase ≡ WriteBack k
    → step (world_under c w) ≡ answer_over (written_back w (work_under c k)) (step w)

-- Descriptor control bits 3 to 6 are written back as given.
abbrev pub KeptAsGiven : Type 0
KeptAsGiven = (m : Core) (k : Work)
    → (bit 3 (written_control m k) ≡ bit 3 k.control.0)
    × (bit 4 (written_control m k) ≡ bit 4 k.control.0)
    × (bit 5 (written_control m k) ≡ bit 5 k.control.0)
    × (bit 6 (written_control m k) ≡ bit 6 k.control.0)

-- ---- order 9: how long until it obeys

-- A machine that keeps the rules owes no more than 65,536 steps.
abbrev pub OwesAtMost : Type 0
OwesAtMost = (m : Machine) → Sound m → owes m.core ≤ 65536

-- With RUN clear a run of any budget, whatever is lent, takes no more steps than the phase owes, and what it still owes then is that much less.
-- RUN stays clear.
abbrev pub OwesSteps : Type 0
OwesSteps = (budget : ℕ) (w : World) → SoundWorld w → Cleared w.core
    → ((run budget w).steps + owes (run budget w).world.core ≤ owes w.core) × Cleared (run budget w).world.core

-- With as much budget as it owes the run stops at Rest or at a fault, or for want of a beat, of room or of a record.
abbrev pub StandsThen : Type 0
StandsThen = (budget : ℕ) (w : World) → SoundWorld w → Cleared w.core → owes w.core ≤ budget
    → Stands (run budget w).world (run budget w).reason (run budget w).world.core.phase

-- With beats, room and a record as needed it stops at Rest or at a fault, with BUSY 0.
abbrev pub Obeys : Type 0
Obeys = (budget : ℕ) (w : World) → SoundWorld w → Cleared w.core → Supplied w → owes w.core ≤ budget
    → Obeyed (run budget w).reason (run budget w).world.core.phase × ((run budget w).world.core.status.busy ≡ false)

-- Without them it goes on where it stopped: the steps of all the runs together are no more than it owed at first.
abbrev pub RunsObey : Type 0
RunsObey = (m n : Machine) (t : ℕ) → Met m → Cleared m.core → RunsOn m n t → t + owes n.core ≤ owes m.core

-- A write of control with RUN clear leaves RUN clear.
abbrev pub ClearedByWrite : Type 0
ClearedByWrite = (m n : Machine) (v : ℕ) → control.run (control.as_control v) ≡ false → WasWritten m 4 v (Ok n) → Cleared n.core

-- From any machine met in use: once control is written with RUN clear, one run with beats, room and a record as needed and a budget of 65,536
-- stops at Rest, with BUSY 0, or at a fault, after no more than 65,536 steps.
abbrev pub ObeysInRun : Type 0
ObeysInRun = (m n : Machine) (v : ℕ) (l : Lent) (budget : ℕ) (r : Ran) (b : Returned) → Met m → v < 2 ^ 32
    → control.run (control.as_control v) ≡ false → WasWritten m 4 v (Ok n) → AllBytes l.window → AllBytes l.beats
    → Supplied (world_of n l) → 65536 ≤ budget → HasRun n l budget (Ok r) b → ObeyedRun r

-- The bound is met: a core with RUN clear that takes 65,536 steps before it rests.
abbrev pub BoundIsMet : Type 0
BoundIsMet = Cleared longest.core × ((run 65536 longest).steps ≡ 65536) × ((run 65536 longest).reason ≡ reason.Rest)
