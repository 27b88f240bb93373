-- The chain theorem of the C calls, by what they promise: an image is created in lent bytes, two registers are written in it, and one run
-- is made over it. What the caller lends, the calls, what is found after them. The theorems are `none-refused-in-each-mode`,
-- `of-calls-in-each-mode` and `of-calls-in-each-mode-at-every-step`, and of demand 3 `none-refused`, `chain-of-calls` and
-- `chain-of-calls-at-every-step`.
-- Assumes nothing.
use Rattle.std.specs.Prelude.{ℕ, ◌+◌, ◌^◌, ◌<◌, ◌≡◌, true, List, [], ◌∷◌, length, take, Ok}
use Rattle.words.specs.declared.Order.TheVariants.{MostFirst}
use Rattle.words.specs.Orders.{row_bytes}
use Rattle.words.specs.Slices.{AllBytes}
use Rattle.regs.specs.declared.Mode.{Mode}
use Rattle.regs.specs.declared.Mode.TheVariants.{StreamToMemory}
use Rattle.regs.specs.Modes.{mode_number}
use Rattle.ledger.specs.Records.{is_ledger}
use Rattle.bus.specs.declared.Window.{Window}
use Rattle.bus.specs.Window.{keeps_limits}
use Rattle.machine.specs.declared.Ran.{Ran}
use Rattle.machine.specs.Saved.{load_of}
use Rattle.machine.specs.Step.{World, machine_in}
use Rattle.machine.specs.Run.{run, Lent, Returned, even, ran_as}
use Rattle.chain.specs.Chain.{Given, world_in, world_for, links, Share, shares, records_of, cost, given, FirstFew, SameElsewhere, Outcome}
use Rattle.chain.specs.Modes.{shares_in, made_by_all, OutcomeOf, beats_by}
use Rattle.chain.specs.Calls.{given_by, in_front, behind}
use Rattle.answers.specs.Answers.{report_widths, report_bytes}
use Rattle.sgdma.specs.Calls.{image_of, Created, RegisterWritten, RunMade}

-- ---- one call of sgdma_run

-- what it is lent: the image, what the machine's run is lent, and the report; and the budget
pub record RunLent : Type 0 where
  pub image : List ℕ
  pub lent : Lent
  pub budget : ℕ
  pub report : List ℕ

-- the number that it gives back, and what is left in the lent bytes
pub record RunLeft : Type 0 where
  pub number : ℕ
  pub image : List ℕ
  pub back : Returned
  pub report : List ℕ

-- what it promises of them
abbrev pub Promised : RunLent → RunLeft → Type 0
Promised x y = RunMade x.image x.lent x.budget x.report y.number y.image y.back y.report

-- ---- what the caller lends

-- bytes for the image; the window, what is written to pointer and control; and what the run is lent
pub record Lends : Type 0 where
  pub image : List ℕ
  pub window : Window
  pub pointer : ℕ
  pub control : ℕ
  pub lent : Lent
  pub budget : ℕ
  pub report : List ℕ

-- lent as it should be, whatever the bytes for the image hold
pub record WellLent (l : Lends) : Type 0 where
  -- the sizes that the header asks for: 85 bytes for the image, 18 for the report, whole beats in and out, whole records
  pub image_size : length l.image ≡ 85
  pub report_size : length l.report ≡ 18
  pub even_beats : even l.lent.beats ≡ true
  pub even_out : even l.lent.out ≡ true
  pub is_ledger : is_ledger (length l.lent.ledger) l.lent.used ≡ true
  -- a window within the limits
  pub limits : keeps_limits l.window.base l.window.length ≡ true
  -- as the types in C have it: beats are bytes, a register is 32 bits
  pub beat_bytes : AllBytes l.lent.beats
  pub pointer_bits : l.pointer < 2 ^ 32
  pub control_bits : l.control < 2 ^ 32

-- what the chain theorem is told of it, for a chain of k
abbrev pub given_in : Lends → (k : ℕ) → Given
given_in l k = given_by l.window l.pointer l.control k l.lent

-- what the run is lent of it, with this image
abbrev pub run_lent : Lends → (image : List ℕ) → RunLent
run_lent l image = record { image = image; lent = l.lent; budget = l.budget; report = l.report }

-- ---- the calls

-- sgdma_create in a mode, sgdma_write_register at 8, next_descriptor_pointer, and at 4, control, and sgdma_run: each with the
-- number that it gave back, over the image that the one before it left
pub record CalledIn (mode : Mode) (l : Lends) (created pointed started : ℕ) (left : RunLeft) : Type 0 where
  pub x1 : List ℕ
  pub x2 : List ℕ
  pub x3 : List ℕ
  pub create : Created l.image (mode_number mode) l.window.base l.window.length created x1
  pub point : RegisterWritten x1 8 l.pointer pointed x2
  pub start : RegisterWritten x2 4 l.control started x3
  pub run : Promised (run_lent l x3) left

-- demand 3: in mode 2
abbrev pub Called : Lends → (created pointed started : ℕ) → RunLeft → Type 0
Called = CalledIn StreamToMemory

-- ---- what is found after them

-- every call gives back 0
pub record AllDone (created pointed started : ℕ) (left : RunLeft) : Type 0 where
  pub create : created ≡ 0
  pub point : pointed ≡ 0
  pub start : started ≡ 0
  pub run : left.number ≡ 0

-- with budget enough
pub record FoundIn (mode : Mode) (g : Given) (l : Lends) (left : RunLeft) : Type 0 where
  -- what the run tells, and the outcome in the window's bytes
  pub told : Ran
  pub is_run : told ≡ ran_as l.lent.used (world_in mode g) (run l.budget (world_in mode g))
  pub outcome : OutcomeOf g (shares_in mode g) told left.back.window
  -- the report: reason 1, Ended; 2 steps and for each of the k its bytes and 2 more; the beats taken and made; k records more used
  pub report : left.report
      ≡ report_bytes 1 (2 + cost (shares_in mode g)) (given (shares_in mode g)) (length (made_by_all (shares_in mode g))) (g.used + g.k)
  -- the image is that of the machine after the run, and loads back as it
  pub image : left.image ≡ image_of told.machine
  pub loads : load_of left.image ≡ Ok told.machine
  -- the beats made stand in front of the lent output, and the rest of it is as it was
  pub output : left.back.out ≡ in_front (made_by_all (shares_in mode g)) l.lent.out
  -- the records of the k stand behind those used, and no other byte of the ledger differs
  pub ledger : left.back.ledger ≡ behind (records_of 1 (shares_in mode g)) l.lent.ledger l.lent.used

-- demand 3
pub record Found (g : Given) (l : Lends) (left : RunLeft) : Type 0 where
  -- what the run tells, and the outcome of demand 3 in the window's bytes
  pub told : Ran
  pub is_run : told ≡ ran_as l.lent.used (world_for g) (run l.budget (world_for g))
  pub outcome : Outcome g told left.back.window
  -- the report: reason 1, Ended; 2 steps and for each of the k its bytes and 2 more; the beats given, all taken; none made; k records more used
  pub report : left.report
      ≡ report_bytes 1 (2 + cost (shares g)) (given (shares g)) 0 (g.used + g.k)
  -- the image is that of the machine after the run, and loads back as it
  pub image : left.image ≡ image_of told.machine
  pub loads : load_of left.image ≡ Ok told.machine
  -- the lent output is as it was
  pub output : left.back.out ≡ l.lent.out
  -- the records of the k stand behind those used, and no other byte of the ledger differs
  pub ledger : left.back.ledger ≡ behind (records_of 1 (shares g)) l.lent.ledger l.lent.used

-- from memory to stream: the bytes of exactly these beats stand in front of the lent output, and the window is unchanged but for the
-- descriptors' last four bytes
pub record BeatsLeft (g : Given) (l : Lends) (left : RunLeft) : Type 0 where
  pub beats : left.back.out ≡ in_front (beats_by g.window g.memory (links g)) l.lent.out
  pub frame : SameElsewhere g.window [] (links g) g.memory left.back.window

-- with any budget: after every step, from the world w, of the shares ss
pub record FoundEveryStep (w : World) (ss : List Share) (l : Lends) (left : RunLeft) : Type 0 where
  pub first_few : FirstFew l.window l.lent.window ss left.back.window
  -- the image is that of the machine after so many steps of the run, and loads back as it
  pub image : left.image ≡ image_of (machine_in (run l.budget w).world)
  pub loads : load_of left.image ≡ Ok (machine_in (run l.budget w).world)
  -- one that is not enough is spent: the report begins with reason 6, Budget, and as many steps
  pub spent : l.budget < 2 + cost ss → take 6 left.report ≡ row_bytes MostFirst (take 2 report_widths) (6 ∷ l.budget ∷ [])

abbrev pub FoundAtEveryStepIn : Mode → Given → Lends → RunLeft → Type 0
FoundAtEveryStepIn mode g = FoundEveryStep (world_in mode g) (shares_in mode g)

abbrev pub FoundAtEveryStep : Given → Lends → RunLeft → Type 0
FoundAtEveryStep g = FoundEveryStep (world_for g) (shares g)
