-- What is proved of chains, demand 3: each theorem's whole statement, under its name. A term of each stands in proofs/.
-- Assumes nothing.
use Rattle.std.specs.Prelude.{ℕ, ◌+◌, ◌≤◌, ◌≡◌, true, [], ◌∷◌, Some, Result, Ok}
use Rattle.words.specs.Slices.{AllBytes}
use Rattle.bus.specs.declared.Window.{Window}
use Rattle.bus.specs.Window.{keeps_limits}
use Rattle.regs.specs.declared.Mode.{Mode}
use Rattle.regs.specs.declared.Mode.TheVariants.{MemoryToMemory, MemoryToStream, StreamToMemory}
use Rattle.ledger.specs.Finding.{finding_in}
use Rattle.machine.specs.declared.Ran.{Ran}
use Rattle.bus.specs.declared.Refusal.{Refusal}
use Rattle.machine.specs.Run.{run, Lent, Returned, ran_as}
use Rattle.links.specs.declared.Kind.TheVariants.{Sound}
use Rattle.links.specs.Form.{All, Form}
use Rattle.links.specs.Verdicts.{stop, verdict, verdict_of}
use Rattle.chain.specs.Chain.{Given, world_in, world_for, last, shares, cost, records_of, Premises, FirstFew, AtEveryStep, Outcome}
use Rattle.chain.specs.Modes.{shares_in, PremisesIn, EndsIn, AtEveryStepIn, Separate, CopiedAsHeld, BeatsOut}
use Rattle.chain.specs.Enough.{WithinBudget, WithinBudgetIn}
use Rattle.chain.specs.Twice.{twice, LinksToItself, RanTwice}
use Rattle.chain.specs.Calls.{given_by, CalledIn, Called, FinishedIn, Finished}
use Rattle.chain.specs.Known.{InNumbers, known, three, copier, sender}

-- ---- of the definitions

-- Demand 3, with budget enough: "it stops after exactly 2 steps plus, for each of the k, its bytes and 2 more", and all that holds at the
-- end.
abbrev pub ChainTheorem : Type 0
ChainTheorem = (g : Given) → Premises g → (budget : ℕ) → 2 + cost (shares g) ≤ budget
    → Outcome g (ran_as g.used (world_for g) (run budget (world_for g))) (run budget (world_for g)).world.memory

-- And the records made are those of the k, in order.
abbrev pub ChainRecords : Type 0
ChainRecords = (g : Given) → Premises g → (budget : ℕ) → 2 + cost (shares g) ≤ budget
    → (run budget (world_for g)).world.records ≡ records_of 1 (shares g)

-- Demand 3, after every step: "those of the k marked done are the first few of the chain, each with the count of bytes the stream gave
-- it".
abbrev pub ChainAtEveryStep : Type 0
ChainAtEveryStep = (g : Given) → Premises g → AtEveryStep g

-- "With budget enough": a budget of 32 bits that is enough exists for every chain that meets the premises. Its window keeps the limits: any
-- other is refused, and no machine stands over it.
abbrev pub BudgetExists : Type 0
BudgetExists = (g : Given) → Premises g → keeps_limits g.window.base g.window.length ≡ true → WithinBudget g

-- Order 4: an unparked descriptor that links to itself runs twice before Ended.
abbrev pub RunsTwice : Type 0
RunsTwice = (g : Given) → LinksToItself g → (budget : ℕ) → 2 + cost (twice g) ≤ budget
    → RanTwice g (ran_as g.used (world_for g) (run budget (world_for g))) (run budget (world_for g)).world.memory (run budget (world_for g)).world.records

-- Order 8: what a sound verdict is good for. Where the check says sound, with k and e, and all that demand 3 asks besides the form of the
-- chain holds, the run does what demand 3 says, and its pointer is then at e.
abbrev pub SoundRuns : Type 0
SoundRuns = (g : Given) (e : ℕ) → keeps_limits g.window.base g.window.length ≡ true
    → verdict_of g.window g.memory g.pointer ≡ verdict Sound (stop g.k e)
    → (Form g.window g.memory g.pointer g.k → Premises g)
    → (budget : ℕ) → 2 + cost (shares g) ≤ budget
    → Outcome g (ran_as g.used (world_for g) (run budget (world_for g))) (run budget (world_for g)).world.memory × ((last g).at ≡ e)

-- ---- of the definitions, in each mode

-- Order 10, with budget enough: in each of the three modes "the count formula is the same", and all that holds at the end; the beats and the
-- records made are those of the k, in order.
abbrev pub InEachMode : Type 0
InEachMode = (mode : Mode) (g : Given) → PremisesIn mode g → (budget : ℕ) → 2 + cost (shares_in mode g) ≤ budget
    → EndsIn mode g (run budget (world_in mode g))

-- Order 10, after every step: in each mode those of the k marked done are the first few of the chain, each with its count.
abbrev pub InEachModeAtEveryStep : Type 0
InEachModeAtEveryStep = (mode : Mode) (g : Given) → PremisesIn mode g → AtEveryStepIn mode g

-- From memory to memory, where no source is ever a destination: each byte sent is the one that memory held before the run.
abbrev pub CopiesWhatWasHeld : Type 0
CopiesWhatWasHeld = (g : Given) → PremisesIn MemoryToMemory g → Separate g → (budget : ℕ) → 2 + cost (shares_in MemoryToMemory g) ≤ budget
    → CopiedAsHeld g (run budget (world_in MemoryToMemory g)).world.memory

-- From memory to stream: exactly which beats come out, and memory is unchanged but for the descriptors' last four bytes.
abbrev pub SendsTheseBeats : Type 0
SendsTheseBeats = (g : Given) → PremisesIn MemoryToStream g → (budget : ℕ) → 2 + cost (shares_in MemoryToStream g) ≤ budget
    → let w = (run budget (world_in MemoryToStream g)).world in
    BeatsOut g w.memory w.output

-- And in each mode a budget of 32 bits that is enough exists.
abbrev pub BudgetExistsIn : Type 0
BudgetExistsIn = (mode : Mode) (g : Given) → PremisesIn mode g → keeps_limits g.window.base g.window.length ≡ true
    → WithinBudgetIn mode g

-- ---- of the public methods: fresh, two register writes, one run

-- Demand 3, of the public methods, with budget enough.
abbrev pub ChainOfRun : Type 0
ChainOfRun = (window : Window) (pointer control : ℕ) (l : Lent) (budget : ℕ) (r : Result Ran Refusal) (b : Returned) (k : ℕ)
    → Called window pointer control l budget r b
    → let g : Given = given_by window pointer control k l in
    Premises g → 2 + cost (shares g) ≤ budget → Finished g l r b

-- Demand 3, of the public methods, after every step: with any budget those marked done are the first few.
abbrev pub ChainOfRunAtEveryStep : Type 0
ChainOfRunAtEveryStep = (window : Window) (pointer control : ℕ) (l : Lent) (budget : ℕ) (r : Result Ran Refusal) (b : Returned) (k : ℕ)
    → Called window pointer control l budget r b
    → let g : Given = given_by window pointer control k l in
    Premises g → FirstFew window l.window (shares g) b.window

-- Order 6: and after the run each of the k is found in run 1, with its count. What is lent is bytes.
abbrev pub EachFound : Type 0
EachFound = (window : Window) (pointer control : ℕ) (l : Lent) (budget : ℕ) (r : Result Ran Refusal) (b : Returned) (k : ℕ)
    → Called window pointer control l budget r b
    → let g : Given = given_by window pointer control k l in
    Premises g → 2 + cost (shares g) ≤ budget → AllBytes l.beats
    → All (λ s. finding_in b.ledger (l.used + k) 1 s.link.at ≡ Ok (Some s.count)) (shares g)

-- ---- of the public methods, in each mode

-- Order 10, of the public methods, with budget enough.
abbrev pub OfRunInEachMode : Type 0
OfRunInEachMode = (mode : Mode) (window : Window) (pointer control : ℕ) (l : Lent) (budget : ℕ) (r : Result Ran Refusal) (b : Returned) (k : ℕ)
    → CalledIn mode window pointer control l budget r b
    → let g : Given = given_by window pointer control k l in
    PremisesIn mode g → 2 + cost (shares_in mode g) ≤ budget → FinishedIn mode g l r b

-- Order 10, of the public methods, after every step: with any budget those marked done are the first few.
abbrev pub OfRunInEachModeAtEveryStep : Type 0
OfRunInEachModeAtEveryStep = (mode : Mode) (window : Window) (pointer control : ℕ) (l : Lent) (budget : ℕ) (r : Result Ran Refusal) (b : Returned) (k : ℕ)
    → CalledIn mode window pointer control l budget r b
    → let g : Given = given_by window pointer control k l in
    PremisesIn mode g → FirstFew window l.window (shares_in mode g) b.window

-- And in each mode each of the k is found in run 1, with its count.
abbrev pub EachFoundIn : Type 0
EachFoundIn = (mode : Mode) (window : Window) (pointer control : ℕ) (l : Lent) (budget : ℕ) (r : Result Ran Refusal) (b : Returned) (k : ℕ)
    → CalledIn mode window pointer control l budget r b
    → let g : Given = given_by window pointer control k l in
    PremisesIn mode g → 2 + cost (shares_in mode g) ≤ budget → AllBytes l.beats
    → All (λ s. finding_in b.ledger (l.used + k) 1 s.link.at ≡ Ok (Some s.count)) (shares_in mode g)

-- ---- the premises can be met

-- Known run 1 meets them, and this is concluded there.
abbrev pub KnownRun1 : Type 0
KnownRun1 =
    InNumbers StreamToMemory known (Premises known) 8 4 4128
    (record { place = 28; bytes = 0x04 ∷ 0x00 ∷ 0x00 ∷ 0x00 ∷ [] } ∷ [])
    (record { to = 4224; byte = 0x11 } ∷ record { to = 4225; byte = 0x22 } ∷ record { to = 4226; byte = 0x33 } ∷ record { to = 4227; byte = 0x44 } ∷ [])
    []

-- A chain of three meets them, with an EOP in the second and a fixed destination in the third, and this is concluded there.
abbrev pub ChainOfThree : Type 0
ChainOfThree =
    InNumbers StreamToMemory three (Premises three) 16 8 4192
    (record { place = 28; bytes = 0x03 ∷ 0x00 ∷ 0x00 ∷ 0x00 ∷ [] }
    ∷ record { place = 92; bytes = 0x02 ∷ 0x00 ∷ 0x03 ∷ 0x78 ∷ [] }
    ∷ record { place = 60; bytes = 0x03 ∷ 0x00 ∷ 0x01 ∷ 0x04 ∷ [] } ∷ [])
    (record { to = 4224; byte = 0x11 } ∷ record { to = 4225; byte = 0x22 } ∷ record { to = 4226; byte = 0x44 }
    ∷ record { to = 4227; byte = 0x55 } ∷ record { to = 4240; byte = 0x88 } ∷ [])
    []

-- From memory to memory a chain of two meets those of order 10: a copy onto itself, and a fixed source that the first has written.
abbrev pub ChainOfCopies : Type 0
ChainOfCopies =
    InNumbers MemoryToMemory copier (PremisesIn MemoryToMemory copier) 14 0 4160
    (record { place = 28; bytes = 0x05 ∷ 0x00 ∷ 0x00 ∷ 0x00 ∷ [] } ∷ record { place = 60; bytes = 0x03 ∷ 0x00 ∷ 0x00 ∷ 0x02 ∷ [] } ∷ [])
    (record { to = 4226; byte = 0xA1 } ∷ record { to = 4227; byte = 0xB2 } ∷ record { to = 4228; byte = 0xA1 } ∷ record { to = 4229; byte = 0xB2 }
    ∷ record { to = 4230; byte = 0xA1 } ∷ record { to = 4240; byte = 0xA1 } ∷ record { to = 4241; byte = 0xA1 } ∷ record { to = 4242; byte = 0xA1 } ∷ [])
    []

-- From memory to stream a chain of three does: a packet of three beats, one of one, and two beats that begin and end none.
abbrev pub ChainOfPackets : Type 0
ChainOfPackets =
    InNumbers MemoryToStream sender (PremisesIn MemoryToStream sender) 14 0 4192
    (record { place = 28; bytes = 0x03 ∷ 0x00 ∷ 0x00 ∷ 0x05 ∷ [] }
    ∷ record { place = 92; bytes = 0x01 ∷ 0x00 ∷ 0x00 ∷ 0x05 ∷ [] }
    ∷ record { place = 60; bytes = 0x02 ∷ 0x00 ∷ 0x00 ∷ 0x02 ∷ [] } ∷ [])
    []
    (0x02A1 ∷ 0x00B2 ∷ 0x01C3 ∷ 0x03B2 ∷ 0x00C3 ∷ 0x00C3 ∷ [])
