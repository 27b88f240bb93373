-- Demand 3: what one run makes of a chain of descriptors in memory and of the beats of a stream. What is given, the chain, what each
-- descriptor moves; then the premises and the conclusions in the demand's order and words. The form of a chain in memory is `Form` of
-- crate links. The theorems are `chain-theorem` and `chain-at-every-step`.
-- Assumes nothing.
use Rattle.std.specs.Prelude.{ℕ, zero, suc, ◌+◌, ◌%◌, ◌≤◌, ◌<◌, ◌≡◌, ◌≢◌, Bool, true, false, cond, ◌||◌, List, [], ◌∷◌, ◌++◌, length, get_or, take, drop}
use Rattle.words.specs.Slices.{part}
use Rattle.bus.specs.declared.Window.{Window}
use Rattle.bus.specs.Window.{in_window, place_of}
use Rattle.descriptor.specs.declared.Descriptor.{Descriptor}
use Rattle.descriptor.specs.Layout.{write_fixed, owned, last_four}
use Rattle.links.specs.Form.{All, Link, link_at, links_from, link_after, every_from, Off, Form}
use Rattle.regs.specs.declared.Mode.{Mode}
use Rattle.regs.specs.declared.Mode.TheVariants.{StreamToMemory}
use Rattle.regs.specs.Control as register
use Rattle.ledger.specs.declared.Entry.{Entry}
use Rattle.flow.specs.Beats.{beat_eop, beat_data}
use Rattle.flow.specs.Rows.{landing, gathered}
use Rattle.image.specs.Rules.{asked}
use Rattle.machine.specs.declared.Machine.{Machine}
use Rattle.machine.specs.declared.Reason.TheVariants.{Ended, Budget}
use Rattle.machine.specs.declared.Ran.{Ran}
use Rattle.machine.specs.State.{fresh}
use Rattle.machine.specs.Registers.{written_to}
use Rattle.machine.specs.Step.{World, opened}
use Rattle.machine.specs.Run.{run}

-- ---- what is given

-- the window and its bytes; what is written to pointer and control; the beats lent, the room for output; the records used, and
-- the room for more; how many owned descriptors the chain has
pub record Given : Type 0 where
  pub window : Window
  pub memory : List ℕ
  pub pointer : ℕ
  pub control : ℕ
  pub beats : List ℕ
  pub room : ℕ
  pub used : ℕ
  pub left : ℕ
  pub k : ℕ

-- a fresh machine in a mode, "its pointer set, then" control written: next_descriptor_pointer is at 8, control at 4
abbrev pub started_in : Mode → Given → Machine
started_in mode g = written_to (written_to (fresh mode g.window) 8 g.pointer) 4 g.control

-- where the one run is made
abbrev pub world_in : Mode → Given → World
world_in mode g = opened (started_in mode g) g.memory g.beats g.room g.left

-- "a fresh machine in stream-to-memory mode"
abbrev pub machine_for : Given → Machine
machine_for g = started_in StreamToMemory g

abbrev pub world_for : Given → World
world_for g = world_in StreamToMemory g

-- ---- the chain in memory

-- the k, the one at their end, and all of them
abbrev pub links : Given → List Link
links g = links_from g.window g.memory g.pointer g.k

abbrev pub last : Given → Link
last g = link_after g.window g.memory g.pointer g.k

abbrev pub every_link : Given → List Link
every_link g = every_from g.window g.memory g.pointer g.k

-- ---- what a descriptor moves

-- a byte on its way to an address
pub record Sent : Type 0 where
  pub to : ℕ
  pub byte : ℕ

-- what one descriptor moves: the conclusions speak of this alone, whatever the mode
pub record Share : Type 0 where
  -- the descriptor
  pub link : Link
  -- how many bytes it moves
  pub count : ℕ
  -- the errors gathered with them, and whether the last came with EOP
  pub errors : ℕ
  pub eop : Bool
  -- what it sends where, in this order
  pub sent : List Sent
  -- which beats it makes, and how many it takes
  pub made : List ℕ
  pub taken : ℕ

-- the beats taken, and the steps: for each its bytes and 2 more
abbrev pub given : List Share → ℕ
given [] = 0
given (s ∷ ss) = s.taken + given ss

abbrev pub cost : List Share → ℕ
cost [] = 0
cost (s ∷ ss) = s.count + 2 + cost ss

-- the bytes sent, in the order in which they are sent
abbrev pub sent_by_all : List Share → List Sent
sent_by_all [] = []
sent_by_all (s ∷ ss) = s.sent ++ sent_by_all ss

-- the record of each, dated with the run
abbrev pub record_of : (run : ℕ) → Share → Entry
record_of run s = record { run = run; at = s.link.at; actual = s.count; status = s.errors; eop = s.eop }

abbrev pub records_of : (run : ℕ) → List Share → List Entry
records_of run [] = []
records_of run (s ∷ ss) = record_of run s ∷ records_of run ss

-- ---- what the stream gives a descriptor

-- L in stream-to-memory mode: bytes_to_transfer; a 0 means 65,535
abbrev pub wants : Descriptor → ℕ
wants d = asked 2 d.length

-- of the beats n, or up to the first EOP
abbrev pub takes : ℕ → List ℕ → List ℕ
takes zero bs = []
takes (suc n) [] = []
takes (suc n) (b ∷ bs) = b ∷ cond (beat_eop b) [] (takes n bs)

-- whether the beats are so many, or hold an EOP before
abbrev pub enough : ℕ → List ℕ → Bool
enough zero bs = true
enough (suc n) [] = false
enough (suc n) (b ∷ bs) = beat_eop b || enough n bs

-- whether the last of the beats had EOP
abbrev pub ends_packet : (before : Bool) → List ℕ → Bool
ends_packet before [] = before
ends_packet before (b ∷ bs) = ends_packet (beat_eop b) bs

-- the bytes of beats, from byte i on, each at destination + i, without i under WRITE_FIXED
abbrev pub sent_from : (fixed : Bool) (destination i : ℕ) → List ℕ → List Sent
sent_from fixed destination i [] = []
sent_from fixed destination i (b ∷ bs) =
    record { to = landing fixed destination i; byte = beat_data b } ∷ sent_from fixed destination (i + 1) bs

-- the share of a descriptor, by the mode: from stream to memory it is what it takes of the beats bs
abbrev pub share_of : Link → List ℕ → Share
share_of l bs =
    let its = takes (wants l.says) bs in
    record {
      link = l;
      count = length its;
      errors = gathered 0 its;
      eop = ends_packet false its;
      sent = sent_from (write_fixed l.says.control.0) l.says.destination 0 its;
      made = [];
      taken = length its;
    }

-- along the chain, each from what those before it left
abbrev pub shares_of : List Link → List ℕ → List Share
shares_of [] bs = []
shares_of (l ∷ ls) bs = share_of l bs ∷ shares_of ls (drop (share_of l bs).taken bs)

-- and there is enough for each
abbrev pub Enough : List Link → List ℕ → Type 0
Enough [] bs = Unit {0}
Enough (l ∷ ls) bs = (enough (wants l.says) bs ≡ true) × Enough ls (drop (share_of l bs).taken bs)

abbrev pub shares : Given → List Share
shares g = shares_of (links g) g.beats

abbrev pub sent : Given → List Sent
sent g = sent_by_all (shares g)

-- ---- the premises

pub record Premises (g : Given) : Type 0 where
  -- "RUN set with PARK and STOP_DMA_ER clear"
  pub run_set : register.run (register.as_control g.control) ≡ true
  pub park_clear : register.park (register.as_control g.control) ≡ false
  pub stop_clear : register.stop_dma_er (register.as_control g.control) ≡ false
  -- the window is lent whole, and what it holds is bytes
  pub lent : length g.memory ≡ g.window.length
  pub bytes : All (λ x. x < 256) g.memory
  -- "k owned descriptors and one unowned at its end, all aligned, in the window and not overlapping"
  pub form : Form g.window g.memory g.pointer g.k
  -- "The stream holds every byte the chain will take"
  pub stream : Enough (links g) g.beats
  -- "room for k records"
  pub ledger : g.k ≤ g.left
  -- "and each lands in the window outside those descriptors"
  pub lands : All (λ s. in_window g.window s.to 1 ≡ true) (sent g)
  pub outside : All (λ s. All (λ l. Off l s.to) (every_link g)) (sent g)

-- ---- the conclusions

-- a descriptor "marked done", "with the count of bytes the stream gave it"; of its last four bytes also the errors of its beats,
-- and its control as fetched but for OWNED
pub record Done (window : Window) (memory : List ℕ) (s : Share) : Type 0 where
  pub marked : owned (link_at window memory s.link.at).says.control.0 ≡ false
  pub count : (link_at window memory s.link.at).says.actual ≡ s.count
  pub four : part memory (place_of window s.link.at + 28) 4 ≡ last_four s.count s.errors (s.link.says.control.0 % 128)

-- one not yet done: still owned, its 32 bytes as they were before
pub record Waiting (window : Window) (before memory : List ℕ) (s : Share) : Type 0 where
  pub unmarked : owned (link_at window memory s.link.at).says.control.0 ≡ true
  pub same : part memory (place_of window s.link.at) 32 ≡ part before (place_of window s.link.at) 32

-- "those of the k marked done are the first few of the chain"
pub record FirstFew (window : Window) (before : List ℕ) (ss : List Share) (memory : List ℕ) : Type 0 where
  pub few : ℕ
  pub within : few ≤ length ss
  pub done : All (Done window memory) (take few ss)
  pub waiting : All (Waiting window before memory) (drop few ss)

-- "After every step": with every budget, from the world w on, of the shares ss
pub record EveryStep (g : Given) (w : World) (ss : List Share) : Type 0 where
  pub first_few : (budget : ℕ) → FirstFew g.window g.memory ss (run budget w).world.memory
  -- and a budget that is not enough is spent: there is a world after each of these steps
  pub spent : (budget : ℕ) → budget < 2 + cost ss → ((run budget w).steps ≡ budget) × ((run budget w).reason ≡ Budget)

abbrev pub AtEveryStep : Given → Type 0
AtEveryStep g = EveryStep g (world_for g) (shares g)

-- the counts that the descriptors hold, summed
abbrev pub counts : Window → List ℕ → List Link → ℕ
counts window memory [] = 0
counts window memory (l ∷ ls) = (link_at window memory l.at).says.actual + counts window memory ls

-- "each landing place holds the last byte sent there"
abbrev pub LastSent : Window → List Sent → (memory : List ℕ) → Type 0
LastSent window ss memory = (before after : List Sent) (s : Sent) → ss ≡ before ++ s ∷ after → All (λ later. later.to ≢ s.to) after
    → get_or memory (place_of window s.to) 0 ≡ s.byte

-- "outside those places and the descriptors' last four bytes no byte of memory differs"
abbrev pub SameElsewhere : Window → List Sent → List Link → (before memory : List ℕ) → Type 0
SameElsewhere window ss ls before memory = (place : ℕ) → All (λ s. s.to ≢ window.base + place) ss
    → All (λ l. (j : ℕ) → j < 4 → window.base + place ≢ l.at + (28 + j)) ls
    → get_or memory place 0 ≡ get_or before place 0

-- what a run with budget enough tells, and the window's bytes after it
pub record Outcome (g : Given) (ran : Ran) (memory : List ℕ) : Type 0 where
  -- "it stops after exactly 2 steps plus, for each of the k, its bytes and 2 more"
  pub reason : ran.reason ≡ Ended
  pub steps : ran.steps ≡ 2 + cost (shares g)
  -- all k are marked done
  pub done : All (Done g.window memory) (shares g)
  -- "the counts sum to the bytes taken"
  pub sum : counts g.window memory (links g) ≡ ran.taken
  -- "each landing place holds the last byte sent there"
  pub landed : LastSent g.window (sent g) memory
  -- "outside those places and the descriptors' last four bytes no byte of memory differs"
  pub frame : SameElsewhere g.window (sent g) (links g) g.memory memory
  pub size : length memory ≡ length g.memory
  -- the beats taken are those given, none is made, and the pointer is at the chain's end
  pub taken : ran.taken ≡ given (shares g)
  pub made : ran.made ≡ 0
  -- one record more is used for each of the k
  pub used : ran.used ≡ g.used + g.k
  pub pointer : ran.machine.core.pointer.0 ≡ (last g).at
