-- Order 10: what one run makes of a chain in each of the three modes. What they share is said once, over what each descriptor moves; a
-- mode adds what that is, and what it asks for. Demand 3 is the stream-to-memory case. The theorems are `in-each-mode`,
-- `in-each-mode-at-every-step`, `copies-what-was-held` and `sends-these-beats`.
-- Assumes nothing.
use Rattle.std.specs.Prelude.{ℕ, zero, suc, ◌+◌, ◌≤◌, ◌<◌, ◌≡◌, ◌≢◌, true, false, ◌&&◌, List, [], ◌∷◌, ◌++◌, eqb, length, get_or, set, drop}
use Rattle.bus.specs.declared.Window.{Window}
use Rattle.bus.specs.Window.{in_window, place_of}
use Rattle.descriptor.specs.Layout.{generate_eop, read_fixed, write_fixed}
use Rattle.links.specs.Form.{All, Link, Off, Form}
use Rattle.regs.specs.declared.Mode.{Mode}
use Rattle.regs.specs.declared.Mode.TheVariants.{MemoryToMemory, MemoryToStream, StreamToMemory}
use Rattle.regs.specs.Control as register
use Rattle.flow.specs.Beats.{output_beat}
use Rattle.flow.specs.Rows.{landing}
use Rattle.machine.specs.declared.Reason.TheVariants.{Ended}
use Rattle.machine.specs.declared.Ran.{Ran}
use Rattle.machine.specs.Run.{Report, ran_as}
use Rattle.chain.specs.Chain.{Given, world_in, links, last, every_link, Sent, Share, given, cost, sent_by_all, records_of, share_of, Enough, Done, EveryStep, counts, LastSent, SameElsewhere}

-- ---- what a descriptor reads

-- byte i is read at source + i, without i under READ_FIXED, and written at destination + i, without i under WRITE_FIXED
abbrev pub source_at : Link → (i : ℕ) → ℕ
source_at l i = landing (read_fixed l.says.control.0) l.says.source i

abbrev pub destination_at : Link → (i : ℕ) → ℕ
destination_at l i = landing (write_fixed l.says.control.0) l.says.destination i

-- the byte that memory holds there
abbrev pub byte_at : Window → (memory : List ℕ) → Link → (i : ℕ) → ℕ
byte_at window memory l i = get_or memory (place_of window (source_at l i)) 0

-- the addresses of n bytes from byte i on
abbrev pub sources_from : Link → (i n : ℕ) → List ℕ
sources_from l i zero = []
sources_from l i (suc n) = source_at l i ∷ sources_from l (i + 1) n

abbrev pub sources_of : Link → List ℕ
sources_of l = sources_from l 0 l.says.length

-- ---- what a descriptor moves, by the mode

-- memory once bytes are sent, one after the other
abbrev pub writes : Window → List Sent → (memory : List ℕ) → List ℕ
writes window [] memory = memory
writes window (s ∷ ss) memory = writes window ss (set memory (place_of window s.to) s.byte)

-- from memory to memory: n bytes from byte i on, each read from memory as it is at that step, with those before it written
abbrev pub copies : Window → (memory : List ℕ) → Link → (i n : ℕ) → List Sent
copies window memory l i zero = []
copies window memory l i (suc n) =
    record { to = destination_at l i; byte = byte_at window memory l i }
    ∷ copies window (set memory (place_of window (destination_at l i)) (byte_at window memory l i)) l (i + 1) n

-- from memory to stream: SOP on the first under WRITE_FIXED, EOP on the last under GENERATE_EOP
abbrev pub beat_at : Window → (memory : List ℕ) → Link → (i : ℕ) → ℕ
beat_at window memory l i =
    let control = l.says.control.0 in
    output_beat (write_fixed control && eqb i 0) (generate_eop control && eqb (i + 1) l.says.length) (byte_at window memory l i)

abbrev pub beats_from : Window → (memory : List ℕ) → Link → (i n : ℕ) → List ℕ
beats_from window memory l i zero = []
beats_from window memory l i (suc n) = beat_at window memory l i ∷ beats_from window memory l (i + 1) n

-- from memory a descriptor moves all of its bytes; no beat is taken, so there is no error and no EOP
abbrev pub whole_of : Link → (sent : List Sent) (made : List ℕ) → Share
whole_of l sent made =
    record { link = l; count = l.says.length; errors = 0; eop = false; sent = sent; made = made; taken = 0 }

-- its share in a mode, of this memory and these beats
abbrev pub share_in : Mode → Window → (memory : List ℕ) → Link → (beats : List ℕ) → Share
share_in MemoryToMemory window memory l beats = whole_of l (copies window memory l 0 l.says.length) []
share_in MemoryToStream window memory l beats = whole_of l [] (beats_from window memory l 0 l.says.length)
share_in StreamToMemory window memory l beats = share_of l beats

-- along the chain, each of what those before it left. Their marks are left out: no byte is read from a descriptor
abbrev pub shares_from : Mode → Window → (memory : List ℕ) → List Link → (beats : List ℕ) → List Share
shares_from mode window memory [] beats = []
shares_from mode window memory (l ∷ ls) beats =
    let s = share_in mode window memory l beats in
    s ∷ shares_from mode window (writes window s.sent memory) ls (drop s.taken beats)

abbrev pub shares_in : Mode → Given → List Share
shares_in mode g = shares_from mode g.window g.memory (links g) g.beats

-- the beats made, in order; and how many bytes are moved
abbrev pub made_by_all : List Share → List ℕ
made_by_all [] = []
made_by_all (s ∷ ss) = s.made ++ made_by_all ss

abbrev pub moved_by_all : List Share → ℕ
moved_by_all [] = 0
moved_by_all (s ∷ ss) = s.count + moved_by_all ss

-- ---- the premises

-- what is asked of a descriptor that reads memory: "lengths not 0", "sources .. in the window and outside the descriptors"
pub record ReadsMemory (g : Given) (l : Link) : Type 0 where
  pub some : l.says.length ≢ 0
  pub inside : All (λ a. in_window g.window a 1 ≡ true) (sources_of l)
  pub outside : All (λ a. All (λ x. Off x a) (every_link g)) (sources_of l)

-- and of a stream, as in demand 3
pub record TakesStream (g : Given) : Type 0 where
  pub stop_clear : register.stop_dma_er (register.as_control g.control) ≡ false
  pub stream : Enough (links g) g.beats

-- what a mode asks for. STOP_DMA_ER is free where no beat is taken
abbrev pub Asks : Mode → Given → Type 0
Asks MemoryToMemory g = All (ReadsMemory g) (links g)
Asks MemoryToStream g = All (ReadsMemory g) (links g)
Asks StreamToMemory g = TakesStream g

-- and all of them: as in demand 3, and "room for the output". Where no byte is sent, or no beat made, nothing is asked by that line
pub record PremisesIn (mode : Mode) (g : Given) : Type 0 where
  pub run_set : register.run (register.as_control g.control) ≡ true
  pub park_clear : register.park (register.as_control g.control) ≡ false
  pub lent : length g.memory ≡ g.window.length
  pub bytes : All (λ x. x < 256) g.memory
  pub form : Form g.window g.memory g.pointer g.k
  pub ledger : g.k ≤ g.left
  pub room : length (made_by_all (shares_in mode g)) ≤ g.room
  pub lands : All (λ s. in_window g.window s.to 1 ≡ true) (sent_by_all (shares_in mode g))
  pub outside : All (λ s. All (λ l. Off l s.to) (every_link g)) (sent_by_all (shares_in mode g))
  pub asks : Asks mode g

-- ---- the conclusions

-- what a run with budget enough tells, and the window's bytes after it, where the descriptors move the shares ss
pub record OutcomeOf (g : Given) (ss : List Share) (ran : Ran) (memory : List ℕ) : Type 0 where
  -- "The count formula is the same"
  pub reason : ran.reason ≡ Ended
  pub steps : ran.steps ≡ 2 + cost ss
  -- all k are marked done, and the counts sum to the bytes moved
  pub done : All (Done g.window memory) ss
  pub sum : counts g.window memory (links g) ≡ moved_by_all ss
  pub landed : LastSent g.window (sent_by_all ss) memory
  pub frame : SameElsewhere g.window (sent_by_all ss) (links g) g.memory memory
  pub size : length memory ≡ length g.memory
  -- so many beats are taken, and so many made
  pub taken : ran.taken ≡ given ss
  pub made : ran.made ≡ length (made_by_all ss)
  -- one record more is used for each of the k, and the pointer is at the chain's end
  pub used : ran.used ≡ g.used + g.k
  pub pointer : ran.machine.core.pointer.0 ≡ (last g).at

-- and the beats and the records made are those of the k, in order
pub record EndsIn (mode : Mode) (g : Given) (r : Report) : Type 0 where
  pub outcome : OutcomeOf g (shares_in mode g) (ran_as g.used (world_in mode g) r) r.world.memory
  pub output : r.world.output ≡ made_by_all (shares_in mode g)
  pub records : r.world.records ≡ records_of 1 (shares_in mode g)

abbrev pub AtEveryStepIn : Mode → Given → Type 0
AtEveryStepIn mode g = EveryStep g (world_in mode g) (shares_in mode g)

-- ---- what a user reads of the copier

-- n bytes from byte i on, each as memory holds it
abbrev pub held_from : Window → (memory : List ℕ) → Link → (i n : ℕ) → List Sent
held_from window memory l i zero = []
held_from window memory l i (suc n) =
    record { to = destination_at l i; byte = byte_at window memory l i } ∷ held_from window memory l (i + 1) n

abbrev pub held_by : Window → (memory : List ℕ) → List Link → List Sent
held_by window memory [] = []
held_by window memory (l ∷ ls) = held_from window memory l 0 l.says.length ++ held_by window memory ls

-- the addresses that the chain reads
abbrev pub sources_by : List Link → List ℕ
sources_by [] = []
sources_by (l ∷ ls) = sources_of l ++ sources_by ls

-- no source is ever a destination
abbrev pub Separate : Given → Type 0
Separate g = All (λ s. All (λ a. s.to ≢ a) (sources_by (links g))) (held_by g.window g.memory (links g))

-- what is sent is what memory held before the run; so each landing place holds the last of those bytes that was sent there
pub record CopiedAsHeld (g : Given) (memory : List ℕ) : Type 0 where
  pub sent : sent_by_all (shares_in MemoryToMemory g) ≡ held_by g.window g.memory (links g)
  pub landed : LastSent g.window (held_by g.window g.memory (links g)) memory

-- ---- and of a stream made

abbrev pub beats_by : Window → (memory : List ℕ) → List Link → List ℕ
beats_by window memory [] = []
beats_by window memory (l ∷ ls) = beats_from window memory l 0 l.says.length ++ beats_by window memory ls

-- "exactly which beats come out": for each descriptor its bytes in order, as memory held them before the run; and memory is unchanged but
-- for the descriptors' last four bytes
pub record BeatsOut (g : Given) (memory output : List ℕ) : Type 0 where
  pub beats : output ≡ beats_by g.window g.memory (links g)
  pub frame : SameElsewhere g.window [] (links g) g.memory memory
