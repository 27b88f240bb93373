-- What a user reads of the copier, and of a stream made.
-- Assumes nothing.
use Prim.Native.Nat.{ℕ, zero, suc, ◌+◌}
use mathlib.Core.Path.{◌≡◌, refl, ap, ap₂, subst, ◌∙◌}
use mathlib.Core.Logic.{◌≢◌}
use mathlib.Core.Bool.{true}
use mathlib.Core.List.{List, [], ◌∷◌, ◌++◌}
use native.Mathlib.Omega.{arith}
use lib.ListN.{get_or, set}
use lib.Seq.{get_or-set_other}
use Rattle.bus.specs.declared.Window.{Window}
use Rattle.bus.specs.Window.{in_window, place_of}
use Rattle.regs.specs.declared.Mode.TheVariants.{MemoryToMemory, MemoryToStream}
use Rattle.machine.specs.Run.{run}
use Rattle.links.specs.Form.{All, Link}
use Rattle.chain.specs.Chain.{Given, world_in, links, Sent, sent_by_all, LastSent, SameElsewhere}
use Rattle.chain.specs.Modes.{destination_at, byte_at, sources_from, sources_of, sources_by, writes, copies, beats_from, shares_from, shares_in, made_by_all, PremisesIn, held_from, held_by, Separate, CopiedAsHeld, beats_by}
use Rattle.chain.specs.Theorems.{CopiesWhatWasHeld, SendsTheseBeats}
use Rattle.chain.proofs.Lists.{all_map, all-map2, all_left, all_right, all_append, all-each}
use Rattle.chain.proofs.Memory.{Placed, placed}
use Rattle.chain.proofs.Theorem.{in-each-mode}

-- ---- from memory to memory

-- of all addresses that are read, in the window w
module _ (w : Window) (sources before : List ℕ) (inside : All (λ a. in_window w a 1 ≡ true) sources) where
  abbrev Same : (m : List ℕ) → ℕ → Type 0
  Same m a = get_or m (place_of w a) 0 ≡ get_or before (place_of w a) 0

  -- at each of them memory holds what it held before
  abbrev Held : List ℕ → Type 0
  Held m = All (Same m) sources

  -- a is one of them
  abbrev Among : ℕ → Type 0
  Among a = (m : List ℕ) → Held m → Same m a

  -- it stays so when a byte is sent elsewhere
  held-byte : (m : List ℕ) (to byte : ℕ) → in_window w to 1 ≡ true → All (λ a. to ≢ a) sources → Held m → Held (set m (place_of w to) byte)
  held-byte m to byte i apart h = all-map2 (λ a x f. stays a x f) sources h (all-map2 (λ a j n. (j, n)) sources inside apart)
    where
      stays : (a : ℕ) → Same m a → (in_window w a 1 ≡ true) × (to ≢ a) → Same (set m (place_of w to) byte) a
      stays a x f =
          let at : Placed w to 1 = placed w to 1 i in
          let from : Placed w a 1 = placed w a 1 f.0 in
          get_or-set_other m (place_of w to) (place_of w a) byte 0
          (λ e. f.1 (let same : place_of w a ≡ place_of w to = e in omega (arith, at.address, from.address))) ∙ x

  abbrev Lands : List Sent → Type 0
  Lands ss = All (λ s. in_window w s.to 1 ≡ true) ss

  abbrev AllApart : List Sent → Type 0
  AllApart ss = All (λ s. All (λ a. s.to ≢ a) sources) ss

  -- so what a descriptor sends is what was held, and the rest is held still
  held_one : (l : Link) (n i : ℕ) (m : List ℕ) → Held m → All Among (sources_from l i n) → Lands (copies w m l i n) → AllApart (held_from w before l i n)
      → (copies w m l i n ≡ held_from w before l i n) × Held (writes w (copies w m l i n) m)
  held_one l zero i m h r lands apart = (refl, h)
  held_one l (suc n) i m h r lands apart =
      let same : byte_at w m l i ≡ byte_at w before l i = r.0 m h in
      let next = held-byte m (destination_at l i) (byte_at w m l i) lands.0 apart.0 h in
      let rest = held_one l n (i + 1) (set m (place_of w (destination_at l i)) (byte_at w m l i)) next r.1 lands.1 apart.1 in
      (λ x. record { to = destination_at l i; byte = same x } ∷ rest.0 x, rest.1)

  held_all : (ls : List Link) (m bs : List ℕ) → Held m → All Among (sources_by ls) → Lands (sent_by_all (shares_from MemoryToMemory w m ls bs))
      → AllApart (held_by w before ls) → sent_by_all (shares_from MemoryToMemory w m ls bs) ≡ held_by w before ls
  held_all [] m bs h r lands apart = refl
  held_all (l ∷ ls) m bs h r lands apart =
      let own : List Sent = copies w m l 0 l.says.length in
      let others : List Sent = sent_by_all (shares_from MemoryToMemory w (writes w own m) ls bs) in
      let as-held : List Sent = held_from w before l 0 l.says.length in
      let one = held_one l l.says.length 0 m h (all_left Among (sources_of l) (sources_by ls) r) (all_left (λ s. in_window w s.to 1 ≡ true) own others lands)
      (all_left (λ s. All (λ a. s.to ≢ a) sources) as-held (held_by w before ls) apart) in
      ap₂ (λ (xs ys : List Sent). xs ++ ys) one.0
      (held_all ls (writes w own m) bs one.1 (all_right Among (sources_of l) (sources_by ls) r) (all_right (λ s. in_window w s.to 1 ≡ true) own others lands)
      (all_right (λ s. All (λ a. s.to ≢ a) sources) as-held (held_by w before ls) apart))

-- what holds of the sources of each descriptor holds of all
all-sources : (P : ℕ → Type 0) (ls : List Link) → All (λ l. All P (sources_of l)) ls → All P (sources_by ls)
all-sources P [] a = tt
all-sources P (l ∷ ls) a = all_append P (sources_of l) (sources_by ls) a.0 (all-sources P ls a.1)

all-refl : (A : ℕ → ℕ) (xs : List ℕ) → All (λ a. A a ≡ A a) xs
all-refl A [] = tt
all-refl A (x ∷ xs) = (refl, all-refl A xs)

pub sent-as-held : (g : Given) → PremisesIn MemoryToMemory g → Separate g → sent_by_all (shares_in MemoryToMemory g) ≡ held_by g.window g.memory (links g)
sent-as-held g h separate =
    let w = g.window in
    let sources = sources_by (links g) in
    let inside : All (λ a. in_window w a 1 ≡ true) sources = all-sources (λ a. in_window w a 1 ≡ true) (links g) (all_map (λ l r. r.inside) (links g) h.asks) in
    held_all w sources g.memory inside (links g) g.memory g.beats (all-refl (λ a. get_or g.memory (place_of w a) 0) sources)
    (all-each (λ (m : List ℕ) (a : ℕ). get_or m (place_of w a) 0 ≡ get_or g.memory (place_of w a) 0) sources) h.lands separate

-- so where each landing place holds the last byte sent there, that was held
pub copied-as-held : (g : Given) → PremisesIn MemoryToMemory g → Separate g → (memory : List ℕ)
    → LastSent g.window (sent_by_all (shares_in MemoryToMemory g)) memory → CopiedAsHeld g memory
copied-as-held g h separate memory landed =
    let same = sent-as-held g h separate in
    record { sent = same; landed = subst (λ (ss : List Sent). LastSent g.window ss memory) same landed }

pub copies-what-was-held : CopiesWhatWasHeld
copies-what-was-held g h separate budget k = copied-as-held g h separate (run budget (world_in MemoryToMemory g)).world.memory (in-each-mode MemoryToMemory g h budget k).outcome.landed

-- ---- from memory to stream

module _ (w : Window) (m : List ℕ) where
  none-sent : (ls : List Link) (bs : List ℕ) → sent_by_all (shares_from MemoryToStream w m ls bs) ≡ []
  none-sent [] bs = refl
  none-sent (l ∷ ls) bs = none-sent ls bs

  made_by : (ls : List Link) (bs : List ℕ) → made_by_all (shares_from MemoryToStream w m ls bs) ≡ beats_by w m ls
  made_by [] bs = refl
  made_by (l ∷ ls) bs = ap (λ (xs : List ℕ). beats_from w m l 0 l.says.length ++ xs) (made_by ls bs)

pub beats-made : (g : Given) → made_by_all (shares_in MemoryToStream g) ≡ beats_by g.window g.memory (links g)
beats-made g = made_by g.window g.memory (links g) g.beats

pub only-marks : (g : Given) (memory : List ℕ) → SameElsewhere g.window (sent_by_all (shares_in MemoryToStream g)) (links g) g.memory memory
    → SameElsewhere g.window [] (links g) g.memory memory
only-marks g memory frame =
    subst (λ (ss : List Sent). SameElsewhere g.window ss (links g) g.memory memory) (none-sent g.window g.memory (links g) g.beats) frame

pub sends-these-beats : SendsTheseBeats
sends-these-beats g h budget k =
    let e = in-each-mode MemoryToStream g h budget k in
    record { beats = e.output ∙ beats-made g; frame = only-marks g (run budget (world_in MemoryToStream g)).world.memory e.outcome.frame }
