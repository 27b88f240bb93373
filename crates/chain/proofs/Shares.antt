-- The shares of a chain, by the mode: what a mode gives of each, at its Fetch. No other file goes by the three modes.
-- Assumes nothing.
use Prim.Native.Nat.{ℕ, suc, ◌≤◌, ◌<◌}
use mathlib.Core.Path.{◌≡◌, refl, ap, ap₂, subst, subst⁻¹}
use mathlib.Core.Logic.{◌≢◌}
use mathlib.Core.Bool.{true, false}
use mathlib.Core.List.{List, [], ◌∷◌}
use native.Mathlib.Omega.{arith}
use lib.ListN.{length, drop, length-append}
use Rattle.bus.specs.declared.Window.{Window}
use Rattle.bus.specs.Window.{in_window}
use Rattle.links.specs.Form.{All, Link}
use Rattle.regs.specs.declared.Mode.{Mode}
use Rattle.regs.specs.declared.Mode.TheVariants.{MemoryToMemory, MemoryToStream, StreamToMemory}
use Rattle.regs.specs.Control.{stop_dma_er}
use Rattle.machine.specs.Step.{World}
use Rattle.chain.specs.Chain.{Sent, Share, sent_by_all, Enough}
use Rattle.chain.specs.Modes.{sources_of, writes, share_in, shares_from, made_by_all}
use Rattle.chain.proofs.Lists.{all_left, all_right, links_of}
use Rattle.chain.proofs.Memory.{Placed}
use Rattle.chain.proofs.Blocks.{OffFour}
use Rattle.chain.proofs.One.{window_of, after_mark, Carried, Ready}
use Rattle.chain.proofs.Alike.{Alike, Readable, alike_next}
use Rattle.chain.proofs.FromStream.{carried}
use Rattle.chain.proofs.FromMemory.{length-beats, copy-carried, send-carried}

-- ---- the links of the shares

link-of : (mode : Mode) (w : Window) (m : List ℕ) (l : Link) (bs : List ℕ) → (share_in mode w m l bs).link ≡ l
link-of MemoryToMemory w m l bs = refl
link-of MemoryToStream w m l bs = refl
link-of StreamToMemory w m l bs = refl

pub links-of : (mode : Mode) (w : Window) (m : List ℕ) (ls : List Link) (bs : List ℕ) → links_of (shares_from mode w m ls bs) ≡ ls
links-of mode w m [] bs = refl
links-of mode w m (l ∷ ls) bs = ap₂ (λ (x : Link) (xs : List Link). x ∷ xs) (link-of mode w m l bs) (links-of mode w (writes w (share_in mode w m l bs).sent m) ls _)

pub length-shares : (mode : Mode) (w : Window) (m : List ℕ) (ls : List Link) (bs : List ℕ) → length (shares_from mode w m ls bs) ≡ length ls
length-shares mode w m [] bs = refl
length-shares mode w m (l ∷ ls) bs = ap suc (length-shares mode w (writes w (share_in mode w m l bs).sent m) ls _)

-- ---- what a mode asks for

-- of a descriptor that reads memory
pub record Reads (w : Window) (all : List Link) (l : Link) : Type 0 where
  pub some : l.says.length ≢ 0
  pub from : All (Readable w all) (sources_of l)

-- along the links ls of the chain all
abbrev pub Own : Mode → World → (all ls : List Link) → Type 0
Own MemoryToMemory w all ls = All (Reads (window_of w) all) ls
Own MemoryToStream w all ls = All (Reads (window_of w) all) ls
Own StreamToMemory w all ls = (stop_dma_er w.core.control ≡ false) × Enough ls w.input

-- and what every mode asks for
pub record Linked (w : Window) (all : List Link) (l : Link) : Type 0 where
  pub short : l.says.length < 65536
  pub stands : Placed w l.at 32
  -- it is one of them
  pub among : (p : ℕ) → All (OffFour w p) all → OffFour w p l

module _ (all : List Link) (w : World) (m : List ℕ) (l : Link) (ls : List Link) where
  carried-in : (mode : Mode) → w.core.mode ≡ mode → Alike (window_of w) all w.memory m → l.says.length < 65536 → Own mode w all (l ∷ ls)
      → All (λ s. in_window (window_of w) s.to 1 ≡ true) (share_in mode (window_of w) m l w.input).sent
      → length (share_in mode (window_of w) m l w.input).made ≤ w.room
      → Carried w (share_in mode (window_of w) m l w.input)
  carried-in MemoryToMemory c a short o lands room = copy-carried w l all m short o.0.some a o.0.from c lands
  carried-in MemoryToStream c a short o lands room =
      send-carried w l all m short o.0.some a o.0.from c (subst (λ (n : ℕ). n ≤ w.room) (length-beats w m l 0 l.says.length) room)
  carried-in StreamToMemory c a short o lands room = carried w l c o.0 short o.1.0 lands

  own-next : (mode : Mode) → Own mode w all (l ∷ ls) → Own mode (after_mark w (share_in mode (window_of w) m l w.input)) all ls
  own-next MemoryToMemory o = o.1
  own-next MemoryToStream o = o.1
  own-next StreamToMemory o = (o.0, o.1.1)

-- ---- along a chain

-- each share is carried, of a memory m that is alike to the world's but for the marks
pub ready : (mode : Mode) (all ls : List Link) (w : World) (m : List ℕ) → w.core.mode ≡ mode → Alike (window_of w) all w.memory m
    → All (Linked (window_of w) all) ls → Own mode w all ls
    → All (λ s. in_window (window_of w) s.to 1 ≡ true) (sent_by_all (shares_from mode (window_of w) m ls w.input))
    → length (made_by_all (shares_from mode (window_of w) m ls w.input)) ≤ w.room
    → Ready w (shares_from mode (window_of w) m ls w.input)
ready mode all [] w m c a f o lands room = tt
ready mode all (l ∷ ls) w m c a f o lands room =
    let s : Share = share_in mode (window_of w) m l w.input in
    let others : List Share = shares_from mode (window_of w) (writes (window_of w) s.sent m) ls (drop s.taken w.input) in
    let inside : Sent → Type 0 = λ x. in_window (window_of w) x.to 1 ≡ true in
    let here = all_left inside s.sent (sent_by_all others) lands in
    let both = length-append s.made (made_by_all others) in
    let linked : Linked (window_of w) all s.link = subst⁻¹ (Linked (window_of w) all) (link-of mode (window_of w) m l w.input) f.0 in (
      carried-in all w m l ls mode c a f.0.short o here (omega arith),
      ready mode all ls (after_mark w s) (writes (window_of w) s.sent m) c (alike_next w s all m linked.stands linked.among here a) f.1
          (own-next all w m l ls mode o) (all_right inside s.sent (sent_by_all others) lands) (omega arith),
    )

-- so no count passes 16 bits
pub all_short : (ss : List Share) (w : World) → Ready w ss → All (λ (s : Share). s.count < 65536) ss
all_short [] w r = tt
all_short (s ∷ ss) w r = (r.0.short, all_short ss (after_mark w s) r.1)
