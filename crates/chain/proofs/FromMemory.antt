-- What the modes that read memory give of a share: the bytes of one descriptor, from its first Move to its WriteBack. The share is that of a
-- memory without marks, alike to the world's.
-- Assumes nothing.
use Prim.Native.Nat.{ℕ, zero, suc, ◌+◌, ◌-◌, ◌≤◌, ◌<◌}
use mathlib.Core.Path.{◌≡◌, refl, sym, ap, subst, ◌∙◌}
use mathlib.Core.Logic.{◌≢◌}
use mathlib.Core.Bool.{true, false, ◌&&◌}
use mathlib.Core.List.{List, [], ◌∷◌, ◌++◌, append-nil, append_assoc}
use native.Mathlib.Nat.{sub-zero}
use native.Mathlib.Omega.{arith}
use lib.Dec.{eqb}
use lib.ListN.{length, set}
use borrow.Author.Tests.{ne_eqb}
use Rattle.bus.specs.Window.{in_window, place_of}
use Rattle.links.specs.Form.{All, Link}
use Rattle.regs.specs.declared.Mode.{Mode}
use Rattle.regs.specs.declared.Mode.TheVariants.{MemoryToMemory, MemoryToStream}
use Rattle.regs.specs.Modes.{mode_number}
use Rattle.image.specs.Rules.{asked}
use Rattle.machine.specs.declared.Work.{Work}
use Rattle.machine.specs.declared.Phase.{Phase}
use Rattle.machine.specs.declared.Phase.TheVariants.{Move, WriteBack}
use Rattle.machine.specs.State.{with_phase}
use Rattle.machine.specs.Step.{World, laid, stored, sent, wants_length, whole, source_of, destination_of, beat_for}
use Rattle.machine.specs.Laws.{Along, here, more}
use Rattle.chain.specs.Chain.{Sent, Share}
use Rattle.chain.specs.Modes.{sources_from, sources_of, byte_at, destination_at, writes, copies, beat_at, beats_from, share_in}
use Rattle.chain.proofs.Lists.{all-map2, all-each}
use Rattle.chain.proofs.Memory.{placed}
use Rattle.chain.proofs.Rules.{fetched_world, goes_to, on-count, on-more, copy_step_lem, send-step}
use Rattle.chain.proofs.Blocks.{OffBytes, BlocksKept, kept-none, kept_byte}
use Rattle.chain.proofs.One.{window_of, Carried}
use Rattle.chain.proofs.Alike.{Alike, Readable, alike-byte}

module _ (l : Link) where
  -- the work in hand before byte i
  abbrev work_at : ℕ → Work
  work_at i =
      let d = l.says in
      record { at = l.at; source = d.source; destination = d.destination; length = d.length; control = d.control; errors = 0; moved = i; eop = false }

  -- after byte i it goes on, or to WriteBack after the last
  module _ (w : World) (all : whole w.core (work_at 0) ≡ l.says.length) (i : ℕ) where
    goes_on : (n : ℕ) → i + suc (suc n) ≡ l.says.length → goes_to w.core (work_at (i + 1)) ≡ Move (work_at (i + 1))
    goes_on n e = on-more w.core (work_at (i + 1)) refl (λ f. let g : i + 1 ≡ whole w.core (work_at 0) = f in omega (arith, all))

    goes_back : i + 1 ≡ l.says.length → goes_to w.core (work_at (i + 1)) ≡ WriteBack (work_at l.says.length)
    goes_back e = on-count w.core (work_at (i + 1)) refl (e ∙ sym all) ∙ ap (λ (n : ℕ). WriteBack (work_at n)) e

  abbrev back : Phase
  back = WriteBack (work_at l.says.length)

  module _ (ls : List Link) where
    -- ---- to memory, with what holds of memory at each byte: P, kept by every byte that Q holds of

    module _ (P : List ℕ → Type 0) (Q : Sent → Type 0) where
      copying : (n i : ℕ) (w : World) (m : List ℕ) → w.core.phase ≡ Move (work_at i) → w.core.mode ≡ MemoryToMemory → i + suc n ≡ l.says.length
          → Alike (window_of w) ls w.memory m
          → ((s : Sent) → Q s → in_window (window_of w) s.to 1 ≡ true)
          → ((m : List ℕ) (s : Sent) → Q s → P m → P (set m (place_of (window_of w) s.to) s.byte))
          → All (Readable (window_of w) ls) (sources_from l i (suc n)) → All Q (copies (window_of w) m l i (suc n)) → P w.memory
          → Along (λ (x : World). P x.memory) (suc n) w
          (stored w (with_phase back w.core) (writes (window_of w) (copies (window_of w) m l i (suc n)) w.memory))
      unfolding source_of destination_of
      copying zero i w m p c e a inside keep r q pw =
          let all : whole w.core (work_at 0) ≡ l.says.length = ap (λ (x : Mode). asked (mode_number x) l.says.length) c in
          more pw
          (copy_step_lem w (work_at i) (byte_at (window_of w) m l i) _ p c r.0.inside (inside _ q.0) (a.same _ r.0.off) (goes_back w all i e))
          (here (keep _ _ q.0 pw))
      copying (suc n) i w m p c e a inside keep r q pw =
          let all : whole w.core (work_at 0) ≡ l.says.length = ap (λ (x : Mode). asked (mode_number x) l.says.length) c in
          let s : Sent = record { to = destination_at l i; byte = byte_at (window_of w) m l i } in
          let at : ℕ = place_of (window_of w) s.to in
          more pw
          (copy_step_lem w (work_at i) (byte_at (window_of w) m l i) _ p c r.0.inside (inside _ q.0) (a.same _ r.0.off) (goes_on w all i n e))
          (copying n (i + 1) (stored w (with_phase (Move (work_at (i + 1))) w.core) (set w.memory at s.byte)) (set m at s.byte) refl c (omega arith)
          (alike-byte a s (placed _ _ _ (inside _ q.0))) inside keep r.1 q.1 (keep _ _ q.0 pw))

    -- ---- to the stream, while memory stays

    module _ (P : List ℕ → Type 0) where
      sending : (n i : ℕ) (w : World) (m : List ℕ) → w.core.phase ≡ Move (work_at i) → w.core.mode ≡ MemoryToStream → i + suc n ≡ l.says.length
          → Alike (window_of w) ls w.memory m → All (Readable (window_of w) ls) (sources_from l i (suc n)) → suc n ≤ w.room → P w.memory
          → Along (λ (x : World). P x.memory) (suc n) w
          (sent w (with_phase back w.core) (w.output ++ beats_from (window_of w) m l i (suc n)) (w.room - suc n))
      unfolding source_of beat_for
      sending zero i w m p c e a r room pw =
          let all : whole w.core (work_at 0) ≡ l.says.length = ap (λ (x : Mode). asked (mode_number x) l.says.length) c in
          more pw
          (send-step w (work_at i) (beat_at (window_of w) m l i) (w.room - 1) _ p c r.0.inside (omega arith)
          (ap (λ (x : ℕ). beat_for (work_at i) x) (a.same _ r.0.off)) (goes_back w all i e))
          (here pw)
      sending (suc n) i w m p c e a r room pw =
          let all : whole w.core (work_at 0) ≡ l.says.length = ap (λ (x : Mode). asked (mode_number x) l.says.length) c in
          let beat = beat_at (window_of w) m l i in
          let v = sent w (with_phase (Move (work_at (i + 1))) w.core) (w.output ++ beat ∷ []) (w.room - 1) in
          let out = append_assoc w.output (beat ∷ []) (beats_from (window_of w) m l (i + 1) (suc n)) in
          let left : w.room - 1 - suc n ≡ w.room - suc (suc n) = omega arith in
          more pw
          (send-step w (work_at i) beat (w.room - 1) _ p c r.0.inside (omega arith)
          (ap (λ (x : ℕ). beat_for (work_at i) x) (a.same _ r.0.off)) (goes_on w all i n e))
          (subst (Along (λ (x : World). P x.memory) (suc n) v) (λ x. sent w (with_phase back w.core) (out x) (left x))
          (sending n (i + 1) v m refl c (omega arith) a r.1 (omega arith) pw))

pub length-beats : (w : World) (m : List ℕ) (l : Link) (i n : ℕ) → length (beats_from (window_of w) m l i n) ≡ n
length-beats w m l i zero = refl
length-beats w m l i (suc n) = ap suc (length-beats w m l (i + 1) n)

-- ---- a descriptor's share

module _ (w : World) (l : Link) (ls : List Link) (m : List ℕ) (short : l.says.length < 65536) (some : l.says.length ≢ 0)
    (alike : Alike (window_of w) ls w.memory m) (reads : All (Readable (window_of w) ls) (sources_of l)) where
  abbrev v : World
  v = fetched_world w l

  module _ (mode_is : w.core.mode ≡ MemoryToMemory) where
    abbrev copied : Share
    copied = share_in MemoryToMemory (window_of w) m l w.input

    module _ (lands : All (λ s. in_window (window_of w) s.to 1 ≡ true) copied.sent) where
      abbrev Kept : List ℕ → Type 0
      Kept = BlocksKept (window_of w) w.memory copied.sent

      abbrev Lands : Sent → Type 0
      Lands s = (in_window (window_of w) s.to 1 ≡ true) × ((p : ℕ) → OffBytes (window_of w) copied.sent p → s.to ≢ (window_of w).base + p)

      all-copied : (n : ℕ) → n ≡ l.says.length → All (Readable (window_of w) ls) (sources_from l 0 n) → All Lands (copies (window_of w) m l 0 n)
          → Along (λ (x : World). Kept x.memory) n v
          (stored v (with_phase (back l) v.core) (writes (window_of w) (copies (window_of w) m l 0 n) w.memory))
      all-copied zero e r q = absurd (some (sym e))
      all-copied (suc n) e r q =
          copying l ls Kept Lands n 0 v m refl mode_is (omega arith) alike (λ s q. q.0)
          (λ m s q h. kept_byte (window_of w) w.memory copied.sent m s (placed _ _ _ q.0) q.1 h) r q (kept-none _ _ _)

      pub copy-carried : Carried w copied
      copy-carried =
          record {
            long = ap (λ (x : Mode). wants_length x && eqb l.says.length 0) mode_is ∙ ne_eqb l.says.length 0 some;
            short = short;
            moves = subst (Along (λ (x : World). Kept x.memory) l.says.length v)
                (λ i. laid v (with_phase (back l) v.core) (writes (window_of w) copied.sent w.memory) w.input (sym (append-nil w.output) i) (sym (sub-zero w.room) i))
                (all-copied l.says.length refl reads
                (all-map2 (λ s x y. (x, y)) copied.sent lands (all-each (λ (p : ℕ) (s : Sent). s.to ≢ (window_of w).base + p) copied.sent)));
            there = omega arith;
            goes_on = refl;
          }

  module _ (mode_is : w.core.mode ≡ MemoryToStream) (room : l.says.length ≤ w.room) where
    abbrev made : Share
    made = share_in MemoryToStream (window_of w) m l w.input

    all_made : (n : ℕ) → n ≡ l.says.length → All (Readable (window_of w) ls) (sources_from l 0 n) → n ≤ w.room
        → Along (λ (x : World). BlocksKept (window_of w) w.memory [] x.memory) n v
        (sent v (with_phase (back l) v.core) (w.output ++ beats_from (window_of w) m l 0 n) (w.room - n))
    all_made zero e r q = absurd (some (sym e))
    all_made (suc n) e r q = sending l ls (BlocksKept (window_of w) w.memory []) n 0 v m refl mode_is (omega arith) alike r q (kept-none _ _ _)

    pub send-carried : Carried w made
    send-carried =
        let n = l.says.length in
        record {
          long = ap (λ (x : Mode). wants_length x && eqb n 0) mode_is ∙ ne_eqb n 0 some;
          short = short;
          moves = subst (λ (x : ℕ). Along (λ (x : World). BlocksKept (window_of w) w.memory [] x.memory) n v
              (sent v (with_phase (back l) v.core) (w.output ++ made.made) (w.room - x)))
              (sym (length-beats w m l 0 n)) (all_made n refl reads room);
          there = omega arith;
          goes_on = refl;
        }
