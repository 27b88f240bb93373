-- What the stream-to-memory mode gives of a share: the bytes of one descriptor, from its first Move to its WriteBack.
-- Assumes nothing.
use Prim.Native.Nat.{ℕ, zero, suc, ◌+◌, ◌≤◌, ◌<◌}
use mathlib.Core.Path.{◌≡◌, refl, sym, ap, subst, ◌∙◌}
use mathlib.Core.Logic.{◌≢◌}
use mathlib.Core.Bool.{Bool, true, false, not, cond, ◌&&◌, ◌||◌, false≢true, and-false}
use mathlib.Core.List.{List, [], ◌∷◌, append-nil}
use native.Mathlib.Nat.{zero-add, sub-zero}
use native.Mathlib.Omega.{arith}
use lib.Dec.{eqb}
use lib.ListN.{length, set, drop}
use Rattle.bus.specs.Window.{in_window, place_of}
use Rattle.descriptor.specs.Layout.{write_fixed}
use Rattle.links.specs.Form.{All, Link}
use Rattle.regs.specs.declared.Mode.{Mode}
use Rattle.regs.specs.declared.Mode.TheVariants.{StreamToMemory}
use Rattle.regs.specs.Modes.{mode_number}
use Rattle.regs.specs.Control.{stop_dma_er}
use Rattle.image.specs.Rules.{asked}
use Rattle.flow.specs.Beats.{beat_eop}
use Rattle.flow.specs.Rows.{gathered}
use Rattle.machine.specs.declared.Work.{Work}
use Rattle.machine.specs.declared.Phase.TheVariants.{Move, WriteBack}
use Rattle.machine.specs.State.{with_phase}
use Rattle.machine.specs.Step.{World, laid, received, wants_length, begun, whole, destination_of}
use Rattle.machine.specs.Laws.{Along, here, more}
use Rattle.chain.specs.Chain.{Sent, Share, wants, takes, enough, ends_packet, sent_from, share_of}
use Rattle.chain.specs.Modes.{writes}
use Rattle.chain.proofs.Lists.{all-map2, all-each}
use Rattle.chain.proofs.Memory.{placed}
use Rattle.chain.proofs.Links.{wants-some, wants-short}
use Rattle.chain.proofs.Rules.{fetched_world, received_world, with_beat, on-eop, on-count, on-more, move_step_lem}
use Rattle.chain.proofs.Blocks.{OffBytes, BlocksKept, kept-none, kept_byte}
use Rattle.chain.proofs.One.{window_of, after_bytes, Carried}

-- ---- the beats taken

-- t is what a descriptor that wants n takes of bs
pub data Takes : ℕ → List ℕ → List ℕ → Type 0 where
  by_eop : {n b : ℕ} {bs : List ℕ} → beat_eop b ≡ true → Takes (suc n) (b ∷ []) (b ∷ bs)
  by_count : {b : ℕ} {bs : List ℕ} → beat_eop b ≡ false → Takes 1 (b ∷ []) (b ∷ bs)
  goes_on : {n b : ℕ} {t bs : List ℕ} → beat_eop b ≡ false → Takes (suc n) t bs → Takes (suc (suc n)) (b ∷ t) (b ∷ bs)

takes-suc : (n : ℕ) (bs : List ℕ) → enough (suc n) bs ≡ true → Takes (suc n) (takes (suc n) bs) bs
takes-suc n [] e = absurd (false≢true e)
takes-suc n (b ∷ bs) e = by (beat_eop b) refl n e (λ m h. takes-suc m bs h)
  where
    by : (x : Bool) → beat_eop b ≡ x → (n : ℕ) → (x || enough n bs) ≡ true
        → ((m : ℕ) → enough (suc m) bs ≡ true → Takes (suc m) (takes (suc m) bs) bs) → Takes (suc n) (b ∷ cond x [] (takes n bs)) (b ∷ bs)
    by true h n e r = by_eop h
    by false h zero e r = by_count h
    by false h (suc n) e r = goes_on h (r n e)

takes-taken : (n : ℕ) (bs : List ℕ) → 0 < n → enough n bs ≡ true → Takes n (takes n bs) bs
takes-taken zero bs h e = absurd (omega arith)
takes-taken (suc n) bs h e = takes-suc n bs e

-- no more than are wanted, and no more than are there
pub takes-fit : (n : ℕ) (bs : List ℕ) → (length (takes n bs) ≤ n) × (length (takes n bs) ≤ length bs)
takes-fit zero bs = (omega arith, omega arith)
takes-fit (suc n) [] = (omega arith, omega arith)
takes-fit (suc n) (b ∷ bs) = by (beat_eop b) (takes-fit n bs)
  where
    by : (x : Bool) → (length (takes n bs) ≤ n) × (length (takes n bs) ≤ length bs)
        → (suc (length (cond x [] (takes n bs))) ≤ suc n) × (suc (length (cond x [] (takes n bs))) ≤ suc (length bs))
    by true h = (omega arith, omega arith)
    by false h = (omega (arith, h.0), omega (arith, h.1))

-- ---- the work and the world after them

abbrev worked : Work → List ℕ → Work
worked k [] = k
worked k (b ∷ t) = worked (with_beat b k) t

worked-is : (k : Work) (t : List ℕ) (n : ℕ) → k.moved + length t ≡ n
    → worked k t
    ≡ record { at = k.at; source = k.source; destination = k.destination; length = k.length; control = k.control; errors = gathered k.errors t; moved = n; eop = ends_packet k.eop t }
worked-is k [] n e =
    let all : k.moved ≡ n = omega arith in
    λ i. record { at = k.at; source = k.source; destination = k.destination; length = k.length; control = k.control; errors = k.errors; moved = all i; eop = k.eop }
worked-is k (b ∷ t) n e = worked-is (with_beat b k) t n (omega arith)

abbrev sent_of : Work → List ℕ → List Sent
sent_of k t = sent_from (write_fixed k.control.0) k.destination k.moved t

abbrev delivered_world : World → Work → List ℕ → List ℕ → World
delivered_world w k t bs =
    received w (with_phase (WriteBack (worked k t)) w.core) (writes w.core.window (sent_of k t) w.memory) (drop (length t) bs)

-- ---- the moves, with what holds of memory at each: P, kept by every byte that Q holds of

module _ (P : List ℕ → Type 0) (Q : Sent → Type 0) where
  moves : {n : ℕ} {t bs : List ℕ} → Takes n t bs → (w : World) (k : Work) → w.core.phase ≡ Move k → w.core.mode ≡ StreamToMemory
      → w.input ≡ bs → k.moved + n ≡ whole w.core k
      → ((s : Sent) → Q s → in_window w.core.window s.to 1 ≡ true)
      → ((m : List ℕ) (s : Sent) → Q s → P m → P (set m (place_of w.core.window s.to) s.byte))
      → All Q (sent_of k t) → P w.memory → Along (λ (x : World). P x.memory) (length t) w (delivered_world w k t bs)
  unfolding destination_of
  moves (by_eop {b = b} {bs = bs} h) w k p c i l inside keep q pw =
      more pw (move_step_lem w k b bs _ p c i (inside _ q.0) (on-eop w.core (with_beat b k) h)) (here (keep _ _ q.0 pw))
  moves (by_count {b = b} {bs = bs} h) w k p c i l inside keep q pw =
      more pw (move_step_lem w k b bs _ p c i (inside _ q.0) (on-count w.core (with_beat b k) h l)) (here (keep _ _ q.0 pw))
  moves (goes_on {n = n} {b = b} {t = t} {bs = bs} h r) w k p c i l inside keep q pw =
      more pw (move_step_lem w k b bs _ p c i (inside _ q.0) (on-more w.core (with_beat b k) h (omega arith)))
      (moves r (received_world w k b bs (Move (with_beat b k))) (with_beat b k) refl c refl (omega arith) inside keep q.1 (keep _ _ q.0 pw))

-- ---- a descriptor's share

module _ (w : World) (l : Link) (mode_is : w.core.mode ≡ StreamToMemory) (unstopped : stop_dma_er w.core.control ≡ false)
    (short : l.says.length < 65536) (stream : enough (wants l.says) w.input ≡ true)
    (lands : All (λ s. in_window w.core.window s.to 1 ≡ true) (share_of l w.input).sent) where
  abbrev its : List ℕ
  its = takes (wants l.says) w.input

  abbrev share : Share
  share = share_of l w.input

  abbrev begins : Work
  begins = begun l.at l.says

  delivered : delivered_world (fetched_world w l) begins its w.input ≡ after_bytes w share
  delivered =
      let v = fetched_world w l in
      let work = worked-is begins its (length its) (zero-add (length its)) in
      λ i. laid v (with_phase (WriteBack (work i)) v.core) (writes (window_of w) share.sent w.memory) (drop (length its) w.input) (sym (append-nil w.output) i) (sym (sub-zero w.room) i)

  pub carried : Carried w share
  carried =
      let want : whole (fetched_world w l).core begins ≡ wants l.says = ap (λ (x : Mode). asked (mode_number x) l.says.length) mode_is in
      let kept = BlocksKept (window_of w) w.memory share.sent in
      let fit = takes-fit (wants l.says) w.input in
      record {
        long = ap (λ (x : Mode). wants_length x && eqb l.says.length 0) mode_is;
        short = omega (arith, fit.0, wants-short l.says short);
        moves = subst (Along (λ x. kept x.memory) (length its) (fetched_world w l)) delivered
            (moves kept (λ s. (in_window (window_of w) s.to 1 ≡ true) × ((p : ℕ) → OffBytes (window_of w) share.sent p → s.to ≢ (window_of w).base + p))
            (takes-taken (wants l.says) w.input (wants-some l.says) stream) (fetched_world w l) begins refl mode_is refl (omega arith) (λ s q. q.0)
            (λ m s q h. kept_byte (window_of w) w.memory share.sent m s (placed _ _ _ q.0) q.1 h)
            (all-map2 (λ s x y. (x, y)) share.sent lands (all-each (λ (p : ℕ) (s : Sent). s.to ≢ (window_of w).base + p) share.sent))
            (kept-none _ _ _));
        there = fit.1;
        goes_on = ap (λ (b : Bool). not (eqb share.errors 0) && b) unstopped ∙ and-false (not (eqb share.errors 0));
      }
