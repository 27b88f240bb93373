-- A step in WriteBack.
-- Assumes nothing.
use Prim.Native.Nat.{ℕ, zero, suc, ◌+◌, ◌≤◌}
use mathlib.Core.Path.{◌≡◌, refl, sym, ap, ◌∙◌}
use mathlib.Core.Bool.{Bool, true, false, not, ◌&&◌, ◌||◌}
use mathlib.Core.List.{[], ◌∷◌}
use native.Mathlib.Omega.{arith}
use lib.Dec.{eqb, leb}
use borrow.Author.Tests.{eq-eqb, leb-false}
use Rattle.words.specs.declared.Order.TheVariants.{LeastFirst}
use Rattle.words.specs.Orders.{row_bytes}
use Rattle.words.specs.Slices.{put_at}
use Rattle.bus.specs.declared.Window.{Window}
use Rattle.bus.specs.Window.{place_of}
use Rattle.regs.specs.declared.Mode.{Mode}
use Rattle.regs.specs.declared.Count.{Count}
use Rattle.regs.specs.Control.{run, stop_dma_er, max_desc_processed, counted}
use Rattle.image.proofs.Tests.{and_left}
use Rattle.machine.specs.declared.Core.{Core}
use Rattle.machine.specs.declared.Work.{Work}
use Rattle.machine.specs.Step.{World, wants_length, written_control, written_back, after_back, completed, back_to, write_back_step}
use Rattle.met.proofs.Kept.{Hand, InPhase, RulesKept, on, neither}
use Rattle.met.proofs.Memory.{row-bytes, put-bytes, length-put-at}
use Rattle.met.proofs.Worlds.{KeptWorld, Leads, laid_kept}

-- the count stays below MAX
counted-le : (count max : ℕ) → max ≤ 255 → (counted count max).count ≤ 254
unfolding counted
counted-le count max h =
    on (λ (c : Count). c.count ≤ 254) (eqb max 0) (λ e. omega arith)
    (λ e. on (λ (c : Count). c.count ≤ 254) (leb max (count + 1)) (λ f. omega arith) (λ f. let l = leb-false max (count + 1) f in omega arith))

-- where there is no mark and none to set, there is none after
no_more : (a b c d : Bool) → (a || b) ≡ false → c ≡ false → d ≡ false → (a || c || (b || d)) ≡ false
no_more a b c d e p q = rw ((neither a b e).0, (neither a b e).1, p, q)

-- RUN 0: Rest, BUSY 0; errors with STOP_DMA_ER: Halted, BUSY 0; else Fetch
back-phase : (mode : Mode) (w : Window) (runs halts : Bool) → (halts ≡ true → wants_length mode ≡ false)
    → InPhase mode w (runs && not halts) runs (after_back runs halts)
back-phase mode w true true h = (refl, refl, h refl)
back-phase mode w true false h = refl
back-phase mode w false halts h = refl

module _ {m : Core} (k : RulesKept m) (d : Work) (h : Hand m.mode m.window d) where
  -- errors only in mode 2
  failed-streams : (b : Bool) → wants_length m.mode ≡ b → not (eqb d.errors 0) ≡ true → b ≡ false
  failed-streams true r f = sym f ∙ ap not (eq-eqb _ _ (h.clean r))
  failed-streams false r f = refl

  completed-kept : RulesKept (completed m d)
  unfolding completed
  completed-kept =
      record {
        limits = k.limits;
        marks = λ r. no_more m.status.error m.status.eop _ _ (k.marks r) (ap not (eq-eqb _ _ (h.clean r))) (h.no_eop r);
        control = k.control;
        pointer = k.pointer;
        count = counted-le m.count (max_desc_processed m.control) (omega arith);
        phase = back-phase m.mode m.window (run m.control) (not (eqb d.errors 0) && stop_dma_er m.control)
            (λ t. failed-streams _ refl (and_left _ (stop_dma_er m.control) t));
      }

back-after : {w : World} → KeptWorld w → (d : Work) → Hand w.core.mode w.core.window d → (left : ℕ) → Leads (back_to w d left)
unfolding written_back completed
back-after h d g zero = tt
back-after {w} h d g (suc left) =
    let at = place_of w.core.window d.at + 28 in
    let numbers = d.moved ∷ d.errors ∷ written_control w.core d ∷ [] in
    let four = row_bytes LeastFirst (2 ∷ 1 ∷ 1 ∷ []) numbers in
    let k =
    laid_kept h (completed w.core d) (put_at w.memory at four) w.input w.output w.room refl refl (completed-kept h.core d g) (length-put-at w.memory at four)
    (put-bytes w.memory at four h.memory (row-bytes LeastFirst (2 ∷ 1 ∷ 1 ∷ []) numbers)) h.input in
    record { core = k.core; slot = k.slot; run = k.run; size = k.size; memory = k.memory; input = k.input }

pub write-back-after : {w : World} → KeptWorld w → (d : Work) → Hand w.core.mode w.core.window d → Leads (write_back_step w d)
unfolding write_back_step
write-back-after {w} h d g = back-after h d g w.left
