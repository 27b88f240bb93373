-- One C call over the image of a machine, and the machine between the calls of a chain: the image between two calls is that of a machine met in
-- use, and loads back as it. So what the calls promise over images is what the methods promise over machines.
-- Assumes nothing.
use Rattle.bus.specs.Refusal.{answer_number}
use Rattle.std.specs.Prelude.{Result, Ok}
use Prim.Native.Nat.{ℕ, ◌<◌}
use mathlib.Core.Path.{◌≡◌, refl, sym, ap, subst, ◌∙◌}
use mathlib.Core.Bool.{true}
use mathlib.Core.List.{List, [], ◌∷◌}
use lib.Dec.{leb}
use lib.ListN.{length}
use borrow.Author.Tests.{eq-eqb}
use Rattle.words.specs.Slices.{AllBytes}
use Rattle.regs.specs.declared.Mode.{Mode}
use Rattle.regs.specs.declared.Mode.TheVariants.{MemoryToMemory, MemoryToStream, StreamToMemory}
use Rattle.regs.specs.Modes.{mode_number, mode_of}
use Rattle.machine.specs.declared.Machine.{Machine}
use Rattle.bus.specs.declared.Refusal.{Refusal}
use Rattle.machine.specs.declared.Ran.{Ran}
use Rattle.machine.specs.State.{fresh}
use Rattle.machine.specs.Saved.{load_of}
use Rattle.machine.specs.Registers.{written_to, write_of}
use Rattle.machine.specs.Run.{served_of, world_of, run_answer, HasRun}
use Rattle.machine.proofs.Answers.{was-written, run-number}
use Rattle.met.specs.Met.{Met}
use Rattle.met.specs.Met as met
use Rattle.met.proofs.RoundTrip.{loads}
use Rattle.met.proofs.InUse.{met-sound}
use Rattle.links.specs.Form.{All}
use Rattle.chain.proofs.OfRun.{pointer-done, control-done}
use Rattle.sgdma.specs.Calls.{image_of, create_number, if_done, written_in, written_over, RegisterWritten, run_in, run_call, returned_in}
use Rattle.sgdma.proofs.Opened.{sizes-right}
use Rattle.chain_calls.specs.InC.{RunLent, RunLeft, Promised, Lends, WellLent, run_lent, CalledIn}

-- what a window holds is bytes
pub are-all-bytes : (xs : List ℕ) → All (λ x. x < 256) xs → AllBytes xs
are-all-bytes [] h = tt
are-all-bytes (x ∷ xs) h = (h.0, are-all-bytes xs h.1)

-- ---- one call over the image of a machine

-- the image of a machine met in use loads as it
pub loads-as : {m : Machine} → Met m → load_of (image_of m) ≡ Ok m
loads-as {m} h = loads m (met-sound h).typed (met-sound h).rules

-- a write that a machine does not refuse, over its image
pub written_over_lem : {xs ys : List ℕ} {m n : Machine} {offset v r : ℕ}
    → load_of xs ≡ Ok m → write_of m offset v ≡ Ok n → RegisterWritten xs offset v r ys → (r ≡ 0) × (ys ≡ image_of n)
written_over_lem {xs} {ys} {m} {n} {offset} {v} e d w =
    let a : written_in (load_of xs) offset v ≡ Ok n = ap (λ (x : Result Machine Refusal). written_in x offset v) e ∙ d in
    (w.number ∙ ap answer_number a, w.image_after ∙ ap (λ (x : Result Machine Refusal). written_over x xs) a)

-- a run over an image that loads is the machine's run
module _ (x : RunLent) {m : Machine} (size : length x.image ≡ 85) (report_size : length x.report ≡ 18) (e : load_of x.image ≡ Ok m) where
  abbrev pub run_as : Result Ran Refusal
  run_as = run_answer x.lent (served_of m x.lent) (world_of m x.lent) x.budget

  pub runs_as : run_call x.image x.lent x.budget x.report ≡ run_as
  unfolding run_call
  runs_as =
      sizes-right _ _ 18 x.image x.report size report_size
      ∙ ap (λ (y : Result Machine Refusal). run_in y x.lent x.budget) e

  pub has-run : (y : RunLeft) → Promised x y → HasRun m x.lent x.budget run_as y.back
  has-run y p =
      record {
        answer = refl;
        number = run-number x.lent (served_of m x.lent) _ x.budget;
        back = p.back ∙ sizes-right _ _ 18 x.image x.report size report_size ∙ ap (λ (y : Result Machine Refusal). returned_in y x.lent x.budget) e;
      }

-- ---- the machine between the calls

mode-low : (mode : Mode) → leb (mode_number mode) 2 ≡ true
mode-low MemoryToMemory = refl
mode-low MemoryToStream = refl
mode-low StreamToMemory = refl

mode-of : (mode : Mode) → mode_of (mode_number mode) ≡ mode
mode-of MemoryToMemory = refl
mode-of MemoryToStream = refl
mode-of StreamToMemory = refl

module _ (mode : Mode) {l : Lends} (w : WellLent l) where
  abbrev pub m0 : Machine
  m0 = fresh mode l.window

  abbrev pub m1 : Machine
  m1 = written_to m0 8 l.pointer

  abbrev pub m2 : Machine
  m2 = written_to m1 4 l.control

  pub pointed-as : write_of m0 8 l.pointer ≡ Ok m1
  pointed-as = pointer-done mode l.window w.limits l.pointer (was-written refl)

  pub started-as : write_of m1 4 l.control ≡ Ok m2
  started-as = control-done mode l.window w.limits l.pointer l.control (was-written refl)

  met0 : Met m0
  met0 = met.fresh mode l.window w.limits

  met1 : Met m1
  met1 = met.written met0 w.pointer_bits (was-written (sym pointed-as))

  pub met2 : Met m2
  met2 = met.written met1 w.control_bits (was-written (sym started-as))

  module _ {created pointed started : ℕ} {left : RunLeft} (c : CalledIn mode l created pointed started left) where
    pub creates : create_number l.image (mode_number mode) l.window.base l.window.length ≡ 0
    creates = rw (eq-eqb (length l.image) 85 w.image_size, mode-low mode, w.limits)

    x1-is : c.x1 ≡ image_of m0
    x1-is =
        c.create.image_after ∙ ap (λ (n : ℕ). if_done n (image_of (fresh (mode_of (mode_number mode)) l.window)) l.image) creates
        ∙ ap (λ (m : Mode). image_of (fresh m l.window)) (mode-of mode)

    pub x2-is : (pointed ≡ 0) × (c.x2 ≡ image_of m1)
    x2-is = written_over_lem (ap load_of x1-is ∙ loads-as met0) pointed-as c.point

    pub x3-is : (started ≡ 0) × (c.x3 ≡ image_of m2)
    x3-is = written_over_lem (ap load_of x2-is.1 ∙ loads-as met1) started-as c.start

    pub run_is : Promised (run_lent l (image_of m2)) left
    run_is = subst (λ (x : List ℕ). Promised (run_lent l x) left) x3-is.1 c.run
