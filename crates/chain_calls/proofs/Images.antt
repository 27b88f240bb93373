-- Every image in use loads back as the machine whose image it is.
-- Assumes nothing.
use Rattle.std.specs.Prelude.{Result, Ok, Err}
use Prim.Native.Nat.{ℕ, ◌^◌, ◌<◌}
use mathlib.Core.Path.{◌≡◌, refl, sym, ap, subst, ◌∙◌}
use mathlib.Core.Bool.{Bool, true, false, not, cond}
use mathlib.Core.List.{List}
use native.Mathlib.Omega.{arith}
use lib.Dec.{leb}
use lib.ListN.{length}
use borrow.Author.Tests.{eqb-true, eqb-false}
use Rattle.words.specs.Slices.{AllBytes}
use Rattle.bus.specs.declared.Window.{Window}
use Rattle.bus.specs.declared.Refusal.{Refusal}
use Rattle.bus.specs.declared.Refusal.TheVariants.{BadSize, BadImage}
use Rattle.bus.specs.Window.{keeps_limits}
use Rattle.regs.specs.Modes.{mode_of}
use Rattle.image.specs.declared.Fields.{Fields}
use Rattle.image.specs.declared.Tail.{Tail}
use Rattle.machine.specs.declared.Ran.{Ran}
use Rattle.image.specs.Layout.{fields, tail}
use Rattle.image.specs.Rules.{keeps_rules}
use Rattle.image.specs.Promise.{sized}
use Rattle.image.specs.Promise as image
use Rattle.image.specs.Editions.{ImageMoved}
use Rattle.image.proofs.RoundTrip.{length-image}
use Rattle.machine.specs.declared.Machine.{Machine}
use Rattle.machine.specs.State.{fresh}
use Rattle.machine.specs.Saved.{fields_of, tail_of, loaded_as, load_of}
use Rattle.machine.specs.Registers.{write_of}
use Rattle.machine.specs.Run.{HasRun}
use Rattle.machine.proofs.Answers.{was-loaded, was-written}
use Rattle.met.specs.Met.{Met}
use Rattle.met.specs.Met as met
use Rattle.met.proofs.RoundTrip.{loaded-typed, loads-exactly}
use Rattle.met.proofs.Editions.{moved-loads}
use Rattle.sgdma.specs.Calls.{image_of, is_size, if_done, Created, written_in, written_over, RegisterWritten, run_call, ran_over}
use Rattle.sgdma.proofs.Opened.{second-wrong}
use Rattle.chain_calls.specs.InC.{RunLent, RunLeft, Promised}
use Rattle.chain_calls.specs.Images.{LoadsBack}
use Rattle.chain_calls.specs.Images as images
use Rattle.chain_calls.specs.Theorems.{ImagesLoad}
use Rattle.chain_calls.proofs.OfCalls.{loads-as, written_over_lem, run_as, runs_as, has-run}

-- ---- the image of a machine met in use

-- bytes that load keep the rules
rules-kept : (f : Fields) (t : Tail) (size rules : Bool) (n : ℕ) {m : Machine}
    → loaded_as t (cond size (cond rules (Ok f) (Err (BadImage n))) (Err BadSize)) ≡ Ok m → not rules ≡ false
rules-kept f t true true n e = refl
rules-kept f t true false n e = absurd (let z : ◌≡◌ {A = ℕ} 0 1 = cc in omega arith)
rules-kept f t false rules n e = absurd (let z : ◌≡◌ {A = ℕ} 0 1 = cc in omega arith)

loads-back : {xs : List ℕ} {m : Machine} → Met m → xs ≡ image_of m → LoadsBack xs
unfolding load_of image.read_of
loads-back {xs} {m} h e =
    let l : load_of xs ≡ Ok m = ap load_of e ∙ loads-as h in
    record { machine = m; met = h; image = e; loads = l; not_8 = rules-kept (fields xs) (tail xs) (sized xs) (keeps_rules (fields xs) (tail xs)) _ l }

-- ---- each way to come by one

-- create gives back 0 only where the window keeps its limits
pub limits-kept : (size mode limits : Bool) → ◌≡◌ {A = ℕ} 0 (cond size (cond mode (cond limits 0 3) 2) 7) → limits ≡ true
limits-kept true true true e = refl
limits-kept true true false e = absurd (omega arith)
limits-kept true false limits e = absurd (omega arith)
limits-kept false mode limits e = absurd (omega arith)

created-back : {xs ys : List ℕ} {mode base length : ℕ} → Created xs mode base length 0 ys → LoadsBack ys
created-back {xs} {mode = mode} {base} {length} c =
    let w : Window = record { base = base; length = length } in
    loads-back (met.fresh (mode_of mode) w (limits-kept (sized xs) (leb mode 2) (keeps_limits base length) c.number))
    (c.image_after ∙ ap (λ (n : ℕ). if_done n (image_of (fresh (mode_of mode) w)) xs) (sym c.number))

loaded-back : {xs : List ℕ} {m : Machine} → AllBytes xs → load_of xs ≡ Ok m → LoadsBack xs
loaded-back {xs} {m} g e =
    let l = was-loaded (sym e) in
    loads-back (met.loaded l) ((loads-exactly xs m g (loaded-typed l)).0 l).1

-- a write over one, done or refused
module _ {xs ys : List ℕ} {offset v r : ℕ} (b : LoadsBack xs) (bits : v < 2 ^ 32) (w : RegisterWritten xs offset v r ys) where
  write-back : (a : Result Machine Refusal) → write_of b.machine offset v ≡ a → LoadsBack ys
  write-back (Ok n) e = loads-back (met.written b.met bits (was-written (sym e))) (written_over_lem b.loads e w).1
  write-back (Err why) e =
      let a : written_in (load_of xs) offset v ≡ Err why = ap (λ (x : Result Machine Refusal). written_in x offset v) b.loads ∙ e in
      subst LoadsBack (sym (w.image_after ∙ ap (λ (x : Result Machine Refusal). written_over x xs) a)) b

-- a run over one, done or refused
module _ {x : RunLent} {y : RunLeft} (b : LoadsBack x.image) (window : AllBytes x.lent.window) (beats : AllBytes x.lent.beats)
    (p : Promised x y) where
  abbrev call : Result Ran Refusal
  call = run_call x.image x.lent x.budget x.report

  size : length x.image ≡ 85
  size = ap length b.image ∙ length-image (fields_of b.machine.core) (tail_of b.machine)

  refused-back : {why : Refusal} → call ≡ Err why → LoadsBack y.image
  refused-back e = subst LoadsBack (sym (p.image_after ∙ ap (λ (a : Result Ran Refusal). ran_over a x.image) e)) b

  module _ (report_size : length x.report ≡ 18) where
    run-back : (a : Result Ran Refusal) → run_as x size report_size b.loads ≡ a → LoadsBack y.image
    run-back (Ok r) e =
        let h : HasRun b.machine x.lent x.budget (Ok r) y.back =
        subst (λ (a : Result Ran Refusal). HasRun b.machine x.lent x.budget a y.back) e
        (has-run x size report_size b.loads y p) in
        loads-back (met.ran b.met window beats h)
        (p.image_after ∙ ap (λ (a : Result Ran Refusal). ran_over a x.image) (runs_as x size report_size b.loads ∙ e))
    run-back (Err why) e = refused-back (runs_as x size report_size b.loads ∙ e)

  by-report : (k : Bool) → is_size 18 x.report ≡ k → LoadsBack y.image
  unfolding run_call
  by-report true e = run-back (eqb-true _ _ e) _ refl
  by-report false e = refused-back (second-wrong _ _ 18 x.image x.report size (eqb-false _ _ e))

-- a move that was done, of an image of either edition
moved_back : (xs to : List ℕ) {ys : List ℕ} → AllBytes xs → length to ≡ 85 → ImageMoved xs to 0 ys → LoadsBack ys
moved_back xs to {ys} g l m = let loads = moved-loads xs to ys g l m in loaded-back loads.1 loads.2

-- Every image in use loads back.
pub images-load : ImagesLoad
images-load _ (images.created c) = created-back c
images-load _ (images.loaded g e) = loaded-back g e
images-load _ (images.written h v w) = write-back (images-load _ h) v w _ refl
images-load _ (images.ran h g b p) = by-report (images-load _ h) g b p _ refl
images-load _ (images.moved xs to g l m) = moved_back xs to g l m
