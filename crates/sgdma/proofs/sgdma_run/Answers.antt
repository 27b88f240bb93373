use Rattle.bus.proofs.Passed.{handed-number, told-by}
use Rattle.sgdma.proofs.Running.{ran-fits, ran-keeps, ran-nowhere, run_short, report-short, run-spoiled, run-answers}
use Rattle.words.proofs.Bytes.{all-bytes}
use mathlib.Core.Path.{◌≡◌, refl, sym, subst⁻¹, ◌∙◌}
use mathlib.Core.List.{List}
use Prim.Native.Nat.{ℕ}
use borrow.Author.Rules.{rules}
use Rattle.bus.specs.Refusal.{answer_number}
use Rattle.machine.specs.Run.{Returned, lent, back}
use Rattle.sgdma.specs.Calls.{RunMade}
use Rattle.sgdma.proofs.sgdma_run.Goals as goal
use Rattle.sgdma.proofs.sgdma_run.Goals.{Else-image-ne-IMAGE, In-Ok}

pub returns-then-image-ne-IMAGE : goal.returns-then-image-ne-IMAGE
returns-then-image-ne-IMAGE c = run_short c.if-image-ne-IMAGE.true refl refl refl refl

pub returns-then-report-ne-REPORT : goal.returns-then-report-ne-REPORT
returns-then-report-ne-REPORT c = report-short c.if-image-ne-IMAGE.false c.if-report-ne-REPORT.true refl refl refl refl

pub returns-in_default : goal.returns-in_default
returns-in_default c = run-spoiled c.if-image-ne-IMAGE.false c.if-report-ne-REPORT.false (sym c.load-loaded.ensures.answer ∙ c.in_default.is) (handed-number _ _ (told-by c.in_default.is c.and.ensures)) refl refl refl

pub put_run-requires : goal.put_run-requires
put_run-requires c = let ran = c.resume.ensures.runs in
    let done = c.in_ok-r.was in
    let xs = c.args.image.now in
    let loaded = sym c.load-loaded.ensures.answer ∙ c.in-Ok.is in record { machine_value = ran-keeps ran done xs loaded (all-bytes c.args.window.now (λ i. ((goal.at.put_run-requires c).In-Ok.type_inv.window i).fits)) (all-bytes c.args.beats.now (λ i. (c.type_inv.beats i).fits)); taken_bound = ran-fits ran done c.ranges.budget.fits; image_len = (c.if-image-ne-IMAGE.false, c.if-report-ne-REPORT.false); image_value = ran-nowhere ran done xs loaded (all-bytes xs (λ i. ((goal.at.put_run-requires c).Else-image-ne-IMAGE.type_inv.image i).fits)) }

-- what comes back, slice by slice
back-as : {window window' out out' ledger ledger' : List ℕ} → window ≡ window' → out ≡ out' → ledger ≡ ledger'
    → back window out ledger ≡ back window' out' ledger'
back-as e f g = λ x. back (e x) (f x) (g x)

pub returns-in_err-r : goal.returns-in_err-r
returns-in_err-r c = let a = c.args in
    subst⁻¹ (λ (b : Returned). RunMade a.image.now (lent a.window.now a.beats.now a.out.now a.ledger.now a.used) a.budget a.report.now (answer_number c.from_residual.result) a.image.now b a.report.now)
    (back-as (search rules) (search rules) (search rules))
    (run-answers c.if-image-ne-IMAGE.false c.if-report-ne-REPORT.false (sym c.load-loaded.ensures.answer ∙ c.in-Ok.is) c.resume.ensures.runs c.in_err-r.was (handed-number _ _ c.from_residual.ensures.1) refl refl refl)

pub returns : goal.returns
returns c = let a = c.args in
    subst⁻¹ (λ (b : Returned). RunMade a.image.now (lent a.window.now a.beats.now a.out.now a.ledger.now a.used) a.budget a.report.now 0 c.put_run.new.image b c.put_run.new.report)
    (back-as (search rules) (search rules) (search rules))
    (run-answers c.if-image-ne-IMAGE.false c.if-report-ne-REPORT.false (sym c.load-loaded.ensures.answer ∙ c.in-Ok.is) c.resume.ensures.runs c.in_ok-r.was refl c.put_run.ensures.leaves.lent refl c.put_run.ensures.leaves_2.lent)
