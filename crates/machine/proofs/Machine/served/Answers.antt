use Prim.Native.Nat.{ℕ}
use Rattle.bus.specs.declared.Refusal.TheVariants.{OtherWindow}
use Rattle.machine.specs.Run.{serves, refused, even, lent, served_if}
use Rattle.ledger.specs.Records.{is_ledger}
use lib.ListN.{length}
use lib.Dec.{eqb}
use mathlib.Core.Bool.{Bool, true, false, cond, ◌&&◌}
use mathlib.Core.Path.{◌≡◌, refl, sym, ◌∙◌}
use borrow.Author.Tests.{eq-eqb, ne_eqb}
use Rattle.machine.proofs.Machine.served.Goals as goal
use Rattle.machine.proofs.Machine.served.Goals.{Start}

-- past the ledger the window decides
decided : (c : Start) {same : Bool} → c.args.good ≡ true → (even c.args.loan.now.beats.now && even c.args.loan.now.out.now) ≡ true
    → is_ledger (length c.args.loan.now.ledger.now) c.args.loan.now.used ≡ true → {size : ℕ} → size ≡ c.args.self.core.window.length → eqb (length c.args.loan.now.window.now) size ≡ same
    → cond same serves (refused OtherWindow)
    ≡ served_if c.args.good c.args.self (lent c.args.loan.now.window.now c.args.loan.now.beats.now c.args.loan.now.out.now c.args.loan.now.ledger.now c.args.loan.now.used)
decided c good evens whole told window = rw (good, evens, whole, ← told, window) refl

pub returns-then-not-good : goal.returns-then-not-good
returns-then-not-good c = let bad : c.args.good ≡ false = c.if-not-good.true in
    rw (bad, c.spoiled.ensures)

pub returns-then-not-even : goal.returns-then-not-even
returns-then-not-even c = let a = c.args in
    let evens : (even a.loan.now.beats.now && even a.loan.now.out.now) ≡ false = c.if-not-even.true in
    let good : a.good ≡ true = c.if-not-good.false in
    rw (good, evens)

pub returns-then-not-serves : goal.returns-then-not-serves
returns-then-not-serves c = let a = c.args in
    let evens : (even a.loan.now.beats.now && even a.loan.now.out.now) ≡ true = c.if-not-even.false in
    let good : a.good ≡ true = c.if-not-good.false in
    let bad : is_ledger (length a.loan.now.ledger.now) a.loan.now.used ≡ false = sym c.serves.ensures.value ∙ c.if-not-serves.true in
    rw (good, evens, bad)

pub returns-then-loan-size : goal.returns-then-loan-size
returns-then-loan-size c = decided (goal.at.returns-then-loan-size c).Start c.if-not-good.false
    c.if-not-even.false
    (sym c.serves.ensures.value ∙ c.if-not-serves.false) c.size.ensures.value (ne_eqb _ _ c.if-loan-size.true)

pub returns : goal.returns
returns c = decided (goal.at.returns c).Start c.if-not-good.false
    c.if-not-even.false
    (sym c.serves.ensures.value ∙ c.if-not-serves.false) c.size.ensures.value (eq-eqb _ _ c.if-loan-size.false)
