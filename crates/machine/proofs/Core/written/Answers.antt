use mathlib.Core.Bool.{Bool, not, ◌&&◌}
use mathlib.Core.Path.{◌≡◌, sym, ap, ◌∙◌}
use Rattle.regs.specs.declared.Status.{Status}
use Rattle.regs.proofs.Offsets.{at-status, at-control, at_pointer, at_none}
use Rattle.machine.specs.State.{with_status, rested}
use Rattle.machine.proofs.Writes.{stored-by, write-resets, write-ends, write-stays}
use Rattle.machine.proofs.Core.written.Goals as goal

-- the test of the code is the one of the paper
ends : {stands runs s r b : Bool} → s ≡ stands → r ≡ runs → (s && not r) ≡ b → (stands && not runs) ≡ b
ends p q e = rw (sym p, sym q) e

pub returns-then-offset-eq-OFFSET : goal.returns-then-offset-eq-OFFSET
returns-then-offset-eq-OFFSET c = let m = c.args.self in
    record {
      value = ap (λ (s : Status). with_status s m) c.cleared-cleared.ensures.value ∙ sym (at-status _ _ _ _ _ c.if-offset-eq-OFFSET.true);
    }

pub returns-then-offset-eq-OFFSET-2 : goal.returns-then-offset-eq-OFFSET-2
returns-then-offset-eq-OFFSET-2 c = record { value = sym (at_pointer _ _ _ _ _ c.if-offset-eq-OFFSET-2.true) }

pub returns-then-offset-ne-OFFSET : goal.returns-then-offset-ne-OFFSET
returns-then-offset-ne-OFFSET c = record { value = sym (at_none _ _ _ _ _ c.if-offset-eq-OFFSET.false c.if-offset-ne-OFFSET.true c.if-offset-eq-OFFSET-2.false) }

pub returns-then-resets : goal.returns-then-resets
returns-then-resets c = record {
  value =
      c.fresh.ensures.value
      ∙ sym (write-resets _ _ (sym c.resets.ensures.value ∙ c.if-resets.true))
      ∙ sym (at-control _ _ _ _ _ c.if-offset-ne-OFFSET.false);
}

pub returns-then-ends : goal.returns-then-ends
returns-then-ends c = let a = c.args in
    record {
      value =
          c.rested.ensures
          ∙ ap rested (stored-by a.value a.self c.has-2.ensures.value c.count_from.ensures.value)
          ∙ sym (write-ends a.value a.self (sym c.resets.ensures.value ∙ c.if-resets.false) (ends c.stands.ensures c.has.ensures.value c.if-ends.true))
          ∙ sym (at-control _ _ _ _ _ c.if-offset-ne-OFFSET.false);
    }

pub returns : goal.returns
returns c = let a = c.args in
    record {
      value =
          stored-by a.value a.self c.has-2.ensures.value c.count_from.ensures.value
          ∙ sym (write-stays a.value a.self (sym c.resets.ensures.value ∙ c.if-resets.false) (ends c.stands.ensures c.has.ensures.value c.if-ends.false))
          ∙ sym (at-control _ _ _ _ _ c.if-offset-ne-OFFSET.false);
    }
