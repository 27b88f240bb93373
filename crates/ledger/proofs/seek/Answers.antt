use Rattle.ledger.proofs.Latest.{is-latest, is-other}
use Rattle.std.proofs.Common.{◌≡◌, ℕ, ◌+◌, ◌*◌, ◌-◌, sym, ◌∙◌, arith}
use Rattle.ledger.proofs.seek.Goals as goal

-- as many bytes are lent as a record has
count : (n : ℕ) → 12 * (n - 1) + 12 - 12 * (n - 1) ≡ 12
count n = omega arith

pub returns-then-is_of : goal.returns-then-is_of
returns-then-is_of c = record {
  value = sym (c.loop-i.invariant
      ∙ is-latest _ _ c.args.ledger.now c.loop-i.i _ c.loop-i-test.true (count c.loop-i.i) c.is_of.ensures c.if-is_of.true c.get_u16.ensures.value);
}

pub loop-i-preserved : goal.loop-i-preserved
loop-i-preserved c = c.loop-i.invariant
    ∙ is-other _ _ c.args.ledger.now c.loop-i.i _ c.loop-i-test.true (count c.loop-i.i) c.is_of.ensures c.if-is_of.false
