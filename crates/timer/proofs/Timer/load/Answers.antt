use Rattle.words.proofs.Bytes.{all-bytes}
use Rattle.timer.proofs.InBytes.{Read, load-counter, load-zero, load-good}
use Rattle.timer.proofs.Timer.load.Goals as goal
use Rattle.timer.proofs.Timer.load.Goals.{After-get_u16-flags}

-- what the code has read, whichever way it goes on
read : (c : After-get_u16-flags)
    → Read c.args.from.now c.get_u32-counter.result c.get_u32-period.result c.get_u32-snapshot.result c.get_u16-flags.result
read c = record {
  sized = c.if-from-ne-SIZE.false;
  all_bytes = all-bytes c.args.from.now (λ i. (c.type_inv.from i).fits);
  counted = c.get_u32-counter.ensures.value;
  periods = c.get_u32-period.ensures.value;
  snapped = c.get_u32-snapshot.ensures.value;
  flagged = c.get_u16-flags.ensures.value;
}

pub returns-then-period-counter : goal.returns-then-period-counter
returns-then-period-counter c = load-counter (read (goal.at.returns-then-period-counter c).After-get_u16-flags) c.if-period-counter.true

pub returns-then-flags-ge16 : goal.returns-then-flags-ge16
returns-then-flags-ge16 c =
    load-zero (read (goal.at.returns-then-flags-ge16 c).After-get_u16-flags) c.if-period-counter.false c.if-flags-ge16.true

pub returns : goal.returns
returns c =
    load-good (read (goal.at.returns c).After-get_u16-flags) c.if-period-counter.false c.if-flags-ge16.false c.of_words.ensures
