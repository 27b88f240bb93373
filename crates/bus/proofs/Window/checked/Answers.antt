use Rattle.bus.proofs.Limits.{was-checked, checked-good, too_long, too-high, past_end}
use native.Mathlib.Omega.{arith}
use mathlib.Core.Path.{sym}
use Rattle.bus.proofs.Window.checked.Goals as goal

pub returns-then-length-gt-LONGEST : goal.returns-then-length-gt-LONGEST
returns-then-length-gt-LONGEST c = was-checked (sym (too_long _ _ (omega arith)))

pub returns-then-base-ge-ADDRESSES : goal.returns-then-base-ge-ADDRESSES
returns-then-base-ge-ADDRESSES c = was-checked (sym (too-high _ _ (omega arith) (omega arith)))

pub returns-then-length-base : goal.returns-then-length-base
returns-then-length-base c = was-checked (sym (past_end _ _ (omega arith) (omega arith) (omega arith)))

pub returns : goal.returns
returns c = was-checked (sym (checked-good _ _ (omega arith) (omega arith) (omega arith)))
