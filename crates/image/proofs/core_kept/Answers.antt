use Rattle.image.proofs.ByPhase.{always-broken, phase-decides}
use mathlib.Core.Path.{sym, ◌∙◌}
use Rattle.image.proofs.core_kept.Goals as goal

pub returns-then-not-always_kept : goal.returns-then-not-always_kept
returns-then-not-always_kept c = sym (always-broken _ (sym c.always_kept.ensures ∙ c.if-not-always_kept.true))

pub returns-then-f-eq-MOVE : goal.returns-then-f-eq-MOVE
returns-then-f-eq-MOVE c = c.hand_kept.ensures ∙ sym (phase-decides _ (sym c.always_kept.ensures ∙ c.if-not-always_kept.false))

pub returns-then-f-eq-WRITE_BACK : goal.returns-then-f-eq-WRITE_BACK
returns-then-f-eq-WRITE_BACK c = c.hand_kept-then-f-eq-WRITE_BACK.ensures ∙ sym (phase-decides _ (sym c.always_kept.ensures ∙ c.if-not-always_kept.false))

pub returns : goal.returns
returns c = c.idle_kept.ensures ∙ sym (phase-decides _ (sym c.always_kept.ensures ∙ c.if-not-always_kept.false))
