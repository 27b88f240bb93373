use mathlib.Core.Bool.{Bool, true, false, ◌&&◌}
use mathlib.Core.Path.{◌≡◌, refl, sym, ◌∙◌}
use lib.Dec.{eqb}
use Rattle.descriptor.specs.Looking.{is_zero}
use Rattle.image.specs.declared.Fields.{Fields}
use Rattle.image.specs.declared.Tail.{Tail}
use Rattle.image.specs.Slot.{held_kept, slot_at_kept, slot_bytes_kept}
use Rattle.image.specs.Rules.{keeps_rules}
use Rattle.image.specs.Helpers.ByPhase.{core_kept}
use Rattle.image.proofs.ByPhase.{kept-in-parts}
use Rattle.image.proofs.keeps.Goals as goal

joined : (core held zero at bytes : Bool) → (core && held && zero && at && bytes) ≡ (core && (held && zero && at && bytes))
joined true held zero at bytes = refl
joined false held zero at bytes = refl

-- the tests as the code joins them
in-tests : (f : Fields) (t : Tail)
    → (core_kept f && held_kept f.phase t.kind && eqb t.zero6 0 && slot_at_kept f.base f.window f.pointer t.kind t.at && slot_bytes_kept t.kind (is_zero t.raw))
    ≡ keeps_rules f t
in-tests f t =
    joined (core_kept f) (held_kept f.phase t.kind) (eqb t.zero6 0) (slot_at_kept f.base f.window f.pointer t.kind t.at) (slot_bytes_kept t.kind (is_zero t.raw))
    ∙ sym (kept-in-parts f t)

pub returns : goal.returns
returns c = record { value = rw (c.core_kept.ensures, c.held_kept.ensures, c.slot_at_kept.ensures, c.slot_bytes_kept.ensures) (in-tests _ _) }
