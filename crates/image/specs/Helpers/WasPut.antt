-- What `put` promises: it writes fields that may break a rule, for another crate of this repository. It is the promise of writing,
-- with another test of the fields; `wrote-unique` is its law too.
-- Assumes nothing.
use Rattle.std.specs.Prelude.{ℕ, Bool, ◌&&◌, List, Result}
use Rattle.image.specs.declared.Fields.{Fields}
use Rattle.image.specs.declared.Tail.{Tail}
use Rattle.bus.specs.declared.Refusal.{Refusal}
use Rattle.image.specs.Tests.{zero_from}
use Rattle.image.specs.Promise.{wrote_if, image_if, WroteIf}

-- each number fits its width; those that are not named do by their types
unfoldable pub fits : Fields → Tail → Bool
fits f t =
    zero_from 4 f.edition && zero_from 2 f.mode && zero_from 3 f.phase && zero_from 5 f.fault && zero_from 15 f.zero15
    && zero_from 2 t.kind && zero_from 6 t.zero6

-- 8 where a number does not fit its width: then a rule is broken too
abbrev pub image_put_of : Fields → Tail → List ℕ → Result Unit Refusal
image_put_of f t xs = wrote_if (fits f t) f t xs

abbrev pub image_put : Fields → Tail → List ℕ → List ℕ
image_put f t xs = image_if (fits f t) f t xs

abbrev pub ImageWasPut : Fields → Tail → List ℕ → Result Unit Refusal → List ℕ → Type 0
ImageWasPut f t xs r xs' = WroteIf (fits f t) f t xs r xs'
