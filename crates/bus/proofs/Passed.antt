-- What `?` hands on: the error itself, or what an error of another type becomes.
-- Assumes nothing.
use Rattle.std.specs.Prelude.{Result, Ok, Err, IsErrAnd}
use Rattle.std.specs.Result.{result_and}
use mathlib.Core.Path.{◌≡◌, refl, ap, subst⁻¹, ◌∙◌}
use Rattle.words.specs.Promise.{Gives}
use Rattle.bus.specs.declared.Refusal.{Refusal}
use Rattle.bus.specs.Refusal.{refusal_number, answer_number}

pub handed-on : {T E : Type 0} {e : E} (r : Result T E) → IsErrAnd r (λ (x : E). x ≡ e) → r ≡ Err e
handed-on (Ok x) h = absurd h
handed-on (Err x) h = ap Err h

pub handed-as : {T E : Type 0} {e : E} (r : Result T E) → IsErrAnd r (λ (x : E). Gives e x) → r ≡ Err e
handed-as (Ok x) h = absurd h
handed-as (Err x) h = ap Err h.value

-- the number of a refusal that is handed on
pub handed-number : {T : Type 0} (why : Refusal) (r : Result T Refusal) → IsErrAnd r (λ (x : Refusal). x ≡ why)
    → answer_number r ≡ refusal_number why
handed-number why r h = ap answer_number (handed-on r h)

-- an answer that could not be opened, with `and` made that of the call
pub told-by : {T : Type 0} {why : Refusal} {l : Result T Refusal} {r : Result Unit Refusal} → l ≡ Err why → r ≡ result_and l (Ok tt)
    → IsErrAnd r (λ (x : Refusal). x ≡ why)
told-by {T} {why} e f =
    subst⁻¹ (λ (x : Result Unit Refusal). IsErrAnd x (λ (y : Refusal). y ≡ why)) (f ∙ ap (λ (x : Result T Refusal). result_and x (Ok tt)) e) refl
