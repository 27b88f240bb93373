-- What reading and writing an image promise: the answer, and every lent byte after the call, on refusal too.
-- Assumes nothing.
use Rattle.std.specs.Prelude.{ℕ, ◌+◌, ◌*◌, ◌≡◌, Bool, cond, ◌&&◌, List, length, eqb, Result, Ok, Err}
use Rattle.std.proofs.Common.{sym, ◌∙◌}
use Rattle.bus.specs.declared.Refusal.TheVariants.{BadSize, BadImage}
use Rattle.bus.specs.Refusal.{answer_number}
use Rattle.image.specs.declared.Fields.{Fields}
use Rattle.image.specs.declared.Tail.{Tail}
use Rattle.bus.specs.declared.Refusal.{Refusal}
use Rattle.image.specs.Layout.{size_of, latest, image, fields, tail}
use Rattle.image.specs.Rules.{lowest_broken, keeps_rules}

-- a lent image of the right size
abbrev pub sized : List ℕ → Bool
sized xs = eqb (length xs) (size_of latest)

-- 7 where the size is wrong; else 8 where a rule is broken, with the lowest field that breaks one; else the fields
unfoldable pub read_of : List ℕ → Result Fields Refusal
read_of xs =
    let f = fields xs in
    let t = tail xs in
    cond (sized xs) (cond (keeps_rules f t) (Ok f) (Err (BadImage (lowest_broken f t)))) (Err BadSize)

-- what is written where fields are good: 7 where the size is wrong; else 8 where they are not, with the lowest field that breaks a
-- rule; else done
unfoldable pub wrote_if : (good : Bool) → Fields → Tail → List ℕ → Result Unit Refusal
wrote_if good f t xs = cond (sized xs) (cond good (Ok tt) (Err (BadImage (lowest_broken f t)))) (Err BadSize)

-- the lent bytes after: the image, or what they were where the call is refused
unfoldable pub image_if : (good : Bool) → Fields → Tail → List ℕ → List ℕ
image_if good f t xs = cond (sized xs && good) (image f t) xs

-- writing wants the rules kept: 8 where the fields break one
abbrev pub wrote_of : Fields → Tail → List ℕ → Result Unit Refusal
wrote_of f t xs = wrote_if (keeps_rules f t) f t xs

abbrev pub image_over : Fields → Tail → List ℕ → List ℕ
image_over f t xs = image_if (keeps_rules f t) f t xs

-- 7 BadSize, then 8 BadImage with its field, else 0: the paper's numbers written out, so that `refusal_number` is held to them
abbrev pub image_number : (right good : Bool) → Fields → Tail → ℕ
image_number right good f t = cond right (cond good 0 (8 + 256 * lowest_broken f t)) 7

-- ---- the promises

-- read
pub record ImageWasRead (xs : List ℕ) (r : Result Fields Refusal) : Type 0 where
  pub answer : r ≡ read_of xs
  pub number : answer_number r ≡ image_number (sized xs) (keeps_rules (fields xs) (tail xs)) (fields xs) (tail xs)

-- written where fields are good
pub record WroteIf (good : Bool) (f : Fields) (t : Tail) (xs : List ℕ) (r : Result Unit Refusal) (xs' : List ℕ) : Type 0 where
  pub answer : r ≡ wrote_if good f t xs
  pub number : answer_number r ≡ image_number (sized xs) good f t
  pub lent : xs' ≡ image_if good f t xs

-- write
abbrev pub Wrote : Fields → Tail → List ℕ → Result Unit Refusal → List ℕ → Type 0
Wrote f t xs r xs' = WroteIf (keeps_rules f t) f t xs r xs'

pub image-read-unique : {xs : List ℕ} {r s : Result Fields Refusal} → ImageWasRead xs r → ImageWasRead xs s → r ≡ s
image-read-unique p q = p.answer ∙ sym q.answer

pub wrote-unique : {good : Bool} {f : Fields} {t : Tail} {xs ys zs : List ℕ} {r s : Result Unit Refusal}
    → WroteIf good f t xs r ys → WroteIf good f t xs s zs → (r ≡ s) × (ys ≡ zs)
wrote-unique p q = (p.answer ∙ sym q.answer, p.lent ∙ sym q.lent)
