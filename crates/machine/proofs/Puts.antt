-- Bytes put at a place of memory, byte by byte.
-- Assumes nothing.
use Prim.Native.Nat.{ℕ, suc, ◌+◌, ◌<◌}
use mathlib.Core.Path.{◌≡◌, refl, sym, ap, ◌∙◌}
use mathlib.Core.Logic.{◌≢◌}
use mathlib.Core.Bool.{Bool, true, false}
use mathlib.Core.List.{List, [], ◌∷◌}
use native.Mathlib.Omega.{arith}
use lib.Dec.{leb}
use lib.ListN.{length, get_or, set}
use lib.Seq.{sets, length-sets, get_or-set_other}
use borrow.Author.Tests.{leb-true, leb-false}
use Rattle.words.specs.Slices.{put_at}
use Rattle.words.proofs.Slices.{put-out, sets-put-at}

-- what is put keeps the length
pub length-put-at : (xs : List ℕ) (at : ℕ) (ys : List ℕ) → length (put_at xs at ys) ≡ length xs
length-put-at xs at ys = by (leb (at + length ys) (length xs)) refl
  where
    by : (b : Bool) → leb (at + length ys) (length xs) ≡ b → length (put_at xs at ys) ≡ length xs
    by true e = ap length (sym (sets-put-at xs at ys (leb-true _ _ e))) ∙ length-sets xs at ys
    by false e = ap length (put-out xs at ys (leb-false _ _ e))

sets-off : (xs : List ℕ) (at : ℕ) (ys : List ℕ) (q : ℕ) → ((j : ℕ) → j < length ys → q ≢ at + j) → get_or (sets xs at ys) q 0 ≡ get_or xs q 0
sets-off xs at [] q o = refl
sets-off xs at (y ∷ ys) q o =
    sets-off (set xs at y) (suc at) ys q (λ j h e. o (suc j) (omega arith) (omega arith))
    ∙ get_or-set_other xs at q y 0 (λ e. o 0 (omega arith) (omega arith))

-- and every byte but those put
pub put-off : (xs : List ℕ) (at : ℕ) (ys : List ℕ) (q : ℕ) → ((j : ℕ) → j < length ys → q ≢ at + j) → get_or (put_at xs at ys) q 0 ≡ get_or xs q 0
put-off xs at ys q o = by (leb (at + length ys) (length xs)) refl
  where
    by : (b : Bool) → leb (at + length ys) (length xs) ≡ b → get_or (put_at xs at ys) q 0 ≡ get_or xs q 0
    by true e = ap (λ (l : List ℕ). get_or l q 0) (sym (sets-put-at xs at ys (leb-true _ _ e))) ∙ sets-off xs at ys q o
    by false e = ap (λ (l : List ℕ). get_or l q 0) (put-out xs at ys (leb-false _ _ e))
