use Prim.Native.Nat.{ℕ, ◌+◌, ◌<◌}
use mathlib.Core.Path.{◌≡◌, sym, ap, ◌∙◌}
use mathlib.Core.List.{List, [], ◌∷◌, ◌++◌}
use native.Mathlib.Numerals.{add-one}
use native.Mathlib.Omega.{arith}
use lib.ListN.{length, get_or, set}
use borrow.Author.Rules.{rules}
use Rattle.words.specs.Slices.{put}
use Rattle.words.proofs.Slices.{put_next, put_in, put_all}
use Rattle.image.specs.Helpers.InBytes.{resized}
use Rattle.image.proofs.Moved.{resized-next, length-resized}
use Rattle.image.proofs.moves.copy_front.Goals as goal

-- what one turn adds
turn : (xs ys now : List ℕ) (i : ℕ) {v : ℕ} → i < length ys → now ≡ put ys 0 (resized i xs) → v ≡ get_or xs i 0
    → set now i v ≡ put ys 0 (resized (i + 1) xs)
turn xs ys now i {v} h e p =
    let l : length (resized i xs) ≡ i = length-resized i xs in
    let more : resized (i + 1) xs ≡ resized i xs ++ (v ∷ []) = rw (add-one i, p) (resized-next i xs) in
    ap (λ (zs : List ℕ). set zs i v) e
    ∙ ap (λ (k : ℕ). set (put ys 0 (resized i xs)) k v) (sym l ∙ omega arith)
    ∙ put_next ys 0 (resized i xs) v (omega arith)
    ∙ ap (put ys 0) (sym more)

pub loop-i-preserved : goal.loop-i-preserved
loop-i-preserved c = let a = c.args in
    let v : c.unwrap_or.result ≡ get_or a.from.now c.loop-i.i 0 = search rules in
    turn a.from.now a.to.now c.loop-i.to c.loop-i.i (search rules) c.loop-i.invariant v

pub returns : goal.returns
returns c = let a = c.args in
    let all : c.loop-i.i ≡ length a.to.now = omega arith in
    let size : length (resized (length a.to.now) a.from.now) ≡ length a.to.now = length-resized _ _ in
    record {
      lent = c.loop-i.invariant ∙ ap (λ (n : ℕ). put a.to.now 0 (resized n a.from.now)) all
          ∙ sym (put_in a.to.now 0 _ (omega arith)) ∙ put_all a.to.now _ size;
    }
