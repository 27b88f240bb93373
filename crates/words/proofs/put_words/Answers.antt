use Prim.Native.Nat.{ℕ, ◌+◌, ◌*◌, ◌≤◌, ◌<◌}
use mathlib.Core.Path.{◌≡◌, sym, ap, ◌∙◌}
use mathlib.Core.List.{List, [], ◌∷◌, ◌++◌, append-nil}
use native.Mathlib.Numerals.{add-one}
use native.Mathlib.Omega.{arith}
use lib.ListN.{length, take, get_or}
use lib.Seq.{take-suc, take_all, length-take-le}
use borrow.Author.Rules.{rules}
use Rattle.words.specs.declared.Order.{Order}
use Rattle.words.specs.Orders.{bytes_of, word_bytes}
use Rattle.words.specs.Slices.{put, put_at}
use Rattle.words.proofs.Orders.{length-bytes, length-words, words_append}
use Rattle.words.proofs.Slices.{put_in, put-out, put-none, put-put, length-put}
use Rattle.words.proofs.put_words.Goals as goal

-- what one turn adds
turn : (order : Order) (xs ys : List ℕ) (at : ℕ) (ws : List ℕ) (i : ℕ) → i < length ws → at + 4 * length ws ≤ length xs
    → ys ≡ put xs at (word_bytes order (take i ws))
    → put_at ys (at + 4 * i) (bytes_of order 4 (get_or ws i 0)) ≡ put xs at (word_bytes order (take (i + 1) ws))
turn order xs ys at ws i h f e =
    let front = word_bytes order (take i ws) in
    let word = bytes_of order 4 (get_or ws i 0) in
    let l : length front ≡ 4 * i = length-words order (take i ws) ∙ ap (λ (n : ℕ). 4 * n) (length-take-le i ws (omega arith)) in
    let same : length ys ≡ length xs = ap length e ∙ length-put xs at front (omega arith) in
    let more : word_bytes order (take (i + 1) ws) ≡ front ++ word =
    rw (add-one i, take-suc ws i 0 h, words_append order (take i ws) (get_or ws i 0 ∷ []), append-nil) in
    put_in ys (at + 4 * i) word (omega (arith, length-bytes order 4 (get_or ws i 0)))
    ∙ rw (e, ← l, more) (put-put xs at front word (omega arith))

pub returns-then-to-ws : goal.returns-then-to-ws
returns-then-to-ws c = record { lent = sym (put-out _ _ _ (omega (arith, length-words c.args.order c.args.ws.now))) }

pub loop-i-init : goal.loop-i-init
loop-i-init c = sym (put-none c.args.to.now c.args.at)

pub loop-i-preserved : goal.loop-i-preserved
loop-i-preserved c = let a = c.args in
    c.put_u32.ensures.lent ∙ turn a.order a.to.now c.loop-i.to a.at a.ws.now c.loop-i.i (search rules) (omega arith) c.loop-i.invariant

pub returns : goal.returns
returns c = let a = c.args in
    let all : take c.loop-i.i a.ws.now ≡ a.ws.now = take_all c.loop-i.i a.ws.now (omega arith) in
    record {
      lent = c.loop-i.invariant ∙ ap (λ (ws : List ℕ). put a.to.now a.at (word_bytes a.order ws)) all
          ∙ sym (put_in a.to.now a.at _ (omega (arith, length-words a.order a.ws.now)));
    }
