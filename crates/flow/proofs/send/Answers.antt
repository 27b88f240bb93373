use Prim.Native.Nat.{ℕ, ◌+◌, ◌*◌, ◌/◌, ◌≤◌, ◌<◌}
use mathlib.Core.Path.{◌≡◌, sym, ap, ◌∙◌}
use mathlib.Core.Bool.{Bool, true, false}
use mathlib.Core.List.{List, [], ◌∷◌, ◌++◌}
use native.Mathlib.Nat.{add-zero}
use native.Mathlib.Numerals.{add-one}
use native.Mathlib.Omega.{arith}
use lib.ListN.{length, get_or, set, take-append-drop}
use Rattle.words.specs.Slices.{put}
use Rattle.words.proofs.Slices.{put-put, sets-put, length-put}
use Rattle.flow.specs.Beats.{beat_bytes}
use Rattle.flow.specs.Rows.{landing, plain, sent_over}
use Rattle.flow.proofs.Fitting.{told, both-room}
use Rattle.flow.proofs.Longer.{length-plain}
use Rattle.flow.proofs.Streams.{length-beat-bytes, bytes-more}
use Rattle.flow.proofs.send.Goals as goal

none : (xs : List ℕ) (at : ℕ) → xs ≡ put xs at []
none xs at = rw (add-zero at) (sym (take-append-drop at xs))

-- one turn
turn : (w : List ℕ) (stays : Bool) (from : ℕ) (out now : List ℕ) (made n i : ℕ) {source : ℕ} → i < n → made + n ≤ length out / 2
    → source ≡ landing stays from i → get_or w source 0 < 256 → now ≡ put out (2 * made) (beat_bytes (plain w stays from i))
    → set (set now (2 * (made + i)) 0) (2 * (made + i) + 1) (get_or w source 0) ≡ put out (2 * made) (beat_bytes (plain w stays from (i + 1)))
unfolding plain
turn w stays from out now made n i {source} h g p byte e =
    let b = get_or w source 0 in
    let front = beat_bytes (plain w stays from i) in
    let l : length front ≡ 2 * i = length-beat-bytes (plain w stays from i) ∙ ap (λ (k : ℕ). 2 * k) (length-plain w stays from i) in
    let same : length now ≡ length out = ap length e ∙ length-put out (2 * made) front (omega arith) in
    let at : 2 * (made + i) ≡ 2 * made + length front = omega arith in
    let two : set (set now (2 * (made + i)) 0) (2 * (made + i) + 1) b ≡ put now (2 * (made + i)) (0 ∷ b ∷ []) =
    rw (add-one (2 * (made + i))) (sets-put now (2 * (made + i)) (0 ∷ b ∷ []) (omega arith)) in
    let more : beat_bytes (plain w stays from (i + 1)) ≡ front ++ 0 ∷ b ∷ [] =
    rw (add-one i, ← p) (bytes-more (plain w stays from i) b byte) in
    two ∙ rw (e, at, more) (put-put out (2 * made) front (0 ∷ b ∷ []) (omega arith))

pub loop-i-init : goal.loop-i-init
unfolding plain
loop-i-init c = none c.args.out.now (2 * c.args.made)

pub loop-i-preserved : goal.loop-i-preserved
loop-i-preserved c = let a = c.args in
    turn a.window.now a.from.fixed a.from.first a.out.now c.loop-i.out a.made a.n c.loop-i.i (omega arith) (both-room c.fits.ensures c.fits-2.ensures c.if-both.true).1
    c.place.ensures (c.type_inv.window c.place.result).fits c.loop-i.invariant

pub returns-after-loop-i : goal.returns-after-loop-i
unfolding sent_over
returns-after-loop-i c = let a = c.args in
    let all : c.loop-i.i ≡ a.n = omega arith in
    record { lent = c.loop-i.invariant ∙ ap (λ (k : ℕ). put a.out.now (2 * a.made) (beat_bytes (plain a.window.now a.from.fixed a.from.first k))) all ∙ sym (told _ _ true c.fits.ensures c.fits-2.ensures c.if-both.true) }

pub returns-else-both : goal.returns-else-both
unfolding sent_over
returns-else-both c = record { lent = sym (told _ _ false c.fits.ensures c.fits-2.ensures c.if-both.false) }
