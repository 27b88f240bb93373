-- What tests put together tell of their parts.
-- Assumes nothing.
use Prim.Native.Nat.{ℕ}
use mathlib.Core.Path.{◌≡◌, refl, sym}
use mathlib.Core.Bool.{Bool, true, false, not, ◌&&◌, ◌||◌, true≢false}
use lib.Dec.{eqb, ltb}
use borrow.Author.Tests.{eqb-true}
use Rattle.image.specs.Rules.{◌⇒◌, ◌exactly◌}

pub and_left : (a b : Bool) → (a && b) ≡ true → a ≡ true
and_left true b e = refl
and_left false b e = e

pub and_right : (a b : Bool) → (a && b) ≡ true → b ≡ true
and_right true b e = e
and_right false b e = absurd (true≢false (sym e))

pub second : (a b c : Bool) → (a && b && c) ≡ true → b ≡ true
second a b c e = and_right a b (and_left (a && b) c e)

pub three : (a b c : Bool) → (a && b && c) ≡ true → (a ≡ true) × (b ≡ true) × (c ≡ true)
three true b c e = (refl, and_left b c e, and_right b c e)
three false b c e = absurd (true≢false (sym e))

pub four : (a b c d : Bool) → (a && b && c && d) ≡ true → (a ≡ true) × (b ≡ true) × (c ≡ true) × (d ≡ true)
four true b c d e = (refl, (three b c d e).0, (three b c d e).1, (three b c d e).2)
four false b c d e = absurd (true≢false (sym e))

pub both : {a b : Bool} → a ≡ true → b ≡ true → (a && b) ≡ true
both p q = rw (p, q)

pub then : (a b : Bool) → (a ⇒ b) ≡ true → a ≡ true → b ≡ true
then true b e h = e
then false b e h = absurd (true≢false (sym h))

pub else : (a b : Bool) → (a || b) ≡ true → a ≡ false → b ≡ true
else true b e h = absurd (true≢false h)
else false b e h = e

pub neither : (a b : Bool) → (a || b) ≡ false → (a ≡ false) × (b ≡ false)
neither true b e = absurd (true≢false e)
neither false b e = (refl, e)

pub exactly-same : (a b : Bool) → (a exactly b) ≡ true → a ≡ b
exactly-same true true e = refl
exactly-same true false e = sym e
exactly-same false true e = e
exactly-same false false e = refl

pub and-true : (a : Bool) → (a && true) ≡ a
and-true true = refl
and-true false = refl

-- a mark that is 0 elsewhere, and 0 in the phase too, is 0
pub no-mark : (there reads mark : Bool)
    → ((there || false || not mark) && (not reads || not mark) && (not there || not mark) && true) ≡ not mark
no-mark true true true = refl
no-mark true true false = refl
no-mark true false true = refl
no-mark true false false = refl
no-mark false true true = refl
no-mark false true false = refl
no-mark false false true = refl
no-mark false false false = refl

-- no errors are below 128
pub no-errors : (reads : Bool) (n : ℕ) (zero? : Bool) → eqb n 0 ≡ zero? → (eqb n 0 && (not reads || eqb n 0) && ltb n 128) ≡ eqb n 0
no-errors true n true z = rw (eqb-true n 0 z)
no-errors false n true z = rw (eqb-true n 0 z)
no-errors reads n false z = rw (z)
