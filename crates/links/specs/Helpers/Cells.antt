-- How the check is quick: blocks of 32 places, and the cells of 32 in which they start.
-- Assumes nothing.
use Rattle.std.specs.Prelude.{ℕ, ◌+◌, ◌-◌, ◌/◌, ◌%◌, ◌≤◌, ◌<◌, ◌≡◌, Bool, cond, ◌&&◌, ◌||◌, List, [], ◌∷◌, eqb, ltb, leb, get_or}

-- two blocks have no place in common
pub data Clear (p q : ℕ) : Type 0 where
  below : q + 32 ≤ p → Clear p q
  above : p + 32 ≤ q → Clear p q

-- what a cell says: 0, or one more than where in it a block starts
abbrev pub mark_of : ℕ → List ℕ → ℕ
mark_of c [] = 0
mark_of c (q ∷ qs) = cond (eqb (q / 32) c) (1 + q % 32) (mark_of c qs)

-- three cells tell whether a block is clear of all others
pub record Free (p : ℕ) (qs : List ℕ) : Type 0 where
  pub here : mark_of (p / 32) qs ≡ 0
  pub low : (c : ℕ) → p / 32 ≡ c + 1 → mark_of c qs ≤ p % 32 + 1
  pub high : 1 ≤ mark_of (p / 32 + 1) qs → p % 32 < mark_of (p / 32 + 1) qs

-- the same three looks at cells; the places are from 32 on, so that a cell is below each
abbrev pub free_in : List ℕ → ℕ → Bool
free_in cells p =
    eqb (get_or cells (p / 32) 0) 0 && leb (get_or cells (p / 32 - 1) 0) (p % 32 + 1)
    && (eqb (get_or cells (p / 32 + 1) 0) 0 || ltb (p % 32) (get_or cells (p / 32 + 1) 0))
