-- Beats and bytes moved in a row, one after the other.
-- Assumes nothing.
use Rattle.std.specs.Prelude.{ℕ, zero, suc, ◌+◌, ◌*◌, ◌/◌, ◌≡◌, Bool, false, cond, ◌&&◌, List, [], ◌∷◌, ◌++◌, leb, length, take, drop, get_or, set}
use Rattle.std.proofs.Common.{sym, ◌∙◌}
use Rattle.std.specs.Int.Bits.{bit_or}
use Rattle.words.specs.Slices.{put}
use Rattle.flow.specs.declared.Absorbed.{Absorbed}
use Rattle.flow.specs.Beats.{beat_error, beat_eop, beat_data, beats_in, beat_bytes}

-- byte i of a row is at its start + i, without i where the row is fixed to one place
abbrev pub landing : (fixed : Bool) (at i : ℕ) → ℕ
landing fixed at i = cond fixed at (at + i)

-- n bytes take so many places
abbrev pub extent : (fixed : Bool) (n : ℕ) → ℕ
extent fixed n = cond fixed 1 n

-- and these are among so many
abbrev pub fit : (fixed : Bool) (at n length : ℕ) → Bool
fit fixed at n length = leb (at + extent fixed n) length

-- how many of the beats stand before the first with EOP, n at most
abbrev pub calm : ℕ → List ℕ → ℕ
calm zero bs = 0
calm (suc n) [] = 0
calm (suc n) (b ∷ bs) = cond (beat_eop b) 0 (suc (calm n bs))

-- the errors of beats, gathered by OR
abbrev pub gathered : ℕ → List ℕ → ℕ
gathered e [] = e
gathered e (b ∷ bs) = gathered (bit_or e (beat_error b)) bs

-- the data of the first n beats, one byte after the other
unfoldable pub spread : List ℕ → (fixed : Bool) (at : ℕ) → List ℕ → ℕ → List ℕ
spread mem fixed at bs zero = mem
spread mem fixed at bs (suc n) = set (spread mem fixed at bs n) (landing fixed at n) (beat_data (get_or bs n 0))

-- n bytes copied one after the other, so that an overlapping copy repeats its pattern
unfoldable pub copied : List ℕ → (stays : Bool) (from : ℕ) (fixed : Bool) (to : ℕ) → ℕ → List ℕ
copied mem stays from fixed to zero = mem
copied mem stays from fixed to (suc n) =
    set (copied mem stays from fixed to n) (landing fixed to n) (get_or (copied mem stays from fixed to n) (landing stays from n) 0)

-- n bytes as beats with neither SOP nor EOP
unfoldable pub plain : List ℕ → (stays : Bool) (from : ℕ) → ℕ → List ℕ
plain mem stays from zero = []
plain mem stays from (suc n) = plain mem stays from n ++ get_or mem (landing stays from n) 0 ∷ []

-- ---- the promises

-- what stands before the first EOP of the beats from `taken` on, `most` at most; nothing where they do not fit
abbrev pub absorbed_count : (mem : List ℕ) (fixed : Bool) (at : ℕ) (beats : List ℕ) (taken most : ℕ) → ℕ
absorbed_count mem fixed at beats taken most =
    cond (fit fixed at most (length mem) && fit false taken most (length beats / 2)) (calm most (drop taken (beats_in beats))) 0

pub record Absorbs (mem : List ℕ) (fixed : Bool) (at : ℕ) (beats : List ℕ) (taken most first : ℕ) (r : Absorbed) (mem' : List ℕ) : Type 0 where
  pub count : r.count ≡ absorbed_count mem fixed at beats taken most
  pub errors : r.errors ≡ gathered first (take (absorbed_count mem fixed at beats taken most) (drop taken (beats_in beats)))
  pub lent : mem' ≡ spread mem fixed at (drop taken (beats_in beats)) (absorbed_count mem fixed at beats taken most)

pub absorbs-unique : {mem : List ℕ} {fixed : Bool} {beats ys zs : List ℕ} {at taken most first : ℕ} {r s : Absorbed}
    → Absorbs mem fixed at beats taken most first r ys → Absorbs mem fixed at beats taken most first s zs → (r ≡ s) × (ys ≡ zs)
absorbs-unique p q =
    let count = p.count ∙ sym q.count in
    let errors = p.errors ∙ sym q.errors in
    (λ i. record { count = count i; errors = errors i }, p.lent ∙ sym q.lent)

-- a copy, or nothing where either end does not fit
unfoldable pub copied_over : List ℕ → (stays : Bool) (from : ℕ) (fixed : Bool) (to n : ℕ) → List ℕ
copied_over mem stays from fixed to n =
    cond (fit stays from n (length mem) && fit fixed to n (length mem)) (copied mem stays from fixed to n) mem

-- beats made from memory after `made` others, or nothing where they do not fit
unfoldable pub sent_over : (mem : List ℕ) (stays : Bool) (from : ℕ) (out : List ℕ) (made n : ℕ) → List ℕ
sent_over mem stays from out made n =
    cond (fit stays from n (length mem) && fit false made n (length out / 2)) (put out (2 * made) (beat_bytes (plain mem stays from n))) out
