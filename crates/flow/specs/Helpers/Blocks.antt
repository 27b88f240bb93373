-- Beats in blocks: what the contracts of `absorb`'s helpers speak of, and no promise.
-- Assumes nothing.
use Rattle.std.specs.Prelude.{ℕ, ◌+◌, ◌/◌, ◌%◌, ◌≤◌, ◌<◌, ◌≡◌, Bool, false, List, take, drop, get_or}
use Rattle.flow.specs.declared.Absorbed.{Absorbed}
use Rattle.flow.specs.Beats.{beat_eop, beat_data}
use Rattle.flow.specs.Rows.{gathered, spread}

-- none of the first n has EOP
abbrev pub Quiet : List ℕ → ℕ → Type 0
Quiet bs n = (i : ℕ) → i < n → beat_eop (get_or bs i 0) ≡ false

-- what the OR of the first n tells: that one has EOP, exactly where it is odd, and their errors
pub record Seen (bs : List ℕ) (n some : ℕ) : Type 0 where
  pub even : some % 2 ≡ 0 → Quiet bs n
  pub quiet : Quiet bs n → some % 2 ≡ 0
  pub errors : some % 256 / 2 ≡ gathered 0 (take n bs)

-- the data of the first n is in a block
abbrev pub Holds : (block bs : List ℕ) (n : ℕ) → Type 0
Holds block bs n = (i : ℕ) → i < n → get_or block i 0 / 256 ≡ beat_data (get_or bs i 0)

-- where the data of `from` beats was spread, that of n more is, from a block
abbrev pub Lays : (fixed : Bool) (at from : ℕ) (block : List ℕ) (n : ℕ) (now mem' : List ℕ) → Type 0
Lays fixed at from block n now mem' =
    (mem bs : List ℕ) → now ≡ spread mem fixed at bs from → Holds block (drop from bs) n → mem' ≡ spread mem fixed at bs (from + n)

-- so many beats have no EOP, their data is spread and their errors are gathered
pub record Taken (bs : List ℕ) (fixed : Bool) (at : ℕ) (mem : List ℕ) (first : ℕ) (r : Absorbed) (mem' : List ℕ) : Type 0 where
  pub quiet : Quiet bs r.count
  pub errors : r.errors ≡ gathered first (take r.count bs)
  pub lent : mem' ≡ spread mem fixed at bs r.count

-- more are taken than before
abbrev pub Onward : (bs : List ℕ) (fixed : Bool) (at : ℕ) (before : Absorbed) (now : List ℕ) (r : Absorbed) (mem' : List ℕ) → Type 0
Onward bs fixed at before now r mem' = (mem : List ℕ) (first : ℕ) → Taken bs fixed at mem first before now → Taken bs fixed at mem first r mem'

-- .. block by block of n, until the next has an EOP or fewer are left of `most`
pub record GoesOn (bs : List ℕ) (fixed : Bool) (at most n : ℕ) (before : Absorbed) (now : List ℕ) (r : Absorbed) (mem' : List ℕ) : Type 0 where
  pub count : r.count ≤ most
  pub taken : Onward bs fixed at before now r mem'
  pub ends : Quiet (drop r.count bs) n → most < r.count + n
