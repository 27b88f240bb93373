-- The slot's rules are kept by an empty slot in any phase, and by a held one in Fetch, Move and WriteBack that is what the look at the
-- pointer finds.
-- Assumes nothing.
use Rattle.std.specs.Prelude.{Result, Ok, Err}
use Prim.Native.Nat.{ℕ}
use mathlib.Core.Path.{◌≡◌, refl}
use mathlib.Core.Bool.{true, ◌||◌}
use mathlib.Core.List.{[]}
use lib.Dec.{eqb}
use borrow.Author.Tests.{eq-eqb}
use Rattle.bus.specs.declared.Window.{Window}
use Rattle.bus.specs.Window.{keeps_limits}
use Rattle.descriptor.specs.declared.Raw.{Raw}
use Rattle.bus.specs.declared.Place.{Place}
use Rattle.descriptor.specs.declared.Miss.{Miss}
use Rattle.descriptor.specs.declared.Miss.TheVariants as miss
use Rattle.descriptor.specs.Looking.{spot_of, raw_of, is_zero}
use Rattle.descriptor.proofs.Looks.{zero-none}
use Rattle.image.specs.Tests.{between}
use Rattle.image.specs.Slot.{empty, descriptor, kind_of, kind_at, held, held_kept, slot_at_kept, slot_bytes_kept}
use Rattle.image.proofs.Windows.{kind-in}

-- the rules of slot kind, slot address and slot bytes
pub record SlotKept (phase base window pointer k a : ℕ) (r : Raw) : Type 0 where
  pub kind : held_kept phase k ≡ true
  pub at : slot_at_kept base window pointer k a ≡ true
  pub raw : slot_bytes_kept k (is_zero r) ≡ true

pub empty-kept : (phase base window pointer : ℕ) → SlotKept phase base window pointer empty 0 (raw_of [])
empty-kept phase base window pointer = record { kind = refl; at = refl; raw = zero-none }

-- what the look finds is never the kind of an empty slot
held_of : (s : Result Place Miss) → held (kind_of s) ≡ true
held_of (Err miss.Misaligned) = refl
held_of (Err miss.Outside) = refl
held_of (Ok p) = refl

pub kind-held : (w : Window) (a : ℕ) → held (kind_at w a) ≡ true
kind-held w a = held_of (spot_of w a)

module _ (phase base window pointer : ℕ) (r : Raw) where
  abbrev found : ℕ
  found = kind_at (record { base = base; length = window }) pointer

  -- its bytes are free where a descriptor stands there, and zero where none does
  pub held_kept_lem : between 1 3 phase ≡ true → keeps_limits base window ≡ true → (eqb found descriptor || is_zero r) ≡ true
      → SlotKept phase base window pointer found pointer r
  held_kept_lem p k z =
      let h = kind-held (record { base = base; length = window }) pointer in
      record {
        kind = rw (h, p);
        at = rw (h, eq-eqb pointer pointer refl, kind-in base window pointer k) (eq-eqb found found refl);
        raw = z;
      }
