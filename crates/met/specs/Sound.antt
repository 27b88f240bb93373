-- What is asked of a machine before a call and holds of it after: its numbers are of their types' widths, and it keeps the image
-- rules; and the same of what is lent.
-- Assumes nothing.
use Rattle.std.specs.Prelude.{ℕ, ◌^◌, ◌<◌, ◌≡◌, true, List, [], ◌∷◌, length}
use Rattle.words.specs.Slices.{AllBytes}
use Rattle.image.specs.Layout.{Typed}
use Rattle.machine.specs.declared.Machine.{Machine}
use Rattle.machine.specs.Saved.{fields_of, tail_of, keeps}
use Rattle.machine.specs.Step.{World, machine_in}

pub record Sound (m : Machine) : Type 0 where
  pub rules : keeps m ≡ true
  pub typed : Typed (fields_of m.core) (tail_of m)

-- beats are numbers of 16 bits
abbrev pub AllBeats : List ℕ → Type 0
AllBeats [] = Unit {0}
AllBeats (b ∷ bs) = (b < 2 ^ 16) × AllBeats bs

-- a sound machine over a window of its length
pub record SoundWorld (w : World) : Type 0 where
  pub machine : Sound (machine_in w)
  pub size : length w.memory ≡ w.core.window.length
  pub memory : AllBytes w.memory
  pub input : AllBeats w.input
