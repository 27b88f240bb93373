-- The tests that the image's rules are put together from: of truths, of a descriptor's address, of phases, and of bits of the
-- registers.
-- Assumes nothing.
use Rattle.std.specs.Prelude.{ℕ, ◌^◌, Bool, false, not, ◌&&◌, ◌||◌, eqb, leb, ltb, Result, Ok, Err}
use Rattle.std.specs.Bool.{beq}
use Rattle.bus.specs.declared.Window.{Window}
use Rattle.bus.specs.declared.Refusal.{Refusal}
use Rattle.descriptor.specs.Looking.{spot_of, stands}
use Rattle.regs.specs.Status.{status_of}
use Rattle.regs.specs.Control as register

-- ---- tests put together

infix 25 ◌⇒◌
infix 25 ◌exactly◌
infix 25 ◌outside◌
-- a where b
abbrev pub ◌⇒◌ : Bool → Bool → Bool
b ⇒ a = not b || a

-- a where b, and nowhere else
abbrev pub ◌exactly◌ : Bool → Bool → Bool
a exactly b = beq a b

-- a where not b
abbrev pub ◌outside◌ : Bool → Bool → Bool
a outside b = b || a

-- n is a or b
abbrev pub either : (a b n : ℕ) → Bool
either a b n = eqb n a || eqb n b

-- n is at least a and at most b
abbrev pub between : (a b n : ℕ) → Bool
between a b n = leb a n && leb n b

-- the bits of x from i on are zero
abbrev pub zero_from : (i x : ℕ) → Bool
zero_from i x = ltb x (2 ^ i)

-- ---- a descriptor's address

-- its 32 bytes stand in the window, where that keeps the limits
abbrev pub stands_in : Result Window Refusal → (address : ℕ) → Bool
stands_in (Ok window) address = stands (spot_of window address)
stands_in (Err why) address = false

-- ---- phases, and bits of the registers

abbrev pub in_move : ℕ → Bool
in_move phase = eqb phase 2

abbrev pub in_write_back : ℕ → Bool
in_write_back phase = eqb phase 3

abbrev pub in_ended : ℕ → Bool
in_ended phase = eqb phase 4

abbrev pub in_halted : ℕ → Bool
in_halted phase = eqb phase 5

abbrev pub in_faulted : ℕ → Bool
in_faulted phase = eqb phase 6

-- Move and WriteBack, where a descriptor is in hand
abbrev pub working : ℕ → Bool
working phase = in_move phase || in_write_back phase

-- zero outside Move and WriteBack
abbrev pub zero_outside : (hand : Bool) → ℕ → Bool
zero_outside hand x = eqb x 0 outside hand

-- bits of the registers, of their numbers
abbrev pub error : ℕ → Bool
error status = (status_of status).error

abbrev pub eop_encountered : ℕ → Bool
eop_encountered status = (status_of status).eop

abbrev pub busy : ℕ → Bool
busy status = (status_of status).busy

abbrev pub run : ℕ → Bool
run control = register.run (register.as_control control)

abbrev pub sw_reset : ℕ → Bool
sw_reset control = register.sw_reset (register.as_control control)
