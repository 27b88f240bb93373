-- Several bytes moved at once.
-- Assumes nothing.
use Rattle.std.specs.Prelude.{ℕ, ◌+◌, ◌≤◌, ◌<◌, ◌≡◌, Bool, true, false, List}
use Rattle.bus.specs.declared.Window.{Window}
use Rattle.bus.specs.Window.{in_window, place_of}
use Rattle.regs.specs.declared.Mode.{Mode}
use Rattle.flow.specs.Rows.{extent}
use Rattle.machine.specs.declared.Core.{Core}
use Rattle.machine.specs.declared.Work.{Work}
use Rattle.machine.specs.declared.Phase.TheVariants.{Move}
use Rattle.machine.specs.declared.bursts.Reach.{Reach}
use Rattle.machine.specs.Step.{World, whole, onward, beat_for}
use Rattle.machine.specs.Helpers.Worlds.{reached_as}
use Rattle.machine.specs.Helpers.Turns.{steps, Went}

-- the work with n bytes more, and these errors
abbrev pub moved_by : Work → (n errors : ℕ) → Work
moved_by k n errors =
    record {
      at = k.at;
      source = k.source;
      destination = k.destination;
      length = k.length;
      control = k.control;
      errors = errors;
      moved = k.moved + n;
      eop = k.eop;
    }

-- a machine in Move, in this mode and over this window, with this work in hand, of which so many bytes are left
pub record Moving (mode : Mode) (window : Window) (k : Work) (most : ℕ) (m : Core) : Type 0 where
  pub mode_is : m.mode ≡ mode
  pub window_is : m.window ≡ window
  pub phase_is : m.phase ≡ Move k
  pub no_eop : k.eop ≡ false
  pub some : k.moved < whole m k
  pub left : k.moved + most ≤ whole m k

-- n bytes, moved at once: of every such machine they are n steps
abbrev pub Bursts : Mode → Window → Work → (most n errors : ℕ) (window beats : List ℕ) (took : ℕ) (out : List ℕ)
    (made took' made' : ℕ) (window' out' : List ℕ) → Type 0
Bursts mode place k most n errors window beats took out made took' made' window' out' =
    (m : Core) → Moving mode place k most m
    → Went (λ (w : World). steps n w) m window beats took out made (reached_as (onward m (moved_by k n errors)) took' made') window' out'

-- n bytes from the address a on stand at places from `at` on, or all at one where the address is fixed
pub record Row (window : Window) (fixed : Bool) (a at n : ℕ) : Type 0 where
  pub inside : in_window window a 1 ≡ true
  pub place : at ≡ place_of window a
  pub fits : at + extent fixed n ≤ window.length

-- so many bytes are in reach from the address a on
pub record Reaches (fixed : Bool) (window : Window) (a : ℕ) (r : Reach) : Type 0 where
  pub is_fixed : r.row.fixed ≡ fixed
  pub row : (n : ℕ) → 1 ≤ n → n ≤ r.bytes → Row window fixed a r.row.first n

-- the next n bytes make beats with neither SOP nor EOP
abbrev pub Unmarked : Work → ℕ → Type 0
Unmarked k n = (i errors byte : ℕ) → i < n → beat_for (moved_by k i errors) byte ≡ byte
