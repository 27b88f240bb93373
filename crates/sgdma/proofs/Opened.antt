-- The sizes of what is lent, and the registers of an image that loads.
-- Assumes nothing.
use Rattle.std.specs.Prelude.{Result, Ok}
use Prim.Native.Nat.{ℕ}
use mathlib.Core.Path.{◌≡◌, sym, ◌∙◌}
use mathlib.Core.Bool.{true, cond, ◌&&◌}
use mathlib.Core.List.{List}
use lib.ListN.{length}
use borrow.Author.Tests.{eq-eqb, ne_eqb}
use Rattle.words.specs.Promise.{Gives}
use Rattle.bus.specs.declared.Refusal.{Refusal}
use Rattle.regs.specs.Control.{line_up}
use Rattle.regs.specs.Offsets.{register_at}
use Rattle.image.specs.Promise.{sized}
use Rattle.machine.specs.declared.Machine.{Machine}
use Rattle.machine.specs.Saved.{keeps, load_of}
use Rattle.machine.specs.Registers.{reading_of, wrote_to, line_of, RegisterWasRead, WasWritten}
use Rattle.machine.proofs.Answers.{was-loaded, was-register, was-written}
use Rattle.machine.proofs.Writes.{write_kept}
use Rattle.met.proofs.RoundTrip.{loaded-keeps}
use Rattle.sgdma.specs.Calls.{is_size}

-- a call that looks at two sizes
module _ {A : Type 0} (a b : A) (n : ℕ) (xs ys : List ℕ) where
  pub first-wrong : (length xs ≡ 85 → ⊥) → cond (sized xs && is_size n ys) a b ≡ b
  first-wrong h = rw (ne_eqb (length xs) 85 h)

  pub second-wrong : length xs ≡ 85 → (length ys ≡ n → ⊥) → cond (sized xs && is_size n ys) a b ≡ b
  second-wrong l h = rw (eq-eqb (length xs) 85 l, ne_eqb (length ys) n h)

  pub sizes-right : length xs ≡ 85 → length ys ≡ n → cond (sized xs && is_size n ys) a b ≡ a
  sizes-right l k = rw (eq-eqb (length xs) 85 l, eq-eqb (length ys) n k)

-- ---- a loaded machine keeps the rules, so that its registers are those of any machine

module _ (xs : List ℕ) {m : Machine} (e : load_of xs ≡ Ok m) where
  pub keeps-loaded : keeps m ≡ true
  keeps-loaded =
      loaded-keeps (was-loaded (sym e))

  pub register-loaded : (offset : ℕ) {a : Result ℕ Refusal} → Gives (register_at m.core.status m.core.control m.core.pointer offset) a → RegisterWasRead m offset a
  unfolding reading_of
  register-loaded offset g = was-register (rw keeps-loaded g.value)

  pub write-loaded : (offset v : ℕ) {w : Result Machine Refusal} → Gives (wrote_to m offset v) w → WasWritten m offset v w
  write-loaded offset v g = was-written (g.value ∙ write_kept m offset v keeps-loaded)

  pub line-loaded : line_of m ≡ Ok (line_up m.core.control m.core.pending)
  unfolding line_of
  line-loaded = rw keeps-loaded
