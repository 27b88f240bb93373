-- The refusals, by the tests that led there, and what is known where none applies.
-- Assumes nothing.
use Prim.Native.Nat.{ℕ, ◌^◌, ◌≤◌, ◌<◌}
use mathlib.Core.Path.{◌≡◌}
use mathlib.Core.Bool.{true}
use mathlib.Core.List.{List}
use native.Mathlib.Omega.{arith}
use lib.ListN.{length}
use Rattle.std.proofs.lemmas.Bool.Decides.{nat_tests}
use Rattle.words.specs.declared.Order.TheVariants.{MostFirst}
use Rattle.words.specs.Orders.{row_bytes}
use Rattle.vic.specs.Layout.{ports}
use Rattle.vic.specs.Rules.{ports_kept, lowest_broken}
use Rattle.vic.specs.Choice.{chosen_level, chosen_port, handler}
use Rattle.vic.specs.Calls.{create_number, load_number, port_number, choose_number, chosen, answer_widths, told, answer_of}
use Rattle.vic.proofs.Ruling.{sound_ports}

-- ---- create

module _ (xs : List ℕ) (n : ℕ) where
  pub create-done : length xs ≡ 88 → ports_kept n ≡ true → create_number xs n ≡ 0
  unfolding create_number
  create-done l e = grind (arith, nat_tests)

  pub created : create_number xs n ≡ 0 → (1 ≤ n) × (n ≤ 32)
  unfolding create_number
  created e = grind (arith, nat_tests)

-- ---- the 88 bytes

module _ (xs : List ℕ) where
  pub load-none : length xs ≡ 88 → lowest_broken xs ≡ 0 → 0 ≡ load_number xs
  unfolding load_number
  load-none l h = grind (arith, nat_tests)

  pub loaded : load_number xs ≡ 0 → (length xs ≡ 88) × (lowest_broken xs ≡ 0)
  unfolding load_number
  loaded e = grind (arith, nat_tests)

  module _ (p : ℕ) where
    pub ported : port_number xs p ≡ 0 → (load_number xs ≡ 0) × (p < ports xs)
    unfolding port_number
    ported e = grind (arith, nat_tests)

    pub port_below : port_number xs p ≡ 0 → p < 32
    port_below e =
        let both = ported e in
        let most : ports xs ≤ 32 = sound_ports xs (loaded both.0).1 in
        let has : p < ports xs = both.1 in
        omega (arith, most, has)

-- ---- choose

module _ (xs ys : List ℕ) where
  pub choose-large : length ys ≡ 12 → load_number xs ≡ 0 → 0 < chosen_level xs → 2 ^ 32 ≤ handler xs (chosen_port xs) → choose_number xs ys ≡ 22
  unfolding choose_number
  choose-large l e h i = grind (arith, nat_tests)

  pub large-chosen : length ys ≡ 12 → load_number xs ≡ 0 → choose_number xs ys ≡ 22 → (chosen xs ≡ true) × (2 ^ 32 ≤ handler xs (chosen_port xs))
  unfolding choose_number
  large-chosen l e n = grind (arith, nat_tests)

  pub choose-told : length ys ≡ 12 → load_number xs ≡ 0 → 0 < chosen_level xs → handler xs (chosen_port xs) < 2 ^ 32 → choose_number xs ys ≡ 0
  unfolding choose_number
  choose-told l e h i = grind (arith, nat_tests)

  -- where choose is not refused the sizes and the rules are right, and an address is not too large
  pub choose-loaded : choose_number xs ys ≡ 0 → (length ys ≡ 12) × (load_number xs ≡ 0)
  unfolding choose_number
  choose-loaded e = grind (arith, nat_tests)

  pub told-small : choose_number xs ys ≡ 0 → chosen xs ≡ true → handler xs (chosen_port xs) < 2 ^ 32
  unfolding choose_number
  told-small e f = grind (arith, nat_tests)

module _ (xs : List ℕ) where
  pub answer-told : 0 < chosen_level xs → answer_of xs ≡ row_bytes MostFirst answer_widths (told xs (chosen_port xs))
  unfolding answer_of
  answer-told h = grind (arith, nat_tests)
