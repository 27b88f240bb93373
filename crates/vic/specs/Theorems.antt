-- What is proved of the controller: each theorem's whole statement, under its name. A term of each stands in proofs/. The choice is told by `answer_of`, the bytes after a call by `configured` and `bit_made`.
-- Assumes nothing.
use Rattle.std.specs.Prelude.{ℕ, ◌+◌, ◌*◌, ◌^◌, ◌≤◌, ◌<◌, ◌≡◌, Bool, true, false, List, ◌∷◌, ◌≢◌, length, get_or}
use Rattle.words.specs.declared.Order.TheVariants.{MostFirst}
use Rattle.words.specs.Bits.{bit}
use Rattle.words.specs.Orders.{row_numbers}
use Rattle.vic.specs.Layout.{ports, zeros, vector_bytes, base, lines_at, software_at, enabled_at, lines, software, enabled, config, config_of, fresh, bit_made, configured}
use Rattle.vic.specs.Choice.{chosen_port, Asks, IsChosen}
use Rattle.vic.specs.Rules.{rules, lowest_broken}
use Rattle.vic.specs.Rows.{Rows}
use Rattle.vic.specs.Calls.{create_number, load_number, port_number, choose_number, chosen, answer_widths, told, answer_of}

-- ---- the choice

-- the port told is pending with a level above 0, none pending has a larger level, none with the same level a lower index
abbrev pub ChosenIs : Type 0
ChosenIs = (xs : List ℕ) → chosen xs ≡ true → IsChosen xs (chosen_port xs)

-- no other port has all that
abbrev pub ChosenOne : Type 0
ChosenOne = (xs : List ℕ) (p q : ℕ) → IsChosen xs p → IsChosen xs q → p ≡ q

-- nothing is told exactly when no port is pending with a level above 0
pub record Exactly (xs : List ℕ) : Type 0 where
  pub nothing : chosen xs ≡ false → (p : ℕ) → Asks xs p → ⊥
  pub only : ((p : ℕ) → Asks xs p → ⊥) → chosen xs ≡ false

abbrev pub NothingChosen : Type 0
NothingChosen = (xs : List ℕ) → Exactly xs

-- ---- the handler address: port x bytes per vector + base, and 22 exactly where that is 2^32 or more

pub record TooLarge (xs ys : List ℕ) : Type 0 where
  pub refused : chosen xs ≡ true → 2 ^ 32 ≤ chosen_port xs * vector_bytes xs + base xs → choose_number xs ys ≡ 22
  pub only : choose_number xs ys ≡ 22 → (chosen xs ≡ true) × (2 ^ 32 ≤ chosen_port xs * vector_bytes xs + base xs)

abbrev pub TooLargeExactly : Type 0
TooLargeExactly = (xs ys : List ℕ) → length ys ≡ 12 → load_number xs ≡ 0 → TooLarge xs ys

-- the numbers told are those of the chosen port, and none is cut
abbrev pub ToldWhole : Type 0
ToldWhole =
    (xs ys : List ℕ) → choose_number xs ys ≡ 0 → chosen xs ≡ true
    → row_numbers MostFirst answer_widths (answer_of xs) ≡ told xs (chosen_port xs)

-- ---- one port leaves the others as they were

-- all that a controller has of a port is the same in both
pub record SamePort (xs ys : List ℕ) (q : ℕ) : Type 0 where
  pub line : bit q (lines ys) ≡ bit q (lines xs)
  pub trigger : bit q (software ys) ≡ bit q (software xs)
  pub enable : bit q (enabled ys) ≡ bit q (enabled xs)
  pub configuration : config ys q ≡ config xs q

-- and what it has of none
pub record SameCommon (xs ys : List ℕ) : Type 0 where
  pub count : ports ys ≡ ports xs
  pub blank : zeros ys ≡ zeros xs
  pub each : vector_bytes ys ≡ vector_bytes xs
  pub start : base ys ≡ base xs

-- the others, and what is common, are as they were
pub record OnlyPort (xs ys : List ℕ) (p : ℕ) : Type 0 where
  pub common : SameCommon xs ys
  pub others : (q : ℕ) → q < 32 → (q ≡ p → ⊥) → SamePort xs ys q

-- Configuring one port changes its configuration alone.
pub record ConfiguredOne (xs ys : List ℕ) (p level set : ℕ) (nmi : Bool) : Type 0 where
  pub own : config ys p ≡ config_of level set nmi
  pub line : lines ys ≡ lines xs
  pub trigger : software ys ≡ software xs
  pub enable : enabled ys ≡ enabled xs
  pub rest : OnlyPort xs ys p

abbrev pub Configures : Type 0
Configures = (xs : List ℕ) (p level set : ℕ) (nmi : Bool) → port_number xs p ≡ 0 → ConfiguredOne xs (configured xs p level set nmi) p level set nmi

-- driving, triggering or enabling one port makes its bit so: `mine` has it, `one` and `two` are the other two numbers of bits
pub record MarkedOne (xs ys : List ℕ) (p : ℕ) (on : Bool) (mine one two : List ℕ → ℕ) : Type 0 where
  pub own : bit p (mine ys) ≡ on
  pub first : one ys ≡ one xs
  pub second : two ys ≡ two xs
  pub configuration : config ys p ≡ config xs p
  pub rest : OnlyPort xs ys p

abbrev pub Drives : Type 0
Drives = (xs : List ℕ) (p : ℕ) (on : Bool) → port_number xs p ≡ 0 → MarkedOne xs (bit_made xs lines_at p on) p on lines software enabled

abbrev pub Triggers : Type 0
Triggers = (xs : List ℕ) (p : ℕ) (on : Bool) → port_number xs p ≡ 0 → MarkedOne xs (bit_made xs software_at p on) p on software lines enabled

abbrev pub Enables : Type 0
Enables = (xs : List ℕ) (p : ℕ) (on : Bool) → port_number xs p ≡ 0 → MarkedOne xs (bit_made xs enabled_at p on) p on enabled lines software

-- ---- a controller that a call leaves keeps the rules

pub record StaysSound (xs : List ℕ) (p : ℕ) : Type 0 where
  pub configuring : (level set : ℕ) (nmi : Bool) → load_number (configured xs p level set nmi) ≡ 0
  pub driving : (up : Bool) → load_number (bit_made xs lines_at p up) ≡ 0
  pub triggering : (on : Bool) → load_number (bit_made xs software_at p on) ≡ 0
  pub enabling : (on : Bool) → load_number (bit_made xs enabled_at p on) ≡ 0

abbrev pub Stays : Type 0
Stays = (xs : List ℕ) (p : ℕ) → port_number xs p ≡ 0 → StaysSound xs p

abbrev pub Starts : Type 0
Starts = (xs : List ℕ) (n each start : ℕ) → create_number xs n ≡ 0 → load_number (fresh n each start) ≡ 0

-- ---- the rules

-- As order 1 has it of images: the field told breaks its rule, and every field before it keeps its own.
abbrev pub VicFieldTold : Type 0
VicFieldTold = (xs : List ℕ) → lowest_broken xs ≢ 0
    → (get_or (true ∷ rules xs) (lowest_broken xs) true ≡ false) × ((i : ℕ) → i < lowest_broken xs → get_or (true ∷ rules xs) i true ≡ true)

-- ---- the definitions held against the request

-- The worked cases hold, computed from the definitions.
abbrev pub CasesHold : Type 0
CasesHold = Rows
