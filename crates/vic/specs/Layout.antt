-- The 88 bytes of a controller, numbers the most significant byte first: ports 8, zero 24, bytes per vector 32, base 32, lines 32,
-- software 32, enabled 32 (bit p for port p), then for each port 0 to 31 its configuration, 16 bits: zero 3, register set 6,
-- non-maskable 1, level 6.
-- Assumes nothing.
use Rattle.std.specs.Prelude.{ℕ, ◌+◌, ◌*◌, ◌-◌, ◌/◌, ◌%◌, ◌^◌, Bool, cond, List, ◌∷◌, replicate}
use Rattle.std.specs.Int.Bits.{bit_or}
use Rattle.words.specs.declared.Order.TheVariants.{MostFirst}
use Rattle.words.specs.Bits.{flag}
use Rattle.words.specs.Orders.{bytes_of, row_bytes}
use Rattle.words.specs.Slices.{number_at, put_at}

-- how many bytes each number has, in order: the first is the ports, the second the zero bits
abbrev pub widths : List ℕ
widths = 1 ∷ 3 ∷ 4 ∷ 4 ∷ 4 ∷ 4 ∷ 4 ∷ replicate 32 2

-- ---- the numbers of a controller

-- the 32-bit number at a place
abbrev pub word : List ℕ → ℕ → ℕ
word xs at = number_at MostFirst 4 xs at

-- how many ports it has
abbrev pub ports : List ℕ → ℕ
ports xs = word xs 0 / 2 ^ 24

abbrev pub zeros : List ℕ → ℕ
zeros xs = word xs 0 % 2 ^ 24

abbrev pub vector_bytes : List ℕ → ℕ
vector_bytes xs = word xs 4

abbrev pub base : List ℕ → ℕ
base xs = word xs 8

-- where the lines stand, the software triggers and the enables
abbrev pub lines_at : ℕ
lines_at = 12

abbrev pub software_at : ℕ
software_at = 16

abbrev pub enabled_at : ℕ
enabled_at = 20

-- the lines, bit p for port p
abbrev pub lines : List ℕ → ℕ
lines xs = word xs lines_at

-- the software triggers
abbrev pub software : List ℕ → ℕ
software xs = word xs software_at

abbrev pub enabled : List ℕ → ℕ
enabled xs = word xs enabled_at

-- where the configuration of a port stands
abbrev pub place : ℕ → ℕ
place p = 24 + 2 * p

-- the configuration of a port
abbrev pub config : List ℕ → ℕ → ℕ
config xs p = number_at MostFirst 2 xs (place p)

-- ---- the parts of a configuration

abbrev pub level_of : ℕ → ℕ
level_of c = c % 2 ^ 6

abbrev pub mask_of : ℕ → ℕ
mask_of c = c / 2 ^ 6 % 2

abbrev pub set_of : ℕ → ℕ
set_of c = c / 2 ^ 7 % 2 ^ 6

abbrev pub rest_of : ℕ → ℕ
rest_of c = c / 2 ^ 13

-- level and register set, 6 bits each, higher bits dropped; the non-maskable flag
abbrev pub config_of : (level set : ℕ) (nmi : Bool) → ℕ
config_of level set nmi = set % 2 ^ 6 * 2 ^ 7 + flag nmi * 2 ^ 6 + level % 2 ^ 6

-- ---- what the calls write

-- a new controller: so many ports, and the rest zero
abbrev pub fresh : (ports vector_bytes base : ℕ) → List ℕ
fresh ports vector_bytes base = row_bytes MostFirst widths (ports ∷ 0 ∷ vector_bytes ∷ base ∷ replicate 35 0)

-- n with bit p made so
unfoldable pub with_bit : (p : ℕ) (on : Bool) → ℕ → ℕ
with_bit p on n = cond on (bit_or n (2 ^ p)) (bit_or n (2 ^ p) - 2 ^ p)

-- the bit of a port, in the lines, the software triggers or the enables
abbrev pub bit_made : List ℕ → (at p : ℕ) (on : Bool) → List ℕ
bit_made xs at p on = put_at xs at (bytes_of MostFirst 4 (with_bit p on (word xs at)))

-- the configuration of a port
abbrev pub configured : List ℕ → (p level set : ℕ) (nmi : Bool) → List ℕ
configured xs p level set nmi = put_at xs (place p) (bytes_of MostFirst 2 (config_of level set nmi))
