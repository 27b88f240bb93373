-- What the six calls promise: the number and every lent byte after the call. 0 is done; refused, nothing changes.
-- Assumes nothing.
use Rattle.std.specs.Prelude.{ℕ, ◌^◌, Bool, cond, not, ◌&&◌, List, [], ◌∷◌, eqb, leb, ltb, length, replicate}
use Rattle.bus.specs.declared.Refusal.TheVariants.{BadSize, BadImage, NoPort, AddressTooLarge}
use Rattle.bus.specs.Refusal.{refusal_number}
use Rattle.words.specs.declared.Order.TheVariants.{MostFirst}
use Rattle.words.specs.Orders.{row_bytes}
use Rattle.words.specs.Promise.{Answers}
use Rattle.vic.specs.Layout.{ports, lines_at, software_at, enabled_at, config, set_of, mask_of, fresh, bit_made, configured}
use Rattle.vic.specs.Rules.{ports_kept, lowest_broken}
use Rattle.vic.specs.Choice.{level, chosen_port, chosen_level, handler}

-- refused with the number where the test holds, else the rest
abbrev pub refuse : (test : Bool) (number rest : ℕ) → ℕ
refuse test number rest = cond test number rest

-- a flag given as a number: 0 is 0, any other number is 1
abbrev pub flagged : ℕ → Bool
flagged n = not (eqb n 0)

-- ---- the numbers, the first that applies

-- 7 where the size is wrong, 21 where the count of ports is not 1 to 32
unfoldable pub create_number : List ℕ → (ports : ℕ) → ℕ
create_number xs ports = refuse (not (eqb (length xs) 88)) (refusal_number BadSize) (refuse (not (ports_kept ports)) (refusal_number NoPort) 0)

-- 7 where the size is wrong, 8 + 256 x field where a rule is broken
unfoldable pub load_number : List ℕ → ℕ
load_number xs =
    refuse (not (eqb (length xs) 88)) (refusal_number BadSize)
    (refuse (not (eqb (lowest_broken xs) 0)) (refusal_number (BadImage (lowest_broken xs))) 0)

-- then 21 where it lacks the port
unfoldable pub port_number : List ℕ → (p : ℕ) → ℕ
port_number xs p = refuse (not (eqb (load_number xs) 0)) (load_number xs) (refuse (not (ltb p (ports xs))) (refusal_number NoPort) 0)

-- whether a port is chosen
abbrev pub chosen : List ℕ → Bool
chosen xs = ltb 0 (chosen_level xs)

-- 7 where a size is wrong, 8 + 256 x field, then 22 where the handler address of the chosen port passes 32 bits
unfoldable pub choose_number : (xs ys : List ℕ) → ℕ
choose_number xs ys =
    refuse (not (eqb (length ys) 12)) (refusal_number BadSize)
    (refuse (not (eqb (load_number xs) 0)) (load_number xs)
    (refuse (chosen xs && leb (2 ^ 32) (handler xs (chosen_port xs))) (refusal_number AddressTooLarge) 0))

-- ---- the answer of choose: chosen 16, port 16, level 8, register set 8, non-maskable 16, handler address 32; all zero where
-- nothing is chosen

abbrev pub answer_widths : List ℕ
answer_widths = 2 ∷ 2 ∷ 1 ∷ 1 ∷ 2 ∷ 4 ∷ []

-- what is told of a port
abbrev pub told : List ℕ → ℕ → List ℕ
told xs p =
    1 ∷ p ∷ level xs p ∷ set_of (config xs p) ∷ mask_of (config xs p) ∷ handler xs p ∷ []

unfoldable pub answer_of : List ℕ → List ℕ
answer_of xs = cond (chosen xs) (row_bytes MostFirst answer_widths (told xs (chosen_port xs))) (replicate 12 0)

-- ---- the six calls: each promises Answers, of its number and of what it leaves where it is done

abbrev pub VicCreated : (xs : List ℕ) (ports vector_bytes base r : ℕ) (xs' : List ℕ) → Type 0
VicCreated xs ports vector_bytes base r xs' = Answers (create_number xs ports) xs (fresh ports vector_bytes base) r xs'

abbrev pub VicConfigured : (xs : List ℕ) (p level set nmi r : ℕ) (xs' : List ℕ) → Type 0
VicConfigured xs p level set nmi r xs' = Answers (port_number xs p) xs (configured xs p level set (flagged nmi)) r xs'

abbrev pub VicEnabled : (xs : List ℕ) (p on r : ℕ) (xs' : List ℕ) → Type 0
VicEnabled xs p on r xs' = Answers (port_number xs p) xs (bit_made xs enabled_at p (flagged on)) r xs'

abbrev pub VicTriggered : (xs : List ℕ) (p on r : ℕ) (xs' : List ℕ) → Type 0
VicTriggered xs p on r xs' = Answers (port_number xs p) xs (bit_made xs software_at p (flagged on)) r xs'

abbrev pub VicDriven : (xs : List ℕ) (p up r : ℕ) (xs' : List ℕ) → Type 0
VicDriven xs p up r xs' = Answers (port_number xs p) xs (bit_made xs lines_at p (flagged up)) r xs'

abbrev pub VicChosen : (xs answer : List ℕ) (r : ℕ) (answer' : List ℕ) → Type 0
VicChosen xs answer r answer' = Answers (choose_number xs answer) answer (answer_of xs) r answer'
