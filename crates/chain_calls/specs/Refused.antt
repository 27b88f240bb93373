-- The paper's "Refusal numbers" of the C calls: for each call the refusals that it can meet, each with its test, and one order. That
-- the number a call gives back is the first that applies is `create-in-order` and the laws beside it; that a refused call changes
-- nothing is `create-unchanged` and those beside that.
-- Assumes nothing.
use Rattle.std.specs.Prelude.{ℕ, ◌+◌, ◌*◌, ◌%◌, ◌^◌, ◌≡◌, ◌≢◌, Bool, true, false, not, cond, ◌&&◌, List, [], ◌∷◌, eqb, leb, ltb, length}
use Rattle.bus.specs.Window.{keeps_limits, in_window}
use Rattle.descriptor.specs.Looking.{spot_of, stands}
use Rattle.links.specs.Verdicts.{window_at}
use Rattle.regs.specs.Offsets.{is_register}
use Rattle.image.specs.Layout.{fields, tail}
use Rattle.image.specs.Rules.{lowest_broken, keeps_rules}
use Rattle.image.specs.Promise.{sized}
use Rattle.image.specs.Editions.{edition_of, is_image, broken_in, slot_held}
use Rattle.ledger.specs.Records.{is_ledger}
use Rattle.machine.specs.Run.{Lent, even}
use Rattle.sgdma.specs.Calls.{is_size}
use Rattle.vic.specs.Layout.{ports}
use Rattle.vic.specs.Rules.{ports_kept}
use Rattle.vic.specs.Rules as controller
use Rattle.vic.specs.Choice.{handler, chosen_port}
use Rattle.vic.specs.Calls.{chosen}
use Rattle.timer.specs.Registers as registers
use Rattle.timer.specs.Registers.{is_full}
use Rattle.timer.specs.Saved as saved
use Rattle.timer.specs.Calls.{timer_in}

-- a refusal's number, the field that it carries, and whether it applies
pub record Test : Type 0 where
  pub number : ℕ
  pub field : ℕ
  pub applies : Bool

infix 15 ◌when◌
-- one that carries no field
abbrev pub ◌when◌ : ℕ → Bool → Test
n when b = record { number = n; field = 0; applies = b }

-- what a call gives back: "in C as 8 + 256 × field"
abbrev pub told : Test → ℕ
told t = t.number + 256 * t.field

-- the first that applies, or 0, done: no other applies
abbrev pub first : List Test → ℕ
first [] = 0
first (t ∷ ts) = cond t.applies (told t) (first ts)

-- "First that applies: 7, 8, 9, 2, 3, 4, 1, 5, 6", with 15 "after 8", 19 "after 9" and 18 "after 19"; then those of the timer: 16, 17, of the
-- controller: 21, 22, and of mending: 23
abbrev pub order : List ℕ
order = 7 ∷ 8 ∷ 15 ∷ 9 ∷ 19 ∷ 18 ∷ 2 ∷ 3 ∷ 4 ∷ 1 ∷ 5 ∷ 6 ∷ 16 ∷ 17 ∷ 21 ∷ 22 ∷ 23 ∷ []

-- whether tests come in an order
abbrev pub come_in : List ℕ → List Test → Bool
come_in ns [] = true
come_in [] (t ∷ ts) = false
come_in (n ∷ ns) (t ∷ ts) = cond (eqb n t.number) (come_in ns ts) (come_in ns (t ∷ ts))

-- what is said of a call's number
pub record FirstThatApplies (ts : List Test) (r : ℕ) : Type 0 where
  pub number : r ≡ first ts
  pub in_order : come_in order ts ≡ true

-- "A refused call returns its number and nothing else; machine and lent bytes keep their values": what holds where the number is not 0
abbrev pub WhereRefused : ℕ → Type 0 → Type 0
WhereRefused r A = r ≢ 0 → A

-- ---- the tests

-- 1, NoRegister: offset not 0, 4, 8
abbrev pub no_register : ℕ → Test
no_register offset = 1 when not (is_register offset)

-- 2, BadMode: mode above 2
abbrev pub bad_mode : ℕ → Test
bad_mode mode = 2 when not (leb mode 2)

-- 3, BadWindow: limits broken
abbrev pub bad_window : (base length : ℕ) → Test
bad_window base length = 3 when not (keeps_limits base length)

-- 4, OtherWindow: lent window's length is not the machine's
abbrev pub other_window : (xs window : List ℕ) → Test
other_window xs window = 4 when not (eqb (length window) (fields xs).window)

-- 5, Misaligned: builder or reader address not a multiple of 4
abbrev pub misaligned : ℕ → Test
misaligned a = 5 when not (eqb (a % 4) 0)

-- 6, Outside: its 32 bytes not in the window
abbrev pub outside : (base length a : ℕ) → Test
outside base length a = 6 when not (in_window (record { base = base; length = length }) a 32)

-- 7, BadSize: lent image, report, value or descriptor answer of wrong size
abbrev pub bad_size : Bool → Test
bad_size right = 7 when not right

-- 8, BadImage: an image read breaks a rule; with the lowest field that does
abbrev pub bad_image : List ℕ → Test
bad_image xs = record { number = 8; field = lowest_broken (fields xs) (tail xs); applies = not (keeps_rules (fields xs) (tail xs)) }

-- 8 of an image that is moved: it breaks a rule of its edition, which its size tells; with the lowest field that does
abbrev pub bad_edition : List ℕ → Test
bad_edition xs = record { number = 8; field = broken_in xs; applies = not (eqb (broken_in xs) 0) }

-- 15, SlotHeld: a slot is held, and the edition moved to has none
abbrev pub held_slot : (xs to : List ℕ) → Test
held_slot xs to = 15 when (slot_held xs && ltb (edition_of to) 2)

-- 9, OddStream: odd number of beat bytes, in or out
abbrev pub odd_stream : (beats out : List ℕ) → Test
odd_stream beats out = 9 when not (even beats && even out)

-- 19, BadLedger: not whole records, or fewer than are said to be used
abbrev pub bad_ledger : (ledger : List ℕ) (used : ℕ) → Test
bad_ledger ledger used = 19 when not (is_ledger (length ledger) used)

-- 18, RunUnknown: the run asked for is 4,294,967,295
abbrev pub run_unknown : ℕ → Test
run_unknown run = 18 when eqb run 4294967295

-- 8 of a timer: its 14 bytes break a rule; with the lowest field that does
abbrev pub bad_timer : List ℕ → Test
bad_timer xs =
    record {
      number = 8;
      field = saved.lowest_broken (saved.numbers xs);
      applies = not (eqb (saved.lowest_broken (saved.numbers xs)) 0);
    }

-- 16, NoTimerRegister: an offset above 5
abbrev pub no_timer_register : ℕ → Test
no_timer_register offset = 16 when not (registers.is_register offset)

-- 17, NotFullPeriod: the period is another than 4,294,967,295
abbrev pub not_full_period : List ℕ → Test
not_full_period xs = 17 when not (is_full (timer_in xs))

-- 8 of a controller: its 88 bytes break a rule; with the lowest field that does
abbrev pub bad_controller : List ℕ → Test
bad_controller xs = record { number = 8; field = controller.lowest_broken xs; applies = not (eqb (controller.lowest_broken xs) 0) }

-- 21, NoPort: a port that the controller lacks, or a count of ports not 1 to 32
abbrev pub no_port : Bool → Test
no_port has = 21 when not has

-- 22, AddressTooLarge: the handler address of the chosen port would pass 32 bits
abbrev pub address_too_large : List ℕ → Test
address_too_large xs = 22 when (chosen xs && leb (2 ^ 32) (handler xs (chosen_port xs)))

-- 23, NothingToKeep: the defect is the first descriptor: it is misaligned, or outside
abbrev pub nothing_to_keep : (base : ℕ) (window : List ℕ) (pointer : ℕ) → Test
nothing_to_keep base window pointer = 23 when not (stands (spot_of (window_at base window) pointer))

-- ---- what each call can be refused for

abbrev pub create_tests : (xs : List ℕ) (mode base length : ℕ) → List Test
create_tests xs mode base length = bad_size (sized xs) ∷ bad_mode mode ∷ bad_window base length ∷ []

abbrev pub read_tests : (xs : List ℕ) (offset : ℕ) (value : List ℕ) → List Test
read_tests xs offset value = bad_size (sized xs && is_size 4 value) ∷ bad_image xs ∷ no_register offset ∷ []

abbrev pub write_tests : (xs : List ℕ) (offset : ℕ) → List Test
write_tests xs offset = bad_size (sized xs) ∷ bad_image xs ∷ no_register offset ∷ []

abbrev pub line_tests : (xs value : List ℕ) → List Test
line_tests xs value = bad_size (sized xs && is_size 4 value) ∷ bad_image xs ∷ []

abbrev pub run_tests : (xs : List ℕ) → Lent → (report : List ℕ) → List Test
run_tests xs l report =
    bad_size (sized xs && is_size 18 report) ∷ bad_image xs ∷ odd_stream l.beats l.out ∷ bad_ledger l.ledger l.used ∷ other_window xs l.window ∷ []

abbrev pub build_tests : (window : List ℕ) (base a : ℕ) → List Test
build_tests window base a = bad_window base (length window) ∷ misaligned a ∷ outside base (length window) a ∷ []

abbrev pub descriptor_tests : (window : List ℕ) (base a : ℕ) (answer : List ℕ) → List Test
descriptor_tests window base a answer = bad_size (is_size 18 answer) ∷ build_tests window base a

abbrev pub find_tests : (ledger : List ℕ) (used run : ℕ) (answer : List ℕ) → List Test
find_tests ledger used run answer = bad_size (is_size 4 answer) ∷ bad_ledger ledger used ∷ run_unknown run ∷ []

-- both sizes are an edition's
abbrev pub move_tests : (xs to : List ℕ) → List Test
move_tests xs to = bad_size (is_image xs && is_image to) ∷ bad_edition xs ∷ held_slot xs to ∷ []

-- its answer has 10 bytes
abbrev pub check_tests : (window : List ℕ) (base : ℕ) (answer : List ℕ) → List Test
check_tests window base answer = bad_size (is_size 10 answer) ∷ bad_window base (length window) ∷ []

-- its answer has 8 bytes
abbrev pub mend_tests : (window : List ℕ) (base pointer : ℕ) (answer : List ℕ) → List Test
mend_tests window base pointer answer = bad_size (is_size 8 answer) ∷ bad_window base (length window) ∷ nothing_to_keep base window pointer ∷ []

-- ---- and each call on a timer

abbrev pub timer_create_tests : List ℕ → List Test
timer_create_tests xs = bad_size (is_size 14 xs) ∷ []

abbrev pub timer_read_tests : (xs : List ℕ) (offset : ℕ) (value : List ℕ) → List Test
timer_read_tests xs offset value = bad_size (is_size 14 xs && is_size 4 value) ∷ bad_timer xs ∷ no_timer_register offset ∷ []

abbrev pub timer_write_tests : (xs : List ℕ) (offset : ℕ) → List Test
timer_write_tests xs offset = bad_size (is_size 14 xs) ∷ bad_timer xs ∷ no_timer_register offset ∷ []

-- to tell the line, or to make ticks
abbrev pub timer_value_tests : (xs value : List ℕ) → List Test
timer_value_tests xs value = bad_size (is_size 14 xs && is_size 4 value) ∷ bad_timer xs ∷ []

abbrev pub timer_elapsed_tests : (xs value : List ℕ) → List Test
timer_elapsed_tests xs value = bad_size (is_size 14 xs && is_size 4 value) ∷ bad_timer xs ∷ not_full_period xs ∷ []

-- ---- and each call on a controller

abbrev pub vic_create_tests : (xs : List ℕ) (count : ℕ) → List Test
vic_create_tests xs count = bad_size (is_size 88 xs) ∷ no_port (ports_kept count) ∷ []

-- to configure, enable, trigger or drive a port
abbrev pub vic_port_tests : (xs : List ℕ) (p : ℕ) → List Test
vic_port_tests xs p = bad_size (is_size 88 xs) ∷ bad_controller xs ∷ no_port (ltb p (ports xs)) ∷ []

abbrev pub vic_choose_tests : (xs answer : List ℕ) → List Test
vic_choose_tests xs answer = bad_size (is_size 88 xs && is_size 12 answer) ∷ bad_controller xs ∷ address_too_large xs ∷ []
