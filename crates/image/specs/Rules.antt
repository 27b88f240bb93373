-- The paper's "Image rules": a test for each field, in layout order. A rule over several fields stands at the last of them,
-- one that makes several zero at each of them. The rules are a list of parts, as the table is: the first part stands here, the
-- one of edition 2 in Slot.
-- Assumes nothing.
use Rattle.std.specs.Prelude.{ℕ, Bool, true, not, cond, ◌&&◌, ◌||◌, List, [], ◌∷◌, get_or, eqb, leb, ltb, Option, Some, None}
use Rattle.bus.specs.Window.{keeps_limits, checked_of}
use Rattle.descriptor.specs.Layout.{owned}
use Rattle.image.specs.declared.Fields.{Fields}
use Rattle.image.specs.declared.Tail.{Tail}
use Rattle.image.specs.Lines.{first_parts}
use Rattle.image.specs.Slot.{slot_rules}
use Rattle.image.specs.Layout.{latest}
pub use Rattle.words.specs.Fields.{first_false}
pub use Rattle.image.specs.Tests.{◌⇒◌, ◌exactly◌, ◌outside◌, either, between, zero_from, stands_in, in_move, in_write_back, in_ended, in_halted, in_faulted, working, zero_outside, error, eop_encountered, busy, run, sw_reset}

-- ---- the rules

-- the edition is the one that is read
abbrev pub edition_kept : (read edition : ℕ) → Bool
edition_kept read edition = eqb edition read

-- mode at most 2
abbrev pub mode_kept : ℕ → Bool
mode_kept mode = leb mode 2

-- phase at most 6; Halted only in mode 2
abbrev pub phase_kept : (mode phase : ℕ) → Bool
phase_kept mode phase = leb phase 6 && (in_halted phase ⇒ eqb mode 2)

-- code 10 to 14, 12 and 13 only in modes 0 and 1, 14 only in 0 and 2
abbrev pub fault_code : (mode fault : ℕ) → Bool
fault_code mode fault =
    between 10 14 fault && (either 12 13 fault ⇒ either 0 1 mode) && (eqb fault 14 ⇒ either 0 2 mode)

-- Faulted: such a code; else code 0
abbrev pub fault_kept : (mode phase fault : ℕ) → Bool
fault_kept mode phase fault = (in_faulted phase ⇒ fault_code mode fault) && (eqb fault 0 outside in_faulted phase)

-- status bits 5..7 zero; BUSY 1 exactly in phases 1 to 4; ERROR and EOP_ENCOUNTERED 0 outside mode 2
abbrev pub status_kept : (mode phase status : ℕ) → Bool
status_kept mode phase status =
    zero_from 5 status && (busy status exactly between 1 4 phase) && (not (error status || eop_encountered status) outside eqb mode 2)

-- count at most 254
abbrev pub count_kept : ℕ → Bool
count_kept count = leb count 254

-- control bits 18..31 zero; control bit 16 equals armed; RUN 1 in Ended and Halted
abbrev pub control_kept : (phase : ℕ) (armed : Bool) (control : ℕ) → Bool
control_kept phase armed control =
    zero_from 18 control && (sw_reset control exactly armed) && (in_ended phase || in_halted phase ⇒ run control)

-- zero outside; there: address aligned and in the window, with all 32 bytes, as the one look at a descriptor's address finds it
abbrev pub address_kept : (hand : Bool) (base window address : ℕ) → Bool
address_kept hand base window address =
    zero_outside hand address && (hand ⇒ stands_in (checked_of base window) address)

-- zero outside; there, in modes 0 and 1, length not 0
abbrev pub size_kept : (mode : ℕ) (hand : Bool) (size : ℕ) → Bool
size_kept mode hand size = zero_outside hand size && (hand && either 0 1 mode ⇒ not (eqb size 0))

-- zero outside; there control bit 7 set
abbrev pub dcontrol_kept : (hand : Bool) (dcontrol : ℕ) → Bool
dcontrol_kept hand dcontrol = zero_outside hand dcontrol && (hand ⇒ owned dcontrol)

-- zero outside; in modes 0 and 1 errors 0; errors bit 7 zero
abbrev pub errors_kept : (mode : ℕ) (hand : Bool) (errors : ℕ) → Bool
errors_kept mode hand errors = zero_outside hand errors && (either 0 1 mode ⇒ eqb errors 0) && zero_from 7 errors

-- L is bytes_to_transfer; in mode 2 a 0 means 65,535
abbrev pub asked : (mode size : ℕ) → ℕ
asked mode size = cond (eqb mode 2 && eqb size 0) 65535 size

-- zero outside; Move: moved < L, errors 0 if moved is 0; WriteBack: 1 <= moved <= L
abbrev pub moved_kept : (phase L errors moved : ℕ) → Bool
moved_kept phase L errors moved =
    zero_outside (working phase) moved && (in_move phase ⇒ ltb moved L && (eqb moved 0 ⇒ eqb errors 0)) && (in_write_back phase ⇒ between 1 L moved)

-- zero outside; EOP seen 0 in modes 0 and 1; Move: EOP seen 0; WriteBack: moved = L or EOP seen
abbrev pub eop_kept : (mode phase L moved : ℕ) (eop : Bool) → Bool
eop_kept mode phase L moved eop =
    (not eop outside working phase) && (either 0 1 mode ⇒ not eop) && (in_move phase ⇒ not eop) && (in_write_back phase ⇒ eqb moved L || eop)

-- the first part, of the fields that the table's first part has; the edition is the one that is read
abbrev pub core_rules : (edition : ℕ) → Fields → List Bool
core_rules edition f =
    edition_kept edition f.edition ∷  --  1 edition
    mode_kept f.mode ∷  --  2 mode
    phase_kept f.mode f.phase ∷  --  3 phase
    true ∷  --  4 armed
    true ∷  --  5 pending
    fault_kept f.mode f.phase f.fault ∷  --  6 fault
    status_kept f.mode f.phase f.status ∷  --  7 status
    count_kept f.count ∷  --  8 count
    control_kept f.phase f.armed f.control ∷  --  9 control
    true ∷  -- 10 pointer
    true ∷  -- 11 base
    keeps_limits f.base f.window ∷  -- 12 window length: the window's limits
    address_kept (working f.phase) f.base f.window f.address ∷  -- 13 descriptor address
    zero_outside (working f.phase) f.source ∷  -- 14 source
    zero_outside (working f.phase) f.destination ∷  -- 15 destination
    size_kept f.mode (working f.phase) f.size ∷  -- 16 length
    dcontrol_kept (working f.phase) f.dcontrol ∷  -- 17 descriptor control
    errors_kept f.mode (working f.phase) f.errors ∷  -- 18 errors
    moved_kept f.phase (asked f.mode f.size) f.errors f.moved ∷  -- 19 moved
    eop_kept f.mode f.phase (asked f.mode f.size) f.moved f.eop ∷  -- 20 EOP seen
    eqb f.zero15 0 ∷  -- 21 zero: zero bits are zero
    (eqb f.faultat 0 outside in_faulted f.phase) ∷  -- 22 fault address: 0 outside Faulted
    []

-- a part for each part of the table
abbrev pub rule_parts : (edition : ℕ) → Fields → Tail → List (List Bool)
rule_parts edition f t = core_rules edition f ∷ slot_rules f t ∷ []

-- the rules of an edition
abbrev pub rules_of : (edition : ℕ) → Fields → Tail → List Bool
rules_of edition f t = first_parts edition (rule_parts edition f t)

-- those of the latest
unfoldable pub rules : Fields → Tail → List Bool
rules f t = rules_of latest f t

-- whether the field with this number keeps its rule
abbrev pub rule_at : Fields → Tail → (field : ℕ) → Bool
rule_at f t field = get_or (true ∷ rules f t) field true

-- the lowest field that breaks a rule, counted from 1, or 0
unfoldable pub lowest_broken : Fields → Tail → ℕ
lowest_broken f t = first_false 1 (rules f t)

-- such a number as an answer: 0 is none
abbrev pub told : ℕ → Option ℕ
told n = cond (eqb n 0) None (Some n)

unfoldable pub keeps_rules : Fields → Tail → Bool
keeps_rules f t = eqb (lowest_broken f t) 0
