-- The control register: its bits, and what they decide.
-- Assumes nothing.
use Rattle.std.specs.Prelude.{ℕ, ◌+◌, ◌/◌, ◌%◌, Bool, true, false, not, cond, ◌&&◌, ◌||◌, eqb, leb, ltb}
use Rattle.words.specs.Bits.{bit}
use Rattle.regs.specs.declared.Control.{Control}
use Rattle.regs.specs.declared.Count.{Count}

abbrev pub ie_error : Control → Bool
ie_error c = bit 0 c.0

abbrev pub ie_eop : Control → Bool
ie_eop c = bit 1 c.0

abbrev pub ie_descriptor : Control → Bool
ie_descriptor c = bit 2 c.0

abbrev pub ie_chain : Control → Bool
ie_chain c = bit 3 c.0

abbrev pub ie_global : Control → Bool
ie_global c = bit 4 c.0

abbrev pub run : Control → Bool
run c = bit 5 c.0

abbrev pub stop_dma_er : Control → Bool
stop_dma_er c = bit 6 c.0

abbrev pub ie_max : Control → Bool
ie_max c = bit 7 c.0

-- bits 8 to 15
abbrev pub max_desc_processed : Control → ℕ
max_desc_processed c = c.0 / 256 % 256

abbrev pub sw_reset : Control → Bool
sw_reset c = bit 16 c.0

abbrev pub park : Control → Bool
park c = bit 17 c.0

abbrev pub clear_interrupt : Control → Bool
clear_interrupt c = bit 31 c.0

-- a number, such as the value of a write, by its bits
abbrev pub as_control : ℕ → Control
as_control n = record { 0 = n }

-- ---- a write

-- the reset: bit 16 is written and already reads 1
abbrev pub reset_by : ℕ → Control → Bool
reset_by v c = sw_reset (as_control v) && sw_reset c

-- RUN goes 0 to 1
abbrev pub started_by : ℕ → Control → Bool
started_by v c = not (run c) && run (as_control v)

-- which sets the descriptor count to 0
abbrev pub count_from : ℕ → Control → (count : ℕ) → ℕ
count_from v c count = cond (started_by v c) 0 count

-- "the run number rises by 1 whenever RUN goes 0 to 1, stays at its largest value and outlives a reset"
abbrev pub raised : (number : ℕ) → ℕ
raised number = cond (ltb number 4294967295) (number + 1) number

abbrev pub run_from : ℕ → Control → (number : ℕ) → ℕ
run_from v c number = cond (not (reset_by v c) && started_by v c) (raised number) number

-- ---- a descriptor written back

-- if MAX is 0 it becomes 0; else add 1, and on reaching MAX or more it becomes 0 and is full, for which IE_MAX pends
unfoldable pub counted : (count max : ℕ) → Count
counted count max =
    cond (eqb max 0) (record { count = 0; full = false })
    (cond (leb max (count + 1)) (record { count = 0; full = true }) (record { count = count + 1; full = false }))

-- each event pends only under its own enable
abbrev pub pends : Control → (eop failed full : Bool) → Bool
pends c eop failed full = ie_descriptor c || (ie_eop c && eop) || (ie_error c && failed) || (ie_max c && full)

-- ---- the line is up exactly when an interrupt is pending and IE_GLOBAL is 1

abbrev pub line_up : Control → (pending : Bool) → Bool
line_up c pending = pending && ie_global c
