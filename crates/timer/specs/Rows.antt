-- Worked cases, made by hand from the order and the chapter, as one claim: they hold the definitions against both.
-- Assumes nothing.
use Rattle.std.specs.Prelude.{◌≡◌, ℕ, Bool, true, false, [], ◌∷◌, Ok, Err}
use Rattle.bus.specs.declared.Refusal.TheVariants.{BadSize, BadImage, NoTimerRegister, NotFullPeriod}
use Rattle.timer.specs.declared.Timer.{Timer}
use Rattle.timer.specs.declared.Ran.{Ran}
use Rattle.timer.specs.Counting.{created_of, ran_of}
use Rattle.timer.specs.Registers.{read_of, write_of, line_up, between_of}
use Rattle.timer.specs.Saved.{bytes_of_timer, load_of}

-- a timer without snapshot or interrupt
abbrev pub timer : (counter period : ℕ) (cont run to : Bool) → Timer
timer counter period cont run to =
    record { counter = counter; period = period; snapshot = 0; cont = cont; ito = false; run = run; to = to }

-- one with all fields
abbrev pub full : (counter period snapshot : ℕ) (cont ito run to : Bool) → Timer
full counter period snapshot cont ito run to =
    record { counter = counter; period = period; snapshot = snapshot; cont = cont; ito = ito; run = run; to = to }

abbrev pub ran : Timer → ℕ → Ran
ran t zeros = record { timer = t; zeros = zeros }

pub record Rows : Type 0 where
  -- period 2: reached in the 2nd, 5th and 8th tick
  pub one : ran_of 1 (timer 2 2 true true false) ≡ ran (timer 1 2 true true false) 0
  pub two : ran_of 2 (timer 2 2 true true false) ≡ ran (timer 0 2 true true true) 1
  pub three : ran_of 3 (timer 2 2 true true false) ≡ ran (timer 2 2 true true true) 1
  pub eight : ran_of 8 (timer 2 2 true true false) ≡ ran (timer 0 2 true true true) 3
  -- from 0, P + 1 ticks
  pub from_zero : ran_of 3 (timer 0 2 true true false) ≡ ran (timer 0 2 true true true) 1
  -- period 0: every tick
  pub five : ran_of 5 (timer 0 0 true true false) ≡ ran (timer 0 0 true true true) 5
  -- one-shot: at 0 it runs, then it is loaded and stands; of period 0 its load is the one time
  pub once : ran_of 2 (timer 2 2 false true false) ≡ ran (timer 0 2 false true true) 1
  pub stands : ran_of 9 (timer 2 2 false true false) ≡ ran (timer 2 2 false false true) 1
  pub once_zero : ran_of 9 (timer 0 0 false true false) ≡ ran (timer 0 0 false false true) 1
  -- stopped: nothing
  pub still : ran_of 9 (timer 2 2 true false false) ≡ ran (timer 2 2 true false false) 0
  -- RUN and TO read 3, ITO and CONT 3; 0x12345678 reads in halves; there is no register 6
  pub status : read_of (timer 1 2 true true true) 0 ≡ Ok 3
  pub control : read_of (full 1 2 0 true true false false) 1 ≡ Ok 3
  pub periodl : read_of (created_of 0x12345678) 2 ≡ Ok 0x5678
  pub periodh : read_of (created_of 0x12345678) 3 ≡ Ok 0x1234
  pub snapl : read_of (full 1 2 0x12345678 false false false false) 4 ≡ Ok 0x5678
  pub snaph : read_of (full 1 2 0x12345678 false false false false) 5 ≡ Ok 0x1234
  pub none : read_of (created_of 2) 6 ≡ Err NoTimerRegister
  -- START and CONT start; ITO alone is stored and leaves RUN; START and STOP stop, and CONT is stored
  pub start : write_of (created_of 2) 1 6 ≡ Ok (timer 2 2 true true false)
  pub enable : write_of (timer 1 2 true true false) 1 1 ≡ Ok (full 1 2 0 false true true false)
  pub both : write_of (timer 1 2 false true false) 1 14 ≡ Ok (timer 1 2 true false false)
  -- status, with any value, clears TO and leaves RUN
  pub clear : write_of (timer 1 2 true true true) 0 0 ≡ Ok (timer 1 2 true true false)
  pub clear_any : write_of (timer 1 2 true true true) 0 0xffff ≡ Ok (timer 1 2 true true false)
  -- a period half loads and stops; TO stays, and the other half too
  pub load : write_of (timer 1 65538 true true true) 2 5 ≡ Ok (timer 65541 65541 true false true)
  pub loadh : write_of (timer 1 65538 true true true) 3 2 ≡ Ok (timer 131074 131074 true false true)
  -- a snap register takes the counter, running or not, whatever is written
  pub snap : write_of (timer 7 9 true true false) 4 1 ≡ Ok (full 7 9 7 true false true false)
  pub snap_still : write_of (timer 7 9 true false false) 5 0 ≡ Ok (full 7 9 7 true false false false)
  pub write_none : write_of (created_of 2) 6 0 ≡ Err NoTimerRegister
  -- the line wants TO and ITO
  pub up : line_up (full 1 2 0 false true false true) ≡ true
  pub not_enabled : line_up (full 1 2 0 false false false true) ≡ false
  pub not_yet : line_up (full 1 2 0 false true true false) ≡ false
  -- 5 minus 4,294,967,290 is 11; another period than the full one is refused
  pub elapsed : between_of (created_of 4294967295) 5 4294967290 ≡ Ok 11
  pub other : between_of (created_of 4294967294) 5 4 ≡ Err NotFullPeriod
  -- the 14 bytes; the counter above the period is field 2, a zero bit that is set field 4, and 13 bytes are no timer
  pub in_bytes : bytes_of_timer (full 1 0x10203 0xfffefdfc true false true false)
      ≡ 0 ∷ 0 ∷ 0 ∷ 1 ∷ 0 ∷ 1 ∷ 2 ∷ 3 ∷ 255 ∷ 254 ∷ 253 ∷ 252 ∷ 0 ∷ 10 ∷ []
  pub out_bytes : load_of (0 ∷ 0 ∷ 0 ∷ 1 ∷ 0 ∷ 1 ∷ 2 ∷ 3 ∷ 255 ∷ 254 ∷ 253 ∷ 252 ∷ 0 ∷ 5 ∷ [])
      ≡ Ok (full 1 0x10203 0xfffefdfc false true false true)
  pub above : load_of (0 ∷ 0 ∷ 0 ∷ 3 ∷ 0 ∷ 0 ∷ 0 ∷ 2 ∷ 0 ∷ 0 ∷ 0 ∷ 0 ∷ 255 ∷ 255 ∷ []) ≡ Err (BadImage 2)
  pub stray : load_of (0 ∷ 0 ∷ 0 ∷ 2 ∷ 0 ∷ 0 ∷ 0 ∷ 2 ∷ 0 ∷ 0 ∷ 0 ∷ 0 ∷ 0 ∷ 16 ∷ []) ≡ Err (BadImage 4)
  pub short : load_of (0 ∷ 0 ∷ 0 ∷ 2 ∷ 0 ∷ 0 ∷ 0 ∷ 2 ∷ 0 ∷ 0 ∷ 0 ∷ 0 ∷ 0 ∷ []) ≡ Err BadSize
