-- Cases worked out by hand, from the paper and its requests, for what its eleven runs do not touch. A scene starts with D at 4096 in a
-- window of 256 bytes at 4096, unless said; `held` are the bytes from 4224 on. A chain of descriptors of one byte each goes to 4224.
-- Assumes nothing.
use Rattle.std.specs.Prelude.{ℕ, true, false, List, [], ◌∷◌, ◌++◌}
use Rattle.words.specs.Slices.{put}
use Rattle.known_runs.specs.Scene.{Act, write, go, lend, poke, numbered, Fact, reason, steps, taken, out, status, control, pointer, phase, pending, line, count, fault, bytes, ledger, slot, run_number, Scene, desc, zeros, window}
use Rattle.known_runs.specs.Known.{D, four, once, received}

-- modes 0 and 1: a descriptor, the bytes held from 4224 on, and room for so many beats
abbrev pub copied : (first held : List ℕ) → List Act → List Fact → Scene
copied first held acts facts =
    record { mode = 0; base = 4096; window = window first held; beats = []; room = 0; acts = acts; facts = facts }

abbrev pub sent : (first held : List ℕ) (room : ℕ) → List Act → List Fact → Scene
sent first held room acts facts =
    record { mode = 1; base = 4096; window = window first held; beats = []; room = room; acts = acts; facts = facts }

abbrev pub ABCD : List ℕ
ABCD = 0xAA ∷ 0xBB ∷ 0xCC ∷ 0xDD ∷ []

-- three descriptors of one byte each at 4096, 4128 and 4160, the chain's end at 4192
abbrev pub three : List ℕ
three = desc 0 4224 4128 1 0x80 ++ desc 0 4224 4160 1 0x80 ++ desc 0 4224 4192 1 0x80

-- one of one byte
abbrev pub single : List ℕ
single = desc 0 4224 4128 1 0x80

-- the record of the descriptor at 4096 + past: run number, address, bytes, errors, EOP
abbrev pub recorded_by : (run : List ℕ) (past n errors last : ℕ) → List ℕ
recorded_by run past n errors last = run ++ 0 ∷ 0 ∷ 0x10 ∷ past ∷ 0 ∷ n ∷ errors ∷ last ∷ []

abbrev pub recorded_in : (run past n errors last : ℕ) → List ℕ
recorded_in run past n errors last = recorded_by (0 ∷ 0 ∷ 0 ∷ run ∷ []) past n errors last

-- in run 1
abbrev pub recorded_at : (past n errors last : ℕ) → List ℕ
recorded_at past n errors last = recorded_in 1 past n errors last

-- of the one at 4096
abbrev pub recorded : (n errors last : ℕ) → List ℕ
recorded n errors last = recorded_at 0x00 n errors last

-- reset: armed by the first write, whose RUN and STOP_DMA_ER are stored as any other's, and done by the second, which is ignored
-- but for bit 16
abbrev pub resets : List Act → List Act
resets before = before ++ write 4 0x10060 ∷ write 4 0x10000 ∷ []

-- fresh again, but for the run number, which outlives it: RUN went 0 to 1 once, in `resets` at the latest
abbrev pub is_fresh : List Fact
is_fresh =
    status 0 ∷ control 0 ∷ pointer 0 ∷ phase 0 ∷ pending false ∷ count 0 ∷ fault 0 0 ∷ slot 0 ∷ run_number 1 ∷ []

-- two descriptors of one byte each, at 4096 to 4224 and at 4128 to 4232; the chain's end at 4160
abbrev pub pair : List ℕ
pair = desc 0 4224 4128 1 0x80 ++ desc 0 4232 4160 1 0x80

-- the host writes another descriptor to 4128: its byte goes to 4240, and the chain's end is at 4192
abbrev pub another : Act
another = poke 32 (desc 0 4240 4192 1 0x80)

-- of `pair` and `another`, the old one ran: the second byte landed at 4232, and the chain's end is the old one; or the new one ran
abbrev pub old_ran : List Fact
old_ran =
    pointer 4160 ∷ bytes 60 (1 ∷ 0 ∷ 0 ∷ 0 ∷ []) ∷ bytes 128 (0x11 ∷ []) ∷ bytes 136 (0x22 ∷ []) ∷ bytes 144 (0x00 ∷ []) ∷ []

abbrev pub new_ran : List Fact
new_ran =
    pointer 4192 ∷ bytes 60 (1 ∷ 0 ∷ 0 ∷ 0 ∷ []) ∷ bytes 128 (0x11 ∷ []) ∷ bytes 136 (0x00 ∷ []) ∷ bytes 144 (0x22 ∷ []) ∷ []

abbrev pub worked : List Scene
worked =
    -- 1 to 6: faults 13 and 14 in mode 0; 13 in mode 1 without room and with it; 12 in mode 1; what a fault keeps
    copied (desc 4352 4224 4128 4 0x80) [] (once 4096 0x20 100) (reason 3 ∷ steps 3 ∷ fault 13 4352 ∷ status 0 ∷ pointer 4128 ∷ [])
    ∷ copied (desc 4224 4350 4128 4 0x80) ABCD (once 4096 0x20 100)
    (reason 3 ∷ steps 5 ∷ fault 14 4352 ∷ status 0 ∷ bytes 254 (0xAA ∷ 0xBB ∷ []) ∷ bytes 31 (0x80 ∷ []) ∷ [])
    ∷ sent (desc 4352 0 4128 4 0x80) [] 0 (once 4096 0x20 100) (reason 3 ∷ steps 3 ∷ fault 13 4352 ∷ out [] ∷ [])
    ∷ sent (desc 4350 0 4128 4 0x80) [] 4 (once 4096 0x20 100) (reason 3 ∷ steps 5 ∷ fault 13 4352 ∷ out (0 ∷ 0 ∷ []) ∷ [])
    ∷ sent (desc 4224 0 4128 0 0x80) [] 4 (once 4096 0x20 100) (reason 3 ∷ steps 2 ∷ fault 12 4096 ∷ pointer 4096 ∷ [])
    ∷ received (desc 0 4224 4130 1 0x80) (0x0211 ∷ []) (once 4096 0x325 100)
    (reason 3 ∷ steps 5 ∷ fault 10 4130 ∷ status 0x05 ∷ pending true ∷ count 1 ∷ control 0x325 ∷ pointer 4130 ∷ [])
    -- 7, 8: no room, no step, however often it is asked
    ∷ sent (desc 4224 0 4128 4 0x80) ABCD 2 (once 4096 0x20 100) (reason 5 ∷ steps 4 ∷ out (0x00AA ∷ 0x00BB ∷ []) ∷ status 0x10 ∷ phase 2 ∷ [])
    ∷ sent (desc 4224 0 4128 4 0x80) ABCD 2 (once 4096 0x20 100 ++ go 5 ∷ []) (reason 5 ∷ steps 0 ∷ out (0x00AA ∷ 0x00BB ∷ []) ∷ [])
    -- 9, 10: a length of 0 is open in mode 2 and ends at EOP; an unowned descriptor of length 0 ends the chain in every mode
    ∷ received (desc 0 4224 4128 0 0x80) (0x0011 ∷ 0x0022 ∷ 0x0133 ∷ 0x0044 ∷ []) (once 4096 0x20 100)
    (reason 1 ∷ steps 7 ∷ taken 3 ∷ status 0x1E ∷ bytes 28 (0x03 ∷ 0x00 ∷ 0x00 ∷ 0x00 ∷ []) ∷ bytes 128 (0x11 ∷ 0x22 ∷ 0x33 ∷ 0x00 ∷ []) ∷ [])
    ∷ copied (desc 0 0 0 0 0x00) [] (once 4096 0x20 100) (reason 1 ∷ steps 2 ∷ status 0x18 ∷ pointer 4096 ∷ [])
    -- 11 to 15: MAX_DESC_PROCESSED 2 reached; after the first descriptor; without IE_MAX; lowered below the count; 0
    ∷ received (desc 0 4224 4128 1 0x80 ++ desc 0 4224 4160 1 0x80) four (once 4096 0x2A0 100)
    (reason 1 ∷ steps 8 ∷ taken 2 ∷ status 0x1C ∷ count 0 ∷ pending true ∷ line false ∷ [])
    ∷ received (desc 0 4224 4128 1 0x80 ++ desc 0 4224 4160 1 0x80) four (once 4096 0x2A0 4) (reason 6 ∷ steps 4 ∷ count 1 ∷ pending false ∷ [])
    ∷ received (desc 0 4224 4128 1 0x80 ++ desc 0 4224 4160 1 0x80) four (once 4096 0x220 100) (reason 1 ∷ count 0 ∷ pending false ∷ [])
    ∷ received three four (once 4096 0x3A0 7 ++ write 4 0x1A0 ∷ go 3 ∷ []) (reason 6 ∷ steps 3 ∷ count 0 ∷ pending true ∷ [])
    ∷ received three four (once 4096 0x3A0 7 ++ write 4 0x0A0 ∷ go 3 ∷ []) (reason 6 ∷ steps 3 ∷ count 0 ∷ pending false ∷ [])
    -- 16 to 25: each enable alone, with its event and without; none, with every event
    ∷ received single (0x0211 ∷ []) (once 4096 0x21 100) (status 0x1D ∷ pending true ∷ [])
    ∷ received single (0x0111 ∷ []) (once 4096 0x21 100) (status 0x1E ∷ pending false ∷ [])
    ∷ received single (0x0111 ∷ []) (once 4096 0x22 100) (status 0x1E ∷ pending true ∷ [])
    ∷ received single (0x0211 ∷ []) (once 4096 0x22 100) (status 0x1D ∷ pending false ∷ [])
    ∷ received single (0x0011 ∷ []) (once 4096 0x24 4) (reason 6 ∷ status 0x14 ∷ pending true ∷ [])
    ∷ received single (0x0011 ∷ []) (once 4128 0x24 100) (reason 1 ∷ status 0x18 ∷ pending false ∷ [])
    ∷ received single (0x0011 ∷ []) (once 4128 0x28 100) (reason 1 ∷ status 0x18 ∷ pending true ∷ [])
    ∷ received single (0x0011 ∷ []) (once 4096 0x28 4) (reason 6 ∷ status 0x14 ∷ pending false ∷ [])
    ∷ received single (0x0011 ∷ []) (once 4096 0x1A0 4) (reason 6 ∷ pending true ∷ [])
    ∷ received single (0x0311 ∷ []) (once 4096 0x120 100) (reason 1 ∷ status 0x1F ∷ pending false ∷ [])
    -- 26 to 29: the line wants IE_GLOBAL; bit 31 clears what pends, a status write does not
    ∷ received D four (once 4128 0x28 100) (pending true ∷ line false ∷ [])
    ∷ received D four (once 4128 0x38 100) (pending true ∷ line true ∷ [])
    ∷ received D four (once 4128 0x38 100 ++ write 0 0xFFFFFFFF ∷ []) (status 0x10 ∷ pending true ∷ line true ∷ [])
    ∷ received D four (once 4128 0x38 100 ++ write 4 0x80000038 ∷ []) (control 0x38 ∷ pending false ∷ line false ∷ [])
    -- 30 to 32: RUN cleared in Move finishes that descriptor and leaves the next one owned; in Fetch it rests; errors with
    -- STOP_DMA_ER and RUN 0 go to Rest, after the whole length
    ∷ received (desc 0 4224 4128 4 0x80 ++ desc 0 4224 4160 1 0x80) (four ++ four) (once 4096 0x20 3 ++ write 4 0 ∷ go 100 ∷ [])
    (reason 0 ∷ steps 4 ∷ taken 4 ∷ status 0x04 ∷ phase 0 ∷ pointer 4128 ∷ bytes 28 (0x04 ∷ 0x00 ∷ 0x00 ∷ 0x00 ∷ []) ∷ bytes 60 (0x00 ∷ 0x00 ∷ 0x00 ∷ 0x80 ∷ []) ∷ [])
    ∷ received D four (once 4096 0x20 1 ++ write 4 0 ∷ go 100 ∷ []) (reason 0 ∷ steps 1 ∷ taken 0 ∷ status 0 ∷ phase 0 ∷ pointer 4096 ∷ [])
    ∷ received (desc 0 4224 4128 2 0x80) (0x0211 ∷ 0x0422 ∷ []) (once 4096 0x60 4 ++ write 4 0x40 ∷ go 100 ∷ [])
    (reason 0 ∷ steps 1 ∷ status 0x05 ∷ phase 0 ∷ bytes 28 (0x02 ∷ 0x00 ∷ 0x03 ∷ 0x00 ∷ []) ∷ [])
    -- 33 to 35: PARK keeps OWNED, in each mode, and is read at the write-back; bits 3 to 6 of the control byte are kept
    ∷ copied (desc 4224 4232 4128 2 0x80) ABCD (once 4096 0x20020 100)
    (reason 1 ∷ steps 6 ∷ status 0x1C ∷ bytes 28 (0x02 ∷ 0x00 ∷ 0x00 ∷ 0x80 ∷ []) ∷ bytes 136 (0xAA ∷ 0xBB ∷ 0x00 ∷ []) ∷ [])
    ∷ sent (desc 4224 0 4128 2 0xF8) ABCD 2 (once 4096 0x20020 100) (reason 1 ∷ steps 6 ∷ out (0x00AA ∷ 0x00BB ∷ []) ∷ bytes 28 (0x02 ∷ 0x00 ∷ 0x00 ∷ 0xF8 ∷ []) ∷ [])
    ∷ received (desc 0 4224 4128 1 0xF8) four (once 4096 0x20020 3 ++ write 4 0x20 ∷ go 1 ∷ []) (reason 6 ∷ bytes 28 (0x01 ∷ 0x00 ∷ 0x00 ∷ 0x78 ∷ []) ∷ [])
    -- 36 to 42: reset in each phase: Rest, Fetch, Move, WriteBack, Ended, Halted, Faulted
    ∷ received D four (resets (write 8 4096 ∷ [])) is_fresh
    ∷ received D four (resets (once 4096 0x20 1)) is_fresh
    ∷ received D four (resets (once 4096 0x20 4)) is_fresh
    ∷ received D four (resets (once 4096 0x3A7 6)) is_fresh
    ∷ received D four (resets (once 4096 0x3AF 100)) is_fresh
    ∷ received D (0x0211 ∷ four) (resets (once 4096 0x3E1 100)) is_fresh
    ∷ received D four (resets (once 4098 0x20 100)) is_fresh
    -- 43 to 45: one write of SW_RESET arms and works as any other; written as 0 it disarms; after a reset it must be armed anew
    ∷ received D four (once 4096 0x20 1 ++ write 4 0x10020 ∷ []) (control 0x10020 ∷ phase 1 ∷ status 0x10 ∷ pointer 4096 ∷ [])
    ∷ received D four (once 4096 0x20 1 ++ write 4 0x10020 ∷ write 4 0x20 ∷ write 4 0x10020 ∷ []) (control 0x10020 ∷ phase 1 ∷ [])
    ∷ received D four (resets (once 4096 0x20 1) ++ write 4 0x10020 ∷ []) (control 0x10020 ∷ phase 0 ∷ pointer 0 ∷ [])
    -- 46 to 49: READ_FIXED and WRITE_FIXED
    ∷ copied (desc 4224 4232 4128 3 0x82) ABCD (once 4096 0x20 100) (reason 1 ∷ steps 7 ∷ bytes 136 (0xAA ∷ 0xAA ∷ 0xAA ∷ 0x00 ∷ []) ∷ [])
    ∷ copied (desc 4224 4232 4128 3 0x84) ABCD (once 4096 0x20 100) (reason 1 ∷ steps 7 ∷ bytes 136 (0xCC ∷ 0x00 ∷ 0x00 ∷ []) ∷ [])
    ∷ sent (desc 4224 0 4128 2 0x82) ABCD 2 (once 4096 0x20 100) (reason 1 ∷ steps 6 ∷ out (0x00AA ∷ 0x00AA ∷ []) ∷ [])
    ∷ received (desc 0 4224 4128 4 0x84) four (once 4096 0x20 100) (reason 1 ∷ steps 8 ∷ bytes 128 (0x44 ∷ 0x00 ∷ []) ∷ bytes 28 (0x04 ∷ 0x00 ∷ 0x00 ∷ 0x04 ∷ []) ∷ [])
    -- 50: an address whose sum passes 2^32: fault 14 at 2^32 modulo 2^32
    ∷ record {
      mode = 2;
      base = 4294967040;
      window = window (desc 0 4294967294 4294967072 4 0x80) [];
      beats = four;
      room = 0;
      acts = once 4294967040 0x20 100;
      facts = reason 3 ∷ steps 5 ∷ taken 2 ∷ fault 14 0 ∷ bytes 254 (0x11 ∷ 0x22 ∷ []) ∷ pointer 4294967072 ∷ [];
    }
    -- 51: an overlapping copy repeats its pattern
    ∷ copied (desc 4224 4225 4128 3 0x80) ABCD (once 4096 0x20 100) (reason 1 ∷ steps 7 ∷ bytes 128 (0xAA ∷ 0xAA ∷ 0xAA ∷ 0xAA ∷ []) ∷ [])
    -- 52: data on the descriptor itself after its fetch; what is written back was kept at the fetch
    ∷ received (desc 0 4120 4128 8 0x80) (four ++ 0x0055 ∷ 0x0066 ∷ 0x0077 ∷ 0x0088 ∷ []) (once 4096 0x20 100)
    (reason 1 ∷ steps 12 ∷ taken 8 ∷ pointer 4128 ∷ bytes 24 (0x11 ∷ 0x22 ∷ 0x33 ∷ 0x44 ∷ 0x08 ∷ 0x00 ∷ 0x00 ∷ 0x00 ∷ []) ∷ [])
    -- 53 to 55: status bits 0 to 3 are cleared by writing 1, and no others; RUN 0 in Ended and Halted rests
    ∷ received D four (once 4096 0x20 100 ++ write 0 0x04 ∷ []) (status 0x18 ∷ phase 4 ∷ [])
    ∷ received D four (once 4096 0x20 100 ++ write 4 0 ∷ []) (status 0x0C ∷ phase 0 ∷ pointer 4128 ∷ [])
    ∷ received D (0x0211 ∷ four) (once 4096 0x60 100 ++ write 4 0x40 ∷ go 3 ∷ []) (reason 0 ∷ steps 0 ∷ status 0x05 ∷ phase 0 ∷ [])
    -- 56, 57: Faulted is left by no register write but reset, and Ended by no pointer write
    ∷ received D four (once 4098 0x20 100 ++ write 8 4096 ∷ write 4 0 ∷ write 4 0x20 ∷ go 10 ∷ []) (reason 3 ∷ steps 0 ∷ fault 10 4098 ∷ pointer 4096 ∷ [])
    ∷ received D four (once 4128 0x20 100 ++ write 8 4096 ∷ go 10 ∷ []) (reason 1 ∷ steps 0 ∷ pointer 4096 ∷ [])
    -- 58, 59: RUN going 0 to 1 zeroes the count, RUN staying 1 does not
    ∷ received D four (once 4096 0x3A0 7 ++ write 4 0x3A0 ∷ []) (count 1 ∷ [])
    ∷ received D four (once 4096 0x3A0 7 ++ write 4 0x380 ∷ write 4 0x3A0 ∷ []) (count 0 ∷ [])
    -- 60: alignment is of the bus address, whatever the base
    ∷ record {
      mode = 2;
      base = 4097;
      window = put zeros 3 (desc 0 4224 4132 4 0x80);
      beats = four;
      room = 0;
      acts = once 4100 0x20 100;
      facts = reason 1 ∷ steps 8 ∷ pointer 4132 ∷ bytes 31 (0x04 ∷ 0x00 ∷ 0x00 ∷ 0x00 ∷ []) ∷ bytes 127 (0x11 ∷ 0x22 ∷ 0x33 ∷ 0x44 ∷ []) ∷ [];
    }
    -- 61 to 63: a budget of 0, where a step is possible and where none is; a fault to come is a step that is possible
    ∷ received D four (once 4096 0x20 0) (reason 6 ∷ steps 0 ∷ phase 0 ∷ [])
    ∷ received D four (once 4096 0x00 0) (reason 0 ∷ steps 0 ∷ [])
    ∷ received D four (once 4098 0x20 1) (reason 6 ∷ steps 1 ∷ phase 1 ∷ [])
    -- 64 to 70: the record of a write-back: known runs 1, 2 (EOP), 5 (errors) and 6 (parked, twice); EOP and errors in the last
    -- beat of the length; modes 0 and 1, where GENERATE_EOP is no EOP seen
    ∷ received D four (once 4096 0x20 100) (ledger (recorded 4 0 0) ∷ [])
    ∷ received D (0x0011 ∷ 0x0122 ∷ 0x0033 ∷ 0x0044 ∷ []) (once 4096 0x20 100) (ledger (recorded 2 0 1) ∷ [])
    ∷ received D (0x0011 ∷ 0x0022 ∷ 0x0633 ∷ 0x0044 ∷ []) (once 4096 0x60 100) (ledger (recorded 4 3 0) ∷ [])
    ∷ received (desc 0 4224 4096 4 0x80) (four ++ four) (once 4096 0x20020 100) (ledger (recorded 4 0 0 ++ recorded 4 0 0) ∷ [])
    ∷ received single (0x0311 ∷ []) (once 4096 0x20 100) (ledger (recorded 1 1 1) ∷ [])
    ∷ copied (desc 4224 4232 4128 3 0x81) ABCD (once 4096 0x20 100) (ledger (recorded 3 0 0) ∷ [])
    ∷ sent (desc 4224 0 4128 2 0x85) ABCD 2 (once 4096 0x20 100) (ledger (recorded 2 0 0) ∷ [])
    -- 71: three descriptors, one record each, in their order
    ∷ received three four (once 4096 0x20 100)
    (ledger (recorded 1 0 0 ++ recorded_at 0x20 1 0 0 ++ recorded_at 0x40 1 0 0) ∷ [])
    -- 72 to 76: no room, no step: nothing is written back; also with RUN 0; before Budget; with room it goes on; run 6 with room for one
    ∷ received D four (lend 0 ∷ once 4096 0x20 100) (reason 7 ∷ steps 6 ∷ taken 4 ∷ status 0x10 ∷ phase 3 ∷ ledger [] ∷ bytes 28 (0 ∷ 0 ∷ 0 ∷ 0x80 ∷ []) ∷ [])
    ∷ received D four (lend 0 ∷ once 4096 0x20 100 ++ write 4 0 ∷ go 5 ∷ []) (reason 7 ∷ steps 0 ∷ status 0x10 ∷ phase 3 ∷ ledger [] ∷ [])
    ∷ received D four (lend 0 ∷ once 4096 0x20 6) (reason 7 ∷ steps 6 ∷ [])
    ∷ received D four (lend 0 ∷ once 4096 0x20 100 ++ lend 1 ∷ go 100 ∷ [])
    (reason 1 ∷ steps 2 ∷ status 0x1C ∷ ledger (recorded 4 0 0) ∷ bytes 28 (4 ∷ 0 ∷ 0 ∷ 0 ∷ []) ∷ [])
    ∷ received (desc 0 4224 4096 4 0x80) (four ++ four) (lend 1 ∷ once 4096 0x20020 100) (reason 7 ∷ steps 12 ∷ taken 8 ∷ ledger (recorded 4 0 0) ∷ [])
    -- 77, 78: a byte that lands on the control byte of the next descriptor while it is in the slot clears its OWNED in memory: the old one
    -- runs, and with a beat for it is written back and has its record
    ∷ received (desc 0 4159 4128 1 0x80 ++ desc 0 4224 4160 1 0x80) (0x0000 ∷ []) (once 4096 0x20 100)
    (reason 4 ∷ steps 5 ∷ taken 1 ∷ pointer 4160 ∷ bytes 60 (0 ∷ 0 ∷ 0 ∷ 0 ∷ []) ∷ ledger (recorded 1 0 0) ∷ slot 1 ∷ [])
    ∷ received (desc 0 4159 4128 1 0x80 ++ desc 0 4224 4160 1 0xF8) (0x0000 ∷ 0x0055 ∷ []) (once 4096 0x20 100)
    (reason 1 ∷ steps 8 ∷ taken 2 ∷ status 0x1C ∷ pointer 4160 ∷ bytes 60 (1 ∷ 0 ∷ 0 ∷ 0x78 ∷ []) ∷ bytes 128 (0x55 ∷ [])
    ∷ ledger (recorded 1 0 0 ++ recorded_at 0x20 1 0 0) ∷ [])
    -- 79, 80: one that lands on its length: in mode 2, and in mode 0 where memory says 0 and fault 12 would follow
    ∷ received (desc 0 4152 4128 1 0x80 ++ desc 0 4224 4160 2 0x80) (0x0001 ∷ 0x0055 ∷ 0x0066 ∷ []) (once 4096 0x20 100)
    (reason 1 ∷ steps 9 ∷ taken 3 ∷ bytes 56 (1 ∷ 0 ∷ 0 ∷ 0 ∷ 2 ∷ 0 ∷ 0 ∷ 0 ∷ []) ∷ bytes 128 (0x55 ∷ 0x66 ∷ [])
    ∷ ledger (recorded 1 0 0 ++ recorded_at 0x20 2 0 0) ∷ [])
    ∷ copied (desc 4224 4152 4128 1 0x80 ++ desc 4225 4232 4160 1 0x80) (0x00 ∷ 0xBB ∷ []) (once 4096 0x20 100)
    (reason 1 ∷ steps 8 ∷ fault 0 0 ∷ bytes 56 (0 ∷ 0 ∷ 0 ∷ 0 ∷ 1 ∷ 0 ∷ 0 ∷ 0 ∷ []) ∷ bytes 136 (0xBB ∷ []) ∷ [])
    -- 81 to 85: the host rewrites a descriptor in the slot: the old one runs; after a pointer write of the same number the new one does;
    -- a pointer write empties the slot, and no other write
    ∷ received pair four (once 4096 0x20 2 ++ another ∷ go 100 ∷ []) (reason 1 ∷ steps 6 ∷ taken 2 ∷ old_ran)
    ∷ received pair four (once 4096 0x20 2 ++ another ∷ write 8 4128 ∷ go 100 ∷ []) (reason 1 ∷ steps 6 ∷ taken 2 ∷ new_ran)
    ∷ received pair four (once 4096 0x20 2 ++ write 8 4128 ∷ []) (phase 2 ∷ pointer 4128 ∷ slot 0 ∷ [])
    ∷ received pair four (once 4096 0x20 2 ++ write 0 0xFFFFFFFF ∷ write 4 0x80010020 ∷ []) (phase 2 ∷ control 0x10020 ∷ slot 1 ∷ [])
    ∷ received pair four (once 4096 0x20 2 ++ another ∷ write 0 0xFFFFFFFF ∷ write 4 0x80010020 ∷ go 100 ∷ [])
    (reason 1 ∷ steps 6 ∷ taken 2 ∷ old_ran)
    -- 86, 87: a Fetch that uses the slot fills it anew, so the third is held in its turn; a pointer write to it goes past the second
    ∷ received three four (once 4096 0x20 5 ++ poke 64 (desc 0 4240 4192 1 0x80) ∷ go 100 ∷ [])
    (reason 1 ∷ steps 6 ∷ taken 3 ∷ pointer 4192 ∷ bytes 128 (0x33 ∷ []) ∷ bytes 144 (0x00 ∷ []) ∷ [])
    ∷ received three four (once 4096 0x20 2 ++ write 8 4160 ∷ go 100 ∷ [])
    (reason 1 ∷ steps 6 ∷ taken 2 ∷ bytes 60 (0 ∷ 0 ∷ 0 ∷ 0x80 ∷ []) ∷ ledger (recorded 1 0 0 ++ recorded_at 0x40 1 0 0) ∷ [])
    -- 88 to 91: an unowned descriptor is held like another and ends the chain, though memory says owned by then; RUN off and on finds
    -- it, and so does a pointer write before its Fetch; an owned one that the host takes back while it is in the slot runs
    ∷ received single four (once 4096 0x20 2 ++ another ∷ go 100 ∷ [])
    (reason 1 ∷ steps 3 ∷ taken 1 ∷ status 0x1C ∷ pointer 4128 ∷ bytes 60 (0 ∷ 0 ∷ 0 ∷ 0x80 ∷ []) ∷ slot 0 ∷ [])
    ∷ received single four (once 4096 0x20 2 ++ another ∷ go 100 ∷ write 4 0 ∷ write 4 0x20 ∷ go 100 ∷ [])
    (reason 1 ∷ steps 5 ∷ taken 2 ∷ run_number 2 ∷ new_ran)
    ∷ received single four (once 4096 0x20 2 ++ another ∷ write 8 4128 ∷ go 100 ∷ []) (reason 1 ∷ steps 6 ∷ taken 2 ∷ new_ran)
    ∷ received pair four (once 4096 0x20 2 ++ poke 63 (0x00 ∷ []) ∷ go 100 ∷ []) (reason 1 ∷ steps 6 ∷ taken 2 ∷ old_ran)
    -- 92 to 97: a bad next address faults only at its own Fetch, and the write-back before it is as any other: misaligned; outside
    ∷ received (desc 0 4224 4130 1 0x80) four (once 4096 0x20 2) (reason 6 ∷ status 0x10 ∷ phase 2 ∷ pointer 4130 ∷ fault 0 0 ∷ slot 2 ∷ [])
    ∷ received (desc 0 4224 4130 1 0x80) four (once 4096 0x20 4)
    (reason 6 ∷ steps 4 ∷ status 0x14 ∷ phase 1 ∷ fault 0 0 ∷ slot 2 ∷ bytes 28 (1 ∷ 0 ∷ 0 ∷ 0 ∷ []) ∷ ledger (recorded 1 0 0) ∷ [])
    ∷ received (desc 0 4224 4130 1 0x80) four (once 4096 0x20 100)
    (reason 3 ∷ steps 5 ∷ status 0x04 ∷ pointer 4130 ∷ fault 10 4130 ∷ slot 0 ∷ [])
    ∷ received (desc 0 4224 4324 1 0x80) four (once 4096 0x20 4)
    (reason 6 ∷ steps 4 ∷ status 0x14 ∷ phase 1 ∷ fault 0 0 ∷ slot 3 ∷ bytes 28 (1 ∷ 0 ∷ 0 ∷ 0 ∷ []) ∷ ledger (recorded 1 0 0) ∷ [])
    ∷ received (desc 0 4224 4324 1 0x80) four (once 4096 0x20 100)
    (reason 3 ∷ steps 5 ∷ status 0x04 ∷ pointer 4324 ∷ fault 11 4324 ∷ slot 0 ∷ [])
    ∷ received (desc 0 4224 4092 1 0x80) four (once 4096 0x20 100) (reason 3 ∷ steps 5 ∷ pointer 4092 ∷ fault 11 4092 ∷ slot 0 ∷ [])
    -- 98 to 101: one never reached: RUN cleared in Move and in Fetch rests without a fault, and a pointer write leads elsewhere; one that
    -- is misaligned and outside is 10
    ∷ received (desc 0 4224 4130 1 0x80) four (once 4096 0x20 2 ++ write 4 0 ∷ go 100 ∷ [])
    (reason 0 ∷ steps 2 ∷ status 0x04 ∷ phase 0 ∷ pointer 4130 ∷ fault 0 0 ∷ slot 0 ∷ [])
    ∷ received (desc 0 4224 4324 1 0x80) four (once 4096 0x20 4 ++ write 4 0 ∷ go 100 ∷ [])
    (reason 0 ∷ steps 1 ∷ status 0x04 ∷ phase 0 ∷ pointer 4324 ∷ fault 0 0 ∷ slot 0 ∷ [])
    ∷ received (desc 0 4224 4130 1 0x80) four (once 4096 0x20 4 ++ write 8 4160 ∷ go 100 ∷ [])
    (reason 1 ∷ steps 1 ∷ status 0x1C ∷ pointer 4160 ∷ fault 0 0 ∷ [])
    ∷ received (desc 0 4224 4326 1 0x80) four (once 4096 0x20 100) (reason 3 ∷ steps 5 ∷ fault 10 4326 ∷ [])
    -- 102, 103: an owned one of length 0 is held in mode 0, and is fault 12 at its own Fetch
    ∷ copied (desc 4224 4232 4128 1 0x80 ++ desc 0 0 4160 0 0x80) ABCD (once 4096 0x20 4) (reason 6 ∷ status 0x14 ∷ phase 1 ∷ slot 1 ∷ [])
    ∷ copied (desc 4224 4232 4128 1 0x80 ++ desc 0 0 4160 0 0x80) ABCD (once 4096 0x20 100)
    (reason 3 ∷ steps 5 ∷ status 0x04 ∷ fault 12 4128 ∷ pointer 4128 ∷ slot 0 ∷ [])
    -- 104 to 110: a descriptor that links to itself, not parked, runs twice before Ended: after its first write-back; at the end, with two
    -- records and a count of 2; MAX_DESC_PROCESSED 2 reached; modes 0 and 1; parked it goes on; two that link to each other run once each
    ∷ received (desc 0 4224 4096 2 0x80) four (once 4096 0x320 5)
    (reason 6 ∷ taken 2 ∷ status 0x14 ∷ phase 1 ∷ count 1 ∷ bytes 28 (2 ∷ 0 ∷ 0 ∷ 0 ∷ []) ∷ slot 1 ∷ [])
    ∷ received (desc 0 4224 4096 2 0x80) four (once 4096 0x3A0 100)
    (reason 1 ∷ steps 10 ∷ taken 4 ∷ status 0x1C ∷ pointer 4096 ∷ count 2 ∷ pending false ∷ bytes 28 (2 ∷ 0 ∷ 0 ∷ 0 ∷ [])
    ∷ bytes 128 (0x33 ∷ 0x44 ∷ 0x00 ∷ []) ∷ ledger (recorded 2 0 0 ++ recorded 2 0 0) ∷ slot 0 ∷ [])
    ∷ received (desc 0 4224 4096 2 0x80) four (once 4096 0x2A0 100) (reason 1 ∷ steps 10 ∷ count 0 ∷ pending true ∷ [])
    ∷ copied (desc 4224 4232 4096 2 0x80) ABCD (once 4096 0x20 100)
    (reason 1 ∷ steps 10 ∷ bytes 136 (0xAA ∷ 0xBB ∷ 0x00 ∷ []) ∷ ledger (recorded 2 0 0 ++ recorded 2 0 0) ∷ [])
    ∷ sent (desc 4224 0 4096 2 0x80) ABCD 8 (once 4096 0x20 100) (reason 1 ∷ steps 10 ∷ out (0x00AA ∷ 0x00BB ∷ 0x00AA ∷ 0x00BB ∷ []) ∷ [])
    ∷ received (desc 0 4224 4096 1 0x80) four (once 4096 0x20020 100) (reason 4 ∷ steps 14 ∷ taken 4 ∷ bytes 31 (0x80 ∷ []) ∷ [])
    ∷ received (desc 0 4224 4128 1 0x80 ++ desc 0 4225 4096 1 0x80) four (once 4096 0x20 100)
    (reason 1 ∷ steps 8 ∷ taken 2 ∷ pointer 4096 ∷ ledger (recorded 1 0 0 ++ recorded_at 0x20 1 0 0) ∷ [])
    -- 111 to 121: the slot by phase: empty in Rest and the first Fetch; held in Move, WriteBack and Fetch after an owned one, also where a
    -- run waits for a beat or for the ledger; empty in Ended, Halted and Faulted (14 in mode 2, 13 in mode 0)
    ∷ received single four (once 4096 0x20 0) (phase 0 ∷ slot 0 ∷ [])
    ∷ received single four (once 4096 0x20 1) (phase 1 ∷ slot 0 ∷ [])
    ∷ received single four (once 4096 0x20 2) (phase 2 ∷ slot 1 ∷ [])
    ∷ received single four (once 4096 0x20 3) (phase 3 ∷ slot 1 ∷ [])
    ∷ received single four (once 4096 0x20 4) (phase 1 ∷ slot 1 ∷ [])
    ∷ received D [] (once 4096 0x20 100) (reason 4 ∷ phase 2 ∷ slot 1 ∷ [])
    ∷ received D four (lend 0 ∷ once 4096 0x20 100) (reason 7 ∷ phase 3 ∷ slot 1 ∷ [])
    ∷ received single four (once 4096 0x20 100) (phase 4 ∷ slot 0 ∷ [])
    ∷ received single (0x0211 ∷ []) (once 4096 0x60 100) (phase 5 ∷ slot 0 ∷ [])
    ∷ received (desc 0 4350 4128 4 0x80) four (once 4096 0x20 100) (phase 6 ∷ fault 14 4352 ∷ slot 0 ∷ [])
    ∷ copied (desc 4352 4224 4128 4 0x80) [] (once 4096 0x20 100) (phase 6 ∷ fault 13 4352 ∷ slot 0 ∷ [])
    -- 122 to 124: RUN cleared and set again in Move and in Fetch goes on with the slot, in another run; a step between them empties it
    ∷ received pair four (once 4096 0x3A0 2 ++ another ∷ write 4 0x380 ∷ write 4 0x3A0 ∷ go 100 ∷ [])
    (reason 1 ∷ steps 6 ∷ taken 2 ∷ count 2 ∷ run_number 2 ∷ old_ran)
    ∷ received pair four (once 4096 0x3A0 4 ++ another ∷ write 4 0x380 ∷ write 4 0x3A0 ∷ go 100 ∷ [])
    (reason 1 ∷ steps 4 ∷ taken 2 ∷ count 1 ∷ run_number 2 ∷ old_ran)
    ∷ received pair four (once 4096 0x20 4 ++ another ∷ write 4 0 ∷ go 1 ∷ write 4 0x20 ∷ go 100 ∷ [])
    (reason 1 ∷ steps 5 ∷ taken 2 ∷ run_number 2 ∷ new_ran)
    -- 125 to 127: reset in Fetch with a held slot; RUN again after a reset: the run number goes on, and the slot is empty at first
    ∷ received single four (resets (once 4096 0x20 4)) is_fresh
    ∷ received D four (resets (once 4096 0x20 2) ++ once 4096 0x20 100)
    (reason 1 ∷ steps 8 ∷ taken 4 ∷ status 0x1C ∷ pointer 4128 ∷ run_number 2 ∷ [])
    ∷ received pair four (resets (once 4096 0x20 2) ++ another ∷ once 4128 0x20 1)
    (reason 6 ∷ phase 1 ∷ pointer 4128 ∷ slot 0 ∷ run_number 2 ∷ [])
    -- 128 to 134: the run number: 0 at first; no status or pointer write raises it, nor every control bit but RUN; RUN 0 to 1 does, and
    -- not 1 to 1; again after each 0; a run and its end leave it; after Halted it rises as in Rest
    ∷ received D four (write 0 0x20 ∷ write 8 0x20 ∷ []) (phase 0 ∷ run_number 0 ∷ slot 0 ∷ [])
    ∷ received D four (write 4 0x3FFDF ∷ []) (control 0x3FFDF ∷ run_number 0 ∷ [])
    ∷ received D four (write 4 0x20 ∷ []) (control 0x20 ∷ run_number 1 ∷ [])
    ∷ received D four (write 4 0x20 ∷ write 4 0x20 ∷ write 4 0x60 ∷ []) (run_number 1 ∷ [])
    ∷ received D four (write 4 0x20 ∷ write 4 0 ∷ write 4 0x20 ∷ write 4 0 ∷ write 4 0 ∷ write 4 0xFFFEFFFF ∷ []) (run_number 3 ∷ [])
    ∷ received D four (once 4096 0x20 100 ++ write 4 0 ∷ []) (phase 0 ∷ run_number 1 ∷ [])
    ∷ received single (0x0211 ∷ []) (once 4096 0x60 100 ++ write 4 0x40 ∷ write 4 0x60 ∷ []) (phase 0 ∷ run_number 2 ∷ [])
    -- 135 to 139: it rises at the arming write; not at the resetting one, whether RUN read 1 or 0; in Faulted, which stays; it stays at its
    -- largest value, also over a reset
    ∷ received D four (write 4 0x10020 ∷ []) (control 0x10020 ∷ run_number 1 ∷ [])
    ∷ received D four (write 4 0x10020 ∷ write 4 0x10020 ∷ []) (control 0 ∷ run_number 1 ∷ [])
    ∷ received D four (write 4 0x10000 ∷ write 4 0x10020 ∷ []) (control 0 ∷ phase 0 ∷ run_number 0 ∷ [])
    ∷ received D four (once 4098 0x20 100 ++ write 4 0 ∷ write 4 0x20 ∷ go 5 ∷ [])
    (reason 3 ∷ steps 0 ∷ phase 6 ∷ fault 10 4098 ∷ run_number 2 ∷ [])
    ∷ received D four (numbered 4294967294 ∷ write 4 0x20 ∷ write 4 0 ∷ write 4 0x20 ∷ write 4 0x10000 ∷ write 4 0x10000 ∷ [])
    (control 0 ∷ run_number 4294967295 ∷ [])
    -- 140 to 145: a record has the run number of its WriteBack step: after a reset; RUN off and on in Move, in WriteBack, and in the Fetch
    -- between two; RUN off in WriteBack is no other run; the same descriptor in two runs
    ∷ received D four (resets (once 4096 0x20 2) ++ once 4096 0x20 100) (reason 1 ∷ ledger (recorded_in 2 0x00 4 0 0) ∷ [])
    ∷ received single four (once 4096 0x20 2 ++ write 4 0 ∷ write 4 0x20 ∷ go 100 ∷ []) (reason 1 ∷ ledger (recorded_in 2 0x00 1 0 0) ∷ [])
    ∷ received single four (once 4096 0x20 3 ++ write 4 0 ∷ write 4 0x20 ∷ go 1 ∷ []) (steps 1 ∷ ledger (recorded_in 2 0x00 1 0 0) ∷ [])
    ∷ received pair four (once 4096 0x20 4 ++ write 4 0 ∷ write 4 0x20 ∷ go 100 ∷ [])
    (reason 1 ∷ ledger (recorded 1 0 0 ++ recorded_in 2 0x20 1 0 0) ∷ [])
    ∷ received single four (once 4096 0x20 3 ++ write 4 0 ∷ go 100 ∷ []) (reason 0 ∷ steps 1 ∷ ledger (recorded 1 0 0) ∷ [])
    ∷ received single four (once 4096 0x20 100 ++ poke 0 single ∷ write 4 0 ∷ once 4096 0x20 100)
    (reason 1 ∷ taken 2 ∷ ledger (recorded 1 0 0 ++ recorded_in 2 0x00 1 0 0) ∷ [])
    -- 146 to 149: 0 where an image tells 0; the number's four bytes; its largest value; a descriptor abandoned by a reset, and one by
    -- fault 14, have none
    ∷ received single four (once 4096 0x20 2 ++ numbered 0 ∷ go 100 ∷ []) (reason 1 ∷ ledger (recorded_in 0 0x00 1 0 0) ∷ [])
    ∷ received single four (numbered 0x01020303 ∷ once 4096 0x20 100) (reason 1 ∷ ledger (recorded_by (1 ∷ 2 ∷ 3 ∷ 4 ∷ []) 0x00 1 0 0) ∷ [])
    ∷ received single four (numbered 4294967295 ∷ once 4096 0x20 100)
    (reason 1 ∷ ledger (recorded_by (0xFF ∷ 0xFF ∷ 0xFF ∷ 0xFF ∷ []) 0x00 1 0 0) ∷ [])
    ∷ received D (four ++ four) (resets (once 4096 0x20 4) ++ poke 0 (desc 0 4350 4128 4 0x80) ∷ once 4096 0x20 100)
    (reason 3 ∷ fault 14 4352 ∷ taken 4 ∷ ledger [] ∷ [])
    ∷ []
