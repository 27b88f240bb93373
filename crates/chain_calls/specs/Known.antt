-- What is lent for the chains of crate chain, and what known run 1, the chain of copies and the chain of packets leave of it, byte by byte.
-- That they do is `known-run-1-in-c`, `copies-in-c` and `packets-in-c`.
-- Assumes nothing.
use Rattle.std.specs.Prelude.{ℕ, ◌+◌, ◌*◌, List, [], ◌∷◌, ◌++◌, take, replicate}
use Rattle.words.specs.Slices.{part}
use Rattle.flow.specs.Beats.{beat_bytes}
use Rattle.machine.specs.Run.{lent}
use Rattle.chain.specs.Chain.{Given, machine_for}
use Rattle.chain.specs.Known.{known, copier, sender}
use Rattle.sgdma.specs.Calls.{image_of}
use Rattle.chain_calls.specs.InC.{RunLent, RunLeft, Lends, run_lent}

-- ---- what is lent: zeros where nothing is said, budget 100

abbrev pub lends : Given → Lends
lends g =
    record {
      image = replicate 85 0;
      window = g.window;
      pointer = g.pointer;
      control = g.control;
      lent = lent g.memory (beat_bytes g.beats) (replicate (2 * g.room) 0) (replicate (12 * (g.used + g.left)) 0) g.used;
      budget = 100;
      report = replicate 18 0;
    }

-- and to the run, over the image of the machine that was started
abbrev pub lent_to : Given → RunLent
lent_to g = run_lent (lends g) (image_of (machine_for g))

-- ---- what is left, by the numbers in which the chains differ. Each is below 256

-- the image of a core that has ended; the first byte has edition 2, the mode, and phase 4 but for its last bit
abbrev ended_image : (first control pointer : ℕ) → List ℕ
ended_image first control pointer =
    first ∷ 0x00 ∷  -- nothing armed, nothing pending, no fault
    0x1C ∷ 0x00 ∷  -- status, count
    0x00 ∷ 0x00 ∷ 0x00 ∷ control ∷  -- control
    0x00 ∷ 0x00 ∷ 0x10 ∷ pointer ∷  -- pointer 4096 + ..
    0x00 ∷ 0x00 ∷ 0x10 ∷ 0x00 ∷  -- base 4096
    0x00 ∷ 0x00 ∷ 0x01 ∷ 0x00 ∷  -- window length 256
    replicate 24 0
    ++ (replicate 37 0  -- an empty slot
    ++ 0x00 ∷ 0x00 ∷ 0x00 ∷ 0x01 ∷ [])  -- run number

-- the record of a descriptor at 4096 + .., without error and EOP
abbrev record_at : (place actual : ℕ) → List ℕ
record_at place actual =
    0x00 ∷ 0x00 ∷ 0x00 ∷ 0x01 ∷  -- run
    0x00 ∷ 0x00 ∷ 0x10 ∷ place ∷  -- descriptor
    0x00 ∷ actual ∷ 0x00 ∷ 0x00 ∷ []  -- actual, status, EOP

abbrev ended_report : (steps taken made used : ℕ) → List ℕ
ended_report steps taken made used =
    0x00 ∷ 0x01 ∷  -- Ended
    0x00 ∷ 0x00 ∷ 0x00 ∷ steps ∷  -- steps
    0x00 ∷ 0x00 ∷ 0x00 ∷ taken ∷  -- taken
    0x00 ∷ 0x00 ∷ 0x00 ∷ made ∷  -- made
    0x00 ∷ 0x00 ∷ 0x00 ∷ used ∷ []  -- records used

-- ---- known run 1

-- of the window: D but for its last four bytes, these, and from 4224 on the bytes of the beats
abbrev pub known_left : RunLeft
known_left =
    record {
      number = 0;
      image = ended_image 0x2A 0x20 0x20;
      back = record {
        window = take 28 known.memory ++ 0x04 ∷ 0x00 ∷ 0x00 ∷ 0x00 ∷ replicate 96 0 ++ 0x11 ∷ 0x22 ∷ 0x33 ∷ 0x44 ∷ replicate 124 0;
        out = [];
        ledger = record_at 0x00 4;
      };
      report = ended_report 8 4 0 1;
    }

-- ---- from memory to memory

-- of the window: the first of two bytes in turn from 4224 on, and where the second has landed, from 4240 on, the first of them again; of the
-- ledger two records behind those used
abbrev pub copier_left : RunLeft
copier_left =
    record {
      number = 0;
      image = ended_image 0x22 0x60 0x40;
      back = record {
        window =
            part copier.memory 0 28 ++ 0x05 ∷ 0x00 ∷ 0x00 ∷ 0x00
            ∷ part copier.memory 32 28 ++ 0x03 ∷ 0x00 ∷ 0x00 ∷ 0x02
            ∷ replicate 64 0 ++ 0xA1 ∷ 0xB2 ∷ 0xA1 ∷ 0xB2 ∷ 0xA1 ∷ 0xB2 ∷ 0xA1 ∷ replicate 9 0 ++ 0xA1 ∷ 0xA1 ∷ 0xA1 ∷ replicate 109 0;
        out = [];
        ledger = replicate 24 0 ++ (record_at 0x00 5 ++ record_at 0x20 3);
      };
      report = ended_report 14 0 0 4;
    }

-- ---- from memory to stream

-- of the window only the last four bytes of the three descriptors; of the output the six beats, and a place that stays
abbrev pub sender_left : RunLeft
sender_left =
    record {
      number = 0;
      image = ended_image 0x26 0x60 0x60;
      back = record {
        window =
            part sender.memory 0 28 ++ 0x03 ∷ 0x00 ∷ 0x00 ∷ 0x05
            ∷ part sender.memory 32 28 ++ 0x02 ∷ 0x00 ∷ 0x00 ∷ 0x02
            ∷ part sender.memory 64 28 ++ 0x01 ∷ 0x00 ∷ 0x00 ∷ 0x05
            ∷ part sender.memory 96 160;
        out =
            0x02 ∷ 0xA1 ∷ 0x00 ∷ 0xB2 ∷ 0x01 ∷ 0xC3 ∷  -- SOP, then EOP
            0x03 ∷ 0xB2 ∷  -- both
            0x00 ∷ 0xC3 ∷ 0x00 ∷ 0xC3 ∷  -- neither
            0x00 ∷ 0x00 ∷ [];
        ledger = record_at 0x00 3 ++ (record_at 0x40 1 ++ record_at 0x20 2);
      };
      report = ended_report 14 0 6 3;
    }
