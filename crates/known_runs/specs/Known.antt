-- The paper's "Known runs": base 4096, length 256, mode 2, descriptor D at 4096: destination 4224, next 4128, length 4,
-- control 0x80; all other bytes zero. Pointer 4096, control 0x20, budget 100, beats 0x0011 0x0022 0x0033 0x0044, unless said.
-- Assumes nothing.
use Rattle.std.specs.Prelude.{ℕ, List, [], ◌∷◌, ◌++◌}
use Rattle.known_runs.specs.Scene.{Act, write, go, Fact, reason, steps, taken, out, status, pointer, fault, bytes, Scene, desc, window}

abbrev pub D : List ℕ
D = desc 0 4224 4128 4 0x80

abbrev pub four : List ℕ
four = 0x0011 ∷ 0x0022 ∷ 0x0033 ∷ 0x0044 ∷ []

-- the pointer is set, control is written, and one run is made
abbrev pub once : (pointer control budget : ℕ) → List Act
once p c budget = write 8 p ∷ write 4 c ∷ go budget ∷ []

abbrev pub received : (first beats : List ℕ) → List Act → List Fact → Scene
received first beats acts facts =
    record { mode = 2; base = 4096; window = window first []; beats = beats; room = 0; acts = acts; facts = facts }

abbrev pub known : List Scene
known =
    -- 1.
    received D four (once 4096 0x20 100)
    (reason 1 ∷ steps 8 ∷ taken 4 ∷ status 0x1C ∷ pointer 4128 ∷ bytes 28 (0x04 ∷ 0x00 ∷ 0x00 ∷ 0x00 ∷ []) ∷ bytes 128 (0x11 ∷ 0x22 ∷ 0x33 ∷ 0x44 ∷ []) ∷ [])
    -- 2. second beat 0x0122
    ∷ received D (0x0011 ∷ 0x0122 ∷ 0x0033 ∷ 0x0044 ∷ []) (once 4096 0x20 100)
    (reason 1 ∷ steps 6 ∷ taken 2 ∷ status 0x1E ∷ pointer 4128 ∷ bytes 28 (0x02 ∷ 0x00 ∷ 0x00 ∷ 0x00 ∷ []) ∷ [])
    -- 3. pointer 4128
    ∷ received D four (once 4128 0x20 100) (reason 1 ∷ steps 2 ∷ taken 0 ∷ status 0x18 ∷ pointer 4128 ∷ [])
    -- 4. three beats
    ∷ received D (0x0011 ∷ 0x0022 ∷ 0x0033 ∷ []) (once 4096 0x20 100)
    (reason 4 ∷ steps 5 ∷ taken 3 ∷ status 0x10 ∷ bytes 31 (0x80 ∷ []) ∷ [])
    -- 5. third beat 0x0633, control 0x60
    ∷ received D (0x0011 ∷ 0x0022 ∷ 0x0633 ∷ 0x0044 ∷ []) (once 4096 0x60 100)
    (reason 2 ∷ steps 7 ∷ status 0x05 ∷ bytes 28 (0x04 ∷ 0x00 ∷ 0x03 ∷ 0x00 ∷ []) ∷ [])
    -- 6. D next 4096, control 0x20020, 8 beats
    ∷ received (desc 0 4224 4096 4 0x80) (four ++ four) (once 4096 0x20020 100)
    (reason 4 ∷ steps 14 ∷ taken 8 ∷ bytes 31 (0x80 ∷ []) ∷ [])
    -- 7. destination 4350
    ∷ received (desc 0 4350 4128 4 0x80) four (once 4096 0x20 100) (reason 3 ∷ fault 14 4352 ∷ steps 5 ∷ taken 2 ∷ [])
    -- 8. pointer 4098; 4324; 4320 is inside
    ∷ received D four (once 4098 0x20 100) (reason 3 ∷ fault 10 4098 ∷ steps 2 ∷ [])
    ∷ received D four (once 4324 0x20 100) (reason 3 ∷ fault 11 4324 ∷ steps 2 ∷ [])
    ∷ received D four (once 4320 0x20 100) (reason 1 ∷ steps 2 ∷ [])
    -- 9. mode 0, length 0
    ∷ record {
      mode = 0;
      base = 4096;
      window = window (desc 0 4224 4128 0 0x80) [];
      beats = four;
      room = 0;
      acts = once 4096 0x20 100;
      facts = reason 3 ∷ fault 12 4096 ∷ steps 2 ∷ [];
    }
    -- 10. mode 1, control byte 0x85, length 2, source 4224 holding AA BB, room for 2 beats; length 1
    ∷ record {
      mode = 1;
      base = 4096;
      window = window (desc 4224 4224 4128 2 0x85) (0xAA ∷ 0xBB ∷ []);
      beats = four;
      room = 2;
      acts = once 4096 0x20 100;
      facts = out (0x02AA ∷ 0x01BB ∷ []) ∷ steps 6 ∷ reason 1 ∷ [];
    }
    ∷ record {
      mode = 1;
      base = 4096;
      window = window (desc 4224 4224 4128 1 0x85) (0xAA ∷ 0xBB ∷ []);
      beats = four;
      room = 2;
      acts = once 4096 0x20 100;
      facts = out (0x03AA ∷ []) ∷ steps 5 ∷ reason 1 ∷ [];
    }
    -- 11. budget 8; budget 7
    ∷ received D four (once 4096 0x20 8) (reason 1 ∷ steps 8 ∷ [])
    ∷ received D four (once 4096 0x20 7) (reason 6 ∷ steps 7 ∷ status 0x14 ∷ bytes 31 (0x00 ∷ []) ∷ [])
    ∷ []
