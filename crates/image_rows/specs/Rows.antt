-- The image's rules held against the paper and order 4: for each sentence of "Image rules", and of the order's on the slot, fields that
-- break it, in each of its parts, the numbers of the fields that this counts against, and a twin with the break mended. Where a part
-- speaks of many bits or phases some of them stand for all. The rows were worked out from the texts by hand.
-- Assumes nothing.
use Rattle.bus.specs.Refusal.{answer_number}
use Rattle.std.specs.Prelude.{ℕ, suc, ◌+◌, ◌-◌, ◌*◌, ◌^◌, ◌≡◌, refl, Bool, true, false, List, [], ◌∷◌, map, get_or, set, replicate, Result, Ok}
use Rattle.bus.specs.Window.{keeps_limits, checked_of, in_window, located_of}
use Rattle.descriptor.specs.Looking.{spot_of, is_zero, named_in}
use Rattle.image.specs.declared.Fields.{Fields}
use Rattle.image.specs.declared.Tail.{Tail}
use Rattle.bus.specs.declared.Refusal.{Refusal}
use Rattle.image.specs.Slot.{slot_number, slot_raw, tail_from}
use Rattle.image.specs.Layout.{from_numbers, image, fields, tail}
use Rattle.image.specs.Rules.{rules, lowest_broken, keeps_rules}
use Rattle.image.specs.Promise.{read_of}

-- ---- the numbers of all fields, with one of them changed

pub data Name : Type 0 where
  edition mode phase armed pending fault status count control pointer base window : Name
  address source destination size dcontrol errors moved eop zero15 faultat : Name
  kind zero6 at raw run : Name

abbrev pub place : Name → ℕ
place edition = 1
place mode = 2
place phase = 3
place armed = 4
place pending = 5
place fault = 6
place status = 7
place count = 8
place control = 9
place pointer = 10
place base = 11
place window = 12
place address = 13
place source = 14
place destination = 15
place size = 16
place dcontrol = 17
place errors = 18
place moved = 19
place eop = 20
place zero15 = 21
place faultat = 22
place kind = 23
place zero6 = 24
place at = 25
place raw = 26
place run = 27

infixl 30 ◌but◌is◌
abbrev pub ◌but◌is◌ : List ℕ → Name → ℕ → List ℕ
ns but name is v = set ns (place name - 1) v

-- their image
abbrev pub image_is : List ℕ → List ℕ
image_is ns = image (from_numbers ns) (tail_from ns)

-- ---- the machines that the rows change: a window of 256 bytes at 4096, the descriptor at its start; BUSY is 16, RUN 32

abbrev pub rest : List ℕ
rest = replicate 27 0 but edition is 2 but mode is 2 but base is 4096 but window is 256

abbrev pub fetch : List ℕ
fetch = rest but phase is 1 but status is 16 but control is 32

-- stream to memory, 4 bytes, one moved
abbrev pub move : List ℕ
move = fetch but phase is 2 but address is 4096 but destination is 4224 but size is 4 but dcontrol is 128 but moved is 1

abbrev pub write_back : List ℕ
write_back = move but phase is 3 but moved is 4

-- memory to memory, and memory to stream
abbrev pub copy : List ℕ
copy = move but mode is 0 but source is 4160

abbrev pub send : List ℕ
send = copy but mode is 1

abbrev pub ended : List ℕ
ended = fetch but phase is 4 but status is 24

abbrev pub halted : List ℕ
halted = rest but phase is 5 but status is 4 but control is 96

abbrev pub faulted : List ℕ
faulted = rest but phase is 6 but control is 32 but fault is 10 but faultat is 4098

-- with a descriptor read ahead, the next 32 bytes; with a fault kept, at an odd multiple of 2 and past the window
infixl 30 ◌ahead
infixl 30 ◌misaligned
infixl 30 ◌outside
abbrev pub ◌ahead : List ℕ → List ℕ
ns ahead = ns but pointer is 4128 but kind is 1 but at is 4128

abbrev pub ◌misaligned : List ℕ → List ℕ
ns misaligned = ns but pointer is 4130 but kind is 2 but at is 4130

abbrev pub ◌outside : List ℕ → List ℕ
ns outside = ns but pointer is 8192 but kind is 3 but at is 8192

-- ---- the rows

pub record Row : Type 0 where
  pub broken : List ℕ
  pub places : List ℕ
  pub twin : List ℕ

abbrev pub row : List ℕ → List ℕ → List ℕ → Row
row broken places twin = record { broken = broken; places = places; twin = twin }

abbrev pub rows : List Row
rows =
    -- edition 2; mode at most 2, phase at most 6
    row (rest but edition is 0) (1 ∷ []) rest ∷
    row (rest but edition is 1) (1 ∷ []) rest ∷
    row (rest but edition is 3) (1 ∷ []) rest ∷
    row (rest but mode is 3) (2 ∷ []) (rest but mode is 2) ∷
    row (rest but phase is 7) (3 ∷ []) rest ∷
    -- window as above
    row (rest but window is 65537) (12 ∷ []) (rest but window is 65536) ∷
    row (rest but base is 4294967295 but window is 2) (12 ∷ []) (rest but base is 4294967295 but window is 1) ∷
    row (rest but base is 4294901761 but window is 65536) (12 ∷ []) (rest but base is 4294901760 but window is 65536) ∷
    -- status bits 5..7, control bits 18..31 zero
    row (rest but status is 32) (7 ∷ []) rest ∷
    row (rest but status is 64) (7 ∷ []) rest ∷
    row (rest but status is 128) (7 ∷ []) rest ∷
    row (rest but control is 262144) (9 ∷ []) (rest but control is 131072) ∷
    row (rest but control is 16777216) (9 ∷ []) rest ∷
    row (rest but control is 2147483648) (9 ∷ []) rest ∷
    -- control bit 16 equals armed
    row (rest but control is 65536) (9 ∷ []) (rest but armed is 1 but control is 65536) ∷
    row (rest but armed is 1) (9 ∷ []) (rest but armed is 1 but control is 65536) ∷
    -- BUSY 1 exactly in phases 1 to 4
    row (rest but status is 16) (7 ∷ []) rest ∷
    row (halted but status is 20) (7 ∷ []) halted ∷
    row (faulted but status is 16) (7 ∷ []) faulted ∷
    row (fetch but status is 0) (7 ∷ []) fetch ∷
    row (move but status is 0) (7 ∷ []) move ∷
    row (write_back but status is 0) (7 ∷ []) write_back ∷
    row (ended but status is 8) (7 ∷ []) ended ∷
    -- RUN 1 in Ended and Halted
    row (ended but control is 0) (9 ∷ []) ended ∷
    row (halted but control is 64) (9 ∷ []) halted ∷
    -- Halted only in mode 2
    row (halted but mode is 0) (3 ∷ []) halted ∷
    row (halted but mode is 1) (3 ∷ []) halted ∷
    -- ERROR and EOP_ENCOUNTERED 0 outside mode 2
    row (rest but mode is 0 but status is 1) (7 ∷ []) (rest but status is 1) ∷
    row (rest but mode is 1 but status is 1) (7 ∷ []) (rest but mode is 1) ∷
    row (rest but mode is 0 but status is 2) (7 ∷ []) (rest but status is 2) ∷
    row (rest but mode is 1 but status is 2) (7 ∷ []) (rest but mode is 1 but status is 12) ∷
    -- count at most 254
    row (rest but count is 255) (8 ∷ []) (rest but count is 254) ∷
    -- descriptor fields zero outside Move and WriteBack
    row (rest but address is 4096) (13 ∷ []) rest ∷
    row (rest but source is 1) (14 ∷ []) rest ∷
    row (rest but destination is 1) (15 ∷ []) rest ∷
    row (rest but size is 4) (16 ∷ []) rest ∷
    row (rest but dcontrol is 128) (17 ∷ []) rest ∷
    row (rest but errors is 1) (18 ∷ []) rest ∷
    row (rest but moved is 1) (19 ∷ []) rest ∷
    row (rest but eop is 1) (20 ∷ []) rest ∷
    row (fetch but source is 1) (14 ∷ []) (move but source is 1) ∷
    row (ended but destination is 1) (15 ∷ []) (write_back but destination is 1) ∷
    row (halted but errors is 1) (18 ∷ []) (write_back but errors is 1) ∷
    row (faulted but size is 4) (16 ∷ []) faulted ∷
    -- there: address aligned and in the window
    row (move but address is 4098) (13 ∷ []) (move but address is 4100) ∷
    row (write_back but address is 4097) (13 ∷ []) write_back ∷
    row (move but address is 4092) (13 ∷ []) move ∷
    row (move but address is 4324) (13 ∷ []) (move but address is 4320) ∷
    row (write_back but address is 0) (13 ∷ []) write_back ∷
    row (move but window is 31) (13 ∷ []) (move but window is 32) ∷
    row (move but base is 4097 but address is 4097) (13 ∷ []) (move but base is 4097 but address is 4100) ∷
    -- control bit 7 set
    row (move but dcontrol is 127) (17 ∷ []) (move but dcontrol is 255) ∷
    row (write_back but dcontrol is 0) (17 ∷ []) write_back ∷
    -- in modes 0 and 1 length not 0 (L is 0 then, so that no moved keeps its own rule)
    row (copy but size is 0 but moved is 0) (16 ∷ 19 ∷ []) (copy but size is 1 but moved is 0) ∷
    row (send but size is 0 but moved is 0) (16 ∷ 19 ∷ []) (move but size is 0 but moved is 0) ∷
    -- in modes 0 and 1 errors and EOP seen 0
    row (copy but errors is 1) (18 ∷ []) copy ∷
    row (send but errors is 1) (18 ∷ []) (move but errors is 1) ∷
    row (write_back but mode is 0 but eop is 1) (20 ∷ []) (write_back but mode is 0) ∷
    row (write_back but mode is 1 but eop is 1) (20 ∷ []) (write_back but eop is 1) ∷
    -- errors bit 7 zero
    row (move but errors is 128) (18 ∷ []) (move but errors is 127) ∷
    row (write_back but errors is 255) (18 ∷ []) (write_back but errors is 127) ∷
    -- Move: moved < L (in mode 2 a 0 means 65,535), EOP seen 0, errors 0 if moved is 0
    row (move but moved is 4) (19 ∷ []) (move but moved is 3) ∷
    row (copy but moved is 5) (19 ∷ []) (copy but moved is 0) ∷
    row (move but size is 0 but moved is 65535) (19 ∷ []) (move but size is 0 but moved is 65534) ∷
    row (move but eop is 1) (20 ∷ []) move ∷
    row (move but moved is 0 but errors is 1) (19 ∷ []) (move but moved is 1 but errors is 1) ∷
    -- WriteBack: 1 <= moved <= L, and moved = L or EOP seen
    row (write_back but moved is 0 but eop is 1) (19 ∷ []) (write_back but moved is 1 but eop is 1) ∷
    row (write_back but moved is 5 but eop is 1) (19 ∷ []) (write_back but moved is 4 but eop is 1) ∷
    row (write_back but moved is 3) (20 ∷ []) (write_back but moved is 3 but eop is 1) ∷
    row (write_back but size is 0 but moved is 65534) (20 ∷ []) (write_back but size is 0 but moved is 65535) ∷
    -- Faulted: code 10 to 14, 12 and 13 only in modes 0 and 1, 14 only in 0 and 2
    row (faulted but fault is 0) (6 ∷ []) faulted ∷
    row (faulted but fault is 9) (6 ∷ []) (faulted but fault is 10) ∷
    row (faulted but fault is 15) (6 ∷ []) (faulted but fault is 14) ∷
    row (faulted but fault is 31) (6 ∷ []) (faulted but fault is 11) ∷
    row (faulted but fault is 12) (6 ∷ []) (faulted but fault is 12 but mode is 0) ∷
    row (faulted but fault is 13) (6 ∷ []) (faulted but fault is 13 but mode is 1) ∷
    row (faulted but fault is 14 but mode is 1) (6 ∷ []) (faulted but fault is 14 but mode is 0) ∷
    -- else code and address 0
    row (rest but fault is 10) (6 ∷ []) rest ∷
    row (halted but fault is 14) (6 ∷ []) halted ∷
    row (rest but faultat is 4098) (22 ∷ []) rest ∷
    row (write_back but faultat is 1) (22 ∷ []) write_back ∷
    -- zero bits are zero
    row (rest but zero15 is 1) (21 ∷ []) rest ∷
    row (faulted but zero15 is 16384) (21 ∷ []) faulted ∷
    row (rest but zero6 is 1) (24 ∷ []) rest ∷
    row (move ahead but zero6 is 32) (24 ∷ []) (move ahead) ∷
    -- a held slot stands only in Fetch, Move and WriteBack
    row (rest ahead) (23 ∷ []) (fetch ahead) ∷
    row (ended ahead) (23 ∷ []) (move ahead) ∷
    row (halted misaligned) (23 ∷ []) (write_back misaligned) ∷
    row (faulted outside) (23 ∷ []) (fetch outside) ∷
    -- an empty slot is all zero, and may stand in any phase
    row (move but at is 4128) (25 ∷ []) move ∷
    row (rest but at is 1) (25 ∷ []) (rest but run is 4294967295) ∷
    row (fetch but pointer is 4128 but at is 4128) (25 ∷ []) (fetch but pointer is 4128) ∷
    row (write_back but raw is 1) (26 ∷ []) write_back ∷
    row (rest but raw is 2 ^ 255) (26 ∷ []) (fetch ahead but raw is 2 ^ 255) ∷
    -- a fault slot's bytes are zero; those of a descriptor are free
    row (fetch misaligned but raw is 1) (26 ∷ []) (fetch misaligned) ∷
    row (move outside but raw is 2 ^ 248) (26 ∷ []) (move ahead but raw is 2 ^ 256 - 1) ∷
    -- the address of a held slot is the pointer
    row (move ahead but at is 4132) (25 ∷ []) (move ahead but at is 4132 but pointer is 4132) ∷
    row (write_back ahead but at is 0) (25 ∷ []) (write_back ahead) ∷
    row (fetch misaligned but pointer is 4134) (25 ∷ []) (fetch misaligned but pointer is 4134 but at is 4134) ∷
    row (fetch outside but at is 0) (25 ∷ []) (fetch outside but at is 0 but pointer is 0) ∷
    -- its kind is what rules 10 and 11 give there: not a multiple of 4, then not wholly in the window
    row (fetch misaligned but kind is 1) (25 ∷ []) (fetch misaligned but kind is 2) ∷
    row (fetch misaligned but kind is 3) (25 ∷ []) (fetch misaligned but kind is 2) ∷
    row (fetch outside but kind is 1) (25 ∷ []) (fetch outside but kind is 3) ∷
    row (fetch outside but kind is 2) (25 ∷ []) (fetch outside but kind is 3) ∷
    row (fetch ahead but kind is 2) (25 ∷ []) (fetch ahead but kind is 1) ∷
    row (fetch ahead but kind is 3) (25 ∷ []) (fetch ahead but kind is 1) ∷
    row (fetch outside but pointer is 8193 but at is 8193) (25 ∷ []) (fetch outside but pointer is 8193 but at is 8193 but kind is 2) ∷
    row (move ahead but pointer is 4324 but at is 4324) (25 ∷ []) (move ahead but pointer is 4320 but at is 4320) ∷
    row (fetch ahead but window is 63) (25 ∷ []) (fetch ahead but window is 64) ∷
    -- two and more at once: the lowest is told
    row (rest ahead but zero6 is 1) (23 ∷ 24 ∷ []) rest ∷
    row (ended but kind is 2) (23 ∷ 25 ∷ []) ended ∷
    row (move but zero6 is 63 but at is 4 but raw is 1) (24 ∷ 25 ∷ 26 ∷ []) move ∷
    row (rest but count is 255 but raw is 1) (8 ∷ 26 ∷ []) rest ∷
    row (rest outside but faultat is 1) (22 ∷ 23 ∷ []) rest ∷
    []

-- ---- the claim

-- the places of the tests that fail, counted from k
abbrev pub falses : ℕ → List Bool → List ℕ
falses k [] = []
falses k (true ∷ bs) = falses (suc k) bs
falses k (false ∷ bs) = k ∷ falses (suc k) bs

-- a broken one read from its 85 bytes: the number, the lowest field that breaks a rule, and all that do; its twin read from its own
pub record Outcome : Type 0 where
  pub number : ℕ
  pub lowest : ℕ
  pub all : List ℕ
  pub again : Result Fields Refusal
  pub behind : Tail

abbrev pub found : Row → Outcome
found r =
    let xs = image_is r.broken in
    let f = fields xs in
    let t = tail xs in
    record {
      number = answer_number (read_of xs);
      lowest = lowest_broken f t;
      all = falses 1 (rules f t);
      again = read_of (image_is r.twin);
      behind = tail (image_is r.twin);
    }

abbrev pub wanted : Row → Outcome
wanted r =
    let lowest = get_or r.places 0 0 in
    record {
      number = 8 + 256 * lowest;
      lowest = lowest;
      all = r.places;
      again = Ok (from_numbers r.twin);
      behind = tail_from r.twin;
    }

-- Each image rule, broken alone, is refused with 8 and its field, and the repaired twin is read.
abbrev pub RowsHold : Type 0
RowsHold = map found rows ≡ map wanted rows

pub rows-hold : RowsHold
unfolding slot_number slot_raw is_zero image fields tail rules lowest_broken keeps_rules read_of keeps_limits checked_of in_window located_of spot_of
rows-hold = refl

-- ---- one image byte by byte, written out by hand from the layout

abbrev pub sample : List ℕ
sample =
    write_back ahead but armed is 1 but pending is 1 but status is 0x15 but count is 7 but control is 0x1_0020
    but source is 0x0102_0304 but dcontrol is 0x85 but errors is 3 but eop is 1
    but raw is 0x0102_0304_0506_0708_090a_0b0c_0d0e_0f10_1112_1314_1516_1718_191a_1b1c_1d1e_1f20 but run is 0xa1b2_c3d4

abbrev pub sample_bytes : List ℕ
sample_bytes =
    -- edition 0010, mode 10, phase 011, armed 1, pending 1, fault 00000; status; count
    0x29 ∷ 0xe0 ∷ 0x15 ∷ 0x07 ∷
    -- control; pointer; base; window length
    0x00 ∷ 0x01 ∷ 0x00 ∷ 0x20 ∷
    0x00 ∷ 0x00 ∷ 0x10 ∷ 0x20 ∷
    0x00 ∷ 0x00 ∷ 0x10 ∷ 0x00 ∷
    0x00 ∷ 0x00 ∷ 0x01 ∷ 0x00 ∷
    -- descriptor address; source; destination
    0x00 ∷ 0x00 ∷ 0x10 ∷ 0x00 ∷
    0x01 ∷ 0x02 ∷ 0x03 ∷ 0x04 ∷
    0x00 ∷ 0x00 ∷ 0x10 ∷ 0x80 ∷
    -- length, control, errors; moved, EOP seen, zero
    0x00 ∷ 0x04 ∷ 0x85 ∷ 0x03 ∷
    0x00 ∷ 0x04 ∷ 0x80 ∷ 0x00 ∷
    -- fault address
    0x00 ∷ 0x00 ∷ 0x00 ∷ 0x00 ∷
    -- slot kind 01, zero 000000; slot address
    0x40 ∷
    0x00 ∷ 0x00 ∷ 0x10 ∷ 0x20 ∷
    -- slot bytes, as they stand in memory
    0x01 ∷ 0x02 ∷ 0x03 ∷ 0x04 ∷ 0x05 ∷ 0x06 ∷ 0x07 ∷ 0x08 ∷
    0x09 ∷ 0x0a ∷ 0x0b ∷ 0x0c ∷ 0x0d ∷ 0x0e ∷ 0x0f ∷ 0x10 ∷
    0x11 ∷ 0x12 ∷ 0x13 ∷ 0x14 ∷ 0x15 ∷ 0x16 ∷ 0x17 ∷ 0x18 ∷
    0x19 ∷ 0x1a ∷ 0x1b ∷ 0x1c ∷ 0x1d ∷ 0x1e ∷ 0x1f ∷ 0x20 ∷
    -- run number
    0xa1 ∷ 0xb2 ∷ 0xc3 ∷ 0xd4 ∷
    []

-- The fields' image is these bytes.
abbrev pub SampleWritten : Type 0
SampleWritten = image_is sample ≡ sample_bytes

-- The bytes are read as these fields, and the slot's as memory had them: the link to the next descriptor stands at its place, least
-- significant byte first.
abbrev pub SampleRead : Type 0
SampleRead = (read_of sample_bytes ≡ Ok (from_numbers sample)) × (tail sample_bytes ≡ tail_from sample)
    × ((named_in (tail sample_bytes).raw).next ≡ 0x1413_1211)

pub sample-written : SampleWritten
unfolding slot_number slot_raw image
sample-written = refl

pub sample-read : SampleRead
unfolding slot_number slot_raw is_zero named_in fields tail rules lowest_broken keeps_rules read_of keeps_limits checked_of in_window located_of spot_of
sample-read = (refl, refl, refl)
