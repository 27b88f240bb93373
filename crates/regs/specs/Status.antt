-- The status register: its bits, and what changes them.
-- Assumes nothing.
use Rattle.std.specs.Prelude.{ℕ, ◌+◌, ◌*◌, Bool, true, not, ◌&&◌, ◌||◌}
use Rattle.words.specs.Bits.{bit, flag}
use Rattle.regs.specs.declared.Status.{Status}

-- 0 ERROR, 1 EOP_ENCOUNTERED, 2 DESCRIPTOR_COMPLETED, 3 CHAIN_COMPLETED, 4 BUSY; others 0
abbrev pub status_number : Status → ℕ
status_number s = flag s.error * 1 + flag s.eop * 2 + flag s.descriptor * 4 + flag s.chain * 8 + flag s.busy * 16

abbrev pub status_of : ℕ → Status
status_of n = record { error = bit 0 n; eop = bit 1 n; descriptor = bit 2 n; chain = bit 3 n; busy = bit 4 n }

-- writing 1 clears bits 0 to 3; other written bits do nothing
abbrev pub cleared_by : ℕ → Status → Status
cleared_by v s =
    let written = status_of v in
    record {
      error = s.error && not written.error;
      eop = s.eop && not written.eop;
      descriptor = s.descriptor && not written.descriptor;
      chain = s.chain && not written.chain;
      busy = s.busy;
    }

-- the chain's end sets CHAIN_COMPLETED; BUSY stays
abbrev pub chain_ended : Status → Status
chain_ended s = record { error = s.error; eop = s.eop; descriptor = s.descriptor; chain = true; busy = s.busy }

-- a descriptor written back sets DESCRIPTOR_COMPLETED; EOP_ENCOUNTERED if the last beat had EOP; ERROR if errors are not 0
abbrev pub status_back : Status → (eop failed busy : Bool) → Status
status_back s eop failed busy =
    record { error = s.error || failed; eop = s.eop || eop; descriptor = true; chain = s.chain; busy = busy }
