-- Chains that meet the premises, and what is concluded there in numbers. From stream to memory: known run 1 of the paper; and a chain of
-- three with an EOP in the second and a fixed destination in the third. From memory to memory: a copy onto itself, and a fixed source. From
-- memory to stream: a packet of three beats, one of one, and two beats that begin and end none. That it holds of them is `known-run-1`,
-- `chain-of-three`, `chain-of-copies` and `chain-of-packets`.
-- Assumes nothing.
use Rattle.std.specs.Prelude.{ℕ, ◌≡◌, List, [], ◌∷◌, ◌++◌, get_or, replicate}
use Rattle.words.specs.Slices.{part}
use Rattle.bus.specs.Window.{place_of}
use Rattle.descriptor.specs.declared.Job.{Job}
use Rattle.descriptor.specs.Layout.{bytes_for}
use Rattle.regs.specs.declared.Mode.{Mode}
use Rattle.machine.specs.declared.Ran.{Ran}
use Rattle.machine.specs.declared.Reason.TheVariants.{Ended}
use Rattle.machine.specs.Step.{World}
use Rattle.machine.specs.Run.{run, ran_as}
use Rattle.links.specs.Form.{All}
use Rattle.chain.specs.Chain.{Given, world_in, Sent}

-- ---- what is concluded, in numbers

-- bytes at a place
pub record There : Type 0 where
  pub place : ℕ
  pub bytes : List ℕ

abbrev pub after : Mode → Given → World
after mode g = (run 100 (world_in mode g)).world

abbrev pub told : Mode → Given → Ran
told mode g = ran_as g.used (world_in mode g) (run 100 (world_in mode g))

pub record InNumbers (mode : Mode) (g : Given) (Meets : Type 0) (steps taken pointer : ℕ) (fours : List There) (landed : List Sent) (beats : List ℕ) : Type 0 where
  pub meets : Meets
  pub reason : (told mode g).reason ≡ Ended
  pub steps_are : (told mode g).steps ≡ steps
  pub taken_are : (told mode g).taken ≡ taken
  pub pointer_is : (told mode g).machine.core.pointer.0 ≡ pointer
  pub fours_are : All (λ x. part (after mode g).memory x.place 4 ≡ x.bytes) fours
  pub landed_are : All (λ s. get_or (after mode g).memory (place_of g.window s.to) 0 ≡ s.byte) landed
  pub beats_are : (after mode g).output ≡ beats

abbrev pub job_from : (source destination next length control : ℕ) → Job
job_from source destination next length control =
    record { source = source; destination = destination; next = next; length = length; control = record { 0 = control } }

abbrev pub job : (destination next length control : ℕ) → Job
job destination next length control = job_from 0 destination next length control

-- ---- known run 1

abbrev pub known : Given
known =
    record {
      window = record { base = 4096; length = 256 };
      memory = bytes_for (job 4224 4128 4 0x80) ++ replicate 224 0;
      pointer = 4096;
      control = 0x20;
      beats = 0x0011 ∷ 0x0022 ∷ 0x0033 ∷ 0x0044 ∷ [];
      room = 0;
      used = 0;
      left = 1;
      k = 1;
    }

-- ---- three descriptors, not in the order of their addresses. The second has length 0, other control bits and an EOP with an
-- error; its first byte lands where the first descriptor's last did. The third is fixed. Interrupts, MAX_DESC_PROCESSED, SW_RESET,
-- a bit that is not stored and CLEAR_INTERRUPT are written, and a beat is left over

abbrev pub three : Given
three =
    record {
      window = record { base = 4096; length = 256 };
      memory = bytes_for (job 4224 4160 3 0x80) ++ (bytes_for (job 4240 4192 3 0x84) ++ (bytes_for (job 4226 4128 0 0xF8) ++ replicate 160 0));
      pointer = 4096;
      control = 0x801102BF;
      beats = 0x0011 ∷ 0x0022 ∷ 0x0033 ∷ 0x0044 ∷ 0x0755 ∷ 0x0266 ∷ 0x0077 ∷ 0x0088 ∷ 0x0099 ∷ [];
      room = 7;
      used = 5;
      left = 3;
      k = 3;
    }

-- ---- from memory to memory. The first copies five bytes two places on, onto itself, so that their first two repeat; the second reads a
-- byte that the first has written, three times. STOP_DMA_ER is set

abbrev pub copier : Given
copier =
    record {
      window = record { base = 4096; length = 256 };
      memory = bytes_for (job_from 4224 4226 4128 5 0x80)
          ++ (bytes_for (job_from 4230 4240 4160 3 0x82) ++ (replicate 64 0 ++ 0xA1 ∷ 0xB2 ∷ 0xC3 ∷ 0xD4 ∷ 0xE5 ∷ 0xF6 ∷ 0x66 ∷ replicate 121 0));
      pointer = 4096;
      control = 0x60;
      beats = 0x0011 ∷ [];
      room = 0;
      used = 2;
      left = 2;
      k = 2;
    }

-- ---- from memory to stream, not in the order of the addresses. Three bytes with SOP and EOP; one byte with both; and a fixed source with
-- neither. Their destinations are outside the window, and a place for a beat is left over

abbrev pub sender : Given
sender =
    record {
      window = record { base = 4096; length = 256 };
      memory = bytes_for (job_from 4224 0 4160 3 0x85)
          ++ (bytes_for (job_from 4226 0 4192 2 0x82) ++ (bytes_for (job_from 4225 0 4128 1 0x85) ++ (replicate 32 0 ++ 0xA1 ∷ 0xB2 ∷ 0xC3 ∷ replicate 125 0)));
      pointer = 4096;
      control = 0x60;
      beats = 0x0011 ∷ [];
      room = 7;
      used = 0;
      left = 3;
      k = 3;
    }
