-- Order 13: "Mend a chain in a memory dump." The good front of a chain is kept, by clearing OWNED in its last descriptor.
-- Assumes nothing.
use Rattle.std.specs.Prelude.{ℕ, zero, suc, ◌+◌, ◌%◌, ◌≡◌, ◌≢◌, cond, List, length, get_or, set, Result, Ok, Err, Option, Some, None}
use Rattle.std.proofs.Common.{sym, ◌∙◌}
use Rattle.bus.specs.declared.Refusal.TheVariants.{NothingToKeep}
use Rattle.bus.specs.declared.Window.{Window}
use Rattle.bus.specs.Refusal.{answer_number}
use Rattle.bus.specs.declared.Refusal.{Refusal}
use Rattle.bus.specs.Window.{keeps_limits, checked_of, place_of}
use Rattle.descriptor.specs.Looking.{spot_of, stands}
use Rattle.links.specs.declared.mending.Change.{Change}
use Rattle.links.specs.declared.Verdict.{Verdict}
use Rattle.links.specs.declared.Kind.{Kind}
use Rattle.links.specs.declared.Kind.TheVariants.{Sound, Misaligned, Outside, Overlaps}
use Rattle.links.specs.Form.{Link, links_from, link_after}
use Rattle.links.specs.Verdicts.{window_at, stop, verdict, verdict_of, position_of}

-- ---- where a chain is cut

pub data Cut : Type 0 where
  -- it is sound
  nowhere : Cut
  -- the defect is the first descriptor
  before_all : Cut
  -- behind the descriptor at this address
  behind : ℕ → Cut

-- "where a defect is past the first descriptor, clear OWNED in the one just before it"
abbrev pub cut_at : Window → List ℕ → (pointer position : ℕ) → Cut
cut_at window memory pointer zero = before_all
cut_at window memory pointer (suc k) = behind (link_after window memory pointer k).at

-- a sound chain is not cut
abbrev pub cut_for : Kind → (defect : Cut) → Cut
cut_for Sound defect = nowhere
cut_for Misaligned defect = defect
cut_for Outside defect = defect
cut_for Overlaps defect = defect

unfoldable pub cut_by : Window → List ℕ → (pointer : ℕ) → Verdict → Cut
cut_by window memory pointer v = cut_for v.kind (cut_at window memory pointer v.stop.position)

-- "Walk as in order 8"
abbrev pub cut_of : Window → List ℕ → (pointer : ℕ) → Cut
cut_of window memory pointer = cut_by window memory pointer (verdict_of window memory pointer)

-- ---- what is told, and what is left

-- the place of desc_control of the descriptor at an address
abbrev pub control_place : Window → ℕ → ℕ
control_place window a = place_of window a + 31

-- "Report its address with the old and new byte": the new one has bit 7 clear
abbrev pub change_of : Window → List ℕ → (address : ℕ) → Change
change_of window memory a =
    record { address = a; before = get_or memory (control_place window a) 0; after = get_or memory (control_place window a) 0 % 128 }

abbrev pub cleared_at : Window → List ℕ → (address : ℕ) → List ℕ
cleared_at window memory a = set memory (control_place window a) (get_or memory (control_place window a) 0 % 128)

-- "23 NothingToKeep when the defect is the first descriptor"
abbrev pub mended_by : Window → List ℕ → Cut → Result (Option Change) Refusal
mended_by window memory nowhere = Ok None
mended_by window memory before_all = Err NothingToKeep
mended_by window memory (behind a) = Ok (Some (change_of window memory a))

abbrev pub left_by : Window → List ℕ → Cut → List ℕ
left_by window memory nowhere = memory
left_by window memory before_all = memory
left_by window memory (behind a) = cleared_at window memory a

-- of a window, and of one that may be refused
abbrev pub mended_of : Window → List ℕ → (pointer : ℕ) → Result (Option Change) Refusal
mended_of window memory pointer = mended_by window memory (cut_of window memory pointer)

abbrev pub left_of : Window → List ℕ → (pointer : ℕ) → List ℕ
left_of window memory pointer = left_by window memory (cut_of window memory pointer)

abbrev pub mended_in : Result Window Refusal → List ℕ → (pointer : ℕ) → Result (Option Change) Refusal
mended_in (Err why) memory pointer = Err why
mended_in (Ok window) memory pointer = mended_of window memory pointer

abbrev pub left_in : Result Window Refusal → List ℕ → (pointer : ℕ) → List ℕ
left_in (Err why) memory pointer = memory
left_in (Ok window) memory pointer = left_of window memory pointer

-- ---- mend

pub record WasMended (memory : List ℕ) (base pointer : ℕ) (r : Result (Option Change) Refusal) (memory' : List ℕ) : Type 0 where
  pub answer : r ≡ mended_in (checked_of base (length memory)) memory pointer
  pub number : answer_number r ≡ cond (keeps_limits base (length memory)) (cond (stands (spot_of (window_at base memory) pointer)) 0 23) 3
  pub lent : memory' ≡ left_in (checked_of base (length memory)) memory pointer

pub was-mended-unique : {memory : List ℕ} {base pointer : ℕ} {r s : Result (Option Change) Refusal} {xs ys : List ℕ}
    → WasMended memory base pointer r xs → WasMended memory base pointer s ys → (r ≡ s) × (xs ≡ ys)
was-mended-unique p q = (p.answer ∙ sym q.answer, p.lent ∙ sym q.lent)

-- ---- what mending does to a chain

-- the same descriptor with OWNED clear
abbrev pub unowned : Link → Link
unowned l =
    record {
      at = l.at;
      says =
          record {
            source = l.says.source;
            destination = l.says.destination;
            next = l.says.next;
            length = l.says.length;
            actual = l.says.actual;
            status = l.says.status;
            control = record { 0 = l.says.control.0 % 128 };
          };
    }

-- "Nothing else in the dump changes": one byte differs, and of it bit 7
pub record OneBit (memory : List ℕ) (place : ℕ) (c : Change) (memory' : List ℕ) : Type 0 where
  pub old : c.before ≡ get_or memory place 0
  pub new : c.after ≡ get_or memory' place 0
  pub bit : c.before ≡ c.after + 128
  pub others : (j : ℕ) → j ≢ place → get_or memory' j 0 ≡ get_or memory j 0
  pub size : length memory' ≡ length memory

-- a chain of which the first k are kept, with the next as their end
pub record Kept (window : Window) (memory : List ℕ) (pointer k : ℕ) (c : Change) (memory' : List ℕ) : Type 0 where
  -- the defect is at position k + 1
  pub position : position_of (verdict_of window memory pointer) ≡ k + 1
  pub address_is : c.address ≡ (link_after window memory pointer k).at
  -- the descriptors are those of the old chain
  pub first_k : links_from window memory' pointer k ≡ links_from window memory pointer k
  pub end_is : link_after window memory' pointer k ≡ unowned (link_after window memory pointer k)
  -- "the mended chain is sound"
  pub sound : verdict_of window memory' pointer ≡ verdict Sound (stop k c.address)
