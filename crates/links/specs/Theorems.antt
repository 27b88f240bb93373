-- What is proved of the check and of mending: each theorem's whole statement, under its name. A term of each stands in proofs/.
-- Assumes nothing.
use Rattle.std.specs.Prelude.{ℕ, ◌≤◌, ◌≡◌, ◌↔◌, true, false, List, [], length, Result, Ok, Err, Option, Some, None}
use Rattle.words.specs.Slices.{AllBytes}
use Rattle.bus.specs.declared.Refusal.{Refusal}
use Rattle.bus.specs.declared.Refusal.TheVariants.{NothingToKeep}
use Rattle.bus.specs.declared.Window.{Window}
use Rattle.bus.specs.Window.{keeps_limits}
use Rattle.descriptor.specs.Looking.{spot_of, stands}
use Rattle.links.specs.declared.mending.Change.{Change}
use Rattle.links.specs.declared.Kind.TheVariants.{Sound, Misaligned, Outside, Overlaps}
use Rattle.links.specs.Form.{Link, FirstSame, Placed, Form}
use Rattle.links.specs.Mending.{control_place, mended_of, left_of, WasMended, OneBit, Kept}
use Rattle.links.specs.MendRows.{AsMended}
use Rattle.links.specs.Rows.{AsWanted}
use Rattle.links.specs.Verdicts.{stop, verdict, walk, verdict_of, position_of, read_for, Means, IsSound, IsMisaligned, IsOutside, IsOverlapping}

-- the window keeps the limits: a chain in any other is not looked at
abbrev pub Limited : Window → Type 0
Limited window = keeps_limits window.base window.length ≡ true

-- ---- order 8: what the verdict means

-- "Sound exactly when the chain has demand 3's form", for this k, and the address told is that of its end.
abbrev pub SoundExactly : Type 0
SoundExactly = (window : Window) (memory : List ℕ) (pointer k e : ℕ) → Limited window
    → (verdict_of window memory pointer ≡ verdict Sound (stop k e)) ↔ IsSound window memory pointer k e

-- A chain has the form for one k at most, and so one end.
abbrev pub OneForm : Type 0
OneForm = (window : Window) (memory : List ℕ) (pointer k l : ℕ) → Limited window
    → Form window memory pointer k → Form window memory pointer l → k ≡ l

-- Misaligned is told exactly where all before it is as it should be and its address is no multiple of 4.
abbrev pub MisalignedExactly : Type 0
MisalignedExactly = (window : Window) (memory : List ℕ) (pointer k a : ℕ) → Limited window
    → (verdict_of window memory pointer ≡ verdict Misaligned (stop k a)) ↔ IsMisaligned window memory pointer k a

-- Outside exactly where it is not misaligned, and its 32 bytes are not in the window.
abbrev pub OutsideExactly : Type 0
OutsideExactly = (window : Window) (memory : List ℕ) (pointer k a : ℕ) → Limited window
    → (verdict_of window memory pointer ≡ verdict Outside (stop k a)) ↔ IsOutside window memory pointer k a

-- Overlaps exactly where it is neither, and has a byte in common with an earlier one.
abbrev pub OverlapsExactly : Type 0
OverlapsExactly = (window : Window) (memory : List ℕ) (pointer k a : ℕ) → Limited window
    → (verdict_of window memory pointer ≡ verdict Overlaps (stop k a)) ↔ IsOverlapping window memory pointer k a

-- Every chain gets one of these four verdicts, and it holds of the chain.
abbrev pub VerdictMeans : Type 0
VerdictMeans = (window : Window) (memory : List ℕ) (pointer : ℕ) → Limited window
    → Means window memory pointer (verdict_of window memory pointer)

-- ---- order 8: how far the walk goes

-- No more than 2,048 descriptors of 32 bytes are apart in 65,536 bytes.
abbrev pub ApartAtMost : Type 0
ApartAtMost = (window : Window) (links : List Link) → Limited window → Placed window links → length links ≤ 2048

-- So a sound chain has at most 2,047 owned descriptors and its end.
abbrev pub SoundAtMost : Type 0
SoundAtMost = (window : Window) (memory : List ℕ) (pointer k : ℕ) → Limited window → Form window memory pointer k → k ≤ 2047

-- A walk stops at position 2,048 at the latest.
abbrev pub StopsAtMost : Type 0
StopsAtMost = (window : Window) (memory : List ℕ) (pointer : ℕ) → Limited window → position_of (verdict_of window memory pointer) ≤ 2048

-- "At most 2,049 descriptors are read on one walk": 2,048, since a defect is known by its address and is not read.
abbrev pub ReadAtMost : Type 0
ReadAtMost = (window : Window) (memory : List ℕ) (pointer : ℕ) → Limited window → read_for (verdict_of window memory pointer) ≤ 2048

-- "descriptors are read on one walk": the verdict goes by the 32 bytes of those counted, from the first on, and by no others. Another
-- memory that has these at the same addresses gets the same verdict, whatever else it holds.
abbrev pub NoOtherByte : Type 0
NoOtherByte = (window : Window) (memory other : List ℕ) (pointer : ℕ)
    → FirstSame window memory other pointer (read_for (verdict_of window memory pointer))
    → verdict_of window other pointer ≡ verdict_of window memory pointer

-- A walk that may look at more than 2,049 tells the same.
abbrev pub MoreTellTheSame : Type 0
MoreTellTheSame = (window : Window) (memory : List ℕ) (pointer n : ℕ) → Limited window → 2049 ≤ n
    → walk window memory [] n 0 pointer ≡ verdict_of window memory pointer

-- ---- order 13: mending. The window is lent whole, as it is to the calls

-- "23 NothingToKeep when the defect is the first descriptor", and only then: the pointer is misaligned, or points outside.
abbrev pub NothingExactly : Type 0
NothingExactly = (window : Window) (memory : List ℕ) (pointer : ℕ) → Limited window
    → (mended_of window memory pointer ≡ Err NothingToKeep) ↔ (stands (spot_of window pointer) ≡ false)

-- "a sound chain is untouched".
abbrev pub SoundUntouched : Type 0
SoundUntouched = (window : Window) (memory : List ℕ) (pointer k : ℕ) → Limited window → Form window memory pointer k
    → (mended_of window memory pointer ≡ Ok None) × (left_of window memory pointer ≡ memory)

-- "Nothing else in the dump changes": of a chain that is cut one byte differs, and of it bit 7.
abbrev pub OneBitDiffers : Type 0
OneBitDiffers = (window : Window) (memory : List ℕ) (pointer : ℕ) (c : Change) → Limited window → length memory ≡ window.length → AllBytes memory
    → mended_of window memory pointer ≡ Ok (Some c)
    → OneBit memory (control_place window c.address) c (left_of window memory pointer)

-- "the mended chain is sound", with k the position of the defect less 1, and its descriptors are those of the old chain.
abbrev pub FrontKept : Type 0
FrontKept = (window : Window) (memory : List ℕ) (pointer : ℕ) (c : Change) → Limited window → length memory ≡ window.length
    → mended_of window memory pointer ≡ Ok (Some c)
    → (k : ℕ) × Kept window memory pointer k c (left_of window memory pointer)

-- Mending twice is mending once.
abbrev pub MendOnce : Type 0
MendOnce = (memory : List ℕ) (base pointer : ℕ) (r s : Result (Option Change) Refusal) (after again : List ℕ) → WasMended memory base pointer r after
    → WasMended after base pointer s again → again ≡ after

-- ---- the definitions held against the request

-- Twenty-eight verdicts worked out by hand.
abbrev pub VerdictsHold : Type 0
VerdictsHold = AsWanted

-- Thirteen chains mended by hand.
abbrev pub MendsHold : Type 0
MendsHold = AsMended
