-- Fields that keep the rules fit the layout.
-- Assumes nothing.
use Prim.Native.Nat.{◌<◌}
use mathlib.Core.Path.{◌≡◌, refl}
use mathlib.Core.Bool.{Bool, true, false, ◌&&◌}
use native.Mathlib.Omega.{arith}
use borrow.Author.Rules.{rules}
use borrow.Author.Tests.{ltb-true}
use Rattle.words.specs.Bits.{flag}
use Rattle.words.specs.Numbers.{Fit}
use Rattle.words.proofs.Groups.{fit_append, fit-both}
use Rattle.descriptor.specs.Looking.{WordsFit}
use Rattle.image.specs.declared.Fields.{Fields}
use Rattle.image.specs.declared.Tail.{Tail}
use Rattle.image.specs.Slot.{slot_widths, slot_values}
use Rattle.image.specs.Layout.{values_of, widths_of, values, widths, Typed}
use Rattle.image.specs.Rules.{zero_from, lowest_broken}
use Rattle.image.specs.Helpers.WasPut.{fits}
use Rattle.image.proofs.SlotBytes.{slot_lt}
use Rattle.image.proofs.Tests.{and_left, and_right}
use Rattle.image.proofs.Facts.{edition-is, mode-le, phase-le, fault-le, status-lt, count-le, control-lt, base-le, window-le, errors-lt, zero15-is, kind-le, zero6-is}

flag-lt : (b : Bool) → flag b < 2
flag-lt true = omega arith
flag-lt false = omega arith

-- ---- what edition 2 adds

-- the numbers of the slot's lines, whose bytes always fit
pub tail-fits : (t : Tail) → t.kind < 4 → t.zero6 < 64 → t.at < 4294967296 → t.run < 4294967296 → Fit slot_widths (slot_values t)
tail-fits t kind zero6 at run = (kind, (zero6, (at, (slot_lt t.raw, (run, tt)))))

-- ---- the whole

pub keeps-fit : (f : Fields) (t : Tail) → Typed f t → lowest_broken f t ≡ 0 → Fit widths (values f t)
keeps-fit f t p e =
    fit_append (widths_of 1) slot_widths (values_of 1 f t) (slot_values t)
    (let edition = edition-is f t e in
    let mode = mode-le f t e in
    let phase = phase-le f t e in
    let fault = fault-le f t e in
    let status = status-lt f t e in
    let count = count-le f t e in
    let control = control-lt f t e in
    let base = base-le f t e in
    let window = window-le f t e in
    let errors = errors-lt f t e in
    let zero15 = zero15-is f t e in
    let armed = flag-lt f.armed in
    let pending = flag-lt f.pending in
    let eop = flag-lt f.eop in
    omega arith)
    (tail-fits t (let kind = kind-le f t e in omega arith) (let zero6 = zero6-is f t e in omega arith) p.at p.run)

-- the numbers whose bounds the rules give and their types give too
pub record Stored (f : Fields) : Type 0 where
  pub status : f.status < 256
  pub count : f.count < 256
  pub control : f.control < 4294967296
  pub base : f.base < 4294967296
  pub window : f.window < 4294967296
  pub errors : f.errors < 256

-- the test of the first part's numbers
abbrev core : Fields → Bool
core f = zero_from 4 f.edition && zero_from 2 f.mode && zero_from 3 f.phase && zero_from 5 f.fault && zero_from 15 f.zero15

-- what its types and the test of the others hold fits the layout
pub fits-fit : (f : Fields) (t : Tail) → Typed f t → Stored f → fits f t ≡ true → Fit widths (values f t)
unfolding fits
fits-fit f t p s e =
    let six = and_left _ _ e in
    let five = and_left _ _ six in
    let four = and_left _ _ five in
    let three = and_left _ _ four in
    let two = and_left _ _ three in
    let edition : f.edition < 16 = ltb-true _ _ (and_left _ _ two) in
    let mode : f.mode < 4 = ltb-true _ _ (and_right (zero_from 4 f.edition) _ two) in
    let phase : f.phase < 8 = ltb-true _ _ (and_right (zero_from 4 f.edition && zero_from 2 f.mode) _ three) in
    let fault : f.fault < 32 = ltb-true _ _ (and_right (zero_from 4 f.edition && zero_from 2 f.mode && zero_from 3 f.phase) _ four) in
    let zero15 : f.zero15 < 32768 =
    ltb-true _ _ (and_right (zero_from 4 f.edition && zero_from 2 f.mode && zero_from 3 f.phase && zero_from 5 f.fault) _ five) in
    let kind : t.kind < 4 = ltb-true _ _ (and_right (core f) _ six) in
    let zero6 : t.zero6 < 64 = ltb-true _ _ (and_right (core f && zero_from 2 t.kind) _ e) in
    let armed = flag-lt f.armed in
    let pending = flag-lt f.pending in
    let eop = flag-lt f.eop in
    fit_append (widths_of 1) slot_widths (values_of 1 f t) (slot_values t) (omega arith)
    (tail-fits t kind zero6 p.at p.run)

-- what fits the layout fits its types, but for the slot's bytes
pub fit-typed : (f : Fields) (t : Tail) → Fit widths (values f t) → WordsFit t.raw → Typed f t
fit-typed f t p words =
    let core : Fit (widths_of 1) (values_of 1 f t) = (fit-both (widths_of 1) slot_widths (values_of 1 f t) (slot_values t) refl p).0 in
    let slot : Fit slot_widths (slot_values t) = (fit-both (widths_of 1) slot_widths (values_of 1 f t) (slot_values t) refl p).1 in
    search rules
