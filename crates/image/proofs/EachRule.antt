-- Fields break no rule exactly where they keep each: by its number, and by its field's name.
-- Assumes nothing.
use Prim.Native.Nat.{ℕ, zero, suc}
use mathlib.Core.Path.{◌≡◌, refl}
use mathlib.Core.Bool.{true}
use lib.Dec.{eqb}
use Rattle.words.proofs.Firsts.{each, told-first}
use Rattle.bus.specs.Window.{keeps_limits}
use Rattle.descriptor.specs.Looking.{is_zero}
use Rattle.image.specs.declared.Fields.{Fields}
use Rattle.image.specs.declared.Tail.{Tail}
use Rattle.image.specs.Slot.{held_kept, slot_at_kept, slot_bytes_kept}
use Rattle.image.specs.Layout.{latest}
use Rattle.image.specs.Rules.{◌outside◌, zero_outside, in_faulted, working, edition_kept, mode_kept, phase_kept, fault_kept, status_kept, count_kept, control_kept, address_kept, size_kept, dcontrol_kept, errors_kept, asked, moved_kept, eop_kept, rules, rule_at, lowest_broken}
use Rattle.image.specs.Theorems.{FieldTold}

-- the rule of the field with the number i
pub rule : (f : Fields) (t : Tail) → lowest_broken f t ≡ 0 → (i : ℕ) → rule_at f t i ≡ true
unfolding lowest_broken
rule f t e zero = refl
rule f t e (suc i) = each 0 (rules f t) e i

-- The field told breaks its rule, and every field before it keeps its own.
pub field_told : FieldTold
unfolding lowest_broken
field_told f t h = told-first (rules f t) h

-- each rule under its field's name
pub record Each (f : Fields) (t : Tail) : Type 0 where
  pub edition : edition_kept latest f.edition ≡ true
  pub mode : mode_kept f.mode ≡ true
  pub phase : phase_kept f.mode f.phase ≡ true
  pub fault : fault_kept f.mode f.phase f.fault ≡ true
  pub status : status_kept f.mode f.phase f.status ≡ true
  pub count : count_kept f.count ≡ true
  pub control : control_kept f.phase f.armed f.control ≡ true
  pub window : keeps_limits f.base f.window ≡ true
  pub address : address_kept (working f.phase) f.base f.window f.address ≡ true
  pub source : zero_outside (working f.phase) f.source ≡ true
  pub destination : zero_outside (working f.phase) f.destination ≡ true
  pub size : size_kept f.mode (working f.phase) f.size ≡ true
  pub dcontrol : dcontrol_kept (working f.phase) f.dcontrol ≡ true
  pub errors : errors_kept f.mode (working f.phase) f.errors ≡ true
  pub moved : moved_kept f.phase (asked f.mode f.size) f.errors f.moved ≡ true
  pub eop : eop_kept f.mode f.phase (asked f.mode f.size) f.moved f.eop ≡ true
  pub zero15 : eqb f.zero15 0 ≡ true
  pub faultat : (eqb f.faultat 0 outside in_faulted f.phase) ≡ true
  pub kind : held_kept f.phase t.kind ≡ true
  pub zero6 : eqb t.zero6 0 ≡ true
  pub at : slot_at_kept f.base f.window f.pointer t.kind t.at ≡ true
  pub raw : slot_bytes_kept t.kind (is_zero t.raw) ≡ true

pub each-rule : (f : Fields) (t : Tail) → lowest_broken f t ≡ 0 → Each f t
unfolding rules
each-rule f t e =
    record {
      edition = rule f t e 1;
      mode = rule f t e 2;
      phase = rule f t e 3;
      fault = rule f t e 6;
      status = rule f t e 7;
      count = rule f t e 8;
      control = rule f t e 9;
      window = rule f t e 12;
      address = rule f t e 13;
      source = rule f t e 14;
      destination = rule f t e 15;
      size = rule f t e 16;
      dcontrol = rule f t e 17;
      errors = rule f t e 18;
      moved = rule f t e 19;
      eop = rule f t e 20;
      zero15 = rule f t e 21;
      faultat = rule f t e 22;
      kind = rule f t e 23;
      zero6 = rule f t e 24;
      at = rule f t e 25;
      raw = rule f t e 26;
    }

pub each_keeps : (f : Fields) (t : Tail) → Each f t → lowest_broken f t ≡ 0
unfolding rules lowest_broken
each_keeps f t k = rw (
  k.edition,
  k.mode,
  k.phase,
  k.fault,
  k.status,
  k.count,
  k.control,
  k.window,
  k.address,
  k.source,
  k.destination,
  k.size,
  k.dcontrol,
  k.errors,
  k.moved,
  k.eop,
  k.zero15,
  k.faultat,
  k.kind,
  k.zero6,
  k.at,
  k.raw,
)
