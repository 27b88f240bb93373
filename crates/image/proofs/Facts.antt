-- What is known of the numbers of fields that break no rule.
-- Assumes nothing.
use Rattle.std.specs.Prelude.{Result, Ok, Err}
use Prim.Native.Nat.{ℕ, ◌+◌, ◌%◌, ◌≤◌, ◌<◌}
use mathlib.Core.Path.{◌≡◌, refl, sym, ap, subst, ◌∙◌}
use mathlib.Core.Bool.{Bool, true, false, not, ◌&&◌, ◌||◌, or_comm}
use mathlib.Core.List.{[]}
use native.Mathlib.Omega.{arith}
use lib.Dec.{leb, ltb, eqb}
use borrow.Author.Tests.{leb-true, ltb-true, eqb-true, eqb-false, eq-eqb, ne_eqb, not-true, not-false}
use Rattle.bus.specs.Window.{keeps_limits, checked_of, in_window}
use Rattle.bus.specs.declared.Place.{Place}
use Rattle.descriptor.specs.declared.Miss.{Miss}
use Rattle.descriptor.specs.declared.Miss.TheVariants as miss
use Rattle.descriptor.specs.Layout.{owned}
use Rattle.descriptor.specs.Looking.{spot_of, raw_of}
use Rattle.descriptor.proofs.Looks.{zero_is}
use Rattle.image.specs.declared.Fields.{Fields}
use Rattle.image.specs.declared.Tail.{Tail}
use Rattle.image.specs.Slot.{descriptor, kind_of, kind_at, kind_in, held}
use Rattle.image.specs.Rules.{◌⇒◌, ◌exactly◌, ◌outside◌, either, between, zero_from, zero_outside, in_move, in_write_back, in_ended, in_halted, in_faulted, working, error, eop_encountered, busy, run, sw_reset, fault_code, asked, moved_kept, eop_kept, lowest_broken}
use Rattle.image.proofs.Tests.{and_left, and_right, second, three, four, both, then, else, exactly-same}
use Rattle.image.proofs.EachRule.{each-rule}
use Rattle.image.proofs.Windows.{stands-in, kind-in}

whole-or : (n m : ℕ) {b : Bool} → (eqb n m || b) ≡ true → b ≡ false → n ≡ m
whole-or n m {b} e z = eqb-true n m (else b (eqb n m) (or_comm b (eqb n m) ∙ e) z)

zero-there : (inside : Bool) (x : ℕ) → zero_outside inside x ≡ true → inside ≡ false → x ≡ 0
zero-there inside x e h = eqb-true x 0 (else inside (eqb x 0) e h)

fault-in : (faulted : Bool) (n : ℕ) (a b : Bool) → ((faulted ⇒ between 10 14 n && a && b) && (eqb n 0 outside faulted)) ≡ true → n ≤ 14
fault-in true n a b e = leb-true _ _ (and_right (leb 10 n) _ (and_left _ a (and_left _ b (and_left _ true e))))
fault-in false n a b e = let z : n ≡ 0 = eqb-true _ _ e in omega arith

limits : (base window : ℕ) → keeps_limits base window ≡ true → (window ≤ 65536) × (base ≤ 4294967295) × (base + window ≤ 4294967296)
unfolding keeps_limits
limits base window e = (
  leb-true _ _ (and_left _ _ (and_left _ _ e)),
  leb-true _ _ (second (leb window 65536) _ (leb (base + window) 4294967296) e),
  leb-true _ _ (and_right (leb window 65536 && leb base 4294967295) _ e),
)

kind-of-le : (s : Result Place Miss) → kind_of s ≤ 3
kind-of-le (Err miss.Misaligned) = omega arith
kind-of-le (Err miss.Outside) = omega arith
kind-of-le (Ok p) = omega arith

moved-parts : (f : Fields) → moved_kept f.phase (asked f.mode f.size) f.errors f.moved ≡ true
    → (zero_outside (working f.phase) f.moved ≡ true)
    × ((in_move f.phase ⇒ ltb f.moved (asked f.mode f.size) && (eqb f.moved 0 ⇒ eqb f.errors 0)) ≡ true)
    × ((in_write_back f.phase ⇒ between 1 (asked f.mode f.size) f.moved) ≡ true)
moved-parts f e = three _ _ _ e

eop-parts : (f : Fields) → eop_kept f.mode f.phase (asked f.mode f.size) f.moved f.eop ≡ true
    → ((working f.phase || not f.eop) ≡ true)
    × ((either 0 1 f.mode ⇒ not f.eop) ≡ true)
    × ((in_move f.phase ⇒ not f.eop) ≡ true)
    × ((in_write_back f.phase ⇒ eqb f.moved (asked f.mode f.size) || f.eop) ≡ true)
eop-parts f e = four _ _ _ _ e

module _ (f : Fields) (t : Tail) (e : lowest_broken f t ≡ 0) where
  pub edition-is : f.edition ≡ 2
  edition-is = eqb-true _ _ (each-rule f t e).edition

  pub mode-le : f.mode ≤ 2
  mode-le = leb-true _ _ (each-rule f t e).mode

  pub phase-le : f.phase ≤ 6
  phase-le = leb-true _ _ (and_left _ _ (each-rule f t e).phase)

  pub halted-mode : f.phase ≡ 5 → f.mode ≡ 2
  halted-mode h = eqb-true _ _ (then _ _ (and_right (leb f.phase 6) _ (each-rule f t e).phase) (eq-eqb _ _ h))

  pub fault-code : f.phase ≡ 6 → fault_code f.mode f.fault ≡ true
  fault-code h = then _ _ (and_left _ _ (each-rule f t e).fault) (eq-eqb _ _ h)

  pub fault-none : (f.phase ≡ 6 → ⊥) → f.fault ≡ 0
  fault-none h =
      zero-there (in_faulted f.phase) _ (and_right (in_faulted f.phase ⇒ fault_code f.mode f.fault) _ (each-rule f t e).fault) (ne_eqb _ _ h)

  pub faultat-none : (f.phase ≡ 6 → ⊥) → f.faultat ≡ 0
  faultat-none h = zero-there (in_faulted f.phase) _ (each-rule f t e).faultat (ne_eqb _ _ h)

  pub fault-le : f.fault ≤ 14
  fault-le = fault-in (in_faulted f.phase) f.fault _ _ (each-rule f t e).fault

  pub status-lt : f.status < 32
  status-lt = ltb-true _ _ (and_left _ _ (and_left _ _ (each-rule f t e).status))

  pub busy-is : busy f.status ≡ between 1 4 f.phase
  busy-is = exactly-same _ _ (second (zero_from 5 f.status) _ (not (error f.status || eop_encountered f.status) outside eqb f.mode 2) (each-rule f t e).status)

  -- ERROR and EOP_ENCOUNTERED 0 outside mode 2
  pub no-marks : eqb f.mode 2 ≡ false → (error f.status || eop_encountered f.status) ≡ false
  no-marks h =
      not-true _ (else (eqb f.mode 2) _ (and_right (zero_from 5 f.status && (busy f.status exactly between 1 4 f.phase)) _ (each-rule f t e).status) h)

  pub count-le : f.count ≤ 254
  count-le = leb-true _ _ (each-rule f t e).count

  pub control-lt : f.control < 262144
  control-lt = ltb-true _ _ (and_left _ _ (and_left _ _ (each-rule f t e).control))

  pub armed-is : sw_reset f.control ≡ f.armed
  armed-is = exactly-same _ _ (second (zero_from 18 f.control) _ (in_ended f.phase || in_halted f.phase ⇒ run f.control) (each-rule f t e).control)

  pub run_set : (in_ended f.phase || in_halted f.phase) ≡ true → run f.control ≡ true
  run_set h = then _ _ (and_right (zero_from 18 f.control && (sw_reset f.control exactly f.armed)) _ (each-rule f t e).control) h

  pub window-le : f.window ≤ 65536
  window-le = (limits f.base f.window (each-rule f t e).window).0

  pub base-le : f.base ≤ 4294967295
  base-le = (limits f.base f.window (each-rule f t e).window).1

  pub end-le : f.base + f.window ≤ 4294967296
  end-le = (limits f.base f.window (each-rule f t e).window).2

  pub errors-lt : f.errors < 128
  errors-lt = ltb-true _ _ (and_right (zero_outside (working f.phase) f.errors && (either 0 1 f.mode ⇒ eqb f.errors 0)) _ (each-rule f t e).errors)

  pub zero15-is : f.zero15 ≡ 0
  zero15-is = eqb-true _ _ (each-rule f t e).zero15

  -- descriptor fields zero outside Move and WriteBack
  module _ (h : working f.phase ≡ false) where
    pub no_address : f.address ≡ 0
    no_address = zero-there (working f.phase) _ (and_left _ _ (each-rule f t e).address) h

    pub no_source : f.source ≡ 0
    no_source = zero-there (working f.phase) _ (each-rule f t e).source h

    pub no-destination : f.destination ≡ 0
    no-destination = zero-there (working f.phase) _ (each-rule f t e).destination h

    pub no_size : f.size ≡ 0
    no_size = zero-there (working f.phase) _ (and_left _ _ (each-rule f t e).size) h

    pub no-dcontrol : f.dcontrol ≡ 0
    no-dcontrol = zero-there (working f.phase) _ (and_left _ _ (each-rule f t e).dcontrol) h

    pub no-errors : f.errors ≡ 0
    no-errors = zero-there (working f.phase) _ (and_left _ _ (and_left _ _ (each-rule f t e).errors)) h

    pub no-moved : f.moved ≡ 0
    no-moved = zero-there (working f.phase) _ (and_left _ _ (and_left _ _ (each-rule f t e).moved)) h

    pub no_eop : f.eop ≡ false
    no_eop = not-true _ (else (working f.phase) _ (and_left _ _ (and_left _ _ (and_left _ _ (each-rule f t e).eop))) h)

  -- there: address aligned and in the window, control bit 7 set
  module _ (h : working f.phase ≡ true) where
    placed : (eqb (f.address % 4) 0 && in_window (record { base = f.base; length = f.window }) f.address 32) ≡ true
    placed =
        sym (stands-in f.base f.window f.address (each-rule f t e).window)
        ∙ then _ _ (and_right (zero_outside (working f.phase) f.address) _ (each-rule f t e).address) h

    pub address-aligned : f.address % 4 ≡ 0
    address-aligned = eqb-true _ _ (and_left _ _ placed)

    pub address-inside : in_window (record { base = f.base; length = f.window }) f.address 32 ≡ true
    address-inside = and_right (eqb (f.address % 4) 0) _ placed

    pub dcontrol-owned : owned f.dcontrol ≡ true
    dcontrol-owned = then _ _ (and_right (zero_outside (working f.phase) f.dcontrol) _ (each-rule f t e).dcontrol) h

  -- in modes 0 and 1 length not 0, errors and EOP seen 0
  module _ (h : either 0 1 f.mode ≡ true) where
    pub memory-size : working f.phase ≡ true → f.size ≡ 0 → ⊥
    memory-size i z =
        eqb-false _ _ (not-true _ (then _ _ (and_right (zero_outside (working f.phase) f.size) _ (each-rule f t e).size) (both i h))) z

    pub memory-errors : f.errors ≡ 0
    memory-errors = eqb-true _ _ (then _ _ (second (zero_outside (working f.phase) f.errors) _ (zero_from 7 f.errors) (each-rule f t e).errors) h)

    pub memory-eop : f.eop ≡ false
    memory-eop = not-true _ (then _ _ (eop-parts f (each-rule f t e).eop).1 h)

  -- Move: moved < L, EOP seen 0, errors 0 if moved is 0
  module _ (h : f.phase ≡ 2) where
    pub move-lt : f.moved < asked f.mode f.size
    move-lt = ltb-true _ _ (and_left _ _ (then _ _ (moved-parts f (each-rule f t e).moved).1 (eq-eqb _ _ h)))

    pub move-errors : f.moved ≡ 0 → f.errors ≡ 0
    move-errors z =
        eqb-true _ _
        (then _ _
        (and_right (ltb f.moved (asked f.mode f.size)) _ (then _ _ (moved-parts f (each-rule f t e).moved).1 (eq-eqb _ _ h)))
        (eq-eqb _ _ z))

    pub move-eop : f.eop ≡ false
    move-eop = not-true _ (then _ _ (eop-parts f (each-rule f t e).eop).2 (eq-eqb _ _ h))

  -- WriteBack: 1 <= moved <= L, and moved = L or EOP seen
  module _ (h : f.phase ≡ 3) where
    pub back-ge : 1 ≤ f.moved
    back-ge = leb-true _ _ (and_left _ _ (then _ _ (moved-parts f (each-rule f t e).moved).2 (eq-eqb _ _ h)))

    pub back-le : f.moved ≤ asked f.mode f.size
    back-le = leb-true _ _ (and_right (leb 1 f.moved) _ (then _ _ (moved-parts f (each-rule f t e).moved).2 (eq-eqb _ _ h)))

    pub back_whole : f.eop ≡ false → f.moved ≡ asked f.mode f.size
    back_whole z = whole-or _ _ (then _ _ (eop-parts f (each-rule f t e).eop).3 (eq-eqb _ _ h)) z

  -- ---- the slot

  pub zero6-is : t.zero6 ≡ 0
  zero6-is = eqb-true _ _ (each-rule f t e).zero6

  -- an empty slot is all zero
  module _ (h : t.kind ≡ 0) where
    pub empty-at : t.at ≡ 0
    empty-at = zero-there (held t.kind) _ (and_left _ _ (each-rule f t e).at) (rw h)

    pub empty-raw : t.raw ≡ raw_of []
    empty-raw = zero_is t.raw (else (eqb t.kind descriptor) _ (each-rule f t e).raw (rw h))

  -- a held slot stands only in Fetch, Move and WriteBack, its address is the pointer, and its kind is what rules 10 and 11 give there
  module _ (h : held t.kind ≡ true) where
    pub held-phase : between 1 3 f.phase ≡ true
    held-phase = then _ _ (each-rule f t e).kind h

    there : (eqb t.at f.pointer && eqb t.kind (kind_in (checked_of f.base f.window) t.at)) ≡ true
    there = then _ _ (and_right (eqb t.at 0 outside held t.kind) _ (each-rule f t e).at) h

    pub held_at : t.at ≡ f.pointer
    held_at = eqb-true _ _ (and_left _ _ there)

    pub held-kind : t.kind ≡ kind_at (record { base = f.base; length = f.window }) f.pointer
    held-kind =
        eqb-true _ _ (and_right (eqb t.at f.pointer) _ there)
        ∙ kind-in f.base f.window t.at (each-rule f t e).window
        ∙ ap (kind_at (record { base = f.base; length = f.window })) held_at

  -- a fault slot's bytes are zero
  pub fault-raw : (t.kind ≡ descriptor → ⊥) → t.raw ≡ raw_of []
  fault-raw h = zero_is t.raw (else (eqb t.kind descriptor) _ (each-rule f t e).raw (ne_eqb _ _ h))

  pub kind-le : t.kind ≤ 3
  kind-le = by (held t.kind) refl
    where
      by : (b : Bool) → held t.kind ≡ b → t.kind ≤ 3
      by true h =
          subst (λ (n : ℕ). n ≤ 3) (sym (held-kind h)) (kind-of-le (spot_of (record { base = f.base; length = f.window }) f.pointer))
      by false h = let z : t.kind ≡ 0 = eqb-true _ _ (not-false _ h) in omega arith
