-- The sum law of the ledger.
-- Assumes nothing.
use Rattle.std.specs.Prelude.{Result, Ok, Err}
use Prim.Native.Nat.{ℕ, ◌+◌, ◌-◌, ◌*◌, ◌/◌, ◌≤◌}
use mathlib.Core.Path.{◌≡◌, refl, sym, ap, subst, ◌∙◌}
use mathlib.Core.Bool.{Bool, true, false, cond, ◌&&◌}
use mathlib.Core.List.{List, [], ◌++◌}
use native.Mathlib.Omega.{arith}
use lib.Dec.{eqb}
use lib.ListN.{length, length-append, length-drop}
use borrow.Author.Tests.{eqb-true}
use Rattle.words.specs.Slices.{put}
use Rattle.words.proofs.Slices.{put-put, length-put}
use Rattle.regs.specs.declared.Mode.TheVariants.{StreamToMemory}
use Rattle.regs.specs.Control as register
use Rattle.regs.specs.Offsets.{is_register}
use Rattle.ledger.specs.declared.Entry.{Entry}
use Rattle.ledger.specs.Records.{ledger_bytes}
use Rattle.ledger.proofs.Rows.{length-ledger, ledger-append, capacity-le}
use Rattle.machine.specs.declared.Core.{Core}
use Rattle.machine.specs.declared.Machine.{Machine}
use Rattle.machine.specs.declared.Ran.{Ran}
use Rattle.machine.specs.declared.Phase.{Phase}
use Rattle.machine.specs.declared.Phase.TheVariants.{Rest, Fetch, Move, WriteBack, Ended, Halted, Faulted}
use Rattle.bus.specs.declared.Refusal.{Refusal}
use Rattle.machine.specs.Saved.{in_hand, keeps}
use Rattle.machine.specs.State.{with_pointer, fresh_core}
use Rattle.machine.specs.Registers.{status_written, control_stored, released, control_written, core_written, write_of}
use Rattle.machine.specs.Step.{World, machine_in}
use Rattle.machine.specs.Run.{Lent, Returned, Served, serves, served_of, world_of, taken_since, run, returned, ran_as, HasRun}
use Rattle.machine.proofs.Outcomes.{serves-good, ran-serves}
use Rattle.machine.proofs.RunLaws.{run-tells}
use Rattle.sums.specs.Sum.{held, abandoned, lost_in, Session, begins, written, ran, Adds}
use Rattle.sums.specs.Theorems.{SessionAdds}
use Rattle.sums.proofs.Balance.{sum-append, run-balanced}

-- ---- a register write leaves what is in hand, or drops it

record Drops (m n : Core) (lost : ℕ) : Type 0 where
  mode : n.mode ≡ m.mode
  rest : (in_hand n.phase).moved + lost ≡ (in_hand m.phase).moved

released-drops : (p : Phase) (m : Core) → m.phase ≡ p → Drops m (released p m) 0
released-drops Rest m e = record { mode = refl; rest = omega arith }
released-drops Fetch m e = record { mode = refl; rest = omega arith }
released-drops (Move k) m e = record { mode = refl; rest = omega arith }
released-drops (WriteBack k) m e = record { mode = refl; rest = omega arith }
released-drops Ended m e = record { mode = refl; rest = ap (λ (p : Phase). (in_hand p).moved) (sym e) }
released-drops Halted m e = record { mode = refl; rest = ap (λ (p : Phase). (in_hand p).moved) (sym e) }
released-drops (Faulted f) m e = record { mode = refl; rest = omega arith }

control-drops : (m : Core) (v : ℕ) → Drops m (control_written v m) (cond (register.reset_by v m.control) (in_hand m.phase).moved 0)
unfolding control_written
control-drops m v = by (register.reset_by v m.control) (register.run (register.as_control v))
  where
    by : (reset runs : Bool)
        → Drops m (cond reset (fresh_core m.mode m.window) (cond runs (control_stored v m) (released m.phase (control_stored v m))))
        (cond reset (in_hand m.phase).moved 0)
    by true runs = record { mode = refl; rest = omega arith }
    by false true = record { mode = refl; rest = omega arith }
    by false false = let r = released-drops m.phase (control_stored v m) refl in record { mode = r.mode; rest = r.rest }

core-drops : (m : Machine) (offset v : ℕ) → Drops m.core (core_written m.core offset v) (abandoned m offset v)
core-drops m offset v = by (eqb offset 0) refl (eqb offset 4) refl (eqb offset 8)
  where
    by : (status : Bool) → eqb offset 0 ≡ status → (control : Bool) → eqb offset 4 ≡ control → (pointer : Bool)
        → Drops m.core
        (cond status (status_written v m.core) (cond control (control_written v m.core) (cond pointer (with_pointer v m.core) m.core)))
        (cond (control && register.reset_by v m.core.control) (held m) 0)
    by true e true f pointer = absurd (omega (arith, eqb-true offset 0 e, eqb-true offset 4 f))
    by true e false f pointer = record { mode = refl; rest = omega arith }
    by false e true f pointer = control-drops m.core v
    by false e false f true = record { mode = refl; rest = omega arith }
    by false e false f false = record { mode = refl; rest = omega arith }

abbrev AfterWrite : Machine → (lost : ℕ) → Result Machine Refusal → Type 0
AfterWrite m lost (Ok n) = Drops m.core n.core lost
AfterWrite m lost (Err why) = Unit {0}

in-answer : (m : Machine) (lost : ℕ) (b : Bool) (x y : Result Machine Refusal) → AfterWrite m lost x → AfterWrite m lost y → AfterWrite m lost (cond b x y)
in-answer m lost true x y p q = p
in-answer m lost false x y p q = q

write-drops : (m : Machine) (offset v : ℕ) → AfterWrite m (abandoned m offset v) (write_of m offset v)
unfolding write_of
write-drops m offset v =
    in-answer m (abandoned m offset v) (keeps m) _ _
    (in-answer m (abandoned m offset v) (is_register offset) _ _ (core-drops m offset v) tt)
    tt

-- ---- a run

used_in : (m : Machine) (given : Lent) → served_of m given ≡ serves → given.used ≤ length given.ledger / 12
unfolding served_of
used_in m given e = (serves-good (keeps m) m given e).2

-- ---- sessions

record Balanced (m : Machine) (before ledger : List ℕ) (used : ℕ) (rs : List Entry) (t l : ℕ) : Type 0 where
  mode : m.core.mode ≡ StreamToMemory
  size : length ledger ≡ length before
  adds : Adds m before ledger used rs t l

module _ {m : Machine} {before : List ℕ} {rs : List Entry} {t l budget : ℕ} {given : Lent} {r : Ran} {b : Returned}
    (h : Balanced m before given.ledger given.used rs t l) (d : HasRun m given budget (Ok r) b) where
  u : given.used ≡ length rs
  u = h.adds.number

  abbrev w : World
  w = world_of m given

  abbrev new : List Entry
  new = (run budget w).world.records

  both : (served_of m given ≡ serves) × (r ≡ ran_as given.used w (run budget w))
  both = ran-serves given (served_of m given) w budget r d.answer

  is : r ≡ ran_as given.used w (run budget w)
  is = both.1

  front : length rs ≤ length given.ledger / 12
  front = omega (arith, used_in m given both.0, u)

  fits : 12 * length rs + length (ledger_bytes new) ≤ length given.ledger
  fits =
      let p = (run-tells budget w).passed in
      let made : length new ≡ length p.logged = ap length p.records in
      let room = p.left in
      omega (arith, made, room, length-ledger new, (capacity-le (length given.ledger)).0, front, u)

  ledger-is : b.ledger ≡ put given.ledger (12 * length rs) (ledger_bytes new)
  ledger-is =
      ap (λ (x : Returned). x.ledger) (d.back ∙ ap (λ (s : Served). returned given s (run budget w).world) both.0)
      ∙ ap (λ (n : ℕ). put given.ledger (12 * n) (ledger_bytes new)) u

  ran-kept : Balanced r.machine before b.ledger r.used (rs ++ new) (t + r.taken) (l + lost_in budget w)
  ran-kept =
      let p = (run-tells budget w).passed in
      let v = (run budget w).world in
      let machine : r.machine ≡ machine_in v = ap (λ (x : Ran). x.machine) is in
      let took : r.taken ≡ taken_since w v = ap (λ (x : Ran). x.taken) is in
      let in-hand : held r.machine ≡ held (machine_in v) = ap held machine in
      let beats-left : length v.input ≡ length w.input - p.took = ap length p.input ∙ length-drop p.took w.input in
      let place : 12 * length rs ≡ 0 + length (ledger_bytes rs) = omega (arith, length-ledger rs) in
      let room : 0 + length (ledger_bytes rs) ≤ length before = omega (arith, front, place, h.size) in
      record {
        mode = ap (λ (x : Machine). x.core.mode) machine ∙ p.mode ∙ h.mode;
        size = ap length ledger-is ∙ length-put given.ledger (12 * length rs) (ledger_bytes new) fits ∙ h.size;
        adds = record {
          sum = omega (arith, h.adds.sum, run-balanced budget w h.mode, sum-append rs new, in-hand, took, beats-left);
          holds = ledger-is ∙ (λ x. put (h.adds.holds x) (place x) (ledger_bytes new))
              ∙ put-put before 0 (ledger_bytes rs) (ledger_bytes new) room ∙ ap (put before 0) (sym (ledger-append rs new));
          number = ap (λ (x : Ran). x.used) is ∙ ap (λ (n : ℕ). n + length new) u ∙ sym (length-append rs new);
        };
      }

none-put : (xs : List ℕ) → xs ≡ put xs 0 []
none-put xs = refl

session-kept : {m : Machine} {before ledger : List ℕ} {used : ℕ} {rs : List Entry} {t l : ℕ} → Session m before ledger used rs t l
    → Balanced m before ledger used rs t l
session-kept (begins window ledger) =
    record { mode = refl; size = refl; adds = record { sum = refl; holds = none-put ledger; number = refl } }
session-kept (written {m = m} {n = n} {offset = offset} {v = v} s c) =
    let h = session-kept s in
    let a : Drops m.core n.core (abandoned m offset v) = subst (AfterWrite m (abandoned m offset v)) (sym c.answer) (write-drops m offset v) in
    record {
      mode = a.mode ∙ h.mode;
      size = h.size;
      adds = record { sum = omega (arith, h.adds.sum, a.rest); holds = h.adds.holds; number = h.adds.number };
    }
session-kept (ran s d) = ran-kept (session-kept s) d

-- The ledger's bytes sum to the beats taken less those in hand and those abandoned.
pub session-adds : SessionAdds
session-adds m before ledger used rs t l s = (session-kept s).adds
