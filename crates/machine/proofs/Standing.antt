-- Where a run stands in the middle of what it is lent: what the loop keeps, and what it promises where it ends.
-- Assumes nothing.
use Rattle.std.specs.Prelude.{Result, Ok, Err, Option, Some, None}
use Prim.Native.Nat.{ℕ, ◌+◌, ◌-◌, ◌*◌, ◌/◌, ◌≤◌, ◌<◌}
use mathlib.Core.Bool.{Bool, true, false}
use lib.Dec.{eqb}
use borrow.Author.Tests.{eqb-true, eqb-false}
use mathlib.Core.Path.{◌≡◌, refl, sym, ap, subst, subst⁻¹, ◌∙◌}
use mathlib.Core.List.{List, [], ◌∷◌, ◌++◌, append-nil}
use native.Mathlib.Nat.{add-zero, sub-zero}
use native.Mathlib.Omega.{arith}
use lib.ListN.{length, drop, length-append}
use Rattle.words.specs.Slices.{put}
use Rattle.words.proofs.Slices.{put-put}
use Rattle.bus.specs.declared.Refusal.{Refusal}
use Rattle.ledger.specs.declared.Entry.{Entry}
use Rattle.ledger.specs.Records.{ledger_bytes, capacity, Appended}
use Rattle.ledger.proofs.Rows.{length-ledger, ledger-append}
use Rattle.flow.specs.Beats.{beats_in, beat_bytes}
use Rattle.flow.proofs.Streams.{length-beat-bytes}
use Rattle.machine.specs.declared.Core.{Core}
use Rattle.machine.specs.declared.Work.{Work}
use Rattle.machine.specs.declared.Phase.{Phase}
use Rattle.machine.specs.declared.Phase.TheVariants.{Rest, Fetch, Move, WriteBack, Ended, Halted, Faulted}
use Rattle.machine.specs.declared.Machine.{Machine}
use Rattle.machine.specs.declared.fetch.Fetched.{Fetched}
use Rattle.machine.specs.State.{settled, machine_with, Slot}
use Rattle.machine.specs.declared.Ran.{Ran}
use Rattle.machine.specs.declared.Reason.{Reason}
use Rattle.machine.specs.declared.Reason.TheVariants as reason
use Rattle.machine.specs.Step.{World, taken, noted, holding, entry_for, step}
use Rattle.machine.specs.Run.{Report, run, Lent, Returned, lent, back, as_lent, Served, serves, refused, world_of, output_over, returned}
use Rattle.machine.specs.Run.{ran_as, run_answer, served_number, Runs}
use Rattle.machine.specs.Helpers.Worlds.{Reached, world_at, Within}
use Rattle.machine.specs.Helpers.Waiting.{wait_of, halt_of}
use Rattle.machine.specs.Helpers.Turns.{steps, Advances, Begun, Backs}
use Rattle.machine.specs.Helpers.Resume.{Seated, Ready}
use Rattle.machine.proofs.Beats.{beat-bytes-append, none_made}
use Rattle.machine.proofs.Readiness.{steps-ready}
use Rattle.machine.proofs.Waiting.{never-goes, halt-go}
use Rattle.machine.proofs.AtWriteBack.{back-goes, appended_one}
use Rattle.machine.proofs.Loop.{report, more_by, run-stops, run_out, run-steps, more-none, more-more}
use Rattle.machine.proofs.Outcomes.{took-since, over}

-- so many steps led here, with what stands in the lent bytes now, and the run goes on from here as it would have gone on
-- `slot` is what the loop has beside the core: what the phase leaves of it is the slot of the world
pub record Stands (m₀ : Machine) (l : Lent) (budget : ℕ) (b : Returned) (m : Core) (slot : Slot) (took made used count : ℕ) : Type 0 where
  pub window_length : length b.window ≡ length l.window
  pub out_length : length b.out ≡ length l.out
  pub ledger_length : length b.ledger ≡ length l.ledger
  pub spent : count ≤ budget
  pub within : Within l.beats b.out took made
  pub ready : Ready m (length b.window)
  pub seated : Seated m (settled m.phase slot)
  pub output : List ℕ
  pub counted : made ≡ length output
  pub wrote : b.out ≡ put l.out 0 (beat_bytes output)
  pub records : List Entry
  pub kept : used ≡ l.used + length records
  pub put_down : b.ledger ≡ put l.ledger (12 * l.used) (ledger_bytes records)
  pub used_in : used ≤ length b.ledger / 12
  pub same : run budget (world_of m₀ l)
      ≡ more_by count (run (budget - count)
      (world_at (holding (noted (world_of m₀ l) records (capacity (length b.ledger) - used)) (settled m.phase slot)) m b.window l.beats took output
      (length b.out / 2 - made)))

-- of the same beats
pub with-beats : {m₀ : Machine} {window beats beats' out ledger : List ℕ} {used₀ budget : ℕ} {b : Returned} {m : Core} {slot : Slot} {took made used count : ℕ}
    → beats' ≡ beats → Stands m₀ (lent window beats out ledger used₀) budget b m slot took made used count
    → Stands m₀ (lent window beats' out ledger used₀) budget b m slot took made used count
with-beats {m₀} {window} {beats} {beats'} {out} {ledger} {used₀} {budget} {b} {m} {slot} {took} {made} {used} {count} e s =
    subst⁻¹ (λ (x : List ℕ). Stands m₀ (lent window x out ledger used₀) budget b m slot took made used count) e s

-- why, where it ends
abbrev why : Option Reason → Reason
why (Some r) = r
why None = reason.Budget

-- what a phase leaves of a slot in place is in place
settled-seated : (m : Core) (p : Phase) (slot : Slot) → Seated m slot → Seated m (settled p slot)
settled-seated m Rest slot h = tt
settled-seated m Fetch slot h = h
settled-seated m (Move k) slot h = h
settled-seated m (WriteBack k) slot h = h
settled-seated m Ended slot h = tt
settled-seated m Halted slot h = tt
settled-seated m (Faulted f) slot h = tt

module _ (m₀ : Machine) (l : Lent) (budget : ℕ) where
  pub stands-first : Ready m₀.core (length l.window) → Seated m₀.core m₀.slot → l.used ≤ length l.ledger / 12
      → Stands m₀ l budget (as_lent l) m₀.core m₀.slot 0 0 l.used 0
  stands-first r t u =
      record {
        window_length = refl;
        out_length = refl;
        ledger_length = refl;
        spent = omega arith;
        within = record { taken_in = omega arith; made_in = omega arith };
        ready = r;
        seated = settled-seated m₀.core m₀.core.phase m₀.slot t;
        output = [];
        counted = refl;
        wrote = none_made l.out 0;
        records = [];
        kept = sym (add-zero l.used);
        put_down = none_made l.ledger (12 * l.used);
        used_in = u;
        same = rw (sub-zero budget, sub-zero (length l.out / 2)) (sym (more-none (run budget (world_of m₀ l))));
      }

  pub stands-new : {took made : ℕ} → took ≡ 0 → made ≡ 0 → Ready m₀.core (length l.window) → Seated m₀.core m₀.slot → l.used ≤ length l.ledger / 12
      → Stands m₀ l budget (as_lent l) m₀.core m₀.slot took made l.used 0
  stands-new {took} {made} e f r t u =
      subst⁻¹ (λ (n : ℕ). Stands m₀ l budget (as_lent l) m₀.core m₀.slot n made l.used 0) e
      (subst⁻¹ (λ (n : ℕ). Stands m₀ l budget (as_lent l) m₀.core m₀.slot 0 n l.used 0) f (stands-first r t u))

  module _ (b : Returned) (m : Core) (slot : Slot) (took made used count : ℕ) (s : Stands m₀ l budget b m slot took made used count) where
    abbrev pub here : World
    here =
        world_at (holding (noted (world_of m₀ l) s.records (capacity (length b.ledger) - used)) (settled m.phase slot)) m b.window l.beats took
        s.output (length b.out / 2 - made)

    -- the records put down, and those after them
    notes : (new : List Entry) {ledger' : List ℕ} → ledger' ≡ put b.ledger (12 * used) (ledger_bytes new)
        → ledger' ≡ put l.ledger (12 * l.used) (ledger_bytes (s.records ++ new))
    notes new e =
        let front : 12 * used ≡ 12 * l.used + length (ledger_bytes s.records) = omega (arith, length-ledger s.records, s.kept) in
        let inside : 12 * l.used + length (ledger_bytes s.records) ≤ length l.ledger = omega (arith, s.used_in, s.ledger_length, front) in
        e
        ∙ (λ x. put (s.put_down x) (front x) (ledger_bytes new))
        ∙ put-put l.ledger (12 * l.used) (ledger_bytes s.records) (ledger_bytes new) inside
        ∙ ap (put l.ledger (12 * l.used)) (sym (ledger-append s.records new))

    -- after n steps more, which made these beats and these records
    stands_on : (n : ℕ) (b' : Returned) (m' : Core) (slot' : Slot) (took' made' used' : ℕ) (new : List ℕ) (more : List Entry) → n ≤ budget - count
        → length b'.window ≡ length b.window → length b'.out ≡ length b.out → length b'.ledger ≡ length b.ledger
        → Within l.beats b.out took' made' → made' ≡ made + length new → b'.out ≡ put b.out (2 * made) (beat_bytes new)
        → used' ≡ used + length more → b'.ledger ≡ put b.ledger (12 * used) (ledger_bytes more) → used' ≤ length b.ledger / 12
        → steps n here
        ≡ taken (world_at (holding (noted (world_of m₀ l) (s.records ++ more) (capacity (length b.ledger) - used')) (settled m'.phase slot')) m'
        b'.window l.beats took' (s.output ++ new) (length b.out / 2 - made'))
        → Stands m₀ l budget b' m' slot' took' made' used' (count + n)
    stands_on n b' m' slot' took' made' used' new more h wl ol ll i counted wrote kept put_down inside goes =
        let w₀ = world_of m₀ l in
        let there = world_at (holding (noted w₀ (s.records ++ more) (capacity (length b.ledger) - used')) (settled m'.phase slot')) m' b'.window
        l.beats took' (s.output ++ new) (length b.out / 2 - made') in
        let on = steps-ready (length b.window) n here there goes s.ready s.seated in
        let left : budget - count ≡ n + (budget - (count + n)) = omega arith in
        let front : 2 * made ≡ 0 + length (beat_bytes s.output) = omega (arith, length-beat-bytes s.output) in
        let fits : 0 + length (beat_bytes s.output) ≤ length l.out = omega arith in
        record {
          window_length = wl ∙ s.window_length;
          out_length = ol ∙ s.out_length;
          ledger_length = ll ∙ s.ledger_length;
          spent = omega arith;
          within = record { taken_in = i.taken_in; made_in = omega arith };
          ready = rw wl on.0;
          seated = on.1;
          output = s.output ++ new;
          counted = simp length-append (omega arith);
          wrote = wrote ∙ rw (front, s.wrote, beat-bytes-append) (put-put l.out 0 (beat_bytes s.output) (beat_bytes new) fits);
          records = s.records ++ more;
          kept = simp length-append (omega (arith, kept, s.kept));
          put_down = notes more put_down;
          used_in = omega (arith, inside, ll);
          same = s.same
              ∙ ap (more_by count) (ap (λ (k : ℕ). run k here) left ∙ run-steps n (budget - (count + n)) here there goes)
              ∙ more-more count n _
              ∙ (λ x. more_by (count + n) (run (budget - (count + n))
              (world_at (holding (noted w₀ (s.records ++ more) (capacity (sym ll x) - used')) (settled m'.phase slot')) m' b'.window l.beats took' (s.output ++ new)
              (sym ol x / 2 - made'))));
        }

    -- in Move: no record, and what was read ahead stays beside it
    pub stands-moved : (k : Work) (window' out' : List ℕ) (n : ℕ) (r : Reached) → m.phase ≡ Move k → n ≤ budget - count
        → length window' ≡ length b.window → length out' ≡ length b.out
        → Advances m b.window l.beats took b.out made n r window' out'
        → Stands m₀ l budget (back window' out' b.ledger) r.core slot r.taken r.made used (count + n)
    stands-moved k window' out' n r e h wl ol g =
        stands_on n (back window' out' b.ledger) r.core slot r.taken r.made used g.new [] h wl ol refl g.within g.counted g.wrote
        (sym (add-zero used)) (none_made b.ledger (12 * used)) s.used_in
        (g.goes here
        ∙ (λ x. taken (world_at (holding (noted (world_of m₀ l) (sym (append-nil s.records) x) (capacity (length b.ledger) - used))
        (settled r.core.phase (settled (e x) slot))) r.core window' l.beats r.taken (s.output ++ g.new) (length b.out / 2 - r.made))))

    -- out of Rest or Fetch: the core and what is read ahead change
    pub stands-begun : (r : Fetched) → 1 ≤ budget - count → Begun m slot b.window r
        → Stands m₀ l budget b r.core r.slot took made used (count + 1)
    unfolding steps
    stands-begun r h g =
        stands_on 1 b r.core r.slot took made used [] [] h refl refl refl s.within
        (sym (add-zero made)) (none_made b.out (2 * made)) (sym (add-zero used)) (none_made b.ledger (12 * used)) s.used_in
        (g here
        ∙ (λ x. taken (world_at (holding (noted (world_of m₀ l) (sym (append-nil s.records) x) (capacity (length b.ledger) - used))
        (settled r.core.phase r.slot)) r.core b.window l.beats took (sym (append-nil s.output) x) (length b.out / 2 - made))))

    -- in WriteBack: one record
    pub stands-back : (k : Work) (window' ledger' : List ℕ) (m' : Core) (used' : ℕ) → 1 ≤ budget - count
        → length window' ≡ length b.window → length ledger' ≡ length b.ledger → m.phase ≡ WriteBack k → wait_of (step here) ≡ None
        → {e : Entry} → e ≡ entry_for m₀.run k → Appended b.ledger used e used' ledger' → Backs m k b.window m' window'
        → Stands m₀ l budget (back window' b.out ledger') m' slot took made used' (count + 1)
    unfolding steps
    stands-back k window' ledger' m' used' h wl ll e can same a g =
        let one = back-goes here k g e can in
        let put_down = appended_one b.ledger used (entry_for m₀.run k) one.0 (subst (λ (x : Entry). Appended b.ledger used x used' ledger') same a) in
        let left : capacity (length b.ledger) - used - 1 ≡ capacity (length b.ledger) - used' = omega (arith, put_down.0) in
        stands_on 1 (back window' b.out ledger') m' slot took made used' [] (entry_for m₀.run k ∷ []) h wl refl ll s.within
        (sym (add-zero made)) (none_made b.out (2 * made)) put_down.0 put_down.1 put_down.2
        (one.1
        ∙ (λ x. taken (world_at (holding (noted (world_of m₀ l) (s.records ++ entry_for m₀.run k ∷ []) (left x)) (settled m'.phase (settled (e x) slot))) m' window'
        l.beats took (sym (append-nil s.output) x) (length b.out / 2 - made))))

    -- the answer of a run that ends here
    abbrev pub ended : Reason → Ran
    ended r = record { machine = machine_with m slot m₀.run; reason = r; steps = count; taken = took; made = made; used = used }

    ends : (r : Reason) → run (budget - count) here ≡ report here 0 r → Runs serves m₀ l budget (Ok (ended r)) b
    ends r f =
        let w = world_of m₀ l in
        let full : run budget w ≡ report here count r = s.same ∙ ap (more_by count) f ∙ ap (λ (k : ℕ). report here k r) (add-zero count) in
        let since : length (beats_in l.beats) - length (drop took (beats_in l.beats)) ≡ took = took-since l.beats took s.within.taken_in in
        let tells : ended r ≡ ran_as l.used w (report here count r) =
        λ x. record { machine = machine_with m slot m₀.run; reason = r; steps = count; taken = sym since x; made = s.counted x; used = s.kept x } in
        let out : b.out ≡ output_over here l.out = s.wrote ∙ over l.out s.output in
        record {
          answer = ap Ok tells ∙ sym (ap (λ (x : Report). Ok (ran_as l.used w x)) full);
          number = refl;
          back = (λ x. back b.window (out x) (s.put_down x)) ∙ sym (ap (λ (x : Report). returned l serves x.world) full);
        }

    -- where no step can be taken
    stands-stopped : (r : Reason) → wait_of (step here) ≡ Some r → Runs serves m₀ l budget (Ok (ended r)) b
    stands-stopped r f = ends r (run-stops (budget - count) here r f)

    -- where the budget is spent, and one can
    stands-out : wait_of (step here) ≡ None → budget ≡ count → Runs serves m₀ l budget (Ok (ended reason.Budget)) b
    stands-out f k =
        let none : budget - count ≡ 0 = omega arith in
        ends reason.Budget (ap (λ (k : ℕ). run k here) none ∙ run_out here f)

    -- in either case, by what the code asks
    halted-by : (spent : Bool) (x : Option Reason) (r : Reason) → eqb budget count ≡ spent → wait_of (step here) ≡ x → halt_of spent x ≡ Some r
        → Runs serves m₀ l budget (Ok (ended r)) b
    halted-by spent (Some q) r e f h = stands-stopped r (f ∙ h)
    halted-by true None r e f h =
        subst (λ (x : Reason). Runs serves m₀ l budget (Ok (ended x)) b) (ap why h) (stands-out f (eqb-true _ _ e))
    halted-by false None r e f h = absurd (never-goes (sym h))

    pub stands-halted : {r : Reason} {m' : Machine} {a : Ran} → halt_of (eqb budget count) (wait_of (step here)) ≡ Some r
        → m' ≡ machine_with m slot m₀.run → a ≡ record { machine = m'; reason = r; steps = count; taken = took; made = made; used = used }
        → Runs serves m₀ l budget (Ok a) b
    stands-halted {r} h there tells =
        subst⁻¹ (λ (a : Ran). Runs serves m₀ l budget (Ok a) b)
        (tells ∙ ap (λ (x : Machine). record { machine = x; reason = r; steps = count; taken = took; made = made; used = used }) there)
        (halted-by (eqb budget count) (wait_of (step here)) r refl refl h)

    -- and where it goes on
    pub stands-going : halt_of (eqb budget count) (wait_of (step here)) ≡ None → (wait_of (step here) ≡ None) × (count < budget)
    stands-going h =
        let go = halt-go (eqb budget count) (wait_of (step here)) h in
        (go.0, omega (arith, s.spent, eqb-false budget count go.1))

-- what is lent serves, or it is refused
pub run-served : {served : Served} {m : Machine} {l : Lent} {budget : ℕ} {r : Result Ran Refusal} {b : Returned} → served ≡ serves
    → Runs serves m l budget r b → Runs served m l budget r b
run-served {m = m} {l = l} {budget = budget} {r = r} {b = b} e h = subst⁻¹ (λ (x : Served). Runs x m l budget r b) e h

pub run-refused : {served : Served} {m : Machine} {l : Lent} {budget : ℕ} {why : Refusal} → served ≡ refused why
    → Runs served m l budget (Err why) (as_lent l)
run-refused {m = m} {l = l} {budget = budget} e =
    let w = world_of m l in
    record {
      answer = sym (ap (λ (x : Served). run_answer l x w budget) e);
      number = sym (ap served_number e);
      back = sym (ap (λ (x : Served). returned l x (run budget w).world) e);
    }
