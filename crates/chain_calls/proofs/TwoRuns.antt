-- Two runs through sgdma_run, the second lent what the first left, do what one with both budgets does: the second opens the world
-- where the first stopped, but for what was made before, which does not show in a run.
-- Assumes nothing.
use Prim.Native.Nat.{ℕ, zero, suc, ◌+◌, ◌-◌, ◌*◌, ◌/◌, ◌%◌, ◌≤◌}
use mathlib.Core.Path.{◌≡◌, refl, sym, ap, ap₂, subst, ◌∙◌}
use mathlib.Core.Bool.{true}
use mathlib.Core.List.{List, [], ◌∷◌, ◌++◌, append_assoc, append-nil}
use native.Mathlib.Nat.{add_assoc}
use native.Mathlib.Omega.{arith}
use lib.ListN.{length, take, drop, length-append, length-drop}
use lib.Seq.{take_at, drop_at, drop-drop}
use borrow.Author.Tests.{le-leb}
use Rattle.words.specs.declared.Order.TheVariants.{MostFirst}
use Rattle.words.specs.Orders.{bytes_of, number_of}
use Rattle.words.specs.Slices.{put}
use Rattle.words.proofs.Slices.{length-put, put-put}
use Rattle.bus.specs.declared.Window.{Window}
use Rattle.image.proofs.RoundTrip.{length-image}
use Rattle.ledger.specs.declared.Entry.{Entry}
use Rattle.ledger.specs.Records.{ledger_bytes, capacity, is_ledger}
use Rattle.ledger.proofs.Rows.{length-ledger, ledger-append, capacity-le}
use Rattle.flow.specs.Beats.{beats_in, beat_bytes}
use Rattle.flow.proofs.Streams.{length-beats, length-beat-bytes}
use Rattle.machine.specs.declared.Machine.{Machine}
use Rattle.machine.specs.Saved.{fields_of, tail_of, keeps}
use Rattle.machine.specs.Step.{World, laid, noted, machine_in, holding}
use Rattle.machine.specs.Run.{Report, run, reason_number, Lent, serves, even, served_of, taken_since, output_over, ledger_over}
use Rattle.machine.specs.Laws.{Passed, on_top}
use Rattle.machine.proofs.Beats.{beat-bytes-append}
use Rattle.machine.proofs.RunLaws.{run-add, run-tells, run-input}
use Rattle.machine.proofs.Outcomes.{serves-good}
use Rattle.met.specs.Met.{Met}
use Rattle.met.proofs.InUse.{met-keeps, met-sound, opened-same}
use Rattle.sgdma.specs.Calls.{image_of}
use Rattle.chain_calls.specs.InC.{RunLent, RunLeft, Promised}
use Rattle.chain_calls.specs.Useless.{InBytes}
use Rattle.chain_calls.specs.Told.{made_told}
use Rattle.chain_calls.specs.TwoRuns.{lent_next, lent_with}
use Rattle.chain_calls.specs.Theorems.{TwoRunsAdd}
use Rattle.chain_calls.proofs.OfCalls.{loads-as}
use Rattle.chain_calls.proofs.Behind.{behind, report_behind, run-behind}
use Rattle.chain_calls.proofs.Done.{served_by, Accepted, was-accepted, world, ran, LeftBy, room-left, records-left, used-bits, met-after, left_by}

-- ---- what is lent, in two goes

two-more : (n : ℕ) → 2 * suc n ≡ suc (suc (2 * n))
two-more n = omega arith

-- the beats from the taken ones on
beats-from : (n : ℕ) (xs : List ℕ) → beats_in (drop (2 * n) xs) ≡ drop n (beats_in xs)
beats-from zero xs = refl
beats-from (suc n) [] = rw (two-more n)
beats-from (suc n) (x ∷ []) = rw (two-more n)
beats-from (suc n) (x ∷ y ∷ xs) = rw (two-more n) (beats-from n xs)

even-from : (n : ℕ) (xs : List ℕ) → n ≤ length xs / 2 → even (drop (2 * n) xs) ≡ even xs
even-from n xs h =
    let same : length (drop (2 * n) xs) % 2 ≡ length xs % 2 = simp length-drop (omega arith) in
    rw same

-- what a call is lent serves as what another is, of machines that keep the rules
serves-as : (l d : Lent) (m n : Machine) → keeps n ≡ true → keeps m ≡ true → even d.beats ≡ even l.beats → even d.out ≡ even l.out
    → is_ledger (length d.ledger) d.used ≡ is_ledger (length l.ledger) l.used → length d.window ≡ length l.window
    → n.core.window.length ≡ m.core.window.length
    → served_of n d ≡ served_of m l
unfolding served_of
serves-as l d m n k h b o e w s = rw (k, h, b, o, e, w, s)

-- a run takes beats and makes none
input-le : (n : ℕ) (w : World) → length (run n w).world.input ≤ length w.input
input-le n w = omega (arith, ap length (run-input n w) ∙ length-drop (taken_since w (run n w).world) w.input)

-- ---- what is left, in two goes

out-join : (xs ys out : List ℕ)
    → beat_bytes (xs ++ ys) ++ drop (2 * length (xs ++ ys)) out ≡ beat_bytes xs ++ (beat_bytes ys ++ drop (2 * length ys) (drop (2 * length xs) out))
out-join xs ys out =
    let size : 2 * length (xs ++ ys) ≡ 2 * length xs + 2 * length ys = omega (arith, length-append xs ys) in
    rw (beat-bytes-append xs ys, append_assoc (beat_bytes xs) (beat_bytes ys), size, drop-drop (2 * length ys) (2 * length xs) out)

ledger-join : (ledger : List ℕ) (used : ℕ) (es fs : List Entry) → 12 * used + length (ledger_bytes es) ≤ length ledger
    → put ledger (12 * used) (ledger_bytes (es ++ fs)) ≡ put (put ledger (12 * used) (ledger_bytes es)) (12 * (used + length es)) (ledger_bytes fs)
ledger-join ledger used es fs h =
    let at : 12 * used + length (ledger_bytes es) ≡ 12 * (used + length es) = omega (arith, length-ledger es) in
    ap (put ledger (12 * used)) (ledger-append es fs) ∙ sym (put-put ledger (12 * used) (ledger_bytes es) (ledger_bytes fs) h)
    ∙ ap (λ (n : ℕ). put (put ledger (12 * used) (ledger_bytes es)) n (ledger_bytes fs)) at

-- ---- the second call

module _ {x : RunLent} (s : Accepted x) (g : InBytes x) (first : RunLeft) (p : Promised x first) (b : ℕ) (report : List ℕ) (size : length report ≡ 18) where
  -- where the first stopped, and the beats that it took
  abbrev v : World
  v = (ran s).world

  abbrev took : ℕ
  took = taken_since (world s) v

  left : LeftBy s first
  left = left_by s first p g.used g.budget

  -- what the second is lent, by that world
  abbrev next : RunLent
  next =
      record {
        image = image_of (machine_in v);
        lent = record {
          window = v.memory;
          beats = drop (2 * took) x.lent.beats;
          out = drop (2 * length v.output) x.lent.out;
          ledger = ledger_over v x.lent.ledger x.lent.used;
          used = x.lent.used + length v.records;
        };
        budget = b;
        report = report;
      }

  out-next : drop (2 * made_told first.report) first.back.out ≡ next.lent.out
  out-next =
      (λ i. drop (2 * left.made i) (left.back i).out)
      ∙ drop_at (beat_bytes v.output) _ _ (length-beat-bytes v.output)

  made-first : take (2 * made_told first.report) first.back.out ≡ beat_bytes v.output
  made-first =
      (λ i. take (2 * left.made i) (left.back i).out)
      ∙ take_at (beat_bytes v.output) _ _ (length-beat-bytes v.output)

  is-next : lent_next x first b report ≡ next
  is-next = λ i. record {
    image = left.image i;
    lent = record {
      window = (left.back i).window;
      beats = drop (2 * left.taken i) x.lent.beats;
      out = out-next i;
      ledger = (left.back i).ledger;
      used = left.used i;
    };
    budget = b;
    report = report;
  }

  passed : Passed (ran s).steps (world s) v
  passed = (run-tells x.budget (world s)).passed

  took-le : took ≤ length x.lent.beats / 2
  took-le = omega (arith, length-beats x.lent.beats)

  -- what serves the first is a machine that keeps the rules, its window, and no fewer records than are used
  good : (keeps s.machine ≡ true) × (length x.lent.window ≡ s.machine.core.window.length) × (x.lent.used ≤ length x.lent.ledger / 12)
  unfolding served_of
  good = serves-good (keeps s.machine) s.machine x.lent s.served

  records-fit : 12 * x.lent.used + length (ledger_bytes v.records) ≤ length x.lent.ledger
  records-fit = omega (arith, length-ledger v.records, records-left s, (capacity-le (length x.lent.ledger)).0, good.2)

  length-next : length next.lent.ledger ≡ length x.lent.ledger
  length-next = length-put x.lent.ledger (12 * x.lent.used) (ledger_bytes v.records) records-fit

  same-ledger : is_ledger (length next.lent.ledger) next.lent.used ≡ is_ledger (length x.lent.ledger) x.lent.used
  same-ledger =
      let fits : next.lent.used ≤ length x.lent.ledger / 12 = omega (arith, length-ledger v.records, records-fit) in
      rw (length-next, le-leb next.lent.used (length x.lent.ledger / 12) fits, le-leb x.lent.used (length x.lent.ledger / 12) good.2)

  met_next : Met (machine_in v)
  met_next = met-after s first p g.window g.beats

  serves-next : served_by next (machine_in v) ≡ serves
  serves-next =
      serves-as x.lent next.lent s.machine (machine_in v) (met-keeps _ met_next) good.0 (even-from took x.lent.beats took-le)
      (even-from (length v.output) x.lent.out (omega (arith, room-left s))) same-ledger passed.memory (ap (λ (w : Window). w.length) passed.window)
      ∙ s.served

  abbrev accepted-next : Accepted next
  accepted-next =
      record { machine = machine_in v; size = length-image (fields_of v.core) (tail_of (machine_in v)); report_size = size; loads = loads-as met_next; served = serves-next }

  -- it opens the world where the first stopped, but for what was made before
  opens : v ≡ behind v.output v.records (world accepted-next)
  opens =
      let input = run-input x.budget (world s) ∙ sym (beats-from took x.lent.beats) in
      let room : v.room ≡ length next.lent.out / 2 = simp length-drop (omega (arith, room-left s)) in
      let left : v.left ≡ capacity (length next.lent.ledger) - next.lent.used = rw length-next (omega (arith, records-left s)) in
      let output = sym (append-nil v.output) in
      let records = sym (append-nil v.records) in
      let slot = sym (ap (λ (m : Machine). m.slot) (opened-same (machine_in v) (met-keeps _ met_next) (met-sound met_next).typed)) in
      λ i. noted (laid (holding (world accepted-next) (slot i)) v.core v.memory (input i) (output i) (room i)) (records i) (left i)

  -- so the one run makes what the second does, behind that
  one-run : run (x.budget + b) (world s) ≡ on_top (ran s).steps (report_behind v.output v.records (ran accepted-next))
  one-run =
      run-add x.budget b (world s) ∙ ap (λ (w : World). on_top (ran s).steps (run b w)) opens
      ∙ ap (on_top (ran s).steps) (run-behind v.output v.records b (world accepted-next))

  taken-both : taken_since (world s) (ran accepted-next).world ≡ took + taken_since (world accepted-next) (ran accepted-next).world
  taken-both =
      let between : length (world accepted-next).input ≡ length v.input = ap (λ (w : World). length w.input) (sym opens) in
      omega (arith, input-le x.budget (world s), input-le b (world accepted-next))

-- ---- the theorem

-- with another budget the same is accepted
abbrev accepted_with : {x : RunLent} → Accepted x → (budget : ℕ) → Accepted (lent_with x budget)
accepted_with s budget = record { machine = s.machine; size = s.size; report_size = s.report_size; loads = s.loads; served = s.served }

pub two-runs-add : TwoRunsAdd
two-runs-add x b report first second one g bits size p n q o =
    let s = was-accepted x first p n in
    let next = accepted-next s g first p b report size in
    let v = (ran s).world in
    let u = (ran next).world in
    let made = one-run s g first p b report size in
    let before = left s g first p b report size in
    let after = left_by next second (subst (λ (z : RunLent). Promised z second) (is-next s g first p b report size) q) (used-bits s g.used) (omega arith) in
    let all = left_by (accepted_with s (x.budget + b)) one o g.used bits in
    record {
      second_done = after.number;
      one_done = all.number;
      image = all.image ∙ ap (λ (r : Report). image_of (machine_in r.world)) made ∙ sym after.image;
      window = (λ i. (all.back i).window) ∙ ap (λ (r : Report). r.world.memory) made ∙ (λ i. (sym after.back i).window);
      ledger = (λ i. (all.back i).ledger) ∙ ap (λ (r : Report). ledger_over r.world x.lent.ledger x.lent.used) made
          ∙ ledger-join x.lent.ledger x.lent.used v.records u.records (records-fit s g first p b report size)
          ∙ (λ i. (sym after.back i).ledger);
      out = (λ i. (all.back i).out) ∙ ap (λ (r : Report). output_over r.world x.lent.out) made ∙ out-join v.output u.output x.lent.out
          ∙ sym (ap₂ ◌++◌ (made-first s g first p b report size) (λ i. (after.back i).out));
      reason = all.reason ∙ ap (λ (r : Report). number_of MostFirst (bytes_of MostFirst 2 (reason_number r.reason))) made ∙ sym after.reason;
      steps = all.steps ∙ ap (λ (r : Report). r.steps) made ∙ sym (ap₂ ◌+◌ before.steps after.steps);
      taken = all.taken ∙ ap (λ (r : Report). taken_since (world s) r.world) made ∙ taken-both s g first p b report size
          ∙ sym (ap₂ ◌+◌ before.taken after.taken);
      made = all.made ∙ ap (λ (r : Report). length r.world.output) made ∙ length-append v.output u.output
          ∙ sym (ap₂ ◌+◌ before.made after.made);
      used = all.used ∙ ap (λ (r : Report). x.lent.used + length r.world.records) made
          ∙ ap (λ (k : ℕ). x.lent.used + k) (length-append v.records u.records)
          ∙ sym (add_assoc x.lent.used (length v.records) (length u.records)) ∙ sym after.used;
    }
