-- The ledger's laws of the C calls: the image between two calls is that of a machine met in use, so the calls' session is one of its methods.
-- Assumes nothing.
use Rattle.bus.specs.Refusal.{answer_number}
use Rattle.std.specs.Prelude.{Option, Some, Result, Ok, Err}
use Prim.Native.Nat.{ℕ, ◌+◌, ◌^◌, ◌<◌}
use mathlib.Core.Path.{◌≡◌, refl, sym, ap, subst, ◌∙◌}
use mathlib.Core.Bool.{true}
use mathlib.Core.List.{List, [], ◌++◌}
use lib.ListN.{length}
use borrow.Author.Tests.{eq-eqb}
use Rattle.bus.proofs.Numbers.{refused-not-done}
use Rattle.bus.specs.declared.Window.{Window}
use Rattle.bus.specs.Window.{keeps_limits}
use Rattle.regs.specs.declared.Mode.TheVariants.{StreamToMemory}
use Rattle.ledger.specs.declared.Entry.{Entry}
use Rattle.image.specs.Promise.{sized}
use Rattle.machine.specs.declared.Machine.{Machine}
use Rattle.bus.specs.declared.Refusal.{Refusal}
use Rattle.machine.specs.State.{fresh}
use Rattle.machine.specs.Saved.{load_of}
use Rattle.machine.specs.Registers.{write_of}
use Rattle.machine.specs.Step.{machine_in}
use Rattle.machine.specs.Run.{run, world_of}
use Rattle.machine.proofs.Answers.{was-written}
use Rattle.met.specs.Met.{Met}
use Rattle.met.specs.Met as met
use Rattle.sums.specs.Sum.{abandoned, lost_in, Session}
use Rattle.sums.specs.Sum as sum
use Rattle.sums.specs.Records.{Records}
use Rattle.sums.proofs.Sessions.{session-adds}
use Rattle.sums.proofs.Marks.{one-record-each}
use Rattle.sgdma.specs.Calls.{image_of, if_done, Created, written_in, RegisterWritten, find_call, finding_over, RecordFound}
use Rattle.ledger.specs.Finding.{finding_in}
use Rattle.answers.specs.Answers.{finding_bytes}
use Rattle.chain.specs.Chain.{Given}
use Rattle.chain.specs.Modes.{shares_in}
use Rattle.chain.proofs.Lists.{all_map}
use Rattle.chain.proofs.Demand.{same-shares, premises, same-cost}
use Rattle.chain.proofs.Found.{each_in}
use Rattle.chain_calls.specs.InC.{RunLent, RunLeft, Promised, given_in}
use Rattle.chain_calls.specs.Told.{taken_told, used_told}
use Rattle.chain_calls.specs.Useless.{InBytes}
use Rattle.chain_calls.specs.Ledger.{OneEachInC, SessionInC, begins, written, ran}
use Rattle.chain_calls.specs.Theorems.{OneRecordEachInC, SessionAddsInC, AllFindable, EachFoundInC, EachFoundInEachMode}
use Rattle.chain_calls.proofs.OfCalls.{loads-as, written_over_lem}
use Rattle.chain_calls.proofs.InEachMode.{of-calls-in-each-mode}
use Rattle.chain_calls.proofs.Done as done
use Rattle.chain_calls.proofs.Images.{limits-kept}

-- bytes load as one machine
pub one-machine : (xs : List ℕ) {m n : Machine} → load_of xs ≡ Ok m → load_of xs ≡ Ok n → m ≡ n
one-machine xs {m} {n} e f = let same : Ok m ≡ Ok n = sym e ∙ f in cc

-- ---- one call

pub one-record-each-in-c : OneRecordEachInC
one-record-each-in-c m x y e g p n =
    let s = done.was-accepted x y p n in
    let left = done.left_by s y p g.used g.budget in
    let each = one-record-each s.machine x.lent x.budget _ y.back (done.makes s y p) in
    subst (λ (k : Machine). OneEachInC k x y) (one-machine x.image s.loads e)
    (record {
      made = each.made;
      records = subst (λ (n : ℕ). Records s.machine.run n (done.world s) (done.ran s).world each.made) (sym left.steps) each.records;
      ledger = each.ledger;
      used = left.used ∙ each.used;
    })

-- ---- calls one after the other

-- what stands behind them
record Behind (image before ledger : List ℕ) (used : ℕ) (rs : List Entry) (t l : ℕ) : Type 0 where
  machine : Machine
  met : Met machine
  image_is : image ≡ image_of machine
  session : Session machine before ledger used rs t l

loads-behind : {image before ledger : List ℕ} {used : ℕ} {rs : List Entry} {t l : ℕ} → (b : Behind image before ledger used rs t l)
    → load_of image ≡ Ok b.machine
loads-behind b = ap load_of b.image_is ∙ loads-as b.met

created-behind : {xs ys : List ℕ} {base length : ℕ} (ledger : List ℕ) → Created xs 2 base length 0 ys → Behind ys ledger ledger 0 [] 0 0
created-behind {xs} {base = base} {length} ledger c =
    let w : Window = record { base = base; length = length } in
    record {
      machine = fresh StreamToMemory w;
      met = met.fresh StreamToMemory w (limits-kept (sized xs) true (keeps_limits base length) c.number);
      image_is = c.image_after ∙ ap (λ (n : ℕ). if_done n (image_of (fresh StreamToMemory w)) xs) (sym c.number);
      session = sum.begins w ledger;
    }

module _ {xs ys before ledger : List ℕ} {rs : List Entry} {used t l offset v : ℕ} (b : Behind xs before ledger used rs t l)
    (bits : v < 2 ^ 32) (w : RegisterWritten xs offset v 0 ys) where
  written_behind : (a : Result Machine Refusal) → write_of b.machine offset v ≡ a
      → Behind ys before ledger used rs t (l + abandoned b.machine offset v)
  written_behind (Ok n) e =
      record {
        machine = n;
        met = met.written b.met bits (was-written (sym e));
        image_is = (written_over_lem (loads-behind b) e w).1;
        session = sum.written b.session (was-written (sym e));
      }
  written_behind (Err why) e =
      let a : written_in (load_of xs) offset v ≡ Err why = ap (λ (x : Result Machine Refusal). written_in x offset v) (loads-behind b) ∙ e in
      absurd (refused-not-done why (sym (w.number ∙ ap answer_number a)))

-- after a run of the machine m
abbrev BehindRun : RunLent → RunLeft → (before : List ℕ) → List Entry → (t l : ℕ) → Machine → Type 0
BehindRun x y before rs t l m =
    Behind y.image before y.back.ledger (used_told y.report) (rs ++ (run x.budget (world_of m x.lent)).world.records)
    (t + taken_told y.report) (l + lost_in x.budget (world_of m x.lent))

module _ {x : RunLent} {y : RunLeft} {before : List ℕ} {rs : List Entry} {t l : ℕ}
    (b : Behind x.image before x.lent.ledger x.lent.used rs t l) (g : InBytes x) (p : Promised x y) (n : y.number ≡ 0) where
  s : done.Accepted x
  s = done.was-accepted x y p n

  same : s.machine ≡ b.machine
  same = one-machine x.image s.loads (loads-behind b)

  abbrev After : (used took : ℕ) → Type 0
  After used took =
      Session (machine_in (done.ran s).world) before y.back.ledger used (rs ++ (done.ran s).world.records) (t + took)
      (l + lost_in x.budget (done.world s))

  after : After (done.told s).used (done.told s).taken
  after = sum.ran (subst (λ (m : Machine). Session m before x.lent.ledger x.lent.used rs t l) (sym same) b.session) (done.makes s y p)

  ran-behind : BehindRun x y before rs t l b.machine
  ran-behind =
      let left = done.left_by s y p g.used g.budget in
      subst (BehindRun x y before rs t l) same
      (record {
        machine = machine_in (done.ran s).world;
        met = done.met-after s y p g.window g.beats;
        image_is = left.image;
        session = subst (After _) (sym left.taken) (subst (λ (used : ℕ). After used (done.told s).taken) (sym left.used) after);
      })

behind : {image before ledger : List ℕ} {used : ℕ} {rs : List Entry} {t l : ℕ} → SessionInC image before ledger used rs t l
    → Behind image before ledger used rs t l
behind (begins ledger c) = created-behind ledger c
behind (written {xs = xs} {ys = ys} {before = before} {ledger = ledger} {rs = rs} {used = used} {t = t} {l = l} {offset = offset} {v = v} s e bits w) =
    let b = behind s in
    subst (λ (m : Machine). Behind ys before ledger used rs t (l + abandoned m offset v)) (one-machine xs (loads-behind b) e)
    (written_behind b bits w _ refl)
behind (ran {x = x} {y = y} {before = before} {rs = rs} {t = t} {l = l} s e g p n) =
    let b = behind s in
    subst (BehindRun x y before rs t l) (one-machine x.image (loads-behind b) e) (ran-behind b g p n)

pub session-adds-in-c : SessionAddsInC
session-adds-in-c image before ledger used rs t l s =
    let b = behind s in
    record { machine = b.machine; loads = loads-behind b; adds = session-adds b.machine before ledger used rs t l b.session }

-- ---- demand 3's descriptors in the ledger

-- a descriptor that is found, by the call
found-by-call : (ledger : List ℕ) (used run address count : ℕ) (answer : List ℕ) → length answer ≡ 4
    → finding_in ledger used run address ≡ Ok (Some count)
    → (r : ℕ) (answer' : List ℕ) → RecordFound ledger used run address answer r answer' → (r ≡ 0) × (answer' ≡ finding_bytes true count)
unfolding find_call
found-by-call ledger used run address count answer size e r answer' f =
    let call : find_call ledger used run address answer ≡ Ok (Some count) = rw (eq-eqb (length answer) 4 size) e in
    (f.number ∙ ap (answer_number {A = Option ℕ}) call, f.answer_after ∙ ap (λ (x : Result (Option ℕ) Refusal). finding_over x answer) call)

pub each-found-in-each-mode : EachFoundInEachMode
each-found-in-each-mode mode l created pointed started left k c w h n answer size =
    let found = of-calls-in-each-mode mode l created pointed started left k c w h n in
    all_map (λ s e. found-by-call left.back.ledger (l.lent.used + k) 1 s.link.at s.count answer size e) (shares_in mode (given_in l k))
    (each_in mode l.window l.pointer l.control l.lent k h w.limits w.is_ledger w.beat_bytes found.ledger)

pub each-found-in-c : EachFoundInC
each-found-in-c l created pointed started left k c w h n =
    let g : Given = given_in l k in
    subst (AllFindable l left k) (same-shares g)
    (each-found-in-each-mode StreamToMemory l created pointed started left k c w (premises g h) (same-cost g n))
