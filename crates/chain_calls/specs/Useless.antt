-- The paper's useless models, and one more, as models of sgdma_run. That none of them keeps the promise of sgdma_run is `refuser-fails`,
-- `fixed-fails`, `never-moving-fails`, `marker-fails`, `made-up-fails` and `unrecorded-fails`; that it can be kept is `honest-keeps`.
-- Assumes nothing.
use Rattle.bus.specs.Refusal.{answer_number}
use Rattle.std.specs.Prelude.{ℕ, ◌+◌, ◌^◌, ◌<◌, ◌≡◌, ◌≢◌, cond, ◌&&◌, List, length, get_or, take, Ok}
use Rattle.words.specs.Slices.{AllBytes}
use Rattle.image.specs.Promise.{sized}
use Rattle.machine.specs.declared.Machine.{Machine}
use Rattle.machine.specs.Saved.{load_of}
use Rattle.machine.specs.Run.{Report, run, as_lent, serves, served_of, world_of}
use Rattle.links.specs.Form.{All}
use Rattle.chain.specs.Chain.{machine_for, links, Share, shares, Sent, sent_by_all, Premises}
use Rattle.sgdma.specs.Calls.{image_of, is_size, run_call, ran_over, report_over, returned_in}
use Rattle.chain_calls.specs.InC.{RunLent, RunLeft, Promised, Lends, WellLent, given_in, run_lent}
use Rattle.chain_calls.specs.Told.{steps_told, used_told}

-- a model: what it leaves of whatever it is lent
abbrev pub Model : Type 0
Model = RunLent → RunLeft

-- what a caller in C can lend
pub record InBytes (x : RunLent) : Type 0 where
  pub image : AllBytes x.image
  pub window : AllBytes x.lent.window
  pub beats : AllBytes x.lent.beats
  pub out : AllBytes x.lent.out
  pub ledger : AllBytes x.lent.ledger
  pub used : x.lent.used < 2 ^ 32
  pub budget : x.budget < 2 ^ 32
  pub report : AllBytes x.report

-- the model keeps the promise of sgdma_run
abbrev pub Keeps : Model → Type 0
Keeps f = (x : RunLent) → InBytes x → Promised x (f x)

-- the one that does what the promise says, and so keeps it
abbrev pub honest : Model
honest x =
    let answer = run_call x.image x.lent x.budget x.report in
    record {
      number = answer_number answer;
      image = ran_over answer x.image;
      back = cond (sized x.image && is_size 18 x.report) (returned_in (load_of x.image) x.lent x.budget) (as_lent x.lent);
      report = report_over answer x.report;
    }

-- ---- "the one that refuses everything"

abbrev pub RefusesEverything : Model → Type 0
RefusesEverything f = (x : RunLent) → (f x).number ≢ 0

-- ---- "the one with one fixed answer"

-- two calls that are not refused tell the same report, whatever they are lent
abbrev pub OneFixedAnswer : Model → Type 0
OneFixedAnswer f = (x y : RunLent) → (f x).number ≡ 0 → (f y).number ≡ 0 → (f x).report ≡ (f y).report

-- ---- "the one that never moves"

abbrev pub NeverMoves : Model → Type 0
NeverMoves f = (x : RunLent) → (f x).back.window ≡ x.lent.window

-- ---- "the one that does the first descriptor honestly and only marks the others"

-- the bytes that are sent by the first descriptor
abbrev pub sent_by_first : List Share → List Sent
sent_by_first ss = sent_by_all (take 1 ss)

-- whatever it makes of the places where these land and of every descriptor's last four bytes: no other byte of the window differs
abbrev pub OnlyMarksTheOthers : Model → Type 0
OnlyMarksTheOthers f = (l : Lends) (k : ℕ) → WellLent l → Premises (given_in l k) → (place : ℕ)
    → All (λ s. s.to ≢ l.window.base + place) (sent_by_first (shares (given_in l k)))
    → All (λ d. (j : ℕ) → j < 4 → l.window.base + place ≢ d.at + (28 + j)) (links (given_in l k))
    → get_or (f (run_lent l (image_of (machine_for (given_in l k))))).back.window place 0 ≡ get_or l.lent.window place 0

-- ---- two that are found out by one run

-- a call of sgdma_run that is not refused, by what it is lent
pub record NotRefused (x : RunLent) : Type 0 where
  pub bytes : InBytes x
  pub machine : Machine
  pub loads : load_of x.image ≡ Ok machine
  pub report_size : length x.report ≡ 18
  pub served : served_of machine x.lent ≡ serves

-- the run that its machine makes
abbrev pub run_of : (x : RunLent) → Machine → Report
run_of x m = run x.budget (world_of m x.lent)

-- "A made-up step count": of some run it tells another number than that of the applications of the step rule
pub record MakesUpSteps (f : Model) : Type 0 where
  pub given : RunLent
  pub done : NotRefused given
  pub made_up : steps_told (f given).report ≢ (run_of given done.machine).steps

-- the one that marks a descriptor done and writes no record: in some run a descriptor is written back, and no more records are used than before
pub record MarksUnrecorded (f : Model) : Type 0 where
  pub given : RunLent
  pub done : NotRefused given
  pub written_back : 0 < length (run_of given done.machine).world.records
  pub unrecorded : used_told (f given).report ≡ given.lent.used
