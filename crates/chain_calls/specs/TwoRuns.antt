-- What the header says of sgdma_run: "The next run is lent what this one left: the beats from the taken ones on, the room behind those
-- made, the ledger with the number of records now used. So two runs, with budgets a and b, do what one of a + b does." The theorem is
-- `two-runs-add`.
-- Assumes nothing.
use Rattle.std.specs.Prelude.{ℕ, ◌+◌, ◌*◌, ◌≡◌, List, ◌++◌, take, drop}
use Rattle.chain_calls.specs.InC.{RunLent, RunLeft}
use Rattle.chain_calls.specs.Told.{reason_told, steps_told, taken_told, made_told, used_told}

-- ---- the runs

-- what the next run is lent after this one, with a budget and a report slice of its own: image, window and ledger as this one left them;
-- the beats, two bytes each, from the taken ones on; the output's bytes behind those made; the number of records now used
abbrev pub lent_next : RunLent → RunLeft → (budget : ℕ) (report : List ℕ) → RunLent
lent_next x left budget report =
    record {
      image = left.image;
      lent = record {
        window = left.back.window;
        beats = drop (2 * taken_told left.report) x.lent.beats;
        out = drop (2 * made_told left.report) left.back.out;
        ledger = left.back.ledger;
        used = used_told left.report;
      };
      budget = budget;
      report = report;
    }

-- the same is lent with another budget
abbrev pub lent_with : RunLent → (budget : ℕ) → RunLent
lent_with x budget = record { image = x.image; lent = x.lent; budget = budget; report = x.report }

-- what is left after the two, and after the one
pub record DoTheSame (first second one : RunLeft) : Type 0 where
  -- neither is refused
  pub second_done : second.number ≡ 0
  pub one_done : one.number ≡ 0
  -- image, window and ledger are the same
  pub image : one.image ≡ second.image
  pub window : one.back.window ≡ second.back.window
  pub ledger : one.back.ledger ≡ second.back.ledger
  -- the output too: the beats that the first made, and behind them what the second left of the room
  pub out : one.back.out ≡ take (2 * made_told first.report) first.back.out ++ second.back.out
  -- the report tells the reason and the records used that the second's tells, and the steps and beats of both
  pub reason : reason_told one.report ≡ reason_told second.report
  pub steps : steps_told one.report ≡ steps_told first.report + steps_told second.report
  pub taken : taken_told one.report ≡ taken_told first.report + taken_told second.report
  pub made : made_told one.report ≡ made_told first.report + made_told second.report
  pub used : used_told one.report ≡ used_told second.report
