-- What is claimed of the two tables: each claim's whole statement, under its name. A term of each stands in proofs/.
-- Assumes nothing.
use Rattle.std.specs.Prelude.{◌≡◌, []}
use Rattle.known_runs.specs.Scene.{wrong}
use Rattle.known_runs.specs.Known.{known}
use Rattle.known_runs.specs.Worked.{worked}

-- The eleven known runs of the paper: no scene of the table is wrong.
abbrev pub KnownRunsHold : Type 0
KnownRunsHold = wrong 1 known ≡ []

-- One hundred and forty-nine cases worked out by hand, from the paper, from what its sixth request says of the ledger and its fourth of
-- reading ahead: none is wrong.
abbrev pub WorkedCasesHold : Type 0
WorkedCasesHold = wrong 1 worked ≡ []
