-- The worked cases of specs/Rows hold.
-- Assumes nothing.
use mathlib.Core.Path.{refl}
use Rattle.words.specs.Slices.{number_at}
use Rattle.vic.specs.Rules.{lowest_broken}
use Rattle.vic.specs.Choice.{most_level, best_port}
use Rattle.vic.specs.Calls.{answer_of, choose_number, load_number}
use Rattle.vic.specs.Theorems.{CasesHold}

pub cases-hold : CasesHold
unfolding number_at lowest_broken most_level best_port answer_of choose_number load_number
cases-hold =
    record {
      tie_told = refl;
      larger_told = refl;
      disabled_told = refl;
      zero_told = refl;
      tie_number = refl;
      high_number = refl;
      highest_number = refl;
      highest_told = refl;
      size_number = refl;
      field_1 = refl;
      field_1_more = refl;
      field_2 = refl;
      field_5 = refl;
      field_6 = refl;
      field_7 = refl;
      field_8 = refl;
      field_12 = refl;
      field_39 = refl;
      field_none = refl;
    }
