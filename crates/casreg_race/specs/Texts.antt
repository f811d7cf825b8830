-- What a race writes. The marks of its record are read newest first.
use Rattle.std.specs.Prelude.{◌≡◌, ℕ, suc, List, [], ◌∷◌, ◌++◌}
use Rattle.std.specs.List.{flat_map}
use Rattle.cas_lines.specs.Answers.{change_line, op_line, read_line}
use Rattle.cas_record.specs.declared.mark.Mark.{Mark}
use Rattle.casreg_tasks.specs.Histories.{AreHistories}
use Rattle.casreg_race.specs.declared.told.Told.{Told}
use Rattle.casreg_race.specs.declared.told.Told.TheVariants as said

-- what a line of the caller was answered
abbrev pub told_line : ℕ → Told → List ℕ
told_line caller (said.Change answer) = change_line caller answer
told_line caller (said.Operator answer) = op_line answer
told_line caller (said.Read answer) = read_line answer

-- what the callers from that number on were answered, one caller after another
abbrev pub told_lines : ℕ → List (List Told) → List ℕ
told_lines n [] = []
told_lines n (answers ∷ later) = flat_map (told_line n) answers ++ told_lines (suc n) later

-- the answers to the bad lines; then each caller's answers, callers in rising order; then the histories
pub record IsRaceText (bad : List ℕ) (answers : List (List Told)) (marks : List Mark) (text : List ℕ) : Type 0 where
  pub histories : List ℕ
  pub are_histories : AreHistories marks histories
  pub is : text ≡ bad ++ told_lines 0 answers ++ histories
