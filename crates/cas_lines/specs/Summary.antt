-- How the lines of a load were answered, in numbers, and the line that tells it.
pub use Rattle.cas_record.specs.Answers.{is_conflict}
use Rattle.std.specs.Prelude.{ℕ, ◌+◌, Bool, true, false, not, ◌||◌, if◌then◌else◌, List, [], ◌∷◌, ◌++◌, length, codes, decimal}
use Rattle.cas_record.specs.declared.answer.Answer.{Answer}
use Rattle.cas_record.specs.declared.answer.Answer.TheVariants as answer
use Rattle.cas_lines.specs.declared.summary.Summary.{Summary}

-- ---- kinds of answers
-- the change was done
abbrev pub is_done : Answer → Bool
is_done (answer.Done state took ballot) = true
is_done other = false

-- it was proposed, and is not known to stand
abbrev pub is_unsettled : Answer → Bool
is_unsettled (answer.Unsettled why) = true
is_unsettled other = false

-- none of these
abbrev pub is_other : Answer → Bool
is_other answer = not (is_done answer || is_conflict answer || is_unsettled answer)

-- ---- the summary
-- how many answers are of a kind
abbrev pub count : (Answer → Bool) → List Answer → ℕ
count is [] = 0
count is (answer ∷ answers) = (if is answer then 1 else 0) + count is answers

abbrev pub summary_of : List Answer → Summary
summary_of answers = record {
  lines = length answers;
  done = count is_done answers;
  conflict = count is_conflict answers;
  unsettled = count is_unsettled answers;
  other = count is_other answers;
}

-- the line that tells it
abbrev pub summary_line : Summary → List ℕ
summary_line summary =
    codes "load lines " ++ decimal summary.lines ++ codes " done " ++ decimal summary.done ++ codes " conflict " ++ decimal summary.conflict
    ++ codes " unsettled " ++ decimal summary.unsettled ++ codes " other " ++ decimal summary.other ++ 10 ∷ []
