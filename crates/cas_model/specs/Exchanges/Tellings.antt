-- What an operator's call is told while it is open, and what the record bears of it.
use Rattle.std.specs.Prelude.{◌≡◌, ◌≤◌, ⊤, true, List, length, Option, None, Some, IfSome, Contains}
use Rattle.cas_record.specs.Answers.{is_told}
use Rattle.cas_record.specs.declared.answer.Answer.TheVariants as answer
use Rattle.cas_record.specs.declared.mark.Mark.{Mark}
use Rattle.cas_record.specs.declared.mark.Mark.TheVariants.{Told}
use Rattle.cas_record.specs.declared.operator.Asked.{Asked}
use Rattle.cas_record.specs.declared.operator.OpAnswer.{OpAnswer}
use Rattle.cas_record.specs.declared.operator.OpAnswer.TheVariants as told
use Rattle.cas_model.specs.Calls.Step.{most_marks}
use Rattle.cas_model.specs.Council.{OrderView}
use Rattle.cas_model.specs.View.{View}

-- it does not tell that a change that is done stopped the call
abbrev pub StopsUndone : OpAnswer → Type 0
StopsUndone (told.Stopped (answer.Done state took ballot)) = ⊥
StopsUndone other = ⊤

-- it does not tell that a change of membership or a collection is at its end
abbrev pub IsPassing : OpAnswer → Type 0
IsPassing (told.Joined id era rescanned) = ⊥
IsPassing (told.Left id era rescanned) = ⊥
IsPassing (told.Resized need_prep need_acc era rescanned) = ⊥
IsPassing (told.Collected key ballot removed kept) = ⊥
IsPassing other = ⊤

-- what the open call was told last, if it was told anything, says so
abbrev pub WasToldSo : (OpAnswer → Type 0) → Option OrderView → Type 0
WasToldSo Says None = ⊤
WasToldSo Says (Some order) = IfSome order.told Says

-- each answer to the operator that is marked is one that a record bears
abbrev pub AreToldAnswers : List Mark → Type 0
AreToldAnswers marks = (asked : Asked) (answer : OpAnswer) → Contains marks (Told asked answer) → is_told answer ≡ true

-- a text can have all of these marks
pub record AreWritable (marks : List Mark) : Type 0 where
  pub few : length marks ≤ most_marks
  pub told : AreToldAnswers marks

-- ---- in the cluster
pub record AreTellingsSafe {S V : Type 0} (view : View S V) : Type 0 where
  pub marked : AreToldAnswers view.marks
  pub last : WasToldSo StopsUndone view.council.order
