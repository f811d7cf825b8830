-- What one caller has seen of another's change.
use Rattle.std.specs.Prelude.{ℕ, List}
use Rattle.cas_record.specs.declared.answer.Answer.{Answer}
use Rattle.cas_record.specs.declared.mark.Mark.{Mark}
use Rattle.cas_record.specs.declared.mark.Mark.TheVariants.{Ended}
use Rattle.cas_turn.specs.Seen.{Begins}
use Rattle.cas_board_steps.specs.Calls.Changes.{IsRefusalBehind}
use Rattle.cas_board_steps.specs.Mine.{IsLast}

-- The front begins with the one that the caller of that number had seen as its change was answered so, and whose last mark tells that answer;
-- unless the change was not begun.
pub data HasHeardOf (number : ℕ) (told : Answer) (front : List Mark) : Type 0 where
  has_ended : (call rounds : ℕ) (heard : List Mark) → IsLast heard (Ended number call rounds told) → Begins heard front → HasHeardOf number told front
  not_begun : (made : ℕ) → IsRefusalBehind made told → HasHeardOf number told front
