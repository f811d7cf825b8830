-- What a call of the operator does on a board, as caller 0's pass tells.
use Rattle.std.specs.Prelude.{◌≡◌, ◌≤◌, ⊤, ℕ, ◌+◌, List, [], length, ◌++◌, All}
use Rattle.cas_record.specs.declared.answer.Answer.{Answer}
use Rattle.cas_record.specs.declared.mark.Mark.{Mark}
use Rattle.cas_record.specs.declared.operator.Asked.{Asked}
use Rattle.cas_record.specs.declared.operator.OpAnswer.{OpAnswer}
use Rattle.cas_record.specs.declared.operator.OpAnswer.TheVariants.{Probed, Stopped}
use Rattle.cas_model_causes.specs.Exchanges.Answering.{silent_in}
use Rattle.cas_model.specs.Exchanges.Step.{told_marks}
use Rattle.cas_turn.specs.Sitting.{Sitting}
use Rattle.cas_board_steps.specs.Eras.Counting.{count_told, EntersEras, HasRisen, LeavesNone}
use Rattle.cas_board_steps.specs.Calls.Changes.{IsRefusalBehind}
use Rattle.cas_board_steps.specs.Mine.{mine, losses, done_calls, FrontGoesOn}
use Rattle.cas_board_steps.specs.Calls.Open.{NothingIsOpen, rescanned_in}
use Rattle.cas_board_steps.specs.Exchanges.Orders.{HasHarms}
use Rattle.cas_board.specs.Changes.{IsCounted}

-- these are the last marks of the front
pub record AreLast (front marks : List Mark) : Type 0 where
  pub before : List Mark
  pub whole : before ++ marks ≡ front

module _ {V : Type 0} where
  -- ---- holds
  -- A change of membership has counted that many keys that it proposed anew by then: as many as the pass's own part told, and one for each
  -- call of caller 0 that was answered done since.
  abbrev pub HasCountedTo : ℕ → Sitting V Mark → Sitting V Mark → Type 0
  HasCountedTo count old new = HasRisen (rescanned_in old.own) (done_calls (mine old.number old.seen)) (done_calls (mine old.number new.seen)) count

  -- the count is told at the end of the change, and none is kept then; else it is kept
  abbrev pub HasToldCount : OpAnswer → Sitting V Mark → Sitting V Mark → Type 0
  HasToldCount answer old new = HasCountedTo (count_told answer (rescanned_in new.own)) old new × LeavesNone answer (rescanned_in new.own)

  -- The operator's call goes on with such marks of caller 0, of which at most so many tell of losses. What a change of membership has counted
  -- stays where no proposer enters an era on its way.
  pub record HasOperated (such : Mark → Type 0) (most : ℕ) (old new : Sitting V Mark) : Type 0 where
    pub marks : List Mark
    pub front : FrontGoesOn old.number old.seen new.seen marks
    pub all_such : All such marks
    pub few : losses marks ≤ most
    pub counts : EntersEras such → HasCountedTo (rescanned_in new.own) old new
    pub keeps : (EntersEras such → ⊥) → rescanned_in new.own ≡ rescanned_in old.own

  -- of those that a probe asks no more are harmed as it goes on than marks of caller 0 were made
  abbrev pub HasMarkedHarms : Sitting V Mark → Sitting V Mark → Type 0
  HasMarkedHarms old new = (harms : ℕ) → HasHarms harms old.own → (more : ℕ) × HasHarms more new.own × (more + length (mine 0 old.seen) ≤ harms + length (mine 0 new.seen))

  -- no more members told nothing than were harmed before, and marks of caller 0 were made since
  abbrev pub IsSilentSince : ℕ → Sitting V Mark → Sitting V Mark → OpAnswer → Type 0
  IsSilentSince harms old new (Probed key found) = silent_in found.probes.items + length (mine 0 old.seen) ≤ harms + length (mine 0 new.seen)
  IsSilentSince harms old new other = ⊤

  -- it has ended with this answer, which the front's last mark tells unless it is what a probe found
  pub record WasToldLast (asked : Asked) (such : Mark → Type 0) (most : ℕ) (old new : Sitting V Mark) (answer : OpAnswer) : Type 0 where
    pub marks : List Mark
    pub front : FrontGoesOn old.number old.seen new.seen (marks ++ told_marks asked answer)
    pub last : AreLast new.seen (told_marks asked answer)
    pub all_such : All such marks
    pub few : losses marks ≤ most
    pub is_free : NothingIsOpen new.own
    pub counts : EntersEras such → HasToldCount answer old new
    pub keeps : (EntersEras such → ⊥) → rescanned_in new.own ≡ rescanned_in old.own

  -- ---- a call of the operator
  -- It was begun, and caller 0's marks in it are such marks and then the one that tells the answer; what a probe found is not marked. Or
  -- it was not begun, and no mark of caller 0 is made.
  -- So many of them at most tell of frames that were lost or made late as the fate's count of harms rose by. A call for a change of membership
  -- counts what it proposes anew, and tells so at the end of the change.
  pub data Operates (asked : Asked) (such : Mark → Type 0) (harms harms_then : ℕ) (old new : Sitting V Mark) (answer : OpAnswer) : Type 0 where
    is_told : (marks : List Mark) → FrontGoesOn old.number old.seen new.seen (marks ++ told_marks asked answer) → AreLast new.seen (told_marks asked answer) → All such marks → IsCounted (losses marks) harms harms_then → (EntersEras such → HasToldCount answer old new) → Operates asked such harms harms_then old new answer
    is_not_begun : (why : Answer) → IsRefusalBehind (length new.seen) why → answer ≡ Stopped why → IsCounted 0 harms harms_then → FrontGoesOn old.number old.seen new.seen [] → (EntersEras such → rescanned_in new.own ≡ rescanned_in old.own) → Operates asked such harms harms_then old new answer
