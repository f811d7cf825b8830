-- The shelves of members that go on from what stood on them.
use Rattle.std.specs.Prelude.{◌≡◌, ◌≤◌, ◌^◌, ℕ, true, false, List, Some, length, slice_get}
use Rattle.cas_ballot.specs.Members.{has_member}
use Rattle.cas_slot.specs.Contents.{Contents}
use Rattle.cas_slot.specs.Shelf.{Left}
use Rattle.cas_slot.specs.Slots.{Slots}
use Rattle.cas_model.specs.Openings.{Opening, AreOpenings}
use Rattle.cas_survey.specs.Survey.{kept_on, AreFindings, IsGreatestCounter}
use Rattle.cas_restore.specs.Restored.{EachSlotFits, LeftBetween}
use Rattle.cas_world.specs.Openings.OpeningOn.{MembersHold}
use Rattle.cas_reopen.specs.Faults.{MayBeLeft}
use Rattle.cas_reopen.specs.Standing.{AreFloorsFound}

-- this was found on what these members hold, and it is within its limits
pub record AreFoundOn (members : List ℕ) (left : ℕ → Contents) (slots : Slots) (past : ℕ) : Type 0 where
  pub found : AreFindings members left slots
  pub counter : IsGreatestCounter members left past
  pub fits : EachSlotFits slots
  pub limit : past ≤ 2 ^ 48

-- What members hold, of which these are the floors and the greatest counter, stands on the shelf of each of them. No other shelf changed.
pub record AreGiven {S : Type 0} (is_up : S → Type 0) (contents : S → Contents) (members : List ℕ) (left : ℕ → Contents) (old new : List S) (floors : List Opening) (past : ℕ) : Type 0 where
  pub found : AreFloorsFound members left floors
  pub openings : AreOpenings floors
  pub few : length floors ≤ 4096
  pub counter : IsGreatestCounter members left past
  pub limit : past ≤ 2 ^ 48
  pub held : MembersHold is_up contents members floors new
  pub others : (id : ℕ) → has_member members id ≡ false → slice_get new id ≡ slice_get old id

-- the same of shelves that are up
abbrev pub AreSettled : {S : Type 0} → (S → Type 0) → (S → Contents) → List ℕ → List S → List S → List Opening → ℕ → Type 0
AreSettled is_up contents members old new floors past = AreGiven is_up contents members (kept_on contents old) old new floors past

-- the same of what a stop may have left of each member's shelf
pub record AreRestored {S : Type 0} (tells : Type 0) (is_up : S → Type 0) (contents : S → Contents) (may_leave : S → Left → Type 0) (members : List ℕ) (old new : List S) (floors : List Opening) (past : ℕ) : Type 0 where
  pub left : ℕ → Contents
  pub may_be : tells → MayBeLeft may_leave members old left
  pub given : AreGiven is_up contents members left old new floors past

-- what a crash may leave of each of these members' shelves is between what it held and the floors of that
pub record AreLeftBetween {S : Type 0} (may_leave : S → Left → Type 0) (members : List ℕ) (left : ℕ → Contents) (new : List S) : Type 0 where
  pub slots : Slots
  pub found : AreFindings members left slots
  pub each : (id : ℕ) (now : S) (l : Left) → has_member members id ≡ true → slice_get new id ≡ Some now → may_leave now l → LeftBetween (left id) slots l

-- a crash leaves nothing of them that it might not have left before
abbrev pub LeaveNoMore : {S : Type 0} → (S → Left → Type 0) → List ℕ → List S → List S → Type 0
LeaveNoMore {S} may_leave members old new = (id : ℕ) (was now : S) (l : Left) → has_member members id ≡ true → slice_get old id ≡ Some was → slice_get new id ≡ Some now → may_leave now l → may_leave was l

-- Wherever this stops, a crash leaves of members' shelves nothing that it might not have left before, or what is between that and its floors.
pub data StopsWithinGiving {S : Type 0} (may_leave : S → Left → Type 0) (members : List ℕ) (old new : List S) : Type 0 where
  before_giving : LeaveNoMore may_leave members old new → StopsWithinGiving may_leave members old new
  in_giving : (left : ℕ → Contents) → MayBeLeft may_leave members old left → AreLeftBetween may_leave members left new → StopsWithinGiving may_leave members old new

-- the same of shelves that are up
pub data StaysWithin {S : Type 0} (contents : S → Contents) (may_leave : S → Left → Type 0) (members : List ℕ) (old new : List S) : Type 0 where
  untouched : new ≡ old → StaysWithin contents may_leave members old new
  between : AreLeftBetween may_leave members (kept_on contents old) new → StaysWithin contents may_leave members old new
