-- What a reopened store goes on from, and why nothing that was settled is lost.
use Rattle.std.specs.Prelude.{◌≡◌, ◌≤◌, ℕ, true, List, reverse, Contains}
use Rattle.cas_ballot.specs.Members.{has_member}
use Rattle.cas_change.specs.declared.state.State.TheVariants.{Empty}
use Rattle.cas_slot.specs.Contents.{Contents}
use Rattle.cas_slot.specs.Slots.{Slots}
use Rattle.cas_record.specs.declared.mark.Mark.{Mark}
use Rattle.cas_record.specs.Histories.Chain.{chain_of, settled_of}
use Rattle.cas_record.specs.Histories.Replay.{replay_from, opening_state}
use Rattle.cas_record.specs.Places.{IsPrefix}
use Rattle.cas_disk_shelf.specs.declared.shelf.DiskShelf.{DiskShelf}
use Rattle.cas_model.specs.Openings.{Opening}
use Rattle.cas_model.specs.View.{View, era_at}
use Rattle.cas_model_stops.specs.Stopped.{HasPrepareQuorum, HoldSettled}
use Rattle.cas_store.specs.Kept.{AreHeld, AreOnDisks}
use Rattle.cas_survey.specs.Survey.{AreFindings}
use Rattle.cas_restore.specs.Restored.{IsBetween}
use Rattle.cas_reopen.specs.Floors.{AreFloorsOf}

-- The floors are those of what these members hold: for each key the state of the greatest ballot that one of them accepted.
pub record AreFloorsFound (members : List ℕ) (left : ℕ → Contents) (floors : List Opening) : Type 0 where
  pub slots : Slots
  pub found : AreFindings members left slots
  pub listed : AreFloorsOf slots floors

-- What is settled of a key in a record stands at these floors: the history of the floor's ballot begins with it, and the floor's state is the
-- one that this history leaves. Where there is no floor of the key, what is settled leaves the register empty.
pub record StandsAtFloors (marks : List Mark) (floors : List Opening) (key : List ℕ) : Type 0 where
  pub floor : (floor : Opening) → Contains floors floor → floor.key ≡ key
      → IsPrefix (settled_of key marks) (chain_of key floor.ballot marks) × (floor.state ≡ replay_from (opening_state key marks) (chain_of key floor.ballot marks))
  pub none : ((floor : Opening) → Contains floors floor → floor.key ≡ key → ⊥) → replay_from (opening_state key marks) (settled_of key marks) ≡ Empty

-- What each of these members holds is between what it held and the floors of that.
pub record AreBetween (members : List ℕ) (old new : ℕ → Contents) : Type 0 where
  pub slots : Slots
  pub found : AreFindings members old slots
  pub each : (id : ℕ) → has_member members id ≡ true → IsBetween (old id) slots (new id)

-- A store was closed over these disks. A prepare quorum of an era in which a proposer worked is among these members. What a crash left of their
-- disks has these floors.
pub record GoesOnFrom {D : Type 0} (may_leave : D → List ℕ → Type 0) (world : View (DiskShelf D) D) (disks : List D) (members : List ℕ) (floors : List Opening) : Type 0 where
  pub proposer : ℕ
  pub works : proposer ≤ world.last_proposer
  pub quorum : HasPrepareQuorum (era_at world proposer) members
  pub left : ℕ → Contents
  pub on_disks : AreOnDisks may_leave world disks members left
  pub found : AreFloorsFound members left floors

-- What was settled when a store was closed stands at the floors of what its disks hold.
abbrev pub ClosedStoresGoOn : {D : Type 0} → (D → List ℕ → Type 0) → Type 0
ClosedStoresGoOn {D} may_leave = (world : View (DiskShelf D) D) (disks : List D) (members : List ℕ) (floors : List Opening) (key : List ℕ) → AreHeld may_leave world disks
    → GoesOnFrom may_leave world disks members floors → StandsAtFloors (reverse world.marks) floors key

-- Members that hold what is settled have it at their floors.
abbrev pub SettledStandsAtFloors : Type 0
SettledStandsAtFloors = (marks : List Mark) (members : List ℕ) (left : ℕ → Contents) (floors : List Opening) (key : List ℕ) → AreFloorsFound members left floors → HoldSettled marks members left key → StandsAtFloors marks floors key

-- They hold it still, wherever giving each of them the floors stops.
abbrev pub SettledIsHeldBetween : Type 0
SettledIsHeldBetween = (marks : List Mark) (members : List ℕ) (old new : ℕ → Contents) (key : List ℕ) → AreBetween members old new → HoldSettled marks members old key → HoldSettled marks members new key
