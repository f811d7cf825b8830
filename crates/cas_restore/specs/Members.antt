-- The shelves of all members, which are brought to given slots.
use Rattle.std.specs.Prelude.{◌≡◌, ◌≤◌, ◌⊎◌, ℕ, true, false, List, Some, length, slice_get}
use Rattle.cas_base.specs.Faults.{Rose}
use Rattle.cas_ballot.specs.Members.{has_member}
use Rattle.cas_slot.specs.Contents.{Contents}
use Rattle.cas_slot.specs.Shelf.{Left}
use Rattle.cas_slot.specs.Slots.{Slots}
use Rattle.cas_slot.specs.declared.fault.ShelfFault.TheVariants.{DiskFault, NoMemory}
use Rattle.cas_restore.specs.Restored.{MovesTowards}
use Rattle.cas_restore.specs.declared.members.RestoreFault.{RestoreFault}

-- The list has as many places as before. In the place of each member's shelf stands what it became, and all else is as before.
pub record MembersBecome {S : Type 0} (members : List ℕ) (Becomes : S → S → Type 0) (old new : List S) : Type 0 where
  pub places : length new ≡ length old
  pub others : (id : ℕ) → has_member members id ≡ false → slice_get new id ≡ slice_get old id
  pub each : (id : ℕ) (was now : S) → has_member members id ≡ true → slice_get old id ≡ Some was → slice_get new id ≡ Some now → Becomes was now

-- What a shelf holds and may leave is between what it held and these slots. One that held them is as it was, and no count of faults fell.
pub record GoesTowards {S : Type 0} (tells : Type 0) (contents : S → Contents) (may_leave : S → Left → Type 0) (fault_count : S → ℕ) (slots : Slots) (was now : S) : Type 0 where
  pub towards : MovesTowards tells contents may_leave slots was now
  pub untouched : (contents was).slots ≡ slots → now ≡ was
  pub never_falls : fault_count was ≤ fault_count now

-- The shelf of this member failed: its disk did, and its count of faults rose, or there was no memory, and then it is up still.
pub record FailsAt {S : Type 0} (is_up : S → Type 0) (fault_count : S → ℕ) (fault : RestoreFault) (was now : S) : Type 0 where
  pub cause : fault.fault ≡ DiskFault → Rose (fault_count was) (fault_count now)
  pub up : fault.fault ≡ NoMemory → is_up now
  pub nothing_else : (fault.fault ≡ DiskFault) ⊎ (fault.fault ≡ NoMemory)

-- The shelf of one member failed, and those of all others are up.
pub record OneMemberFails {S : Type 0} (is_up : S → Type 0) (fault_count : S → ℕ) (members : List ℕ) (fault : RestoreFault) (old new : List S) : Type 0 where
  pub member : has_member members fault.member ≡ true
  pub fails : (was now : S) → slice_get old fault.member ≡ Some was → slice_get new fault.member ≡ Some now → FailsAt is_up fault_count fault was now
  pub others : (id : ℕ) (now : S) → has_member members id ≡ true → (id ≡ fault.member → ⊥) → slice_get new id ≡ Some now → is_up now

-- In this place of a list what stood there became another, and all else is as before.
pub record ChangesAt {S : Type 0} (place : ℕ) (Becomes : S → S → Type 0) (old new : List S) : Type 0 where
  pub was : S
  pub now : S
  pub at : slice_get old place ≡ Some was
  pub new_at : slice_get new place ≡ Some now
  pub places : length new ≡ length old
  pub others : (id : ℕ) → (id ≡ place → ⊥) → slice_get new id ≡ slice_get old id
  pub becomes : Becomes was now
