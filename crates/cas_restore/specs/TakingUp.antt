-- The shelves of all members, which are taken up as they were left.
use Rattle.std.specs.Prelude.{◌≡◌, ◌≤◌, ℕ, true, List, Some, Ok, Err, slice_get}
use Rattle.cas_base.specs.Faults.{Rose}
use Rattle.cas_ballot.specs.Members.{has_member}
use Rattle.cas_slot.specs.Contents.{Contents}
use Rattle.cas_slot.specs.Shelf.{Left}
use Rattle.cas_slot.specs.declared.fault.ShelfFault.TheVariants.{DiskFault, Foreign, Full}
use Rattle.cas_restore.specs.declared.members.RestoreFault.{RestoreFault}

-- the shelf is up, and holds what a crash might have left of it
pub record IsShelfTakenUp {S : Type 0} (tells : Type 0) (contents : S → Contents) (is_up : S → Type 0) (may_leave : S → Left → Type 0) (was now : S) : Type 0 where
  pub up : is_up now
  pub left : tells → may_leave was (Ok (contents now))

-- a crash leaves nothing that it might not have left before, and the count of faults did not fall
pub record LeavesNoMore {S : Type 0} (tells : Type 0) (may_leave : S → Left → Type 0) (fault_count : S → ℕ) (was now : S) : Type 0 where
  pub left : tells → (left : Left) → may_leave now left → may_leave was left
  pub never_falls : fault_count was ≤ fault_count now

-- Why a shelf was not taken up: what was left is none, and this is its first foreign byte; or its disk failed; or there was no memory.
pub record IsNotTakenUp {S : Type 0} (tells : Type 0) (may_leave : S → Left → Type 0) (fault_count : S → ℕ) (fault : RestoreFault) (was now : S) : Type 0 where
  pub foreign : (at : ℕ) → fault.fault ≡ Foreign at → tells → may_leave was (Err at)
  pub failed : fault.fault ≡ DiskFault → Rose (fault_count was) (fault_count now)
  pub not_full : fault.fault ≡ Full → ⊥

-- the shelf of one member was refused
pub record OneIsRefused {S : Type 0} (tells : Type 0) (may_leave : S → Left → Type 0) (fault_count : S → ℕ) (members : List ℕ) (fault : RestoreFault) (old new : List S) : Type 0 where
  pub member : has_member members fault.member ≡ true
  pub refused : (was now : S) → slice_get old fault.member ≡ Some was → slice_get new fault.member ≡ Some now → IsNotTakenUp tells may_leave fault_count fault was now
