-- What a crash leaves of a shelf, and why a call on one fails.
use Rattle.std.specs.Prelude.{◌≡◌, ◌⊎◌, ℕ, ◌≤◌, Result, Ok, IsErrOf}
use Rattle.cas_base.specs.Faults.{Rose}
use Rattle.cas_slot.specs.Contents.{Contents}
use Rattle.cas_slot.specs.declared.fault.ShelfFault.{ShelfFault}
use Rattle.cas_slot.specs.declared.fault.ShelfFault.TheVariants.{DiskFault, Full, Foreign}

-- What a crash leaves: a shelf with these contents, or something that is no shelf, with the place of the first byte that is not
-- as the format demands.
abbrev pub Left : Type 0
Left = Result Contents ℕ

-- a crash leaves a shelf with these contents and nothing else
abbrev pub OnlyLeaves : Contents → (Left → Type 0) → Type 0
OnlyLeaves contents may_leave = (left : Left) → may_leave left → left ≡ Ok contents

-- it is a shelf with the contents from before a change, or with those from after it
abbrev pub IsOldOrNew : Contents → Contents → Left → Type 0
IsOldOrNew old new left = (left ≡ Ok old) ⊎ (left ≡ Ok new)

-- A crash at any moment since old leaves what has P.
pub record ShelfLeavesOnly {S : Type 0} (moment : S → ℕ) (left_since : S → ℕ → Left → Type 0) (old new : S) (P : Left → Type 0) : Type 0 where
  pub later : moment old ≤ moment new
  pub each : (left : Left) → left_since new (moment old) left → P left

-- Nothing is pending after a crash: it left one of those that it might leave, and a further crash leaves just that again.
pub record NothingIsPending (might_leave may_leave : Left → Type 0) : Type 0 where
  pub left : Left
  pub was_possible : might_leave left
  pub nothing_else : (other : Left) → may_leave other → other ≡ left

-- the count of faults does not fall, and `DiskFault` comes only where it rose
pub record HasShelfCause {T : Type 0} (result : Result T ShelfFault) (old new : ℕ) : Type 0 where
  pub never_falls : old ≤ new
  pub failed : IsErrOf result DiskFault → Rose old new

-- there is always room, and what is there is a shelf
pub record IsNeitherFullNorForeign {T : Type 0} (result : Result T ShelfFault) : Type 0 where
  pub not_full : IsErrOf result Full → ⊥
  pub not_foreign : (at : ℕ) → IsErrOf result (Foreign at) → ⊥
