-- Members' shelves that are started.
use Rattle.std.specs.Prelude.{◌≡◌, ◌≤◌, ℕ, true, List, Some, slice_get}
use Rattle.cas_base.specs.Faults.{Rose}
use Rattle.cas_ballot.specs.Members.{has_member}
use Rattle.cas_slot.specs.Contents.{Contents, nothing}
use Rattle.cas_slot.specs.declared.fault.ShelfFault.TheVariants.{DiskFault, Foreign, Full}
use Rattle.cas_restore.specs.declared.members.RestoreFault.{RestoreFault}

-- the shelf is up, and holds nothing
pub record HasBegun {S : Type 0} (contents : S → Contents) (is_up : S → Type 0) (was now : S) : Type 0 where
  pub up : is_up now
  pub holds : contents now ≡ nothing

-- its count of faults did not fall
abbrev pub CountsFaults : {S : Type 0} → (S → ℕ) → S → S → Type 0
CountsFaults fault_count was now = fault_count was ≤ fault_count now

-- its disk failed, or there was no memory
pub record HasNotBegun {S : Type 0} (fault_count : S → ℕ) (fault : RestoreFault) (was now : S) : Type 0 where
  pub failed : fault.fault ≡ DiskFault → Rose (fault_count was) (fault_count now)
  pub not_foreign : (at : ℕ) → fault.fault ≡ Foreign at → ⊥

-- the shelf of one member did not start
pub record OneDoesNotBegin {S : Type 0} (fault_count : S → ℕ) (members : List ℕ) (fault : RestoreFault) (old new : List S) : Type 0 where
  pub member : has_member members fault.member ≡ true
  pub begins : (was now : S) → slice_get old fault.member ≡ Some was → slice_get new fault.member ≡ Some now → HasNotBegun fault_count fault was now
