-- Why a store was not reopened.
use Rattle.std.specs.Prelude.{◌≡◌, ◌<◌, ⊤, ℕ, min, true, List, Some, Ok, Err, slice_get}
use Rattle.cas_base.specs.Faults.{Rose}
use Rattle.cas_ballot.specs.Members.{has_member}
use Rattle.cas_slot.specs.Contents.{Contents}
use Rattle.cas_slot.specs.Shelf.{Left}
use Rattle.cas_slot.specs.Slots.{Slots, slot_count}
use Rattle.cas_slot.specs.declared.fault.ShelfFault.{ShelfFault}
use Rattle.cas_slot.specs.declared.fault.ShelfFault.TheVariants as shelf
use Rattle.cas_restore.specs.declared.members.RestoreFault.{RestoreFault}
use Rattle.cas_survey.specs.Survey.{kept_on, AreFindings}
use Rattle.cas_reopen.specs.declared.fault.ReopenFault.{ReopenFault}
use Rattle.cas_reopen.specs.declared.fault.ReopenFault.TheVariants.{Foreign, TooManyKeys, LostDisk, Spent, DiskFault, NoMemory}
use Rattle.cas_reopen.specs.declared.lengths.FilledFault.{FilledFault}
use Rattle.cas_disk.specs.declared.disk.DiskFault.{DiskFault as AskingFault}
use Rattle.cas_disk.specs.declared.disk.DiskFault.TheVariants as asking
use Rattle.cas_world.specs.declared.fault.OpenFault.{OpenFault}
use Rattle.cas_world.specs.declared.fault.OpenFault.TheVariants as opening

-- what a fault of a member's shelf is to a store
abbrev pub fault_on : ℕ → ShelfFault → ReopenFault
fault_on disk (shelf.Foreign at) = Foreign disk at
fault_on disk shelf.DiskFault = DiskFault disk
fault_on disk other = NoMemory

abbrev pub fault_of_member : RestoreFault → ReopenFault
fault_of_member fault = fault_on fault.member fault.fault

-- what it is to a store that this disk gave no length
abbrev pub fault_without_length : ℕ → AskingFault → ReopenFault
fault_without_length disk asking.Failed = DiskFault disk
fault_without_length disk asking.NoMemory = NoMemory

abbrev pub fault_of_asking : FilledFault → ReopenFault
fault_of_asking fault = fault_without_length fault.disk fault.fault

-- and that a world was not opened
abbrev pub fault_of_opening : OpenFault → ReopenFault
fault_of_opening (opening.DiskFault disk) = DiskFault disk
fault_of_opening (opening.Foreign disk at) = Foreign disk at
fault_of_opening (opening.Spent disk) = Spent disk
fault_of_opening opening.NoMemory = NoMemory

-- the count of faults of that member's shelf rose
abbrev pub MemberFailed : {S : Type 0} → (S → ℕ) → List ℕ → List S → List S → ℕ → Type 0
MemberFailed {S} fault_count members old new disk = (has_member members disk ≡ true)
    × ((was now : S) → slice_get old disk ≡ Some was → slice_get new disk ≡ Some now → Rose (fault_count was) (fault_count now))

-- What members hold together is of this many keys, and these are more than one shelf takes; the greatest `u32` stands for all above it.
pub record AreTooMany (members : List ℕ) (left : ℕ → Contents) (keys : ℕ) : Type 0 where
  pub slots : Slots
  pub found : AreFindings members left slots
  pub count : keys ≡ min (slot_count slots) 4294967295
  pub many : 4096 < slot_count slots

-- Why shelves that are up were not settled. None of them is foreign.
abbrev pub IsWhyNotSettled : {S : Type 0} → (S → Contents) → (S → ℕ) → List ℕ → List S → List S → ReopenFault → Type 0
IsWhyNotSettled {S} contents fault_count members old new (Foreign disk at) = (has_member members disk ≡ true) × ((was now : S) → slice_get old disk ≡ Some was → slice_get new disk ≡ Some now → ⊥)
IsWhyNotSettled contents fault_count members old new (TooManyKeys keys) = AreTooMany members (kept_on contents old) keys
IsWhyNotSettled contents fault_count members old new (DiskFault disk) = MemberFailed fault_count members old new disk
IsWhyNotSettled contents fault_count members old new NoMemory = ⊤
IsWhyNotSettled contents fault_count members old new other = ⊥

-- each of these members may have left these contents
abbrev pub MayBeLeft : {S : Type 0} → (S → Left → Type 0) → List ℕ → List S → (ℕ → Contents) → Type 0
MayBeLeft {S} may_leave members old left = (id : ℕ) (was : S) → has_member members id ≡ true → slice_get old id ≡ Some was → may_leave was (Ok (left id))

-- why shelves were not restored
abbrev pub IsWhyNotRestored : {S : Type 0} → Type 0 → (S → Contents) → (S → Left → Type 0) → (S → ℕ) → List ℕ → List S → List S → ReopenFault → Type 0
IsWhyNotRestored {S} tells contents may_leave fault_count members old new (Foreign disk at) = (has_member members disk ≡ true) × ((was : S) → slice_get old disk ≡ Some was → tells → may_leave was (Err at))
IsWhyNotRestored {S} tells contents may_leave fault_count members old new (TooManyKeys keys) = (left : ℕ → Contents) × (tells → MayBeLeft may_leave members old left) × AreTooMany members left keys
IsWhyNotRestored tells contents may_leave fault_count members old new (DiskFault disk) = MemberFailed fault_count members old new disk
IsWhyNotRestored tells contents may_leave fault_count members old new NoMemory = ⊤
IsWhyNotRestored tells contents may_leave fault_count members old new other = ⊥
