-- Which disks are not empty, as their lengths tell.
use Rattle.std.specs.Prelude.{◌≡◌, ◌≢◌, ◌<◌, ◌+◌, ℕ, ⊤, Bool, true, false, List, [], ◌++◌, length}
use Rattle.cas_base.specs.Faults.{Rose}
use Rattle.cas_ballot.specs.Members.{has_member}
use Rattle.cas_disk.specs.declared.disk.DiskFault.{DiskFault}
use Rattle.cas_disk.specs.declared.disk.DiskFault.TheVariants.{Failed}
use Rattle.cas_model.specs.View.{IsAt}
use Rattle.cas_reopen.specs.declared.lengths.FilledFault.{FilledFault}
use Rattle.cas_reopen.specs.declared.fault.ReopenFault.{ReopenFault}
use Rattle.cas_reopen.specs.declared.fault.ReopenFault.TheVariants as reopen
use Rattle.cas_store.specs.Rack.{RackMeaning, IsAskedForLength}
use Rattle.cas_store.specs.declared.rack.Rack.{Rack}

-- ---- one disk
-- it was asked for its length, and is not empty just where that was found
pub record IsFoundFilled {D : Type 0} (m : RackMeaning D) (found : Bool) (old new : D) : Type 0 where
  pub asked : IsAskedForLength m old new
  pub filled : m.tells → found ≡ true → m.seen new ≢ []
  pub empty : m.tells → found ≡ false → m.seen new ≡ []

-- it was asked and gave no length: it failed, and its count of faults rose, or there was no memory
pub record GivesNoLength {D : Type 0} (m : RackMeaning D) (fault : DiskFault) (old new : D) : Type 0 where
  pub asked : IsAskedForLength m old new
  pub cause : fault ≡ Failed → Rose (m.faults old) (m.faults new)

-- ---- all of them
-- each was asked, and those that are not empty are found
pub record AreFoundFilled {D : Type 0} (m : RackMeaning D) (found : List ℕ) (old new : List D) : Type 0 where
  pub places : length new ≡ length old
  pub each : (id : ℕ) (now : D) → IsAt new id now → (was : D) × IsAt old id was × IsFoundFilled m (has_member found id) was now

-- One gave no length. Those before it were asked, and those behind it are as before. They are numbered from there on.
pub record OneGivesNoLength {D : Type 0} (m : RackMeaning D) (first : ℕ) (fault : FilledFault) (old new : List D) : Type 0 where
  pub place : ℕ
  pub number : fault.disk ≡ first + place
  pub places : length new ≡ length old
  pub before : (id : ℕ) (now : D) → id < place → IsAt new id now → (was : D) × IsAt old id was × IsAskedForLength m was now
  pub was : D
  pub at_was : IsAt old place was
  pub now : D
  pub at_now : IsAt new place now
  pub why : GivesNoLength m fault.fault was now
  pub others : (id : ℕ) (disk : D) → place < id → IsAt new id disk → IsAt old id disk

-- ---- a rack
-- each disk was asked for its length at most
pub record AreAskedAtMost {D : Type 0} (m : RackMeaning D) (old new : List D) : Type 0 where
  pub places : length new ≡ length old
  pub each : (id : ℕ) (was now : D) → IsAt old id was → IsAt new id now → IsAskedForLength m was now

-- all disks of a rack were asked for their lengths, and those at these places are not empty
pub record AreLengthsOf {D : Type 0} (m : RackMeaning D) (acceptors vaults : List ℕ) (old new : Rack D) : Type 0 where
  pub of_acceptors : AreFoundFilled m acceptors old.acceptors.items new.acceptors.items
  pub of_vaults : AreFoundFilled m vaults old.vaults.items new.vaults.items

-- the disks of a rack, in the order of their numbers
abbrev pub disks_in : {D : Type 0} → Rack D → List D
disks_in rack = rack.acceptors.items ++ rack.vaults.items

-- the disk of this number failed: its count of faults rose
abbrev pub DiskFailed : {D : Type 0} → (D → ℕ) → ℕ → Rack D → Rack D → Type 0
DiskFailed {D} faults disk old new = (was now : D) × IsAt (disks_in old) disk was × IsAt (disks_in new) disk now × Rose (faults was) (faults now)

-- why it is not known which disks are empty
abbrev pub IsWhyUnknown : {D : Type 0} → (D → ℕ) → Rack D → Rack D → ReopenFault → Type 0
IsWhyUnknown faults old new (reopen.DiskFault disk) = DiskFailed faults disk old new
IsWhyUnknown faults old new reopen.NoMemory = ⊤
IsWhyUnknown faults old new other = ⊥

-- one disk of a rack gave no length, and no disk was reached but by its length
pub record RackGivesNoLength {D : Type 0} (m : RackMeaning D) (old new : Rack D) (fault : ReopenFault) : Type 0 where
  pub acceptors : AreAskedAtMost m old.acceptors.items new.acceptors.items
  pub vaults : AreAskedAtMost m old.vaults.items new.vaults.items
  pub why : IsWhyUnknown m.faults old new fault
