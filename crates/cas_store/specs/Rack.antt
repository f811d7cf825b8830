-- What the lengths of disks tell: all are empty, or one is not.
use Rattle.std.specs.Prelude.{◌≡◌, ◌≢◌, ℕ, ◌+◌, ◌<◌, ◌≤◌, List, [], length}
use Rattle.cas_base.specs.Faults.{Rose}
use Rattle.cas_disk.specs.Disk.{Keeps}
use Rattle.cas_disk.specs.declared.disk.Disk.{Ghosts as DiskKind}
use Rattle.cas_model.specs.View.{IsAt}
use Rattle.cas_store.specs.declared.rack.Rack.{Rack}
use Rattle.cas_store.specs.declared.rack.RackFault.{RackFault}
use Rattle.cas_store.specs.declared.rack.RackFault.TheVariants.{NotEmpty, DiskFault, NoMemory}

-- ---- what the disks of a rack mean
-- what a read of a disk gives and what a crash may leave of it, where disks tell that, and how often it has failed
pub record RackMeaning (D : Type 0) : Type 1 where
  pub tells : Type 0
  pub seen : D → List ℕ
  pub may_leave : D → List ℕ → Type 0
  pub faults : D → ℕ

abbrev pub rack_meaning : {D : Type 0} → DiskKind D → RackMeaning D
rack_meaning D = record { tells = D.tells; seen = D.seen; may_leave = D.may_leave; faults = D.fault_count }

-- ---- one disk
-- it was asked for its length: its content stayed, and its count of faults did not fall
pub record IsAskedForLength {D : Type 0} (m : RackMeaning D) (old new : D) : Type 0 where
  pub kept : m.tells → Keeps (m.seen old) (m.seen new) (m.may_leave old) (m.may_leave new)
  pub never_falls : m.faults old ≤ m.faults new

-- and it is empty
pub record IsFoundEmpty {D : Type 0} (m : RackMeaning D) (old new : D) : Type 0 where
  pub asked : IsAskedForLength m old new
  pub empty : m.tells → m.seen new ≡ []

-- what that fault says of the disk of this number
abbrev pub IsRackFaultOf : {D : Type 0} → RackMeaning D → ℕ → D → RackFault → D → Type 0
IsRackFaultOf m number old (NotEmpty disk) new = (disk ≡ number) × (m.tells → m.seen new ≢ [])
IsRackFaultOf m number old (DiskFault disk) new = (disk ≡ number) × Rose (m.faults old) (m.faults new)
IsRackFaultOf m number old NoMemory new = Unit {0}

-- it was asked, and is not known to be empty
pub record IsWhyNot {D : Type 0} (m : RackMeaning D) (number : ℕ) (old : D) (fault : RackFault) (new : D) : Type 0 where
  pub asked : IsAskedForLength m old new
  pub cause : IsRackFaultOf m number old fault new

-- ---- disks in a row
-- those at the places below this one were asked and are empty, and no other was reached
pub record AreFoundEmptyBelow {D : Type 0} (m : RackMeaning D) (old : List D) (place : ℕ) (new : List D) : Type 0 where
  pub places : length new ≡ length old
  pub empty : (p : ℕ) (now : D) → p < place → IsAt new p now → (was : D) × IsAt old p was × IsFoundEmpty m was now
  pub others : (p : ℕ) (now : D) → place ≤ p → IsAt new p now → IsAt old p now

-- those before one of them are empty, that one is not known to be, and none behind it was reached; they are numbered from there on
pub record OneIsNot {D : Type 0} (m : RackMeaning D) (first : ℕ) (old : List D) (fault : RackFault) (new : List D) : Type 0 where
  pub place : ℕ
  pub places : length new ≡ length old
  pub before : (p : ℕ) (now : D) → p < place → IsAt new p now → (was : D) × IsAt old p was × IsFoundEmpty m was now
  pub was : D
  pub at_was : IsAt old place was
  pub now : D
  pub at_now : IsAt new place now
  pub why : IsWhyNot m (first + place) was fault now
  pub others : (p : ℕ) (disk : D) → place < p → IsAt new p disk → IsAt old p disk

-- ---- all of them
-- each disk of the rack is empty
pub record IsAllEmpty {D : Type 0} (m : RackMeaning D) (old new : Rack D) : Type 0 where
  pub acceptors : AreFoundEmptyBelow m old.acceptors.items 64 new.acceptors.items
  pub vaults : AreFoundEmptyBelow m old.vaults.items 17 new.vaults.items

-- a disk of an acceptor is not known to be empty, and no vault was reached; or those of the acceptors are empty, and that of a vault is
-- not known to be
pub data IsNotEmpty {D : Type 0} (m : RackMeaning D) (old : Rack D) (fault : RackFault) (new : Rack D) : Type 0 where
  an_acceptor : OneIsNot m 0 old.acceptors.items fault new.acceptors.items → new.vaults ≡ old.vaults → IsNotEmpty m old fault new
  a_vault : AreFoundEmptyBelow m old.acceptors.items 64 new.acceptors.items → OneIsNot m 64 old.vaults.items fault new.vaults.items → IsNotEmpty m old fault new
