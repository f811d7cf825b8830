-- Shelves that are made ready for a world, and the world that is opened on them.
use Rattle.std.specs.Prelude.{◌≡◌, ◌≤◌, ◌+◌, ◌^◌, ℕ, Bool, true, false, List, [], length, slice_get}
use Rattle.cas_ballot.specs.Members.{has_member, union_of}
use Rattle.cas_slot.specs.Contents.{Contents}
use Rattle.cas_model.specs.Openings.{Opening, AreOpenings, IsOpeningOn}
use Rattle.cas_model.specs.SafeLaws.{HasPlaces}
use Rattle.cas_model.specs.View.{Meaning, View}
use Rattle.cas_world.specs.Openings.OpeningOn.{MembersHold, AreTakenUpBelow, DoesNotGoOn, placed}
use Rattle.cas_world.specs.declared.fault.OpenFault.{OpenFault}
use Rattle.cas_disk_shelf.specs.declared.shelf.DiskShelf.{DiskShelf}
use Rattle.cas_store.specs.Rack.{RackMeaning}
use Rattle.cas_store.specs.declared.rack.Rack.{Rack}
use Rattle.cas_reopen.specs.declared.fault.ReopenFault.{ReopenFault}
use Rattle.cas_reopen.specs.Faults.{fault_of_opening, IsWhyNotRestored}
use Rattle.cas_reopen.specs.Opened.{StoodOnDisks, GoesOnOver}
use Rattle.cas_reopen.specs.Shelves.{AreRestored}

-- ---- shelves
-- no other shelf than those of these members changed
abbrev pub OthersStay : {S : Type 0} → List ℕ → List S → List S → Type 0
OthersStay members old new = (id : ℕ) → has_member members id ≡ false → slice_get new id ≡ slice_get old id

-- the shelves of the members hold the floors, and a world can be opened on them
pub record AreReadyFor {S : Type 0} (is_up : S → Type 0) (contents : S → Contents) (members : List ℕ) (old new : List S) (floors : List Opening) (past : ℕ) : Type 0 where
  pub places : length new ≡ length old
  pub openings : AreOpenings floors
  pub few : length floors ≤ 4096
  pub limit : past ≤ 2 ^ 48
  pub held : MembersHold is_up contents members floors new
  pub others : OthersStay members old new

-- A world is open on shelves that were made ready. They were started, where they are new, and else restored.
pub record IsOpenOnShelves {S V : Type 0} (m : Meaning S V) (is_up : S → Type 0) (seen : V → List ℕ) (members used : List ℕ) (proposers : ℕ) (is_new : Bool) (shelves : List S) (vaults : List V) (world : View S V) : Type 0 where
  pub ready : List S
  pub floors : List Opening
  pub past : ℕ
  pub are_ready : AreReadyFor is_up m.shelves.contents members shelves ready floors past
  pub none : is_new ≡ true → (floors ≡ []) × (past ≡ 0)
  pub restored : is_new ≡ false → AreRestored m.shelves.tells is_up m.shelves.contents m.shelves.may_leave members shelves ready floors past
  pub opening : IsOpeningOn m members (union_of used members) floors world
  pub places : HasPlaces world
  pub last_proposer : world.last_proposer ≡ proposers
  pub acceptors : world.acceptors ≡ placed members 0 ready
  pub taken_up : AreTakenUpBelow m.disks seen m.disks.faults past vaults (proposers + 1) world.desks

-- Why none is: the shelves of the members were not made ready, and no vault was reached; or a vault was not taken up.
pub data IsNotOpenOnShelves {S V : Type 0} (m : Meaning S V) (seen : V → List ℕ) (members : List ℕ) (proposers : ℕ) (shelves : List S) (vaults : List V) (fault : ReopenFault) (shelves_back : List S) (vaults_back : List V) : Type 0 where
  not_ready : IsWhyNotRestored m.shelves.tells m.shelves.contents m.shelves.may_leave m.shelves.faults members shelves shelves_back fault → vaults_back ≡ vaults
      → IsNotOpenOnShelves m seen members proposers shelves vaults fault shelves_back vaults_back
  not_taken_up : (past : ℕ) (ready : List S) (why : OpenFault) → fault ≡ fault_of_opening why → DoesNotGoOn m.disks seen m.disks.faults past proposers ready vaults why shelves_back vaults_back
      → IsNotOpenOnShelves m seen members proposers shelves vaults fault shelves_back vaults_back

-- ---- disks
-- A world goes on over a rack from no floor, where its disks are new, and else from what stood on them.
pub record GoesOnFromDisks {D : Type 0} (meant : Meaning (DiskShelf D) D) (m : RackMeaning D) (members used : List ℕ) (proposers : ℕ) (is_new : Bool) (rack : Rack D) (world : View (DiskShelf D) D) : Type 0 where
  pub floors : List Opening
  pub past : ℕ
  pub none : is_new ≡ true → (floors ≡ []) × (past ≡ 0)
  pub stood : is_new ≡ false → StoodOnDisks m members rack.acceptors.items floors past
  pub goes_on : GoesOnOver meant m.seen members used floors proposers past rack world
