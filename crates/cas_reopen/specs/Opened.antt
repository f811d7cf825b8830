-- What a store is opened over: disks that are all empty, or those on which a store stood when it stopped.
use Rattle.std.specs.Prelude.{◌≡◌, ℕ, ◌+◌, true, false, List, [], length, slice_get}
use Rattle.cas_acceptor.specs.Acceptor.{AcceptorView}
use Rattle.cas_ballot.specs.Members.{has_member, union_of}
use Rattle.cas_slot.specs.Contents.{Contents}
use Rattle.cas_slot.specs.Shelf.{Left}
use Rattle.cas_disk_shelf.specs.Image.{left_on}
use Rattle.cas_disk_shelf.specs.declared.shelf.DiskShelf.{DiskShelf}
use Rattle.cas_model.specs.Openings.{Opening, IsOpeningOn}
use Rattle.cas_model.specs.SafeLaws.{HasPlaces}
use Rattle.cas_model.specs.Step.{IsOpening}
use Rattle.cas_model.specs.View.{Meaning, View, IsAt}
use Rattle.cas_world.specs.Openings.Opening.{members_to, AreDesksBelow}
use Rattle.cas_world.specs.Openings.OpeningOn.{AreTakenUpBelow}
use Rattle.cas_store.specs.Rack.{RackMeaning, IsAllEmpty}
use Rattle.cas_store.specs.Store.{acceptor_disks, AreReached}
use Rattle.cas_store.specs.declared.rack.Rack.{Rack}
use Rattle.cas_survey.specs.Survey.{IsGreatestCounter}
use Rattle.cas_reopen.specs.Faults.{MayBeLeft}
use Rattle.cas_reopen.specs.Filled.{AreLengthsOf}
use Rattle.cas_reopen.specs.Standing.{AreFloorsFound}

-- ---- disks that bear shelves
-- what a crash may leave of the shelf on a disk: what an image that it may leave of the disk is
abbrev pub leaves_of : {D : Type 0} → (D → List ℕ → Type 0) → D → Left → Type 0
leaves_of may_leave disk left = (image : List ℕ) × may_leave disk image × (left ≡ left_on image)

-- these are the floors of what the disks of these members may have left, and no ballot on them has a greater counter
pub record StoodOnDisks {D : Type 0} (m : RackMeaning D) (members : List ℕ) (disks : List D) (floors : List Opening) (past : ℕ) : Type 0 where
  pub left : ℕ → Contents
  pub may_be : m.tells → MayBeLeft (leaves_of m.may_leave) members disks left
  pub found : AreFloorsFound members left floors
  pub counter : IsGreatestCounter members left past

-- ---- worlds
-- A world of so many acceptors and proposers in which nothing has happened, over the disks of a rack: each acceptor and each proposer on
-- the disk at the place of its number, of which those of the members and of the proposers were started. The members are up.
pub record IsNewOver {D : Type 0} (meant : Meaning (DiskShelf D) D) (acceptors proposers : ℕ) (rack : Rack D) (world : View (DiskShelf D) D) : Type 0 where
  pub opening : IsOpening meant (members_to acceptors) world
  pub places : HasPlaces world
  pub last_proposer : world.last_proposer ≡ proposers
  pub shelves : AreReached meant.disks.faults 1 (acceptors + 1) rack.acceptors.items (acceptor_disks world.acceptors)
  pub vaults : AreDesksBelow meant.disks meant.disks.faults rack.vaults.items (proposers + 1) world.desks
  pub up : (id : ℕ) (acceptor : AcceptorView (DiskShelf D)) → IsAt world.acceptors id acceptor → has_member (members_to acceptors) id ≡ true → acceptor.down ≡ false

-- A world that goes on from these floors over the disks of a rack, each at the place of its number. The members are up, and the disks of
-- all other acceptors are as they were. Who was used is never to join. Each proposer goes on above its vault and above that counter.
pub record GoesOnOver {D : Type 0} (meant : Meaning (DiskShelf D) D) (seen : D → List ℕ) (members used : List ℕ) (floors : List Opening) (proposers past : ℕ) (rack : Rack D) (world : View (DiskShelf D) D) : Type 0 where
  pub opening : IsOpeningOn meant members (union_of used members) floors world
  pub places : HasPlaces world
  pub last_proposer : world.last_proposer ≡ proposers
  pub up : (id : ℕ) (acceptor : AcceptorView (DiskShelf D)) → IsAt world.acceptors id acceptor → has_member members id ≡ true → acceptor.down ≡ false
  pub all : length (acceptor_disks world.acceptors) ≡ 64
  pub others : (id : ℕ) → has_member members id ≡ false → slice_get (acceptor_disks world.acceptors) id ≡ slice_get rack.acceptors.items id
  pub vaults : AreTakenUpBelow meant.disks seen meant.disks.faults past rack.vaults.items (proposers + 1) world.desks

-- ---- stores
-- No disk of a member and not that of the vault of proposer 0 is empty. The world goes on from the floors of what the members' disks may
-- have left. Acceptors whose disks are not empty were used.
pub record IsReopenedOver {D : Type 0} (meant : Meaning (DiskShelf D) D) (m : RackMeaning D) (members : List ℕ) (proposers : ℕ) (rack : Rack D) (world : View (DiskShelf D) D) : Type 0 where
  pub asked : Rack D
  pub filled : List ℕ
  pub vaults : List ℕ
  pub lengths : AreLengthsOf m filled vaults rack asked
  pub none_lost : (id : ℕ) → has_member members id ≡ true → has_member filled id ≡ true
  pub vault : has_member vaults 0 ≡ true
  pub floors : List Opening
  pub past : ℕ
  pub stood : StoodOnDisks m members rack.acceptors.items floors past
  pub goes_on : GoesOnOver meant m.seen members filled floors proposers past asked world

-- All disks were empty, and the world is new, or begins with these members and no floor. Or it goes on from what stood on the disks.
pub data IsOpenedOver {D : Type 0} (meant : Meaning (DiskShelf D) D) (m : RackMeaning D) (acceptors proposers : ℕ) (members : List ℕ) (rack : Rack D) (world : View (DiskShelf D) D) : Type 0 where
  is_new : (asked : Rack D) → IsAllEmpty m rack asked → members ≡ members_to acceptors → IsNewOver meant acceptors proposers asked world → IsOpenedOver meant m acceptors proposers members rack world
  is_named : (asked : Rack D) → IsAllEmpty m rack asked → GoesOnOver meant m.seen members [] [] proposers 0 asked world → IsOpenedOver meant m acceptors proposers members rack world
  is_reopened : IsReopenedOver meant m members proposers rack world → IsOpenedOver meant m acceptors proposers members rack world
