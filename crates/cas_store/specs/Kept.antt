-- What the disks of the acceptors keep of what was acknowledged.
use Rattle.std.specs.Prelude.{◌≡◌, ◌≤◌, ℕ, true, List, reverse, Ok}
use Rattle.cas_ballot.specs.declared.ballot.Ballot.{Ballot}
use Rattle.cas_ballot.specs.Ballot.{BallotAtMost}
use Rattle.cas_ballot.specs.Members.{has_member}
use Rattle.cas_slot.specs.Contents.{Contents}
use Rattle.cas_slot.specs.Slot.{accepted_ballot}
use Rattle.cas_slot.specs.Table.{accepted_at}
use Rattle.cas_record.specs.declared.mark.Acknowledgment.{Acknowledgment}
use Rattle.cas_record.specs.declared.mark.Mark.{Mark}
use Rattle.cas_record.specs.declared.mark.Mark.TheVariants.{Acked}
use Rattle.cas_record.specs.Logs.Orderly.{IsAboveFloors}
use Rattle.cas_record.specs.Places.{Stands}
use Rattle.cas_disk_shelf.specs.Image.{left_on}
use Rattle.cas_acceptor.specs.Acceptor.{AcceptorView}
use Rattle.cas_disk_shelf.specs.declared.shelf.DiskShelf.{DiskShelf}
use Rattle.cas_model.specs.View.{View, IsAt, era_at}
use Rattle.cas_model_stops.specs.Stopped.{HasPrepareQuorum, HoldSettled}

-- the image is a shelf, on which the key was accepted at the ballot or above it
pub record KeepsAtLeast (key : List ℕ) (ballot : Ballot) (image : List ℕ) : Type 0 where
  pub contents : Contents
  pub spelled : left_on image ≡ Ok contents
  pub at_least : BallotAtMost ballot (accepted_ballot (accepted_at contents key))

-- What is acknowledged stands on the disk of each acceptor that confirmed it, whatever a crash leaves of that, until a floor is made at or
-- above it.
abbrev pub AreKept : {D : Type 0} → (D → List ℕ → Type 0) → List Mark → List D → Type 0
AreKept {D} may_leave marks disks = (a : Acknowledgment) → Stands (Acked a) marks → IsAboveFloors marks a.key a.ballot → (id : ℕ) (disk : D) → has_member a.by id ≡ true → IsAt disks id disk → (image : List ℕ) → may_leave disk image → KeepsAtLeast a.key a.ballot image

-- An image that a crash may leave of the disk of each of these acceptors, each of which has started, and the contents that stand on it.
abbrev pub AreOnDisks : {D : Type 0} → (D → List ℕ → Type 0) → View (DiskShelf D) D → List D → List ℕ → (ℕ → Contents) → Type 0
AreOnDisks {D} may_leave world disks by left = (id : ℕ) → has_member by id ≡ true → (acceptor : AcceptorView (DiskShelf D)) × IsAt world.acceptors id acceptor × (acceptor.started ≡ true)
    × (disk : D) × IsAt disks id disk × (image : List ℕ) × may_leave disk image × (left_on image ≡ Ok (left id))

-- Members of an era in which a proposer works hold what is settled on their disks, if a prepare quorum of that era is among them, whatever a
-- crash leaves of these.
abbrev pub AreHeld : {D : Type 0} → (D → List ℕ → Type 0) → View (DiskShelf D) D → List D → Type 0
AreHeld {D} may_leave world disks = (proposer : ℕ) (by : List ℕ) (left : ℕ → Contents) → proposer ≤ world.last_proposer → HasPrepareQuorum (era_at world proposer) by → AreOnDisks may_leave world disks by left → (key : List ℕ)
    → HoldSettled (reverse world.marks) by left key
