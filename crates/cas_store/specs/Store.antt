-- What a store stands on, and why it is not opened.
use Rattle.std.specs.Prelude.{◌≡◌, ◌⊎◌, ℕ, ◌+◌, ◌<◌, ◌≤◌, List, length, map}
use Rattle.cas_acceptor.specs.Acceptor.{AcceptorView}
use Rattle.cas_model.specs.View.{IsAt}
use Rattle.cas_disk_shelf.specs.Shelf.{disk_of}
use Rattle.cas_disk_shelf.specs.declared.shelf.DiskShelf.{DiskShelf}
use Rattle.cas_world.specs.Openings.Opening.{IsFaultOf}
use Rattle.cas_world.specs.declared.fault.OpenFault.{OpenFault}
use Rattle.cas_world.specs.declared.fault.OpenFault.TheVariants.{NoMemory}

-- the disks on which the acceptors' shelves stand
abbrev pub acceptor_disks : {D : Type 0} → List (AcceptorView (DiskShelf D)) → List D
acceptor_disks acceptors = map (λ acceptor. disk_of acceptor.shelf) acceptors

-- Those at the places from one on below another were reached, and their counts of faults did not fall. No other was.
pub record AreReached {D : Type 0} (faults : D → ℕ) (from to : ℕ) (old new : List D) : Type 0 where
  pub places : length new ≡ length old
  pub reached : (p : ℕ) (now : D) → from ≤ p → p < to → IsAt new p now → (was : D) × IsAt old p was × (faults was ≤ faults now)
  pub others : (p : ℕ) (now : D) → (p < from) ⊎ (to ≤ p) → IsAt new p now → IsAt old p now

-- One at a place from one on up to another did not start, and none behind it was reached. They are numbered from the first on.
pub record OneFails {D : Type 0} (faults : D → ℕ) (first from to : ℕ) (fault : OpenFault) (old new : List D) : Type 0 where
  pub place : ℕ
  pub low : from ≤ place
  pub high : place ≤ to
  pub reached : AreReached faults from (place + 1) old new
  pub was : D
  pub at_was : IsAt old place was
  pub now : D
  pub at_now : IsAt new place now
  pub cause : IsFaultOf (first + place) (faults was) (faults now) fault

-- Why a store is not opened, by the disks of the acceptors and of the vaults before and after: there was no memory, and no disk was
-- reached; or the disk of a member did not start, and no vault was reached; or the members have started, and a vault did not.
pub data StaysClosed {D : Type 0} (faults : D → ℕ) (count last_proposer : ℕ) (acceptors vaults : List D) (fault : OpenFault) (acceptors_back vaults_back : List D) : Type 0 where
  nothing_reached : fault ≡ NoMemory → acceptors_back ≡ acceptors → vaults_back ≡ vaults → StaysClosed faults count last_proposer acceptors vaults fault acceptors_back vaults_back
  a_member_fails : OneFails faults 0 1 count fault acceptors acceptors_back → vaults_back ≡ vaults → StaysClosed faults count last_proposer acceptors vaults fault acceptors_back vaults_back
  a_vault_fails : AreReached faults 1 (count + 1) acceptors acceptors_back → OneFails faults 64 0 last_proposer fault vaults vaults_back → StaysClosed faults count last_proposer acceptors vaults fault acceptors_back vaults_back
