-- Why a store was not opened over a rack, and what comes back.
use Rattle.std.specs.Prelude.{◌≡◌, ◌<◌, ◌≤◌, ◌⊎◌, ◌^◌, ⊤, ℕ, true, false, List, Err}
use Rattle.cas_ballot.specs.Members.{has_member}
use Rattle.cas_slot.specs.Contents.{Contents}
use Rattle.cas_vault.specs.Vault.{KeptOn, IsForeignAt}
use Rattle.cas_vault.specs.declared.kept.Kept.{Kept}
use Rattle.cas_model.specs.View.{IsAt}
use Rattle.cas_store.specs.Rack.{RackMeaning, IsAskedForLength, IsAllEmpty}
use Rattle.cas_store.specs.declared.rack.Rack.{Rack}
use Rattle.cas_reopen.specs.declared.fault.ReopenFault.{ReopenFault}
use Rattle.cas_reopen.specs.declared.fault.ReopenFault.TheVariants.{Foreign, TooManyKeys, LostDisk, Spent, DiskFault, NoMemory}
use Rattle.cas_reopen.specs.Faults.{MayBeLeft, AreTooMany}
use Rattle.cas_reopen.specs.Filled.{AreLengthsOf, DiskFailed, disks_in}
use Rattle.cas_reopen.specs.Opened.{leaves_of}
use Rattle.cas_reopen.specs.Shelves.{StopsWithinGiving}

-- ---- disks that are lost
-- a disk is not empty
abbrev pub IsSomeFilled : List ℕ → List ℕ → Type 0
IsSomeFilled acceptors vaults = ((id : ℕ) × (has_member acceptors id ≡ true)) ⊎ ((place : ℕ) × (has_member vaults place ≡ true))

-- those of all members are not empty, nor is that of the vault of proposer 0
pub record NoneIsLost (members acceptors vaults : List ℕ) : Type 0 where
  pub each : (id : ℕ) → has_member members id ≡ true → has_member acceptors id ≡ true
  pub vault : has_member vaults 0 ≡ true

-- that of a member is empty, and of no member with a lesser number; or none of theirs is, and that of the vault of proposer 0 is
pub data IsLeastLost (members acceptors vaults : List ℕ) (disk : ℕ) : Type 0 where
  a_member : has_member members disk ≡ true → has_member acceptors disk ≡ false → ((id : ℕ) → id < disk → has_member members id ≡ true → has_member acceptors id ≡ true) → IsLeastLost members acceptors vaults disk
  the_vault : disk ≡ 64 → ((id : ℕ) → has_member members id ≡ true → has_member acceptors id ≡ true) → has_member vaults 0 ≡ false → IsLeastLost members acceptors vaults disk

-- All disks were asked for their lengths, and no other call reached them. Some disk is not empty, and this one is the least that is lost.
pub record IsLost {D : Type 0} (m : RackMeaning D) (members : List ℕ) (old new : Rack D) (disk : ℕ) : Type 0 where
  pub filled : List ℕ
  pub vaults : List ℕ
  pub lengths : AreLengthsOf m filled vaults old new
  pub some : IsSomeFilled filled vaults
  pub least : IsLeastLost members filled vaults disk

-- ---- disks that are refused
-- what the disk of this member may have left is no shelf, or this disk shows no vault: this byte is the first that is not as the format demands
pub data IsForeignDisk {D : Type 0} (m : RackMeaning D) (members : List ℕ) (old new : Rack D) (disk at : ℕ) : Type 0 where
  no_shelf : (was : D) → has_member members disk ≡ true → IsAt old.acceptors.items disk was → (m.tells → leaves_of m.may_leave was (Err at)) → IsForeignDisk m members old new disk at
  no_vault : (now : D) → 64 ≤ disk → IsAt (disks_in new) disk now → (m.tells → IsForeignAt (m.seen now) at) → IsForeignDisk m members old new disk at

-- the vault on this disk keeps an age that is at its end
pub record IsSpentDisk {D : Type 0} (m : RackMeaning D) (new : Rack D) (disk : ℕ) : Type 0 where
  pub now : D
  pub vault : 64 ≤ disk
  pub at : IsAt (disks_in new) disk now
  pub kept : Kept
  pub age : kept.age ≡ 2 ^ 48
  pub keeps : m.tells → (image : List ℕ) → m.may_leave now image → KeptOn kept image

-- what the disks of these members may have left has states of this many keys, which are too many
pub record AreTooManyOn {D : Type 0} (m : RackMeaning D) (members : List ℕ) (disks : List D) (keys : ℕ) : Type 0 where
  pub left : ℕ → Contents
  pub may_be : m.tells → MayBeLeft (leaves_of m.may_leave) members disks left
  pub many : AreTooMany members left keys

-- ---- the whole
-- why a rack none of whose disks is lost was not opened
abbrev pub IsWhyNotOpened : {D : Type 0} → RackMeaning D → List ℕ → Rack D → Rack D → ReopenFault → Type 0
IsWhyNotOpened m members old new (Foreign disk at) = IsForeignDisk m members old new disk at
IsWhyNotOpened m members old new (TooManyKeys keys) = AreTooManyOn m members old.acceptors.items keys
IsWhyNotOpened m members old new (LostDisk disk) = ⊥
IsWhyNotOpened m members old new (Spent disk) = IsSpentDisk m new disk
IsWhyNotOpened m members old new (DiskFault disk) = DiskFailed m.faults disk old new
IsWhyNotOpened m members old new NoMemory = ⊤

-- why any was not
abbrev pub IsWhyClosed : {D : Type 0} → RackMeaning D → List ℕ → Rack D → Rack D → ReopenFault → Type 0
IsWhyClosed m members old new (LostDisk disk) = IsLost m members old new disk
IsWhyClosed m members old new other = IsWhyNotOpened m members old new other

-- ---- the order of the faults
-- The lengths of all disks told that all were empty, or that none of those that the store needs is lost.
pub data NoneWasLost {D : Type 0} (m : RackMeaning D) (members : List ℕ) (old : Rack D) : Type 0 where
  all_were_empty : (asked : Rack D) → IsAllEmpty m old asked → NoneWasLost m members old
  all_stood : (asked : Rack D) (filled vaults : List ℕ) → AreLengthsOf m filled vaults old asked → NoneIsLost members filled vaults → NoneWasLost m members old

-- what is on a disk is a fault only where no disk is lost
abbrev pub ComesInOrder : {D : Type 0} → RackMeaning D → List ℕ → Rack D → ReopenFault → Type 0
ComesInOrder m members old (Foreign disk at) = NoneWasLost m members old
ComesInOrder m members old (TooManyKeys keys) = NoneWasLost m members old
ComesInOrder m members old (Spent disk) = NoneWasLost m members old
ComesInOrder m members old other = ⊤

-- ---- what comes back
-- All disks were empty. Or a crash leaves of members' disks nothing that it might not have left before, or what is between that and its floors.
pub data StopsWithinOpening {D : Type 0} (m : RackMeaning D) (members : List ℕ) (old new : Rack D) : Type 0 where
  all_empty : (asked : Rack D) → IsAllEmpty m old asked → StopsWithinOpening m members old new
  within : StopsWithinGiving (leaves_of m.may_leave) members old.acceptors.items new.acceptors.items → StopsWithinOpening m members old new

-- the disk of an acceptor that is no member was asked for its length at most
abbrev pub OthersAreAsked : {D : Type 0} → RackMeaning D → List ℕ → List D → List D → Type 0
OthersAreAsked {D} m members old new = (id : ℕ) (was now : D) → has_member members id ≡ false → IsAt old id was → IsAt new id now → IsAskedForLength m was now
