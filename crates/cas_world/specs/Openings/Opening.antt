-- What a world is opened from, and what is handed back.
use Rattle.std.specs.Prelude.{◌≡◌, ◌⊎◌, ℕ, suc, ◌+◌, ◌<◌, ◌≤◌, true, false, List, [], ◌∷◌, ◌++◌, length, map, drop, None}
use Rattle.std.specs.List.{range_with_len}
use Rattle.cas_base.specs.Faults.{Rose}
use Rattle.cas_acceptor.specs.Acceptor.{AcceptorView}
use Rattle.cas_proposer.specs.Desk.{DeskView}
use Rattle.cas_slot.specs.Contents.{nothing}
use Rattle.cas_slot.specs.Shelf.{OnlyLeaves}
use Rattle.cas_slot.specs.declared.fault.ShelfFault.{ShelfFault}
use Rattle.cas_slot.specs.declared.fault.ShelfFault.TheVariants as shelf_fault
use Rattle.cas_vault.specs.Vault.{disk_of, counter_of, kept_of, fresh, KeptOn}
use Rattle.cas_model.specs.View.{Meaning, ShelfMeaning, DiskMeaning, IsAt}
use Rattle.cas_world_calls.specs.declared.call.Caller.{Caller}
use Rattle.cas_world.specs.declared.fault.OpenFault.{OpenFault}
use Rattle.cas_world.specs.declared.fault.OpenFault.TheVariants.{DiskFault, NoMemory}

-- ---- what there is before anything starts
-- a caller that has not begun any call
abbrev pub unbegun : Caller
unbegun = record { number = 0; call = None }

-- the acceptors from 1 to this one
abbrev pub members_to : ℕ → List ℕ
members_to count = range_with_len 1 count

-- acceptors over shelves that never started, numbered from there on
abbrev pub unstarted : {S : Type 0} → ℕ → List S → List (AcceptorView S)
unstarted number [] = []
unstarted number (shelf ∷ shelves) = record { id = number; started = false; down = true; shelf = shelf } ∷ unstarted (suc number) shelves

-- none of them ever started
abbrev pub NoneStarted : {S : Type 0} → List (AcceptorView S) → Type 0
NoneStarted {S} acceptors = (id : ℕ) (acceptor : AcceptorView S) → IsAt acceptors id acceptor → (acceptor.started ≡ false) × (acceptor.down ≡ true)

-- ---- what is handed back
abbrev pub shelves_of : {S : Type 0} → List (AcceptorView S) → List S
shelves_of acceptors = map (λ acceptor. acceptor.shelf) acceptors

abbrev pub disks_of : {V : Type 0} → List (DeskView V) → List V
disks_of desks = map (λ desk. disk_of desk.vault) desks

-- ---- faults
-- the disk of this number failed where its count of faults rose; otherwise there was no memory
abbrev pub IsFaultOf : ℕ → ℕ → ℕ → OpenFault → Type 0
IsFaultOf number old new (DiskFault disk) = (disk ≡ number) × Rose old new
IsFaultOf number old new NoMemory = Unit {0}
IsFaultOf number old new other = ⊥

-- the same where a shelf tells why it did not start
abbrev pub fault_of_shelf : ℕ → ShelfFault → OpenFault
fault_of_shelf number shelf_fault.DiskFault = DiskFault number
fault_of_shelf number other = NoMemory

-- ---- shelves that start
-- its shelf has started: it is up and holds nothing, and where shelves tell, a crash leaves just that
pub record HasStarted {S : Type 0} (m : ShelfMeaning S) (faults : S → ℕ) (old new : AcceptorView S) : Type 0 where
  pub acceptor : new ≡ record old { started = true; down = false; shelf = new.shelf }
  pub holds : m.contents new.shelf ≡ nothing
  pub lasts : m.tells → OnlyLeaves (m.contents new.shelf) (m.may_leave new.shelf)
  pub never_falls : faults old.shelf ≤ faults new.shelf

-- its shelf did not start: it stays down, and its shelf holds what it held
pub record HasNotStarted {S : Type 0} (m : ShelfMeaning S) (faults : S → ℕ) (number : ℕ) (fault : OpenFault) (old new : AcceptorView S) : Type 0 where
  pub acceptor : new ≡ record old { shelf = new.shelf }
  pub holds : m.contents new.shelf ≡ m.contents old.shelf
  pub never_falls : faults old.shelf ≤ faults new.shelf
  pub cause : IsFaultOf number (faults old.shelf) (faults new.shelf) fault

-- the acceptors from 1 on below this one have started, and no other changed
pub record AreStartedBelow {S : Type 0} (m : ShelfMeaning S) (faults : S → ℕ) (old : List (AcceptorView S)) (number : ℕ) (new : List (AcceptorView S)) : Type 0 where
  pub places : length new ≡ length old
  pub members : (id : ℕ) (now : AcceptorView S) → 0 < id → id < number → IsAt new id now → (was : AcceptorView S) × IsAt old id was × HasStarted m faults was now
  pub others : (id : ℕ) (now : AcceptorView S) → (id ≡ 0) ⊎ (number ≤ id) → IsAt new id now → IsAt old id now

-- those from 1 on below one up to this have started, it has not, and no other changed
pub record AMemberFails {S : Type 0} (m : ShelfMeaning S) (faults : S → ℕ) (old : List (AcceptorView S)) (count : ℕ) (fault : OpenFault) (new : List (AcceptorView S)) : Type 0 where
  pub number : ℕ
  pub from : 0 < number
  pub to : number ≤ count
  pub starts : (id : ℕ) (now : AcceptorView S) → 0 < id → id < number → IsAt new id now → (was : AcceptorView S) × IsAt old id was × HasStarted m faults was now
  pub fails : (now : AcceptorView S) → IsAt new number now → (was : AcceptorView S) × IsAt old number was × HasNotStarted m faults number fault was now
  pub others : (id : ℕ) (now : AcceptorView S) → (id ≡ 0) ⊎ (number < id) → IsAt new id now → IsAt old id now
  pub places : length new ≡ length old

-- ---- vaults that start
-- the desk of that proposer, with its vault just started on that disk: it keeps zeros, and where disks tell, a crash leaves just that
pub record IsDeskOver {V : Type 0} (m : DiskMeaning V) (faults : V → ℕ) (id : ℕ) (disk : V) (desk : DeskView V) : Type 0 where
  pub is : desk ≡ record { id = id; vault = desk.vault; cache = []; round = None; down = false }
  pub counter : counter_of desk.vault ≡ 0
  pub kept : kept_of desk.vault ≡ fresh
  pub lasts : m.tells → (c : List ℕ) → m.may_leave (disk_of desk.vault) c → KeptOn fresh c
  pub never_falls : faults disk ≤ faults (disk_of desk.vault)

-- the desks of the proposers from 0 on below this one, over the first of these disks
pub record AreDesksBelow {V : Type 0} (m : DiskMeaning V) (faults : V → ℕ) (disks : List V) (number : ℕ) (desks : List (DeskView V)) : Type 0 where
  pub places : length desks ≡ number
  pub each : (id : ℕ) (desk : DeskView V) → IsAt desks id desk → (disk : V) × IsAt disks id disk × IsDeskOver m faults id disk desk

-- those of the proposers below one up to this; the disk of that one did not start, and stands before those that are left
pub record AVaultFails {V : Type 0} (m : DiskMeaning V) (faults : V → ℕ) (disks : List V) (last_proposer : ℕ) (fault : OpenFault) (desks : List (DeskView V)) (left : List V) : Type 0 where
  pub number : ℕ
  pub to : number ≤ last_proposer
  pub made : AreDesksBelow m faults disks number desks
  pub disk : V
  pub at_disk : IsAt disks number disk
  pub now : V
  pub never_falls : faults disk ≤ faults now
  pub cause : IsFaultOf (64 + number) (faults disk) (faults now) fault
  pub rest : left ≡ now ∷ drop (number + 1) disks

-- ---- all of them
-- the members have started, and so have the vaults of the proposers, and the disks that no proposer uses are left
pub record AllStart {S V : Type 0} (m : Meaning S V) (shelf_faults : S → ℕ) (disk_faults : V → ℕ) (count last_proposer : ℕ) (old : List (AcceptorView S)) (disks : List V) (acceptors : List (AcceptorView S)) (desks : List (DeskView V)) (left : List V) : Type 0 where
  pub members : AreStartedBelow m.shelves shelf_faults old (count + 1) acceptors
  pub made : AreDesksBelow m.disks disk_faults disks (last_proposer + 1) desks
  pub rest : left ≡ drop (last_proposer + 1) disks

-- a member did not start, and no vault was touched; or the members have started, and a vault did not
pub data SomeDiskFails {S V : Type 0} (m : Meaning S V) (shelf_faults : S → ℕ) (disk_faults : V → ℕ) (count last_proposer : ℕ) (old : List (AcceptorView S)) (disks : List V) (fault : OpenFault) (acceptors : List (AcceptorView S)) (desks : List (DeskView V)) (left : List V) : Type 0 where
  a_shelf : AMemberFails m.shelves shelf_faults old count fault acceptors → desks ≡ [] → left ≡ disks → SomeDiskFails m shelf_faults disk_faults count last_proposer old disks fault acceptors desks left
  a_disk : AreStartedBelow m.shelves shelf_faults old (count + 1) acceptors → AVaultFails m.disks disk_faults disks last_proposer fault desks left → SomeDiskFails m shelf_faults disk_faults count last_proposer old disks fault acceptors desks left

-- Why a world is not opened, and what comes back: each shelf and each disk in its place, those that were not reached as they were.
pub data DoesNotOpen {S V : Type 0} (m : Meaning S V) (shelf_faults : S → ℕ) (disk_faults : V → ℕ) (count last_proposer : ℕ) (shelves : List S) (disks : List V) (fault : OpenFault) (shelves_back : List S) (disks_back : List V) : Type 0 where
  nothing_touched : fault ≡ NoMemory → shelves_back ≡ shelves → disks_back ≡ disks → DoesNotOpen m shelf_faults disk_faults count last_proposer shelves disks fault shelves_back disks_back
  some_fails : (acceptors : List (AcceptorView S)) (desks : List (DeskView V)) (left : List V) → SomeDiskFails m shelf_faults disk_faults count last_proposer (unstarted 0 shelves) disks fault acceptors desks left
      → shelves_back ≡ shelves_of acceptors → disks_back ≡ disks_of desks ++ left → DoesNotOpen m shelf_faults disk_faults count last_proposer shelves disks fault shelves_back disks_back
