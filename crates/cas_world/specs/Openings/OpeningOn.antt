-- What a world that goes on from what stood before is opened from, and what comes back where it is not.
use Rattle.std.specs.Prelude.{◌≡◌, ⊤, ℕ, suc, ◌+◌, ◌≤◌, ◌^◌, max, Bool, true, false, List, [], ◌∷◌, ◌++◌, length, ◌==◌, map, drop, None, if◌then◌else◌}
use Rattle.cas_base.specs.Faults.{Rose}
use Rattle.cas_acceptor.specs.Acceptor.{AcceptorView}
use Rattle.cas_ballot.specs.Members.{has_member}
use Rattle.cas_proposer.specs.Desk.{DeskView}
use Rattle.cas_slot.specs.Contents.{Contents}
use Rattle.cas_vault.specs.Vault.{disk_of, counter_of, kept_of, fresh, KeptOn, IsPast, IsForeignAt}
use Rattle.cas_vault.specs.declared.error.VaultError.{VaultError}
use Rattle.cas_vault.specs.declared.error.VaultError.TheVariants as vault_error
use Rattle.cas_vault.specs.declared.kept.Kept.{Kept}
use Rattle.cas_vault.specs.declared.vault.Vault.{Vault}
use Rattle.cas_model.specs.Openings.{Opening, HoldsFloors}
use Rattle.cas_model.specs.View.{DiskMeaning, IsAt}
use Rattle.cas_world.specs.declared.fault.OpenFault.{OpenFault}
use Rattle.cas_world.specs.declared.fault.OpenFault.TheVariants.{DiskFault, Foreign, Spent, NoMemory}
use Rattle.cas_world.specs.declared.reopen.OpeningFloor.{OpeningFloor}
use Rattle.cas_world.specs.Openings.Opening.{disks_of}

-- ---- what there is
-- a floor as a cluster sees it
abbrev pub opening_of : OpeningFloor → Opening
opening_of floor = record { key = floor.key; ballot = floor.ballot; state = floor.state }

abbrev pub openings_of : List OpeningFloor → List Opening
openings_of floors = map opening_of floors

-- the greatest counter among their ballots, or 0
abbrev pub greatest_counter : List OpeningFloor → ℕ
greatest_counter [] = 0
greatest_counter (floor ∷ floors) = max floor.ballot.counter (greatest_counter floors)

-- an acceptor over a shelf: a member runs, and any other never started
abbrev pub placed_as : {S : Type 0} → Bool → ℕ → S → AcceptorView S
placed_as member id shelf = if member then record { id = id; started = true; down = false; shelf = shelf } else record { id = id; started = false; down = true; shelf = shelf }

-- acceptors over shelves, numbered from there on
abbrev pub placed : {S : Type 0} → List ℕ → ℕ → List S → List (AcceptorView S)
placed members number [] = []
placed members number (shelf ∷ shelves) = placed_as (has_member members number) number shelf ∷ placed members (suc number) shelves

-- the shelf of each member is up, and holds the floors
pub record MembersHold {S : Type 0} (is_up : S → Type 0) (contents : S → Contents) (members : List ℕ) (floors : List Opening) (shelves : List S) : Type 0 where
  pub up : (id : ℕ) (shelf : S) → has_member members id ≡ true → IsAt shelves id shelf → is_up shelf
  pub holds : (id : ℕ) (shelf : S) → has_member members id ≡ true → IsAt shelves id shelf → HoldsFloors floors (contents shelf)

-- ---- vaults that are taken up
-- A vault goes on from what it kept before, which is nothing where it is started, and what a crash may have left on its disk where it is
-- reopened: its counter is the greater of that bound and this number, it is one age older, and it is in era 0. The disk keeps all of that.
pub record GoesOnPast {V : Type 0} (m : DiskMeaning V) (past : ℕ) (is_new : Bool) (disk : V) (vault : Vault V) : Type 0 where
  pub before : Kept
  pub counter : counter_of vault ≡ max before.bound past
  pub kept : kept_of vault ≡ record { bound = counter_of vault; age = before.age + 1; era = 0 }
  pub started : is_new ≡ true → before ≡ fresh
  pub reopened : is_new ≡ false → m.tells → (image : List ℕ) × m.may_leave disk image × KeptOn before image

-- it is past the counter and in era 0, and a crash leaves just what it keeps
pub record VaultIsTakenUp {V : Type 0} (m : DiskMeaning V) (past : ℕ) (vault : Vault V) : Type 0 where
  pub counter : past ≤ counter_of vault
  pub is_past : m.tells → IsPast m.may_leave past vault
  pub era : (kept_of vault).era ≡ 0
  pub lasts : m.tells → (c : List ℕ) → m.may_leave (disk_of vault) c → KeptOn (kept_of vault) c

-- why it was not: where its first foreign byte is, or that its age is at its end
abbrev pub VaultIsRefused : {V : Type 0} → DiskMeaning V → (V → List ℕ) → Vault V → VaultError → Type 0
VaultIsRefused m seen vault (vault_error.Foreign at) = m.tells → IsForeignAt (seen (disk_of vault)) at
VaultIsRefused m seen vault vault_error.Spent = ((kept_of vault).age ≡ 2 ^ 48) × (m.tells → (c : List ℕ) → m.may_leave (disk_of vault) c → KeptOn (kept_of vault) c)
VaultIsRefused m seen vault other = ⊤

-- the desk of that proposer, over a vault on that disk that was taken up; the vault was started exactly where the disk had no bytes
pub record IsTakenUpOver {V : Type 0} (m : DiskMeaning V) (seen : V → List ℕ) (faults : V → ℕ) (past id : ℕ) (disk : V) (desk : DeskView V) : Type 0 where
  pub is : desk ≡ record { id = id; vault = desk.vault; cache = []; round = None; down = false }
  pub vault : VaultIsTakenUp m past desk.vault
  pub is_new : Bool
  pub empty : m.tells → is_new ≡ (length (seen disk) == 0)
  pub goes_on : GoesOnPast m past is_new disk desk.vault
  pub never_falls : faults disk ≤ faults (disk_of desk.vault)

-- the disk of this number failed, or is foreign at that byte, or keeps an age that is at its end; otherwise there was no memory
abbrev pub IsFaultOfVault : {V : Type 0} → DiskMeaning V → (V → List ℕ) → ℕ → ℕ → ℕ → V → OpenFault → Type 0
IsFaultOfVault m seen number old new back (DiskFault disk) = (disk ≡ number) × Rose old new
IsFaultOfVault m seen number old new back (Foreign disk at) = (disk ≡ number) × (m.tells → IsForeignAt (seen back) at)
IsFaultOfVault m seen number old new back (Spent disk) = (disk ≡ number) × (kept : Kept) × (kept.age ≡ 2 ^ 48) × (m.tells → (c : List ℕ) → m.may_leave back c → KeptOn kept c)
IsFaultOfVault m seen number old new back NoMemory = ⊤

-- the same where a vault tells why
abbrev pub fault_of_vault : ℕ → VaultError → OpenFault
fault_of_vault disk vault_error.VaultFault = DiskFault disk
fault_of_vault disk (vault_error.Foreign at) = Foreign disk at
fault_of_vault disk vault_error.Spent = Spent disk
fault_of_vault disk vault_error.NoMemory = NoMemory

-- the desks of the proposers from 0 on below this one, over the first of these disks
pub record AreTakenUpBelow {V : Type 0} (m : DiskMeaning V) (seen : V → List ℕ) (faults : V → ℕ) (past : ℕ) (disks : List V) (number : ℕ) (desks : List (DeskView V)) : Type 0 where
  pub places : length desks ≡ number
  pub each : (id : ℕ) (desk : DeskView V) → IsAt desks id desk → (disk : V) × IsAt disks id disk × IsTakenUpOver m seen faults past id disk desk

-- those of the proposers below one up to this; the disk of that one was not taken up, and stands before those that are left
pub record AVaultIsNotTakenUp {V : Type 0} (m : DiskMeaning V) (seen : V → List ℕ) (faults : V → ℕ) (past : ℕ) (disks : List V) (last_proposer : ℕ) (fault : OpenFault) (desks : List (DeskView V)) (left : List V) : Type 0 where
  pub number : ℕ
  pub to : number ≤ last_proposer
  pub made : AreTakenUpBelow m seen faults past disks number desks
  pub disk : V
  pub at_disk : IsAt disks number disk
  pub now : V
  pub never_falls : faults disk ≤ faults now
  pub cause : IsFaultOfVault m seen (64 + number) (faults disk) (faults now) now fault
  pub rest : left ≡ now ∷ drop (number + 1) disks

-- Why a world is not opened, and what comes back: each shelf as it was, and each disk in its place, those that were not reached as they were.
pub data DoesNotGoOn {S V : Type 0} (m : DiskMeaning V) (seen : V → List ℕ) (faults : V → ℕ) (past last_proposer : ℕ) (shelves : List S) (disks : List V) (fault : OpenFault) (shelves_back : List S) (disks_back : List V) : Type 0 where
  none_touched : fault ≡ NoMemory → shelves_back ≡ shelves → disks_back ≡ disks → DoesNotGoOn m seen faults past last_proposer shelves disks fault shelves_back disks_back
  one_refused : (desks : List (DeskView V)) (left : List V) → AVaultIsNotTakenUp m seen faults past disks last_proposer fault desks left → shelves_back ≡ shelves → disks_back ≡ disks_of desks ++ left
      → DoesNotGoOn m seen faults past last_proposer shelves disks fault shelves_back disks_back
