-- What a store that is opened again goes on from.
use Rattle.std.specs.Prelude.{◌≡◌, ◌≤◌, ℕ, true, List, length, reverse}
use Rattle.cas_acceptor.specs.Acceptor.{AcceptorView}
use Rattle.cas_ballot.specs.Members.{has_member}
use Rattle.cas_disk_shelf.specs.declared.shelf.DiskShelf.{DiskShelf}
use Rattle.cas_model.specs.View.{Meaning, View, IsAt, era_at}
use Rattle.cas_model_stops.specs.Stopped.{HasPrepareQuorum}
use Rattle.cas_store.specs.Kept.{AreHeld}
use Rattle.cas_store.specs.Rack.{RackMeaning}
use Rattle.cas_store.specs.declared.rack.Rack.{Rack}
use Rattle.cas_reopen.specs.Opened.{IsReopenedOver}
use Rattle.cas_reopen.specs.Standing.{StandsAtFloors}

-- each of these acceptors had started
abbrev pub HaveStarted : {D : Type 0} → View (DiskShelf D) D → List ℕ → Type 0
HaveStarted {D} world members = (id : ℕ) → has_member members id ≡ true → (acceptor : AcceptorView (DiskShelf D)) × IsAt world.acceptors id acceptor × (acceptor.started ≡ true)

-- A store was closed over this rack, and all members that are named now had started. They have a prepare quorum of an era in which a proposer
-- worked, and are members of that era.
pub record MayGoOn {D : Type 0} (may_leave : D → List ℕ → Type 0) (world : View (DiskShelf D) D) (rack : Rack D) (members : List ℕ) : Type 0 where
  pub held : AreHeld may_leave world rack.acceptors.items
  pub all : length rack.acceptors.items ≡ 64
  pub started : HaveStarted world members
  pub proposer : ℕ
  pub works : proposer ≤ world.last_proposer
  pub quorum : HasPrepareQuorum (era_at world proposer) members

-- What was settled of a key when a store was closed stands at the floors with which a store is opened again over its rack, whatever a crash left
-- of that, if it may go on so.
abbrev pub ReopenedStoresGoOn : {D : Type 0} → Meaning (DiskShelf D) D → RackMeaning D → Type 0
ReopenedStoresGoOn {D} meant m = (world : View (DiskShelf D) D) (rack : Rack D) (members : List ℕ) (proposers : ℕ) (next : View (DiskShelf D) D) (key : List ℕ) → m.tells
    → MayGoOn m.may_leave world rack members → (again : IsReopenedOver meant m members proposers rack next) → StandsAtFloors (reverse world.marks) again.floors key
