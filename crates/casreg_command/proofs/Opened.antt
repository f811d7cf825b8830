-- What the world of a store is that was opened over a rack: no call is open in it, and it goes on from floors, or from none.
use Rattle.std.proofs.Common.{◌≡◌, ℕ, List, [], sym, subst}
use Rattle.cas_ballot.specs.Members.{union_of}
use Rattle.cas_disk_shelf.specs.declared.shelf.DiskShelf.{DiskShelf}
use Rattle.cas_model.proofs.Openings.Opens.{opening_on_none, remembered_on}
use Rattle.cas_model.proofs.Openings.Safe.{opens_on_are_safe}
use Rattle.cas_model.specs.Council.{IsAtRest}
use Rattle.cas_model.specs.History.{IsRemembered}
use Rattle.cas_model.specs.Openings.{Opening, IsOpeningOn}
use Rattle.cas_model.specs.Safe.{IsSafe}
use Rattle.cas_model.specs.SafeLaws.{HasPlaces}
use Rattle.cas_model.specs.View.{Meaning, View}
use Rattle.cas_world.specs.Openings.Opening.{members_to}
use Rattle.cas_store.specs.Rack.{RackMeaning}
use Rattle.cas_store.specs.declared.rack.Rack.{Rack}
use Rattle.cas_reopen.specs.Opened.{IsNewOver, GoesOnOver, IsOpenedOver, is_new, is_named, is_reopened}
use Rattle.casreg_script.proofs.Opened.{opened_idle, opened_quiet}
use Rattle.casreg_script.specs.Stage.{AllIdle}

-- it begins over these members, with so many proposers
pub record BeginsOver {D : Type 0} (meant : Meaning (DiskShelf D) D) (members : List ℕ) (proposers : ℕ) (world : View (DiskShelf D) D) : Type 0 where
  pub used : List ℕ
  pub floors : List Opening
  pub opening : IsOpeningOn meant members used floors world
  pub places : HasPlaces world
  pub last_proposer : world.last_proposer ≡ proposers

begins_new : {D : Type 0} (meant : Meaning (DiskShelf D) D) (acceptors proposers : ℕ) (rack : Rack D) (world : View (DiskShelf D) D) → IsNewOver meant acceptors proposers rack world
    → BeginsOver meant (members_to acceptors) proposers world
begins_new meant acceptors proposers rack world over = record {
  used = members_to acceptors;
  floors = [];
  opening = opening_on_none meant (members_to acceptors) world over.opening;
  places = over.places;
  last_proposer = over.last_proposer;
}

begins_on : {D : Type 0} (meant : Meaning (DiskShelf D) D) (seen : D → List ℕ) (members used : List ℕ) (floors : List Opening) (proposers past : ℕ) (rack : Rack D) (world : View (DiskShelf D) D)
    → GoesOnOver meant seen members used floors proposers past rack world → BeginsOver meant members proposers world
begins_on meant seen members used floors proposers past rack world over = record {
  used = union_of used members;
  floors = floors;
  opening = over.opening;
  places = over.places;
  last_proposer = over.last_proposer;
}

pub begins_over : {D : Type 0} (meant : Meaning (DiskShelf D) D) (m : RackMeaning D) (acceptors proposers : ℕ) (members : List ℕ) (rack : Rack D) (world : View (DiskShelf D) D)
    → IsOpenedOver meant m acceptors proposers members rack world → BeginsOver meant members proposers world
begins_over meant m acceptors proposers members rack world (is_new asked empty same over) =
    subst (λ (l : List ℕ). BeginsOver meant l proposers world) (sym same) (begins_new meant acceptors proposers asked world over)
begins_over meant m acceptors proposers members rack world (is_named asked empty over) = begins_on meant m.seen members [] [] proposers 0 asked world over
begins_over meant m acceptors proposers members rack world (is_reopened over) = begins_on meant m.seen members over.filled over.floors proposers over.past over.asked world over.goes_on

-- ---- what a command asks of it
pub begins_idle : {D : Type 0} {meant : Meaning (DiskShelf D) D} {members : List ℕ} {proposers : ℕ} {world : View (DiskShelf D) D} → BeginsOver meant members proposers world → AllIdle world
begins_idle {meant = meant} {members} {world = world} begins = opened_idle meant members begins.used begins.floors world begins.opening begins.places

pub begins_quiet : {D : Type 0} {meant : Meaning (DiskShelf D) D} {members : List ℕ} {proposers : ℕ} {world : View (DiskShelf D) D} → BeginsOver meant members proposers world → IsAtRest world.council
begins_quiet {meant = meant} {members} {world = world} begins = opened_quiet meant members begins.used begins.floors world begins.opening

pub begins_safe : {D : Type 0} {meant : Meaning (DiskShelf D) D} {members : List ℕ} {proposers : ℕ} {world : View (DiskShelf D) D} → BeginsOver meant members proposers world → IsSafe world
begins_safe {meant = meant} {members} {world = world} begins = opens_on_are_safe meant members begins.used begins.floors world begins.opening begins.places

pub begins_remembered : {D : Type 0} {meant : Meaning (DiskShelf D) D} {members : List ℕ} {proposers : ℕ} {world : View (DiskShelf D) D} → meant.shelves.tells → meant.disks.tells → BeginsOver meant members proposers world
    → IsRemembered meant world
begins_remembered {meant = meant} {members} {world = world} shelves disks begins = remembered_on meant shelves disks members begins.used begins.floors world begins.opening

-- the same store by other names of what was asked for
pub opened_as : {D : Type 0} (meant : Meaning (DiskShelf D) D) (m : RackMeaning D) (acceptors other proposers more : ℕ) (members named : List ℕ) (rack : Rack D) (world : View (DiskShelf D) D)
    → acceptors ≡ other → proposers ≡ more → members ≡ named → IsOpenedOver meant m acceptors proposers members rack world → IsOpenedOver meant m other more named rack world
opened_as meant m acceptors other proposers more members named rack world are_acceptors are_proposers are_members over =
    subst (λ (n : ℕ). IsOpenedOver meant m n more named rack world) are_acceptors
    (subst (λ (n : ℕ). IsOpenedOver meant m acceptors n named rack world) are_proposers
    (subst (λ (l : List ℕ). IsOpenedOver meant m acceptors proposers l rack world) are_members over))
