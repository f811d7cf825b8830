-- What is true of every cluster as it is seen, where its disks tell what they keep.
use Rattle.std.specs.Prelude.{◌≡◌, ◌⊎◌, ℕ, ◌≤◌, true, false, List, [], ◌∷◌, ◌++◌, reverse, Some, Ok, Contains}
use Rattle.cas_ballot.specs.declared.ballot.Ballot.{Ballot}
use Rattle.cas_ballot.specs.Ballot.{BallotAtMost, BallotLess}
use Rattle.cas_ballot.specs.Members.{has_member}
use Rattle.cas_quorum.specs.Era.{holds_acc}
use Rattle.cas_slot.specs.Contents.{Contents}
use Rattle.cas_slot.specs.Shelf.{Left}
use Rattle.cas_slot.specs.Slot.{accepted_ballot}
use Rattle.cas_slot.specs.Table.{accepted_at}
use Rattle.cas_acceptor.specs.Acceptor.{AcceptorView}
use Rattle.cas_cache.specs.declared.ready.Ready.{Ready}
use Rattle.cas_change.specs.declared.outcome.Took.{Took}
use Rattle.cas_change.specs.declared.state.State.{State}
use Rattle.cas_proposer.specs.Desk.{DeskView}
use Rattle.cas_proposer.specs.declared.round.Round.{Round}
use Rattle.cas_proposer.specs.Round.{is_preparing}
use Rattle.cas_record.specs.declared.answer.Answer.TheVariants as answer
use Rattle.cas_vault.specs.Vault.{IsPast}
use Rattle.cas_record.specs.declared.mark.Acknowledgment.{Acknowledgment}
use Rattle.cas_record.specs.declared.mark.Mark.{Mark}
use Rattle.cas_record.specs.declared.mark.Mark.TheVariants.{Acked}
use Rattle.cas_record.specs.Histories.Chain.{chain_of}
use Rattle.cas_record.specs.Legal.{IsLegal, HasFloor}
use Rattle.cas_record.specs.Logs.Orderly.{IsAboveFloors, IsNoneOrAbove}
use Rattle.cas_record.specs.Places.{Stands, IsPrefix}
use Rattle.cas_model.specs.History.{IsRemembered}
use Rattle.cas_model.specs.Openings.{Opening, IsOpeningOn}
use Rattle.cas_model.specs.Safe.{IsSafe}
use Rattle.cas_model.specs.Step.{Event, Step, Count, IsOpening, History}
use Rattle.cas_model.specs.View.{Meaning, View, CallView, CallerView, IsAt, era_at}

-- A cluster that has just opened is remembered.
abbrev pub OpeningsAreRemembered : {S V : Type 0} → Meaning S V → Type 0
OpeningsAreRemembered {S} {V} m = m.shelves.tells → m.disks.tells → (members : List ℕ) (view : View S V) → IsOpening m members view → IsRemembered m view

-- And so is one that has just opened on what stood before.
abbrev pub OpeningsOnAreRemembered : {S V : Type 0} → Meaning S V → Type 0
OpeningsOnAreRemembered {S} {V} m = m.shelves.tells → m.disks.tells → (members used : List ℕ) (floors : List Opening) (view : View S V) → IsOpeningOn m members used floors view → IsRemembered m view

-- Whatever is called on a cluster that is remembered, it is remembered then.
abbrev pub StepsAreRemembered : {S V : Type 0} → Meaning S V → Type 0
StepsAreRemembered {S} {V} m = m.shelves.tells → m.disks.tells → (old : View S V) (event : Event) (new : View S V) → IsRemembered m old → Step m old event new → IsRemembered m new

-- Whatever was called on a cluster since it opened, it is remembered, and its record is legal.
abbrev pub HistoriesAreLegal : {S V : Type 0} → Meaning S V → Type 0
HistoriesAreLegal {S} {V} m = m.shelves.tells → m.disks.tells → (members : List ℕ) (view : View S V) → History m members view → IsRemembered m view × IsLegal (reverse view.marks)

-- The acceptor has started, and whatever a crash now leaves on its shelf has contents, in which what is kept of the key is at or above
-- the ballot, and its history goes on from the ballot's.
pub record IsKeptBy {S V : Type 0} (m : Meaning S V) (marks : List Mark) (key : List ℕ) (ballot : Ballot) (acceptor : AcceptorView S) : Type 0 where
  pub started : acceptor.started ≡ true
  pub whole : (left : Left) → m.shelves.may_leave acceptor.shelf left → (contents : Contents) × (left ≡ Ok contents)
  pub at_least : (left : Contents) → m.shelves.may_leave acceptor.shelf (Ok left) → BallotAtMost ballot (accepted_ballot (accepted_at left key))
  pub begins : (left : Contents) → m.shelves.may_leave acceptor.shelf (Ok left) → IsPrefix (chain_of key ballot marks) (chain_of key (accepted_ballot (accepted_at left key)) marks)

-- What is acknowledged stands on the shelves of those that confirmed it, who are an accept quorum of its era, until a floor is made at or
-- above it.
pub record AcknowledgedIsKept {S V : Type 0} (m : Meaning S V) (view : View S V) (a : Acknowledgment) : Type 0 where
  pub quorum : (id : ℕ) → id ≤ view.last_proposer → a.era ≡ (era_at view id).number → holds_acc (era_at view id) a.by ≡ true
  pub kept : (id : ℕ) (acceptor : AcceptorView S) → has_member a.by id ≡ true → IsAt view.acceptors id acceptor → IsKeptBy m (reverse view.marks) a.key a.ballot acceptor

abbrev pub WhatIsDoneIsKept : {S V : Type 0} → Meaning S V → Type 0
WhatIsDoneIsKept {S} {V} m = m.shelves.tells → (view : View S V) (a : Acknowledgment) → IsRemembered m view → Stands (Acked a) (reverse view.marks) → IsAboveFloors (reverse view.marks) a.key a.ballot → AcknowledgedIsKept m view a

-- A count answered that the change is done at this ballot: the acknowledgment that it marked is at that ballot and above each floor of its
-- key; those that confirmed it are an accept quorum of the proposer's era; and each of them keeps it, whatever a crash now leaves there.
pub record IsDoneAt {S V : Type 0} (m : Meaning S V) (old : View S V) (id : ℕ) (ballot : Ballot) (new : View S V) : Type 0 where
  pub acknowledgment : Acknowledgment
  pub marked : new.marks ≡ old.marks ++ Acked acknowledgment ∷ []
  pub same_ballot : acknowledgment.ballot ≡ ballot
  pub above_floors : IsAboveFloors (reverse new.marks) acknowledgment.key acknowledgment.ballot
  pub same_era : acknowledgment.era ≡ (era_at new id).number
  pub quorum : holds_acc (era_at new id) acknowledgment.by ≡ true
  pub kept : (acceptor : ℕ) (one : AcceptorView S) → has_member acknowledgment.by acceptor ≡ true → IsAt new.acceptors acceptor one → IsKeptBy m (reverse new.marks) acknowledgment.key acknowledgment.ballot one

abbrev pub DonesStand : {S V : Type 0} → Meaning S V → Type 0
DonesStand {S} {V} m = m.shelves.tells → m.disks.tells → (old new : View S V) (id : ℕ) (caller : CallerView) (call : CallView) (state : State) (took : Took) (ballot : Ballot) → IsRemembered m old → id ≤ old.last_proposer
    → Step m old (Count id) new → IsAt new.callers id caller → caller.call ≡ Some call → call.told ≡ Some (answer.Done state took ballot) → IsDoneAt m old id ballot new

-- The proposer draws nothing at or below the floor, whatever a crash now leaves of its vault; and the promise that it holds of the key, the
-- round that it has open for the key and the ballot that rides with that are above the floor.
pub record IsPastFloor {S V : Type 0} (m : Meaning S V) (desk : DeskView V) (key : List ℕ) (floor : Ballot) : Type 0 where
  pub vault : IsPast m.disks.may_leave floor.counter desk.vault
  pub promise : (ready : Ready) → Contains desk.cache (key, ready) → BallotLess floor ready.ballot × BallotAtMost floor ready.read
  pub round : (round : Round) → desk.round ≡ Some round → round.key ≡ key → BallotLess floor round.ballot
  pub ride : (round : Round) (ride : Ballot) → desk.round ≡ Some round → round.key ≡ key → is_preparing round.phase ≡ false → round.ride ≡ Some ride → BallotLess floor ride

-- All proposers are past each floor.
abbrev pub FloorsArePassed : {S V : Type 0} → Meaning S V → Type 0
FloorsArePassed {S} {V} m = m.shelves.tells → m.disks.tells → (view : View S V) (key : List ℕ) (floor : Ballot) (id : ℕ) (desk : DeskView V) (caller : CallerView) → IsRemembered m view → HasFloor key floor (reverse view.marks) → IsAt view.desks id desk → IsAt view.callers id caller
    → IsPastFloor m desk key floor

-- Whatever a crash now leaves of an acceptor that is up, and a member of an era in which a proposer works, it accepted nothing of the key below
-- the floor: it has no state of the key, or one at or above the floor.
abbrev pub MembersAreClear : {S V : Type 0} → Meaning S V → Type 0
MembersAreClear {S} {V} m = m.shelves.tells → m.disks.tells → (view : View S V) (key : List ℕ) (floor : Ballot) (proposer id : ℕ) (acceptor : AcceptorView S) → IsSafe view → IsRemembered m view → HasFloor key floor (reverse view.marks) → proposer ≤ view.last_proposer
    → (has_member (era_at view proposer).prep id ≡ true) ⊎ (has_member (era_at view proposer).acc id ≡ true) → IsAt view.acceptors id acceptor → acceptor.down ≡ false
    → (left : Contents) → m.shelves.may_leave acceptor.shelf (Ok left) → IsNoneOrAbove floor (accepted_ballot (accepted_at left key))
