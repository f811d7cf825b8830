-- What is true of collections and of the floors that they make, where disks tell what they keep.
use Rattle.std.specs.Prelude.{◌≡◌, ◌⊎◌, ⊤, ℕ, ◌<◌, ◌≤◌, true, false, List, length, reverse, Some, Ok, Contains}
use Rattle.cas_acceptor.specs.Acceptor.{AcceptorView}
use Rattle.cas_ballot.specs.declared.ballot.Ballot.{Ballot}
use Rattle.cas_ballot.specs.Ballot.{zero_ballot, BallotAtMost, BallotLess}
use Rattle.cas_ballot.specs.Members.{has_member}
use Rattle.cas_change.specs.declared.state.State.TheVariants.{Empty}
use Rattle.cas_collect.specs.declared.collect.CollectStep.TheVariants.{End}
use Rattle.cas_flow.specs.Flow.{queue_at}
use Rattle.cas_flow.specs.declared.message.Message.{Message}
use Rattle.cas_flow.specs.declared.message.Message.TheVariants as message
use Rattle.cas_record.specs.declared.mark.Mark.{Mark}
use Rattle.cas_record.specs.declared.mark.Mark.TheVariants.{Floor}
use Rattle.cas_record.specs.declared.operator.OpAnswer.{OpAnswer}
use Rattle.cas_record.specs.declared.operator.OpAnswer.TheVariants as told
use Rattle.cas_record.specs.Legal.{HasFloor}
use Rattle.cas_record.specs.Logs.Orderly.{IsRoundAsk}
use Rattle.cas_record.specs.Places.{Stands}
use Rattle.cas_slot.specs.Ages.{least_age}
use Rattle.cas_slot.specs.Contents.{Contents}
use Rattle.cas_slot.specs.Message.{tag_of}
use Rattle.cas_slot.specs.Rules.{key_of}
use Rattle.cas_slot.specs.Table.{seen_at}
use Rattle.cas_slot.specs.declared.message.Request.{Request}
use Rattle.cas_slot.specs.declared.message.Tell.TheVariants as tell
use Rattle.cas_model.specs.Collection.State.{CollectionView, tomb_of}
use Rattle.cas_model.specs.Council.{ExchangeView, OrderView}
use Rattle.cas_model.specs.History.{IsRemembered}
use Rattle.cas_model.specs.Eras.Listings.{told_by}
use Rattle.cas_model.specs.Safe.{IsSafe}
use Rattle.cas_model.specs.Step.{Step, GatherCollect}
use Rattle.cas_model.specs.Collection.Step.{those_telling, is_removed, is_kept}
use Rattle.cas_model.specs.Exchanges.Step.{everyone, IsCollectedBy}
use Rattle.cas_model.specs.View.{Meaning, View, IsAt, era_at}

-- ---- what is under way
-- the message waits in a queue, or is late
pub data MessageIsUnderWay {S V : Type 0} (view : View S V) (each : Message) : Type 0 where
  waits : (place : ℕ) → Contains (queue_at view.flow place).messages each → MessageIsUnderWay view each
  is_late : Contains view.flow.late each → MessageIsUnderWay view each

-- the acceptor is up, and a member of an era in which a proposer works
pub record IsMemberUp {S V : Type 0} (view : View S V) (id : ℕ) (acceptor : AcceptorView S) : Type 0 where
  pub proposer : ℕ
  pub known : proposer ≤ view.last_proposer
  pub member : (has_member (era_at view proposer).prep id ≡ true) ⊎ (has_member (era_at view proposer).acc id ≡ true)
  pub at : IsAt view.acceptors id acceptor
  pub up : acceptor.down ≡ false

-- A request of a round that is under way to such a member, for the key and at a ballot that is at or below a floor of it, is too old: its
-- age is below the least age that the member asks its proposer for, whatever a crash now leaves of the member's shelf.
abbrev pub RequestsAreAged : {S V : Type 0} → Meaning S V → Type 0
RequestsAreAged {S} {V} m = m.shelves.tells → m.disks.tells → (view : View S V) (key : List ℕ) (floor : Ballot) (id : ℕ) (acceptor : AcceptorView S) (request : Request) (left : Contents)
    → IsSafe view → IsRemembered m view → HasFloor key floor (reverse view.marks) → IsMemberUp view id acceptor → MessageIsUnderWay view (message.Request request) → request.to ≡ id → IsRoundAsk request.ask → key_of request.ask ≡ key
    → BallotAtMost (tag_of request.ask) floor → m.shelves.may_leave acceptor.shelf (Ok left) → request.age < least_age left.ages request.from

-- ---- removals
-- What the members told to a removal: each removed its slot or kept it, and so many did the one and the other. And none that is up has seen
-- anything of the key but above the tombstone, whatever a crash now leaves of its shelf.
pub record IsRemovalDone {S V : Type 0} (m : Meaning S V) (view : View S V) (exchange : ExchangeView) (collection : CollectionView) : Type 0 where
  pub told : (id : ℕ) → has_member (everyone view) id ≡ true → (told_by exchange.told id ≡ Some tell.Removed) ⊎ (told_by exchange.told id ≡ Some tell.Kept)
  pub removed : collection.removed ≡ length (those_telling is_removed exchange.told)
  pub kept : collection.kept ≡ length (those_telling is_kept exchange.told)
  pub gone : (id : ℕ) (acceptor : AcceptorView S) (left : Contents) → has_member (everyone view) id ≡ true → IsAt view.acceptors id acceptor → acceptor.down ≡ false → m.shelves.may_leave acceptor.shelf (Ok left)
      → (seen_at left collection.course.key ≡ zero_ballot) ⊎ BallotLess (tomb_of collection.tombstone) (seen_at left collection.course.key)

-- Where what the members told brings a collection to its end, its removal is done.
abbrev pub RemovalsAreDone : {S V : Type 0} → Meaning S V → Type 0
RemovalsAreDone {S} {V} m = m.shelves.tells → m.disks.tells → (old new : View S V) (exchange : ExchangeView) (collection : CollectionView) → IsRemembered m old → Step m old GatherCollect new → old.council.exchange ≡ Some exchange
    → new.council.collection ≡ Some collection → collection.course.step ≡ End → IsRemovalDone m old exchange collection

-- ---- what the operator is told
-- a key that is told to be collected has its tombstone as a floor, with the empty state
abbrev pub HasItsFloor : OpAnswer → List Mark → Type 0
HasItsFloor (told.Collected key ballot removed kept) marks = Stands (Floor key ballot Empty) marks
HasItsFloor other marks = ⊤

-- It has where a collection is at its end.
abbrev pub CollectedHaveFloors : {S V : Type 0} → Meaning S V → Type 0
CollectedHaveFloors {S} {V} m = (view : View S V) (order : OrderView) (answer : OpAnswer) → IsRemembered m view → IsCollectedBy view.council order answer → HasItsFloor answer (reverse view.marks)
