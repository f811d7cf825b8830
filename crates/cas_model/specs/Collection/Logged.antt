-- What the log tells of a collection, and what each proposer that was renewed for it holds.
use Rattle.std.specs.Prelude.{◌≡◌, ⊤, ◌⊎◌, ℕ, ◌<◌, ◌≤◌, Bool, true, false, List, [], Option, None, Some, Contains}
use Rattle.cas_ballot.specs.declared.ballot.Ballot.{Ballot}
use Rattle.cas_ballot.specs.Ballot.{BallotAtMost, BallotLess}
use Rattle.cas_ballot.specs.Members.{has_member}
use Rattle.cas_cache.specs.declared.ready.Ready.{Ready}
use Rattle.cas_change.specs.declared.state.State.TheVariants.{Empty}
use Rattle.cas_collect.specs.declared.collect.CollectStep.{CollectStep}
use Rattle.cas_collect.specs.declared.collect.CollectStep.TheVariants.{Round, Ages, Floor, Remove, End}
use Rattle.cas_proposer.specs.Desk.{DeskView}
use Rattle.cas_proposer.specs.declared.round.Round.{Round as OpenRound}
use Rattle.cas_slot.specs.declared.ages.Ages.{Ages as LeastAges}
use Rattle.cas_slot.specs.declared.message.Ask.TheVariants as ask
use Rattle.cas_slot.specs.declared.message.Request.{Request}
use Rattle.cas_slot.specs.Message.{tag_of}
use Rattle.cas_slot.specs.Rules.{key_of}
use Rattle.cas_vault.specs.Vault.{IsPast}
use Rattle.cas_record.specs.Logs.Happening.{Happening, Asked, Drew, Took, marks_of}
use Rattle.cas_record.specs.declared.mark.Mark.TheVariants.{Proposed, Floor as FloorMark}
use Rattle.cas_record.specs.declared.mark.Proposal.{Proposal}
use Rattle.cas_record.specs.Logs.Lawful.{Cluster, AllEntered}
use Rattle.cas_record.specs.Legal.{IsAcked}
use Rattle.cas_record.specs.Logs.Orderly.{age_told, IsRoundAsk}
use Rattle.cas_record.specs.Places.{Stands}
use Rattle.cas_protocol.specs.Acceptors.{IsMadeState}
use Rattle.cas_model.specs.Collection.State.{Tombstone, Acknowledged, CollectionView, tomb_of, ages_of}
use Rattle.cas_model.specs.Parties.{IsAged}
use Rattle.cas_protocol.specs.Protocol.{HasEnded}
use Rattle.cas_model.specs.View.{DiskMeaning, Meaning, View, IsAt}

-- ---- its steps
-- whether all members were told the new ages before that step, and whether the floor was made
abbrev pub is_after_ages : CollectStep → Bool
is_after_ages Floor = true
is_after_ages Remove = true
is_after_ages End = true
is_after_ages other = false

abbrev pub is_after_floor : CollectStep → Bool
is_after_floor Remove = true
is_after_floor End = true
is_after_floor other = false

-- whether members may have been told the new ages at that step
abbrev pub may_tell_ages : CollectStep → Bool
may_tell_ages Ages = true
may_tell_ages other = is_after_ages other

abbrev pub is_round : CollectStep → Bool
is_round Round = true
is_round other = false

-- ---- the tombstone
-- it was drawn and made in the era by a call of the operator's caller, and is acknowledged; those that acknowledged it took it
pub record IsTombstoneTrue (log : List Happening) (key : List ℕ) (era : ℕ) (tomb : Ballot) (by : List ℕ) : Type 0 where
  pub own : tomb.proposer ≡ 0
  pub drawn : Stands (Drew tomb key era) log
  pub made : IsMadeState (marks_of log) key tomb era Empty
  pub proposal : Proposal
  pub proposed : Stands (Proposed proposal) (marks_of log)
  pub same_ballot : proposal.ballot ≡ tomb
  pub by_operator : proposal.caller ≡ 0
  pub acked : IsAcked key tomb (marks_of log)
  pub taken : (acceptor : ℕ) → has_member by acceptor ≡ true → (ride : Ballot) × Stands (Took acceptor key tomb ride) log

abbrev pub IsSoughtTrue : List Happening → List ℕ → ℕ → Tombstone → Type 0
IsSoughtTrue log key era (Acknowledged tomb by) = IsTombstoneTrue log key era tomb by
IsSoughtTrue log key era other = ⊤

-- ---- requests
-- the request is for no ballot of the key at or below the tombstone, where its proposer was renewed, and tells no ages
pub record AsksAbove (collection : CollectionView) (request : Request) : Type 0 where
  pub above : (age : ℕ) → IsAt collection.ages request.from age → IsRoundAsk request.ask → key_of request.ask ≡ collection.course.key → BallotLess (tomb_of collection.tombstone) (tag_of request.ask)
  pub tells_none : (tag : Ballot) (least : LeastAges) → request.ask ≡ ask.Ages tag least → ⊥

abbrev pub AsksAboveFor : Option CollectionView → Request → Type 0
AsksAboveFor None request = ⊤
AsksAboveFor (Some collection) request = AsksAbove collection request

-- ---- the collection
-- Its era is the first or all entered it. Before any proposer is renewed its call has ended, and all members took the tombstone. What a renewed proposer asked for the key at or below the tombstone is older than its new age;
-- the new ages are told alone under the tombstone's ballot; once all confirmed them no member answers what is older; and then the
-- tombstone is the floor of the key.
pub record IsCollectionTrue (cluster : Cluster) (log : List Happening) (collection : CollectionView) : Type 0 where
  pub tombstone : IsSoughtTrue log collection.course.key collection.course.era.number collection.tombstone
  pub entered : (collection.course.era.number ≡ 0) ⊎ AllEntered cluster collection.course.era.number (marks_of log)
  pub taken : is_round collection.course.step ≡ false → (acceptor : ℕ) → has_member (cluster.members collection.course.era.number) acceptor ≡ true
      → (ride : Ballot) × Stands (Took acceptor collection.course.key (tomb_of collection.tombstone) ride) log
  pub none_yet : is_round collection.course.step ≡ true → collection.ages ≡ []
  pub ended : is_round collection.course.step ≡ false → HasEnded (marks_of log) (tomb_of collection.tombstone)
  pub older : (proposer age : ℕ) (request : Request) → IsAt collection.ages proposer age → Stands (Asked request) log → request.from ≡ proposer → IsRoundAsk request.ask → key_of request.ask ≡ collection.course.key
      → BallotAtMost (tag_of request.ask) (tomb_of collection.tombstone) → request.age < age
  pub told_alone : (tomb : Ballot) (by : List ℕ) (request : Request) (least : LeastAges) → collection.tombstone ≡ Acknowledged tomb by → Stands (Asked request) log → request.ask ≡ ask.Ages tomb least
      → (may_tell_ages collection.course.step ≡ true) × (least ≡ ages_of collection.ages)
  pub told : is_after_ages collection.course.step ≡ true → (acceptor proposer age : ℕ) → has_member (cluster.members collection.course.era.number) acceptor ≡ true → IsAt collection.ages proposer age
      → age ≤ age_told log acceptor proposer
  pub floor : is_after_floor collection.course.step ≡ true → Stands (FloorMark collection.course.key (tomb_of collection.tombstone) Empty) (marks_of log)

abbrev pub IsCollectingTrue : Cluster → List Happening → Option CollectionView → Type 0
IsCollectingTrue cluster log None = ⊤
IsCollectingTrue cluster log (Some collection) = IsCollectionTrue cluster log collection

-- ---- proposers
-- The proposer is past the tombstone and keeps the new age, wherever its vault stops; and what it holds for the key is above the tombstone.
pub record IsRenewed {V : Type 0} (m : DiskMeaning V) (key : List ℕ) (tomb : Ballot) (age : ℕ) (desk : DeskView V) : Type 0 where
  pub past : IsPast m.may_leave tomb.counter desk.vault
  pub aged : IsAged m age desk.vault
  pub ballot : (round : OpenRound) → desk.round ≡ Some round → round.key ≡ key → BallotLess tomb round.ballot
  pub ride : (round : OpenRound) (ride : Ballot) → desk.round ≡ Some round → round.key ≡ key → round.ride ≡ Some ride → BallotLess tomb ride
  pub cached : (ready : Ready) → Contains desk.cache (key, ready) → BallotLess tomb ready.ballot × BallotAtMost tomb ready.read

-- each that was renewed is so
abbrev pub AreRenewed : {S V : Type 0} → Meaning S V → View S V → Type 0
AreRenewed {S} {V} m view = (collection : CollectionView) (proposer age : ℕ) (desk : DeskView V) → view.council.collection ≡ Some collection → IsAt collection.ages proposer age → IsAt view.desks proposer desk
    → IsRenewed m.disks collection.course.key (tomb_of collection.tombstone) age desk
