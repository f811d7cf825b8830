-- What a cluster keeps true also where its disks tell nothing: how far each call has come at its desk, that every mark that may still be
-- made is reserved, that there is room for every reply, and that all is within its limits.
use Rattle.std.specs.Prelude.{◌≡◌, ℕ, suc, ◌+◌, ◌*◌, ◌<◌, ◌≤◌, Bool, true, false, List, [], ◌∷◌, length, is_some, Option, None, Some, Contains}
use Rattle.cas_ballot.specs.declared.ballot.Ballot.{Ballot}
use Rattle.cas_ballot.specs.Ballot.{FitsBallot}
use Rattle.cas_ballot.specs.Members.{has_member, union_of, IsMemberSet}
use Rattle.cas_cache.specs.declared.ready.Ready.{Ready}
use Rattle.cas_flow.specs.Flow.{queue_at}
use Rattle.cas_flow.specs.Message.{head_of}
use Rattle.cas_flow.specs.Queue.{QueueView}
use Rattle.cas_flow.specs.declared.message.Message.{Message}
use Rattle.cas_flow.specs.declared.message.Message.TheVariants as message
use Rattle.cas_acceptor.specs.Acceptor.{AcceptorView}
use Rattle.cas_collect.specs.Order.{IsStepOf}
use Rattle.cas_collect.specs.declared.collect.CollectStep.{CollectStep}
use Rattle.cas_collect.specs.declared.collect.CollectStep.TheVariants.{Round as CollectRound, Renew}
use Rattle.cas_members.specs.declared.plan.PlanStep.TheVariants.{Settle}
use Rattle.cas_members.specs.Plan.{next_of}
use Rattle.cas_proposer.specs.Desk.{DeskView}
use Rattle.cas_proposer.specs.Round.{is_preparing}
use Rattle.cas_proposer.specs.declared.round.Round.{Round}
use Rattle.cas_quorum.specs.declared.era.Era.{Era}
use Rattle.cas_quorum.specs.Era.{IsSized, Meet}
use Rattle.cas_record.specs.declared.operator.Asked.TheVariants.{Collect}
use Rattle.cas_record.specs.declared.operator.Probe.{Probe as Answered}
use Rattle.cas_round.specs.Replies.{is_prepare}
use Rattle.cas_slot.specs.Message.{phase_of}
use Rattle.cas_slot.specs.Slots.{rises}
use Rattle.cas_slot.specs.declared.message.Reply.{Reply}
use Rattle.cas_slot.specs.declared.message.Request.{Request}
use Rattle.cas_model.specs.Collection.Logged.{is_after_floor}
use Rattle.cas_model.specs.Collection.State.{Tombstone, Acknowledged, CollectionView, tomb_of}
use Rattle.cas_model.specs.Council.{MemberPlace, ListingView, Question, NextKeys, NewAges, Removal, ask_of, IsReplyTo, ExchangeView, OrderView, PlanView, Council, exchange_place}
use Rattle.cas_model.specs.Eras.Course.{HasFewMembers, IsCourse, course_of}
use Rattle.cas_model.specs.Parties.{asked_in}
use Rattle.cas_model.specs.Calls.Step.{most_marks, most_round_marks}
use Rattle.cas_model.specs.Collection.Step.{IsQuestionOf}
use Rattle.cas_model.specs.Exchanges.Tellings.{AreTellingsSafe}
use Rattle.cas_model.specs.View.{View, CallView, CallerView, IsAt, era_at, reserved_in, reserved_in_all}

-- ---- frames that wait
-- how many of them are requests
abbrev pub requests_in : List Message → ℕ
requests_in [] = 0
requests_in (message.Request request ∷ rest) = suc (requests_in rest)
requests_in (message.Reply reply ∷ rest) = requests_in rest

-- how many requests were handled once, of two times: the first, or none
abbrev pub handled_in : Bool → List Message → ℕ
handled_in true (message.Request request ∷ rest) = 1
handled_in again messages = 0

abbrev pub handled_once : QueueView → ℕ
handled_once queue = handled_in queue.again queue.messages

-- ---- an open round
-- It is of the caller's open call. Each frame is to or from a member that its phase asks, and so is each that was harmed. The marks that
-- may still be made are reserved: in the prepare phase those of the proposal, the acknowledgment, the end and a floor, two votes and a harm
-- for each member that accepts, and a harm for each other that prepares; in the accept phase those of the acknowledgment, the end and a
-- floor, a vote for each time that a request may be handled, and a harm for each other member.
pub record IsOpenSafe (era : Era) (caller : CallerView) (queue : QueueView) (round : Round) : Type 0 where
  pub call : CallView
  pub is_open : caller.call ≡ Some call
  pub same_key : round.key ≡ call.key
  pub same_era : round.era ≡ era
  pub ballot : FitsBallot round.ballot
  pub ride : (ballot : Ballot) → round.ride ≡ Some ballot → FitsBallot ballot
  pub about : (each : Message) → Contains queue.messages each → has_member (asked_in era round.phase) (head_of each).1 ≡ true
  -- in the prepare phase no request that waits asks for a vote
  pub asks : is_preparing round.phase ≡ true → (request : Request) → Contains queue.messages (message.Request request) → is_prepare (phase_of request.ask) ≡ true
  pub harmed_set : IsMemberSet call.harmed
  pub harmed_within : (acceptor : ℕ) → has_member call.harmed acceptor ≡ true → has_member (asked_in era round.phase) acceptor ≡ true
  pub unproposed : is_preparing round.phase ≡ true → call.proposed ≡ None
  pub prepare_room : is_preparing round.phase ≡ true → 4 + 3 * length era.acc + length era.prep ≤ call.reserved + length call.harmed
  pub proposed : is_preparing round.phase ≡ false → is_some call.proposed ≡ true
  pub accept_room : is_preparing round.phase ≡ false → 3 + 2 * requests_in queue.messages + length era.acc ≤ call.reserved + length call.harmed + handled_once queue

-- with no open round nothing waits, and the mark of an open call's end is reserved
pub record IsIdleSafe (caller : CallerView) (queue : QueueView) : Type 0 where
  pub none_waits : queue.messages ≡ []
  pub reserved : (call : CallView) → caller.call ≡ Some call → 0 < call.reserved

abbrev pub IsRoundSafe : Era → CallerView → QueueView → Option Round → Type 0
IsRoundSafe era caller queue None = IsIdleSafe caller queue
IsRoundSafe era caller queue (Some round) = IsOpenSafe era caller queue round

-- ---- parties
pub record IsPartySafe {V : Type 0} (era : Era) (marks id : ℕ) (desk : DeskView V) (caller : CallerView) (queue : QueueView) : Type 0 where
  pub same_id : desk.id ≡ id
  pub idle : desk.down ≡ true → desk.round ≡ None
  -- each call that it began has a mark
  pub number : caller.number ≤ marks
  -- no more marks are reserved for its call than for a round
  pub few : reserved_in caller.call ≤ most_round_marks
  pub cached : (key : List ℕ) (ready : Ready) → Contains desk.cache (key, ready) → FitsBallot ready.ballot
  pub round : IsRoundSafe era caller queue desk.round
  -- there is room for the reply to each request that was not handled yet
  pub room : requests_in queue.messages ≤ queue.room + handled_once queue

-- ---- exchanges
-- The quorums of the era in which a key is read have sizes that they have, and meet. All its members are asked.
pub record IsReadSafe (era : Era) (members : List ℕ) : Type 0 where
  pub sized : IsSized era
  pub meets : Meet era era
  pub everyone : members ≡ union_of era.prep era.acc

-- Its members tell. Each frame is to or from one of them, each request asks its question, and each reply is to one that does. The marks of
-- the harms that may still come are reserved, and there is room for the reply to each request that was not handled yet.
pub record IsExchangeSafe (exchange : ExchangeView) (queue : QueueView) : Type 0 where
  pub tag : FitsBallot exchange.tag
  pub member_set : IsMemberSet exchange.members
  pub about : (each : Message) → Contains queue.messages each → has_member exchange.members (head_of each).1 ≡ true
  pub asks : (request : Request) → Contains queue.messages (message.Request request) → request.ask ≡ ask_of exchange.tag exchange.question request.to
  pub replies : (reply : Reply) → Contains queue.messages (message.Reply reply) → IsReplyTo exchange.tag exchange.question reply
  pub harmed_set : IsMemberSet exchange.harmed
  pub harmed_within : (acceptor : ℕ) → has_member exchange.harmed acceptor ≡ true → has_member exchange.members acceptor ≡ true
  pub reserved : length exchange.members ≤ exchange.reserved + length exchange.harmed
  pub few : exchange.reserved ≤ 9
  pub few_members : length exchange.members ≤ 9
  pub tellers : (place : ℕ) (one : Answered) → IsAt exchange.told place one → has_member exchange.members one.acceptor ≡ true
  pub read : (era : Era) → exchange.reads ≡ Some era → IsReadSafe era exchange.members
  pub room : requests_in queue.messages ≤ queue.room + handled_once queue

-- where none is open, no frame waits
abbrev pub IsAskingSafe : Option ExchangeView → QueueView → Type 0
IsAskingSafe None queue = queue.messages ≡ []
IsAskingSafe (Some exchange) queue = IsExchangeSafe exchange queue

-- ---- listings
-- A listing is of the era that is to be settled next. Its keys are in the order of their bytes, and where it is complete one is left.
pub record IsListingSafe (plan : PlanView) (listing : ListingView) : Type 0 where
  pub tag : FitsBallot listing.tag
  pub settles : next_of plan.progress.left ≡ Settle
  pub rises : rises None listing.keys ≡ true
  pub some_left : listing.complete ≡ true → 0 < length listing.keys

abbrev pub AreListingsSafe : Option PlanView → Type 0
AreListingsSafe under_way = (plan : PlanView) (listing : ListingView) → under_way ≡ Some plan → plan.listing ≡ Some listing → IsListingSafe plan listing

-- the next keys are asked for by a listing that is not complete, with its tag and from its places on
pub record IsOfListing (under_way : Option PlanView) (tag : Ballot) (places : List MemberPlace) : Type 0 where
  pub plan : PlanView
  pub is_plan : under_way ≡ Some plan
  pub listing : ListingView
  pub is_listing : plan.listing ≡ Some listing
  pub partial : listing.complete ≡ false
  pub same_tag : listing.tag ≡ tag
  pub same_places : listing.places ≡ places

abbrev pub IsAskingOf : Option PlanView → Option ExchangeView → Type 0
IsAskingOf under_way open_ = (exchange : ExchangeView) (places : List MemberPlace) → open_ ≡ Some exchange → exchange.question ≡ NextKeys places → IsOfListing under_way exchange.tag places

abbrev pub IsCouncilSafe : Council → Type 0
IsCouncilSafe council = AreListingsSafe council.plan × IsAskingOf council.plan council.exchange

-- ---- collections
-- how many proposers were renewed before that step
abbrev pub renewals_before : ℕ → CollectStep → ℕ
renewals_before last_proposer CollectRound = 0
renewals_before last_proposer (Renew proposer) = proposer
renewals_before last_proposer step = last_proposer + 1

-- all who accept in the era acknowledged it
pub record IsAcknowledgedByAll (era : Era) (tombstone : Tombstone) : Type 0 where
  pub ballot : Ballot
  pub by : List ℕ
  pub is : tombstone ≡ Acknowledged ballot by
  pub all : (acceptor : ℕ) → has_member era.acc acceptor ≡ true → has_member by acceptor ≡ true

-- The open call asked for it, and no change of membership is under way. It is of this era, and of the proposers up to the greatest, and at
-- one of its steps. Its own call is open in its round alone. Past its round all who accept acknowledged its tombstone, and from then to its
-- floor the mark of that floor is reserved.
pub record IsCollectionSafe (council : Council) (era : Era) (last_proposer : ℕ) (collection : CollectionView) : Type 0 where
  pub order : OrderView
  pub is_open : council.order ≡ Some order
  pub is_for : order.asked ≡ Collect collection.course.key
  pub none_planned : council.plan ≡ None
  pub same_era : collection.course.era ≡ era
  pub proposers : collection.course.proposers ≡ last_proposer
  pub is_step : IsStepOf last_proposer collection.course.step
  pub calling : collection.calling ≡ true → collection.course.step ≡ CollectRound
  pub ages : length collection.ages ≡ renewals_before last_proposer collection.course.step
  pub tomb : FitsBallot (tomb_of collection.tombstone)
  pub acknowledged : (collection.course.step ≡ CollectRound → ⊥) → IsAcknowledgedByAll era collection.tombstone
  pub reserved : (ballot : Ballot) (by : List ℕ) → collection.tombstone ≡ Acknowledged ballot by → is_after_floor collection.course.step ≡ false → 0 < collection.reserved
  pub few : collection.reserved ≤ 1

-- an exchange that asks for a collection asks all members what its step is to ask, and bears the ballot of its tombstone
abbrev pub is_of_collection : Question → Bool
is_of_collection (NewAges key least) = true
is_of_collection (Removal key) = true
is_of_collection other = false

pub record IsOfCollection (under_way : Option CollectionView) (era : Era) (exchange : ExchangeView) : Type 0 where
  pub collection : CollectionView
  pub is_collection : under_way ≡ Some collection
  pub asks : IsQuestionOf collection exchange.question
  pub tag : exchange.tag ≡ tomb_of collection.tombstone
  pub members : exchange.members ≡ union_of era.prep era.acc

pub record IsCollectingIn (council : Council) (era : Era) (last_proposer : ℕ) : Type 0 where
  pub each : (collection : CollectionView) → council.collection ≡ Some collection → IsCollectionSafe council era last_proposer collection
  pub exchange : (exchange : ExchangeView) → council.exchange ≡ Some exchange → is_of_collection exchange.question ≡ true → IsOfCollection council.collection era exchange

-- it is of the era in which proposer 0 works
abbrev pub IsCollectingSafe : {S V : Type 0} → View S V → Type 0
IsCollectingSafe view = IsCollectingIn view.council (era_at view 0) view.last_proposer

-- ---- the whole
-- each party, each exchange, each listing and the marks are so
pub record IsSound {S V : Type 0} (view : View S V) : Type 0 where
  pub few : view.last_proposer ≤ 16
  pub prep_sets : (id : ℕ) → IsMemberSet (era_at view id).prep
  pub acc_sets : (id : ℕ) → IsMemberSet (era_at view id).acc
  pub few_members : (id : ℕ) → HasFewMembers (era_at view id)
  pub eras : length view.eras ≡ 17
  pub acceptors : length view.acceptors ≡ 64
  pub acceptor_ids : (id : ℕ) (acceptor : AcceptorView S) → IsAt view.acceptors id acceptor → acceptor.id ≡ id
  pub desks : length view.desks ≡ suc view.last_proposer
  pub callers : length view.callers ≡ suc view.last_proposer
  pub own : length view.flow.own ≡ 18
  pub parties : (id : ℕ) (desk : DeskView V) (caller : CallerView) → IsAt view.desks id desk → IsAt view.callers id caller → IsPartySafe (era_at view id) (length view.marks) id desk caller (queue_at view.flow id)
  pub asking : IsAskingSafe view.council.exchange (queue_at view.flow exchange_place)
  pub council : IsCouncilSafe view.council
  pub room : length view.marks + reserved_in_all view ≤ most_marks

-- and the cluster is on its course through the eras, and so is the collection that is under way, and what the operator is told
pub record IsSafe {S V : Type 0} (view : View S V) : Type 0 where
  pub sound : IsSound view
  pub course : IsCourse (course_of view)
  pub collection : IsCollectingSafe view
  pub tellings : AreTellingsSafe view
