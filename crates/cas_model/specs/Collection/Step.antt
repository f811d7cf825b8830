-- What the steps of a collection do to a cluster: proposer 0 has a tombstone accepted by all, each proposer is renewed, all members are
-- told the new ages, the tombstone becomes the floor of its key, and all members remove their slots.
pub use Rattle.cas_record.specs.Histories.Chain.{keep_always}
use Rattle.std.specs.Prelude.{◌≡◌, ℕ, suc, ◌^◌, ◌<◌, ◌++◌, Bool, true, false, List, [], ◌∷◌, length, Option, None, Some}
use Rattle.cas_ballot.specs.declared.ballot.Ballot.{Ballot}
use Rattle.cas_ballot.specs.Members.{members_where, has_member}
use Rattle.cas_change.specs.declared.outcome.Took.{Took}
use Rattle.cas_change.specs.declared.state.Body.{Body}
use Rattle.cas_change.specs.declared.state.State.TheVariants.{Empty, Held}
use Rattle.cas_collect.specs.declared.collect.CollectStep.TheVariants.{Round, Renew, Ages, Floor as FloorStep, Remove}
use Rattle.cas_flow.specs.Flow.{FlowView, queue_at}
use Rattle.cas_proposer.specs.Desk.{DeskView}
use Rattle.cas_proposer.specs.Round.{is_preparing, has_quorum, IsReadOf}
use Rattle.cas_proposer.specs.declared.round.Round.{Round as OpenRound}
use Rattle.cas_record.specs.declared.answer.Answer.{Answer}
use Rattle.cas_record.specs.declared.answer.Answer.TheVariants as answer
use Rattle.cas_record.specs.declared.answer.Cause.TheVariants as cause
use Rattle.cas_record.specs.declared.mark.Acknowledgment.{Acknowledgment}
use Rattle.cas_record.specs.declared.mark.Mark.TheVariants.{Acked, Floor}
use Rattle.cas_record.specs.declared.operator.Asked.TheVariants as asked
use Rattle.cas_record.specs.declared.operator.OpAnswer.{OpAnswer}
use Rattle.cas_record.specs.declared.operator.OpAnswer.TheVariants as told
use Rattle.cas_record.specs.declared.operator.Probe.{Probe as Answered}
use Rattle.cas_slot.specs.declared.message.Tell.{Tell}
use Rattle.cas_slot.specs.declared.message.Tell.TheVariants as tell
use Rattle.cas_slot.specs.declared.slot.Accepted.{Accepted}
use Rattle.cas_vault.specs.Vault.{kept_of}
use Rattle.cas_model.specs.Collection.State.{FoundHeld, Acknowledged, CollectionView, new_collection, confirmed_step, called, tomb_of, ages_of}
use Rattle.cas_model.specs.Council.{Question, NewAges, Removal, ExchangeView, OrderView, PlanView, Council, exchange_place}
use Rattle.cas_model.specs.Eras.Listings.{told_by}
use Rattle.cas_protocol.specs.Proposers.{state_read}
use Rattle.cas_model.specs.Parties.{IsAged}
use Rattle.cas_model.specs.Calls.Step.{Sends, IsFull, RefusesCall}
use Rattle.cas_model.specs.Exchanges.Step.{with_council, told_view, gathered, everyone, questions_to, new_exchange, HasRoomToAsk, OpenExchangeAt}
use Rattle.cas_model.specs.Calls.Desks.{EndsRound, Renews, FailsToRenew, FindsNoAge}
use Rattle.cas_model.specs.Stops.Step.{OpenCallAt, closed_by, LeavesRound, GoesDown}
use Rattle.cas_model.specs.View.{Meaning, View, CallView, CallerView, IsAt, era_at, with_desk, with_caller, with_marks}

-- ---- parts
-- the collection that the open call asked for
pub record CollectingAt (council : Council) : Type 0 where
  pub order : OrderView
  pub is_open : council.order ≡ Some order
  pub collection : CollectionView
  pub is_collection : council.collection ≡ Some collection
  pub is_for : order.asked ≡ asked.Collect collection.course.key

-- the key's call is that of the collection, whose round is due
pub record IsCollecting (council : Council) (key : List ℕ) : Type 0 where
  pub at : CollectingAt council
  pub is_due : at.collection.course.step ≡ Round
  pub calling : at.collection.calling ≡ true
  pub same_key : at.collection.course.key ≡ key

-- the collection goes on so, and the last step told this, or nothing
abbrev pub collecting : {S V : Type 0} → View S V → OrderView → Option OpAnswer → CollectionView → View S V
collecting view order told collection = with_council view (record view.council { order = Some (record order { told = told }); collection = Some collection })

-- how the operator's call is told of an answer that is not Done
abbrev pub stopped_by : Answer → Option OpAnswer
stopped_by (answer.Done state took ballot) = None
stopped_by other = Some (told.Stopped other)

-- ---- its call
-- The open call asks for it, and no exchange is open.
pub record MayCollect {S V : Type 0} (old : View S V) (key : List ℕ) (desk : DeskView V) (caller : CallerView) : Type 0 where
  pub order : OrderView
  pub is_open : old.council.order ≡ Some order
  pub is_for : order.asked ≡ asked.Collect key
  pub none_asked : old.council.exchange ≡ None
  pub at_desk : IsAt old.desks 0 desk
  pub at_caller : IsAt old.callers 0 caller

-- Its call begins as any other, or its call that is open goes on with another round; or it is refused before its call began.
pub data BeginsCollection {S V : Type 0} (m : Meaning S V) (Begins : View S V → View S V → Type 0) (old : View S V) (key : List ℕ) (order : OrderView) (desk : DeskView V) (caller : CallerView) (new : View S V) : Type 0 where
  is_down : caller.call ≡ None → desk.down ≡ true → new ≡ told_view old (told.Stopped answer.Down) → BeginsCollection m Begins old key order desk caller new
  is_busy : (plan : PlanView) → caller.call ≡ None → desk.down ≡ false → old.council.plan ≡ Some plan → new ≡ told_view old (told.Busy (era_at old 0).number) → BeginsCollection m Begins old key order desk caller new
  is_full : caller.call ≡ None → desk.down ≡ false → old.council.plan ≡ None → IsFull old 0 → new ≡ told_view old (told.Stopped answer.RecordFull) → BeginsCollection m Begins old key order desk caller new
  no_memory : (middle : View S V) → caller.call ≡ None → desk.down ≡ false → old.council.plan ≡ None → RefusesCall m old 0 key middle
      → new ≡ told_view middle (told.Stopped (answer.NoMemory false)) → BeginsCollection m Begins old key order desk caller new
  begins : (middle : View S V) → caller.call ≡ None → old.council.plan ≡ None → Begins old middle → new ≡ collecting middle order None (new_collection key (era_at old 0) old.last_proposer) → BeginsCollection m Begins old key order desk caller new
  goes_on : (middle : View S V) (call : CallView) (is : IsCollecting old.council key) → caller.call ≡ Some call → Begins old middle → new ≡ collecting middle order None is.at.collection → BeginsCollection m Begins old key order desk caller new

pub record StepBeginCollect {S V : Type 0} (m : Meaning S V) (Begins : View S V → View S V → Type 0) (old : View S V) (key : List ℕ) (new : View S V) : Type 0 where
  pub desk : DeskView V
  pub caller : CallerView
  pub may : MayCollect old key desk caller
  pub begins : BeginsCollection m Begins old key may.order desk caller new

-- Its round read a held state: nothing is proposed, the round ends, and the call is closed without an answer.
pub record StepReadHeld {S V : Type 0} (m : Meaning S V) (old : View S V) (new : View S V) : Type 0 where
  pub of_call : OpenCallAt old 0
  pub is : IsCollecting old.council of_call.call.key
  pub desk : DeskView V
  pub at_desk : IsAt old.desks 0 desk
  pub up : desk.down ≡ false
  pub round : OpenRound
  pub is_round : desk.round ≡ Some round
  pub none_waits : (queue_at old.flow 0).messages ≡ []
  pub preparing : is_preparing round.phase ≡ true
  pub quorum : has_quorum round.phase ≡ true
  pub read : Option Accepted
  pub is_read : IsReadOf round read
  pub version : ℕ
  pub body : Body
  pub held : state_read read ≡ Held version body
  pub now : DeskView V
  pub ends : EndsRound m.disks desk now round None
  pub view : new ≡ collecting (with_caller (with_desk old 0 now) 0 (record of_call.caller { call = None })) is.at.order None (record (called is.at.collection) { tombstone = FoundHeld version })

-- Its round is counted and done: with the empty state, and those that accepted it are known and a mark is reserved for the floor; or with
-- a state that is held.
pub data CountedAs {S V : Type 0} (old middle : View S V) (call : CallView) (collection : CollectionView) (now : CollectionView) : Type 0 where
  acknowledges : (took : Took) (acknowledgment : Acknowledgment) → call.told ≡ Some (answer.Done Empty took acknowledgment.ballot) → middle.marks ≡ old.marks ++ Acked acknowledgment ∷ []
      → acknowledgment.key ≡ call.key → acknowledgment.era ≡ collection.course.era.number
      → now ≡ record collection { tombstone = Acknowledged acknowledgment.ballot acknowledgment.by; reserved = 1 } → CountedAs old middle call collection now
  finds_held : (version : ℕ) (body : Body) (took : Took) (ballot : Ballot) → call.told ≡ Some (answer.Done (Held version body) took ballot) → now ≡ record collection { tombstone = FoundHeld version }
      → CountedAs old middle call collection now

pub record StepCountCollect {S V : Type 0} (Counts : View S V → View S V → Type 0) (old : View S V) (new : View S V) : Type 0 where
  pub middle : View S V
  pub counts : Counts old middle
  pub of_call : OpenCallAt middle 0
  pub is : IsCollecting old.council of_call.call.key
  pub now : CollectionView
  pub counted : CountedAs old middle of_call.call is.at.collection now
  pub view : new ≡ collecting middle is.at.order None now

-- Its call ends, and where that is not done the operator's is told why.
pub record StepEndCollect {S V : Type 0} (Ends : View S V → View S V → Type 0) (old : View S V) (answer : Answer) (new : View S V) : Type 0 where
  pub of_call : OpenCallAt old 0
  pub is : IsCollecting old.council of_call.call.key
  pub middle : View S V
  pub ends : Ends old middle
  pub view : new ≡ collecting middle is.at.order (stopped_by answer) (called is.at.collection)

-- this acceptor is the least of these that is none of those
pub record IsLeastWithout (all some : List ℕ) (acceptor : ℕ) : Type 0 where
  pub member : has_member all acceptor ≡ true
  pub without : has_member some acceptor ≡ false
  pub least : (other : ℕ) → other < acceptor → has_member all other ≡ true → has_member some other ≡ true

-- what became of the round: all who accept in the era acknowledged the tombstone, or one of them did not; or a held state was read
pub data GathersRound {S V : Type 0} (old : View S V) (at : CollectingAt old.council) (new : View S V) : Type 0 where
  all : (ballot : Ballot) (by : List ℕ) → at.collection.tombstone ≡ Acknowledged ballot by → ((acceptor : ℕ) → has_member (era_at old 0).acc acceptor ≡ true → has_member by acceptor ≡ true)
      → new ≡ collecting old at.order None (confirmed_step at.collection) → GathersRound old at new
  is_absent : (ballot : Ballot) (by : List ℕ) (acceptor : ℕ) → at.collection.tombstone ≡ Acknowledged ballot by → IsLeastWithout (era_at old 0).acc by acceptor → new ≡ told_view old (told.Absent acceptor) → GathersRound old at new
  is_held : (version : ℕ) → at.collection.tombstone ≡ FoundHeld version → new ≡ told_view old (told.NotEmpty version) → GathersRound old at new

pub record StepGatherRound {S V : Type 0} (old : View S V) (new : View S V) : Type 0 where
  pub at : CollectingAt old.council
  pub is_due : at.collection.course.step ≡ Round
  pub over : at.collection.calling ≡ false
  pub caller : CallerView
  pub at_caller : IsAt old.callers 0 caller
  pub idle : caller.call ≡ None
  pub none_planned : old.council.plan ≡ None
  pub same_era : at.collection.course.era ≡ era_at old 0
  pub gathers : GathersRound old at new

-- ---- renewals
-- The proposer is renewed: what it held for the key at or below the tombstone is gone, and its age is one more. Or the operator is told
-- why not.
pub data RenewsNext {S V : Type 0} (m : Meaning S V) (old : View S V) (at : CollectingAt old.council) (proposer : ℕ) (desk : DeskView V) (new : View S V) : Type 0 where
  renews : (age : ℕ) (middle : View S V) → LeavesRound (Renews m.disks at.collection.course.key (tomb_of at.collection.tombstone) age) (closed_by (answer.Aged age) (cause.Aged age)) old proposer middle
      → new ≡ collecting middle at.order None (record (confirmed_step at.collection) { ages = at.collection.ages ++ age ∷ [] }) → RenewsNext m old at proposer desk new
  is_down : desk.down ≡ true → new ≡ told_view old (told.ProposerDown proposer) → RenewsNext m old at proposer desk new
  fails : (middle : View S V) → GoesDown (FailsToRenew m.disks (tomb_of at.collection.tombstone)) old proposer middle → new ≡ told_view middle (told.ProposerDown proposer) → RenewsNext m old at proposer desk new
  is_spent : desk.down ≡ false → (kept_of desk.vault).age ≡ 2 ^ 48 → new ≡ told_view old (told.Stopped answer.Spent) → RenewsNext m old at proposer desk new
  no_memory : (now : DeskView V) → desk.down ≡ false → FindsNoAge m.disks (tomb_of at.collection.tombstone) desk now → new ≡ told_view (with_desk old proposer now) (told.Stopped (answer.NoMemory false)) → RenewsNext m old at proposer desk new

pub record StepRenew {S V : Type 0} (m : Meaning S V) (old : View S V) (proposer : ℕ) (new : View S V) : Type 0 where
  pub at : CollectingAt old.council
  pub is_due : at.collection.course.step ≡ Renew proposer
  pub in_order : length at.collection.ages ≡ proposer
  pub desk : DeskView V
  pub at_desk : IsAt old.desks proposer desk
  pub caller : CallerView
  pub at_caller : IsAt old.callers proposer caller
  pub renews : RenewsNext m old at proposer desk new

-- ---- all members are asked
-- the step that is due asks this
pub data IsQuestionOf (collection : CollectionView) (question : Question) : Type 0 where
  tells_ages : collection.course.step ≡ Ages → question ≡ NewAges collection.course.key (ages_of collection.ages) → IsQuestionOf collection question
  removes : collection.course.step ≡ Remove → question ≡ Removal collection.course.key → IsQuestionOf collection question

-- The collection is of the era in which all work, all proposers are renewed for it, and its tombstone is acknowledged at this ballot.
pub record IsRenewedBy {S V : Type 0} (view : View S V) (collection : CollectionView) : Type 0 where
  pub none_planned : view.council.plan ≡ None
  pub same_era : collection.course.era ≡ era_at view 0
  pub all_renewed : length collection.ages ≡ suc view.last_proposer
  pub ballot : Ballot
  pub by : List ℕ
  pub acknowledged : collection.tombstone ≡ Acknowledged ballot by

-- proposer 0, whose round is over, may ask
pub record MayAskCollect {S V : Type 0} (old : View S V) (desk : DeskView V) : Type 0 where
  pub at : CollectingAt old.council
  pub is_renewed : IsRenewedBy old at.collection
  pub none_asked : old.council.exchange ≡ None
  pub caller : CallerView
  pub at_caller : IsAt old.callers 0 caller
  pub at_desk : IsAt old.desks 0 desk
  pub idle : desk.round ≡ None

-- Each member is asked, under the tombstone's ballot; or the open call is told why not.
pub data AsksCollect {S V : Type 0} (m : Meaning S V) (old : View S V) (at : CollectingAt old.council) (desk : DeskView V) (new : View S V) : Type 0 where
  asks : (question : Question) (flow : FlowView) → desk.down ≡ false → IsQuestionOf at.collection question → HasRoomToAsk old question → (m.disks.tells → IsAged m.disks (kept_of desk.vault).age desk.vault)
      → Sends old.flow exchange_place (questions_to (kept_of desk.vault).age (tomb_of at.collection.tombstone) question (everyone old)) flow
      → new ≡ with_council (record old { flow = flow }) (record old.council { exchange = Some (new_exchange question (tomb_of at.collection.tombstone) (everyone old) (length old.marks) None) }) → AsksCollect m old at desk new
  is_down : desk.down ≡ true → new ≡ told_view old (told.Stopped answer.Down) → AsksCollect m old at desk new
  is_full : (question : Question) → desk.down ≡ false → IsQuestionOf at.collection question → (HasRoomToAsk old question → ⊥) → new ≡ told_view old (told.Stopped answer.RecordFull) → AsksCollect m old at desk new
  no_memory : desk.down ≡ false → new ≡ told_view old (told.Stopped (answer.NoMemory false)) → AsksCollect m old at desk new

pub record StepAskCollect {S V : Type 0} (m : Meaning S V) (old : View S V) (new : View S V) : Type 0 where
  pub desk : DeskView V
  pub may : MayAskCollect old desk
  pub asks : AsksCollect m old may.at desk new

-- ---- what they told
-- whether that confirms the question
abbrev pub confirms : Question → Option Tell → Bool
confirms (NewAges key least) (Some tell.AgesSet) = true
confirms (Removal key) (Some tell.Removed) = true
confirms (Removal key) (Some tell.Kept) = true
confirms question other = false

-- the acceptors whose first reply says so
abbrev pub those_telling : (Option Tell → Bool) → List Answered → List ℕ
those_telling test answers = members_where (λ acceptor. test (told_by answers acceptor))

-- those that confirmed it
abbrev pub confirmers_in : Question → List Answered → List ℕ
confirmers_in question answers = those_telling (confirms question) answers

-- whether it was a removal, and whether the slot was kept
abbrev pub is_removed : Option Tell → Bool
is_removed (Some tell.Removed) = true
is_removed other = false

abbrev pub is_kept : Option Tell → Bool
is_kept (Some tell.Kept) = true
is_kept other = false

-- Each member confirmed the question, and the next step is due; or one did not; or proposer 0 crashed within it.
pub data GathersCollect {S V : Type 0} (old : View S V) (at : CollectingAt old.council) (exchange : ExchangeView) (new : View S V) : Type 0 where
  crashed : exchange.crashed ≡ true → new ≡ gathered old (told.Stopped answer.Crashed) → GathersCollect old at exchange new
  all : exchange.crashed ≡ false → ((acceptor : ℕ) → has_member exchange.members acceptor ≡ true → has_member (confirmers_in exchange.question exchange.told) acceptor ≡ true)
      → new ≡ with_council old (record (collecting old at.order None (record (confirmed_step at.collection) { removed = length (those_telling is_removed exchange.told); kept = length (those_telling is_kept exchange.told) })).council { exchange = None }) → GathersCollect old at exchange new
  is_absent : (acceptor : ℕ) → exchange.crashed ≡ false → IsLeastWithout exchange.members (confirmers_in exchange.question exchange.told) acceptor → new ≡ gathered old (told.Absent acceptor) → GathersCollect old at exchange new

pub record StepGatherCollect {S V : Type 0} (old : View S V) (new : View S V) : Type 0 where
  pub at : CollectingAt old.council
  pub of_exchange : OpenExchangeAt old
  pub is_renewed : IsRenewedBy old at.collection
  pub asks : IsQuestionOf at.collection of_exchange.exchange.question
  pub tag : of_exchange.exchange.tag ≡ tomb_of at.collection.tombstone
  pub members : of_exchange.exchange.members ≡ everyone old
  pub none_waits : (queue_at old.flow exchange_place).messages ≡ []
  pub gathers : GathersCollect old at of_exchange.exchange new

-- ---- the floor
-- the tombstone is the floor of its key from now on
pub record StepMakeFloor {S V : Type 0} (old : View S V) (new : View S V) : Type 0 where
  pub at : CollectingAt old.council
  pub is_due : at.collection.course.step ≡ FloorStep
  pub is_renewed : IsRenewedBy old at.collection
  pub view : new ≡ with_marks (collecting old at.order None (record (confirmed_step at.collection) { reserved = 0 })) (Floor at.collection.course.key (tomb_of at.collection.tombstone) Empty ∷ [])
