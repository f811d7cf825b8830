-- A collection, as a world's calls begin its own call, end it, and lead the collection on.
use Rattle.std.specs.Prelude.{◌≡◌, ◌⊎◌, ℕ, ◌+◌, ◌<◌, ◌≤◌, ◌++◌, ◌∷◌, Bool, true, false, List, [], Option, None, Some, Result, Ok, Err, reverse}
use Rattle.cas_acceptor.specs.Acceptor.{AcceptorView}
use Rattle.cas_ballot.specs.declared.ballot.Ballot.{Ballot}
use Rattle.cas_ballot.specs.Ballot.{BallotAtMost}
use Rattle.cas_ballot.specs.Members.{has_member}
use Rattle.cas_change.specs.declared.state.Body.{Body}
use Rattle.cas_change.specs.declared.state.State.TheVariants.{Held}
use Rattle.cas_collect.specs.declared.collect.CollectStep.{CollectStep}
use Rattle.cas_collect.specs.declared.collect.CollectStep.TheVariants.{End, Renew}
use Rattle.cas_flow.specs.Flow.{FlowView}
use Rattle.cas_flow.specs.declared.message.Message.TheVariants as message
use Rattle.cas_proposer.specs.Desk.{DeskView}
use Rattle.cas_proposer.specs.Round.{has_quorum, latest_in, IsReadOf}
use Rattle.cas_proposer.specs.declared.round.Round.{Round}
use Rattle.cas_record.specs.declared.answer.Answer.{Answer}
use Rattle.cas_record.specs.declared.answer.Answer.TheVariants as answer
use Rattle.cas_record.specs.declared.operator.Asked.TheVariants.{Collect}
use Rattle.cas_record.specs.declared.operator.OpAnswer.{OpAnswer}
use Rattle.cas_record.specs.declared.operator.OpAnswer.TheVariants as op
use Rattle.cas_record.specs.Legal.{HasFloor}
use Rattle.cas_record.specs.Logs.Orderly.{IsNoneOrAbove, IsRoundAsk}
use Rattle.cas_slot.specs.Ages.{least_age}
use Rattle.cas_slot.specs.Contents.{Contents}
use Rattle.cas_slot.specs.Message.{tag_of}
use Rattle.cas_slot.specs.Rules.{key_of}
use Rattle.cas_slot.specs.declared.message.Request.{Request}
use Rattle.cas_slot.specs.Slot.{accepted_ballot}
use Rattle.cas_slot.specs.Table.{accepted_at}
use Rattle.cas_slot.specs.declared.slot.Accepted.{Accepted}
use Rattle.cas_vault.specs.Vault.{kept_of}
use Rattle.cas_vault.specs.declared.error.VaultError.{VaultError}
use Rattle.cas_vault.specs.declared.error.VaultError.TheVariants as error
use Rattle.cas_model.specs.Collection.State.{CollectionView, course_stepped, confirmed_step}
use Rattle.cas_model.specs.Council as cluster
use Rattle.cas_model.specs.Collection.Laws.{IsMemberUp, IsRemovalDone, MessageIsUnderWay}
use Rattle.cas_model.specs.Council.{ExchangeView, OrderView, PlanView, telling, hushed}
use Rattle.cas_protocol.specs.Proposers.{state_read}
use Rattle.cas_protocol.specs.Protocol.{is_done}
use Rattle.cas_model.specs.Safe.{is_of_collection}
use Rattle.cas_model.specs.Step.{Step, Count, CountCollect}
use Rattle.cas_model.specs.Calls.Step.{IsFull}
use Rattle.cas_model.specs.Collection.Step.{IsCollecting}
use Rattle.cas_model.specs.Stops.Step.{OpenCallAt}
use Rattle.cas_model.specs.View.{Meaning, View, CallView, CallerView, IsAt, era_at}
use Rattle.cas_model.specs.Laws.{IsPastFloor}
use Rattle.cas_world_calls.specs.Collecting.{with_collection}
use Rattle.cas_world.specs.Calls.Beginning.{HasNoCall, HasRound}
use Rattle.cas_world.specs.Exchanges.Exchange.{WasToldOrder}
use Rattle.cas_world.specs.Eras.Moving.{crash_at, abandoned_at}
use Rattle.cas_world.specs.World.{WasTold}

-- ---- what the calls ask
-- the operator's call asks for it, no exchange is open, and an open call of caller 0 is that of the collection
pub record MayCollectKey {S V : Type 0} (view : View S V) (key : List ℕ) : Type 0 where
  pub order : OrderView
  pub is_open : view.council.order ≡ Some order
  pub is_for : order.asked ≡ Collect key
  pub none_asked : view.council.exchange ≡ None
  pub goes_on : (caller : CallerView) (call : CallView) → IsAt view.callers 0 caller → caller.call ≡ Some call → IsCollecting view.council key

-- caller 0 has an open call, which is that of the collection
pub record IsCollectingCall {S V : Type 0} (view : View S V) : Type 0 where
  pub of_call : OpenCallAt view 0
  pub is : IsCollecting view.council of_call.call.key

-- that step of the collection that is under way is due
pub record IsDueStep {S V : Type 0} (view : View S V) (step : CollectStep) : Type 0 where
  pub collection : CollectionView
  pub is_collection : view.council.collection ≡ Some collection
  pub is_due : collection.course.step ≡ step

-- ---- its call
-- why none begins, or that one may
pub data RefusesCollection {S V : Type 0} (view : View S V) (desk : DeskView V) (refusal : Option OpAnswer) : Type 0 where
  is_down : desk.down ≡ true → refusal ≡ Some (op.Stopped answer.Down) → RefusesCollection view desk refusal
  is_busy : (plan : PlanView) → desk.down ≡ false → view.council.plan ≡ Some plan → refusal ≡ Some (op.Busy (era_at view 0).number) → RefusesCollection view desk refusal
  is_full : desk.down ≡ false → view.council.plan ≡ None → IsFull view 0 → refusal ≡ Some (op.Stopped answer.RecordFull) → RefusesCollection view desk refusal
  admits : desk.down ≡ false → view.council.plan ≡ None → (IsFull view 0 → ⊥) → refusal ≡ None → RefusesCollection view desk refusal

-- its call is open, and so is its round
pub record HasCollected {S V : Type 0} (view : View S V) (number : ℕ) (key : List ℕ) : Type 0 where
  pub of_round : HasRound view 0 number
  pub is : IsCollecting view.council key

-- the answers with which a collection's call is not begun
abbrev pub leaves_no_call : OpAnswer → Bool
leaves_no_call (op.Stopped answer.Down) = true
leaves_no_call (op.Stopped answer.RecordFull) = true
leaves_no_call (op.Stopped (answer.NoMemory proposed)) = true
leaves_no_call (op.Stopped other) = false
leaves_no_call other = true

-- No round of it is open: a new call was not begun, and the operator's call was told why; or the call is open, and was told why.
pub data CollectsNot {S V : Type 0} (old new : View S V) (number : ℕ) (key : List ℕ) (told : OpAnswer) : Type 0 where
  is_refused : HasNoCall old 0 → HasNoCall new 0 → WasToldOrder new told → leaves_no_call told ≡ true → CollectsNot old new number key told
  is_told : (said : Answer) → told ≡ op.Stopped said → is_done said ≡ false → (HasNoCall old 0 → leaves_no_call told ≡ false) → WasTold new 0 number said → IsCollecting new.council key → CollectsNot old new number key told

-- ---- its round
-- a held state of this version would be read in the prepare phase, which has a quorum
pub record FindsHeld {V : Type 0} (desk : DeskView V) (version : ℕ) : Type 0 where
  pub round : Round
  pub is_round : desk.round ≡ Some round
  pub quorum : has_quorum round.phase ≡ true
  pub read : Option Accepted
  pub is_read : IsReadOf round read
  pub shown : read ≡ latest_in round.phase
  pub body : Body
  pub held : state_read read ≡ Held version body

-- it is counted as any other, and where it is done it is known what it came to
abbrev pub CountsTombstone : {S V : Type 0} → Meaning S V → View S V → Answer → View S V → Type 0
CountsTombstone m old (answer.Done state took ballot) new = Step m old CountCollect new
CountsTombstone m old other new = Step m old (Count 0) new

-- ---- its steps
-- the proposer whose renewal is due
abbrev pub renewal_of : CollectStep → Option ℕ
renewal_of (Renew proposer) = Some proposer
renewal_of other = None

abbrev pub renewal_in : Option CollectionView → Option ℕ
renewal_in None = None
renewal_in (Some collection) = renewal_of collection.course.step

-- it is one more than the age that the proposer's vault shows
abbrev pub IsNextAge : {S V : Type 0} → View S V → ℕ → ℕ → Type 0
IsNextAge {S} {V} view proposer age = (desk : DeskView V) → IsAt view.desks proposer desk → age ≡ (kept_of desk.vault).age + 1

-- the operator's call is told nothing, and the next step of its collection is due
pub record GoesOnCollecting {S V : Type 0} (old new : View S V) : Type 0 where
  pub collection : CollectionView
  pub was : old.council.collection ≡ Some collection
  pub next : CollectionView
  pub is : new.council ≡ record (hushed old.council) { collection = Some next }
  pub course : next.course ≡ course_stepped collection.course

-- Each floor that is marked is past: no proposer draws a ballot at or below it, whatever a crash leaves of its vault, and what it holds of the
-- key is above it; no member that is up has a state of the key below it, whatever a crash leaves of its shelf; and what is under way to such a
-- member for the key, at or below the floor, is too old for it.
pub record AreFloorsPassed {S V : Type 0} (m : Meaning S V) (view : View S V) : Type 0 where
  pub proposers : (key : List ℕ) (floor : Ballot) (id : ℕ) (desk : DeskView V) → HasFloor key floor (reverse view.marks) → IsAt view.desks id desk → IsPastFloor m desk key floor
  pub members : (key : List ℕ) (floor : Ballot) (proposer id : ℕ) (acceptor : AcceptorView S) → HasFloor key floor (reverse view.marks) → proposer ≤ view.last_proposer
      → (has_member (era_at view proposer).prep id ≡ true) ⊎ (has_member (era_at view proposer).acc id ≡ true) → IsAt view.acceptors id acceptor → acceptor.down ≡ false
      → (left : Contents) → m.shelves.may_leave acceptor.shelf (Ok left) → IsNoneOrAbove floor (accepted_ballot (accepted_at left key))
  pub requests : (key : List ℕ) (floor : Ballot) (id : ℕ) (acceptor : AcceptorView S) (request : Request) (left : Contents) → HasFloor key floor (reverse view.marks) → IsMemberUp view id acceptor → MessageIsUnderWay view (message.Request request)
      → request.to ≡ id → IsRoundAsk request.ask → key_of request.ask ≡ key → BallotAtMost (tag_of request.ask) floor → m.shelves.may_leave acceptor.shelf (Ok left) → request.age < least_age left.ages request.from

-- Where what all members told to a removal brings a collection to its end, the removal is done.
abbrev pub AreRemovalsDone : {S V : Type 0} → Meaning S V → View S V → View S V → Type 0
AreRemovalsDone m old new = (exchange : ExchangeView) (collection : CollectionView) → old.council.exchange ≡ Some exchange → is_of_collection exchange.question ≡ true → new.council.collection ≡ Some collection → collection.course.step ≡ End
    → IsRemovalDone m old exchange collection

-- a proposer is renewed to that age, or is not
pub data MarksRenewal (id : ℕ) (renewed : Result ℕ VaultError) (old new : cluster.Council) (flow flow_now : FlowView) (result : Result ℕ OpAnswer) : Type 0 where
  renews : (age : ℕ) → renewed ≡ Ok age → new ≡ with_collection (hushed old) (λ c. record (confirmed_step c) { ages = c.ages ++ age ∷ [] }) → flow_now ≡ flow → result ≡ Ok age → MarksRenewal id renewed old new flow flow_now result
  fails : renewed ≡ Err error.VaultFault → new ≡ telling (crash_at id old) (op.ProposerDown id) → flow_now ≡ abandoned_at id flow → result ≡ Err (op.ProposerDown id) → MarksRenewal id renewed old new flow flow_now result
  is_spent : renewed ≡ Err error.Spent → new ≡ telling old (op.Stopped answer.Spent) → flow_now ≡ flow → result ≡ Err (op.Stopped answer.Spent) → MarksRenewal id renewed old new flow flow_now result
  no_memory : renewed ≡ Err error.NoMemory → new ≡ telling old (op.Stopped (answer.NoMemory false)) → flow_now ≡ flow → result ≡ Err (op.Stopped (answer.NoMemory false)) → MarksRenewal id renewed old new flow flow_now result
