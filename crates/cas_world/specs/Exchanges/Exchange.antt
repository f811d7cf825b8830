-- The operator's calls, and the exchange in which proposer 0 asks all members.
use Rattle.std.specs.Prelude.{◌≡◌, ⊤, ℕ, zero, ◌<◌, ◌+◌, ◌^◌, ◌&&◌, not, length, Bool, true, false, if◌then◌else◌, List, [], Option, None, Some, slice_get}
use Rattle.cas_ballot.specs.declared.ballot.Ballot.{Ballot}
use Rattle.cas_ballot.specs.Members.{has_member, members_where}
use Rattle.cas_fate.specs.declared.fate.Verdict.{Verdict}
use Rattle.cas_flow.specs.Flow.{FlowView, queue_at}
use Rattle.cas_flow.specs.declared.message.Message.TheVariants as message
use Rattle.cas_proposer.specs.Desk.{DeskView}
use Rattle.cas_slot.specs.declared.message.Request.{Request}
use Rattle.cas_vault.specs.Vault.{counter_of, kept_of}
use Rattle.cas_vault.specs.declared.error.VaultError.{VaultError}
use Rattle.cas_vault.specs.declared.error.VaultError.TheVariants as error
use Rattle.cas_record.specs.Agreement.{IsAgreementOf}
use Rattle.cas_record.specs.declared.agreement.Agreement.{Agreement}
use Rattle.cas_record.specs.declared.answer.Answer.{Answer}
use Rattle.cas_record.specs.declared.answer.Answer.TheVariants as answer
use Rattle.cas_record.specs.declared.operator.OpAnswer.{OpAnswer}
use Rattle.cas_record.specs.declared.operator.OpAnswer.TheVariants as op
use Rattle.cas_record.specs.declared.operator.Probes.{Probes}
use Rattle.cas_collect.specs.declared.collect.CollectStep.{CollectStep}
use Rattle.cas_collect.specs.declared.collect.CollectStep.TheVariants as collect
use Rattle.cas_model.specs.Collection.State.{CollectionView, confirmed_step}
use Rattle.cas_model.specs.Council as cluster
use Rattle.cas_quorum.specs.declared.era.Era.{Era}
use Rattle.cas_record.specs.declared.operator.Asked.{Asked}
use Rattle.cas_record.specs.declared.operator.Asked.TheVariants as asked
use Rattle.cas_model.specs.Council.{marks_of_read, hushed, MemberPlace, ListingView, PlanView, place_in, has_ended, with_listing, Question, Probe, NextKeys, ExchangeView, OrderView, exchange_place}
use Rattle.cas_model.specs.Safe.{IsReadSafe, is_of_collection}
use Rattle.cas_model.specs.Step.{Event, Turn, RefuseTurn, TurnExchange, RefuseTurnExchange, AskAll, AskCollect, Gather, GatherCollect, GatherRound}
use Rattle.cas_model.specs.Calls.Step.{Sends, most_marks}
use Rattle.cas_model.specs.Exchanges.Step.{read_era, everyone, places_from, begun_listing, IsForQuestion, SaysTheSame, TagsAll, WhereDrawn, questions_to, new_exchange}
use Rattle.cas_model.specs.Calls.Desks.{HasKept, FailsToDraw, LosesMemory}
use Rattle.cas_model.specs.View.{DiskMeaning, View, era_at}
use Rattle.cas_world.specs.Calls.Beginning.{HasNoCall}
use Rattle.cas_world_calls.specs.Collecting.{is_sought}
use Rattle.cas_world_calls.specs.Council.{exchange_view, goes_on_in, listed_if, listed_with}
use Rattle.cas_world_calls.specs.declared.council.Query.{Query}
use Rattle.cas_world_calls.specs.declared.council.Query.TheVariants as what
use Rattle.cas_world_calls.specs.declared.council.Gathered.{Gathered}
use Rattle.cas_world_calls.specs.declared.council.Gathered.TheVariants as gathered
use Rattle.cas_world_calls.specs.declared.council.Opened.{Opened}
use Rattle.cas_world.specs.declared.exchange.Exchange.{Exchange}
use Rattle.cas_world.specs.declared.exchange.Exchange.TheVariants as this

-- ---- which frames have their turn
-- while an exchange is open, its frames are those of proposer 0
abbrev pub asks_as : Option ExchangeView → ℕ → Bool
asks_as (Some exchange) zero = true
asks_as exchange id = false

abbrev pub place_of : {S V : Type 0} → View S V → ℕ → ℕ
place_of view id = if asks_as view.council.exchange id then exchange_place else id

abbrev pub turn_of : {S V : Type 0} → View S V → ℕ → Verdict → Event
turn_of view id verdict = if asks_as view.council.exchange id then TurnExchange verdict else Turn id verdict

abbrev pub refusal_of : {S V : Type 0} → View S V → ℕ → Event
refusal_of view id = if asks_as view.council.exchange id then RefuseTurnExchange else RefuseTurn id

-- ---- what the calls ask
-- the operator's open call was told this last
pub record WasToldOrder {S V : Type 0} (view : View S V) (answer : OpAnswer) : Type 0 where
  pub order : OrderView
  pub is_open : view.council.order ≡ Some order
  pub said : OpAnswer
  pub was_said : order.told ≡ Some said
  pub same : SaysTheSame said answer

-- what is asked of these members: a listing goes on from its places, and begins where each of them has come nowhere yet
abbrev pub question_from : List ℕ → Option ListingView → Query → Question
question_from members goes_on (what.Probe key) = Probe key
question_from members goes_on (what.Read key) = Probe key
question_from members goes_on what.List = NextKeys (places_from members goes_on)

abbrev pub question_in : {S V : Type 0} → View S V → Query → Question
question_in view what = question_from (everyone view) (goes_on_in view.council what) what

-- those that are asked: in a listing that goes on, those whose listing has not ended
abbrev pub asked_from : List ℕ → Option ListingView → List ℕ
asked_from members None = members
asked_from members (Some listing) = members_where (λ member. has_member members member && not (has_ended (place_in listing.places member)))

-- the listing that begins
abbrev pub begins_with : List ℕ → Option ListingView → Query → Ballot → Option ListingView
begins_with members None what.List tag = Some (begun_listing (places_from members None) tag None)
begins_with members goes_on other tag = None

-- it was opened for just that, no exchange is open, and caller 0 has no open call
pub record MayAskMembers {S V : Type 0} (view : View S V) (question : Question) : Type 0 where
  pub order : OrderView
  pub is_open : view.council.order ≡ Some order
  pub is_for : IsForQuestion (everyone view) view.council None order.asked question
  pub none_open : view.council.exchange ≡ None
  pub idle : HasNoCall view 0

-- the era in which the key is read, where that is asked
abbrev pub era_for : Era → Query → Option Era
era_for era (what.Read key) = Some era
era_for era other = None

-- and it is read just where the operator's call is to read it
pub record MayAskQuery {S V : Type 0} (view : View S V) (asking : Query) : Type 0 where
  pub may : MayAskMembers view (question_in view asking)
  pub reads : read_era view (question_in view asking) ≡ era_for (era_at view 0) asking

-- the open call asks for this, no exchange is open, and caller 0 has no open call
pub record MayAskKey {S V : Type 0} (view : View S V) (asked : Asked) : Type 0 where
  pub order : OrderView
  pub is_open : view.council.order ≡ Some order
  pub is_for : order.asked ≡ asked
  pub none_open : view.council.exchange ≡ None
  pub idle : HasNoCall view 0

-- that step of the collection is due, no exchange is open, and caller 0 has no open call
pub record MayAskCollected {S V : Type 0} (view : View S V) (step : CollectStep) : Type 0 where
  pub collection : CollectionView
  pub is_collection : view.council.collection ≡ Some collection
  pub is_due : collection.course.step ≡ step
  pub none_open : view.council.exchange ≡ None
  pub idle : HasNoCall view 0

abbrev pub MayAskThis : {S V : Type 0} → View S V → Exchange → Type 0
MayAskThis view this.Ages = MayAskCollected view collect.Ages
MayAskThis view this.Remove = MayAskCollected view collect.Remove
MayAskThis view this.List = MayAskMembers view (question_in view what.List)
MayAskThis view (this.Probe key) = MayAskKey view (asked.Probe key)
MayAskThis view (this.Read key) = MayAskKey view (asked.Read key)

-- which step of the store that is
abbrev pub asking_of : {S V : Type 0} → View S V → Exchange → Event
asking_of view this.Ages = AskCollect
asking_of view this.Remove = AskCollect
asking_of view this.List = AskAll (question_in view what.List)
asking_of view (this.Probe key) = AskAll (question_in view (what.Probe key))
asking_of view (this.Read key) = AskAll (question_in view (what.Read key))

-- the operator's call is open, and so is a probe or a listing of which no frame waits
pub record MayGatherMembers {S V : Type 0} (view : View S V) : Type 0 where
  pub order : OrderView
  pub is_order : view.council.order ≡ Some order
  pub exchange : ExchangeView
  pub is_open : view.council.exchange ≡ Some exchange
  pub beside : is_of_collection exchange.question ≡ false
  pub none_waits : (queue_at view.flow exchange_place).messages ≡ []

-- an exchange of the collection is open, of which no frame waits
pub record MayGatherCollected {S V : Type 0} (view : View S V) : Type 0 where
  pub exchange : ExchangeView
  pub is_open : view.council.exchange ≡ Some exchange
  pub asks : is_of_collection exchange.question ≡ true
  pub none_waits : (queue_at view.flow exchange_place).messages ≡ []

-- the round of the collection is due, its call is over, and it is known what became of it
pub record MayGatherRound {S V : Type 0} (view : View S V) : Type 0 where
  pub collection : CollectionView
  pub is_collection : view.council.collection ≡ Some collection
  pub is_due : collection.course.step ≡ collect.Round
  pub over : collection.calling ≡ false
  pub known : is_sought collection.tombstone ≡ false
  pub none_open : view.council.exchange ≡ None
  pub idle : HasNoCall view 0

pub data MayGather {S V : Type 0} (view : View S V) : Type 0 where
  members : MayGatherMembers view → MayGather view
  collected : MayGatherCollected view → MayGather view
  its_round : MayGatherRound view → MayGather view

-- which step of the store that is
abbrev pub gathering_by : Option ExchangeView → Event
gathering_by None = GatherRound
gathering_by (Some exchange) = if is_of_collection exchange.question then GatherCollect else Gather

abbrev pub gathering_of : {S V : Type 0} → View S V → Event
gathering_of view = gathering_by view.council.exchange

-- ---- what they answer
-- the collection goes on with its next step, and the operator's call is told nothing
abbrev pub collected_on : cluster.Council → CollectionView → cluster.Council
collected_on council next = record (hushed council) { exchange = None; collection = Some next }

-- the call may tell what was found, with its key; or a listing went on, and is complete or not; or a collection went on
pub data HasGathered {S V : Type 0} (old : View S V) (result : Gathered) (new : View S V) : Type 0 where
  probed : (exchange : ExchangeView) (key : List ℕ) (found : Probes) → old.council.exchange ≡ Some exchange → exchange.question ≡ Probe key → exchange.reads ≡ None → result ≡ gathered.Probed found → found.probes.items ≡ exchange.told
      → WasToldOrder new (op.Probed key found) → HasGathered old result new
  read : (exchange : ExchangeView) (key : List ℕ) (era : Era) (agreement : Agreement) (found : Probes) → old.council.exchange ≡ Some exchange → exchange.question ≡ Probe key → exchange.reads ≡ Some era → IsReadSafe era exchange.members
      → result ≡ gathered.Read agreement found → found.probes.items ≡ exchange.told → IsAgreementOf era found.probes.items agreement
      → WasToldOrder new (op.Probed key found) → HasGathered old result new
  lists : (exchange : ExchangeView) (places : List MemberPlace) (plan : PlanView) (listing : ListingView) → old.council.exchange ≡ Some exchange → exchange.question ≡ NextKeys places
      → old.council.plan ≡ Some plan → result ≡ listed_if listing.complete → new.council ≡ listed_with old.council (with_listing plan listing) → HasGathered old result new
  acknowledged : (collection : CollectionView) → old.council.exchange ≡ None → old.council.collection ≡ Some collection → result ≡ gathered.All 0 0 → new.council ≡ collected_on old.council (confirmed_step collection) → HasGathered old result new
  confirmed : (exchange : ExchangeView) (collection : CollectionView) (removed kept : ℕ) → old.council.exchange ≡ Some exchange → is_of_collection exchange.question ≡ true → old.council.collection ≡ Some collection → result ≡ gathered.All removed kept
      → new.council ≡ collected_on old.council (record (confirmed_step collection) { removed = removed; kept = kept }) → HasGathered old result new

-- it tells why a step was stopped
abbrev pub IsStopped : OpAnswer → Type 0
IsStopped (op.Stopped why) = ⊤
IsStopped other = ⊥

-- the request stands in front of the exchange's frames
abbrev pub IsAsked : {S V : Type 0} → View S V → Request → Type 0
IsAsked view request = slice_get (queue_at view.flow exchange_place).messages 0 ≡ Some (message.Request request)

-- ---- an exchange that opens
-- the marks of its harms, and those of a read
abbrev pub marks_to_ask : Option Era → List ℕ → ℕ
marks_to_ask reads those = length those + marks_of_read reads those

-- it has a tag, and each of those that are to be asked is, behind so many marks
pub record OpensExchange {V : Type 0} (m : DiskMeaning V) (old new : DeskView V) (before after : FlowView) (members : List ℕ) (goes_on : Option ListingView) (what : Query) (since : ℕ) (reads : Option Era) (opened : Opened) : Type 0 where
  pub up : old.down ≡ false
  pub tag : Ballot
  pub tagged : TagsAll m goes_on old new tag
  pub desk : new ≡ record old { vault = new.vault }
  pub sends : Sends before exchange_place (questions_to (kept_of old.vault).age tag (question_from members goes_on what) (asked_from members goes_on)) after
  pub exchange : exchange_view opened.exchange ≡ new_exchange (question_from members goes_on what) tag (asked_from members goes_on) since reads
  pub begun : opened.begun ≡ begins_with members goes_on what tag

-- why none opens, and what becomes of the desk
abbrev pub FailsToAsk : {V : Type 0} → DiskMeaning V → DeskView V → DeskView V → Option ListingView → ℕ → Answer → Type 0
FailsToAsk m old new goes_on marks answer.Down = (old.down ≡ true) × (new ≡ old)
FailsToAsk m old new goes_on marks answer.RecordFull = (old.down ≡ false) × (new ≡ old) × (most_marks < marks)
FailsToAsk m old new goes_on marks answer.Spent = (old.down ≡ false) × WhereDrawn goes_on (counter_of old.vault ≡ 2 ^ 48) × HasKept m old.vault new.vault × (new ≡ record old { vault = new.vault })
FailsToAsk m old new goes_on marks answer.VaultFault = (old.down ≡ false) × WhereDrawn goes_on (FailsToDraw m old.cache old new)
FailsToAsk m old new goes_on marks (answer.NoMemory proposed) = (proposed ≡ false) × (old.down ≡ false) × (ballot : Option Ballot) × LosesMemory m [] old new ballot
FailsToAsk m old new goes_on marks other = ⊥

-- why there is no tag
abbrev pub FailsToTag : {V : Type 0} → DiskMeaning V → Option ListingView → DeskView V → DeskView V → VaultError → Type 0
FailsToTag m goes_on old new error.Spent = WhereDrawn goes_on (counter_of old.vault ≡ 2 ^ 48) × HasKept m old.vault new.vault × (new ≡ record old { vault = new.vault })
FailsToTag m goes_on old new error.VaultFault = WhereDrawn goes_on (FailsToDraw m old.cache old new)
FailsToTag m goes_on old new error.NoMemory = LosesMemory m [] old new None
FailsToTag m goes_on old new (error.Foreign at) = ⊥
