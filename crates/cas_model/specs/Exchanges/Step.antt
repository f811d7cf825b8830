-- What the operator's calls do to a cluster, and the exchange in which proposer 0 asks all members.
use Rattle.std.specs.Option.{option_map_or}
use Rattle.std.specs.Prelude.{◌≡◌, ℕ, ◌&&◌, not, is_none, position, slice_set, ◌+◌, ◌-◌, ◌^◌, ◌<◌, ◌≤◌, ◌==◌, Bool, true, false, if◌then◌else◌, List, [], ◌∷◌, length, map, Option, None, Some, option_map, reverse, slice_get}
use Rattle.cas_ballot.specs.declared.ballot.Ballot.{Ballot}
use Rattle.cas_ballot.specs.Members.{members_where, has_member, with_member, union_of}
use Rattle.cas_fate.specs.declared.fate.Verdict.{Verdict}
use Rattle.cas_flow.specs.Flow.{FlowView, queue_at, taken, abandoned}
use Rattle.cas_flow.specs.Message.{head_of}
use Rattle.cas_flow.specs.Queue.{fall_of}
use Rattle.cas_flow.specs.declared.fall.Fall.TheVariants.{Handle, Gone, Held}
use Rattle.cas_flow.specs.declared.message.Message.{Message}
use Rattle.cas_flow.specs.declared.message.Message.TheVariants as message
use Rattle.cas_acceptor.specs.Acceptor.{AcceptorView}
use Rattle.cas_collect.specs.declared.collect.CollectStep.TheVariants.{End}
use Rattle.cas_members.specs.declared.plan.PlanStep.TheVariants.{Settle}
use Rattle.cas_members.specs.Plan.{next_of}
use Rattle.cas_proposer.specs.Desk.{DeskView}
use Rattle.cas_quorum.specs.declared.era.Era.{Era}
use Rattle.cas_slot.specs.declared.message.Reply.{Reply}
use Rattle.cas_slot.specs.declared.message.Request.{Request}
use Rattle.cas_vault.specs.Vault.{counter_of, kept_of}
use Rattle.cas_record.specs.declared.answer.Answer.{Answer}
use Rattle.cas_record.specs.declared.answer.Answer.TheVariants as answer
use Rattle.cas_record.specs.declared.mark.Mark.{Mark}
use Rattle.cas_record.specs.declared.mark.Mark.TheVariants.{Harmed, Told}
use Rattle.cas_record.specs.declared.operator.Asked.{Asked}
use Rattle.cas_record.specs.declared.operator.Asked.TheVariants as asked
use Rattle.cas_record.specs.declared.operator.OpAnswer.{OpAnswer}
use Rattle.cas_record.specs.declared.operator.OpAnswer.TheVariants as told
use Rattle.cas_record.specs.declared.operator.Probe.{Probe as ProbeOf}
use Rattle.cas_record.specs.declared.operator.Probes.{Probes}
use Rattle.cas_model.specs.Collection.State.{CollectionView, tomb_of}
use Rattle.cas_model.specs.Council.{GoesOn, MemberPlace, ListingView, place_in, has_ended, Question, Probe, NextKeys, NewAges, Removal, ask_of, IsReplyTo, ExchangeView, OrderView, PlanView, Council, with_listing, at_rest, exchange_place, marks_of_read, telling, hushed}
use Rattle.cas_model.specs.Eras.Listings.{counted, ListsOn, missing, why_short}
use Rattle.cas_model.specs.Exchanges.Read.{MarksRead}
use Rattle.cas_model.specs.Parties.{IsAged}
use Rattle.cas_model.specs.Frames.Acceptors.{AnswersByTable, StopsWithin}
use Rattle.cas_model.specs.Calls.Step.{Sends, most_marks}
use Rattle.cas_model.specs.Calls.Desks.{HasDrawn, HasKept, FailsToDraw, LosesMemory}
use Rattle.cas_model.specs.Frames.Step.{replied_flow, votes_marked, FindsNoRoom}
use Rattle.cas_model.specs.View.{DiskMeaning, Meaning, View, CallView, CallerView, IsAt, era_at, reserved_in_all, with_acceptor, with_desk, with_marks}

-- ---- parts
abbrev pub with_council : {S V : Type 0} → View S V → Council → View S V
with_council view council = record view { council = council }

abbrev pub with_exchange : {S V : Type 0} → View S V → ExchangeView → View S V
with_exchange view exchange = with_council view (record view.council { exchange = Some exchange })

-- the open call is told this
abbrev pub told_view : {S V : Type 0} → View S V → OpAnswer → View S V
told_view view answer = with_council view (telling view.council answer)

-- the exchange is over, and the open call is told this
abbrev pub gathered : {S V : Type 0} → View S V → OpAnswer → View S V
gathered view answer = with_council view (record (telling view.council answer) { exchange = None })

-- ---- the operator's call
-- it is open from then on, with its mark reserved
pub record StepOrder {S V : Type 0} (old : View S V) (asked : Asked) (new : View S V) : Type 0 where
  pub none_open : old.council.order ≡ None
  pub room : length old.marks + reserved_in_all old < most_marks
  pub view : new ≡ with_council old (record old.council { order = Some (record { asked = asked; told = None }) })

-- what a probe found leaves no mark
abbrev pub told_marks : Asked → OpAnswer → List Mark
told_marks asked (told.Probed key found) = []
told_marks asked other = Told asked other ∷ []

-- two answers that say the same, be it from lists of their own
abbrev pub SaysTheSame : OpAnswer → OpAnswer → Type 0
SaysTheSame (told.Probed key found) (told.Probed other seen) = (key ≡ other) × (found.probes.items ≡ seen.probes.items)
SaysTheSame said answer = said ≡ answer

-- a change of membership that was asked for is at its end, and this tells so
abbrev pub finished : Asked → ℕ → ℕ → OpAnswer → Type 0
finished (asked.Join id) era rescanned answer = answer ≡ told.Joined id era rescanned
finished (asked.Leave id) era rescanned answer = answer ≡ told.Left id era rescanned
finished (asked.Resize need_prep need_acc) era rescanned answer = answer ≡ told.Resized need_prep need_acc era rescanned
finished other era rescanned answer = ⊥

pub record IsFinishedBy (council : Council) (order : OrderView) (answer : OpAnswer) : Type 0 where
  pub plan : PlanView
  pub is_plan : council.plan ≡ Some plan
  pub is_for : plan.asked ≡ order.asked
  pub none_left : plan.progress.left ≡ []
  pub tells : finished order.asked plan.progress.era.number plan.rescanned answer

-- a collection that was asked for is at its end, and this tells so
pub record IsCollectedBy (council : Council) (order : OrderView) (answer : OpAnswer) : Type 0 where
  pub collection : CollectionView
  pub is_collection : council.collection ≡ Some collection
  pub is_for : order.asked ≡ asked.Collect collection.course.key
  pub at_end : collection.course.step ≡ End
  pub tells : answer ≡ told.Collected collection.course.key (tomb_of collection.tombstone) collection.removed collection.kept

-- the open call is over, and so is an exchange that is open: its frames join the late ones; and a listing that is not complete is dropped
abbrev pub told_over : {S V : Type 0} → View S V → Asked → OpAnswer → View S V
told_over view asked answer = with_marks (record (with_council view (at_rest view.council)) { flow = abandoned view.flow exchange_place }) (told_marks asked answer)

-- it is told what its last step told; or that the change of membership is at its end, which is no longer under way then; or that the
-- collection is at its end
pub data StepTell {S V : Type 0} (old : View S V) (answer : OpAnswer) (new : View S V) : Type 0 where
  tells : (order : OrderView) (said : OpAnswer) → old.council.order ≡ Some order → order.told ≡ Some said → SaysTheSame said answer → new ≡ told_over old order.asked answer → StepTell old answer new
  finishes : (order : OrderView) → old.council.order ≡ Some order → IsFinishedBy old.council order answer
      → new ≡ told_over (with_council old (record old.council { plan = None })) order.asked answer → StepTell old answer new
  collects : (order : OrderView) → old.council.order ≡ Some order → IsCollectedBy old.council order answer → new ≡ told_over old order.asked answer → StepTell old answer new

-- ---- proposer 0 asks all members
-- who they are
abbrev pub everyone : {S V : Type 0} → View S V → List ℕ
everyone view = union_of (era_at view 0).prep (era_at view 0).acc

-- in a listing only those are asked whose listing has not ended
abbrev pub asked_by : {S V : Type 0} → View S V → Question → List ℕ
asked_by view (Probe key) = everyone view
asked_by view (NewAges key least) = everyone view
asked_by view (Removal key) = everyone view
asked_by view (NextKeys places) = members_where (λ member. has_member (everyone view) member && not (has_ended (place_in places member)))

abbrev pub question_to : ℕ → Ballot → Question → ℕ → Request
question_to age tag question to = record { to = to; from = 0; age = age; ask = ask_of tag question to }

abbrev pub questions_to : ℕ → Ballot → Question → List ℕ → List Message
questions_to age tag question members = map (λ to. message.Request (question_to age tag question to)) members

-- the probe of the key was asked for, or its read
abbrev pub IsProbeOf : Asked → List ℕ → Type 0
IsProbeOf (asked.Probe key) k = key ≡ k
IsProbeOf (asked.Read key) k = key ≡ k
IsProbeOf other k = ⊥

-- where a listing of these members begins, and where it goes on
abbrev pub places_from : List ℕ → Option ListingView → List MemberPlace
places_from members None = map (λ member. record { member = member; place = GoesOn None }) members
places_from members (Some listing) = listing.places

-- the change of membership that was asked for is to settle its era, of which no listing is complete
pub record IsDueToList (members : List ℕ) (council : Council) (asked : Asked) (places : List MemberPlace) : Type 0 where
  pub plan : PlanView
  pub is_plan : council.plan ≡ Some plan
  pub is_for : plan.asked ≡ asked
  pub settles : next_of plan.progress.left ≡ Settle
  pub partial : (listing : ListingView) → plan.listing ≡ Some listing → listing.complete ≡ false
  pub goes_on : places ≡ places_from members plan.listing

-- the open call was asked for just that; and with a listing the caller has no open call; what a collection asks is told apart
abbrev pub IsForQuestion : List ℕ → Council → Option CallView → Asked → Question → Type 0
IsForQuestion members council call asked (Probe key) = IsProbeOf asked key
IsForQuestion members council call asked (NextKeys places) = (call ≡ None) × IsDueToList members council asked places
IsForQuestion members council call asked other = ⊥

-- whether the open call is to read the key of that probe
abbrev pub asks_to_read : Asked → Bool
asks_to_read (asked.Read key) = true
asks_to_read other = false

abbrev pub reads_by : Option OrderView → Question → Bool
reads_by (Some order) (Probe key) = asks_to_read order.asked
reads_by order question = false

-- the era in which it is read
abbrev pub read_era : {S V : Type 0} → View S V → Question → Option Era
read_era view question = if reads_by view.council.order question then Some (era_at view 0) else None

-- the marks of its harms fit, and those of a read
abbrev pub HasRoomToAsk : {S V : Type 0} → View S V → Question → Type 0
HasRoomToAsk view question = length view.marks + reserved_in_all view + length (asked_by view question) + marks_of_read (read_era view question) (asked_by view question) ≤ most_marks

-- what the exchange is at first, which is asked behind so many marks
abbrev pub new_exchange : Question → Ballot → List ℕ → ℕ → Option Era → ExchangeView
new_exchange question tag members since reads = record { question = question; tag = tag; members = members; since = since; told = map (λ member. record { acceptor = member; told = None }) members; harmed = []; reserved = length members; crashed = false; reads = reads }

-- the listing that goes on, where one does
abbrev pub listing_in : Option PlanView → Option ListingView
listing_in None = None
listing_in (Some plan) = plan.listing

abbrev pub listing_for : Council → Question → Option ListingView
listing_for council (NextKeys places) = listing_in council.plan
listing_for council other = None

-- its tag is used again, and otherwise one is drawn
abbrev pub HasTag : {V : Type 0} → DiskMeaning V → Option ListingView → DeskView V → DeskView V → Ballot → Type 0
HasTag m None desk now tag = HasDrawn m desk.id desk.vault now.vault tag
HasTag m (Some listing) desk now tag = (tag ≡ listing.tag) × (now.vault ≡ desk.vault)

-- and its vault keeps the age that the questions bear, wherever it stops
pub record TagsAll {V : Type 0} (m : DiskMeaning V) (listing : Option ListingView) (desk now : DeskView V) (tag : Ballot) : Type 0 where
  pub has_tag : HasTag m listing desk now tag
  pub aged : m.tells → IsAged m (kept_of desk.vault).age now.vault

abbrev pub WhereDrawn : Option ListingView → Type 0 → Type 0
WhereDrawn None happens = happens
WhereDrawn (Some listing) happens = ⊥

-- a listing begins, or goes on
abbrev pub begun_listing : List MemberPlace → Ballot → Option ListingView → ListingView
begun_listing places tag None = record { tag = tag; places = places; keys = []; complete = false }
begun_listing places tag (Some listing) = listing

abbrev pub listing_begun : List MemberPlace → Ballot → PlanView → PlanView
listing_begun places tag plan = record plan { listing = Some (begun_listing places tag plan.listing) }

abbrev pub plan_asked : Question → Ballot → Option PlanView → Option PlanView
plan_asked (NextKeys places) tag plan = option_map (listing_begun places tag) plan
plan_asked other tag plan = plan

-- The open call asks for it, and proposer 0, whose caller is the operator's, has no open round.
pub record MayAskAll {S V : Type 0} (old : View S V) (question : Question) (desk : DeskView V) : Type 0 where
  pub order : OrderView
  pub is_open : old.council.order ≡ Some order
  pub none_open : old.council.exchange ≡ None
  pub caller : CallerView
  pub at_caller : IsAt old.callers 0 caller
  pub is_for : IsForQuestion (everyone old) old.council caller.call order.asked question
  pub at_desk : IsAt old.desks 0 desk
  pub idle : desk.round ≡ None

-- It has a tag, and each of them is asked; or the open call is told why not.
pub data AsksAll {S V : Type 0} (m : Meaning S V) (old : View S V) (question : Question) (desk : DeskView V) (new : View S V) : Type 0 where
  asks : (now : DeskView V) (tag : Ballot) (flow : FlowView) → desk.down ≡ false → HasRoomToAsk old question → TagsAll m.disks (listing_for old.council question) desk now tag → now ≡ record desk { vault = now.vault }
      → Sends old.flow exchange_place (questions_to (kept_of desk.vault).age tag question (asked_by old question)) flow
      → new ≡ with_council (record (with_desk old 0 now) { flow = flow }) (record old.council { exchange = Some (new_exchange question tag (asked_by old question) (length old.marks) (read_era old question)); plan = plan_asked question tag old.council.plan }) → AsksAll m old question desk new
  is_down : desk.down ≡ true → new ≡ told_view old (told.Stopped answer.Down) → AsksAll m old question desk new
  is_full : desk.down ≡ false → (HasRoomToAsk old question → ⊥) → new ≡ told_view old (told.Stopped answer.RecordFull) → AsksAll m old question desk new
  is_spent : (now : DeskView V) → desk.down ≡ false → WhereDrawn (listing_for old.council question) (counter_of desk.vault ≡ 2 ^ 48) → HasKept m.disks desk.vault now.vault → now ≡ record desk { vault = now.vault }
      → new ≡ told_view (with_desk old 0 now) (told.Stopped answer.Spent) → AsksAll m old question desk new
  fails : (now : DeskView V) → desk.down ≡ false → WhereDrawn (listing_for old.council question) (FailsToDraw m.disks desk.cache desk now) → new ≡ told_view (with_desk old 0 now) (told.Stopped answer.VaultFault) → AsksAll m old question desk new
  no_memory : (now : DeskView V) (tag : Option Ballot) → desk.down ≡ false → LosesMemory m.disks [] desk now tag → new ≡ told_view (with_desk old 0 now) (told.Stopped (answer.NoMemory false)) → AsksAll m old question desk new

pub record StepAskAll {S V : Type 0} (m : Meaning S V) (old : View S V) (question : Question) (new : View S V) : Type 0 where
  pub desk : DeskView V
  pub may : MayAskAll old question desk
  pub asks : AsksAll m old question desk new

-- ---- a turn of its frames
-- the first harm of a member is marked, and no other
abbrev pub harmed_exchange : ExchangeView → ℕ → ExchangeView
harmed_exchange exchange member = record exchange {
  harmed = if has_member exchange.harmed member then exchange.harmed else with_member exchange.harmed member;
  reserved = if has_member exchange.harmed member then exchange.reserved else exchange.reserved - 1;
}

abbrev pub harm_marks : ExchangeView → ℕ → Bool → List Mark
harm_marks exchange member down = if has_member exchange.harmed member then [] else Harmed 0 0 down ∷ []

abbrev pub harms : {S V : Type 0} → View S V → ExchangeView → ℕ → Bool → View S V
harms view exchange member down = with_marks (with_exchange view (harmed_exchange exchange member)) (harm_marks exchange member down)

-- of each member the first reply counts
abbrev pub awaits : ℕ → ProbeOf → Bool
awaits member probe = (probe.acceptor == member) && is_none probe.told

abbrev pub hears : Reply → List ProbeOf → List ProbeOf
hears reply told = option_map_or (λ place. slice_set told place (record { acceptor = reply.from; told = Some reply.tell })) (position (awaits reply.from) told) told

pub data TurnsExchange {S V : Type 0} (m : Meaning S V) (old : View S V) (verdict : Verdict) (front : Message) (exchange : ExchangeView) (new : View S V) : Type 0 where
  -- the frame stays where it is
  held : fall_of (queue_at old.flow exchange_place).again verdict ≡ Held → new ≡ old → TurnsExchange m old verdict front exchange new
  -- it is lost or late
  gone : fall_of (queue_at old.flow exchange_place).again verdict ≡ Gone
      → new ≡ harms (record old { flow = taken old.flow exchange_place verdict }) exchange (head_of front).1 false → TurnsExchange m old verdict front exchange new
  -- a member answers
  answers : (request : Request) (acceptor now : AcceptorView S) (reply : Reply) → fall_of (queue_at old.flow exchange_place).again verdict ≡ Handle → front ≡ message.Request request
      → IsAt old.acceptors request.to acceptor → AnswersByTable m.shelves acceptor now request reply
      → new ≡ with_marks (record (with_acceptor old request.to now) { flow = replied_flow old.flow exchange_place verdict reply }) (votes_marked request reply) → TurnsExchange m old verdict front exchange new
  -- it is down
  finds_down : (request : Request) (acceptor : AcceptorView S) → fall_of (queue_at old.flow exchange_place).again verdict ≡ Handle → front ≡ message.Request request
      → IsAt old.acceptors request.to acceptor → acceptor.down ≡ true
      → new ≡ harms (record old { flow = taken old.flow exchange_place verdict }) exchange request.to true → TurnsExchange m old verdict front exchange new
  -- it goes down
  brings_down : (request : Request) (acceptor now : AcceptorView S) → fall_of (queue_at old.flow exchange_place).again verdict ≡ Handle → front ≡ message.Request request
      → IsAt old.acceptors request.to acceptor → StopsWithin m.shelves acceptor now request
      → new ≡ harms (record (with_acceptor old request.to now) { flow = taken old.flow exchange_place verdict }) exchange request.to true → TurnsExchange m old verdict front exchange new
  -- a reply arrives
  arrives : (reply : Reply) → fall_of (queue_at old.flow exchange_place).again verdict ≡ Handle → front ≡ message.Reply reply → IsReplyTo exchange.tag exchange.question reply
      → new ≡ with_exchange (record old { flow = taken old.flow exchange_place verdict }) (record exchange { told = hears reply exchange.told }) → TurnsExchange m old verdict front exchange new

-- the exchange that is open
pub record OpenExchangeAt {S V : Type 0} (view : View S V) : Type 0 where
  pub exchange : ExchangeView
  pub is_open : view.council.exchange ≡ Some exchange

pub record StepTurnExchange {S V : Type 0} (m : Meaning S V) (old : View S V) (verdict : Verdict) (new : View S V) : Type 0 where
  pub at : OpenExchangeAt old
  pub front : Message
  pub waits : slice_get (queue_at old.flow exchange_place).messages 0 ≡ Some front
  pub turn : TurnsExchange m old verdict front at.exchange new

-- no memory: the open call is told
pub record StepRefuseTurnExchange {S V : Type 0} (m : Meaning S V) (old : View S V) (new : View S V) : Type 0 where
  pub at : OpenExchangeAt old
  pub middle : View S V
  pub refuses : FindsNoRoom m old middle
  pub view : new ≡ told_view middle (told.Stopped (answer.NoMemory false))

-- ---- what was listed
-- the exchange is one of the listing of an era that is to be settled
pub record ListsFor {S V : Type 0} (view : View S V) (exchange : ExchangeView) : Type 0 where
  pub plan : PlanView
  pub is_plan : view.council.plan ≡ Some plan
  pub settles : next_of plan.progress.left ≡ Settle
  pub listing : ListingView
  pub is_listing : plan.listing ≡ Some listing
  pub question : exchange.question ≡ NextKeys listing.places
  pub tag : exchange.tag ≡ listing.tag

-- the exchange is over, and the open call is told nothing
abbrev pub listed_view : {S V : Type 0} → View S V → PlanView → ListingView → View S V
listed_view view plan listing = with_council view (record (hushed view.council) { exchange = None; plan = Some (with_listing plan listing) })

-- ---- what it told
-- Proposer 0 crashed within it, or each member was asked; or no memory is found for what it told, and it stays. What a read found may be
-- acknowledged. A listing goes on, or so few members count that a quorum is missing.
pub data Gathers {S V : Type 0} (old : View S V) (exchange : ExchangeView) (new : View S V) : Type 0 where
  crashed : exchange.crashed ≡ true → new ≡ gathered old (told.Stopped answer.Crashed) → Gathers old exchange new
  probed : (key : List ℕ) (found : Probes) → exchange.crashed ≡ false → exchange.question ≡ Probe key → exchange.reads ≡ None → found.probes.items ≡ exchange.told → new ≡ gathered old (told.Probed key found) → Gathers old exchange new
  read : (key : List ℕ) (era : Era) (found : Probes) (marks : List Mark) → exchange.crashed ≡ false → exchange.question ≡ Probe key → exchange.reads ≡ Some era → found.probes.items ≡ exchange.told → MarksRead era key exchange.told (reverse old.marks) marks
      → new ≡ with_marks (gathered old (told.Probed key found)) marks → Gathers old exchange new
  lists : (of : ListsFor old exchange) (listing : ListingView) → exchange.crashed ≡ false → missing (era_at old 0) (counted exchange.told of.listing.places) ≡ None → ListsOn (era_at old 0) exchange.told of.listing listing
      → new ≡ listed_view old of.plan listing → Gathers old exchange new
  is_short : (of : ListsFor old exchange) (short : Answer) → exchange.crashed ≡ false → missing (era_at old 0) (counted exchange.told of.listing.places) ≡ Some short
      → new ≡ gathered old (told.Stopped (why_short exchange.told short)) → Gathers old exchange new
  no_memory : exchange.crashed ≡ false → new ≡ told_view old (told.Stopped (answer.NoMemory false)) → Gathers old exchange new

pub record StepGather {S V : Type 0} (old : View S V) (new : View S V) : Type 0 where
  pub at : OpenExchangeAt old
  pub none_waits : (queue_at old.flow exchange_place).messages ≡ []
  pub gathers : Gathers old at.exchange new

-- no memory: the open call is told
pub record StepRefuseKey {S V : Type 0} (old : View S V) (new : View S V) : Type 0 where
  pub order : OrderView
  pub is_open : old.council.order ≡ Some order
  pub view : new ≡ told_view old (told.Stopped (answer.NoMemory false))
