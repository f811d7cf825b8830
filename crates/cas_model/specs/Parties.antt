-- How each party of a cluster is tied to the log: what an acceptor keeps and a crash may leave of it, what a desk and its caller know,
-- and what the frames under way bear. No party is tied to another.
use Rattle.std.specs.Prelude.{◌≡◌, ⊤, ℕ, suc, ◌≤◌, true, false, List, [], ◌∷◌, length, Option, None, Some, Contains, ◌⊎◌, is_some}
use Rattle.cas_ballot.specs.declared.ballot.Ballot.{Ballot}
use Rattle.cas_ballot.specs.Ballot.{BallotAtMost, BallotLess}
use Rattle.cas_ballot.specs.Members.{has_member, IsMemberSet}
use Rattle.cas_cache.specs.declared.ready.Ready.{Ready}
use Rattle.cas_change.specs.declared.outcome.Took.{Took}
use Rattle.cas_change.specs.declared.state.State.{State}
use Rattle.cas_flow.specs.Message.{head_of}
use Rattle.cas_flow.specs.declared.message.Message.{Message}
use Rattle.cas_flow.specs.declared.message.Message.TheVariants as message
use Rattle.cas_proposer.specs.Desk.{DeskView}
use Rattle.cas_proposer.specs.Round.{is_heard_at, is_of, IsPreparing, IsAccepting}
use Rattle.cas_proposer.specs.declared.round.OpenPhase.{OpenPhase}
use Rattle.cas_proposer.specs.declared.round.OpenPhase.TheVariants.{Prepare, Accept}
use Rattle.cas_proposer.specs.declared.round.Round.{Round}
use Rattle.cas_quorum.specs.declared.era.Era.{Era}
use Rattle.cas_quorum.specs.Era.{holds_prep, holds_acc, IsSized}
use Rattle.cas_round.specs.Replies.{accepters_of}
use Rattle.cas_slot.specs.Contents.{Contents, nothing}
use Rattle.cas_slot.specs.Message.{phase_of, tag_of}
use Rattle.cas_slot.specs.Shelf.{Left, OnlyLeaves}
use Rattle.cas_slot.specs.declared.message.Ask.{Ask}
use Rattle.cas_slot.specs.declared.message.Ask.TheVariants as ask
use Rattle.cas_slot.specs.declared.message.Reply.{Reply}
use Rattle.cas_slot.specs.declared.message.Request.{Request}
use Rattle.cas_slot.specs.declared.message.Tell.{Tell}
use Rattle.cas_slot.specs.declared.message.Tell.TheVariants as tell
use Rattle.cas_vault.specs.declared.kept.Kept.{Kept}
use Rattle.cas_vault.specs.declared.vault.Vault.{Vault}
use Rattle.cas_vault.specs.Vault.{disk_of, kept_of, KeptOn, IsPast}
use Rattle.cas_acceptor.specs.Acceptor.{AcceptorView}
use Rattle.cas_record.specs.declared.answer.Answer.{Answer}
use Rattle.cas_record.specs.declared.answer.Answer.TheVariants as answer
use Rattle.cas_record.specs.declared.mark.Mark.TheVariants.{Begun}
use Rattle.cas_record.specs.Logs.Happening.{Happening, Asked, Drew, Entered, Replied, marks_of}
use Rattle.cas_record.specs.Logs.Lawful.{Cluster, IsIn}
use Rattle.cas_record.specs.Legal.{HasProposal, HasFloor, IsProposed, IsEnded, IsAcked, calls_of, tells_refused, tells_unsettled, harms_due, harms_of}
use Rattle.cas_record.specs.Logs.Orderly.{IsAboveFloors}
use Rattle.cas_record.specs.Places.{At, Stands}
use Rattle.cas_protocol.specs.Acceptors.{IsLeft}
use Rattle.cas_record.specs.declared.operator.Probe.{Probe as Answered}
use Rattle.cas_model.specs.Council.{Question, Probe, ExchangeView, IsReplyTo, tag_key}
use Rattle.cas_protocol.specs.Proposers.{AllRide}
use Rattle.cas_protocol.specs.Protocol.{Made, HasMade}
use Rattle.cas_protocol.specs.Reads.{AreFloorsKnown}
use Rattle.cas_model.specs.View.{DiskMeaning, Meaning, CallView, CallerView, IsAt}

-- ---- acceptors
-- One that is up keeps this, and a crash leaves just that. One that is down leaves that, or what the answer to a
-- request would have made of it. One that never started keeps nothing.
pub record IsAcceptorTrue {S V : Type 0} (m : Meaning S V) (log : List Happening) (id : ℕ) (kept : Contents) (acceptor : AcceptorView S) : Type 0 where
  pub same_id : acceptor.id ≡ id
  pub started : acceptor.down ≡ false → acceptor.started ≡ true
  pub keeps : acceptor.down ≡ false → m.shelves.contents acceptor.shelf ≡ kept
  pub lasts : acceptor.down ≡ false → OnlyLeaves (m.shelves.contents acceptor.shelf) (m.shelves.may_leave acceptor.shelf)
  pub stopped : acceptor.down ≡ true → acceptor.started ≡ true → (left : Left) → m.shelves.may_leave acceptor.shelf left → IsLeft log id kept left
  pub not_started : acceptor.started ≡ false → kept ≡ nothing

-- ---- messages
-- what a request of a round may be told
abbrev pub IsRoundTell : Ask → Tell → Type 0
IsRoundTell question (tell.Met ballot) = ⊤
IsRoundTell question (tell.Aged least) = ⊤
IsRoundTell question tell.Full = ⊤
IsRoundTell (ask.Prepare key ballot) (tell.Promised accepted) = ⊤
IsRoundTell (ask.Accept key ballot era ride state) tell.Accepted = ⊤
IsRoundTell (ask.Prepare key ballot) other = ⊥
IsRoundTell (ask.Accept key ballot era ride state) other = ⊥
IsRoundTell question answer = ⊤

-- an acceptor made the reply, of the kind of what it was asked
pub record WasMade (log : List Happening) (reply : Reply) : Type 0 where
  pub request : Request
  pub replied : Stands (Replied request reply) log
  pub kind : IsRoundTell request.ask reply.tell

-- a request was made, and so was a reply
abbrev pub IsMessageTrue : List Happening → Message → Type 0
IsMessageTrue log (message.Request request) = Stands (Asked request) log
IsMessageTrue log (message.Reply reply) = WasMade log reply

abbrev pub AreMessagesTrue : List Happening → List Message → Type 0
AreMessagesTrue log messages = (each : Message) → Contains messages each → IsMessageTrue log each

abbrev pub WereMade : List Happening → List Reply → Type 0
WereMade log replies = (reply : Reply) → Contains replies reply → WasMade log reply

-- ---- eras
-- the quorums of an era in the cluster
pub record IsEraOf (cluster : Cluster) (era : Era) : Type 0 where
  pub prep_members : (acceptor : ℕ) → has_member era.prep acceptor ≡ true → has_member (cluster.members era.number) acceptor ≡ true
  pub acc_members : (acceptor : ℕ) → has_member era.acc acceptor ≡ true → has_member (cluster.members era.number) acceptor ≡ true
  pub only_members : (acceptor : ℕ) → has_member (cluster.members era.number) acceptor ≡ true → (has_member era.prep acceptor ≡ true) ⊎ (has_member era.acc acceptor ≡ true)
  pub prepares : (by : List ℕ) → cluster.prepares era.number by ≡ holds_prep era by
  pub accepts : (by : List ℕ) → cluster.accepts era.number by ≡ holds_acc era by
  pub prep_set : IsMemberSet era.prep
  pub acc_set : IsMemberSet era.acc
  pub sized : IsSized era

-- the vault keeps this era, and whatever a crash leaves of it keeps this one or the other
pub record VaultKeepsEra {V : Type 0} (m : DiskMeaning V) (era other : ℕ) (vault : Vault V) : Type 0 where
  pub kept : (kept_of vault).era ≡ era
  pub left : (c : List ℕ) (kept : Kept) → m.may_leave (disk_of vault) c → KeptOn kept c → (kept.era ≡ era) ⊎ (kept.era ≡ other)

-- ---- ages
-- the vault keeps this age or a greater one, and so does whatever a crash leaves of it
pub record IsAged {V : Type 0} (m : DiskMeaning V) (age : ℕ) (vault : Vault V) : Type 0 where
  pub kept : age ≤ (kept_of vault).age
  pub left : (c : List ℕ) (kept : Kept) → m.may_leave (disk_of vault) c → KeptOn kept c → age ≤ kept.age

-- ---- ballots in hand
-- A ballot that the proposer drew for the key in the era and proposed nothing at, above the floors of the key.
pub record IsInHand (log : List Happening) (id era : ℕ) (key : List ℕ) (ballot : Ballot) : Type 0 where
  pub own : ballot.proposer ≡ id
  pub drawn : Stands (Drew ballot key era) log
  pub fresh : HasProposal key ballot (marks_of log) → ⊥
  pub above_floors : IsAboveFloors (marks_of log) key ballot

-- A promise that a proposer holds: its ballot is in hand, and rode on what the proposer had made at the key's last one, which a prepare
-- quorum of the era accepted; no floor was made above that.
pub record IsHeldReady (cluster : Cluster) (log : List Happening) (all : List Made) (id era : ℕ) (key : List ℕ) (ready : Ready) : Type 0 where
  pub in_hand : IsInHand log id era key ready.ballot
  pub own_read : ready.read.proposer ≡ id
  pub drawn : Stands (Drew ready.read key era) log
  pub made : HasMade all key ready.read era ready.state
  pub replies : List Reply
  pub replied : WereMade log replies
  pub accepted_by : ready.by ≡ accepters_of ready.read replies
  pub quorum : cluster.prepares era ready.by ≡ true
  pub above : BallotLess ready.read ready.ballot
  pub rides : AllRide log key ready.read ready.ballot
  pub over_floors : (floor : Ballot) → HasFloor key floor (marks_of log) → BallotAtMost floor ready.read

-- ---- rounds
-- the members that the open phase asks
abbrev pub asked_in : Era → OpenPhase → List ℕ
asked_in era (Prepare phase) = era.prep
asked_in era (Accept phase) = era.acc

-- the message is of the open phase of the round
abbrev pub IsOfPhase : Round → Message → Type 0
IsOfPhase round (message.Request request) = (is_of round.phase (phase_of request.ask) ≡ true) × (tag_of request.ask ≡ round.ballot)
IsOfPhase round (message.Reply reply) = (is_of round.phase reply.phase ≡ true) × (reply.tag ≡ round.ballot)

-- a member that is asked was heard, or a frame to or from it waits, or one was harmed
pub data IsAccountedFor (round : Round) (replies : List Reply) (waiting : List Message) (harmed : List ℕ) (acceptor : ℕ) : Type 0 where
  heard : (reply : Reply) → Contains replies reply → reply.from ≡ acceptor → is_heard_at round reply ≡ true → IsAccountedFor round replies waiting harmed acceptor
  waits : (each : Message) → Contains waiting each → (head_of each).1 ≡ acceptor → IsAccountedFor round replies waiting harmed acceptor
  was_harmed : has_member harmed acceptor ≡ true → IsAccountedFor round replies waiting harmed acceptor

-- what arrived, what waits and what was harmed account for all whom the open phase asks
pub record IsPhaseHeard (round : Round) (replies : List Reply) (waiting : List Message) (harmed : List ℕ) : Type 0 where
  pub of_phase : (each : Message) → Contains waiting each → IsOfPhase round each
  pub each : (acceptor : ℕ) → has_member (asked_in round.era round.phase) acceptor ≡ true → IsAccountedFor round replies waiting harmed acceptor

-- in its prepare phase: nothing was proposed, and its ballot is in hand
pub record IsPrepareTrue (log : List Happening) (id : ℕ) (call : CallView) (waiting : List Message) (round : Round) : Type 0 where
  pub unproposed : call.proposed ≡ None
  pub in_hand : IsInHand log id round.era.number round.key round.ballot
  pub replies : List Reply
  pub preparing : IsPreparing replies round
  pub made : WereMade log replies
  pub heard : IsPhaseHeard round replies waiting call.harmed

-- the ballot that rides with the accepts of a round: it is in hand, and whoever was asked to accept was asked to promise it
pub record IsRideTrue (log : List Happening) (id : ℕ) (round : Round) (ride : Ballot) : Type 0 where
  pub in_hand : IsInHand log id round.era.number round.key ride
  pub above : BallotLess round.ballot ride
  pub all : AllRide log round.key round.ballot ride

-- in its accept phase: what the caller's call proposed at the round's ballot was made
pub record IsAcceptTrue (log : List Happening) (all : List Made) (id number : ℕ) (call : CallView) (waiting : List Message) (round : Round) : Type 0 where
  pub made : Made
  pub stands : Stands made all
  pub same_caller : made.proposal.caller ≡ id
  pub same_call : made.proposal.call ≡ number
  pub same_key : made.proposal.key ≡ round.key
  pub same_ballot : made.proposal.ballot ≡ round.ballot
  pub same_era : made.proposal.era ≡ round.era.number
  pub proposed : call.proposed ≡ Some made.outcome
  pub drawn : Stands (Drew round.ballot round.key round.era.number) log
  pub above_floors : IsAboveFloors (marks_of log) round.key round.ballot
  pub prepared : List Reply
  pub replies : List Reply
  pub accepting : IsAccepting prepared replies round
  pub replied : WereMade log replies
  pub heard : IsPhaseHeard round replies waiting call.harmed
  pub ride : (ballot : Ballot) → round.ride ≡ Some ballot → IsRideTrue log id round ballot

-- an open round is that of the caller's open call
pub record IsRoundTrue (cluster : Cluster) (log : List Happening) (all : List Made) (id era : ℕ) (caller : CallerView) (waiting : List Message) (round : Round) : Type 0 where
  pub call : CallView
  pub is_open : caller.call ≡ Some call
  pub same_key : round.key ≡ call.key
  pub own : round.ballot.proposer ≡ id
  pub same_era : round.era.number ≡ era
  pub is_era : IsEraOf cluster round.era
  pub phase : IsPrepareTrue log id call waiting round ⊎ IsAcceptTrue log all id caller.number call waiting round

abbrev pub IsOpenTrue : Cluster → List Happening → List Made → ℕ → ℕ → CallerView → List Message → Option Round → Type 0
IsOpenTrue cluster log all id era caller waiting None = waiting ≡ []
IsOpenTrue cluster log all id era caller waiting (Some round) = IsRoundTrue cluster log all id era caller waiting round

-- ---- desks
-- It draws no ballot twice and none below a floor, wherever it stops, and its proposer asked nothing at an age above the one that it keeps
-- then; and its proposer is in this era and in no later one.
pub record IsVaultTrue {S V : Type 0} (m : Meaning S V) (log : List Happening) (id era : ℕ) (vault : Vault V) : Type 0 where
  pub past : (ballot : Ballot) (key : List ℕ) (e : ℕ) → Stands (Drew ballot key e) log → ballot.proposer ≡ id → IsPast m.disks.may_leave ballot.counter vault
  pub past_floors : (key : List ℕ) (floor : Ballot) → HasFloor key floor (marks_of log) → IsPast m.disks.may_leave floor.counter vault
  pub ages : (request : Request) → Stands (Asked request) log → request.from ≡ id → IsAged m.disks request.age vault
  pub is_in : IsIn log id era
  pub not_beyond : Stands (Entered id (suc era)) log → ⊥

-- each promise of the cache is held
abbrev pub ArePromisesHeld : Cluster → List Happening → List Made → ℕ → ℕ → List (List ℕ × Ready) → Type 0
ArePromisesHeld cluster log all id era cache = (key : List ℕ) (ready : Ready) → Contains cache (key, ready) → IsHeldReady cluster log all id era key ready

-- no key has two promises
abbrev pub HaveOneEach : List (List ℕ × Ready) → Type 0
HaveOneEach [] = ⊤
HaveOneEach (entry ∷ cache) = ((ready : Ready) → Contains cache (entry.0, ready) → ⊥) × HaveOneEach cache

-- the key of the open round has none
abbrev pub HasNone : Option Round → List (List ℕ × Ready) → Type 0
HasNone None cache = ⊤
HasNone (Some round) cache = (ready : Ready) → Contains cache (round.key, ready) → ⊥

pub record IsDeskTrue {S V : Type 0} (m : Meaning S V) (cluster : Cluster) (log : List Happening) (all : List Made) (era id : ℕ) (caller : CallerView) (waiting : List Message) (desk : DeskView V) : Type 0 where
  pub same_id : desk.id ≡ id
  pub known : id ≤ cluster.last_proposer
  pub vault : IsVaultTrue m log id era desk.vault
  pub cached : ArePromisesHeld cluster log all id era desk.cache
  pub one_each : HaveOneEach desk.cache
  pub none_open : HasNone desk.round desk.cache
  pub round : IsOpenTrue cluster log all id era caller waiting desk.round

-- ---- the operator
-- a reply to such a request was made in which the acceptor told it
pub record WasToldBy (log : List Happening) (tag : Ballot) (question : Question) (acceptor : ℕ) (told : Tell) : Type 0 where
  pub reply : Reply
  pub made : WasMade log reply
  pub same_from : reply.from ≡ acceptor
  pub same_tell : reply.tell ≡ told
  pub to_it : IsReplyTo tag question reply

abbrev pub WereTold : List Happening → Ballot → Question → List Answered → Type 0
WereTold log tag question answers = (place : ℕ) (answer : Answered) (told : Tell) → IsAt answers place answer → answer.told ≡ Some told → WasToldBy log tag question answer.acceptor told

-- The tag of a read was drawn behind so many marks, when proposer 0 was in the era and in none after it, and the floors of the key were
-- known. Its requests ask for the key alone. The quorums of the era are those of the cluster.
pub record IsReadTrue (cluster : Cluster) (log : List Happening) (tag : Ballot) (since : ℕ) (key : List ℕ) (era : Era) : Type 0 where
  pub older : List Happening
  pub drawn : At (Drew tag [] era.number) older log
  pub behind : length (marks_of older) ≡ since
  pub not_beyond : Stands (Entered tag.proposer (suc era.number)) older → ⊥
  pub floors : AreFloorsKnown cluster older key
  pub alone : (request : Request) (k : List ℕ) → Stands (Asked request) log → request.ask ≡ ask.Probe tag k → k ≡ key
  pub prepares : (by : List ℕ) → holds_prep era by ≡ true → cluster.prepares era.number by ≡ true
  pub accepts : (by : List ℕ) → holds_acc era by ≡ true → cluster.accepts era.number by ≡ true

-- the tag of an exchange was drawn, and what its members told was told in replies that were made; and so it is of a read
pub record IsExchangeTrue (cluster : Cluster) (log : List Happening) (exchange : ExchangeView) : Type 0 where
  pub own : exchange.tag.proposer ≡ 0
  pub era : ℕ
  pub drawn : Stands (Drew exchange.tag (tag_key exchange.question) era) log
  pub told : WereTold log exchange.tag exchange.question exchange.told
  pub read : (key : List ℕ) (era : Era) → exchange.question ≡ Probe key → exchange.reads ≡ Some era → IsReadTrue cluster log exchange.tag exchange.since key era

-- ---- callers
-- what the call made is acknowledged
pub record IsDoneTrue (log : List Happening) (all : List Made) (id number : ℕ) (state : State) (took : Took) (ballot : Ballot) : Type 0 where
  pub made : Made
  pub stands : Stands made all
  pub same_caller : made.proposal.caller ≡ id
  pub same_call : made.proposal.call ≡ number
  pub same_ballot : made.proposal.ballot ≡ ballot
  pub own : ballot.proposer ≡ id
  pub same_outcome : made.outcome ≡ record { state = state; took = took }
  pub acked : IsAcked made.proposal.key ballot (marks_of log)

-- a change that is refused was not proposed, an unsettled one was, and a shortfall was harmed
pub record IsRefusalTrue (log : List Happening) (id number : ℕ) (answer : Answer) : Type 0 where
  pub refused : tells_refused answer ≡ true → IsProposed id number (marks_of log) → ⊥
  pub unsettled : tells_unsettled answer ≡ true → IsProposed id number (marks_of log)
  pub harmed : harms_due answer ≤ harms_of id number (marks_of log)

abbrev pub IsToldTrue : List Happening → List Made → ℕ → ℕ → Answer → Type 0
IsToldTrue log all id number (answer.Done state took ballot) = IsDoneTrue log all id number state took ballot
IsToldTrue log all id number other = IsRefusalTrue log id number other

-- an open call was begun and not answered, and was proposed where it says so
pub record IsCallTrue (log : List Happening) (all : List Made) (id number : ℕ) (call : CallView) : Type 0 where
  pub begun : Stands (Begun id number call.key call.program) (marks_of log)
  pub open_yet : IsEnded id number (marks_of log) → ⊥
  pub unproposed : call.proposed ≡ None → IsProposed id number (marks_of log) → ⊥
  pub proposed : is_some call.proposed ≡ true → IsProposed id number (marks_of log)
  pub harmed_set : IsMemberSet call.harmed
  pub harmed : length call.harmed ≤ harms_of id number (marks_of log)
  pub told : (told : Answer) → call.told ≡ Some told → IsToldTrue log all id number told

-- each call that was proposed, but for one that is open, was ended
abbrev pub AreEnded : List Happening → ℕ → ℕ → Option CallView → Type 0
AreEnded log id number open_ = (call : ℕ) → IsProposed id call (marks_of log) → ((is_some open_ ≡ true) × (call ≡ number)) ⊎ IsEnded id call (marks_of log)

-- the caller began so many calls, and the last one may be open; any other that was proposed was ended
pub record IsCallerTrue (log : List Happening) (all : List Made) (id : ℕ) (caller : CallerView) : Type 0 where
  pub number : caller.number ≡ calls_of id (marks_of log)
  pub call : (call : CallView) → caller.call ≡ Some call → IsCallTrue log all id caller.number call
  pub ended : AreEnded log id caller.number caller.call
