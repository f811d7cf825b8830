-- What others do changes nothing of what a party knows: of a desk, of a caller, and of the frames under way.
use Rattle.std.proofs.Common.{◌≡◌, ◌≤◌, ℕ, suc, List, ◌∷◌, Option, None, Some, refl, sym, ap, subst, ◌∙◌, inl, inr, arith}
use Rattle.std.specs.Prelude.{⊤, ◌⊎◌, ◌==◌}
use Rattle.cas_base.proofs.Bools.{if_false, true_or_false}
use Rattle.cas_ballot.specs.declared.ballot.Ballot.{Ballot}
use Rattle.cas_ballot.proofs.BallotLemmas.{less_not_at_most}
use Rattle.cas_cache.specs.declared.ready.Ready.{Ready}
use Rattle.cas_change.specs.declared.program.Clause.{Clause}
use Rattle.cas_change.specs.declared.state.State.{State}
use Rattle.cas_flow.specs.declared.message.Message.{Message}
use Rattle.cas_flow.specs.declared.message.Message.TheVariants as message
use Rattle.cas_acceptor.specs.Acceptor.{AcceptorView}
use Rattle.cas_proposer.specs.Desk.{DeskView}
use Rattle.cas_proposer.specs.declared.round.Round.{Round}
use Rattle.cas_slot.specs.Contents.{Contents}
use Rattle.cas_slot.specs.declared.message.Ask.TheVariants as ask
use Rattle.cas_slot.specs.declared.message.Reply.{Reply}
use Rattle.cas_slot.specs.declared.message.Request.{Request}
use Rattle.cas_vault.specs.declared.vault.Vault.{Vault}
use Rattle.cas_record.specs.declared.answer.Answer.{Answer}
use Rattle.cas_record.specs.declared.answer.Answer.TheVariants as answer
use Rattle.cas_record.specs.declared.mark.Mark.{Mark}
use Rattle.cas_record.specs.declared.mark.Mark.TheVariants.{Begun, Proposed, Floor, Ended, Harmed}
use Rattle.cas_record.specs.declared.mark.Proposal.{Proposal}
use Rattle.cas_record.specs.Logs.Happening.{Happening, Marked, Asked, Entered, Drew, marks_of}
use Rattle.cas_record.specs.Logs.Lawful.{Cluster, Lawful, IsIn, AllEntered, IsRescanned}
use Rattle.cas_record.specs.Legal.{HasFloor, IsProposed, IsEnded, IsAcked, calls_of, harms_of}
use Rattle.cas_record.specs.Histories.Chain.{is_call}
use Rattle.cas_record.specs.Logs.Orderly.{Orderly, HasReason, MayAsk, IsAboveFloors}
use Rattle.cas_record.specs.Logs.Listing.{WasAbsent}
use Rattle.cas_record.specs.Places.{Stands, here, past, IsOlderPart, whole, later as older_by}
use Rattle.cas_record.proofs.Logs.Orders.{age_later}
use Rattle.cas_record.proofs.PlaceLemmas.{newest_or, at_part}
use Rattle.cas_record.proofs.Tests.{nat_same, step_up}
use Rattle.cas_protocol.specs.Acceptors.{IsElsewhere}
use Rattle.cas_model.specs.Collection.Logged.{IsTombstoneTrue, IsSoughtTrue, AsksAboveFor, IsCollectingTrue}
use Rattle.cas_model.specs.Collection.State.{Tombstone, Acknowledged, CollectionView}
use Rattle.cas_model.specs.Council.{Place, GoesOn, Ended, place_in, ListingView, ExchangeView, PlanView, Council}
use Rattle.cas_model.specs.Eras.Listed.{IsShown, rescanned, listed, absent, AreShown, IsListingTrue, IsPlanTrue, IsAskingTrue, IsCouncilTrue}
use Rattle.cas_model.specs.Parties.{IsAcceptorTrue, WasMade, IsMessageTrue, AreMessagesTrue, WereMade, IsInHand, IsHeldReady, IsPrepareTrue, IsRideTrue, IsAcceptTrue, IsRoundTrue, IsOpenTrue, IsAged, IsVaultTrue, IsDeskTrue, IsReadTrue, IsRefusalTrue, IsToldTrue, IsCallTrue, AreEnded, IsCallerTrue}
use Rattle.cas_protocol.specs.Proposers.{AllRide}
use Rattle.cas_protocol.specs.Protocol.{Made, HasMade, IsListed}
use Rattle.cas_model.specs.View.{Meaning, CallView, CallerView, IsAt}
use Rattle.cas_protocol.proofs.Events.{mark_now, ended_grows}
use Rattle.cas_protocol.proofs.Growing.{made_grows}
use Rattle.cas_protocol.proofs.Staying.{left_still}
use Rattle.cas_quorum.specs.declared.era.Era.{Era}

-- ---- whose a happening is
-- It is none of this proposer's or of its caller's: no ballot of it is drawn or proposed, no call of it is marked, and it asks nothing.
-- No floor is made.
abbrev pub IsOfOthers : ℕ → Happening → Type 0
IsOfOthers id (Drew ballot key era) = ballot.proposer ≡ id → ⊥
IsOfOthers id (Asked request) = request.from ≡ id → ⊥
IsOfOthers id (Entered proposer era) = proposer ≡ id → ⊥
IsOfOthers id (Marked (Begun caller call key program)) = caller ≡ id → ⊥
IsOfOthers id (Marked (Proposed p)) = (p.caller ≡ id → ⊥) × (p.ballot.proposer ≡ id → ⊥)
IsOfOthers id (Marked (Ended caller call rounds answer)) = caller ≡ id → ⊥
IsOfOthers id (Marked (Floor key floor state)) = ⊥
IsOfOthers id other = ⊤

-- ---- places
pub later : {A : Type 0} {x h : A} {log : List A} → Stands x log → Stands x (h ∷ log)
later stands = record { older = stands.older; at = past stands.at }

pub mark_later : (h : Happening) (log : List Happening) {mark : Mark} → Stands mark (marks_of log) → Stands mark (marks_of (h ∷ log))
mark_later (Marked now) log stands = later stands
mark_later h log stands = stands

-- ---- frames
pub reply_still : (h : Happening) (log : List Happening) {reply : Reply} → WasMade log reply → WasMade (h ∷ log) reply
reply_still h log was = record { request = was.request; replied = later was.replied; kind = was.kind }

pub replies_still : (h : Happening) (log : List Happening) (replies : List Reply) → WereMade log replies → WereMade (h ∷ log) replies
replies_still h log replies were reply has = reply_still h log (were reply has)

pub message_still : (h : Happening) (log : List Happening) (each : Message) → IsMessageTrue log each → IsMessageTrue (h ∷ log) each
message_still h log (message.Request request) was = later was
message_still h log (message.Reply reply) was = reply_still h log was

pub messages_still : (h : Happening) (log : List Happening) (messages : List Message) → AreMessagesTrue log messages → AreMessagesTrue (h ∷ log) messages
messages_still h log messages were each has = message_still h log each (were each has)

-- ---- ballots in hand
-- it proposes nothing for the key at the ballot; it makes no floor; whoever it asks to accept the ballot it asks to promise the other
abbrev pub ProposesNot : Happening → List ℕ → Ballot → Type 0
ProposesNot h key ballot = (p : Proposal) → Marked (Proposed p) ≡ h → p.key ≡ key → p.ballot ≡ ballot → ⊥

abbrev pub FloorsNot : Happening → Type 0
FloorsNot h = (key : List ℕ) (floor : Ballot) (state : State) → Marked (Floor key floor state) ≡ h → ⊥

abbrev pub AsksToRide : Happening → List ℕ → Ballot → Ballot → Type 0
AsksToRide h key ballot ride = (request : Request) (era : ℕ) (asked : Option Ballot) (state : State) → Asked request ≡ h → request.ask ≡ ask.Accept key ballot era asked state → asked ≡ Some ride

floors_before : (h : Happening) (log : List Happening) {key : List ℕ} {floor : Ballot} → FloorsNot h → HasFloor key floor (marks_of (h ∷ log)) → HasFloor key floor (marks_of log)
floors_before h log {key} {floor} none has = elim (mark_now h log has.stands) [
  | inl now ↦ absurd (none key floor has.state now)
  | inr before ↦ record { state = has.state; stands = before }
]

pub above_still : (h : Happening) (log : List Happening) {key : List ℕ} {ballot : Ballot} → FloorsNot h → IsAboveFloors (marks_of log) key ballot → IsAboveFloors (marks_of (h ∷ log)) key ballot
above_still h log {key} {ballot} none was = record { above = λ {floor} {state} stands. was.above (floors_before h log none (record { state = state; stands = stands })).stands }

pub hand_still : (h : Happening) (log : List Happening) {id era : ℕ} {key : List ℕ} {ballot : Ballot} → ProposesNot h key ballot → FloorsNot h → IsInHand log id era key ballot
    → IsInHand (h ∷ log) id era key ballot
hand_still h log {id} {era} {key} {ballot} not none was = record {
  own = was.own;
  drawn = later was.drawn;
  fresh = λ has. elim (mark_now h log has.stands) [
    | inl now ↦ not has.proposal now has.same_key has.same_ballot
    | inr before ↦ was.fresh (record { proposal = has.proposal; stands = before; same_key = has.same_key; same_ballot = has.same_ballot })
  ];
  above_floors = above_still h log none was.above_floors;
}

pub all_still : (h : Happening) (log : List Happening) {key : List ℕ} {ballot ride : Ballot} → AsksToRide h key ballot ride → AllRide log key ballot ride → AllRide (h ∷ log) key ballot ride
all_still h log asks was = record {
  rides = λ request era asked state stands is. elim (newest_or stands) [
    | inl now ↦ asks request era asked state now is
    | inr before ↦ was.rides request era asked state before is
  ];
}

pub ready_still : (cluster : Cluster) (h : Happening) (log : List Happening) (all : List Made) {id era : ℕ} {key : List ℕ} {ready : Ready} → ProposesNot h key ready.ballot → FloorsNot h
    → AsksToRide h key ready.read ready.ballot
    → IsHeldReady cluster log all id era key ready → IsHeldReady cluster (h ∷ log) all id era key ready
ready_still cluster h log all {id} {era} {key} {ready} not none asks was = record {
  in_hand = hand_still h log not none was.in_hand;
  own_read = was.own_read;
  drawn = later was.drawn;
  made = was.made;
  replies = was.replies;
  replied = replies_still h log was.replies was.replied;
  accepted_by = was.accepted_by;
  quorum = was.quorum;
  above = was.above;
  rides = all_still h log asks was.rides;
  over_floors = λ floor has. was.over_floors floor (floors_before h log none has);
}

-- ---- what others do
not_of : {id : ℕ} {h : Happening} {key : List ℕ} {ballot : Ballot} → IsOfOthers id h → ballot.proposer ≡ id → ProposesNot h key ballot
not_of {id} others own p now same_key same_ballot =
    let of : IsOfOthers id (Marked (Proposed p)) = subst (IsOfOthers id) (sym now) others in of.1 (ap (λ (b : Ballot). b.proposer) same_ballot ∙ own)

pub no_floor_of : (id : ℕ) {h : Happening} → IsOfOthers id h → FloorsNot h
no_floor_of id others key floor state now = let of : IsOfOthers id (Marked (Floor key floor state)) = subst (IsOfOthers id) (sym now) others in of

-- whoever was asked to accept the proposer's ballot was asked by it
asks_of : (cluster : Cluster) (h : Happening) (log : List Happening) {id : ℕ} {key : List ℕ} {ballot ride : Ballot} → Orderly cluster (h ∷ log) → IsOfOthers id h → ballot.proposer ≡ id
    → AsksToRide h key ballot ride
asks_of cluster h log {id} {key} {ballot} orderly others own request era asked state now is = absurd (
    let may : MayAsk cluster log request request.ask = subst (HasReason cluster log) (sym now) orderly.1 in
    let accept : MayAsk cluster log request (ask.Accept key ballot era asked state) = subst (MayAsk cluster log request) is may in
    let of : IsOfOthers id (Asked request) = subst (IsOfOthers id) (sym now) others in
    of (sym accept.0.own ∙ own))

ready_of : (cluster : Cluster) (h : Happening) (log : List Happening) (all : List Made) {id era : ℕ} {key : List ℕ} {ready : Ready} → Orderly cluster (h ∷ log) → IsOfOthers id h
    → IsHeldReady cluster log all id era key ready → IsHeldReady cluster (h ∷ log) all id era key ready
ready_of cluster h log all {id} orderly others was = ready_still cluster h log all (not_of others was.in_hand.own) (no_floor_of id others) (asks_of cluster h log orderly others was.own_read) was

-- ---- rounds
prepare_of : (h : Happening) (log : List Happening) {id : ℕ} {call : CallView} {waiting : List Message} {round : Round} → IsOfOthers id h
    → IsPrepareTrue log id call waiting round → IsPrepareTrue (h ∷ log) id call waiting round
prepare_of h log {id} others was = record {
  unproposed = was.unproposed;
  in_hand = hand_still h log (not_of others was.in_hand.own) (no_floor_of id others) was.in_hand;
  replies = was.replies;
  preparing = was.preparing;
  made = replies_still h log was.replies was.made;
  heard = was.heard;
}

pub ride_still : (h : Happening) (log : List Happening) {id : ℕ} {round : Round} {ride : Ballot} → ProposesNot h round.key ride → FloorsNot h → AsksToRide h round.key round.ballot ride
    → IsRideTrue log id round ride → IsRideTrue (h ∷ log) id round ride
ride_still h log not none asks was = record { in_hand = hand_still h log not none was.in_hand; above = was.above; all = all_still h log asks was.all }

accept_of : (cluster : Cluster) (h : Happening) (log : List Happening) (all : List Made) {id number : ℕ} {call : CallView} {waiting : List Message} {round : Round} → Orderly cluster (h ∷ log)
    → IsOfOthers id h
    → round.ballot.proposer ≡ id → IsAcceptTrue log all id number call waiting round → IsAcceptTrue (h ∷ log) all id number call waiting round
accept_of cluster h log all {id} orderly others own was = record {
  made = was.made;
  stands = was.stands;
  same_caller = was.same_caller;
  same_call = was.same_call;
  same_key = was.same_key;
  same_ballot = was.same_ballot;
  same_era = was.same_era;
  proposed = was.proposed;
  drawn = later was.drawn;
  above_floors = above_still h log (no_floor_of id others) was.above_floors;
  prepared = was.prepared;
  replies = was.replies;
  accepting = was.accepting;
  replied = replies_still h log was.replies was.replied;
  heard = was.heard;
  ride = λ ballot is. let rides = was.ride ballot is in ride_still h log (not_of others rides.in_hand.own) (no_floor_of id others) (asks_of cluster h log orderly others own) rides;
}

round_of : (cluster : Cluster) (h : Happening) (log : List Happening) (all : List Made) {id era : ℕ} {caller : CallerView} {waiting : List Message} {round : Round} → Orderly cluster (h ∷ log)
    → IsOfOthers id h
    → IsRoundTrue cluster log all id era caller waiting round → IsRoundTrue cluster (h ∷ log) all id era caller waiting round
round_of cluster h log all orderly others was = record {
  call = was.call;
  is_open = was.is_open;
  same_key = was.same_key;
  own = was.own;
  same_era = was.same_era;
  is_era = was.is_era;
  phase = elim was.phase [
    | inl prepare ↦ inl (prepare_of h log others prepare)
    | inr accept ↦ inr (accept_of cluster h log all orderly others was.own accept)
  ];
}

open_of : (cluster : Cluster) (h : Happening) (log : List Happening) (all : List Made) (id era : ℕ) (caller : CallerView) (waiting : List Message) (round : Option Round)
    → Orderly cluster (h ∷ log) → IsOfOthers id h
    → IsOpenTrue cluster log all id era caller waiting round → IsOpenTrue cluster (h ∷ log) all id era caller waiting round
open_of cluster h log all id era caller waiting None orderly others was = was
open_of cluster h log all id era caller waiting (Some round) orderly others was = round_of cluster h log all orderly others was

-- ---- desks
in_later : (h : Happening) (log : List Happening) {proposer era : ℕ} → IsIn log proposer era → IsIn (h ∷ log) proposer era
in_later h log is = elim is [
  | inl first ↦ inl first
  | inr entered ↦ inr (later entered)
]

-- no ballot of the proposer is drawn, and it enters no era
abbrev pub DrawsNot : Happening → ℕ → Type 0
DrawsNot h id = (ballot : Ballot) (key : List ℕ) (era : ℕ) → Drew ballot key era ≡ h → ballot.proposer ≡ id → ⊥

abbrev pub EntersNot : Happening → ℕ → Type 0
EntersNot h id = (era : ℕ) → Entered id era ≡ h → ⊥

-- what it asks of this proposer bears an age that the vault keeps
abbrev pub AsksWithin : {S V : Type 0} → Meaning S V → Happening → ℕ → Vault V → Type 0
AsksWithin m h id vault = (request : Request) → Asked request ≡ h → request.from ≡ id → IsAged m.disks request.age vault

pub vault_still : {S V : Type 0} (m : Meaning S V) (h : Happening) (log : List Happening) {id era : ℕ} {vault : Vault V} → DrawsNot h id → EntersNot h id → FloorsNot h → AsksWithin m h id vault
    → IsVaultTrue m log id era vault → IsVaultTrue m (h ∷ log) id era vault
vault_still m h log {id} {era} draws enters none asks was = record {
  past = λ ballot key e stands own. elim (newest_or stands) [
    | inl now ↦ absurd (draws ballot key e now own)
    | inr before ↦ was.past ballot key e before own
  ];
  past_floors = λ key floor has. was.past_floors key floor (floors_before h log none has);
  ages = λ request stands own. elim (newest_or stands) [
    | inl now ↦ asks request now own
    | inr before ↦ was.ages request before own
  ];
  is_in = in_later h log was.is_in;
  not_beyond = λ stands. elim (newest_or stands) [
    | inl now ↦ enters (suc era) now
    | inr before ↦ was.not_beyond before
  ];
}

pub desk_still : {S V : Type 0} (m : Meaning S V) (cluster : Cluster) (h : Happening) (log : List Happening) (all : List Made) (era : ℕ) (id : ℕ) (caller : CallerView) (waiting : List Message) (desk : DeskView V)
    → Orderly cluster (h ∷ log) → IsOfOthers id h → IsDeskTrue m cluster log all era id caller waiting desk → IsDeskTrue m cluster (h ∷ log) all era id caller waiting desk
desk_still m cluster h log all era id caller waiting desk orderly others was = record {
  same_id = was.same_id;
  known = was.known;
  vault = vault_still m h log draws enters (no_floor_of id others) asks was.vault;
  cached = λ key ready has. ready_of cluster h log all orderly others (was.cached key ready has);
  one_each = was.one_each;
  none_open = was.none_open;
  round = open_of cluster h log all id era caller waiting desk.round orderly others was.round;
}
  where
    draws : DrawsNot h id
    draws ballot key e now own = let of : IsOfOthers id (Drew ballot key e) = subst (IsOfOthers id) (sym now) others in of own

    enters : EntersNot h id
    enters e now = let of : IsOfOthers id (Entered id e) = subst (IsOfOthers id) (sym now) others in of refl

    asks : AsksWithin m h id desk.vault
    asks request now own = absurd (let of : IsOfOthers id (Asked request) = subst (IsOfOthers id) (sym now) others in of own)

-- ---- callers
-- no call of the caller begins, ends or is proposed
pub record LeavesCalls (h : Happening) (id : ℕ) : Type 0 where
  pub begins : (number : ℕ) (key : List ℕ) (program : List Clause) → Marked (Begun id number key program) ≡ h → ⊥
  pub ends : (number rounds : ℕ) (answer : Answer) → Marked (Ended id number rounds answer) ≡ h → ⊥
  pub proposes : (p : Proposal) → Marked (Proposed p) ≡ h → p.caller ≡ id → ⊥

calls_still : (h : Happening) (log : List Happening) (id : ℕ) → LeavesCalls h id → calls_of id (marks_of (h ∷ log)) ≡ calls_of id (marks_of log)
calls_still (Marked (Begun caller call key program)) log id leaves = elim (true_or_false (caller == id)) [
  | inl same ↦ absurd (leaves.begins call key program (ap (λ (c : ℕ). Marked (Begun c call key program)) (sym (nat_same same))))
  | inr other ↦ if_false (caller == id) (suc (calls_of id (marks_of log))) (calls_of id (marks_of log)) other
]
calls_still (Marked mark) log id leaves = refl
calls_still h log id leaves = refl

pub harms_still : (h : Happening) (log : List Happening) (id number : ℕ) → harms_of id number (marks_of log) ≤ harms_of id number (marks_of (h ∷ log))
harms_still (Marked (Harmed caller call down)) log id number = step_up (is_call id number caller call) (harms_of id number (marks_of log))
harms_still (Marked mark) log id number = omega arith
harms_still h log id number = omega arith

pub proposed_later : (h : Happening) (log : List Happening) {id number : ℕ} → IsProposed id number (marks_of log) → IsProposed id number (marks_of (h ∷ log))
proposed_later h log was = record { proposal = was.proposal; stands = mark_later h log was.stands; same_caller = was.same_caller; same_call = was.same_call }

pub not_proposed_still : (h : Happening) (log : List Happening) {id number : ℕ} → LeavesCalls h id → (IsProposed id number (marks_of log) → ⊥) → IsProposed id number (marks_of (h ∷ log)) → ⊥
not_proposed_still h log leaves was is = elim (mark_now h log is.stands) [
  | inl now ↦ leaves.proposes is.proposal now is.same_caller
  | inr before ↦ was (record { proposal = is.proposal; stands = before; same_caller = is.same_caller; same_call = is.same_call })
]

pub acked_later : (h : Happening) (log : List Happening) {key : List ℕ} {ballot : Ballot} → IsAcked key ballot (marks_of log) → IsAcked key ballot (marks_of (h ∷ log))
acked_later h log was = record { acknowledgment = was.acknowledgment; stands = mark_later h log was.stands; same_key = was.same_key; same_ballot = was.same_ballot }

-- ---- the operator
-- with an exchange open no other probe is asked
abbrev pub IsNoProbeIn : Option ExchangeView → Request → Type 0
IsNoProbeIn None request = ⊤
IsNoProbeIn (Some exchange) request = (tag : Ballot) (key : List ℕ) → request.ask ≡ ask.Probe tag key → ⊥

pub no_probe_in : (open_ : Option ExchangeView) (request : Request) → ((tag : Ballot) (key : List ℕ) → request.ask ≡ ask.Probe tag key → ⊥) → IsNoProbeIn open_ request
no_probe_in None request none = tt
no_probe_in (Some exchange) request none = none

read_still : (cluster : Cluster) (h : Happening) (log : List Happening) (tag : Ballot) (since : ℕ) (key : List ℕ) (era : Era)
    → ((request : Request) → Asked request ≡ h → (t : Ballot) (k : List ℕ) → request.ask ≡ ask.Probe t k → ⊥)
    → IsReadTrue cluster log tag since key era → IsReadTrue cluster (h ∷ log) tag since key era
read_still cluster h log tag since key era none was = record {
  older = was.older;
  drawn = past was.drawn;
  behind = was.behind;
  not_beyond = was.not_beyond;
  floors = was.floors;
  alone = λ request k stands is. elim (newest_or stands) [
    | inl now ↦ absurd (none request now tag k is)
    | inr before ↦ was.alone request k before is
  ];
  prepares = was.prepares;
  accepts = was.accepts;
}

pub exchange_still : (cluster : Cluster) (h : Happening) (log : List Happening) (open_ : Option ExchangeView) → ((request : Request) → Asked request ≡ h → IsNoProbeIn open_ request)
    → IsAskingTrue cluster log open_ → IsAskingTrue cluster (h ∷ log) open_
exchange_still cluster h log open_ none were exchange is_open = let was = were exchange is_open in record {
  own = was.own;
  era = was.era;
  drawn = later was.drawn;
  read = λ key era asks reads. read_still cluster h log exchange.tag exchange.since key era (λ request now. subst (λ (o : Option ExchangeView). IsNoProbeIn o request) is_open (none request now)) (was.read key era asks reads);
  told = λ place answer told at is. let before = was.told place answer told at is in
      record { reply = before.reply; made = reply_still h log before.made; same_from = before.same_from; same_tell = before.same_tell; to_it = before.to_it };
}

marks_later : (h : Happening) (log : List Happening) → IsOlderPart (marks_of log) (marks_of (h ∷ log))
marks_later (Marked mark) log = older_by whole
marks_later h log = whole

entered_later : (cluster : Cluster) (h : Happening) (log : List Happening) {era : ℕ} → AllEntered cluster era (marks_of log) → AllEntered cluster era (marks_of (h ∷ log))
entered_later cluster h log were proposer known = mark_later h log (were proposer known)

rescan_later : {cluster : Cluster} (h : Happening) (log : List Happening) {era : ℕ} {key : List ℕ} → IsRescanned cluster era key (marks_of log) → IsRescanned cluster era key (marks_of (h ∷ log))
rescan_later h log was = record {
  proposal = was.proposal;
  older = was.older;
  proposed = at_part was.proposed (marks_later h log);
  same_key = was.same_key;
  same_era = was.same_era;
  entered = was.entered;
  acked = acked_later h log was.acked;
}

absent_later : {cluster : Cluster} (h : Happening) (log : List Happening) {era acceptor : ℕ} {key : List ℕ} → WasAbsent cluster era log acceptor key → WasAbsent cluster era (h ∷ log) acceptor key
absent_later h log was = record { then = was.then; part = older_by was.part; entered = was.entered; none = was.none }

-- what was listed stays so
shown_later : (cluster : Cluster) (h : Happening) (log : List Happening) {era member : ℕ} {keys : List (List ℕ)} {key : List ℕ} → IsShown cluster log era member keys key
    → IsShown cluster (h ∷ log) era member keys key
shown_later cluster h log (rescanned is) = rescanned (rescan_later h log is)
shown_later cluster h log (listed is) = listed is
shown_later cluster h log (absent is) = absent (absent_later h log is)

are_shown_later : (cluster : Cluster) (h : Happening) (log : List Happening) (era member : ℕ) (keys : List (List ℕ)) (place : Place) → AreShown cluster log era member keys place
    → AreShown cluster (h ∷ log) era member keys place
are_shown_later cluster h log era member keys (GoesOn after) were = λ key low. shown_later cluster h log (were key low)
are_shown_later cluster h log era member keys Ended were = λ key. shown_later cluster h log (were key)

listing_still : (cluster : Cluster) (h : Happening) (log : List Happening) (era : ℕ) (listing : ListingView) → FloorsNot h → IsListingTrue cluster log era listing
    → IsListingTrue cluster (h ∷ log) era listing
listing_still cluster h log era listing none was = record {
  own = was.own;
  drawn = record { older = was.drawn.older; at = past was.drawn.at };
  above_floors = above_still h log none was.above_floors;
  entered = was.entered;
  all_ended = was.all_ended;
  shown = λ member. are_shown_later cluster h log era member listing.keys (place_in listing.places member) (was.shown member);
  quorum = was.quorum;
}

listed_still : (cluster : Cluster) (h : Happening) (log : List Happening) (era : ℕ) → IsListed cluster log era → IsListed cluster (h ∷ log) era
listed_still cluster h log era was = record {
  all_in = entered_later cluster h log was.all_in;
  by = was.by;
  quorum = was.quorum;
  shown = λ acceptor key member. elim (was.shown acceptor key member) [
    | inl is ↦ inl (rescan_later h log is)
    | inr is ↦ inr (absent_later h log is)
  ];
}

pub plan_still : (cluster : Cluster) (h : Happening) (log : List Happening) (plan : Option PlanView) → FloorsNot h → IsPlanTrue cluster log plan → IsPlanTrue cluster (h ∷ log) plan
plan_still cluster h log None none was = tt
plan_still cluster h log (Some plan) none was = record {
  settled = λ next is. elim (was.settled next is) [
    | inl first ↦ inl first
    | inr is_listed ↦ inr (listed_still cluster h log plan.progress.era.number is_listed)
  ];
  listing = λ listing is. listing_still cluster h log plan.progress.era.number listing none (was.listing listing is);
}

-- what is asked is above the tombstone of the collection, where its proposer was renewed for it, and is no probe beside an open exchange
abbrev pub IsAskedApart : Council → Request → Type 0
IsAskedApart council request = AsksAboveFor council.collection request × IsNoProbeIn council.exchange request

abbrev pub AsksFor : Council → Happening → Type 0
AsksFor council h = (request : Request) → Asked request ≡ h → IsAskedApart council request

-- what is nobody's asks nothing
pub asks_nothing : (council : Council) (h : Happening) → ((p : ℕ) → IsOfOthers p h) → AsksFor council h
asks_nothing council h others request now = let of : IsOfOthers request.from (Asked request) = subst (IsOfOthers request.from) (sym now) (others request.from) in absurd (of refl)

pub tomb_still : (cluster : Cluster) (h : Happening) (log : List Happening) {key : List ℕ} {era : ℕ} {tomb : Ballot} {by : List ℕ} → Lawful cluster (h ∷ log) → IsTombstoneTrue log key era tomb by
    → IsTombstoneTrue (h ∷ log) key era tomb by
tomb_still cluster h log lawful was = record {
  own = was.own;
  drawn = later was.drawn;
  made = made_grows cluster h log lawful was.made;
  proposal = was.proposal;
  proposed = mark_later h log was.proposed;
  same_ballot = was.same_ballot;
  by_operator = was.by_operator;
  acked = acked_later h log was.acked;
  taken = λ acceptor member. let took = was.taken acceptor member in (took.0, later took.1);
}

pub sought_still : (cluster : Cluster) (h : Happening) (log : List Happening) (key : List ℕ) (era : ℕ) (tombstone : Tombstone) → Lawful cluster (h ∷ log) → IsSoughtTrue log key era tombstone
    → IsSoughtTrue (h ∷ log) key era tombstone
sought_still cluster h log key era (Acknowledged tomb by) lawful was = tomb_still cluster h log lawful was
sought_still cluster h log key era other lawful was = was

pub all_entered_later : (cluster : Cluster) (h : Happening) (log : List Happening) {era : ℕ} → (era ≡ 0) ⊎ AllEntered cluster era (marks_of log)
    → (era ≡ 0) ⊎ AllEntered cluster era (marks_of (h ∷ log))
all_entered_later cluster h log were = elim were [
  | inl first ↦ inl first
  | inr entered ↦ inr (entered_later cluster h log entered)
]

-- what is known of a collection stays
pub collection_still : (cluster : Cluster) (h : Happening) (log : List Happening) (collection : Option CollectionView) → Lawful cluster (h ∷ log)
    → ((request : Request) → Asked request ≡ h → AsksAboveFor collection request) → IsCollectingTrue cluster log collection → IsCollectingTrue cluster (h ∷ log) collection
collection_still cluster h log None lawful asks was = tt
collection_still cluster h log (Some collection) lawful asks was = record {
  tombstone = sought_still cluster h log collection.course.key collection.course.era.number collection.tombstone lawful was.tombstone;
  entered = all_entered_later cluster h log was.entered;
  taken = λ past_round acceptor member. let took = was.taken past_round acceptor member in (took.0, later took.1);
  none_yet = was.none_yet;
  ended = λ past_round. ended_grows h log (was.ended past_round);
  older = λ proposer age request at stands own round same low. elim (newest_or stands) [
    | inl now ↦ absurd (less_not_at_most ((asks request now).above age (subst (λ (n : ℕ). IsAt collection.ages n age) (sym own) at) round same) low)
    | inr before ↦ was.older proposer age request at before own round same low
  ];
  told_alone = λ tomb by request least is stands tells. elim (newest_or stands) [
    | inl now ↦ absurd ((asks request now).tells_none tomb least tells)
    | inr before ↦ was.told_alone tomb by request least is before tells
  ];
  told = λ after acceptor proposer age member at. omega (arith, was.told after acceptor proposer age member at, age_later (h ∷ log) acceptor proposer here);
  floor = λ after. mark_later h log (was.floor after);
}

-- what is known of what the operator has under way stays
pub council_still : (cluster : Cluster) (h : Happening) (log : List Happening) (council : Council) → Lawful cluster (h ∷ log) → FloorsNot h → AsksFor council h → IsCouncilTrue cluster log council
    → IsCouncilTrue cluster (h ∷ log) council
council_still cluster h log council lawful none asks was = (
  exchange_still cluster h log council.exchange (λ request now. (asks request now).1) was.0,
  plan_still cluster h log council.plan none was.1,
  was.2,
  collection_still cluster h log council.collection lawful (λ request now. (asks request now).0) was.3,
)

-- ---- what callers are told
refusal_still : (h : Happening) (log : List Happening) {id number : ℕ} {told : Answer} → LeavesCalls h id → IsRefusalTrue log id number told → IsRefusalTrue (h ∷ log) id number told
refusal_still h log {id} {number} leaves was = record {
  refused = λ e. not_proposed_still h log leaves (was.refused e);
  unsettled = λ e. proposed_later h log (was.unsettled e);
  harmed = omega (arith, was.harmed, harms_still h log id number);
}

told_still : (h : Happening) (log : List Happening) (all : List Made) (id number : ℕ) (told : Answer) → LeavesCalls h id → IsToldTrue log all id number told → IsToldTrue (h ∷ log) all id number told
told_still h log all id number (answer.Done state took ballot) leaves was = record {
  made = was.made;
  stands = was.stands;
  same_caller = was.same_caller;
  same_call = was.same_call;
  same_ballot = was.same_ballot;
  own = was.own;
  same_outcome = was.same_outcome;
  acked = acked_later h log was.acked;
}
told_still h log all id number told leaves was = refusal_still h log leaves was

pub call_still : (h : Happening) (log : List Happening) (all : List Made) {id number : ℕ} {call : CallView} → LeavesCalls h id → IsCallTrue log all id number call
    → IsCallTrue (h ∷ log) all id number call
call_still h log all {id} {number} leaves was = record {
  begun = mark_later h log was.begun;
  open_yet = λ is. elim (mark_now h log is.stands) [
    | inl now ↦ leaves.ends number is.rounds is.answer now
    | inr before ↦ was.open_yet (record { rounds = is.rounds; answer = is.answer; stands = before })
  ];
  unproposed = λ none. not_proposed_still h log leaves (was.unproposed none);
  proposed = λ some. proposed_later h log (was.proposed some);
  harmed_set = was.harmed_set;
  harmed = omega (arith, was.harmed, harms_still h log id number);
  told = λ told is. told_still h log all id number told leaves (was.told told is);
}

-- a call that was ended is
pub ended_later : (h : Happening) (log : List Happening) {id number : ℕ} → IsEnded id number (marks_of log) → IsEnded id number (marks_of (h ∷ log))
ended_later h log was = record { rounds = was.rounds; answer = was.answer; stands = mark_later h log was.stands }

-- another one is open
pub ended_open : (log : List Happening) (id number : ℕ) (open_ : Option CallView) (now : CallView) → AreEnded log id number open_ → AreEnded log id number (Some now)
ended_open log id number open_ now were call is = elim (were call is) [
  | inl open_ ↦ inl (refl, open_.1)
  | inr ended ↦ inr ended
]

-- no other call is proposed
ended_still : (h : Happening) (log : List Happening) {id call : ℕ} {Open : Type 0} → LeavesCalls h id → (IsProposed id call (marks_of log) → Open ⊎ IsEnded id call (marks_of log))
    → IsProposed id call (marks_of (h ∷ log)) → Open ⊎ IsEnded id call (marks_of (h ∷ log))
ended_still h log leaves was is = elim (mark_now h log is.stands) [
  | inl now ↦ absurd (leaves.proposes is.proposal now is.same_caller)
  | inr before ↦ elim (was (record { proposal = is.proposal; stands = before; same_caller = is.same_caller; same_call = is.same_call })) [
    | inl open_ ↦ inl open_
    | inr ended ↦ inr (ended_later h log ended)
  ]
]

pub caller_still : (h : Happening) (log : List Happening) (all : List Made) {id : ℕ} (caller : CallerView) → LeavesCalls h id → IsCallerTrue log all id caller → IsCallerTrue (h ∷ log) all id caller
caller_still h log all {id} caller leaves was = record {
  number = was.number ∙ sym (calls_still h log id leaves);
  call = λ call is. call_still h log all leaves (was.call call is);
  ended = λ call is. ended_still h log leaves (was.ended call) is;
}

pub calls_of_others : (h : Happening) (id : ℕ) → IsOfOthers id h → LeavesCalls h id
calls_of_others h id others = record {
  begins = λ number key program now. let of : IsOfOthers id (Marked (Begun id number key program)) = subst (IsOfOthers id) (sym now) others in of refl;
  ends = λ number rounds answer now. let of : IsOfOthers id (Marked (Ended id number rounds answer)) = subst (IsOfOthers id) (sym now) others in of refl;
  proposes = λ p now same. let of : IsOfOthers id (Marked (Proposed p)) = subst (IsOfOthers id) (sym now) others in of.0 same;
}

-- ---- acceptors
pub acceptor_still : {S V : Type 0} (m : Meaning S V) (cluster : Cluster) (h : Happening) (log : List Happening) (id : ℕ) (kept : Contents) {acceptor : AcceptorView S} → Lawful cluster (h ∷ log)
    → IsElsewhere id h
    → IsAcceptorTrue m log id kept acceptor → IsAcceptorTrue m (h ∷ log) id kept acceptor
acceptor_still m cluster h log id kept lawful elsewhere was = record {
  same_id = was.same_id;
  started = was.started;
  keeps = was.keeps;
  lasts = was.lasts;
  stopped = λ down started left may. left_still cluster h log id kept left lawful elsewhere (was.stopped down started left may);
  not_started = was.not_started;
}

-- ---- one more is made
made_more : {all more : List Made} {key : List ℕ} {ballot : Ballot} {era : ℕ} {state : State} → ((m : Made) → Stands m all → Stands m more) → HasMade all key ballot era state
    → HasMade more key ballot era state
made_more more has = record { made = has.made; stands = more has.made has.stands; same_key = has.same_key; same_ballot = has.same_ballot; same_era = has.same_era; same_state = has.same_state }

pub ready_more : (cluster : Cluster) (log : List Happening) {all more : List Made} {id era : ℕ} {key : List ℕ} {ready : Ready} → ((m : Made) → Stands m all → Stands m more)
    → IsHeldReady cluster log all id era key ready → IsHeldReady cluster log more id era key ready
ready_more cluster log more was = record {
  in_hand = was.in_hand;
  own_read = was.own_read;
  drawn = was.drawn;
  made = made_more more was.made;
  replies = was.replies;
  replied = was.replied;
  accepted_by = was.accepted_by;
  quorum = was.quorum;
  above = was.above;
  rides = was.rides;
  over_floors = was.over_floors;
}

accept_more : (log : List Happening) {all more : List Made} {id number : ℕ} {call : CallView} {waiting : List Message} {round : Round} → ((m : Made) → Stands m all → Stands m more)
    → IsAcceptTrue log all id number call waiting round → IsAcceptTrue log more id number call waiting round
accept_more log more was = record {
  made = was.made;
  stands = more was.made was.stands;
  same_caller = was.same_caller;
  same_call = was.same_call;
  same_key = was.same_key;
  same_ballot = was.same_ballot;
  same_era = was.same_era;
  proposed = was.proposed;
  drawn = was.drawn;
  above_floors = was.above_floors;
  prepared = was.prepared;
  replies = was.replies;
  accepting = was.accepting;
  replied = was.replied;
  heard = was.heard;
  ride = was.ride;
}

round_more : (cluster : Cluster) (log : List Happening) {all more : List Made} (id era : ℕ) (caller : CallerView) (waiting : List Message) (round : Option Round)
    → ((m : Made) → Stands m all → Stands m more)
    → IsOpenTrue cluster log all id era caller waiting round → IsOpenTrue cluster log more id era caller waiting round
round_more cluster log id era caller waiting None more was = was
round_more cluster log id era caller waiting (Some round) more was = record {
  call = was.call;
  is_open = was.is_open;
  same_key = was.same_key;
  own = was.own;
  same_era = was.same_era;
  is_era = was.is_era;
  phase = elim was.phase [
    | inl prepare ↦ inl prepare
    | inr accept ↦ inr (accept_more log more accept)
  ];
}

pub desk_more : {S V : Type 0} (m : Meaning S V) (cluster : Cluster) (log : List Happening) (era : ℕ) {all more : List Made} (id : ℕ) (caller : CallerView) (waiting : List Message) (desk : DeskView V)
    → ((x : Made) → Stands x all → Stands x more)
    → IsDeskTrue m cluster log all era id caller waiting desk → IsDeskTrue m cluster log more era id caller waiting desk
desk_more m cluster log era id caller waiting desk more was = record {
  same_id = was.same_id;
  known = was.known;
  vault = was.vault;
  cached = λ key ready has. ready_more cluster log more (was.cached key ready has);
  one_each = was.one_each;
  none_open = was.none_open;
  round = round_more cluster log id era caller waiting desk.round more was.round;
}

told_more : (log : List Happening) {all more : List Made} (id number : ℕ) (told : Answer) → ((m : Made) → Stands m all → Stands m more) → IsToldTrue log all id number told
    → IsToldTrue log more id number told
told_more log id number (answer.Done state took ballot) more was = record {
  made = was.made;
  stands = more was.made was.stands;
  same_caller = was.same_caller;
  same_call = was.same_call;
  same_ballot = was.same_ballot;
  own = was.own;
  same_outcome = was.same_outcome;
  acked = was.acked;
}
told_more log id number told more was = was

pub caller_more : (log : List Happening) {all more : List Made} {id : ℕ} (caller : CallerView) → ((m : Made) → Stands m all → Stands m more) → IsCallerTrue log all id caller
    → IsCallerTrue log more id caller
caller_more log {id = id} caller more was = record {
  number = was.number;
  ended = was.ended;
  call = λ call is. let of = was.call call is in record {
    begun = of.begun;
    open_yet = of.open_yet;
    unproposed = of.unproposed;
    proposed = of.proposed;
    harmed_set = of.harmed_set;
    harmed = of.harmed;
    told = λ told same. told_more log id caller.number told more (of.told told same);
  };
}
