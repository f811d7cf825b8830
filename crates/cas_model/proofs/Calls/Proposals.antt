-- A proposal is made at the ballot of a round: what was made is known, and each member that accepts is asked to accept it.
use Rattle.std.proofs.Common.{◌≡◌, ◌≤◌, ℕ, true, List, [], ◌∷◌, ◌++◌, Option, None, Some, refl, sym, ap, subst, ◌∙◌, inl, inr, arith}
use Rattle.std.specs.Prelude.{map, Contains, IfSome}
use Rattle.cas_ballot.specs.declared.ballot.Ballot.{Ballot}
use Rattle.cas_ballot.specs.Ballot.{BallotLess}
use Rattle.cas_ballot.specs.Members.{has_member}
use Rattle.cas_ballot.proofs.BallotLemmas.{less_irreflexive}
use Rattle.cas_cache.specs.declared.ready.Ready.{Ready}
use Rattle.cas_change.specs.declared.outcome.Outcome.{Outcome}
use Rattle.cas_change.specs.declared.state.State.{State}
use Rattle.cas_flow.specs.Flow.{FlowView, queue_at}
use Rattle.cas_flow.specs.Queue.{QueueView}
use Rattle.cas_flow.specs.declared.message.Message.{Message}
use Rattle.cas_flow.specs.declared.message.Message.TheVariants as message
use Rattle.cas_proposer.specs.Desk.{DeskView}
use Rattle.cas_proposer.specs.Round.{is_of, IsAccept, IsAccepting}
use Rattle.cas_proposer.specs.declared.round.OpenPhase.{OpenPhase}
use Rattle.cas_proposer.specs.declared.round.OpenPhase.TheVariants.{Prepare, Accept}
use Rattle.cas_proposer.specs.declared.round.Round.{Round}
use Rattle.cas_quorum.specs.declared.era.Era.{Era}
use Rattle.cas_round.proofs.Lists.{Has, has, contains}
use Rattle.cas_slot.specs.declared.message.Ask.TheVariants as ask
use Rattle.cas_slot.specs.declared.message.Phase.TheVariants as phase
use Rattle.cas_slot.specs.declared.message.Reply.{Reply}
use Rattle.cas_slot.specs.declared.message.Request.{Request}
use Rattle.cas_record.specs.declared.mark.Mark.TheVariants.{Proposed}
use Rattle.cas_record.specs.declared.mark.Proposal.{Proposal}
use Rattle.cas_record.specs.Logs.Happening.{Happening, Marked, Asked, marks_of}
use Rattle.cas_record.specs.Logs.Lawful.{Cluster}
use Rattle.cas_record.specs.Legal.{HasProposal}
use Rattle.cas_record.specs.Logs.Orderly.{Orderly, IsAboveFloors, MayAsk, MayRide}
use Rattle.cas_record.specs.declared.mark.Mark.{Mark}
use Rattle.cas_record.specs.Places.{here}
use Rattle.cas_record.proofs.Logs.Lemmas.{part_of}
use Rattle.cas_record.proofs.Logs.Orders.{reason}
use Rattle.cas_record.proofs.PlaceLemmas.{newest_or, stands_part}
use Rattle.cas_model.specs.Parties.{AreMessagesTrue, IsEraOf, IsAged, IsVaultTrue, ArePromisesHeld, HaveOneEach, HasNone, IsInHand, IsOfPhase, waits, IsPhaseHeard, IsRideTrue, IsRoundTrue, IsOpenTrue, IsDeskTrue, IsCallTrue, IsCallerTrue, asked_in}
use Rattle.cas_protocol.specs.Proposers.{AllRide}
use Rattle.cas_protocol.specs.Protocol.{Made, GlobalState, HasHistory, IsAskable, with_proposal}
use Rattle.cas_model.specs.Calls.Step.{Sends, accepts_to, proposal_of, proposing, proposed_view}
use Rattle.cas_model.specs.View.{Meaning, View, CallView, CallerView, IsAt, era_at}
use Rattle.cas_model.proofs.Around.{Whole, Around, around_made, IsOf, settles, leaves_both}
use Rattle.cas_model.proofs.Calls.Asks.{asked_log, asked_global, asked_all, asked_around, asked_later, asked_messages, asked_vault, asked_caller, asked_still, asked_hand, asked_ready}
use Rattle.cas_model.proofs.Calls.Steps.{no_harm}
use Rattle.cas_model.proofs.Frames.Harms.{member_low, member_has, has_of_map, has_map_of, has_member_of}
use Rattle.cas_model.proofs.Others.{IsAskedApart, ProposesNot, FloorsNot, AsksToRide, ended_later, later, hand_still, all_still, ready_still, ready_more, vault_still, messages_still, above_still}
use Rattle.cas_model.proofs.Places.{own_set, some_is, contains_none}

-- ---- phases
accept_of : (era : Era) (ballot : Ballot) (replies : List Reply) (phase_is : OpenPhase) → IsAccept era ballot replies phase_is → is_of phase_is phase.Accept ≡ true
accept_of era ballot replies (Prepare p) is = absurd is
accept_of era ballot replies (Accept p) is = refl

asked_to_accept : (of : Era) (e : Era) (ballot : Ballot) (replies : List Reply) (phase_is : OpenPhase) → IsAccept e ballot replies phase_is → asked_in of phase_is ≡ of.acc
asked_to_accept of e ballot replies (Prepare p) is = absurd is
asked_to_accept of e ballot replies (Accept p) is = refl

-- ---- requests
abbrev pub accept_request : ℕ → ℕ → List ℕ → Ballot → ℕ → Option Ballot → State → ℕ → Request
accept_request proposer age key ballot era ride state to = record { to = to; from = proposer; age = age; ask = ask.Accept key ballot era ride state }

-- all members that are asked to accept wait
accepts_heard : (id age : ℕ) (state : State) (round : Round) (prepared : List Reply) (harmed : List ℕ) → IsAccepting prepared [] round
    → IsPhaseHeard round [] (accepts_to id age round.key round.ballot round.era.number round.ride state round.era.acc) harmed
accepts_heard id age state round prepared harmed accepting =
    let f : ℕ → Message = λ to. message.Request (accept_request id age round.key round.ballot round.era.number round.ride state to) in
    record {
      of_phase = λ each has_it.
          let of = has_of_map f each round.era.acc (has each (map f round.era.acc) has_it) in
          subst (IsOfPhase round) of.1.1 (accept_of round.era round.ballot [] round.phase accepting.phase, refl);
      each = λ acceptor member.
          let member_of : has_member round.era.acc acceptor ≡ true =
          sym (ap (λ (l : List ℕ). has_member l acceptor) (asked_to_accept round.era round.era round.ballot [] round.phase accepting.phase)) ∙ member in
          waits (f acceptor) (contains (f acceptor) (map f round.era.acc) (has_map_of f acceptor round.era.acc (member_has acceptor round.era.acc member_of))) refl;
    }

-- nobody was asked to accept a ballot at which nothing was proposed
none_asked : (cluster : Cluster) (log : List Happening) (key : List ℕ) (ballot ride : Ballot) → Orderly cluster log → (HasProposal key ballot (marks_of log) → ⊥) → AllRide log key ballot ride
none_asked cluster log key ballot ride orderly fresh = record {
  rides = λ request era asked state stands is. absurd (
      let may : MayAsk cluster stands.older request request.ask = reason cluster orderly stands.at in
      let accept : MayAsk cluster stands.older request (ask.Accept key ballot era asked state) = subst (MayAsk cluster stands.older request) is may in
      fresh (record { proposal = accept.1.proposal; stands = stands_part accept.1.stands (part_of stands.at); same_key = accept.1.same_key; same_ballot = accept.1.same_ballot }));
}

-- a ride that may be asked for
rides_or_none : (log : List Happening) (id era : ℕ) (key : List ℕ) (ballot : Ballot) (ride : Option Ballot) → ((b : Ballot) → ride ≡ Some b → IsInHand log id era key b × BallotLess ballot b) → IfSome ride (MayRide log key ballot)
rides_or_none log id era key ballot None rides = tt
rides_or_none log id era key ballot (Some b) rides = let of = rides b refl in record { era = era; drawn = of.0.drawn; above = of.1 }

ride_later : (log : List Happening) (h : Happening) (key : List ℕ) (ballot : Ballot) (ride : Option Ballot) → IfSome ride (MayRide log key ballot) → IfSome ride (MayRide (h ∷ log) key ballot)
ride_later log h key ballot None was = tt
ride_later log h key ballot (Some b) was = record { era = was.era; drawn = later was.drawn; above = was.above }

-- ---- a proposal
-- it is none of the others'
proposal_of_one : (id number : ℕ) (round : Round) (read : Ballot) (by : List ℕ) → round.ballot.proposer ≡ id → IsOf id (Marked (Proposed (proposal_of id number round read by)))
proposal_of_one id number round read by own = (λ q other. (λ same. other (sym same), λ same. other (sym same ∙ own)), λ a. tt)

-- where it is another ballot or another key
proposes_other : (p : Proposal) (key : List ℕ) (ballot : Ballot) → ((p.key ≡ key) → (p.ballot ≡ ballot) → ⊥) → ProposesNot (Marked (Proposed p)) key ballot
proposes_other p key ballot differs q now same_key same_ballot =
    let same : q ≡ p = cc now in
    differs (ap (λ (x : Proposal). x.key) (sym same) ∙ same_key) (ap (λ (x : Proposal). x.ballot) (sym same) ∙ same_ballot)

no_floor : (p : Proposal) → FloorsNot (Marked (Proposed p))
no_floor p k f s now = absurd (cc now)

no_asks : (p : Proposal) (k : List ℕ) (b r : Ballot) → AsksToRide (Marked (Proposed p)) k b r
no_asks p k b r request e asked state now = absurd (cc now)

asks_ride : {id age : ℕ} {key k : List ℕ} {ballot b : Ballot} {era : ℕ} {ride : Option Ballot} {state : State} {to : ℕ} {request : Request} {e : ℕ} {asked : Option Ballot} {s : State}
    → Asked request ≡ Asked (accept_request id age key ballot era ride state to) → request.ask ≡ ask.Accept k b e asked s → (key ≡ k) × ((ballot ≡ b) × (ride ≡ asked))
asks_ride {id} {age} {key} {k} {ballot} {b} {era} {ride} {state} {to} {request} now is =
    let same : request ≡ accept_request id age key ballot era ride state to = cc now in
    let asks : ask.Accept key ballot era ride state ≡ ask.Accept k b _ _ _ = sym (ap (λ (q : Request). q.ask) same) ∙ is in
    (cc asks, (cc asks, cc asks))

-- what is so before the proposal is made: the round is in its accept phase at a ballot that is in hand, and so is the one that rides
pub record IsReadyToPropose {S V : Type 0} (m : Meaning S V) (cluster : Cluster) (global : GlobalState) (old : View S V) (id age : ℕ) (caller : CallerView) (call : CallView) (now : DeskView V) (round : Round) (outcome : Outcome) (flow : FlowView) : Type 0 where
  pub at_caller : IsAt old.callers id caller
  pub is_open : caller.call ≡ Some call
  pub caller_true : IsCallerTrue global.log global.made id caller
  pub known : id ≤ cluster.last_proposer
  pub same_id : now.id ≡ id
  pub vault : IsVaultTrue m global.log id (era_at old id).number now.vault
  pub aged : IsAged m.disks age now.vault
  pub cached : ArePromisesHeld cluster global.log global.made id (era_at old id).number now.cache
  pub one_each : HaveOneEach now.cache
  pub none_open : HasNone (Some round) now.cache
  pub is_round : now.round ≡ Some round
  pub same_key : round.key ≡ call.key
  pub same_era : round.era.number ≡ (era_at old id).number
  pub is_era : IsEraOf cluster round.era
  pub in_hand : IsInHand global.log id round.era.number round.key round.ballot
  pub ride : (b : Ballot) → round.ride ≡ Some b → IsInHand global.log id round.era.number round.key b × BallotLess round.ballot b
  pub prepared : List Reply
  pub accepting : IsAccepting prepared [] round
  pub none_waits : (queue_at old.flow id).messages ≡ []
  pub late : AreMessagesTrue global.log old.flow.late
  pub above : (to : ℕ) → IsAskedApart old.council (accept_request id age round.key round.ballot round.era.number round.ride outcome.state to)
  pub sends : Sends old.flow id (accepts_to id age round.key round.ballot round.era.number round.ride outcome.state round.era.acc) flow

abbrev pub accept_requests : ℕ → ℕ → Round → Outcome → ℕ → Request
accept_requests id age round outcome = accept_request id age round.key round.ballot round.era.number round.ride outcome.state

abbrev pub proposed_global : GlobalState → ℕ → ℕ → Round → Proposal → Outcome → GlobalState
proposed_global global id age round p outcome = asked_global (with_proposal global p outcome) (accept_requests id age round outcome) round.era.acc

pub proposes : {S V : Type 0} (m : Meaning S V) (cluster : Cluster) (global : GlobalState) (old : View S V) (id age : ℕ) (caller : CallerView) (call : CallView) (now : DeskView V) (round : Round) (outcome : Outcome) (flow : FlowView) (read : Ballot) (by : List ℕ)
    → IsReadyToPropose m cluster global old id age caller call now round outcome flow → Around m cluster global old id
    → HasHistory cluster (with_proposal global (proposal_of id caller.number round read by) outcome)
    → Whole m cluster (proposed_global global id age round (proposal_of id caller.number round read by) outcome) (proposed_view old id caller call now flow (proposal_of id caller.number round read by) outcome)
proposes {S} {V} m cluster global old id age caller call now round outcome flow read by of around history =
    settles m cluster (proposed_global global id age round p outcome) old (proposed_view old id caller call now flow p outcome) id after_asks
    (leaves_both old id now (record caller { call = Some (proposing call outcome) }) _ _ (λ q other. ap (λ (x : QueueView). x.messages) (of.sends.others q other)))
    (record {
      desk = λ d c at_d at_c.
          subst (λ (x : DeskView V). IsDeskTrue m cluster log made era id c (queue_at flow id).messages x) (sym (own_set old.desks id now d at_d))
          (subst (λ (x : CallerView). IsDeskTrue m cluster log made era id x (queue_at flow id).messages now) (sym (own_set old.callers id (record caller { call = Some (proposing call outcome) }) c at_c)) desk_true);
      caller = λ c at_c. subst (IsCallerTrue log made id) (sym (own_set old.callers id (record caller { call = Some (proposing call outcome) }) c at_c)) caller_true;
      own = subst (AreMessagesTrue log) (sym waiting) (asked_messages f round.era.acc after.log);
      late = subst (AreMessagesTrue log) (sym of.sends.late) (asked_still f round.era.acc after.log old.flow.late (messages_still h global.log old.flow.late of.late));
    })
  where
    p : Proposal
    p = proposal_of id caller.number round read by

    h : Happening
    h = Marked (Proposed p)

    era : ℕ
    era = (era_at old id).number

    after : GlobalState
    after = with_proposal global p outcome

    f : ℕ → Request
    f = accept_requests id age round outcome

    log : List Happening
    log = asked_log f round.era.acc after.log

    made : List Made
    made = after.made

    new_made : Made
    new_made = record { proposal = p; outcome = outcome }

    waiting : (queue_at flow id).messages ≡ accepts_to id age round.key round.ballot round.era.number round.ride outcome.state round.era.acc
    waiting = of.sends.own ∙ ap (λ (l : List Message). l ++ accepts_to id age round.key round.ballot round.era.number round.ride outcome.state round.era.acc) of.none_waits

    low : id ≤ 16
    low = omega (arith, of.known, around.parties.last_proposer, around.parties.few)

    after_proposal : Around m cluster after old id
    after_proposal = around_made m cluster global.log global.kept global.made made old id h (proposal_of_one id caller.number round read by of.in_hand.own) (λ request now. absurd (cc now)) (λ x stands. later stands) around history

    askable : (rest : List ℕ) (to : ℕ) → Has to round.era.acc → IsAskable cluster (asked_global after f rest) (f to)
    askable rest to h_to = record {
      may = (
        record {
          era = round.era.number;
          drawn = asked_later f rest after.log (later of.in_hand.drawn);
          own = of.in_hand.own;
          member = of.is_era.acc_members to (has_member_of to round.era.acc h_to);
          above = asked_all f (λ l. IsAboveFloors (marks_of l) round.key round.ballot) (λ t l was. was) rest after.log (above_still h global.log (no_floor p) of.in_hand.above_floors);
        },
        asked_all f (λ l. HasProposal round.key round.ballot (marks_of l)) (λ t l was. was) rest after.log (record { proposal = p; stands = record { older = marks_of global.log; at = here }; same_key = refl; same_ballot = refl }),
        asked_all f (λ l. IfSome round.ride (MayRide l round.key round.ballot)) (λ t l was. ride_later l (Asked (f t)) round.key round.ballot round.ride was) rest after.log (ride_later global.log h round.key round.ballot round.ride (rides_or_none global.log id round.era.number round.key round.ballot round.ride of.ride)),
      );
      made = record { made = new_made; stands = record { older = global.made; at = here }; same_key = refl; same_ballot = refl; same_era = refl; same_state = refl };
      ended = tt;
      from = low;
      to = member_low round.era.acc to of.is_era.acc_set (has_member_of to round.era.acc h_to);
    }

    after_asks : Around m cluster (proposed_global global id age round p outcome) old id
    after_asks = asked_around m cluster after old id f round.era.acc (λ to. refl) askable of.above after_proposal

    differs : (key : List ℕ) (ready : Ready) → Contains now.cache (key, ready) → round.key ≡ key → ⊥
    differs key ready has_it same = of.none_open ready (subst (λ (k : List ℕ). Contains now.cache (k, ready)) (sym same) has_it)

    ride_true : (b : Ballot) → round.ride ≡ Some b → IsRideTrue log id round b
    ride_true b rides = let ride = of.ride b rides in record {
      in_hand = asked_hand f round.era.acc after.log id round.era.number round.key b
          (hand_still h global.log (proposes_other p round.key b (λ e same. less_irreflexive (subst (λ (x : Ballot). BallotLess x b) same ride.1))) (no_floor p) ride.0);
      above = ride.1;
      all = asked_all f (λ l. AllRide l round.key round.ballot b) (λ to l was. all_still (Asked (f to)) l (λ request e asked s same is. sym (asks_ride same is).1.1 ∙ rides) was) round.era.acc after.log
          (all_still h global.log (no_asks p round.key round.ballot b) (none_asked cluster global.log round.key round.ballot b around.history.orderly of.in_hand.fresh));
    }

    round_true : IsRoundTrue cluster log made id era (record caller { call = Some (proposing call outcome) }) (queue_at flow id).messages round
    round_true = record {
      call = proposing call outcome;
      is_open = refl;
      same_key = of.same_key;
      own = of.in_hand.own;
      same_era = of.same_era;
      is_era = of.is_era;
      phase = inr (record {
        made = new_made;
        stands = record { older = global.made; at = here };
        same_caller = refl;
        same_call = refl;
        same_key = refl;
        same_ballot = refl;
        same_era = refl;
        proposed = refl;
        drawn = asked_later f round.era.acc after.log (later of.in_hand.drawn);
        above_floors = asked_all f (λ l. IsAboveFloors (marks_of l) round.key round.ballot) (λ t l was. was) round.era.acc after.log (above_still h global.log (no_floor p) of.in_hand.above_floors);
        prepared = of.prepared;
        replies = [];
        accepting = of.accepting;
        replied = λ reply has_it. absurd (contains_none has_it);
        heard = subst (λ (l : List Message). IsPhaseHeard round [] l (proposing call outcome).harmed) (sym waiting) (accepts_heard id age outcome.state round of.prepared (proposing call outcome).harmed of.accepting);
        ride = ride_true;
      });
    }

    desk_true : IsDeskTrue m cluster log made era id (record caller { call = Some (proposing call outcome) }) (queue_at flow id).messages now
    desk_true = record {
      same_id = of.same_id;
      known = of.known;
      vault = asked_vault m f round.era.acc after.log id era now.vault (λ to. of.aged)
          (vault_still m h global.log (λ b k e same own. absurd (cc same)) (λ e same. absurd (cc same)) (no_floor p) (λ request same own. absurd (cc same)) of.vault);
      cached = asked_ready cluster f round.era.acc after.log made id era now.cache
          (λ to key ready has_it request e asked s same is. absurd (differs key ready has_it (asks_ride same is).0))
          (λ key ready has_it. ready_more cluster after.log (λ x stands. later stands)
          (ready_still cluster h global.log global.made (proposes_other p key ready.ballot (λ same e. differs key ready has_it same)) (no_floor p) (no_asks p key ready.read ready.ballot) (of.cached key ready has_it)));
      one_each = of.one_each;
      none_open = subst (λ (r : Option Round). HasNone r now.cache) (sym of.is_round) of.none_open;
      round = subst (IsOpenTrue cluster log made id era (record caller { call = Some (proposing call outcome) }) (queue_at flow id).messages) (sym of.is_round) round_true;
    }

    call_in : Mark → ℕ
    call_in (Proposed q) = q.call
    call_in mark = 0

    caller_true : IsCallerTrue log made id (record caller { call = Some (proposing call outcome) })
    caller_true = asked_caller f round.era.acc after.log made id (record caller { call = Some (proposing call outcome) }) (record {
      number = of.caller_true.number;
      call = λ x is. subst (IsCallTrue after.log made id caller.number) (some_is is) (let was = of.caller_true.call call of.is_open in record {
        begun = later was.begun;
        open_yet = λ ended. elim (newest_or ended.stands) [
          | inl now_is ↦ absurd (cc now_is)
          | inr before ↦ was.open_yet (record { rounds = ended.rounds; answer = ended.answer; stands = before })
        ];
        unproposed = λ none. absurd (cc none);
        proposed = λ some. record { proposal = p; stands = record { older = marks_of global.log; at = here }; same_caller = refl; same_call = refl };
        harmed_set = no_harm;
        harmed = omega arith;
        told = λ told same. absurd (cc same);
      });
      ended = λ number is. elim (newest_or is.stands) [
        | inl now_is ↦ inl (refl, sym is.same_call ∙ ap (λ (mark : Mark). call_in mark) now_is)
        | inr before ↦ elim (of.caller_true.ended number (record { proposal = is.proposal; stands = before; same_caller = is.same_caller; same_call = is.same_call })) [
          | inl open_ ↦ inl (refl, open_.1)
          | inr was_ended ↦ inr (ended_later h global.log was_ended)
        ]
      ];
    })
