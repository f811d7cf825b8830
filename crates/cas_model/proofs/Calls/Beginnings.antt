-- A round begins at a ballot that is drawn: each member of the era is asked to prepare it.
use Rattle.std.proofs.Common.{◌≡◌, ◌≤◌, ℕ, true, List, [], ◌++◌, Option, None, Some, refl, sym, ap, subst, ◌∙◌, inl, arith}
use Rattle.std.specs.Prelude.{Contains}
use Rattle.cas_ballot.specs.declared.ballot.Ballot.{Ballot}
use Rattle.cas_ballot.specs.Members.{has_member}
use Rattle.cas_cache.specs.Entries.{without}
use Rattle.cas_change.specs.declared.state.State.{State}
use Rattle.cas_flow.specs.Flow.{FlowView, queue_at}
use Rattle.cas_flow.specs.Queue.{QueueView}
use Rattle.cas_flow.specs.declared.message.Message.{Message}
use Rattle.cas_flow.specs.declared.message.Message.TheVariants as message
use Rattle.cas_proposer.specs.Desk.{DeskView}
use Rattle.cas_proposer.specs.Round.{is_of, IsAbout, IsPrepare, IsPreparing}
use Rattle.cas_proposer.specs.declared.round.OpenPhase.{OpenPhase}
use Rattle.cas_proposer.specs.declared.round.OpenPhase.TheVariants.{Prepare, Accept}
use Rattle.cas_proposer.specs.declared.round.Round.{Round}
use Rattle.cas_quorum.specs.declared.era.Era.{Era}
use Rattle.cas_round.proofs.Lists.{has, contains}
use Rattle.cas_slot.specs.declared.message.Ask.TheVariants as ask
use Rattle.cas_slot.specs.declared.message.Phase.TheVariants as phase
use Rattle.cas_slot.specs.declared.message.Reply.{Reply}
use Rattle.cas_slot.specs.declared.message.Request.{Request}
use Rattle.cas_vault.specs.Vault.{kept_of}
use Rattle.cas_record.specs.Logs.Happening.{Happening, Asked}
use Rattle.cas_record.specs.Logs.Lawful.{Cluster}
use Rattle.cas_model.specs.Parties.{AreMessagesTrue, IsEraOf, ArePromisesHeld, HaveOneEach, HasNone, IsInHand, IsOfPhase, waits, IsPhaseHeard, IsRoundTrue, IsOpenTrue, IsDeskTrue, asked_in}
use Rattle.cas_protocol.specs.Protocol.{GlobalState}
use Rattle.cas_model.specs.Calls.Step.{Sends, prepares_to}
use Rattle.cas_model.specs.Calls.Desks.{BeginsToPrepare, HasDrawn}
use Rattle.cas_model.specs.View.{Meaning, View, CallView, CallerView, IsAt, with_desk, era_at}
use Rattle.cas_model.proofs.Others.{no_probe_in}
use Rattle.cas_model.proofs.Around.{Whole, around, settles, leaves_desk}
use Rattle.cas_model.proofs.Collection.Renewing.{drawn_above, IsRenewedFor, asks_by}
use Rattle.cas_model.proofs.Calls.Asks.{asked_log, asked_global, asked_around, asked_messages, asked_vault, asked_caller, asked_still, asked_hand, asked_ready, may_prepare}
use Rattle.cas_model.proofs.Calls.Caches.{contains_without, ready_fewer, one_without, none_without}
use Rattle.cas_model.proofs.Calls.Draws.{drew, drew_vault, drew_ready, drew_caller, drew_messages, drew_around, drew_in_hand}
use Rattle.cas_model.proofs.Frames.Harms.{member_low, member_has, has_of_map, has_map_of, has_member_of}
use Rattle.cas_model.proofs.Places.{own_set, at_one, contains_none}

-- ---- phases
prepare_of : (era : Era) (ballot : Ballot) (replies : List Reply) (phase_is : OpenPhase) → IsPrepare era ballot replies phase_is → is_of phase_is phase.Prepare ≡ true
prepare_of era ballot replies (Prepare p) is = refl
prepare_of era ballot replies (Accept p) is = absurd is

asked_to_prepare : (of : Era) (era : Era) (ballot : Ballot) (replies : List Reply) (phase_is : OpenPhase) → IsPrepare era ballot replies phase_is → asked_in of phase_is ≡ of.prep
asked_to_prepare of era ballot replies (Prepare p) is = refl
asked_to_prepare of era ballot replies (Accept p) is = absurd is

-- ---- the round
abbrev pub prepare_request : ℕ → ℕ → List ℕ → Ballot → ℕ → Request
prepare_request proposer age key ballot to = record { to = to; from = proposer; age = age; ask = ask.Prepare key ballot }

hand_about : (log : List Happening) (id : ℕ) (key : List ℕ) (era : Era) (ballot : Ballot) (round : Round) → IsAbout key era ballot round → IsInHand log id era.number key ballot → IsInHand log id round.era.number round.key round.ballot
hand_about log id key era ballot round about hand =
    subst (λ (e : Era). IsInHand log id e.number round.key round.ballot) (sym about.in_era)
    (subst (λ (k : List ℕ). IsInHand log id era.number k round.ballot) (sym about.of_key)
    (subst (λ (b : Ballot). IsInHand log id era.number key b) (sym about.at) hand))

-- all members that are asked to prepare wait
prepares_heard : (id age : ℕ) (key : List ℕ) (era : Era) (ballot : Ballot) (round : Round) (harmed : List ℕ) → IsAbout key era ballot round → IsPreparing [] round
    → IsPhaseHeard round [] (prepares_to id age key ballot era.prep) harmed
prepares_heard id age key era ballot round harmed about preparing = record {
  of_phase = λ each has_it.
      let of = has_of_map (λ (to : ℕ). message.Request (prepare_request id age key ballot to)) each era.prep (has each (prepares_to id age key ballot era.prep) has_it) in
      subst (IsOfPhase round) of.1.1 (prepare_of round.era round.ballot [] round.phase preparing.phase, sym about.at);
  each = λ acceptor member.
      let member_of : has_member era.prep acceptor ≡ true =
      sym (ap (λ (l : List ℕ). has_member l acceptor) (asked_to_prepare round.era round.era round.ballot [] round.phase preparing.phase ∙ ap (λ (e : Era). e.prep) about.in_era)) ∙ member in
      waits (message.Request (prepare_request id age key ballot acceptor))
      (contains (message.Request (prepare_request id age key ballot acceptor)) (prepares_to id age key ballot era.prep)
      (has_map_of (λ (to : ℕ). message.Request (prepare_request id age key ballot to)) acceptor era.prep (member_has acceptor era.prep member_of))) refl;
}

abbrev asked_request : Request → Happening → Request
asked_request none (Asked request) = request
asked_request none other = none

not_accept : {id age : ℕ} {key k : List ℕ} {ballot b : Ballot} {to : ℕ} {request : Request} {e : ℕ} {asked : Option Ballot} {state : State} → Asked request ≡ Asked (prepare_request id age key ballot to)
    → request.ask ≡ ask.Accept k b e asked state → ⊥
not_accept {id} {age} {key} {k} {ballot} {b} {to} {request} {e} {asked} {state} now is =
    let same : request ≡ prepare_request id age key ballot to = ap (asked_request request) now in
    absurd (cc (is, ap (λ (q : Request). q.ask) same))

pub begins_to_prepare : {S V : Type 0} (m : Meaning S V) (cluster : Cluster) (global : GlobalState) (old : View S V) (id : ℕ) (caller : CallerView) (call : CallView) (desk now : DeskView V) (ballot : Ballot) (round : Round) (flow : FlowView)
    → m.disks.tells → IsAt old.callers id caller → caller.call ≡ Some call → call.proposed ≡ None → IsAt old.desks id desk
    → BeginsToPrepare m.disks (era_at old id) call.key desk now ballot round → Sends old.flow id (prepares_to id (kept_of desk.vault).age call.key ballot (era_at old id).prep) flow → IsRenewedFor m.disks old.council.collection id desk → Whole m cluster global old
    → Whole m cluster (asked_global (drew global (Some ballot) call.key (era_at old id).number) (prepare_request id (kept_of desk.vault).age call.key ballot) (era_at old id).prep) (record (with_desk old id now) { flow = flow })
begins_to_prepare {S} {V} m cluster global old id caller call desk now ballot round flow tells at_caller is_open unproposed at_desk begins sends renewed whole =
    let low : id ≤ 16 = omega (arith, of.known, whole.parties.last_proposer, whole.parties.few) in
    let after_draw = drew_around m cluster global old id call.key desk.vault now.vault (Some ballot) of.known drawn of.vault (around m cluster global old id whole) in
    let after_asks = asked_around m cluster middle old id f (era_at old id).prep (λ to. refl)
    (λ rest to h. may_prepare cluster (asked_global middle f rest) (f to) id era call.key ballot refl refl
    (era_is.prep_members to (has_member_of to (era_at old id).prep h)) low (member_low (era_at old id).prep to era_is.prep_set (has_member_of to (era_at old id).prep h))
    (asked_hand f rest middle.log id era call.key ballot hand))
    (λ to. asks_by old.council (f to) (no_probe_in old.council.exchange (f to) (λ tag k is. cc is)) (λ tag least is. cc is) (λ c age is at round same. drawn_above m.disks desk.id desk.vault now.vault _ ballot (renewed c age is at).past begins.drawn)) after_draw in
    settles m cluster (asked_global middle f (era_at old id).prep) old (record (with_desk old id now) { flow = flow }) id after_asks
    (leaves_desk old id now _ (λ p other. ap (λ (q : QueueView). q.messages) (sends.others p other)))
    (record {
      desk = λ d c at_d at_c.
          subst (λ (x : DeskView V). IsDeskTrue m cluster log global.made era id c (queue_at flow id).messages x) (sym (own_set old.desks id now d at_d))
          (subst (λ (x : CallerView). IsDeskTrue m cluster log global.made era id x (queue_at flow id).messages now) (at_one old.callers id at_caller at_c) desk_true);
      caller = λ c at_c. asked_caller f (era_at old id).prep middle.log global.made id c (drew_caller global.log global.made id c call.key era (Some ballot) (whole.parties.callers id tt c at_c));
      own = subst (AreMessagesTrue log) (sym waiting) (asked_messages f (era_at old id).prep middle.log);
      late = subst (AreMessagesTrue log) (sym sends.late) (asked_still f (era_at old id).prep middle.log old.flow.late (drew_messages global.log old.flow.late call.key era (Some ballot) whole.parties.late));
    })
  where
    era : ℕ
    era = (era_at old id).number

    f : ℕ → Request
    f = prepare_request id (kept_of desk.vault).age call.key ballot

    of : IsDeskTrue m cluster global.log global.made era id caller (queue_at old.flow id).messages desk
    of = whole.parties.desks id tt desk caller at_desk at_caller

    era_is : IsEraOf cluster (era_at old id)
    era_is = whole.parties.eras id (omega (arith, of.known, whole.parties.last_proposer))

    drawn : HasDrawn m.disks id desk.vault now.vault ballot
    drawn = subst (λ (i : ℕ). HasDrawn m.disks i desk.vault now.vault ballot) of.same_id begins.drawn

    middle : GlobalState
    middle = drew global (Some ballot) call.key era

    log : List Happening
    log = asked_log f (era_at old id).prep middle.log

    hand : IsInHand middle.log id era call.key ballot
    hand = drew_in_hand m cluster global id era call.key desk.vault now.vault ballot of.known drawn of.vault whole.history

    none_waits : (queue_at old.flow id).messages ≡ []
    none_waits = subst (λ (r : Option Round). IsOpenTrue cluster global.log global.made id era caller (queue_at old.flow id).messages r) begins.none_open of.round

    waiting : (queue_at flow id).messages ≡ prepares_to id (kept_of desk.vault).age call.key ballot (era_at old id).prep
    waiting = sends.own ∙ ap (λ (l : List Message). l ++ prepares_to id (kept_of desk.vault).age call.key ballot (era_at old id).prep) none_waits

    round_true : IsRoundTrue cluster log global.made id era caller (queue_at flow id).messages round
    round_true = record {
      call = call;
      is_open = is_open;
      same_key = begins.opened.0.of_key;
      own = ap (λ (b : Ballot). b.proposer) begins.opened.0.at ∙ hand.own;
      same_era = ap (λ (e : Era). e.number) begins.opened.0.in_era;
      is_era = subst (IsEraOf cluster) (sym begins.opened.0.in_era) era_is;
      phase = inl (record {
        unproposed = unproposed;
        in_hand = hand_about log id call.key (era_at old id) ballot round begins.opened.0 (asked_hand f (era_at old id).prep middle.log id era call.key ballot hand);
        replies = [];
        preparing = begins.opened.1;
        made = λ reply has_it. absurd (contains_none has_it);
        heard = subst (λ (l : List Message). IsPhaseHeard round [] l call.harmed) (sym waiting) (prepares_heard id (kept_of desk.vault).age call.key (era_at old id) ballot round call.harmed begins.opened.0 begins.opened.1);
      });
    }

    desk_true : IsDeskTrue m cluster log global.made era id caller (queue_at flow id).messages now
    desk_true = record {
      same_id = ap (λ (d : DeskView V). d.id) begins.desk ∙ of.same_id;
      known = of.known;
      vault = asked_vault m f (era_at old id).prep middle.log id era now.vault (λ to. begins.aged tells) (drew_vault m global.log id era call.key desk.vault now.vault (Some ballot) tells drawn of.vault);
      cached = subst (ArePromisesHeld cluster log global.made id era) (sym (ap (λ (d : DeskView V). d.cache) begins.desk))
          (ready_fewer cluster log global.made id era (without call.key desk.cache) desk.cache (λ entry h. contains_without call.key desk.cache h)
          (asked_ready cluster f (era_at old id).prep middle.log global.made id era desk.cache (λ to k ready has_it request e asked state now is. absurd (not_accept now is))
          (drew_ready cluster global.log global.made id era desk.cache call.key (Some ballot) of.cached)));
      one_each = subst HaveOneEach (sym (ap (λ (d : DeskView V). d.cache) begins.desk)) (one_without call.key desk.cache of.one_each);
      none_open = subst (λ (d : DeskView V). HasNone d.round d.cache) (sym begins.desk)
          (λ ready h. none_without call.key desk.cache of.one_each ready (subst (λ (k : List ℕ). Contains (without call.key desk.cache) (k, ready)) begins.opened.0.of_key h));
      round = subst (IsOpenTrue cluster log global.made id era caller (queue_at flow id).messages) (sym (ap (λ (d : DeskView V). d.round) begins.desk)) round_true;
    }
