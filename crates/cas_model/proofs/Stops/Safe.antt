-- A cluster stays safe as acceptors and proposers stop and are up again, as late frames stray in, and as calls end.
use Rattle.std.proofs.Common.{◌≡◌, ◌<◌, ◌≤◌, ℕ, zero, suc, Bool, true, false, List, [], ◌∷◌, ◌++◌, Option, None, Some, refl, sym, ap, subst, ◌∙◌, inl, inr, arith, length-set, length-append}
use Rattle.std.specs.Prelude.{◌⊎◌, ◌+◌, ◌*◌, length, is_some, option_map, if◌then◌else◌, slice_set, slice_index_or, Contains}
use Rattle.cas_ballot.specs.declared.ballot.Ballot.{Ballot}
use Rattle.cas_ballot.specs.Ballot.{FitsBallot}
use Rattle.cas_ballot.specs.Members.{has_member, IsMemberSet}
use Rattle.cas_cache.specs.declared.ready.Ready.{Ready}
use Rattle.cas_model.proofs.Calls.Failing.{failed_without}
use Rattle.cas_cache.specs.Entries.{without}
use Rattle.cas_change.specs.declared.state.State.{State}
use Rattle.cas_flow.specs.Flow.{FlowView, queue_at, emptied, abandoned}
use Rattle.cas_flow.specs.Message.{head_of}
use Rattle.cas_flow.specs.Queue.{QueueView}
use Rattle.cas_flow.specs.declared.message.Message.{Message}
use Rattle.cas_flow.specs.declared.message.Message.TheVariants as message
use Rattle.cas_acceptor.specs.Acceptor.{AcceptorView}
use Rattle.cas_proposer.specs.Desk.{DeskView, IsCrashed, cache_after}
use Rattle.cas_proposer.specs.Round.{is_preparing, Hears}
use Rattle.cas_proposer.specs.declared.round.OpenPhase.{OpenPhase}
use Rattle.cas_proposer.specs.declared.round.OpenPhase.TheVariants.{Prepare, Accept}
use Rattle.cas_proposer.specs.declared.round.Round.{Round}
use Rattle.cas_quorum.specs.declared.era.Era.{Era}
use Rattle.cas_quorum.specs.Era.{majority_era}
use Rattle.cas_vault.specs.Vault.{kept_of}
use Rattle.cas_slot.specs.declared.message.Ask.{Ask}
use Rattle.cas_slot.specs.declared.message.Ask.TheVariants as ask
use Rattle.cas_slot.specs.declared.message.Reply.{Reply}
use Rattle.cas_slot.specs.declared.message.Request.{Request}
use Rattle.cas_slot.specs.declared.message.Tell.{Tell}
use Rattle.cas_slot.specs.declared.message.Tell.TheVariants as tell
use Rattle.cas_record.specs.declared.answer.Answer.{Answer}
use Rattle.cas_record.specs.declared.answer.Answer.TheVariants as answer
use Rattle.cas_record.specs.declared.answer.Cause.{Cause}
use Rattle.cas_record.specs.declared.answer.Cause.TheVariants as cause
use Rattle.cas_record.specs.declared.mark.Mark.{Mark}
use Rattle.cas_record.specs.declared.mark.Mark.TheVariants.{Ended}
use Rattle.cas_record.specs.Logs.Happening.{marks_of}
use Rattle.cas_protocol.specs.Acceptors.{votes_of}
use Rattle.cas_model.specs.Parties.{asked_in}
use Rattle.cas_model.specs.Collection.State.{reserved_for_collection}
use Rattle.cas_model.specs.Council.{ExchangeView, Council, broken_off, crashed_in, exchange_place, reserved_for_order, reserved_for_exchange}
use Rattle.cas_model.specs.Safe.{requests_in, handled_in, handled_once, IsPartySafe, IsRoundSafe, IsOpenSafe, IsIdleSafe, IsSound, IsAskingSafe, IsCouncilSafe}
use Rattle.cas_model.specs.Step as step
use Rattle.cas_model.specs.Eras.Course.{era_shown}
use Rattle.cas_model.specs.Step.{StepRefuseTurn, StepStray, StepCrashAcceptor, StepRestartAcceptor, StepRestartProposer}
use Rattle.cas_model.specs.Eras.Course.{HasFewMembers}
use Rattle.cas_model.specs.Stops.Step as stops
use Rattle.cas_model.specs.Stops.Step.{closed_by, LeavesRound, GoesDown, broken_off_view}
use Rattle.cas_model.specs.Calls.Step as calls
use Rattle.cas_model.specs.Calls.Step.{most_marks, with_call, telling, over, RefusesCall, EndsCall, Rescans, offered_by}
use Rattle.cas_model.specs.Exchanges.Step.{with_council}
use Rattle.cas_model.specs.Calls.Desks.{HearsReply, EndsRound, FailsToDraw, LosesMemory}
use Rattle.cas_model.specs.Frames.Step as frames
use Rattle.cas_model.specs.Frames.Step.{FindsNoRoom, Strays, votes_marked, without_late, with_late}
use Rattle.cas_model.specs.View.{Meaning, View, CallView, CallerView, IsAt, reserved_in, reserved_in_all, with_acceptor, with_desk, with_marks, era_at, era_in}
use Rattle.cas_model.proofs.Calls.Caches.{contains_without, IsKeptOr, kept, held, kept_or_held}
use Rattle.cas_model.proofs.Calls.Ends.{none_left}
use Rattle.cas_model.proofs.Eras.Courses.{era_kept}
use Rattle.cas_model.proofs.Places.{same_or_not, own_set, some_is, queue_same, queue_other, contains_none}
use Rattle.cas_model.proofs.Eras.Rescanning.{rescan_asks, rescan_reserves}
use Rattle.cas_model.proofs.Eras.SafeListings.{broken_asks, rescan_collects, rescan_safe}
use Rattle.cas_model.proofs.Safety.Parts.{more_marks, more_by, reserved_set, set_within, safe_but, council_safe, caller_low, desk_low, changes_both, changes_caller, changes_desk, party_idle, idle_at, keeps_set}
use Rattle.cas_model.proofs.Frames.Steps.{same_asked}

-- ---- acceptors
-- other acceptors with the same identities, other late frames, and more marks within their room
pub acceptors_safe : {S V : Type 0} (old : View S V) (acceptors : List (AcceptorView S)) (late : List Message) (marks : List Mark) → IsSound old → length acceptors ≡ length old.acceptors
    → ((id : ℕ) (acceptor : AcceptorView S) → IsAt acceptors id acceptor → acceptor.id ≡ id) → length old.marks ≤ length marks → length marks + reserved_in_all old ≤ most_marks
    → IsSound (record old { acceptors = acceptors; flow = record { own = old.flow.own; late = late }; marks = marks })
acceptors_safe old acceptors late marks was same ids more room = record {
  few = was.few;
  prep_sets = was.prep_sets;
  acc_sets = was.acc_sets;
  few_members = was.few_members;
  eras = was.eras;
  acceptors = same ∙ was.acceptors;
  acceptor_ids = ids;
  desks = was.desks;
  callers = was.callers;
  own = was.own;
  parties = λ id desk caller at_desk at_caller. more_marks (era_at old id) (length old.marks) (length marks) id desk caller (queue_at old.flow id) more (was.parties id desk caller at_desk at_caller);
  asking = was.asking;
  council = was.council;
  room = room;
}

-- one of them is replaced
pub acceptor_safe : {S V : Type 0} (old : View S V) (id : ℕ) (acceptor now : AcceptorView S) → IsSound old → IsAt old.acceptors id acceptor → now.id ≡ acceptor.id → IsSound (with_acceptor old id now)
acceptor_safe old id acceptor now was at same =
    let keeps = keeps_set old.acceptors id acceptor now at same in
    acceptors_safe old (slice_set old.acceptors id now) old.flow.late old.marks was keeps.length (keeps.ids was.acceptor_ids) (omega arith) was.room

pub crashes_acceptor_safe : {S V : Type 0} (m : Meaning S V) (old : View S V) (id : ℕ) (new : View S V) → IsSound old → StepCrashAcceptor m old id new → IsSound new
crashes_acceptor_safe {S} {V} m old id new was (step.crashes acceptor now at by view) =
    subst IsSound (sym view) (acceptor_safe old id acceptor now was at (ap (λ (a : AcceptorView S). a.id) by.acceptor))

pub restarts_acceptor_safe : {S V : Type 0} (m : Meaning S V) (old : View S V) (id : ℕ) (new : View S V) → IsSound old → StepRestartAcceptor m old id new → IsSound new
restarts_acceptor_safe {S} {V} m old id new was (step.was_up acceptor at up view) = subst IsSound (sym view) was
restarts_acceptor_safe {S} {V} m old id new was (step.starts acceptor now at by view) =
    subst IsSound (sym view) (acceptor_safe old id acceptor now was at (ap (λ (a : AcceptorView S). a.id) by.acceptor))
restarts_acceptor_safe {S} {V} m old id new was (step.fails acceptor now at by view) =
    subst IsSound (sym view) (acceptor_safe old id acceptor now was at (ap (λ (a : AcceptorView S). a.id) by.acceptor))

-- ---- no memory for a frame
pub room_not_found_safe : {S V : Type 0} (m : Meaning S V) (old new : View S V) → IsSound old → FindsNoRoom m old new → IsSound new
room_not_found_safe {S} {V} m old new was (frames.stays view) = subst IsSound (sym view) was
room_not_found_safe {S} {V} m old new was (frames.kept id acceptor now at by view) =
    subst IsSound (sym view) (acceptor_safe old id acceptor now was at (ap (λ (a : AcceptorView S). a.id) by.acceptor))

-- callers are as they were
same_callers : {S V : Type 0} (m : Meaning S V) (old new : View S V) → FindsNoRoom m old new → new.callers ≡ old.callers
same_callers {S} {V} m old new (frames.stays view) = ap (λ (v : View S V). v.callers) view
same_callers {S} {V} m old new (frames.kept id acceptor now at by view) = ap (λ (v : View S V). v.callers) view

-- a caller whose call differs in nothing that a round depends on
told_open : (era : Era) (caller : CallerView) (call now : CallView) (queue : QueueView) (round : Round) → caller.call ≡ Some call → now.key ≡ call.key → now.reserved ≡ call.reserved → now.proposed ≡ call.proposed → now.harmed ≡ call.harmed
    → IsOpenSafe era caller queue round → IsOpenSafe era (record caller { call = Some now }) queue round
told_open era caller call now queue round is_open key reserved proposed harmed was =
    let same : call ≡ was.call = some_is (sym is_open ∙ was.is_open) in
    let same_reserved : now.reserved ≡ was.call.reserved = reserved ∙ ap (λ (c : CallView). c.reserved) same in
    let same_proposed = proposed ∙ ap (λ (c : CallView). c.proposed) same in
    let same_harmed : now.harmed ≡ was.call.harmed = harmed ∙ ap (λ (c : CallView). c.harmed) same in
    record {
      call = now;
      is_open = refl;
      same_key = was.same_key ∙ sym (key ∙ ap (λ (c : CallView). c.key) same);
      same_era = was.same_era;
      ballot = was.ballot;
      ride = was.ride;
      about = was.about;
      asks = was.asks;
      harmed_set = subst IsMemberSet (sym same_harmed) was.harmed_set;
      harmed_within = λ acceptor h. was.harmed_within acceptor (subst (λ (l : List ℕ). has_member l acceptor ≡ true) same_harmed h);
      unproposed = λ e. same_proposed ∙ was.unproposed e;
      prepare_room = λ e. omega (arith, was.prepare_room e, same_reserved, ap (λ (l : List ℕ). length l) same_harmed);
      proposed = λ e. ap is_some same_proposed ∙ was.proposed e;
      accept_room = λ e. omega (arith, was.accept_room e, same_reserved, ap (λ (l : List ℕ). length l) same_harmed);
    }

told_safe : (era : Era) (caller : CallerView) (call now : CallView) (queue : QueueView) (round : Option Round) → caller.call ≡ Some call → now.key ≡ call.key → now.reserved ≡ call.reserved → now.proposed ≡ call.proposed → now.harmed ≡ call.harmed
    → IsRoundSafe era caller queue round → IsRoundSafe era (record caller { call = Some now }) queue round
told_safe era caller call now queue None is_open key reserved proposed harmed was = record {
  none_waits = was.none_waits;
  reserved = λ other is. subst (λ (c : CallView). 0 < c.reserved) (some_is is) (omega (arith, reserved, was.reserved call is_open));
}
told_safe era caller call now queue (Some round) is_open key reserved proposed harmed was = told_open era caller call now queue round is_open key reserved proposed harmed was

pub tells_safe : {S V : Type 0} (old : View S V) (id : ℕ) (caller : CallerView) (call now : CallView) → IsSound old → IsAt old.callers id caller → caller.call ≡ Some call
    → now.key ≡ call.key → now.reserved ≡ call.reserved → now.proposed ≡ call.proposed → now.harmed ≡ call.harmed → IsSound (with_call old id caller now)
tells_safe {S} {V} old id caller call now was at is_open key reserved proposed harmed =
    let next : CallerView = record caller { call = Some now } in
    safe_but old (with_call old id caller now) id was (caller_low old id caller was at) (changes_caller old id next old.flow old.marks was refl (λ p other. refl) (omega arith))
    (λ desk c at_desk at_caller. subst (λ (x : CallerView). IsPartySafe (era_at old id) (length old.marks) id desk x (queue_at old.flow id)) (sym (own_set old.callers id next c at_caller))
    (let party = was.parties id desk caller at_desk at in
    record {
      same_id = party.same_id;
      idle = party.idle;
      number = party.number;
      few = omega (arith, party.few, reserved, ap reserved_in is_open);
      cached = party.cached;
      round = told_safe (era_at old id) caller call now (queue_at old.flow id) desk.round is_open key reserved proposed harmed party.round;
      room = party.room;
    }))
    (omega (arith, was.room, reserved, ap reserved_in is_open, reserved_set old.callers id caller next at))

pub refuses_turn_safe : {S V : Type 0} (m : Meaning S V) (old : View S V) (id : ℕ) (new : View S V) → IsSound old → StepRefuseTurn m old id new → IsSound new
refuses_turn_safe m old id new was by =
    let call = by.of_call.call in
    subst IsSound (sym by.view) (tells_safe by.middle id by.of_call.caller call (telling call (answer.NoMemory (is_some call.proposed))) (room_not_found_safe m old by.middle was by.refuses)
    (subst (λ (l : List CallerView). IsAt l id by.of_call.caller) (sym (same_callers m old by.middle by.refuses)) by.of_call.at_caller) by.of_call.is_open refl refl refl refl)

-- ---- late frames
-- an answer makes one vote at most
pub votes_few : (request : Request) (reply : Reply) → length (votes_marked request reply) ≤ 1
votes_few request reply = by_ask request.to request.ask reply.tell
  where
    by_ask : (to : ℕ) (question : Ask) (answer : Tell) → length (marks_of (votes_of to question answer)) ≤ 1
    by_ask to (ask.Accept key ballot era ride state) tell.Accepted = omega arith
    by_ask to question answer = omega arith

-- a round that has heard a reply
pub heard_open : (era : Era) (caller : CallerView) (queue : QueueView) (round now : Round) (reply : Reply) → Hears round reply now → IsOpenSafe era caller queue round → IsOpenSafe era caller queue now
heard_open era caller queue round now reply by was =
    let asked : asked_in era now.phase ≡ asked_in era round.phase = same_asked era now.phase round.phase by.same_phase in
    record {
      call = was.call;
      is_open = was.is_open;
      same_key = ap (λ (r : Round). r.key) by.same ∙ was.same_key;
      same_era = ap (λ (r : Round). r.era) by.same ∙ was.same_era;
      ballot = subst FitsBallot (sym (ap (λ (r : Round). r.ballot) by.same)) was.ballot;
      ride = λ ballot e. was.ride ballot (sym (ap (λ (r : Round). r.ride) by.same) ∙ e);
      about = λ each h. subst (λ (l : List ℕ). has_member l (head_of each).1 ≡ true) (sym asked) (was.about each h);
      asks = λ e. was.asks (sym by.same_phase ∙ e);
      harmed_set = was.harmed_set;
      harmed_within = λ acceptor h. subst (λ (l : List ℕ). has_member l acceptor ≡ true) (sym asked) (was.harmed_within acceptor h);
      unproposed = λ e. was.unproposed (sym by.same_phase ∙ e);
      prepare_room = λ e. was.prepare_room (sym by.same_phase ∙ e);
      proposed = λ e. was.proposed (sym by.same_phase ∙ e);
      accept_room = λ e. was.accept_room (sym by.same_phase ∙ e);
    }

-- its party
pub heard_party : {V : Type 0} (era : Era) (marks id : ℕ) (desk now : DeskView V) (caller : CallerView) (queue : QueueView) (round heard : Round) (reply : Reply) → desk.round ≡ Some round → HearsReply desk now round heard reply
    → IsPartySafe era marks id desk caller queue → IsPartySafe era marks id now caller queue
heard_party {V} era marks id desk now caller queue round heard reply has_round by was = record {
  same_id = ap (λ (d : DeskView V). d.id) by.desk ∙ was.same_id;
  idle = λ down. absurd (cc (has_round, was.idle (sym (ap (λ (d : DeskView V). d.down) by.desk) ∙ down)));
  number = was.number;
  few = was.few;
  cached = λ key ready h. was.cached key ready (subst (λ (l : List (List ℕ × Ready)). Contains l (key, ready)) (ap (λ (d : DeskView V). d.cache) by.desk) h);
  round = subst (IsRoundSafe era caller queue) (sym (ap (λ (d : DeskView V). d.round) by.desk))
      (heard_open era caller queue round heard reply by.hears (subst (IsRoundSafe era caller queue) has_round was.round));
  room = was.room;
}

pub strays_safe : {S V : Type 0} (m : Meaning S V) (old : View S V) (index : ℕ) (new : View S V) → IsSound old → StepStray m old index new → IsSound new
strays_safe {S} {V} m old index new was by = by_stray by.strays
  where
    by_stray : Strays m old index by.late new → IsSound new
    by_stray (frames.answers request acceptor now reply late at answers view) =
        let marks = old.marks ++ votes_marked request reply in
        subst IsSound (sym view) (acceptors_safe old (slice_set old.acceptors request.to now) (with_late (without_late old.flow index) (message.Reply reply)).late marks was (length-set old.acceptors request.to now)
        ((keeps_set old.acceptors request.to acceptor now at (ap (λ (a : AcceptorView S). a.id) answers.acceptor)).ids was.acceptor_ids) (more_by old.marks (votes_marked request reply))
        (omega (arith, by.room, votes_few request reply, length-append old.marks (votes_marked request reply))))
    by_stray (frames.brings_down request acceptor now late at stops view) =
        subst IsSound (sym view) (acceptors_safe old (slice_set old.acceptors request.to now) (without_late old.flow index).late old.marks was (length-set old.acceptors request.to now)
        ((keeps_set old.acceptors request.to acceptor now at (ap (λ (a : AcceptorView S). a.id) stops.acceptor)).ids was.acceptor_ids) (omega arith) was.room)
    by_stray (frames.arrives reply desk now round heard late at has_round hears view) =
        subst IsSound (sym view) (safe_but old (record (with_desk old reply.to now) { flow = without_late old.flow index }) reply.to was (desk_low old reply.to desk was at) (changes_desk old reply.to now (without_late old.flow index) was refl (λ p other. refl))
        (λ d c at_d at_c. subst (λ (x : DeskView V). IsPartySafe (era_at old reply.to) (length old.marks) reply.to x c (queue_at old.flow reply.to)) (sym (own_set old.desks reply.to now d at_d))
        (heard_party (era_at old reply.to) (length old.marks) reply.to desk now c (queue_at old.flow reply.to) round heard reply has_round hears (was.parties reply.to desk c at at_c)))
        was.room)
    by_stray (frames.drops ignored view) =
        subst IsSound (sym view) (acceptors_safe old old.acceptors (without_late old.flow index).late old.marks was refl was.acceptor_ids (omega arith) was.room)

-- ---- marks that are reserved
-- no more requests were handled once than wait
pub handled_few : (again : Bool) (messages : List Message) → handled_in again messages ≤ requests_in messages
handled_few true [] = omega arith
handled_few true (message.Request request ∷ rest) = omega arith
handled_few true (message.Reply reply ∷ rest) = omega arith
handled_few false messages = omega arith

pub asked_set : (era : Era) (phase : OpenPhase) → IsMemberSet era.prep → IsMemberSet era.acc → IsMemberSet (asked_in era phase)
asked_set era (Prepare p) prep acc = prep
asked_set era (Accept p) prep acc = acc

reserves_by : (era : Era) (phase : OpenPhase) (reserved harmed requests handled : ℕ) → harmed ≤ length (asked_in era phase) → handled ≤ requests
    → (is_preparing phase ≡ true → 4 + 3 * length era.acc + length era.prep ≤ reserved + harmed) → (is_preparing phase ≡ false → 3 + 2 * requests + length era.acc ≤ reserved + harmed + handled) → 3 ≤ reserved
reserves_by era (Prepare p) reserved harmed requests handled few once prepares accepts = omega (arith, few, prepares refl)
reserves_by era (Accept p) reserved harmed requests handled few once prepares accepts = omega (arith, few, once, accepts refl)

-- of an open round the marks of an acknowledgment, of its call's end and of a floor are reserved
pub reserves_one : (era : Era) (caller : CallerView) (queue : QueueView) (round : Round) (was : IsOpenSafe era caller queue round) → IsMemberSet era.prep → IsMemberSet era.acc → 3 ≤ was.call.reserved
reserves_one era caller queue round was prep acc =
    reserves_by era round.phase was.call.reserved (length was.call.harmed) (requests_in queue.messages) (handled_once queue)
    (set_within was.call.harmed (asked_in era round.phase) was.harmed_set (asked_set era round.phase prep acc) was.harmed_within) (handled_few queue.again queue.messages) was.prepare_room was.accept_room

-- and so is that of each open call
pub call_reserves : (era : Era) (caller : CallerView) (call : CallView) (queue : QueueView) (round : Option Round) → caller.call ≡ Some call → IsMemberSet era.prep → IsMemberSet era.acc → IsRoundSafe era caller queue round → 0 < call.reserved
call_reserves era caller call queue None is_open prep acc was = was.reserved call is_open
call_reserves era caller call queue (Some round) is_open prep acc was = omega (arith, reserves_one era caller queue round was prep acc, ap reserved_in (sym is_open ∙ was.is_open))

pub call_reserves_at : {S V : Type 0} (old : View S V) (id : ℕ) (caller : CallerView) (call : CallView) (desk : DeskView V) → IsSound old → IsAt old.callers id caller → caller.call ≡ Some call → IsAt old.desks id desk → 0 < call.reserved
call_reserves_at old id caller call desk was at_caller is_open at_desk =
    call_reserves (era_at old id) caller call (queue_at old.flow id) desk.round is_open (was.prep_sets id) (was.acc_sets id) (was.parties id desk caller at_desk at_caller).round

-- ---- a desk without an open round
-- each promise that a cache holds is within its limits
abbrev pub AreFit : List (List ℕ × Ready) → Type 0
AreFit cache = (key : List ℕ) (ready : Ready) → Contains cache (key, ready) → FitsBallot ready.ballot

-- a cache that is the same, or without one key
pub fit_fewer : (key : List ℕ) (old new : List (List ℕ × Ready)) → (new ≡ old) ⊎ (new ≡ without key old) → AreFit old → AreFit new
fit_fewer key old new (inl same) were = subst AreFit (sym same) were
fit_fewer key old new (inr fewer) were = subst AreFit (sym fewer) (λ other ready h. were other ready (contains_without key old h))

-- the desk has no open round now, and no frame of it waits
pub desk_idles : {S V : Type 0} (old : View S V) (id : ℕ) (desk now : DeskView V) (flow : FlowView) → IsSound old → IsAt old.desks id desk → now.id ≡ desk.id → now.round ≡ None → (AreFit desk.cache → AreFit now.cache)
    → ((caller : CallerView) → IsAt old.callers id caller → IsIdleSafe caller (queue_at flow id)) → length flow.own ≡ length old.flow.own → ((p : ℕ) → (p ≡ id → ⊥) → queue_at flow p ≡ queue_at old.flow p)
    → IsSound (record (with_desk old id now) { flow = flow })
desk_idles {S} {V} old id desk now flow was at same none fit idle own others =
    safe_but old (record (with_desk old id now) { flow = flow }) id was (desk_low old id desk was at) (changes_desk old id now flow was own others)
    (λ d caller at_d at_caller. subst (λ (x : DeskView V). IsPartySafe (era_at old id) (length old.marks) id x caller (queue_at flow id)) (sym (own_set old.desks id now d at_d))
    (let party = was.parties id desk caller at at_caller in
    let is = idle caller at_caller in
    party_idle (era_at old id) (length old.marks) id now caller (queue_at flow id) (same ∙ party.same_id) none is.none_waits party.number (fit party.cached) is.reserved party.few))
    was.room

-- the same, with what its caller's call is now, and more marks within what was reserved for them
pub call_idles : {S V : Type 0} (old : View S V) (id : ℕ) (caller next : CallerView) (desk now : DeskView V) (flow : FlowView) (marks : List Mark) → IsSound old → IsAt old.callers id caller → IsAt old.desks id desk
    → now.id ≡ desk.id → now.round ≡ None → (AreFit desk.cache → AreFit now.cache) → next.number ≡ caller.number → ((call : CallView) → next.call ≡ Some call → 0 < call.reserved)
    → (queue_at flow id).messages ≡ [] → length flow.own ≡ length old.flow.own → ((p : ℕ) → (p ≡ id → ⊥) → queue_at flow p ≡ queue_at old.flow p)
    → length old.marks ≤ length marks → length marks + reserved_in next.call ≤ length old.marks + reserved_in caller.call
    → IsSound (record old { desks = slice_set old.desks id now; callers = slice_set old.callers id next; flow = flow; marks = marks })
call_idles {S} {V} old id caller next desk now flow marks was at_caller at_desk same none fit number reserved waits own others more room =
    safe_but old (record old { desks = slice_set old.desks id now; callers = slice_set old.callers id next; flow = flow; marks = marks }) id was (desk_low old id desk was at_desk) (changes_both old id now next flow marks was own others more)
    (λ d c at_d at_c. subst (λ (x : DeskView V). IsPartySafe (era_at old id) (length marks) id x c (queue_at flow id)) (sym (own_set old.desks id now d at_d))
    (subst (λ (x : CallerView). IsPartySafe (era_at old id) (length marks) id now x (queue_at flow id)) (sym (own_set old.callers id next c at_c))
    (let party = was.parties id desk caller at_desk at_caller in
    party_idle (era_at old id) (length marks) id now next (queue_at flow id) (same ∙ party.same_id) none waits (omega (arith, number, party.number, more)) (fit party.cached) reserved (omega (arith, party.few, room, more)))))
    (omega (arith, room, was.room, reserved_set old.callers id caller next at_caller))

-- a round is over, or none began, and the caller is told so
pub over_safe : {S V : Type 0} (old : View S V) (id : ℕ) (caller : CallerView) (call : CallView) (desk now : DeskView V) (told : Answer) → IsSound old → IsAt old.callers id caller → caller.call ≡ Some call
    → IsAt old.desks id desk → now.id ≡ desk.id → now.round ≡ None → (AreFit desk.cache → AreFit now.cache) → (queue_at old.flow id).messages ≡ [] → IsSound (with_call (with_desk old id now) id caller (over call told))
over_safe old id caller call desk now told was at_caller is_open at_desk same none fit waits =
    call_idles old id caller (record caller { call = Some (over call told) }) desk now old.flow old.marks was at_caller at_desk same none fit refl
    (λ other is. subst (λ (c : CallView). 0 < c.reserved) (some_is is) (omega arith)) waits refl (λ p other. refl) (omega arith) (omega (arith, ap reserved_in is_open, call_reserves_at old id caller call desk was at_caller is_open at_desk))

-- ---- proposers that stop
-- frames of other proposers wait as they did
left_alone : (flow : FlowView) (id p : ℕ) → (p ≡ id → ⊥) → queue_at (abandoned flow id) p ≡ queue_at flow p
left_alone flow id p other = queue_other flow.own id p (emptied (queue_at flow id)) other

-- of a desk that keeps no promise
pub crashed_fit : {V : Type 0} (desk now : DeskView V) → now.cache ≡ [] → AreFit desk.cache → AreFit now.cache
crashed_fit desk now none were = subst AreFit (sym none) (λ key ready h. absurd (contains_none h))

-- as much stays reserved for it
broken_reserved : (exchange : Option ExchangeView) → reserved_for_exchange (option_map broken_off exchange) ≡ reserved_for_exchange exchange
broken_reserved None = refl
broken_reserved (Some exchange) = refl

-- an exchange whose frames joined the late ones is as it was, but that nothing of it waits
broken_safe : (exchange : Option ExchangeView) (queue : QueueView) → IsAskingSafe exchange queue → IsAskingSafe (option_map broken_off exchange) (emptied queue)
broken_safe None queue was = refl
broken_safe (Some exchange) queue was = record {
  tag = was.tag;
  member_set = was.member_set;
  about = λ each h. absurd (contains_none h);
  asks = λ request h. absurd (contains_none h);
  replies = λ reply h. absurd (contains_none h);
  harmed_set = was.harmed_set;
  harmed_within = was.harmed_within;
  reserved = was.reserved;
  few = was.few;
  few_members = was.few_members;
  tellers = was.tellers;
  read = was.read;
  room = omega arith;
}

-- a desk that stops or moves on has no open round then
pub left_safe : {S V : Type 0} (old : View S V) (id : ℕ) (DeskTurns : DeskView V → DeskView V → Type 0) (told : Answer) (why : Cause) (new : View S V)
    → ((desk now : DeskView V) → DeskTurns desk now → (now.id ≡ desk.id) × (now.round ≡ None) × (AreFit desk.cache → AreFit now.cache)) → IsSound old → LeavesRound DeskTurns (closed_by told why) old id new → IsSound new
left_safe {S} {V} old id DeskTurns told why new turns was (stops.idle desk now at none by view) =
    let how = turns desk now by in
    subst IsSound (sym view) (desk_idles old id desk now (abandoned old.flow id) was at how.0 how.1 how.2
    (λ caller at_caller. record {
      none_waits = none_left old.flow id;
      reserved = (idle_at (era_at old id) caller (queue_at old.flow id) desk.round none (was.parties id desk caller at at_caller).round).reserved;
    })
    (length-set old.flow.own id (emptied (queue_at old.flow id))) (left_alone old.flow id))
left_safe {S} {V} old id DeskTurns told why new turns was (stops.closes desk now round of_call at some by view) =
    let how = turns desk now by in
    let caller = of_call.caller in
    let call = of_call.call in
    subst IsSound (sym view) (call_idles old id caller (record caller { call = Some (closed_by told why call) }) desk now (abandoned old.flow id) old.marks was of_call.at_caller at how.0 how.1 how.2 refl
    (λ other is. subst (λ (c : CallView). 0 < c.reserved) (some_is is) (omega arith)) (none_left old.flow id) (length-set old.flow.own id (emptied (queue_at old.flow id))) (left_alone old.flow id) (omega arith)
    (omega (arith, ap reserved_in of_call.is_open, call_reserves_at old id caller call desk was of_call.at_caller of_call.is_open at)))

-- and no more is reserved then
pub left_reserves : {S V : Type 0} (old : View S V) (id : ℕ) (DeskTurns : DeskView V → DeskView V → Type 0) (told : Answer) (why : Cause) (new : View S V) → IsSound old → LeavesRound DeskTurns (closed_by told why) old id new
    → reserved_in_all new ≤ reserved_in_all old
left_reserves {S} {V} old id DeskTurns told why new was (stops.idle desk now at none by view) = omega (arith, ap (λ (w : View S V). reserved_in_all w) view)
left_reserves {S} {V} old id DeskTurns told why new was (stops.closes desk now round of_call at some by view) =
    omega (
      arith,
      ap (λ (w : View S V). reserved_in_all w) view,
      ap reserved_in of_call.is_open,
      call_reserves_at old id of_call.caller of_call.call desk was of_call.at_caller of_call.is_open at,
      reserved_set old.callers id of_call.caller (record of_call.caller { call = Some (closed_by told why of_call.call) }) of_call.at_caller,
    )

pub broken_off_safe : {S V : Type 0} (old : View S V) → IsSound old → IsSound (broken_off_view old)
broken_off_safe old was =
    council_safe old (abandoned old.flow exchange_place) (crashed_in old.council) old.marks was (length-set old.flow.own exchange_place (emptied (queue_at old.flow exchange_place))) (left_alone old.flow exchange_place) (omega arith)
    (subst (IsAskingSafe (option_map broken_off old.council.exchange)) (sym (queue_same old.flow.own exchange_place (emptied (queue_at old.flow exchange_place)) (omega (arith, was.own)))) (broken_safe old.council.exchange (queue_at old.flow exchange_place) was.asking))
    (was.council.0, broken_asks old.council.plan old.council.exchange was.council.1)
    (omega (arith, was.room, broken_reserved old.council.exchange))

pub down_safe : {S V : Type 0} (old : View S V) (id : ℕ) (DeskTurns : DeskView V → DeskView V → Type 0) (new : View S V) → ((desk now : DeskView V) → DeskTurns desk now → IsCrashed desk now) → IsSound old → GoesDown DeskTurns old id new → IsSound new
down_safe {S} {V} old id DeskTurns new crashes was by = by_case by
  where
    turns : (desk now : DeskView V) → DeskTurns desk now → (now.id ≡ desk.id) × (now.round ≡ None) × (AreFit desk.cache → AreFit now.cache)
    turns desk now by = let crashed = crashes desk now by in (ap (λ (d : DeskView V). d.id) crashed, ap (λ (d : DeskView V). d.round) crashed, crashed_fit desk now (ap (λ (d : DeskView V). d.cache) crashed))

    by_case : GoesDown DeskTurns old id new → IsSound new
    by_case (stops.of_client apart leaves) = left_safe old id DeskTurns answer.Crashed cause.Crashed new turns was leaves
    by_case (stops.of_operator middle is_first leaves view) = subst IsSound (sym view) (broken_off_safe middle (left_safe old id DeskTurns answer.Crashed cause.Crashed middle turns was leaves))

-- ---- eras
-- all eras are so, also where one is put in a place
era_put : (P : Era → Type 0) (eras : List Era) (id : ℕ) (era other : Era) → P era → ((p : ℕ) → P (slice_index_or eras p other)) → (p : ℕ) → P (slice_index_or (slice_set eras id era) p other)
era_put P [] id era other is are p = are p
era_put P (first ∷ eras) zero era other is are zero = is
era_put P (first ∷ eras) zero era other is are (suc p) = are (suc p)
era_put P (first ∷ eras) (suc id) era other is are zero = are zero
era_put P (first ∷ eras) (suc id) era other is are (suc p) = era_put P eras id era other is (λ q. are (suc q)) p

-- a proposer without an open round may work in another era
pub era_safe : {S V : Type 0} (old : View S V) (id : ℕ) (era : Era) → IsSound old → IsMemberSet era.prep → IsMemberSet era.acc → HasFewMembers era → ((desk : DeskView V) → IsAt old.desks id desk → desk.round ≡ None) → IsSound (record old { eras = slice_set old.eras id era })
era_safe {S} {V} old id era was prep acc few idle = record {
  few = was.few;
  prep_sets = era_put (λ e. IsMemberSet e.prep) old.eras id era (majority_era 0 []) prep was.prep_sets;
  acc_sets = era_put (λ e. IsMemberSet e.acc) old.eras id era (majority_era 0 []) acc was.acc_sets;
  few_members = era_put (λ e. HasFewMembers e) old.eras id era (majority_era 0 []) few was.few_members;
  eras = length-set old.eras id era ∙ was.eras;
  acceptors = was.acceptors;
  acceptor_ids = was.acceptor_ids;
  desks = was.desks;
  callers = was.callers;
  own = was.own;
  parties = λ p desk caller at_desk at_caller. by_place p desk caller at_desk at_caller (same_or_not p id);
  asking = was.asking;
  council = was.council;
  room = was.room;
}
  where
    by_place : (p : ℕ) (desk : DeskView V) (caller : CallerView) → IsAt old.desks p desk → IsAt old.callers p caller → (p ≡ id) ⊎ (p ≡ id → ⊥) → IsPartySafe (era_in (slice_set old.eras id era) p) (length old.marks) p desk caller (queue_at old.flow p)
    by_place p desk caller at_desk at_caller (inl same) =
        let party = was.parties p desk caller at_desk at_caller in
        let none = idle desk (subst (λ (q : ℕ). IsAt old.desks q desk) same at_desk) in
        let is = idle_at (era_at old p) caller (queue_at old.flow p) desk.round none party.round in
        party_idle (era_in (slice_set old.eras id era) p) (length old.marks) p desk caller (queue_at old.flow p) party.same_id none is.none_waits party.number party.cached is.reserved party.few
    by_place p desk caller at_desk at_caller (inr other) =
        subst (λ (e : Era). IsPartySafe e (length old.marks) p desk caller (queue_at old.flow p)) (sym (era_kept old.eras id p era other)) (was.parties p desk caller at_desk at_caller)

pub restarts_proposer_safe : {S V : Type 0} (m : Meaning S V) (old : View S V) (id : ℕ) (new : View S V) → IsSound old → ((number : ℕ) → IsMemberSet (era_shown old.council.plan (era_at old id) number).prep × IsMemberSet (era_shown old.council.plan (era_at old id) number).acc × HasFewMembers (era_shown old.council.plan (era_at old id) number))
    → StepRestartProposer m old id new → IsSound new
restarts_proposer_safe {S} {V} m old id new was sets (step.was_up_already desk at up view) = subst IsSound (sym view) was
restarts_proposer_safe {S} {V} m old id new was sets (step.restarts desk now its_caller at at_its down by view) = subst IsSound (sym view) (by_down now.down)
  where
    same : IsSound (with_desk old id now)
    same = safe_but old (with_desk old id now) id was (desk_low old id desk was at) (changes_desk old id now old.flow was refl (λ p other. refl))
        (λ d caller at_d at_caller. subst (λ (x : DeskView V). IsPartySafe (era_at old id) (length old.marks) id x caller (queue_at old.flow id)) (sym (own_set old.desks id now d at_d))
        (let party = was.parties id desk caller at at_caller in
        let is = idle_at (era_at old id) caller (queue_at old.flow id) desk.round (party.idle down) party.round in
        party_idle (era_at old id) (length old.marks) id now caller (queue_at old.flow id) (ap (λ (d : DeskView V). d.id) by.desk ∙ party.same_id) (ap (λ (d : DeskView V). d.round) by.desk ∙ party.idle down)
        is.none_waits party.number (subst AreFit (sym (ap (λ (d : DeskView V). d.cache) by.desk)) party.cached) is.reserved party.few))
        was.room

    by_down : (b : Bool) → IsSound (record (with_desk old id now) { eras = if b then old.eras else slice_set old.eras id (era_shown old.council.plan (era_at old id) (kept_of now.vault).era) })
    by_down true = same
    by_down false = let set = sets (kept_of now.vault).era in
        era_safe (with_desk old id now) id (era_shown old.council.plan (era_at old id) (kept_of now.vault).era) same set.0 set.1 set.2
        (λ d at_d. ap (λ (x : DeskView V). x.round) (own_set old.desks id now d at_d ∙ by.desk) ∙ (was.parties id desk its_caller at at_its).idle down)

-- ---- calls that end, and calls that are refused
-- the exchange of the operator is as it was, and as much stays reserved for its call and its collection
counsel_safe : {S V : Type 0} (old : View S V) (next : Council) → IsSound old → IsCouncilSafe next → next.exchange ≡ old.council.exchange → reserved_for_order next.order ≡ reserved_for_order old.council.order
    → next.collection ≡ old.council.collection → IsSound (with_council old next)
counsel_safe old next was safe exchange reserved collected =
    council_safe old old.flow next old.marks was refl (λ p other. refl) (omega arith) (subst (λ (e : Option ExchangeView). IsAskingSafe e (queue_at old.flow exchange_place)) (sym exchange) was.asking) safe
    (omega (arith, was.room, ap reserved_for_exchange exchange, reserved, ap reserved_for_collection collected))

rescans_safe : {S V : Type 0} (old : View S V) (id : ℕ) (key : List ℕ) (told : Answer) (next : Council) → IsSound old → Rescans old.council id key told next → IsSound (with_council old next)
rescans_safe old id key told next was by =
    counsel_safe old next was (rescan_safe old.council id key told next by was.council) (rescan_asks old.council id key told next by) (rescan_reserves old.council id key told next by)
    (rescan_collects old.council id key told next by)

pub ends_call_safe : {S V : Type 0} (m : Meaning S V) (old : View S V) (id : ℕ) (caller : CallerView) (call : CallView) (told : Answer) (new : View S V) → IsSound old → IsAt old.callers id caller → caller.call ≡ Some call
    → EndsCall m old id caller call told new → IsSound new
ends_call_safe {S} {V} m old id caller call told new was at_caller is_open by = by_round by.closed
  where
    marks : List Mark
    marks = old.marks ++ Ended id caller.number call.rounds told ∷ []

    ends : by.now.id ≡ by.desk.id → by.now.round ≡ None → (AreFit by.desk.cache → AreFit by.now.cache) → IsSound new
    ends same none fit =
        subst IsSound (sym by.view) (rescans_safe _ id call.key told by.council
        (call_idles old id caller (record caller { call = None }) by.desk by.now (abandoned old.flow id) marks was at_caller by.at_desk same none fit refl
        (λ other is. absurd (cc is)) (none_left old.flow id) (length-set old.flow.own id (emptied (queue_at old.flow id))) (left_alone old.flow id) (more_by old.marks (Ended id caller.number call.rounds told ∷ []))
        (omega (arith, ap reserved_in is_open, length-append old.marks (Ended id caller.number call.rounds told ∷ []), call_reserves_at old id caller call by.desk was at_caller is_open by.at_desk)))
        by.rescans)

    by_round : ((by.desk.round ≡ None) × (by.now ≡ by.desk)) ⊎ ((round : Round) × (by.desk.round ≡ Some round) × EndsRound m.disks by.desk by.now round None) → IsSound new
    by_round (inl idle) = ends (ap (λ (d : DeskView V). d.id) idle.1) (ap (λ (d : DeskView V). d.round) idle.1 ∙ idle.0) (subst AreFit (sym (ap (λ (d : DeskView V). d.cache) idle.1)))
    by_round (inr was_open) = ends (ap (λ (d : DeskView V). d.id) was_open.2.desk) (ap (λ (d : DeskView V). d.round) was_open.2.desk)
        (fit_fewer was_open.0.key by.desk.cache by.now.cache (inr (ap (λ (d : DeskView V). d.cache) was_open.2.desk)))

pub refuses_call_safe : {S V : Type 0} (m : Meaning S V) (old : View S V) (id : ℕ) (key : List ℕ) (new : View S V) → IsSound old → RefusesCall m old id key new → IsSound new
refuses_call_safe {S} {V} m old id key new was (calls.stays told council why rescan view) = subst IsSound (sym view) (rescans_safe old id key told council was rescan)
refuses_call_safe {S} {V} m old id key new was (calls.loses caller desk now ballot council at_caller at_desk none up by rescan view) =
    subst IsSound (sym view) (rescans_safe (with_desk old id now) id key (answer.NoMemory false) council (desk_idles old id desk now old.flow was at_desk (ap (λ (d : DeskView V). d.id) by.desk) (ap (λ (d : DeskView V). d.round) by.desk) (fit_fewer key desk.cache now.cache by.cache)
    (λ c at_c. idle_at (era_at old id) c (queue_at old.flow id) desk.round none (was.parties id desk c at_desk at_c).round) refl (λ p other. refl)) rescan)

-- ---- rounds that do not begin
-- two lists as long as each other have the same places
place_of_both : {A B : Type 0} (xs : List A) (ys : List B) (place : ℕ) (x : A) → length xs ≡ length ys → IsAt xs place x → (y : B) × IsAt ys place y
place_of_both [] ys place x same at = absurd (cc at)
place_of_both (each ∷ xs) [] place x same at = absurd (cc same)
place_of_both (each ∷ xs) (y ∷ ys) zero x same at = (y, refl)
place_of_both (each ∷ xs) (y ∷ ys) (suc place) x same at = place_of_both xs ys place x (omega (arith, same)) at

-- the caller is told why: its desk stays as it is
pub begin_stays_safe : {S V : Type 0} (old : View S V) (id : ℕ) (caller : CallerView) (call : CallView) (told : Answer) (new : View S V) → IsSound old → IsAt old.callers id caller → caller.call ≡ Some call
    → ((desk : DeskView V) → IsAt old.desks id desk → desk.round ≡ None) → new ≡ with_call old id caller (over call told) → IsSound new
begin_stays_safe {S} {V} old id caller call told new was at_caller is_open idle view =
    let next : CallerView = record caller { call = Some (over call told) } in
    let its = place_of_both old.callers old.desks id caller (was.callers ∙ sym was.desks) at_caller in
    subst IsSound (sym view) (safe_but old (with_call old id caller (over call told)) id was (caller_low old id caller was at_caller) (changes_caller old id next old.flow old.marks was refl (λ p other. refl) (omega arith))
    (λ desk c at_desk at_c. subst (λ (x : CallerView). IsPartySafe (era_at old id) (length old.marks) id desk x (queue_at old.flow id)) (sym (own_set old.callers id next c at_c))
    (let party = was.parties id desk caller at_desk at_caller in
    party_idle (era_at old id) (length old.marks) id desk next (queue_at old.flow id) party.same_id (idle desk at_desk) (idle_at (era_at old id) caller (queue_at old.flow id) desk.round (idle desk at_desk) party.round).none_waits
    party.number party.cached (λ other is. subst (λ (x : CallView). 0 < x.reserved) (some_is is) (omega arith)) (omega arith)))
    (omega (arith, was.room, ap reserved_in is_open, reserved_set old.callers id caller next at_caller, call_reserves_at old id caller call its.0 was at_caller is_open its.1)))

-- no frame of a proposer waits where its desk has no open round
pub none_waits_at : {S V : Type 0} (old : View S V) (id : ℕ) (caller : CallerView) (desk : DeskView V) → IsSound old → IsAt old.callers id caller → IsAt old.desks id desk → desk.round ≡ None → (queue_at old.flow id).messages ≡ []
none_waits_at old id caller desk was at_caller at_desk none = (idle_at (era_at old id) caller (queue_at old.flow id) desk.round none (was.parties id desk caller at_desk at_caller).round).none_waits

-- the desk has drawn its last ballot
pub begin_spent_safe : {S V : Type 0} (old : View S V) (id : ℕ) (caller : CallerView) (call : CallView) (desk now : DeskView V) (new : View S V) → IsSound old → IsAt old.callers id caller → caller.call ≡ Some call
    → IsAt old.desks id desk → desk.round ≡ None → now ≡ record desk { vault = now.vault } → new ≡ with_call (with_desk old id now) id caller (over call answer.Spent) → IsSound new
begin_spent_safe {S} {V} old id caller call desk now new was at_caller is_open at_desk none is_now view =
    subst IsSound (sym view) (over_safe old id caller call desk now answer.Spent was at_caller is_open at_desk (ap (λ (d : DeskView V). d.id) is_now) (ap (λ (d : DeskView V). d.round) is_now ∙ none)
    (subst AreFit (sym (ap (λ (d : DeskView V). d.cache) is_now))) (none_waits_at old id caller desk was at_caller at_desk none))

-- ---- rounds that do not begin, or end
-- the desk's vault fails in a draw
pub fails_safe : {S V : Type 0} (m : Meaning S V) (old : View S V) (id : ℕ) (caller : CallerView) (call : CallView) (key : List ℕ) (desk now : DeskView V) (told : Answer) (new : View S V) → IsSound old → IsAt old.callers id caller → caller.call ≡ Some call
    → IsAt old.desks id desk → (queue_at old.flow id).messages ≡ [] → FailsToDraw m.disks (without key desk.cache) desk now → new ≡ with_call (with_desk old id now) id caller (over call told)
    → IsSound new
fails_safe {S} {V} m old id caller call key desk now told new was at_caller is_open at_desk waits by view =
    subst IsSound (sym view) (over_safe old id caller call desk now told was at_caller is_open at_desk (ap (λ (d : DeskView V). d.id) by.desk) (ap (λ (d : DeskView V). d.round) by.desk)
    (fit_fewer key desk.cache now.cache (failed_without m.disks key desk now by)) waits)

-- no memory is found
pub loses_safe : {S V : Type 0} (m : Meaning S V) (old : View S V) (id : ℕ) (caller : CallerView) (call : CallView) (key : List ℕ) (desk now : DeskView V) (ballot : Option Ballot) (told : Answer) (new : View S V) → IsSound old → IsAt old.callers id caller → caller.call ≡ Some call
    → IsAt old.desks id desk → (queue_at old.flow id).messages ≡ [] → LosesMemory m.disks key desk now ballot → new ≡ with_call (with_desk old id now) id caller (over call told) → IsSound new
loses_safe {S} {V} m old id caller call key desk now ballot told new was at_caller is_open at_desk waits by view =
    subst IsSound (sym view) (over_safe old id caller call desk now told was at_caller is_open at_desk (ap (λ (d : DeskView V). d.id) by.desk) (ap (λ (d : DeskView V). d.round) by.desk)
    (fit_fewer key desk.cache now.cache by.cache) waits)

-- it ends without a promise
pub ends_safe : {S V : Type 0} (m : Meaning S V) (old : View S V) (id : ℕ) (caller : CallerView) (call : CallView) (desk now : DeskView V) (round : Round) (told : Answer) (new : View S V) → IsSound old → IsAt old.callers id caller → caller.call ≡ Some call
    → IsAt old.desks id desk → (queue_at old.flow id).messages ≡ [] → EndsRound m.disks desk now round None → new ≡ with_call (with_desk old id now) id caller (over call told) → IsSound new
ends_safe {S} {V} m old id caller call desk now round told new was at_caller is_open at_desk waits by view =
    subst IsSound (sym view) (over_safe old id caller call desk now told was at_caller is_open at_desk (ap (λ (d : DeskView V). d.id) by.desk) (ap (λ (d : DeskView V). d.round) by.desk)
    (fit_fewer round.key desk.cache now.cache (inr (ap (λ (d : DeskView V). d.cache) by.desk))) waits)

-- the promise that a round offers is within its limits, and so is each that its cache holds then
offered_fit : (round : Round) (ride : Option Ballot) (state : State) (by : List ℕ) → ((ballot : Ballot) → ride ≡ Some ballot → FitsBallot ballot) → (ready : Ready) → offered_by round ride state by ≡ Some ready → FitsBallot ready.ballot
offered_fit round None state by fits ready e = absurd (cc e)
offered_fit round (Some ride) state by fits ready e = subst (λ (r : Ready). FitsBallot r.ballot) (some_is e) (fits ride refl)

fit_after : (round : Round) (offered : Option Ready) (cache : List (List ℕ × Ready)) → ((ready : Ready) → offered ≡ Some ready → FitsBallot ready.ballot) → AreFit cache → AreFit (cache_after round offered cache)
fit_after round offered cache fits were key ready h = by_entry (kept_or_held round offered cache (key, ready) h)
  where
    by_entry : IsKeptOr round offered cache (key, ready) → FitsBallot ready.ballot
    by_entry (kept other is keep same) = subst (λ (entry : List ℕ × Ready). FitsBallot entry.1.ballot) same (fits other is)
    by_entry (held before) = were key ready before

-- it ends with a mark, and the promise that it offers may be kept
pub counted_safe : {S V : Type 0} (m : Meaning S V) (old : View S V) (id : ℕ) (caller : CallerView) (call : CallView) (desk now : DeskView V) (round : Round) (state : State) (by_whom : List ℕ) (told : Answer) (mark : Mark) (new : View S V) → IsSound old
    → IsAt old.callers id caller → caller.call ≡ Some call → IsAt old.desks id desk → desk.round ≡ Some round → (queue_at old.flow id).messages ≡ [] → EndsRound m.disks desk now round (offered_by round round.ride state by_whom)
    → new ≡ with_marks (with_call (with_desk old id now) id caller (over call told)) (mark ∷ []) → IsSound new
counted_safe {S} {V} m old id caller call desk now round state by_whom told mark new was at_caller is_open at_desk has_round waits by view =
    let safe : IsOpenSafe (era_at old id) caller (queue_at old.flow id) round = subst (IsRoundSafe (era_at old id) caller (queue_at old.flow id)) has_round (was.parties id desk caller at_desk at_caller).round in
    subst IsSound (sym view) (call_idles old id caller (record caller { call = Some (over call told) }) desk now old.flow (old.marks ++ mark ∷ []) was at_caller at_desk
    (ap (λ (d : DeskView V). d.id) by.desk) (ap (λ (d : DeskView V). d.round) by.desk)
    (λ were. subst AreFit (sym (ap (λ (d : DeskView V). d.cache) by.desk))
    (fit_after round (offered_by round round.ride state by_whom) desk.cache (offered_fit round round.ride state by_whom safe.ride) were)) refl
    (λ other is. subst (λ (c : CallView). 0 < c.reserved) (some_is is) (omega arith)) waits refl (λ p other. refl) (more_by old.marks (mark ∷ []))
    (omega (arith, length-append old.marks (mark ∷ []), ap reserved_in is_open, ap reserved_in safe.is_open, reserves_one (era_at old id) caller (queue_at old.flow id) round safe (was.prep_sets id) (was.acc_sets id))))
