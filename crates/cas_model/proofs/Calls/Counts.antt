-- What was proposed is counted, and a call ends; a desk is up again.
use Rattle.std.proofs.Common.{◌≡◌, ℕ, true, List, [], Option, None, Some, refl, sym, ap, subst, ◌∙◌, inl, inr}
use Rattle.std.specs.Prelude.{◌⊎◌, ◌&&◌, not}
use Rattle.cas_base.proofs.Bools.{and_right}
use Rattle.cas_ballot.specs.declared.ballot.Ballot.{Ballot}
use Rattle.cas_ballot.proofs.BallotLemmas.{at_most_of_less}
use Rattle.cas_cache.specs.declared.ready.Ready.{Ready}
use Rattle.cas_change.specs.declared.outcome.Outcome.{Outcome}
use Rattle.cas_change.specs.declared.state.State.{State}
use Rattle.cas_flow.specs.Flow.{queue_at, abandoned, all_joined}
use Rattle.cas_flow.specs.declared.message.Message.{Message}
use Rattle.cas_proposer.specs.Desk.{DeskView, cache_after}
use Rattle.cas_proposer.specs.Round.{is_preparing, has_quorum, may_keep, is_own, IsAccept, IsConfirmersOf}
use Rattle.cas_proposer.specs.declared.round.OpenPhase.{OpenPhase}
use Rattle.cas_proposer.specs.declared.round.OpenPhase.TheVariants.{Prepare, Accept}
use Rattle.cas_proposer.specs.declared.round.Round.{Round}
use Rattle.cas_quorum.specs.declared.era.Era.{Era}
use Rattle.cas_quorum.specs.Era.{holds_prep, holds_acc}
use Rattle.cas_round.specs.Replies.{accepters_of}
use Rattle.cas_slot.specs.declared.message.Reply.{Reply}
use Rattle.cas_record.specs.declared.answer.Answer.{Answer}
use Rattle.cas_record.specs.declared.answer.Answer.TheVariants as answer
use Rattle.cas_record.specs.declared.mark.Acknowledgment.{Acknowledgment}
use Rattle.cas_record.specs.declared.mark.Mark.TheVariants.{Acked, Ended}
use Rattle.cas_record.specs.Logs.Happening.{Happening, Marked, marks_of}
use Rattle.cas_record.specs.Logs.Lawful.{Cluster, ClusterMeets}
use Rattle.cas_record.specs.Legal.{IsBegun, IsEnded, IsAcked}
use Rattle.cas_record.specs.Places.{here}
use Rattle.cas_record.proofs.PlaceLemmas.{newest_or}
use Rattle.cas_record.proofs.Logs.Lemmas.{mark_at}
use Rattle.cas_model.specs.Parties.{AreMessagesTrue, IsEraOf, ArePromisesHeld, IsHeldReady, HaveOneEach, IsAcceptTrue, IsDeskTrue, IsDoneTrue, IsToldTrue, IsCallTrue, AreEnded, IsCallerTrue}
use Rattle.cas_protocol.specs.Protocol.{Made, GlobalState, HasHistory, Counts, EndsDone, EndsElse, with_mark}
use Rattle.cas_model.specs.Calls.Step.{offered_by, over, with_call}
use Rattle.cas_model.specs.Calls.Desks.{EndsRound}
use Rattle.cas_model.specs.View.{Meaning, View, CallView, CallerView, IsAt, with_desk, with_caller, era_at}
use Rattle.cas_model.proofs.Around.{Whole, around, around_more, settles, leaves_both}
use Rattle.cas_model.proofs.Calls.Caches.{IsKeptOr, kept, held, kept_or_held, one_after}
use Rattle.cas_model.proofs.Calls.Draws.{vault_goes_on}
use Rattle.cas_model.proofs.Calls.Ends.{IsDeskQuiet, quiet_true, quiet_ends, quiets, call_told, none_left, others_left, all_joined_true}
use Rattle.cas_protocol.proofs.Events.{keeps}
use Rattle.cas_model.proofs.Others.{LeavesCalls, vault_still, messages_still, caller_still, ended_later}
use Rattle.cas_model.proofs.Places.{own_set, some_is, contains_none}
use Rattle.cas_model.proofs.Calls.Rounds.{all_replied}
use Rattle.cas_model.proofs.Calls.Steps.{IsMild, ready_mild}

-- ---- an acknowledgment
acked_mild : (a : Acknowledgment) → IsMild (Marked (Acked a))
acked_mild a = (λ k b p now. absurd (cc now), (λ k f s now. absurd (cc now), λ k b r request e asked state now. absurd (cc now)))

acked_calls : (a : Acknowledgment) (id : ℕ) → LeavesCalls (Marked (Acked a)) id
acked_calls a id = record { begins = λ n k p now. absurd (cc now); ends = λ n r x now. absurd (cc now); proposes = λ p now. absurd (cc now) }

accepted_quorum : (era : Era) (ballot : Ballot) (replies : List Reply) (phase_is : OpenPhase) → IsAccept era ballot replies phase_is → has_quorum phase_is ≡ true → holds_acc era (accepters_of ballot replies) ≡ true
accepted_quorum era ballot replies (Prepare p) is quorum = absurd is
accepted_quorum era ballot replies (Accept p) is quorum = ap (λ (e : Era). holds_acc e (accepters_of ballot replies)) (sym is.same_era) ∙ ap (λ (by : List ℕ). holds_acc p.era by) (sym is.tally.confirmed) ∙ quorum

-- the promise that a round offers, where its ballot rode along
offered_is : (round : Round) (ride : Option Ballot) (state : State) (by : List ℕ) (ready : Ready) → offered_by round ride state by ≡ Some ready
    → (r : Ballot) × ((ride ≡ Some r) × (record { ballot = r; state = state; read = round.ballot; by = by } ≡ ready))
offered_is round None state by ready e = absurd (cc e)
offered_is round (Some r) state by ready e = (r, (refl, some_is e))

-- what the round offers is held: a prepare quorum accepted it
keeps_promise : (cluster : Cluster) (log : List Happening) (all : List Made) (id number : ℕ) (call : CallView) (waiting : List Message) (round : Round) (outcome : Outcome) (by : List ℕ) (r : Ballot)
    → IsAcceptTrue log all id number call waiting round → round.ballot.proposer ≡ id → IsEraOf cluster round.era → call.proposed ≡ Some outcome → IsConfirmersOf round by → round.ride ≡ Some r
    → may_keep round (record { ballot = r; state = outcome.state; read = round.ballot; by = by }) ≡ true
    → IsHeldReady cluster log all id round.era.number round.key (record { ballot = r; state = outcome.state; read = round.ballot; by = by })
keeps_promise cluster log all id number call waiting round outcome by r of own era proposed confirmers rides keep =
    let ride = of.ride r rides in record {
      in_hand = ride.in_hand;
      own_read = own;
      drawn = of.drawn;
      made = record { made = of.made; stands = of.stands; same_key = of.same_key; same_ballot = of.same_ballot; same_era = of.same_era; same_state = ap (λ (o : Outcome). o.state) (some_is (sym of.proposed ∙ proposed)) };
      replies = of.replies;
      replied = of.replied;
      accepted_by = confirmers.accept of.prepared of.replies of.accepting;
      quorum = era.prepares by ∙ and_right ((not (is_preparing round.phase) && has_quorum round.phase) && is_own round (record { ballot = r; state = outcome.state; read = round.ballot; by = by })) (holds_prep round.era by) keep;
      above = ride.above;
      rides = ride.all;
      over_floors = λ floor has. at_most_of_less (of.above_floors.above has.stands);
    }

pub counts : {S V : Type 0} (m : Meaning S V) (cluster : Cluster) (global : GlobalState) (old : View S V) (id : ℕ) (caller : CallerView) (call : CallView) (desk now : DeskView V) (round : Round) (outcome : Outcome) (by : List ℕ) → m.disks.tells
    → IsAt old.callers id caller → caller.call ≡ Some call → IsAt old.desks id desk → (queue_at old.flow id).messages ≡ [] → round.ballot.proposer ≡ id → round.era.number ≡ (era_at old id).number → IsEraOf cluster round.era
    → IsAcceptTrue global.log global.made id caller.number call (queue_at old.flow id).messages round → has_quorum round.phase ≡ true → IsConfirmersOf round by → call.proposed ≡ Some outcome
    → EndsRound m.disks desk now round (offered_by round round.ride outcome.state by) → Whole m cluster global old
    → Whole m cluster (with_mark global (Marked (Acked (record { key = round.key; ballot = round.ballot; era = round.era.number; by = by }))))
    (with_call (with_desk old id now) id caller (over call (answer.Done outcome.state outcome.took round.ballot)))
counts {S} {V} m cluster global old id caller call desk now round outcome by tells at_caller is_open at_desk none own same_era era accept quorum confirmers proposed ends whole =
    quiets m cluster after old id caller (over call (answer.Done outcome.state outcome.took round.ballot)) now old.flow
    (around_more m cluster global.log global.kept global.made old id h (λ p other. tt, λ a. tt) (λ request now. absurd (cc now)) (around m cluster global old id whole) history) was
    (call_told after.log global.made id caller.number call (answer.Done outcome.state outcome.took round.ballot) call.is_closed 1 (was.call call is_open) done) quiet none (λ p other. refl) (messages_still h global.log old.flow.late whole.parties.late)
  where
    a : Acknowledgment
    a = record { key = round.key; ballot = round.ballot; era = round.era.number; by = by }

    h : Happening
    h = Marked (Acked a)

    after : GlobalState
    after = with_mark global h

    of : IsDeskTrue m cluster global.log global.made (era_at old id).number id caller (queue_at old.flow id).messages desk
    of = whole.parties.desks id tt desk caller at_desk at_caller

    by_is : by ≡ accepters_of round.ballot accept.replies
    by_is = confirmers.accept accept.prepared accept.replies accept.accepting

    history : HasHistory cluster after
    history = keeps cluster whole.meets global whole.history (Counts a (record {
      proposed = record {
        drawn = accept.drawn;
        proposal = accept.made.proposal;
        proposed = let made_of = whole.history.knows.made accept.made accept.stands in record { older = marks_of made_of.older; at = mark_at made_of.at };
        same_key = accept.same_key;
        same_ballot = accept.same_ballot;
        same_era = accept.same_era;
      };
      replies = accept.replies;
      replied = all_replied global.log accept.replies accept.replied;
      by = by_is;
      quorum = era.accepts by ∙ ap (λ (x : List ℕ). holds_acc round.era x) by_is ∙ accepted_quorum round.era round.ballot accept.replies round.phase accept.accepting.phase quorum;
    }))

    was : IsCallerTrue after.log global.made id caller
    was = caller_still h global.log global.made caller (acked_calls a id) (whole.parties.callers id tt caller at_caller)

    done : IsDoneTrue after.log global.made id caller.number outcome.state outcome.took round.ballot
    done = record {
      made = accept.made;
      stands = accept.stands;
      same_caller = accept.same_caller;
      same_call = accept.same_call;
      same_ballot = accept.same_ballot;
      own = own;
      same_outcome = some_is (sym accept.proposed ∙ proposed);
      acked = record { acknowledgment = a; stands = record { older = marks_of global.log; at = here }; same_key = sym accept.same_key; same_ballot = refl };
    }

    held_ready : ArePromisesHeld cluster global.log global.made id (era_at old id).number (cache_after round (offered_by round round.ride outcome.state by) desk.cache)
    held_ready key ready has_it = by_case (kept_or_held round (offered_by round round.ride outcome.state by) desk.cache (key, ready) has_it)
      where
        by_case : IsKeptOr round (offered_by round round.ride outcome.state by) desk.cache (key, ready) → IsHeldReady cluster global.log global.made id (era_at old id).number key ready
        by_case (kept one offers keep same) =
            let is = offered_is round round.ride outcome.state by one offers in
            let promise = keeps_promise cluster global.log global.made id caller.number call (queue_at old.flow id).messages round outcome by is.0 accept own era proposed confirmers is.1.0
            (subst (λ (x : Ready). may_keep round x ≡ true) (sym is.1.1) keep) in
            subst (λ (e : List ℕ × Ready). IsHeldReady cluster global.log global.made id (era_at old id).number e.0 e.1) same
            (subst (IsHeldReady cluster global.log global.made id (era_at old id).number round.key) is.1.1
            (subst (λ (e : ℕ). IsHeldReady cluster global.log global.made id e round.key (record { ballot = is.0; state = outcome.state; read = round.ballot; by = by })) same_era promise))
        by_case (held h) = of.cached key ready h

    quiet : IsDeskQuiet m cluster after.log global.made id (era_at old id).number now
    quiet = record {
      same_id = ap (λ (d : DeskView V). d.id) ends.desk ∙ of.same_id;
      known = of.known;
      vault = vault_still m h global.log (λ b k e same x. absurd (cc same)) (λ e same. absurd (cc same)) (λ k f s same. absurd (cc same)) (λ request same own. absurd (cc same)) (vault_goes_on m global.log id (era_at old id).number tells ends.goes_on of.vault);
      cached = ready_mild cluster h global.log global.made id (era_at old id).number now.cache (acked_mild a)
          (subst (ArePromisesHeld cluster global.log global.made id (era_at old id).number) (sym (ap (λ (d : DeskView V). d.cache) ends.desk)) held_ready);
      one_each = subst HaveOneEach (sym (ap (λ (d : DeskView V). d.cache) ends.desk)) (one_after round (offered_by round round.ride outcome.state by) desk.cache of.one_each);
      none_open = ap (λ (d : DeskView V). d.round) ends.desk;
    }

-- ---- a call ends
ended_mild : (id number rounds : ℕ) (told : Answer) → IsMild (Marked (Ended id number rounds told))
ended_mild id number rounds told = (λ k b p now. absurd (cc now), (λ k f s now. absurd (cc now), λ k b r request e asked state now. absurd (cc now)))

-- the mark of a call that was told so may be made
ended_history : (cluster : Cluster) (global : GlobalState) (id number rounds : ℕ) (key : List ℕ) (told : Answer) → ClusterMeets cluster → HasHistory cluster global → IsBegun id number key (marks_of global.log) → (IsEnded id number (marks_of global.log) → ⊥)
    → IsToldTrue global.log global.made id number told → HasHistory cluster (with_mark global (Marked (Ended id number rounds told)))
ended_history cluster global id number rounds key (answer.Done state took ballot) meets history begun open_yet is =
    let same : (made : Made) → made.proposal.caller ≡ id → made.proposal.call ≡ number → made.proposal.ballot ≡ ballot → made.outcome ≡ record { state = state; took = took }
    → HasHistory cluster (with_mark global (Marked (Ended made.proposal.caller made.proposal.call rounds (answer.Done made.outcome.state made.outcome.took made.proposal.ballot))))
    → HasHistory cluster (with_mark global (Marked (Ended id number rounds (answer.Done state took ballot)))) =
    λ made caller call at outcome was.
    subst (λ (b : Ballot). HasHistory cluster (with_mark global (Marked (Ended id number rounds (answer.Done state took b))))) at
    (subst (λ (o : Outcome). HasHistory cluster (with_mark global (Marked (Ended id number rounds (answer.Done o.state o.took made.proposal.ballot))))) outcome
    (subst (λ (n : ℕ). HasHistory cluster (with_mark global (Marked (Ended id n rounds (answer.Done made.outcome.state made.outcome.took made.proposal.ballot))))) call
    (subst (λ (c : ℕ). HasHistory cluster (with_mark global (Marked (Ended c made.proposal.call rounds (answer.Done made.outcome.state made.outcome.took made.proposal.ballot))))) caller was))) in
    same is.made is.same_caller is.same_call is.same_ballot is.same_outcome (keeps cluster meets global history (EndsDone is.made rounds is.stands
    (subst (λ (b : Ballot). IsAcked is.made.proposal.key b (marks_of global.log)) (sym is.same_ballot) is.acked)
    (λ ended. open_yet (subst (λ (n : ℕ). IsEnded id n (marks_of global.log)) is.same_call (subst (λ (c : ℕ). IsEnded c is.made.proposal.call (marks_of global.log)) is.same_caller ended)))))
ended_history cluster global id number rounds key told meets history begun open_yet is =
    keeps cluster meets global history (EndsElse id number rounds told (record {
      first = record { key = key; begun = begun; once = open_yet };
      not_done = refl;
      refused = is.refused;
      unsettled = is.unsettled;
      harmed = is.harmed;
    }))

-- a desk whose round was closed for the end of its call
closed_quiet : {S V : Type 0} (m : Meaning S V) (cluster : Cluster) (log : List Happening) (all : List Made) (id era : ℕ) (caller : CallerView) (waiting : List Message) (desk now : DeskView V) → m.disks.tells
    → IsDeskTrue m cluster log all era id caller waiting desk → ((desk.round ≡ None) × (now ≡ desk)) ⊎ ((round : Round) × (desk.round ≡ Some round) × EndsRound m.disks desk now round None) → IsDeskQuiet m cluster log all id era now
closed_quiet m cluster log all id era caller waiting desk now tells of (inl idle) = subst (IsDeskQuiet m cluster log all id era) (sym idle.1)
    (record { same_id = of.same_id; known = of.known; vault = of.vault; cached = of.cached; one_each = of.one_each; none_open = idle.0 })
closed_quiet m cluster log all id era caller waiting desk now tells of (inr closes) = quiet_ends m cluster log all id era caller waiting desk now closes.0 tells of closes.2

pub ends_call : {S V : Type 0} (m : Meaning S V) (cluster : Cluster) (global : GlobalState) (old : View S V) (id : ℕ) (caller : CallerView) (call : CallView) (told : Answer) (desk now : DeskView V) → m.disks.tells
    → IsAt old.callers id caller → caller.call ≡ Some call → call.told ≡ Some told → IsAt old.desks id desk
    → ((desk.round ≡ None) × (now ≡ desk)) ⊎ ((round : Round) × (desk.round ≡ Some round) × EndsRound m.disks desk now round None) → Whole m cluster global old
    → Whole m cluster (with_mark global (Marked (Ended id caller.number call.rounds told))) (record (with_caller (with_desk old id now) id (record caller { call = None })) { flow = abandoned old.flow id })
ends_call {S} {V} m cluster global old id caller call told desk now tells at_caller is_open is_told at_desk closed whole =
    settles m cluster after old (record (with_caller (with_desk old id now) id (record caller { call = None })) { flow = abandoned old.flow id }) id
    (around_more m cluster global.log global.kept global.made old id h (λ p other same. other (sym same), λ a. tt) (λ request now. absurd (cc now)) (around m cluster global old id whole) history)
    (leaves_both old id now (record caller { call = None }) _ _ (others_left old.flow id))
    (record {
      desk = λ d c at_d at_c.
          subst (λ (x : DeskView V). IsDeskTrue m cluster after.log global.made era id c (queue_at (abandoned old.flow id) id).messages x) (sym (own_set old.desks id now d at_d))
          (quiet_true m cluster after.log global.made id era c (queue_at (abandoned old.flow id) id).messages now (none_left old.flow id) quiet_after);
      caller = λ c at_c. subst (IsCallerTrue after.log global.made id) (sym (own_set old.callers id (record caller { call = None }) c at_c))
          (record { number = was.number; call = λ x none. absurd (cc none); ended = ended_now });
      own = subst (AreMessagesTrue after.log) (sym (none_left old.flow id)) (λ each has_it. absurd (contains_none has_it));
      late = messages_still h global.log (all_joined old.flow.late (queue_at old.flow id).messages) (all_joined_true global.log (queue_at old.flow id).messages old.flow.late (whole.parties.own id) whole.parties.late);
    })
  where
    era : ℕ
    era = (era_at old id).number

    h : Happening
    h = Marked (Ended id caller.number call.rounds told)

    after : GlobalState
    after = with_mark global h

    was : IsCallerTrue global.log global.made id caller
    was = whole.parties.callers id tt caller at_caller

    call_true : IsCallTrue global.log global.made id caller.number call
    call_true = was.call call is_open

    ended_now : AreEnded after.log id caller.number None
    ended_now number is = elim (newest_or is.stands) [
      | inl now_is ↦ absurd (cc now_is)
      | inr before ↦ elim (was.ended number (record { proposal = is.proposal; stands = before; same_caller = is.same_caller; same_call = is.same_call })) [
        | inl open_ ↦ inr (subst (λ (n : ℕ). IsEnded id n (marks_of after.log)) (sym open_.1) (record { rounds = call.rounds; answer = told; stands = record { older = marks_of global.log; at = here } }))
        | inr was_ended ↦ inr (ended_later h global.log was_ended)
      ]
    ]

    history : HasHistory cluster after
    history = ended_history cluster global id caller.number call.rounds call.key told whole.meets whole.history (record { program = call.program; stands = call_true.begun }) call_true.open_yet (call_true.told told is_told)

    quiet : IsDeskQuiet m cluster global.log global.made id era now
    quiet = closed_quiet m cluster global.log global.made id era caller (queue_at old.flow id).messages desk now tells (whole.parties.desks id tt desk caller at_desk at_caller) closed

    quiet_after : IsDeskQuiet m cluster after.log global.made id era now
    quiet_after = record {
      same_id = quiet.same_id;
      known = quiet.known;
      vault = vault_still m h global.log (λ b k e same x. absurd (cc same)) (λ e same. absurd (cc same)) (λ k f s same. absurd (cc same)) (λ request same own. absurd (cc same)) quiet.vault;
      cached = ready_mild cluster h global.log global.made id era now.cache (ended_mild id caller.number call.rounds told) quiet.cached;
      one_each = quiet.one_each;
      none_open = quiet.none_open;
    }
