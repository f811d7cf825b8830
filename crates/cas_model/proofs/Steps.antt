-- Whatever is called on a cluster, one that is logged is logged after it.
use Rattle.std.proofs.Common.{◌≡◌, ℕ, true, false, List, [], ◌∷◌, Option, None, Some, refl, sym, ap, subst, ◌∙◌, inl, inr, arith}
use Rattle.std.specs.Prelude.{◌⊎◌, is_some}
use Rattle.cas_ballot.specs.declared.ballot.Ballot.{Ballot}
use Rattle.cas_change.specs.declared.outcome.Outcome.{Outcome}
use Rattle.cas_flow.specs.Flow.{queue_at, abandoned}
use Rattle.cas_flow.specs.declared.message.Message.{Message}
use Rattle.cas_proposer.specs.Round.{is_preparing, IsPrepare, IsAccept, IsAccepting}
use Rattle.cas_proposer.specs.declared.round.OpenPhase.{OpenPhase}
use Rattle.cas_proposer.specs.declared.round.OpenPhase.TheVariants.{Prepare, Accept}
use Rattle.cas_proposer.specs.declared.round.Round.{Round}
use Rattle.cas_quorum.specs.declared.era.Era.{Era}
use Rattle.cas_slot.specs.declared.message.Reply.{Reply}
use Rattle.cas_slot.specs.Slot.{accepted_ballot}
use Rattle.cas_vault.specs.Vault.{kept_of}
use Rattle.cas_record.specs.declared.answer.Answer.{Answer}
use Rattle.cas_record.specs.declared.answer.Answer.TheVariants as answer
use Rattle.cas_record.specs.declared.mark.Mark.TheVariants.{Proposed, Acked, Ended}
use Rattle.cas_record.specs.Logs.Happening.{Marked, Happening, marks_of}
use Rattle.cas_protocol.specs.Protocol.{with_mark, Made, is_done}
use Rattle.cas_record.specs.Logs.Lawful.{Cluster}
use Rattle.cas_model.specs.History.{IsLogged}
use Rattle.cas_model.specs.Parties.{IsPrepareTrue, IsAcceptTrue, IsRoundTrue, IsOpenTrue, IsCallTrue}
use Rattle.cas_model.specs.Step as step
use Rattle.cas_model.specs.Step.{Step, StepEnd, StepCrashAcceptor, StepRestartAcceptor, OpenRoundAt}
use Rattle.cas_model.specs.Calls.Step as calls
use Rattle.cas_model.specs.Calls.Step.{BeginsRound, RefusesCall, ProposesOrEnds, CountsOrEnds, Rescans, over, with_call}
use Rattle.cas_model.specs.Exchanges.Step.{with_council}
use Rattle.cas_model.specs.View.{Meaning, View, CallView, CallerView, IsAt, with_acceptor, with_desk, with_caller, era_at}
use Rattle.cas_model.proofs.Frames.Acceptors as acceptor
use Rattle.cas_model.specs.Calls.Desks.{Crashes}
use Rattle.cas_model.proofs.Around.{whole_of, logged}
use Rattle.cas_model.proofs.Calls.Asks.{asked_marks}
use Rattle.cas_model.proofs.Calls.Beginnings.{begins_to_prepare, prepare_request}
use Rattle.cas_model.specs.Collection.Logged.{IsCollectingTrue, AreRenewed}
use Rattle.cas_model.specs.Council.{Council, Probe, NextKeys, NewAges, Removal}
use Rattle.cas_model.proofs.Eras.InEras.{IsPlain}
use Rattle.cas_model.proofs.Collection.Renewals.{of_one, opens_renewed, rescan_collection}
use Rattle.cas_model.specs.Eras.Listed.{IsPlanTrue, AreUsed}
use Rattle.cas_model.proofs.Exchanges.Steps as council
use Rattle.cas_model.proofs.Calls.Steps.{anew, opens, marked}
use Rattle.cas_model.proofs.Calls.Counts.{counts, ends_call}
use Rattle.cas_model.proofs.Calls.Draws.{lasts, drew, drew_log, drew_marks}
use Rattle.cas_model.proofs.Calls.Ends.{told_fault, told_spent, told_kept, told_nothing, refusal_told, unsettled_told, call_told, short_prepare, short_accept, told_fails, told_ends, told_loses, lost}
use Rattle.cas_model.proofs.Frames.Steps as frames
use Rattle.cas_model.proofs.Frames.Steps.{moves, turns, refuses_turn, strays, refuses_stray}
use Rattle.cas_model.proofs.Stops.Leaving.{down_logged}
use Rattle.cas_model.proofs.Eras.OnCourse.{Leads}
use Rattle.cas_model.proofs.Places.{some_is}
use Rattle.cas_model.proofs.Calls.Proposals.{accept_requests}
use Rattle.cas_model.proofs.Eras.Rescanning.{rescan_asks, rescan_used, undone_plan, refused_undone}
use Rattle.cas_model.proofs.Calls.Rounds.{none_waits, begins_by_promise, proposes_round}

-- ---- a round begins
begins : {S V : Type 0} {cluster : Cluster} (m : Meaning S V) (old : View S V) (id : ℕ) (caller : CallerView) (call : CallView) (new : View S V) → m.disks.tells → AreRenewed m old → IsAt old.callers id caller → caller.call ≡ Some call → call.proposed ≡ None
    → IsLogged m cluster old → BeginsRound m old id caller call new → IsLogged m cluster new
begins {cluster = cluster} m old id caller call new tells renewed at_caller is_open unproposed is (calls.prepares desk now ballot round flow at_desk up room by sends view) =
    subst (IsLogged m cluster) (sym view) (logged m cluster _ (record (with_desk old id now) { flow = flow })
    (begins_to_prepare m cluster is.global old id caller call desk now ballot round flow tells at_caller is_open unproposed at_desk by sends (of_one m.disks old.council.collection old.desks id desk at_desk renewed) (whole_of m old is))
    (asked_marks (prepare_request id (kept_of desk.vault).age call.key ballot) (era_at old id).prep (drew is.global (Some ballot) call.key (era_at old id).number).log ∙ is.agrees.marks))
begins {cluster = cluster} m old id caller call new tells renewed at_caller is_open unproposed is (calls.proposes desk now ready ride round outcome flow at_desk up room by is_outcome sends view) =
    subst (IsLogged m cluster) (sym view) (logged m cluster _ _
    (begins_by_promise m cluster is.global old id caller call desk now ready ride round outcome flow tells at_caller is_open unproposed at_desk by is_outcome sends (of_one m.disks old.council.collection old.desks id desk at_desk renewed) (whole_of m old is))
    (asked_marks (accept_requests id (kept_of desk.vault).age (record round { ride = ride }) outcome) round.era.acc _
    ∙ marked (marks_of (drew_log ride call.key (era_at old id).number is.global.log)) old.marks (Proposed (calls.proposal_of id caller.number round ready.read ready.by)) (drew_marks is.global.log call.key (era_at old id).number ride ∙ is.agrees.marks)))
begins {cluster = cluster} m old id caller call new tells renewed at_caller is_open unproposed is (calls.stays told nothing idle full view) =
    let was = is.agrees.callers id caller at_caller in
    let call_true = was.call call is_open in
    subst (IsLogged m cluster) (sym view) (logged m cluster is.global (with_call old id caller (over call told))
    (moves m cluster is.global old id caller call (over call told) old.flow at_caller is_open refl refl
    (call_told is.global.log is.global.made id caller.number call told call.is_closed 1 call_true (told_nothing is.global.log is.global.made id caller.number told nothing (call_true.unproposed unproposed)))
    (record { others = λ p other. refl; own = is.agrees.own id; late = is.agrees.late; idle = λ none. none }) (λ round replies heard. heard) (whole_of m old is)) is.agrees.marks)
begins {cluster = cluster} m old id caller call new tells renewed at_caller is_open unproposed is (calls.spent desk now at_desk idle up no_promise spent kept is_now view) =
    let call_true = (is.agrees.callers id caller at_caller).call call is_open in
    subst (IsLogged m cluster) (sym view) (logged m cluster is.global (with_call (with_desk old id now) id caller (over call answer.Spent))
    (told_kept m cluster is.global old id caller call desk now answer.Spent tells at_caller is_open at_desk idle kept.goes_on is_now
    (told_spent is.global.log is.global.made id caller.number (call_true.unproposed unproposed)) (whole_of m old is)) is.agrees.marks)
begins {cluster = cluster} m old id caller call new tells renewed at_caller is_open unproposed is (calls.fails desk now at_desk idle up by view) =
    let call_true = (is.agrees.callers id caller at_caller).call call is_open in
    let of = is.agrees.desks id desk caller at_desk at_caller in
    subst (IsLogged m cluster) (sym view) (logged m cluster is.global (with_call (with_desk old id now) id caller (over call answer.VaultFault))
    (told_fails m cluster is.global old id caller call call.key desk now answer.VaultFault tells at_caller is_open at_desk
    (none_waits cluster is.global.log is.global.made id (era_at old id).number caller (queue_at old.flow id).messages desk.round idle of.round) by
    (told_fault is.global.log is.global.made id caller.number (call_true.unproposed unproposed)) (whole_of m old is)) is.agrees.marks)
begins {cluster = cluster} m old id caller call new tells renewed at_caller is_open unproposed is (calls.loses desk now ballot at_desk idle up by view) =
    let of = is.agrees.desks id desk caller at_desk at_caller in
    subst (IsLogged m cluster) (sym view) (logged m cluster (drew is.global ballot call.key (era_at old id).number) (with_call (with_desk old id now) id caller (over call (answer.NoMemory false)))
    (told_loses m cluster is.global old id caller call call.key desk now ballot tells at_caller is_open unproposed at_desk
    (none_waits cluster is.global.log is.global.made id (era_at old id).number caller (queue_at old.flow id).messages desk.round idle of.round) by (whole_of m old is))
    (drew_marks is.global.log call.key (era_at old id).number ballot ∙ is.agrees.marks))

-- a rescan that is not done changes nothing that the log tells of
undone : {S V : Type 0} {cluster : Cluster} (m : Meaning S V) (old : View S V) (id : ℕ) (key : List ℕ) (told : Answer) (next : Council) → is_done told ≡ false → Rescans old.council id key told next → IsLogged m cluster old → IsLogged m cluster (with_council old next)
undone {cluster = cluster} m old id key told next not_done by is =
    council.counsels_by m old next (rescan_asks old.council id key told next by) is (subst (IsPlanTrue cluster is.global.log) (sym (undone_plan old.council id key told next not_done by)) is.agrees.council.1)
    (subst (AreUsed cluster) (sym (rescan_used old.council id key told next by)) is.agrees.council.2)
    (subst (IsCollectingTrue cluster is.global.log) (sym (rescan_collection old.council id key told next by)) is.agrees.council.3)

refuses : {S V : Type 0} {cluster : Cluster} (m : Meaning S V) (old : View S V) (id : ℕ) (key : List ℕ) (new : View S V) → m.disks.tells → IsLogged m cluster old → RefusesCall m old id key new → IsLogged m cluster new
refuses {cluster = cluster} m old id key new tells is (calls.stays told next why rescan view) = subst (IsLogged m cluster) (sym view) (undone m old id key told next (refused_undone old id told why) rescan is)
refuses {cluster = cluster} m old id key new tells is (calls.loses caller desk now ballot next at_caller at_desk idle up by rescan view) =
    subst (IsLogged m cluster) (sym view) (undone m (with_desk old id now) id key (answer.NoMemory false) next refl rescan (logged m cluster (drew is.global ballot key (era_at old id).number) (with_desk old id now)
    (lost m cluster is.global old id key desk now ballot tells at_desk idle by caller at_caller (whole_of m old is)) (drew_marks is.global.log key (era_at old id).number ballot ∙ is.agrees.marks)))

-- ---- a round goes on
not_accept : (era : Era) (ballot : Ballot) (replies : List Reply) (phase_is : OpenPhase) → IsAccept era ballot replies phase_is → is_preparing phase_is ≡ false
not_accept era ballot replies (Prepare p) is = absurd is
not_accept era ballot replies (Accept p) is = refl

not_prepare : (era : Era) (ballot : Ballot) (replies : List Reply) (phase_is : OpenPhase) → IsPrepare era ballot replies phase_is → is_preparing phase_is ≡ true
not_prepare era ballot replies (Prepare p) is = refl
not_prepare era ballot replies (Accept p) is = absurd is

-- what is known of a round in its prepare phase, and in its accept phase
pub prepare_at : (log : List Happening) (all : List Made) (id number : ℕ) (call : CallView) (waiting : List Message) (round : Round) → is_preparing round.phase ≡ true
    → IsPrepareTrue log id call waiting round ⊎ IsAcceptTrue log all id number call waiting round → IsPrepareTrue log id call waiting round
prepare_at log all id number call waiting round preparing (inl of) = of
prepare_at log all id number call waiting round preparing (inr of) = absurd (cc (preparing, not_accept round.era round.ballot of.replies round.phase of.accepting.phase))

accept_at : (log : List Happening) (all : List Made) (id number : ℕ) (call : CallView) (waiting : List Message) (round : Round) → is_preparing round.phase ≡ false
    → IsPrepareTrue log id call waiting round ⊎ IsAcceptTrue log all id number call waiting round → IsAcceptTrue log all id number call waiting round
accept_at log all id number call waiting round accepting (inl of) = absurd (cc (accepting, not_prepare round.era round.ballot of.replies round.phase of.preparing.phase))
accept_at log all id number call waiting round accepting (inr of) = of

pub round_at : {S V : Type 0} {cluster : Cluster} (m : Meaning S V) (old : View S V) (id : ℕ) (is : IsLogged m cluster old) (at : OpenRoundAt old id)
    → IsRoundTrue cluster is.global.log is.global.made id (era_at old id).number at.of_call.caller (queue_at old.flow id).messages at.round
round_at {cluster = cluster} m old id is at =
    subst (IsOpenTrue cluster is.global.log is.global.made id (era_at old id).number at.of_call.caller (queue_at old.flow id).messages) at.is_open (is.agrees.desks id at.desk at.of_call.caller at.at_desk at.of_call.at_caller).round

-- the call of the round is the caller's
pub call_at : {S V : Type 0} {cluster : Cluster} (m : Meaning S V) (old : View S V) (id : ℕ) (is : IsLogged m cluster old) (at : OpenRoundAt old id) → (round_at m old id is at).call ≡ at.of_call.call
call_at {cluster = cluster} m old id is at = some_is (sym (round_at m old id is at).is_open ∙ at.of_call.is_open)

proposes_or_ends : {S V : Type 0} {cluster : Cluster} (m : Meaning S V) (old : View S V) (id : ℕ) (new : View S V) → m.disks.tells → AreRenewed m old → IsLogged m cluster old → (at : OpenRoundAt old id) → is_preparing at.round.phase ≡ true
    → ProposesOrEnds m old id at.desk at.round at.of_call.caller at.of_call.call new → IsLogged m cluster new
proposes_or_ends {S} {V} {cluster} m old id new tells renewed is at preparing by = by_case by
  where
    caller : CallerView
    caller = at.of_call.caller

    call : CallView
    call = at.of_call.call

    of : IsRoundTrue cluster is.global.log is.global.made id (era_at old id).number caller (queue_at old.flow id).messages at.round
    of = round_at m old id is at

    prepare : IsPrepareTrue is.global.log id call (queue_at old.flow id).messages at.round
    prepare = subst (λ (c : CallView). IsPrepareTrue is.global.log id c (queue_at old.flow id).messages at.round) (call_at m old id is at)
        (prepare_at is.global.log is.global.made id caller.number of.call (queue_at old.flow id).messages at.round preparing of.phase)

    call_true : IsCallTrue is.global.log is.global.made id caller.number call
    call_true = (is.agrees.callers id caller at.of_call.at_caller).call call at.of_call.is_open

    by_case : ProposesOrEnds m old id at.desk at.round caller call new → IsLogged m cluster new
    by_case (calls.proposes now turned read by ride outcome flow quorum confirmers is_read turns is_outcome sends view) =
        subst (IsLogged m cluster) (sym view) (logged m cluster _ _
        (proposes_round m cluster is.global old id caller call at.desk now at.round turned.phase read by ride outcome flow tells at.of_call.at_caller at.of_call.is_open at.at_desk at.is_open at.none_waits prepare
        (of.same_key ∙ ap (λ (c : CallView). c.key) (call_at m old id is at)) of.same_era of.is_era quorum confirmers is_read
        (λ replies preparing_is. subst (IsAccepting replies []) turns.turns.same (turns.turns.accepts replies preparing_is)) turns.drawn (turns.aged tells)
        (turns.desk ∙ ap (λ (r : Round). record at.desk { vault = now.vault; round = Some (record r { ride = ride }) }) turns.turns.same) is_outcome sends (of_one m.disks old.council.collection old.desks id at.desk at.at_desk renewed) (whole_of m old is))
        (asked_marks (accept_requests id (kept_of at.desk.vault).age (record at.round { ride = ride; phase = turned.phase }) outcome) at.round.era.acc _
        ∙ marked (marks_of (drew_log ride at.round.key (era_at old id).number is.global.log)) old.marks (Proposed (calls.proposal_of id caller.number at.round (accepted_ballot read) by)) (drew_marks is.global.log at.round.key (era_at old id).number ride ∙ is.agrees.marks)))
    by_case (calls.ends now how told is_verdict tells_why ends view) =
        subst (IsLogged m cluster) (sym view) (logged m cluster is.global (with_call (with_desk old id now) id caller (over call told))
        (told_ends m cluster is.global old id caller call at.desk now at.round told tells at.of_call.at_caller at.of_call.is_open at.at_desk at.none_waits ends
        (refusal_told is.global.log is.global.made id caller.number how told tells_why (call_true.unproposed prepare.unproposed) (λ got need short. omega (
          arith,
          call_true.harmed,
          short_prepare cluster is.global.log id call at.round how got need is.history.orderly preparing of.is_era
              (subst (λ (l : List Message). IsPrepareTrue is.global.log id call l at.round) at.none_waits prepare) call_true.harmed_set is_verdict short,
        ))) (whole_of m old is)) is.agrees.marks)
    by_case (calls.fails now by view) =
        subst (IsLogged m cluster) (sym view) (logged m cluster is.global (with_call (with_desk old id now) id caller (over call answer.VaultFault))
        (told_fails m cluster is.global old id caller call at.round.key at.desk now answer.VaultFault tells at.of_call.at_caller at.of_call.is_open at.at_desk at.none_waits by
        (told_fault is.global.log is.global.made id caller.number (call_true.unproposed prepare.unproposed)) (whole_of m old is)) is.agrees.marks)
    by_case (calls.loses now ballot by view) =
        subst (IsLogged m cluster) (sym view) (logged m cluster (drew is.global ballot at.round.key (era_at old id).number) (with_call (with_desk old id now) id caller (over call (answer.NoMemory false)))
        (told_loses m cluster is.global old id caller call at.round.key at.desk now ballot tells at.of_call.at_caller at.of_call.is_open prepare.unproposed at.at_desk at.none_waits by (whole_of m old is))
        (drew_marks is.global.log at.round.key (era_at old id).number ballot ∙ is.agrees.marks))

counts_or_ends : {S V : Type 0} {cluster : Cluster} (m : Meaning S V) (old : View S V) (id : ℕ) (new : View S V) → m.disks.tells → IsLogged m cluster old → (at : OpenRoundAt old id) → is_preparing at.round.phase ≡ false
    → CountsOrEnds m old id at.desk at.round at.of_call.caller at.of_call.call new → IsLogged m cluster new
counts_or_ends {S} {V} {cluster} m old id new tells is at accepting by = by_case by
  where
    caller : CallerView
    caller = at.of_call.caller

    call : CallView
    call = at.of_call.call

    of : IsRoundTrue cluster is.global.log is.global.made id (era_at old id).number caller (queue_at old.flow id).messages at.round
    of = round_at m old id is at

    accept : IsAcceptTrue is.global.log is.global.made id caller.number call (queue_at old.flow id).messages at.round
    accept = subst (λ (c : CallView). IsAcceptTrue is.global.log is.global.made id caller.number c (queue_at old.flow id).messages at.round) (call_at m old id is at)
        (accept_at is.global.log is.global.made id caller.number of.call (queue_at old.flow id).messages at.round accepting of.phase)

    call_true : IsCallTrue is.global.log is.global.made id caller.number call
    call_true = (is.agrees.callers id caller at.of_call.at_caller).call call at.of_call.is_open

    by_case : CountsOrEnds m old id at.desk at.round caller call new → IsLogged m cluster new
    by_case (calls.counts now by outcome quorum confirmers proposed ends view) =
        subst (IsLogged m cluster) (sym view) (frames.marked m cluster _ (with_call (with_desk old id now) id caller (over call (answer.Done outcome.state outcome.took at.round.ballot)))
        (Acked (record { key = at.round.key; ballot = at.round.ballot; era = at.round.era.number; by = by }) ∷ []) (marks_of is.global.log)
        (counts m cluster is.global old id caller call at.desk now at.round outcome by tells at.of_call.at_caller at.of_call.is_open at.at_desk at.none_waits of.own of.same_era of.is_era accept quorum confirmers proposed ends (whole_of m old is))
        is.agrees.marks refl)
    by_case (calls.ends now how why is_verdict tells_why ends view) =
        subst (IsLogged m cluster) (sym view) (logged m cluster is.global (with_call (with_desk old id now) id caller (over call (answer.Unsettled why)))
        (told_ends m cluster is.global old id caller call at.desk now at.round (answer.Unsettled why) tells at.of_call.at_caller at.of_call.is_open at.at_desk at.none_waits ends
        (unsettled_told is.global.log is.global.made id caller.number how why tells_why (call_true.proposed (ap (λ (o : Option Outcome). is_some o) accept.proposed)) (λ got need short. omega (
          arith,
          call_true.harmed,
          short_accept cluster is.global.log is.global.made id caller.number call at.round how got need is.history.orderly accepting of.is_era
              (subst (λ (l : List Message). IsAcceptTrue is.global.log is.global.made id caller.number call l at.round) at.none_waits accept) call_true.harmed_set is_verdict short,
        ))) (whole_of m old is)) is.agrees.marks)

-- what is known of the change of membership once the call has ended
pub ends : {S V : Type 0} {cluster : Cluster} (m : Meaning S V) (old : View S V) (id : ℕ) (told : Answer) (new : View S V) → m.disks.tells → (is : IsLogged m cluster old) → (by : StepEnd m old id told new)
    → IsPlanTrue cluster (Marked (Ended id by.of_call.caller.number by.of_call.call.rounds told) ∷ is.global.log) by.ends.council.plan → by.ends.council.exchange ≡ old.council.exchange → IsLogged m cluster new
ends {S} {V} {cluster} m old id told new tells is by plan same =
    let at = by.of_call in
    let mark = Ended id at.caller.number at.call.rounds told in
    let view : View S V = record (with_caller (with_desk old id by.ends.now) id (record at.caller { call = None })) { flow = abandoned old.flow id } in
    let whole = ends_call m cluster is.global old id at.caller at.call told by.ends.desk by.ends.now tells at.at_caller at.is_open by.ends.told by.ends.at_desk by.ends.closed (whole_of m old is) in
    subst (IsLogged m cluster) (sym by.ends.view) (frames.marked m cluster (with_mark is.global (Marked mark)) (record view { council = by.ends.council }) (mark ∷ []) (marks_of is.global.log)
    (council.counsels m cluster (with_mark is.global (Marked mark)) view by.ends.council (λ exchange open_. whole.parties.council.0 exchange (sym same ∙ open_), plan, subst (AreUsed cluster) (sym (rescan_used old.council id at.call.key told by.ends.council by.ends.rescans)) whole.parties.council.2, subst (IsCollectingTrue cluster (Marked (Ended id at.caller.number at.call.rounds told) ∷ is.global.log)) (sym (rescan_collection old.council id at.call.key told by.ends.council by.ends.rescans)) whole.parties.council.3) whole)
    is.agrees.marks refl)

-- ---- stops
crashes_acceptor : {S V : Type 0} {cluster : Cluster} (m : Meaning S V) (old : View S V) (id : ℕ) (new : View S V) → m.shelves.tells → IsLogged m cluster old → StepCrashAcceptor m old id new → IsLogged m cluster new
crashes_acceptor {cluster = cluster} m old id new tells is (step.crashes one now at by view) =
    subst (IsLogged m cluster) (sym view) (logged m cluster is.global (with_acceptor old id now) (acceptor.crashes m cluster is.global old id one now tells at by (whole_of m old is)) is.agrees.marks)

restarts_acceptor : {S V : Type 0} {cluster : Cluster} (m : Meaning S V) (old : View S V) (id : ℕ) (new : View S V) → m.shelves.tells → IsLogged m cluster old → StepRestartAcceptor m old id new → IsLogged m cluster new
restarts_acceptor {cluster = cluster} m old id new tells is (step.was_up one at up view) = subst (IsLogged m cluster) (sym view) is
restarts_acceptor {cluster = cluster} m old id new tells is (step.starts one now at by view) =
    let again = acceptor.starts m cluster is.global old id one now tells at by (whole_of m old is) in
    subst (IsLogged m cluster) (sym view) (logged m cluster again.after (with_acceptor old id now) again.whole (again.marks ∙ is.agrees.marks))
restarts_acceptor {cluster = cluster} m old id new tells is (step.fails one now at by view) =
    subst (IsLogged m cluster) (sym view) (logged m cluster is.global (with_acceptor old id now) (acceptor.fails_to_start m cluster is.global old id one now tells at by (whole_of m old is)) is.agrees.marks)

-- ---- all of them but those that lead on
-- the log goes on with a call, or the call may lead to another era
pub keeps_log : {S V : Type 0} {cluster : Cluster} (m : Meaning S V) (old : View S V) (event : step.Event) (new : View S V) → m.shelves.tells → m.disks.tells → IsPlain event → AreRenewed m old → IsLogged m cluster old → Step m old event new → Leads event ⊎ IsLogged m cluster new
keeps_log m old (step.Begin id key program) new shelves disks plain renewed is by =
    inr (begins m by.middle id by.caller by.call new disks (opens_renewed m old by.middle id key program by.opens renewed) by.at_caller by.is_open (anew old id key program by.middle by.caller by.call by.opens by.at_caller by.is_open).unproposed (opens m old id key program by.middle is by.opens) by.begins)
keeps_log m old (step.RefuseBegin id key) new shelves disks plain renewed is by = inr (refuses m old id key new disks is by)
keeps_log m old (step.Turn id verdict) new shelves disks plain renewed is by = inr (turns m old id verdict new shelves is by)
keeps_log m old (step.RefuseTurn id) new shelves disks plain renewed is by = inr (refuses_turn m old id new shelves is by)
keeps_log m old (step.Propose id) new shelves disks plain renewed is by = inr (proposes_or_ends m old id new disks renewed is by.at_round by.preparing by.proposes)
keeps_log m old (step.Count id) new shelves disks plain renewed is by = inr (counts_or_ends m old id new disks is by.at_round by.accepting by.counts)
keeps_log m old (step.End id told) new shelves disks plain renewed is by = inl tt
keeps_log m old (step.Stray index) new shelves disks plain renewed is by = inr (strays m old index new shelves is by)
keeps_log m old step.RefuseStray new shelves disks plain renewed is by = inr (refuses_stray m old new shelves is by)
keeps_log m old (step.CrashAcceptor id) new shelves disks plain renewed is by = inr (crashes_acceptor m old id new shelves is by)
keeps_log m old (step.RestartAcceptor id) new shelves disks plain renewed is by = inr (restarts_acceptor m old id new shelves is by)
keeps_log m old (step.CrashProposer id) new shelves disks plain renewed is by = inr (down_logged m old id (Crashes m.disks) new (λ desk now crash. (crash.crashed, lasts disks crash.goes_on)) is by)
keeps_log m old (step.RestartProposer id) new shelves disks plain renewed is by = inl tt
keeps_log m old (step.Order asked) new shelves disks plain renewed is by = inr (council.orders m old asked new is by)
keeps_log {cluster = cluster} m old step.RefuseOrder new shelves disks plain renewed is by = inr (subst (IsLogged m cluster) (sym by) is)
keeps_log m old (step.Tell answer) new shelves disks plain renewed is by = inl tt
keeps_log m old (step.AskAll (Probe key)) new shelves disks plain renewed is by = inr (council.asks_all m old (Probe key) new disks is tt by)
keeps_log m old (step.AskAll (NextKeys places)) new shelves disks plain renewed is by = inl tt
keeps_log m old (step.AskAll (NewAges key least)) new shelves disks plain renewed is by = absurd by.may.is_for
keeps_log m old (step.AskAll (Removal key)) new shelves disks plain renewed is by = absurd by.may.is_for
keeps_log m old (step.TurnExchange verdict) new shelves disks plain renewed is by = inr (council.turns_exchange m old verdict new shelves is by)
keeps_log m old step.RefuseTurnExchange new shelves disks plain renewed is by = inr (council.refuses_exchange m old new shelves is by)
keeps_log m old step.Gather new shelves disks plain renewed is by = inl tt
keeps_log {cluster = cluster} m old step.RefuseKey new shelves disks plain renewed is by = inr (subst (IsLogged m cluster) (sym by.view) (council.told_remembered m old _ is))
keeps_log m old step.OpenPlan new shelves disks plain renewed is by = inl tt
keeps_log m old (step.EnterEra id) new shelves disks plain renewed is by = inl tt
keeps_log m old (step.BeginCollect key) new shelves disks plain renewed is by = absurd plain
keeps_log m old step.ReadHeld new shelves disks plain renewed is by = absurd plain
keeps_log m old step.CountCollect new shelves disks plain renewed is by = absurd plain
keeps_log m old (step.EndCollect told) new shelves disks plain renewed is by = absurd plain
keeps_log m old step.GatherRound new shelves disks plain renewed is by = absurd plain
keeps_log m old (step.Renew proposer) new shelves disks plain renewed is by = absurd plain
keeps_log m old step.AskCollect new shelves disks plain renewed is by = absurd plain
keeps_log m old step.GatherCollect new shelves disks plain renewed is by = absurd plain
keeps_log m old step.MakeFloor new shelves disks plain renewed is by = absurd plain
