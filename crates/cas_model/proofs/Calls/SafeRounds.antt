-- A cluster stays safe as rounds propose, are counted and are over.
use Rattle.std.proofs.Common.{◌≡◌, ◌≤◌, ℕ, true, false, List, [], ◌∷◌, ◌++◌, Option, None, Some, refl, sym, ap, subst, ◌∙◌, arith, length-append}
use Rattle.std.specs.Prelude.{◌+◌, ◌*◌, length, map, Contains}
use Rattle.std.proofs.lemmas.List.{length-map}
use Rattle.cas_ballot.specs.declared.ballot.Ballot.{Ballot}
use Rattle.cas_ballot.specs.Ballot.{FitsBallot}
use Rattle.cas_ballot.specs.Members.{has_member, IsMemberSet}
use Rattle.cas_cache.specs.declared.ready.Ready.{Ready}
use Rattle.cas_change.specs.declared.outcome.Outcome.{Outcome}
use Rattle.cas_change.specs.declared.program.Clause.{Clause}
use Rattle.cas_flow.specs.Flow.{FlowView, queue_at}
use Rattle.cas_flow.specs.Queue.{QueueView}
use Rattle.cas_flow.specs.declared.message.Message.{Message}
use Rattle.cas_flow.specs.declared.message.Message.TheVariants as message
use Rattle.cas_proposer.specs.Desk.{DeskView}
use Rattle.cas_proposer.specs.Round.{is_preparing}
use Rattle.cas_proposer.specs.declared.round.OpenPhase.{OpenPhase}
use Rattle.cas_proposer.specs.declared.round.OpenPhase.TheVariants.{Prepare, Accept}
use Rattle.cas_proposer.specs.declared.round.Round.{Round}
use Rattle.cas_quorum.specs.declared.era.Era.{Era}
use Rattle.cas_slot.specs.declared.message.Request.{Request}
use Rattle.cas_vault.specs.declared.vault.Vault.{Vault}
use Rattle.cas_vault.specs.Vault.{kept_of}
use Rattle.cas_record.specs.declared.answer.Answer.TheVariants as answer
use Rattle.cas_record.specs.declared.mark.Mark.{Mark}
use Rattle.cas_record.specs.declared.mark.Mark.TheVariants.{Proposed, Acked}
use Rattle.cas_record.specs.declared.mark.Proposal.{Proposal}
use Rattle.cas_model.specs.Parties.{asked_in}
use Rattle.cas_model.specs.Safe.{requests_in, IsPartySafe, IsRoundSafe, IsOpenSafe, IsSound}
use Rattle.cas_model.specs.Step.{StepBegin, OpenRoundAt, StepPropose, StepCount}
use Rattle.cas_model.specs.Calls.Step as calls
use Rattle.cas_model.specs.Calls.Step.{over, proposing, proposed_view, proposal_of, Sends, accepts_to, BeginsRound, ProposesOrEnds, CountsOrEnds}
use Rattle.cas_model.specs.Calls.Desks.{MayHaveDrawn}
use Rattle.cas_model.specs.View.{DiskMeaning, Meaning, View, CallView, CallerView, IsAt, reserved_in, era_at}
use Rattle.cas_model.proofs.Calls.Caches.{contains_without, contains_promise}
use Rattle.cas_model.proofs.Calls.Steps.{anew, no_harm}
use Rattle.cas_model.proofs.Places.{own_set, some_is}
use Rattle.cas_model.proofs.Calls.Proposals.{accept_request}
use Rattle.cas_model.proofs.Calls.Safe.{opens_safe, prepares_safe, about_members, accepts_is, enough}
use Rattle.cas_model.proofs.Safety.Parts.{more_by, reserved_set, requests_of_map, set_within, safe_but, desk_low, changes_both, idle_at}
use Rattle.cas_model.proofs.Stops.Safe.{none_waits_at, begin_stays_safe, begin_spent_safe, fails_safe, loses_safe, ends_safe, counted_safe}

-- ---- what is reserved for an open round
asks_to_prepare : (era : Era) (phase : OpenPhase) → is_preparing phase ≡ true → asked_in era phase ≡ era.prep
asks_to_prepare era (Prepare p) is = refl
asks_to_prepare era (Accept p) is = absurd (cc is)

pub asks_to_accept : (era : Era) (phase : OpenPhase) → is_preparing phase ≡ false → asked_in era phase ≡ era.acc
asks_to_accept era (Prepare p) is = absurd (cc is)
asks_to_accept era (Accept p) is = refl

-- a round that prepares has what it takes to propose
pub prepare_reserves : (era : Era) (caller : CallerView) (queue : QueueView) (round : Round) (call : CallView) → IsMemberSet era.prep → caller.call ≡ Some call → is_preparing round.phase ≡ true → IsOpenSafe era caller queue round
    → 4 + 3 * length era.acc ≤ call.reserved
prepare_reserves era caller queue round call prep is_open preparing is =
    let same : is.call ≡ call = some_is (sym is.is_open ∙ is_open) in
    let asked = asks_to_prepare era round.phase preparing in
    omega (
      arith,
      is.prepare_room preparing,
      ap (λ (c : CallView). c.reserved) same,
      set_within is.call.harmed era.prep is.harmed_set prep (λ a h. subst (λ (l : List ℕ). has_member l a ≡ true) asked (is.harmed_within a h)),
    )

-- ---- a change is proposed
pub proposed_safe : {S V : Type 0} (old : View S V) (id : ℕ) (caller : CallerView) (call : CallView) (desk now : DeskView V) (round : Round) (flow : FlowView) (p : Proposal) (age : ℕ) (key : List ℕ) (ballot : Ballot) (ride : Option Ballot) (outcome : Outcome)
    → IsSound old → IsAt old.callers id caller → caller.call ≡ Some call → IsAt old.desks id desk → now.id ≡ desk.id → now.down ≡ false → now.round ≡ Some round
    → round.key ≡ call.key → round.era ≡ (era_at old id) → FitsBallot round.ballot → ((b : Ballot) → round.ride ≡ Some b → FitsBallot b) → is_preparing round.phase ≡ false
    → ((key : List ℕ) (ready : Ready) → Contains now.cache (key, ready) → Contains desk.cache (key, ready)) → (queue_at old.flow id).messages ≡ []
    → Sends old.flow id (accepts_to id age key ballot (era_at old id).number ride outcome.state (era_at old id).acc) flow → 4 + 3 * length (era_at old id).acc ≤ call.reserved → IsSound (proposed_view old id caller call now flow p outcome)
proposed_safe {S} {V} old id caller call desk now round flow p age key ballot ride outcome was at_caller is_open at_desk same up is_round same_key same_era fits rides accepting fewer none sends reserved =
    safe_but old (proposed_view old id caller call now flow p outcome) id was (desk_low old id desk was at_desk) (changes_both old id now after flow marks was sends.queues sends.others (more_by old.marks (Proposed p ∷ [])))
    (λ d c at_d at_c. subst (λ (x : DeskView V). IsPartySafe (era_at old id) (length marks) id x c (queue_at flow id)) (sym (own_set old.desks id now d at_d))
    (subst (λ (x : CallerView). IsPartySafe (era_at old id) (length marks) id now x (queue_at flow id)) (sym (own_set old.callers id after c at_c)) safe))
    (omega (arith, was.room, reserved, length-append old.marks (Proposed p ∷ []), reserved_set old.callers id caller after at_caller, ap reserved_in is_open))
  where
    after : CallerView
    after = record caller { call = Some (proposing call outcome) }

    marks : List Mark
    marks = old.marks ++ Proposed p ∷ []

    party : IsPartySafe (era_at old id) (length old.marks) id desk caller (queue_at old.flow id)
    party = was.parties id desk caller at_desk at_caller

    f : ℕ → Request
    f = accept_request id age key ballot (era_at old id).number ride outcome.state

    waiting : (queue_at flow id).messages ≡ map (λ to. message.Request (f to)) (era_at old id).acc
    waiting = sends.own ∙ ap (λ (l : List Message). l ++ map (λ to. message.Request (f to)) (era_at old id).acc) none

    counted : requests_in (queue_at flow id).messages ≡ length (era_at old id).acc
    counted = ap requests_in waiting ∙ requests_of_map f (era_at old id).acc

    open_safe : IsOpenSafe (era_at old id) after (queue_at flow id) round
    open_safe = record {
      call = proposing call outcome;
      is_open = refl;
      same_key = same_key;
      same_era = same_era;
      ballot = fits;
      ride = rides;
      about = about_members f (era_at old id).acc (asked_in (era_at old id) round.phase) (queue_at flow id).messages (λ to. refl) waiting (asks_to_accept (era_at old id) round.phase accepting);
      asks = λ e. absurd (cc (e, accepting));
      harmed_set = no_harm;
      harmed_within = λ a h. absurd (cc h);
      unproposed = λ e. absurd (cc (e, accepting));
      prepare_room = λ e. absurd (cc (e, accepting));
      proposed = λ e. refl;
      accept_room = λ e. omega (arith, counted, reserved);
    }

    safe : IsPartySafe (era_at old id) (length marks) id now after (queue_at flow id)
    safe = record {
      same_id = same ∙ party.same_id;
      idle = λ down. absurd (cc (down, up));
      number = omega (arith, party.number, more_by old.marks (Proposed p ∷ []));
      few = omega (arith, party.few, ap reserved_in is_open);
      cached = λ key ready h. party.cached key ready (fewer key ready h);
      round = subst (IsRoundSafe (era_at old id) after (queue_at flow id)) (sym is_round) open_safe;
      room = omega (arith, sends.room, counted, length-map (era_at old id).acc (λ (to : ℕ). message.Request (f to)));
    }

-- ---- what is drawn
drawn_fits : {V : Type 0} (m : DiskMeaning V) (id : ℕ) (old new : Vault V) (ride : Option Ballot) → MayHaveDrawn m id old new ride → (ballot : Ballot) → ride ≡ Some ballot → FitsBallot ballot
drawn_fits m id old new None drawn ballot is = absurd (cc is)
drawn_fits m id old new (Some x) drawn ballot is = subst FitsBallot (some_is is) drawn.fits

-- ---- a round begins
pub begins_safe : {S V : Type 0} (m : Meaning S V) (old : View S V) (id : ℕ) (caller : CallerView) (call : CallView) (new : View S V) → IsSound old → IsAt old.callers id caller → caller.call ≡ Some call
    → call.proposed ≡ None → call.harmed ≡ [] → BeginsRound m old id caller call new → IsSound new
begins_safe m old id caller call new was at_caller is_open unproposed unharmed (calls.prepares desk now ballot round flow at_desk up room begins sends view) =
    subst IsSound (sym view) (prepares_safe m old id caller call desk now ballot round flow was at_caller is_open unproposed unharmed at_desk up room begins sends)
begins_safe {S} {V} m old id caller call new was at_caller is_open unproposed unharmed (calls.proposes desk now ready ride round outcome flow at_desk up room begins is_outcome sends view) =
    let party = was.parties id desk caller at_desk at_caller in
    let about = begins.opened.0 in
    let sent : Sends old.flow id (accepts_to id (kept_of desk.vault).age round.key round.ballot (era_at old id).number ride outcome.state (era_at old id).acc) flow =
    subst (λ (e : Era). Sends old.flow id (accepts_to id (kept_of desk.vault).age round.key round.ballot e.number ride outcome.state e.acc) flow) about.in_era sends in
    subst IsSound (sym view) (proposed_safe old id caller call desk now (record round { ride = ride }) flow (proposal_of id caller.number round ready.read ready.by) (kept_of desk.vault).age round.key round.ballot ride outcome
    was at_caller is_open at_desk (ap (λ (d : DeskView V). d.id) begins.desk) (ap (λ (d : DeskView V). d.down) begins.desk ∙ up) (ap (λ (d : DeskView V). d.round) begins.desk)
    about.of_key about.in_era (subst FitsBallot (sym about.at) (party.cached call.key ready (contains_promise call.key ready desk.cache begins.promise)))
    (drawn_fits m.disks desk.id desk.vault now.vault ride begins.drawn) (accepts_is round.era round.ballot [] round.phase begins.opened.1.phase).0
    (λ key r c. contains_without call.key desk.cache (subst (λ (l : List (List ℕ × Ready)). Contains l (key, r)) (ap (λ (d : DeskView V). d.cache) begins.desk) c))
    (idle_at (era_at old id) caller (queue_at old.flow id) desk.round begins.none_open party.round).none_waits sent
    (omega (arith, enough (era_at old id) (was.prep_sets id) (was.acc_sets id) call.reserved room)))
begins_safe {S} {V} m old id caller call new was at_caller is_open unproposed unharmed (calls.stays told nothing idle full view) =
    begin_stays_safe old id caller call told new was at_caller is_open (λ desk at. (idle desk at).0) view
begins_safe {S} {V} m old id caller call new was at_caller is_open unproposed unharmed (calls.spent desk now at_desk idle up no_promise spent kept is_now view) =
    begin_spent_safe old id caller call desk now new was at_caller is_open at_desk idle is_now view
begins_safe {S} {V} m old id caller call new was at_caller is_open unproposed unharmed (calls.fails desk now at_desk idle up by view) =
    fails_safe m old id caller call call.key desk now answer.VaultFault new was at_caller is_open at_desk (none_waits_at old id caller desk was at_caller at_desk idle) by view
begins_safe {S} {V} m old id caller call new was at_caller is_open unproposed unharmed (calls.loses desk now ballot at_desk idle up by view) =
    loses_safe m old id caller call call.key desk now ballot (answer.NoMemory false) new was at_caller is_open at_desk (none_waits_at old id caller desk was at_caller at_desk idle) by view

pub begin_safe : {S V : Type 0} (m : Meaning S V) (old : View S V) (id : ℕ) (key : List ℕ) (program : List Clause) (new : View S V) → IsSound old → StepBegin m old id key program new → IsSound new
begin_safe m old id key program new was by =
    let of = anew old id key program by.middle by.caller by.call by.opens by.at_caller by.is_open in
    begins_safe m by.middle id by.caller by.call new (opens_safe old id key program by.middle was by.opens) by.at_caller by.is_open of.unproposed of.unharmed by.begins

-- ---- the prepare phase ends
open_at : {S V : Type 0} (old : View S V) (id : ℕ) → IsSound old → (at : OpenRoundAt old id) → IsOpenSafe (era_at old id) at.of_call.caller (queue_at old.flow id) at.round
open_at old id was at = subst (IsRoundSafe (era_at old id) at.of_call.caller (queue_at old.flow id)) at.is_open (was.parties id at.desk at.of_call.caller at.at_desk at.of_call.at_caller).round

pub proposes_safe : {S V : Type 0} (m : Meaning S V) (old : View S V) (id : ℕ) (new : View S V) → IsSound old → StepPropose m old id new → IsSound new
proposes_safe {S} {V} m old id new was step = by_case step.proposes
  where
    at : OpenRoundAt old id
    at = step.at_round

    caller : CallerView
    caller = at.of_call.caller

    call : CallView
    call = at.of_call.call

    is : IsOpenSafe (era_at old id) caller (queue_at old.flow id) at.round
    is = open_at old id was at

    same : is.call ≡ call
    same = some_is (sym is.is_open ∙ at.of_call.is_open)

    reserved : 4 + 3 * length (era_at old id).acc ≤ call.reserved
    reserved = prepare_reserves (era_at old id) caller (queue_at old.flow id) at.round call (was.prep_sets id) at.of_call.is_open step.preparing is

    by_case : ProposesOrEnds m old id at.desk at.round caller call new → IsSound new
    by_case (calls.proposes now turned read by ride outcome flow quorum confirmers is_read turns is_outcome sends view) =
        let same_round = turns.turns.same in
        let sent : Sends old.flow id (accepts_to id (kept_of at.desk.vault).age at.round.key at.round.ballot (era_at old id).number ride outcome.state (era_at old id).acc) flow =
        subst (λ (e : Era). Sends old.flow id (accepts_to id (kept_of at.desk.vault).age at.round.key at.round.ballot e.number ride outcome.state e.acc) flow) is.same_era sends in
        subst IsSound (sym view) (proposed_safe old id caller call at.desk now (record turned { ride = ride }) flow _ (kept_of at.desk.vault).age at.round.key at.round.ballot ride outcome
        was at.of_call.at_caller at.of_call.is_open at.at_desk (ap (λ (d : DeskView V). d.id) turns.desk) (ap (λ (d : DeskView V). d.down) turns.desk ∙ at.up) (ap (λ (d : DeskView V). d.round) turns.desk)
        (ap (λ (r : Round). r.key) same_round ∙ is.same_key ∙ ap (λ (c : CallView). c.key) same) (ap (λ (r : Round). r.era) same_round ∙ is.same_era)
        (subst FitsBallot (sym (ap (λ (r : Round). r.ballot) same_round)) is.ballot) (drawn_fits m.disks at.desk.id at.desk.vault now.vault ride turns.drawn) turns.turns.accepting
        (λ key r c. subst (λ (l : List (List ℕ × Ready)). Contains l (key, r)) (ap (λ (d : DeskView V). d.cache) turns.desk) c) at.none_waits sent reserved)
    by_case (calls.ends now verdict told is_verdict refused ends view) =
        ends_safe m old id caller call at.desk now at.round told new was at.of_call.at_caller at.of_call.is_open at.at_desk at.none_waits ends view
    by_case (calls.fails now by view) =
        fails_safe m old id caller call at.round.key at.desk now answer.VaultFault new was at.of_call.at_caller at.of_call.is_open at.at_desk at.none_waits by view
    by_case (calls.loses now ballot by view) =
        loses_safe m old id caller call at.round.key at.desk now ballot (answer.NoMemory false) new was at.of_call.at_caller at.of_call.is_open at.at_desk at.none_waits by view

-- ---- a round is counted
pub counts_safe : {S V : Type 0} (m : Meaning S V) (old : View S V) (id : ℕ) (new : View S V) → IsSound old → StepCount m old id new → IsSound new
counts_safe {S} {V} m old id new was step = by_case step.counts
  where
    at : OpenRoundAt old id
    at = step.at_round

    caller : CallerView
    caller = at.of_call.caller

    call : CallView
    call = at.of_call.call

    by_case : CountsOrEnds m old id at.desk at.round caller call new → IsSound new
    by_case (calls.counts now by outcome quorum confirmers proposed ends view) =
        counted_safe m old id caller call at.desk now at.round outcome.state by (answer.Done outcome.state outcome.took at.round.ballot)
        (Acked (record { key = at.round.key; ballot = at.round.ballot; era = at.round.era.number; by = by })) new was at.of_call.at_caller at.of_call.is_open at.at_desk at.is_open at.none_waits ends view
    by_case (calls.ends now verdict why is_verdict cause ends view) =
        ends_safe m old id caller call at.desk now at.round (answer.Unsettled why) new was at.of_call.at_caller at.of_call.is_open at.at_desk at.none_waits ends view
