-- How the phases of a round end that nothing disturbs.
use Rattle.std.proofs.Common.{◌≡◌, ℕ, Bool, true, false, List, [], ◌++◌, Option, None, Some, slice_set, refl, sym, ap, subst, ◌∙◌, inl, inr, arith}
use Rattle.std.specs.Prelude.{◌⊎◌, map, Contains}
use Rattle.cas_base.proofs.Bools.{not_both}
use Rattle.cas_ballot.specs.declared.ballot.Ballot.{Ballot}
use Rattle.cas_change.specs.declared.outcome.Outcome.{Outcome}
use Rattle.cas_flow.specs.Flow.{FlowView, queue_at}
use Rattle.cas_flow.specs.declared.message.Message.{Message}
use Rattle.cas_flow.specs.declared.message.Message.TheVariants as message
use Rattle.cas_proposer.specs.Desk.{DeskView}
use Rattle.cas_proposer.specs.Round.{IsPreparing, IsAccepting, IsPrepare, IsAccept, IsAbout, confirmed_in}
use Rattle.cas_proposer.specs.declared.round.OpenPhase.{OpenPhase}
use Rattle.cas_proposer.specs.declared.round.OpenPhase.TheVariants.{Prepare, Accept}
use Rattle.cas_proposer.specs.declared.round.Round.{Round}
use Rattle.cas_quorum.specs.declared.era.Era.{Era}
use Rattle.cas_quorum.specs.Era.{holds_prep, holds_acc}
use Rattle.cas_quorum.specs.Quorum.{has_quorum}
use Rattle.cas_record.specs.declared.answer.Answer.{Answer}
use Rattle.cas_record.specs.declared.answer.Answer.TheVariants as answer
use Rattle.cas_record.specs.declared.answer.Cause.{Cause}
use Rattle.cas_record.specs.declared.mark.Proposal.{Proposal}
use Rattle.cas_round.specs.Replies.{is_prepare, is_accept, heard, is_promise, is_acceptance, confirmers_of}
use Rattle.cas_round.specs.Round.{IsRoundVerdict}
use Rattle.cas_round.specs.declared.verdict.RoundVerdict.{RoundVerdict}
use Rattle.cas_round.specs.declared.verdict.RoundVerdict.TheVariants as verdict
use Rattle.cas_round.proofs.Lists.{contains}
use Rattle.cas_slot.specs.declared.message.Ask.TheVariants as ask
use Rattle.cas_slot.specs.declared.message.Phase.{Phase}
use Rattle.cas_slot.specs.declared.message.Reply.{Reply}
use Rattle.cas_slot.specs.declared.message.Request.{Request}
use Rattle.cas_slot.specs.declared.message.Tell.{Tell}
use Rattle.cas_vault.specs.Vault.{kept_of}
use Rattle.cas_model.specs.Safe.{IsSafe, IsSound}
use Rattle.cas_model.specs.Step as step
use Rattle.cas_model.specs.Stops.Step.{OpenCallAt}
use Rattle.cas_model.specs.Calls.Step as calls
use Rattle.cas_model.specs.Calls.Step.{refusal_by, cause_by, prepares_to, accepts_to}
use Rattle.cas_model.specs.Calls.Desks.{TurnsWith}
use Rattle.cas_model.specs.View.{Meaning, View, CallView, CallerView, IsAt, era_at}
use Rattle.cas_model.proofs.Frames.Harms.{member_has, has_map_of}
use Rattle.cas_model.proofs.Places.{at_one, at_set, some_is, contains_none}
use Rattle.cas_model.proofs.Calls.Safe.{opens_safe}
use Rattle.cas_model.proofs.Safety.Parts.{idle_at, desk_low}
use Rattle.cas_model.proofs.Safety.Steps.{steps_are_safe}
use Rattle.cas_model_causes.specs.Calls.Causes.{CallIsTold}
use Rattle.cas_model_causes.specs.Calls.Rounds.{RoundSteps, none, one_more, PreparesWith}
use Rattle.cas_model_causes.specs.Calls.Undisturbed.{AreUndisturbed, CallHasProposed, PreparesAfresh, AcceptsAfresh, ProposesUndisturbed, proposes, vault_fails, no_memory, BeginsToAsk, RoundsBeginToAsk, UndisturbedPreparesPropose, UndisturbedAcceptsAreDone, UndisturbedRoundsAreDone}
use Rattle.cas_model_causes.proofs.Calls.Coming.{IsKind, prepare_kind, accept_kind, Confirms, Coming, step_comes, quorum_more}
use Rattle.cas_model_causes.proofs.Calls.Ends.{told_by, desk_by, ridden, prepare_steps}
use Rattle.cas_model_causes.proofs.Calls.Queues.{KeepsProposed, QueueStays, OwnTurn, stays_or_turn, turn_proposed}

-- ---- along the steps
keeps_step : {S V : Type 0} (m : Meaning S V) (old new : View S V) (id : ℕ) (event : step.Event) → QueueStays old new id ⊎ OwnTurn m old new id event → KeepsProposed old.callers new.callers id
keeps_step m old new id event (inl stays) = stays.proposed
keeps_step m old new id (step.Turn proposer v) (inr own) = turn_proposed m old new id proposer v own.1
keeps_step m old new id event (inr own) = absurd own

-- the confirmations come, the cluster is safe, and what was proposed stays
record Along {S V : Type 0} (is_phase : Phase → Bool) (confirms : Tell → Bool) (IsIn : List Reply → Round → Type 0) (id : ℕ) (set asked : List ℕ) (begun : Round) (first_ mid : View S V) : Type 0 where
  pub coming : Coming is_phase confirms IsIn mid.desks (queue_at mid.flow id).messages id set asked begun
  pub safe : IsSafe mid
  pub proposed : KeepsProposed first_.callers mid.callers id

along : {S V : Type 0} (m : Meaning S V) {is_phase : Phase → Bool} {confirms : Tell → Bool} {IsIn : List Reply → Round → Type 0} (kind : IsKind is_phase confirms IsIn) (id : ℕ) (set asked : List ℕ) (begun : Round) (first_ mid : View S V) (replies : List Reply) (steps : RoundSteps m id first_ replies mid) → IsSafe first_
    → AreUndisturbed m id set first_ mid replies steps → Coming is_phase confirms IsIn first_.desks (queue_at first_.flow id).messages id set asked begun → Along is_phase confirms IsIn id set asked begun first_ mid
along m kind id set asked begun first_ mid replies none safe undisturbed was = record { coming = was; safe = safe; proposed = λ outcome has. has }
along m kind id set asked begun first_ mid replies (one_more {before = before} {brought = brought} {mid = middle} event steps not_own by brings) safe undisturbed was =
    let until_now = along m kind id set asked begun first_ middle before steps safe undisturbed.0 was in
    let low = desk_low middle id until_now.coming.is_open.desk until_now.safe.sound until_now.coming.is_open.at_desk in
    let stays = stays_or_turn m middle mid id event (λ same. omega (arith, same, low)) not_own by in
    record {
      coming = step_comes m kind middle mid id set asked begun event until_now.safe stays undisturbed.1 brought brings until_now.coming;
      safe = steps_are_safe m middle event mid until_now.safe by;
      proposed = λ outcome has. keeps_step m middle mid id event stays outcome (until_now.proposed outcome has);
    }

-- ---- the beginning
-- each that is asked will confirm, since its request waits
asked_comes : {V : Type 0} {is_phase : Phase → Bool} {confirms : Tell → Bool} {IsIn : List Reply → Round → Type 0} (desks : List (DeskView V)) (messages : List Message) (id : ℕ) (set asked : List ℕ) (round : Round) (request : ℕ → Request) (desk : DeskView V) → IsAt desks id desk → desk.round ≡ Some round
    → IsIn [] round → messages ≡ map (λ to. message.Request (request to)) asked → ((n : ℕ) → (request n).to ≡ n) → ((n : ℕ) → Confirms is_phase confirms round.ballot (message.Request (request n))) → Coming is_phase confirms IsIn desks messages id set asked round
asked_comes desks messages id set asked round request desk at is_open within waits to is = record {
  replies = [];
  round = round;
  is_open = record { desk = desk; at_desk = at; is_open = is_open; within = within; same = refl };
  each = λ n low member is_asked. inl (record {
    each = message.Request (request n);
    waits = subst (λ (l : List Message). Contains l (message.Request (request n))) (sym waits)
        (contains (message.Request (request n)) (map (λ to. message.Request (request to)) asked) (has_map_of (λ to. message.Request (request to)) n asked (member_has n asked is_asked)));
    about = to n;
    is = is n;
  });
}

-- ---- the end
-- where nothing waits, all that were asked of the set confirmed
all_confirmed : {V : Type 0} {is_phase : Phase → Bool} {confirms : Tell → Bool} {IsIn : List Reply → Round → Type 0} (desks : List (DeskView V)) (messages : List Message) (id : ℕ) (set asked : List ℕ) (begun : Round) (need : ℕ) → (coming : Coming is_phase confirms IsIn desks messages id set asked begun)
    → messages ≡ [] → has_quorum need asked set ≡ true → has_quorum need asked (confirmed_in coming.round.phase) ≡ true
all_confirmed desks messages id set asked begun need coming empty quorum = quorum_more need asked set (confirmed_in coming.round.phase) (λ n low is_asked member. elim (coming.each n low member is_asked) [
  | inl waits ↦ absurd (contains_none (subst (λ (l : List Message). Contains l waits.each) empty waits.waits))
  | inr confirmed ↦ confirmed
]) quorum

-- a verdict where there is a quorum
quorum_verdict : (members : List ℕ) (need : ℕ) (confirms : Tell → Bool) (replies : List Reply) (v : RoundVerdict) → IsRoundVerdict members need confirms replies v → has_quorum need members (confirmers_of confirms replies) ≡ true → v ≡ verdict.Quorum
quorum_verdict members need confirms replies verdict.Quorum is quorum = refl
quorum_verdict members need confirms replies (verdict.Met ballot) is quorum = absurd (not_both _ quorum is.0)
quorum_verdict members need confirms replies (verdict.Aged least) is quorum = absurd (not_both _ quorum is.0)
quorum_verdict members need confirms replies (verdict.Full acceptor) is quorum = absurd (not_both _ quorum is.0)
quorum_verdict members need confirms replies (verdict.Short got needed) is quorum = absurd (not_both _ quorum is.0)

-- the verdict of the round that is open then: its era, its members and how many of them it needs are those with which it began
pub ends_with_quorum : {V : Type 0} {is_phase : Phase → Bool} {confirms : Tell → Bool} {IsIn : List Reply → Round → Type 0} (kind : IsKind is_phase confirms IsIn) (desks : List (DeskView V)) (messages : List Message) (id : ℕ) (set : List ℕ) (members : Era → List ℕ) (need : Era → ℕ) (begun seen : Round) (v : RoundVerdict)
    → (coming : Coming is_phase confirms IsIn desks messages id set (members begun.era) begun) → messages ≡ [] → has_quorum (need begun.era) (members begun.era) set ≡ true → seen ≡ coming.round
    → (IsIn coming.replies seen → IsRoundVerdict (members seen.era) (need seen.era) confirms (heard is_phase seen.ballot coming.replies) v) → v ≡ verdict.Quorum
ends_with_quorum {V} {is_phase} {confirms} {IsIn} kind desks messages id set members need begun seen v coming empty quorum same is =
    quorum_verdict (members begun.era) (need begun.era) confirms (heard is_phase begun.ballot coming.replies) v
    (subst (λ (r : Round). IsRoundVerdict (members r.era) (need r.era) confirms (heard is_phase r.ballot coming.replies) v) (same ∙ coming.is_open.same) (is (subst (IsIn coming.replies) (sym same) coming.is_open.within)))
    (subst (λ (b : Ballot). has_quorum (need begun.era) (members begun.era) (confirmers_of confirms (heard is_phase b coming.replies)) ≡ true) (ap (λ (r : Round). r.ballot) coming.is_open.same)
    (subst (λ (l : List ℕ). has_quorum (need begun.era) (members begun.era) l ≡ true) (kind.confirmed coming.round coming.replies coming.is_open.within) confirmed))
  where
    confirmed : has_quorum (need begun.era) (members begun.era) (confirmed_in coming.round.phase) ≡ true
    confirmed = all_confirmed desks messages id set (members begun.era) begun (need begun.era) coming empty quorum

-- it refuses nothing, and is no cause
no_refusal : (v : RoundVerdict) (told : Answer) → v ≡ verdict.Quorum → refusal_by v ≡ Some told → ⊥
no_refusal v told is refused = cc (ap refusal_by (sym is) ∙ refused)

no_cause : (v : RoundVerdict) (why : Cause) → v ≡ verdict.Quorum → cause_by v ≡ Some why → ⊥
no_cause v why is cause = cc (ap cause_by (sym is) ∙ cause)

-- the round that is open at the desk
seen_is : {V : Type 0} (desks : List (DeskView V)) (id : ℕ) (desk other : DeskView V) (seen round : Round) → IsAt desks id desk → desk.round ≡ Some seen → IsAt desks id other → other.round ≡ Some round → seen ≡ round
seen_is {V} desks id desk other seen round at is_open there other_open = some_is (sym is_open ∙ ap (λ (d : DeskView V). d.round) (at_one desks id at there) ∙ other_open)

-- ---- what was proposed
-- the caller's call proposes it
proposed_by : {S V : Type 0} (old new : View S V) (id : ℕ) (caller : CallerView) (call : CallView) (outcome : Outcome) → IsAt old.callers id caller → new.callers ≡ slice_set old.callers id (record caller { call = Some (calls.proposing call outcome) }) → CallHasProposed new.callers id outcome
proposed_by old new id caller call outcome at callers = record {
  caller = record caller { call = Some (calls.proposing call outcome) };
  at_caller = subst (λ (l : List CallerView). IsAt l id (record caller { call = Some (calls.proposing call outcome) })) (sym callers) (at_set old.callers id caller (record caller { call = Some (calls.proposing call outcome) }) at);
  call = calls.proposing call outcome;
  is_open = refl;
  proposed = refl;
}

-- and no other outcome
one_outcome : (callers : List CallerView) (id : ℕ) (caller : CallerView) (call : CallView) (outcome other : Outcome) → IsAt callers id caller → caller.call ≡ Some call → CallHasProposed callers id outcome → call.proposed ≡ Some other → other ≡ outcome
one_outcome callers id caller call outcome other at is_open has is =
    let same : call ≡ has.call = some_is (sym is_open ∙ ap (λ (c : CallerView). c.call) (at_one callers id at has.at_caller) ∙ has.is_open) in
    some_is (sym is ∙ ap (λ (c : CallView). c.proposed) same ∙ has.proposed)

-- ---- the prepare phase
-- the round goes on as it began, but for what it met, its phase and the ballot that rides
turned_same : (round was seen turned : Round) (ride : Option Ballot) → was ≡ record round { met = was.met; phase = was.phase } → seen ≡ was → turned ≡ record seen { phase = turned.phase } → record turned { ride = ride } ≡ record round { phase = turned.phase; met = turned.met; ride = ride }
turned_same round was seen turned ride begun same turns = ap (λ (r : Round). record r { phase = turned.phase; met = turned.met; ride = ride }) (turns ∙ ap (λ (r : Round). record r { phase = turned.phase }) (same ∙ begun))

-- its requests are at what it turned to
turned_asks : (id age : ℕ) (seen turned : Round) (ride : Option Ballot) (outcome : Outcome) (messages : List Message) → turned ≡ record seen { phase = turned.phase } → messages ≡ accepts_to id age seen.key seen.ballot seen.era.number ride outcome.state seen.era.acc
    → messages ≡ accepts_to id age turned.key turned.ballot turned.era.number ride outcome.state turned.era.acc
turned_asks id age seen turned ride outcome messages turns is = subst (λ (r : Round). messages ≡ accepts_to id age r.key r.ballot r.era.number ride outcome.state r.era.acc) (sym turns) is

-- the accept phase begins with its requests, and nothing else waits
accepts_afresh : {S V : Type 0} (m : Meaning S V) (mid new : View S V) (id : ℕ) (replies : List Reply) (caller : CallerView) (call : CallView) (desk next : DeskView V) (seen turned : Round) (ride : Option Ballot) (outcome : Outcome) (flow : FlowView) (p : Proposal) → IsAt mid.callers id caller → IsAt mid.desks id desk
    → (queue_at mid.flow id).messages ≡ [] → IsPreparing replies seen → TurnsWith m.disks desk next seen turned ride → calls.Sends mid.flow id (accepts_to id (kept_of desk.vault).age seen.key seen.ballot seen.era.number ride outcome.state seen.era.acc) flow
    → new ≡ calls.proposed_view mid id caller call next flow p outcome → AcceptsAfresh new id replies (record turned { ride = ride }) outcome
accepts_afresh {S} {V} m mid new id replies caller call desk next seen turned ride outcome flow p at_caller at_desk empty heard_all turns sends is = record {
  accepts = record {
    desk = next;
    at_desk = desk_by mid new id desk next at_desk (ap (λ (w : View S V). w.desks) is);
    is_open = ap (λ (d : DeskView V). d.round) turns.desk;
    accepting = ridden replies [] turned ride (turns.turns.accepts replies heard_all);
  };
  proposed = proposed_by mid new id caller call outcome at_caller (ap (λ (w : View S V). w.callers) is);
  age = (kept_of desk.vault).age;
  waits = turned_asks id (kept_of desk.vault).age seen turned ride outcome (queue_at new.flow id).messages turns.turns.same
      (ap (λ (w : View S V). (queue_at w.flow id).messages) is ∙ sends.own ∙ ap (λ (l : List Message). l ++ accepts_to id (kept_of desk.vault).age seen.key seen.ballot seen.era.number ride outcome.state seen.era.acc) empty);
}

pub prepares_propose : {S V : Type 0} (m : Meaning S V) → UndisturbedPreparesPropose m
prepares_propose {S} {V} m first_ mid new id set replies round steps safe fresh quorum undisturbed by =
    in_phase by.at_round.of_call by.at_round.desk by.at_round.at_desk by.at_round.round by.at_round.is_open by.proposes
  where
    begins : Coming is_prepare is_promise IsPreparing first_.desks (queue_at first_.flow id).messages id set round.era.prep round
    begins = asked_comes first_.desks (queue_at first_.flow id).messages id set round.era.prep round (λ to. record { to = to; from = id; age = fresh.age; ask = ask.Prepare round.key round.ballot })
        fresh.prepares.desk fresh.prepares.at_desk fresh.prepares.is_open fresh.prepares.preparing fresh.waits (λ n. refl) (λ n. (refl, refl))

    now : Coming is_prepare is_promise IsPreparing mid.desks (queue_at mid.flow id).messages id set round.era.prep round
    now = (along m prepare_kind id set round.era.prep round first_ mid replies steps safe undisturbed begins).coming

    heard_all : (ended : Round) × PreparesWith mid.desks id replies ended
    heard_all = prepare_steps m id first_ mid replies round fresh.prepares steps

    in_phase : (of_call : OpenCallAt mid id) (desk : DeskView V) → IsAt mid.desks id desk → (seen : Round) → desk.round ≡ Some seen → calls.ProposesOrEnds m mid id desk seen of_call.caller of_call.call new → ProposesUndisturbed m mid new id replies round
    in_phase at desk at_desk seen is_open (calls.proposes next turned read by_them ride outcome flow has confirmers reads turns made sends is) =
        let same : seen ≡ now.round = seen_is mid.desks id desk now.is_open.desk seen now.round at_desk is_open now.is_open.at_desk now.is_open.is_open in
        let ended : seen ≡ heard_all.0 = seen_is mid.desks id desk heard_all.1.desk seen heard_all.0 at_desk is_open heard_all.1.at_desk heard_all.1.is_open in
        proposes (record turned { ride = ride }) outcome (turned_same round now.round seen turned ride now.is_open.same same turns.turns.same)
        (accepts_afresh m mid new id replies at.caller at.call desk next seen turned ride outcome flow _ at.at_caller at_desk by.at_round.none_waits (subst (IsPreparing replies) (sym ended) heard_all.1.preparing) turns sends is)
        (told_by mid new id at.caller (calls.proposing at.call outcome) at.at_caller (ap (λ (w : View S V). w.callers) is))
    in_phase at desk at_desk seen is_open (calls.ends next v told verdict_is refused ends is) =
        let same : seen ≡ now.round = seen_is mid.desks id desk now.is_open.desk seen now.round at_desk is_open now.is_open.at_desk now.is_open.is_open in
        absurd (no_refusal v told (ends_with_quorum prepare_kind mid.desks (queue_at mid.flow id).messages id set (λ e. e.prep) (λ e. e.need_prep) round seen v now by.at_round.none_waits quorum same (verdict_is.prepare now.replies)) refused)
    in_phase at desk at_desk seen is_open (calls.fails next fails is) =
        vault_fails (record { desk = desk; at_desk = at_desk; now = next; at_now = desk_by mid new id desk next at_desk (ap (λ (w : View S V). w.desks) is); rose = fails.faulted }) (told_by mid new id at.caller (calls.over at.call answer.VaultFault) at.at_caller (ap (λ (w : View S V). w.callers) is))
    in_phase at desk at_desk seen is_open (calls.loses next ballot loses is) = no_memory (told_by mid new id at.caller (calls.over at.call (answer.NoMemory false)) at.at_caller (ap (λ (w : View S V). w.callers) is))

-- ---- the accept phase
pub accepts_are_done : {S V : Type 0} (m : Meaning S V) → UndisturbedAcceptsAreDone m
accepts_are_done {S} {V} m first_ mid new id set prepared replies round outcome steps safe fresh quorum undisturbed by =
    in_phase by.at_round.of_call by.at_round.desk by.at_round.at_desk by.at_round.round by.at_round.is_open by.counts
  where
    begins : Coming is_accept is_acceptance (IsAccepting prepared) first_.desks (queue_at first_.flow id).messages id set round.era.acc round
    begins = asked_comes first_.desks (queue_at first_.flow id).messages id set round.era.acc round (λ to. record { to = to; from = id; age = fresh.age; ask = ask.Accept round.key round.ballot round.era.number round.ride outcome.state })
        fresh.accepts.desk fresh.accepts.at_desk fresh.accepts.is_open fresh.accepts.accepting fresh.waits (λ n. refl) (λ n. (refl, refl))

    at_end : Along is_accept is_acceptance (IsAccepting prepared) id set round.era.acc round first_ mid
    at_end = along m (accept_kind prepared) id set round.era.acc round first_ mid replies steps safe undisturbed begins

    now : Coming is_accept is_acceptance (IsAccepting prepared) mid.desks (queue_at mid.flow id).messages id set round.era.acc round
    now = at_end.coming

    in_phase : (of_call : OpenCallAt mid id) (desk : DeskView V) → IsAt mid.desks id desk → (seen : Round) → desk.round ≡ Some seen → calls.CountsOrEnds m mid id desk seen of_call.caller of_call.call new → CallIsTold new id (Some (answer.Done outcome.state outcome.took round.ballot))
    in_phase at desk at_desk seen is_open (calls.counts next by_them other has confirmers proposed ends is) =
        let same : seen ≡ now.round = seen_is mid.desks id desk now.is_open.desk seen now.round at_desk is_open now.is_open.at_desk now.is_open.is_open in
        subst (λ (o : Outcome). CallIsTold new id (Some (answer.Done o.state o.took round.ballot))) (one_outcome mid.callers id at.caller at.call outcome other at.at_caller at.is_open (at_end.proposed outcome fresh.proposed) proposed)
        (subst (λ (b : Ballot). CallIsTold new id (Some (answer.Done other.state other.took b))) (ap (λ (r : Round). r.ballot) (same ∙ now.is_open.same))
        (told_by mid new id at.caller (calls.over at.call (answer.Done other.state other.took seen.ballot)) at.at_caller (ap (λ (w : View S V). w.callers) is)))
    in_phase at desk at_desk seen is_open (calls.ends next v why verdict_is cause ends is) =
        let same : seen ≡ now.round = seen_is mid.desks id desk now.is_open.desk seen now.round at_desk is_open now.is_open.at_desk now.is_open.is_open in
        absurd (no_cause v why (ends_with_quorum (accept_kind prepared) mid.desks (queue_at mid.flow id).messages id set (λ e. e.acc) (λ e. e.need_acc) round seen v now by.at_round.none_waits quorum same (verdict_is.accept prepared now.replies)) cause)

-- ---- the beginning
-- a round is in one phase
one_phase : (replies prepared others : List Reply) (round : Round) → IsPreparing replies round → IsAccepting prepared others round → ⊥
one_phase replies prepared others round prepares accepts = by_phase round.phase prepares.phase accepts.phase
  where
    by_phase : (phase : OpenPhase) → IsPrepare round.era round.ballot replies phase → IsAccept round.era round.ballot others phase → ⊥
    by_phase (Prepare phase) is other = other
    by_phase (Accept phase) is other = is

-- what was asked at the beginning is about the round that began
asked_about : (id age : ℕ) (key : List ℕ) (era : Era) (ballot : Ballot) (round : Round) → IsAbout key era ballot round → prepares_to id age key ballot era.prep ≡ prepares_to id age round.key round.ballot round.era.prep
asked_about id age key era ballot round about =
    ap (λ (k : List ℕ). prepares_to id age k ballot era.prep) (sym about.of_key) ∙ ap (λ (b : Ballot). prepares_to id age round.key b era.prep) (sym about.at) ∙ ap (λ (e : Era). prepares_to id age round.key round.ballot e.prep) (sym about.in_era)

begins_none : {S V : Type 0} (new : View S V) (id : ℕ) → ((desk : DeskView V) → IsAt new.desks id desk → desk.round ≡ None) → BeginsToAsk new id
begins_none new id none_open = record {
  prepares = λ round was. absurd (cc (none_open was.desk was.at_desk, was.is_open));
  accepts = λ round was. absurd (cc (none_open was.desk was.at_desk, was.is_open));
}

begins_to_prepare : {S V : Type 0} (new : View S V) (id age : ℕ) (desk : DeskView V) (round : Round) → IsAt new.desks id desk → desk.round ≡ Some round → IsPreparing [] round
    → (queue_at new.flow id).messages ≡ prepares_to id age round.key round.ballot round.era.prep → BeginsToAsk new id
begins_to_prepare new id age desk round at is_open preparing waits = record {
  prepares = λ seen was. record {
    prepares = was;
    age = age;
    waits = subst (λ (r : Round). (queue_at new.flow id).messages ≡ prepares_to id age r.key r.ballot r.era.prep) (seen_is new.desks id desk was.desk round seen at is_open was.at_desk was.is_open) waits;
  };
  accepts = λ seen was. absurd (one_phase [] [] [] seen (subst (IsPreparing []) (seen_is new.desks id desk was.desk round seen at is_open was.at_desk was.is_open) preparing) was.accepting);
}

begins_to_accept : {S V : Type 0} (new : View S V) (id age : ℕ) (desk : DeskView V) (round : Round) (outcome : Outcome) → IsAt new.desks id desk → desk.round ≡ Some round → IsAccepting [] [] round → CallHasProposed new.callers id outcome
    → (queue_at new.flow id).messages ≡ accepts_to id age round.key round.ballot round.era.number round.ride outcome.state round.era.acc → BeginsToAsk new id
begins_to_accept new id age desk round outcome at is_open accepting proposed waits = record {
  prepares = λ seen was. absurd (one_phase [] [] [] seen was.preparing (subst (IsAccepting [] []) (seen_is new.desks id desk was.desk round seen at is_open was.at_desk was.is_open) accepting));
  accepts = λ seen was. (
    outcome,
    record {
      accepts = was;
      proposed = proposed;
      age = age;
      waits = subst (λ (r : Round). (queue_at new.flow id).messages ≡ accepts_to id age r.key r.ballot r.era.number r.ride outcome.state r.era.acc) (seen_is new.desks id desk was.desk round seen at is_open was.at_desk was.is_open) waits;
    },
  );
}

pub begin_to_ask : {S V : Type 0} (m : Meaning S V) → RoundsBeginToAsk m
begin_to_ask {S} {V} m old new id key program safe by = in_round by.begins
  where
    middle_safe : IsSound by.middle
    middle_safe = opens_safe old id key program by.middle safe.sound by.opens

    -- nothing waits at a desk that has no open round
    empty : (desk : DeskView V) → IsAt by.middle.desks id desk → desk.round ≡ None → (queue_at by.middle.flow id).messages ≡ []
    empty desk at none_open = (idle_at (era_at by.middle id) by.caller (queue_at by.middle.flow id) desk.round none_open (middle_safe.parties id desk by.caller at by.at_caller).round).none_waits

    asks : (desk : DeskView V) (messages : List Message) (flow : FlowView) → IsAt by.middle.desks id desk → desk.round ≡ None → calls.Sends by.middle.flow id messages flow → new.flow ≡ flow → (queue_at new.flow id).messages ≡ messages
    asks desk messages flow at none_open sends is = ap (λ (f : FlowView). (queue_at f id).messages) is ∙ sends.own ∙ ap (λ (l : List Message). l ++ messages) (empty desk at none_open)

    idle_now : (desk now : DeskView V) → IsAt by.middle.desks id desk → now.round ≡ None → new.desks ≡ slice_set by.middle.desks id now → BeginsToAsk new id
    idle_now desk now at none_open same = begins_none new id (λ seen at_seen. ap (λ (d : DeskView V). d.round) (at_one new.desks id at_seen (desk_by by.middle new id desk now at same)) ∙ none_open)

    in_round : calls.BeginsRound m by.middle id by.caller by.call new → BeginsToAsk new id
    in_round (calls.prepares desk now ballot round flow at up few begins sends is) =
        begins_to_prepare new id (kept_of desk.vault).age now round (desk_by by.middle new id desk now at (ap (λ (w : View S V). w.desks) is)) (ap (λ (d : DeskView V). d.round) begins.desk) begins.opened.1
        (asks desk _ flow at begins.none_open sends (ap (λ (w : View S V). w.flow) is) ∙ asked_about id (kept_of desk.vault).age by.call.key (era_at by.middle id) ballot round begins.opened.0)
    in_round (calls.proposes desk now ready ride round outcome flow at up few begins made sends is) =
        begins_to_accept new id (kept_of desk.vault).age now (record round { ride = ride }) outcome (desk_by by.middle new id desk now at (ap (λ (w : View S V). w.desks) is)) (ap (λ (d : DeskView V). d.round) begins.desk) (ridden [] [] round ride begins.opened.1)
        (proposed_by by.middle new id by.caller by.call outcome by.at_caller (ap (λ (w : View S V). w.callers) is)) (asks desk _ flow at begins.none_open sends (ap (λ (w : View S V). w.flow) is))
    in_round (calls.stays told no_beginning no_round full is) = begins_none new id (λ seen at_seen. (no_round seen (subst (λ (l : List (DeskView V)). IsAt l id seen) (ap (λ (w : View S V). w.desks) is) at_seen)).0)
    in_round (calls.spent desk now at none_open up no_promise spent kept now_is is) = idle_now desk now at (ap (λ (d : DeskView V). d.round) now_is ∙ none_open) (ap (λ (w : View S V). w.desks) is)
    in_round (calls.fails desk now at none_open up fails is) = idle_now desk now at (ap (λ (d : DeskView V). d.round) fails.desk) (ap (λ (w : View S V). w.desks) is)
    in_round (calls.loses desk now ballot at none_open up loses is) = idle_now desk now at (ap (λ (d : DeskView V). d.round) loses.desk) (ap (λ (w : View S V). w.desks) is)

-- ---- the round
safe_along : {S V : Type 0} (m : Meaning S V) (id : ℕ) (first_ mid : View S V) (replies : List Reply) → RoundSteps m id first_ replies mid → IsSafe first_ → IsSafe mid
safe_along m id first_ mid replies none safe = safe
safe_along m id first_ mid replies (one_more {before = before} {mid = middle} event steps not_own by brings) safe = steps_are_safe m middle event mid (safe_along m id first_ middle before steps safe) by

-- what a caller is told is one thing
told_one : {S V : Type 0} (view : View S V) (id : ℕ) (a b : Option Answer) → CallIsTold view id a → CallIsTold view id b → a ≡ b
told_one view id a b is other =
    let same : is.call ≡ other.call = some_is (sym is.is_open ∙ ap (λ (c : CallerView). c.call) (at_one view.callers id is.at_caller other.at_caller) ∙ other.is_open) in
    sym is.told_is ∙ ap (λ (c : CallView). c.told) same ∙ other.told_is

-- a round that has begun to ask in its prepare phase
pub done_after : {S V : Type 0} (m : Meaning S V) (first_ mid turned last new : View S V) (id : ℕ) (promising accepting : List ℕ) (promised accepted : List Reply) (round : Round) (to_prepare : RoundSteps m id first_ promised mid) (to_accept : RoundSteps m id turned accepted last)
    → IsSafe first_ → holds_prep round.era promising ≡ true → holds_acc round.era accepting ≡ true → PreparesAfresh first_ id round → AreUndisturbed m id promising first_ mid promised to_prepare → step.Step m mid (step.Propose id) turned → CallIsTold turned id None
    → AreUndisturbed m id accepting turned last accepted to_accept → step.Step m last (step.Count id) new → (outcome : Outcome) × CallHasProposed turned.callers id outcome × CallIsTold new id (Some (answer.Done outcome.state outcome.took round.ballot))
done_after {S} {V} m first_ mid turned last new id promising accepting promised accepted round to_prepare to_accept safe_first prep acc afresh_first undisturbed_before proposes_it told undisturbed_after counts =
    goes_on (prepares_propose m first_ mid turned id promising promised round to_prepare safe_first afresh_first prep undisturbed_before proposes_it)
  where
    safe_turned : IsSafe turned
    safe_turned = steps_are_safe m mid (step.Propose id) turned (safe_along m id first_ mid promised to_prepare safe_first) proposes_it

    goes_on : ProposesUndisturbed m mid turned id promised round → (outcome : Outcome) × CallHasProposed turned.callers id outcome × CallIsTold new id (Some (answer.Done outcome.state outcome.took round.ballot))
    goes_on (proposes goes outcome same afresh none_told) = (
      outcome,
      afresh.proposed,
      subst (λ (b : Ballot). CallIsTold new id (Some (answer.Done outcome.state outcome.took b))) (ap (λ (r : Round). r.ballot) same)
          (accepts_are_done m turned last new id accepting promised accepted goes outcome to_accept safe_turned afresh (subst (λ (e : Era). holds_acc e accepting ≡ true) (sym (ap (λ (r : Round). r.era) same)) acc) undisturbed_after counts),
    )
    goes_on (vault_fails faulted fault_told) = absurd (cc (told_one turned id None (Some answer.VaultFault) told fault_told))
    goes_on (no_memory loss_told) = absurd (cc (told_one turned id None (Some (answer.NoMemory false)) told loss_told))

pub rounds_are_done : {S V : Type 0} (m : Meaning S V) → UndisturbedRoundsAreDone m
rounds_are_done m old first_ mid turned last new id key program promising accepting promised accepted round to_prepare to_accept safe prep acc begins prepares undisturbed_before proposes_it told undisturbed_after counts =
    done_after m first_ mid turned last new id promising accepting promised accepted round to_prepare to_accept (steps_are_safe m old (step.Begin id key program) first_ safe begins) prep acc
    ((begin_to_ask m old first_ id key program safe begins).prepares round prepares) undisturbed_before proposes_it told undisturbed_after counts
