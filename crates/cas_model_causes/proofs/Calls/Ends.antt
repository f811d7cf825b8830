-- How the phases of a round end.
use Rattle.std.proofs.Common.{◌≡◌, ℕ, suc, ◌-◌, true, false, List, [], ◌++◌, Option, None, Some, slice_set, refl, sym, ap, ap₂, subst, ◌∙◌}
use Rattle.cas_ballot.specs.declared.ballot.Ballot.{Ballot}
use Rattle.cas_change.specs.declared.program.Clause.{Clause}
use Rattle.cas_quorum.specs.declared.era.Era.{Era}
use Rattle.cas_quorum.specs.Era.{holds_prep, holds_acc}
use Rattle.cas_proposer.specs.Desk.{DeskView}
use Rattle.cas_proposer.specs.Round.{IsPreparing, IsAccepting, IsPrepare, IsAccept, has_quorum}
use Rattle.cas_proposer.specs.declared.round.OpenPhase.{OpenPhase}
use Rattle.cas_proposer.specs.declared.round.OpenPhase.TheVariants.{Prepare, Accept}
use Rattle.cas_proposer.specs.declared.round.Round.{Round}
use Rattle.cas_record.specs.declared.answer.Answer.TheVariants as answer
use Rattle.cas_round.specs.Round.{IsPrepareVerdict, IsAcceptVerdict}
use Rattle.cas_round.specs.declared.verdict.RoundVerdict.TheVariants.{Quorum}
use Rattle.cas_slot.specs.declared.message.Reply.{Reply}
use Rattle.cas_model.specs.Stops.Step.{OpenCallAt}
use Rattle.cas_model.specs.Calls.Step as calls
use Rattle.cas_model.specs.View.{Meaning, View, CallView, CallerView, IsAt, new_call, era_at}
use Rattle.cas_model.proofs.Places.{at_one, at_set, some_is}
use Rattle.cas_model_causes.specs.Calls.Causes.{CallIsTold, BeginsAtMostOne, prepares, accepts, begins_none, PrepareEnds, proposes, refuses, vault_fails, no_memory, AcceptEnds, done, unsettled, RoundsBeginAfresh, PreparesEndByReplies, AcceptsEndByReplies}
use Rattle.cas_model_causes.specs.Calls.Rounds.{Brings, nothing, one, RoundSteps, none, one_more, PreparesWith, AcceptsWith}

-- ---- along the steps
-- a round in its prepare phase hears what is brought
hears_prepare : {S V : Type 0} (old new : View S V) (id : ℕ) (before brought : List Reply) (round : Round) → PreparesWith old.desks id before round → Brings old new id brought → (heard : Round) × PreparesWith new.desks id (brought ++ before) heard
hears_prepare old new id before brought round was (nothing passes) =
    let now = passes was.desk was.at_desk in
    (round, record { desk = now.0; at_desk = now.1; is_open = now.2 ∙ was.is_open; preparing = was.preparing })
hears_prepare {S} {V} old new id before brought round was (one reply desk now seen heard way at is_open hears at_now) =
    let same : seen ≡ round = some_is (sym is_open ∙ ap (λ (d : DeskView V). d.round) (at_one old.desks id at was.at_desk) ∙ was.is_open) in
    (heard, record { desk = now; at_desk = at_now; is_open = ap (λ (d : DeskView V). d.round) hears.desk; preparing = hears.hears.prepares before (subst (IsPreparing before) (sym same) was.preparing) })

pub prepare_steps : {S V : Type 0} (m : Meaning S V) (id : ℕ) (first_ mid : View S V) (replies : List Reply) (round : Round) → PreparesWith first_.desks id [] round → RoundSteps m id first_ replies mid → (ended : Round) × PreparesWith mid.desks id replies ended
prepare_steps m id first_ mid replies round was none = (round, was)
prepare_steps m id first_ mid replies round was (one_more {before = before} {brought = brought} {mid = middle} event steps not_own by brings) =
    let until_now = prepare_steps m id first_ middle before round was steps in
    hears_prepare middle mid id before brought until_now.0 until_now.1 brings

hears_accept : {S V : Type 0} (old new : View S V) (id : ℕ) (prepared before brought : List Reply) (round : Round) → AcceptsWith old.desks id prepared before round → Brings old new id brought → (heard : Round) × AcceptsWith new.desks id prepared (brought ++ before) heard
hears_accept old new id prepared before brought round was (nothing passes) =
    let now = passes was.desk was.at_desk in
    (round, record { desk = now.0; at_desk = now.1; is_open = now.2 ∙ was.is_open; accepting = was.accepting })
hears_accept {S} {V} old new id prepared before brought round was (one reply desk now seen heard way at is_open hears at_now) =
    let same : seen ≡ round = some_is (sym is_open ∙ ap (λ (d : DeskView V). d.round) (at_one old.desks id at was.at_desk) ∙ was.is_open) in
    (heard, record { desk = now; at_desk = at_now; is_open = ap (λ (d : DeskView V). d.round) hears.desk; accepting = hears.hears.accepts prepared before (subst (IsAccepting prepared before) (sym same) was.accepting) })

accept_steps : {S V : Type 0} (m : Meaning S V) (id : ℕ) (first_ mid : View S V) (prepared replies : List Reply) (round : Round) → AcceptsWith first_.desks id prepared [] round → RoundSteps m id first_ replies mid → (ended : Round) × AcceptsWith mid.desks id prepared replies ended
accept_steps m id first_ mid prepared replies round was none = (round, was)
accept_steps m id first_ mid prepared replies round was (one_more {before = before} {brought = brought} {mid = middle} event steps not_own by brings) =
    let until_now = accept_steps m id first_ middle prepared before round was steps in
    hears_accept middle mid id prepared before brought until_now.0 until_now.1 brings

-- ---- quorums
-- a phase that has a quorum has one by its replies
pub quorum_prepared : (round : Round) (replies : List Reply) → has_quorum round.phase ≡ true → IsPreparing replies round → IsPrepareVerdict round.era round.ballot replies Quorum
quorum_prepared round replies quorum is = by_phase round.phase quorum is.phase
  where
    by_phase : (phase : OpenPhase) → has_quorum phase ≡ true → IsPrepare round.era round.ballot replies phase → IsPrepareVerdict round.era round.ballot replies Quorum
    by_phase (Prepare phase) quorum after = sym (ap₂ (λ (e : Era) (l : List ℕ). holds_prep e l) after.same_era after.tally.confirmed) ∙ quorum
    by_phase (Accept phase) quorum after = absurd after

pub quorum_accepted : (round : Round) (prepared replies : List Reply) → has_quorum round.phase ≡ true → IsAccepting prepared replies round → IsAcceptVerdict round.era round.ballot replies Quorum
quorum_accepted round prepared replies quorum is = by_phase round.phase quorum is.phase
  where
    by_phase : (phase : OpenPhase) → has_quorum phase ≡ true → IsAccept round.era round.ballot replies phase → IsAcceptVerdict round.era round.ballot replies Quorum
    by_phase (Prepare phase) quorum after = absurd after
    by_phase (Accept phase) quorum after = sym (ap₂ (λ (e : Era) (l : List ℕ). holds_acc e l) after.same_era after.tally.confirmed) ∙ quorum

-- ---- what is told
pub told_by : {S V : Type 0} (old new : View S V) (id : ℕ) (caller : CallerView) (next : CallView) → IsAt old.callers id caller → new.callers ≡ slice_set old.callers id (record caller { call = Some next }) → CallIsTold new id next.told
told_by old new id caller next at callers = record {
  caller = record caller { call = Some next };
  at_caller = subst (λ (l : List CallerView). IsAt l id (record caller { call = Some next })) (sym callers) (at_set old.callers id caller (record caller { call = Some next }) at);
  call = next;
  is_open = refl;
  told_is = refl;
}

pub desk_by : {S V : Type 0} (old new : View S V) (id : ℕ) (desk now : DeskView V) → IsAt old.desks id desk → new.desks ≡ slice_set old.desks id now → IsAt new.desks id now
desk_by {S} {V} old new id desk now at same = subst (λ (l : List (DeskView V)). IsAt l id now) (sym same) (at_set old.desks id desk now at)

-- a ballot that rides changes nothing of the phase
pub ridden : (prepared replies : List Reply) (round : Round) (ride : Option Ballot) → IsAccepting prepared replies round → IsAccepting prepared replies (record round { ride = ride })
ridden prepared replies round ride is = record { phase = is.phase; met = is.met }

-- ---- the ends
pub prepares_end : {S V : Type 0} (m : Meaning S V) → PreparesEndByReplies m
prepares_end {S} {V} m first_ mid new id replies round was steps by =
    let now = prepare_steps m id first_ mid replies round was steps in
    (now.0, now.1, in_phase now.0 now.1 by.at_round.of_call by.at_round.desk by.at_round.at_desk by.at_round.round by.at_round.is_open by.proposes)
  where
    in_phase : (ended : Round) → PreparesWith mid.desks id replies ended → (of_call : OpenCallAt mid id) (desk : DeskView V) → IsAt mid.desks id desk → (seen : Round) → desk.round ≡ Some seen → calls.ProposesOrEnds m mid id desk seen of_call.caller of_call.call new → PrepareEnds new id replies ended
    in_phase ended has at desk at_desk seen is_open (calls.proposes now turned read by ride outcome flow quorum confirmers reads turns made sends is) =
        let same : seen ≡ ended = some_is (sym is_open ∙ ap (λ (d : DeskView V). d.round) (at_one mid.desks id at_desk has.at_desk) ∙ has.is_open) in
        proposes (record turned { ride = ride }) (quorum_prepared ended replies (subst (λ (r : Round). has_quorum r.phase ≡ true) same quorum) has.preparing)
        (record {
          desk = now;
          at_desk = desk_by mid new id desk now at_desk (ap (λ (w : View S V). w.desks) is);
          is_open = ap (λ (d : DeskView V). d.round) turns.desk;
          accepting = ridden replies [] turned ride (turns.turns.accepts replies (subst (IsPreparing replies) (sym same) has.preparing));
        })
        (told_by mid new id at.caller (calls.proposing at.call outcome) at.at_caller (ap (λ (w : View S V). w.callers) is))
    in_phase ended has at desk at_desk seen is_open (calls.ends now verdict told verdict_is refused ends is) =
        let same : seen ≡ ended = some_is (sym is_open ∙ ap (λ (d : DeskView V). d.round) (at_one mid.desks id at_desk has.at_desk) ∙ has.is_open) in
        refuses verdict told (subst (λ (r : Round). IsPrepareVerdict r.era r.ballot replies verdict) same (verdict_is.prepare replies (subst (IsPreparing replies) (sym same) has.preparing))) refused
        (told_by mid new id at.caller (calls.over at.call told) at.at_caller (ap (λ (w : View S V). w.callers) is))
    in_phase ended has at desk at_desk seen is_open (calls.fails now fails is) = vault_fails (told_by mid new id at.caller (calls.over at.call answer.VaultFault) at.at_caller (ap (λ (w : View S V). w.callers) is))
    in_phase ended has at desk at_desk seen is_open (calls.loses now ballot loses is) = no_memory (told_by mid new id at.caller (calls.over at.call (answer.NoMemory false)) at.at_caller (ap (λ (w : View S V). w.callers) is))

pub accepts_end : {S V : Type 0} (m : Meaning S V) → AcceptsEndByReplies m
accepts_end {S} {V} m first_ mid new id prepared replies round was steps by =
    let now = accept_steps m id first_ mid prepared replies round was steps in
    (now.0, now.1, in_phase now.0 now.1 by.at_round.of_call by.at_round.desk by.at_round.at_desk by.at_round.round by.at_round.is_open by.counts)
  where
    in_phase : (ended : Round) → AcceptsWith mid.desks id prepared replies ended → (of_call : OpenCallAt mid id) (desk : DeskView V) → IsAt mid.desks id desk → (seen : Round) → desk.round ≡ Some seen → calls.CountsOrEnds m mid id desk seen of_call.caller of_call.call new → AcceptEnds new id replies ended
    in_phase ended has at desk at_desk seen is_open (calls.counts now by outcome quorum confirmers proposed ends is) =
        let same : seen ≡ ended = some_is (sym is_open ∙ ap (λ (d : DeskView V). d.round) (at_one mid.desks id at_desk has.at_desk) ∙ has.is_open) in
        subst (AcceptEnds new id replies) same (done outcome (quorum_accepted seen prepared replies quorum (subst (IsAccepting prepared replies) (sym same) has.accepting))
        (told_by mid new id at.caller (calls.over at.call (answer.Done outcome.state outcome.took seen.ballot)) at.at_caller (ap (λ (w : View S V). w.callers) is)))
    in_phase ended has at desk at_desk seen is_open (calls.ends now verdict why verdict_is cause ends is) =
        let same : seen ≡ ended = some_is (sym is_open ∙ ap (λ (d : DeskView V). d.round) (at_one mid.desks id at_desk has.at_desk) ∙ has.is_open) in
        unsettled verdict why (subst (λ (r : Round). IsAcceptVerdict r.era r.ballot replies verdict) same (verdict_is.accept prepared replies (subst (IsAccepting prepared replies) (sym same) has.accepting))) cause
        (told_by mid new id at.caller (calls.over at.call (answer.Unsettled why)) at.at_caller (ap (λ (w : View S V). w.callers) is))

-- ---- the beginning
-- a call that was opened, or tries once more, was told nothing yet
not_told : {S V : Type 0} (old middle : View S V) (id : ℕ) (key : List ℕ) (program : List Clause) → calls.Opens old id key program middle → (caller : CallerView) (call : CallView) → IsAt middle.callers id caller → caller.call ≡ Some call → call.told ≡ None
not_told {S} {V} old middle id key program (calls.first was at none_open room is) caller call there is_call =
    let made : CallView = new_call key program (calls.round_marks (era_at old id) - 1) in
    let next : CallerView = record { number = suc was.number; call = Some made } in
    let same : next ≡ caller = at_one middle.callers id (subst (λ (l : List CallerView). IsAt l id next) (sym (ap (λ (w : View S V). w.callers) is)) (at_set old.callers id was next at)) there in
    ap (λ (c : CallView). c.told) (some_is (sym is_call ∙ ap (λ (c : CallerView). c.call) (sym same)))
not_told {S} {V} old middle id key program (calls.again was open_call reserved at open_is key_is program_is none_proposed met no_round room some is) caller call there is_call =
    let made : CallView = calls.tried_again open_call reserved in
    let next : CallerView = record was { call = Some made } in
    let same : next ≡ caller = at_one middle.callers id (subst (λ (l : List CallerView). IsAt l id next) (sym (ap (λ (w : View S V). w.callers) is)) (at_set old.callers id was next at)) there in
    ap (λ (c : CallView). c.told) (some_is (sym is_call ∙ ap (λ (c : CallerView). c.call) (sym same)))

pub begin_afresh : {S V : Type 0} (m : Meaning S V) → RoundsBeginAfresh m
begin_afresh {S} {V} m old new id key program by = in_round by.begins
  where
    idle_now : (desk now : DeskView V) → IsAt by.middle.desks id desk → now.round ≡ None → new.desks ≡ slice_set by.middle.desks id now → (seen : DeskView V) → IsAt new.desks id seen → seen.round ≡ None
    idle_now desk now at none_open same seen at_seen = ap (λ (d : DeskView V). d.round) (at_one new.desks id at_seen (desk_by by.middle new id desk now at same)) ∙ none_open

    in_round : calls.BeginsRound m by.middle id by.caller by.call new → BeginsAtMostOne new id
    in_round (calls.prepares desk now ballot round flow at up few begins sends is) = prepares round
        (record { desk = now; at_desk = desk_by by.middle new id desk now at (ap (λ (w : View S V). w.desks) is); is_open = ap (λ (d : DeskView V). d.round) begins.desk; preparing = begins.opened.1 })
        (record {
          caller = by.caller;
          at_caller = subst (λ (l : List CallerView). IsAt l id by.caller) (sym (ap (λ (w : View S V). w.callers) is)) by.at_caller;
          call = by.call;
          is_open = by.is_open;
          told_is = not_told old by.middle id key program by.opens by.caller by.call by.at_caller by.is_open;
        })
    in_round (calls.proposes desk now ready ride round outcome flow at up few begins made sends is) = accepts (record round { ride = ride })
        (record { desk = now; at_desk = desk_by by.middle new id desk now at (ap (λ (w : View S V). w.desks) is); is_open = ap (λ (d : DeskView V). d.round) begins.desk; accepting = ridden [] [] round ride begins.opened.1 })
        (told_by by.middle new id by.caller (calls.proposing by.call outcome) by.at_caller (ap (λ (w : View S V). w.callers) is))
    in_round (calls.stays told no_beginning no_round full is) =
        begins_none told (λ seen at_seen. (no_round seen (subst (λ (l : List (DeskView V)). IsAt l id seen) (ap (λ (w : View S V). w.desks) is) at_seen)).0)
        (told_by by.middle new id by.caller (calls.over by.call told) by.at_caller (ap (λ (w : View S V). w.callers) is))
    in_round (calls.spent desk now at none_open up no_promise spent kept now_is is) =
        begins_none answer.Spent (idle_now desk now at (ap (λ (d : DeskView V). d.round) now_is ∙ none_open) (ap (λ (w : View S V). w.desks) is)) (told_by by.middle new id by.caller (calls.over by.call answer.Spent) by.at_caller (ap (λ (w : View S V). w.callers) is))
    in_round (calls.fails desk now at none_open up fails is) =
        begins_none answer.VaultFault (idle_now desk now at (ap (λ (d : DeskView V). d.round) fails.desk) (ap (λ (w : View S V). w.desks) is)) (told_by by.middle new id by.caller (calls.over by.call answer.VaultFault) by.at_caller (ap (λ (w : View S V). w.callers) is))
    in_round (calls.loses desk now ballot at none_open up loses is) =
        begins_none (answer.NoMemory false) (idle_now desk now at (ap (λ (d : DeskView V). d.round) loses.desk) (ap (λ (w : View S V). w.desks) is)) (told_by by.middle new id by.caller (calls.over by.call (answer.NoMemory false)) by.at_caller (ap (λ (w : View S V). w.callers) is))
