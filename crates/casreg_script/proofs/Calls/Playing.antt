-- What each call of a round does to how far it has come.
use Rattle.std.proofs.Common.{◌≡◌, ◌+◌, ◌-◌, ℕ, suc, Bool, true, false, not, List, [], Option, None, Some, slice_get, slice_set, inl, inr, refl, sym, ap, subst, ◌∙◌}
use Rattle.std.specs.Prelude.{is_some, IsSome, IfSome, option_map, ◌⊎◌, ◌↔◌, Err, IsErrOf, if◌then◌else◌}
use Rattle.cas_ballot.specs.declared.ballot.Ballot.{Ballot}
use Rattle.cas_change.specs.declared.program.Clause.{Clause}
use Rattle.cas_change.specs.declared.outcome.Outcome.{Outcome}
use Rattle.cas_fate.specs.declared.fate.Verdict.{Verdict}
use Rattle.cas_flow.specs.Flow.{queue_at}
use Rattle.cas_flow.specs.declared.message.Message.{Message}
use Rattle.cas_proposer.specs.Desk.{DeskView}
use Rattle.cas_proposer.specs.Round.{is_preparing, has_quorum}
use Rattle.cas_proposer.specs.declared.round.Round.{Round}
use Rattle.cas_record.specs.declared.answer.Answer.{Answer}
use Rattle.cas_record.specs.declared.answer.Answer.TheVariants as answer
use Rattle.cas_record.specs.declared.answer.Cause.TheVariants as cause
use Rattle.cas_record.proofs.Logs.Eras.{le_or_lt}
use Rattle.cas_round.specs.declared.verdict.RoundVerdict.{RoundVerdict}
use Rattle.cas_round.specs.declared.verdict.RoundVerdict.TheVariants as verdict
use Rattle.cas_model.specs.Council.{Council}
use Rattle.cas_protocol.specs.Protocol.{is_done}
use Rattle.cas_model.specs.Step.{StepBegin, StepTurn, StepRefuseTurn, StepPropose, StepCount, StepEnd}
use Rattle.cas_model.specs.Stops.Step.{CrashesDesk, StepCrashProposer, of_client, of_operator, idle, closes, closed_by_crash, OpenCallAt}
use Rattle.cas_model.specs.Calls.Step as calls
use Rattle.cas_model.specs.Calls.Step.{most_marks, round_marks, marks_beside, IsFull, WasMet}
use Rattle.cas_model.specs.Frames.Step as frames
use Rattle.cas_model.specs.View.{Meaning, View, CallView, CallerView, IsAt, new_call, era_at}
use Rattle.cas_model.proofs.Places.{at_one, at_set, some_is}
use Rattle.cas_world.specs.Calls.Beginning.{HasNoCall, HasRound, MayBegin, first, another, is_refusal, BeginsOrNot}
use Rattle.cas_world.specs.Readers.{next_number, closed_in, told_if, IsVerdictIn}
use Rattle.cas_world.specs.Calls.Reading.{HasProposed}
use Rattle.cas_world.specs.World.{IsInPhase, WasTold}
use Rattle.casreg_script.specs.Calls.Changes.{IsRefused, full, no_memory, IsInAcceptPhase, HasQuorum, IsMet}
use Rattle.casreg_script.proofs.Calls.Keeping.{KeepsOthers, quiet_then, begin_keeps, refuse_keeps, propose_keeps, count_keeps, crash_keeps}
use Rattle.casreg_script.specs.Calls.Playing.{AskedCall, IsCallFor, HasBegun, IsPlaying, IsOver, is_conflict}

-- ---- who plays on
-- the same caller with another state of its call
for_on : {S V : Type 0} (old new : View S V) (id : ℕ) (asked : AskedCall) (was_call : CallView) → IsCallFor old id asked was_call → (caller : CallerView) (call next : CallView) → IsAt old.callers id caller → caller.call ≡ Some call
    → new.callers ≡ slice_set old.callers id (record caller { call = Some next }) → next.key ≡ call.key → next.program ≡ call.program → IsCallFor new id asked next
for_on old new id asked was_call was caller call next at is_open callers key program =
    let one : caller ≡ was.caller = at_one old.callers id at was.at_caller in
    let same_call : call ≡ was_call = some_is (sym is_open ∙ ap (λ (c : CallerView). c.call) one ∙ was.is_call) in
    record {
      caller = record caller { call = Some next };
      at_caller = subst (λ (l : List CallerView). IsAt l id (record caller { call = Some next })) (sym callers) (at_set old.callers id caller (record caller { call = Some next }) at);
      number = ap (λ (c : CallerView). c.number) one ∙ was.number;
      is_call = refl;
      key = key ∙ ap (λ (c : CallView). c.key) same_call ∙ was.key;
      program = program ∙ ap (λ (c : CallView). c.program) same_call ∙ was.program;
    }

-- the call that is asked for is the one that is open
pub same_call : {S V : Type 0} (old : View S V) (id : ℕ) (asked : AskedCall) (was_call : CallView) → IsCallFor old id asked was_call → (at : OpenCallAt old id) → at.call ≡ was_call
same_call old id asked was_call was at = some_is (sym at.is_open ∙ ap (λ (c : CallerView). c.call) (at_one old.callers id at.at_caller was.at_caller) ∙ was.is_call)

-- what a call that is open is told
told_on : {S V : Type 0} (new : View S V) (id : ℕ) (asked : AskedCall) (next : CallView) (told : Answer) → IsCallFor new id asked next → next.told ≡ Some told → WasTold new id asked.number told
told_on new id asked next told is tells = record { caller = is.caller; at_caller = is.at_caller; same_number = is.number; call = next; is_open = is.is_call; told = tells }

-- a call that keeps what was proposed, and a desk that keeps its round's phase
plays_on : {S V : Type 0} (old new : View S V) (id : ℕ) (asked : AskedCall) (proposed : Bool) (was : IsPlaying old id asked proposed) (caller : CallerView) (call next : CallView) → IsAt old.callers id caller → caller.call ≡ Some call
    → new.callers ≡ slice_set old.callers id (record caller { call = Some next }) → next.key ≡ call.key → next.program ≡ call.program → next.proposed ≡ call.proposed
    → (desk : DeskView V) → IsAt new.desks id desk → (round : Round) → desk.round ≡ Some round → is_preparing round.phase ≡ is_preparing was.round.phase → new.council.exchange ≡ None → IsPlaying new id asked proposed
plays_on old new id asked proposed was caller call next at is_open callers key program same desk at_desk round is_round phase quiet =
    let one : caller ≡ was.is_for.caller = at_one old.callers id at was.is_for.at_caller in
    let same_call : call ≡ was.call = some_is (sym is_open ∙ ap (λ (c : CallerView). c.call) one ∙ was.is_for.is_call) in
    record {
      call = next;
      is_for = for_on old new id asked was.call was.is_for caller call next at is_open callers key program;
      proposed_is = ap (λ (o : Option Outcome). is_some o) (same ∙ ap (λ (c : CallView). c.proposed) same_call) ∙ was.proposed_is;
      desk = desk;
      at_desk = at_desk;
      round = round;
      is_round = is_round;
      phase = phase ∙ was.phase;
      quiet = quiet;
    }

-- the desk stays
stays_on : {S V : Type 0} (old new : View S V) (id : ℕ) (asked : AskedCall) (proposed : Bool) → IsPlaying old id asked proposed → (caller : CallerView) (call next : CallView) → IsAt old.callers id caller → caller.call ≡ Some call
    → new.callers ≡ slice_set old.callers id (record caller { call = Some next }) → next.key ≡ call.key → next.program ≡ call.program → next.proposed ≡ call.proposed → new.desks ≡ old.desks → new.council.exchange ≡ None → IsPlaying new id asked proposed
stays_on old new id asked proposed was caller call next at is_open callers key program same desks quiet =
    plays_on old new id asked proposed was caller call next at is_open callers key program same was.desk (subst (λ (l : List (DeskView _)). IsAt l id was.desk) (sym desks) was.at_desk) was.round was.is_round refl quiet

-- ---- a turn
pub turn_plays : {S V : Type 0} (m : Meaning S V) (old new : View S V) (id : ℕ) (v : Verdict) (asked : AskedCall) (proposed : Bool) → IsPlaying old id asked proposed → StepTurn m old id v new → IsPlaying new id asked proposed
turn_plays {S} {V} m old new id v asked proposed was by = in_turn by.of_call by.front by.turn
  where
    in_turn : (of_call : OpenCallAt old id) (front : Message) → frames.TakesTurn m old id v front of_call.caller of_call.call new → IsPlaying new id asked proposed
    in_turn at front (frames.held fall same) = subst (λ (w : View S V). IsPlaying w id asked proposed) (sym same) was
    in_turn at front (frames.gone fall same) = subst (λ (w : View S V). IsPlaying w id asked proposed) (sym same)
        (stays_on old _ id asked proposed was at.caller at.call _ at.at_caller at.is_open refl refl refl refl refl was.quiet)
    in_turn at front (frames.answers request acceptor now reply fall is there table same) = subst (λ (w : View S V). IsPlaying w id asked proposed) (sym same)
        (stays_on old _ id asked proposed was at.caller at.call _ at.at_caller at.is_open refl refl refl refl refl was.quiet)
    in_turn at front (frames.finds_down request acceptor fall is there down same) = subst (λ (w : View S V). IsPlaying w id asked proposed) (sym same)
        (stays_on old _ id asked proposed was at.caller at.call _ at.at_caller at.is_open refl refl refl refl refl was.quiet)
    in_turn at front (frames.brings_down request acceptor now fall is there stops same) = subst (λ (w : View S V). IsPlaying w id asked proposed) (sym same)
        (stays_on old _ id asked proposed was at.caller at.call _ at.at_caller at.is_open refl refl refl refl refl was.quiet)
    in_turn at front (frames.arrives reply desk now round heard fall is there is_round hears same) =
        let one : desk ≡ was.desk = at_one old.desks id there was.at_desk in
        let same_round : round ≡ was.round = some_is (sym is_round ∙ ap (λ (d : DeskView V). d.round) one ∙ was.is_round) in
        subst (λ (w : View S V). IsPlaying w id asked proposed) (sym same)
        (plays_on old _ id asked proposed was at.caller at.call _ at.at_caller at.is_open refl refl refl refl now (at_set old.desks id desk now there) heard (ap (λ (d : DeskView V). d.round) hears.desk)
        (hears.hears.same_phase ∙ ap (λ (r : Round). is_preparing r.phase) same_round) was.quiet)

-- ---- no memory for a turn
pub turn_fails : {S V : Type 0} (m : Meaning S V) (old new : View S V) (id : ℕ) (asked : AskedCall) (proposed : Bool) → IsPlaying old id asked proposed → StepRefuseTurn m old id new → IsOver new id asked (answer.NoMemory proposed)
turn_fails {S} {V} m old new id asked proposed was by =
    let at = by.of_call in
    let has : is_some at.call.proposed ≡ proposed = ap (λ (c : CallView). is_some c.proposed) (same_call old id asked was.call was.is_for at) ∙ was.proposed_is in
    let next : CallView = calls.telling at.call (answer.NoMemory (is_some at.call.proposed)) in
    let is : IsCallFor new id asked next = for_on old new id asked was.call was.is_for at.caller at.call next at.at_caller at.is_open
    (ap (λ (w : View S V). w.callers) by.view ∙ ap (λ (l : List CallerView). slice_set l id (record at.caller { call = Some next })) (callers_stay by.refuses)) refl refl in
    record {
      call = next;
      is_for = is;
      was_told = told_on new id asked next (answer.NoMemory proposed) is (ap (λ (b : Bool). Some (answer.NoMemory b)) has);
      quiet = quiet_then old new id (refuse_keeps m old new id by) was.quiet;
      again = λ met told. absurd (cc told);
    }
  where
    callers_stay : {middle : View S V} → frames.FindsNoRoom m old middle → middle.callers ≡ old.callers
    callers_stay (frames.stays same) = ap (λ (w : View S V). w.callers) same
    callers_stay (frames.kept id acceptor now there finds same) = ap (λ (w : View S V). w.callers) same

-- ---- the round that has begun
pub round_plays : {S V : Type 0} (view : View S V) (id : ℕ) (asked : AskedCall) (proposed : Bool) → HasBegun view id asked → ((seen : CallerView) → slice_get view.callers id ≡ Some seen → IfSome seen.call (λ call. proposed ≡ is_some call.proposed))
    → ((desk : DeskView V) → slice_get view.desks id ≡ Some desk → IfSome desk.round (λ round. is_preparing round.phase ≡ not proposed)) → IsPlaying view id asked proposed
round_plays {S} {V} view id asked proposed was says phase = by_round was.desk.round refl was.is_open
  where
    by_round : (round : Option Round) → was.desk.round ≡ round → IsSome round → IsPlaying view id asked proposed
    by_round None is some = absurd (cc some)
    by_round (Some round) is some = record {
      call = was.call;
      is_for = was.is_for;
      proposed_is = sym (subst (λ (o : Option CallView). IfSome o (λ call. proposed ≡ is_some call.proposed)) was.is_for.is_call (says was.is_for.caller was.is_for.at_caller));
      desk = was.desk;
      at_desk = was.at_desk;
      round = round;
      is_round = is;
      phase = subst (λ (o : Option Round). IfSome o (λ r. is_preparing r.phase ≡ not proposed)) is (phase was.desk was.at_desk);
      quiet = was.quiet;
    }

-- a phase none of whose frames waits
pub in_phase_of : {S V : Type 0} (view : View S V) (id : ℕ) (asked : AskedCall) (proposed : Bool) → IsPlaying view id asked proposed → (queue_at view.flow id).messages ≡ [] → IsInPhase view id (not proposed)
in_phase_of view id asked proposed was none = record { desk = was.desk; at_desk = was.at_desk; round = was.round; is_round = was.is_round; phase = was.phase; none_waits = none }

pub is_accepting : {S V : Type 0} (view : View S V) (id : ℕ) (asked : AskedCall) → IsPlaying view id asked true → IsInAcceptPhase view id
is_accepting view id asked was = record { desk = was.desk; at_desk = was.at_desk; round = was.round; is_round = was.is_round; accepting = was.phase }

-- ---- a proposal
pub propose_plays : {S V : Type 0} (m : Meaning S V) (old new : View S V) (id : ℕ) (asked : AskedCall) (proposed : Bool) → IsPlaying old id asked proposed → HasProposed new id → StepPropose m old id new → IsPlaying new id asked true
propose_plays {S} {V} m old new id asked proposed was has by = in_phase by.at_round.of_call by.at_round.desk by.at_round.round by.proposes
  where
    quiet : new.council.exchange ≡ None
    quiet = quiet_then old new id (propose_keeps m old new id by) was.quiet

    ended : (now : DeskView V) → new.desks ≡ slice_set old.desks id now → now.round ≡ None → IsPlaying new id asked true
    ended now desks none =
        let there : IsAt new.desks id now = subst (λ (l : List (DeskView V)). IsAt l id now) (sym desks) (at_set old.desks id was.desk now was.at_desk) in
        let one : now ≡ has.desk = at_one new.desks id there has.at_desk in
        absurd (cc (sym none ∙ ap (λ (d : DeskView V). d.round) one ∙ has.is_round))

    in_phase : (of_call : OpenCallAt old id) (desk : DeskView V) (round : Round) → calls.ProposesOrEnds m old id desk round of_call.caller of_call.call new → IsPlaying new id asked true
    in_phase at desk round (calls.proposes now turned read by ride outcome flow quorum confirmers reads turns made sends same) = record {
      call = calls.proposing at.call outcome;
      is_for = for_on old new id asked was.call was.is_for at.caller at.call (calls.proposing at.call outcome) at.at_caller at.is_open (ap (λ (w : View S V). w.callers) same) refl refl;
      proposed_is = refl;
      desk = has.desk;
      at_desk = has.at_desk;
      round = has.round;
      is_round = has.is_round;
      phase = has.accepting;
      quiet = quiet;
    }
    in_phase at desk round (calls.ends now verdict told is refuses ends same) = ended now (ap (λ (w : View S V). w.desks) same) (ap (λ (d : DeskView V). d.round) ends.desk)
    in_phase at desk round (calls.fails now fails same) = ended now (ap (λ (w : View S V). w.desks) same) (ap (λ (d : DeskView V). d.round) fails.desk)
    in_phase at desk round (calls.loses now ballot loses same) = ended now (ap (λ (w : View S V). w.desks) same) (ap (λ (d : DeskView V). d.round) loses.desk)

-- nothing is proposed where nothing was
none_of : (o : Option Outcome) → is_some o ≡ false → o ≡ None
none_of None is = refl
none_of (Some x) is = absurd (cc is)

-- a prepare phase that ended without a proposal
pub propose_over : {S V : Type 0} (m : Meaning S V) (old new : View S V) (id : ℕ) (asked : AskedCall) (told : Answer) → IsPlaying old id asked false → StepPropose m old id new → ((caller : CallerView) → slice_get old.callers id ≡ Some caller → WasTold new id caller.number told) → IsOver new id asked told
propose_over {S} {V} m old new id asked told was by tells = record {
  call = (now_for by.at_round.of_call by.at_round.desk by.at_round.round by.proposes).0;
  is_for = (now_for by.at_round.of_call by.at_round.desk by.at_round.round by.proposes).1;
  was_told = subst (λ (n : ℕ). WasTold new id n told) was.is_for.number (tells was.is_for.caller was.is_for.at_caller);
  quiet = quiet_then old new id (propose_keeps m old new id by) was.quiet;
  again = in_phase by.at_round.of_call by.at_round.desk by.at_round.round by.proposes;
}
  where
    -- what the caller was told is what its call says
    is_told : (call : CallView) → IsCallFor new id asked call → call.told ≡ Some told
    is_told call is =
        let was_told = tells was.is_for.caller was.is_for.at_caller in
        let one : was_told.caller ≡ is.caller = at_one new.callers id was_told.at_caller is.at_caller in
        ap (λ (c : CallView). c.told) (some_is (sym is.is_call ∙ ap (λ (c : CallerView). c.call) (sym one) ∙ was_told.is_open)) ∙ was_told.told

    over_for : (at : OpenCallAt old id) (now : DeskView V) (one : Answer) → new.callers ≡ slice_set old.callers id (record at.caller { call = Some (calls.over at.call one) }) → IsCallFor new id asked (calls.over at.call one)
    over_for at now one callers = for_on old new id asked was.call was.is_for at.caller at.call (calls.over at.call one) at.at_caller at.is_open callers refl refl

    now_for : (of_call : OpenCallAt old id) (desk : DeskView V) (round : Round) → calls.ProposesOrEnds m old id desk round of_call.caller of_call.call new → (call : CallView) × IsCallFor new id asked call
    now_for at desk round (calls.proposes now turned read by ride outcome flow quorum confirmers reads turns made sends same) =
        (calls.proposing at.call outcome, for_on old new id asked was.call was.is_for at.caller at.call (calls.proposing at.call outcome) at.at_caller at.is_open (ap (λ (w : View S V). w.callers) same) refl refl)
    now_for at desk round (calls.ends now verdict one is refuses ends same) = (calls.over at.call one, over_for at now one (ap (λ (w : View S V). w.callers) same))
    now_for at desk round (calls.fails now fails same) = (calls.over at.call answer.VaultFault, over_for at now answer.VaultFault (ap (λ (w : View S V). w.callers) same))
    now_for at desk round (calls.loses now ballot loses same) = (calls.over at.call (answer.NoMemory false), over_for at now (answer.NoMemory false) (ap (λ (w : View S V). w.callers) same))

    in_phase : (of_call : OpenCallAt old id) (desk : DeskView V) (round : Round) → calls.ProposesOrEnds m old id desk round of_call.caller of_call.call new → (met : Ballot) → told ≡ answer.Conflict met → MayBegin new id asked.number asked.key asked.program
    in_phase at desk round (calls.proposes now turned read by ride outcome flow quorum confirmers reads turns made sends same) met conflict =
        let is = for_on old new id asked was.call was.is_for at.caller at.call (calls.proposing at.call outcome) at.at_caller at.is_open (ap (λ (w : View S V). w.callers) same) refl refl in
        absurd (cc (is_told (calls.proposing at.call outcome) is))
    in_phase at desk round (calls.ends now verdict one is refuses ends same) met conflict =
        let for_it = over_for at now one (ap (λ (w : View S V). w.callers) same) in
        let none : at.call.proposed ≡ None = none_of at.call.proposed (ap (λ (c : CallView). is_some c.proposed) (same_call old id asked was.call was.is_for at) ∙ was.proposed_is) in
        another for_it.caller (calls.over at.call one) for_it.at_caller for_it.is_call (sym for_it.number) for_it.key for_it.program none
        (subst WasMet (sym (is_told (calls.over at.call one) for_it ∙ ap (λ (a : Answer). Some a) conflict)) tt)
        (λ seen at_seen. ap (λ (d : DeskView V). d.round) (at_one new.desks id at_seen (subst (λ (l : List (DeskView V)). IsAt l id now) (sym (ap (λ (w : View S V). w.desks) same)) (at_set old.desks id was.desk now was.at_desk))) ∙ ap (λ (d : DeskView V). d.round) ends.desk)
    in_phase at desk round (calls.fails now fails same) met conflict =
        absurd (cc (is_told (calls.over at.call answer.VaultFault) (over_for at now answer.VaultFault (ap (λ (w : View S V). w.callers) same)), conflict))
    in_phase at desk round (calls.loses now ballot loses same) met conflict =
        absurd (cc (is_told (calls.over at.call (answer.NoMemory false)) (over_for at now (answer.NoMemory false) (ap (λ (w : View S V). w.callers) same)), conflict))

-- ---- the end
pub end_closes : {S V : Type 0} (m : Meaning S V) (old new : View S V) (id : ℕ) (told : Answer) → StepEnd m old id told new → HasNoCall new id
end_closes {S} {V} m old new id told by = record {
  caller = record by.of_call.caller { call = None };
  at_caller = subst (λ (v : View S V). IsAt v.callers id (record by.of_call.caller { call = None })) (sym by.ends.view) (at_set old.callers id by.of_call.caller (record by.of_call.caller { call = None }) by.of_call.at_caller);
  none_open = refl;
}

-- ---- none of them makes a proposer more
pub turn_greatest : {S V : Type 0} (m : Meaning S V) (old new : View S V) (id : ℕ) (v : Verdict) → StepTurn m old id v new → new.last_proposer ≡ old.last_proposer
turn_greatest {S} {V} m old new id v by = in_turn by.of_call by.front by.turn
  where
    in_turn : (of_call : OpenCallAt old id) (front : Message) → frames.TakesTurn m old id v front of_call.caller of_call.call new → new.last_proposer ≡ old.last_proposer
    in_turn at front (frames.held fall same) = ap (λ (w : View S V). w.last_proposer) same
    in_turn at front (frames.gone fall same) = ap (λ (w : View S V). w.last_proposer) same
    in_turn at front (frames.answers request acceptor now reply fall is there table same) = ap (λ (w : View S V). w.last_proposer) same
    in_turn at front (frames.finds_down request acceptor fall is there down same) = ap (λ (w : View S V). w.last_proposer) same
    in_turn at front (frames.brings_down request acceptor now fall is there stops same) = ap (λ (w : View S V). w.last_proposer) same
    in_turn at front (frames.arrives reply desk now round heard fall is there is_round hears same) = ap (λ (w : View S V). w.last_proposer) same

pub no_begin_idle : {S V : Type 0} (m : Meaning S V) (old new : View S V) (id : ℕ) (key : List ℕ) → calls.RefusesCall m old id key new → HasNoCall old id → HasNoCall new id
no_begin_idle {S} {V} m old new id key (calls.stays told council refusal anew same) none =
    record { caller = none.caller; at_caller = subst (λ (v : View S V). IsAt v.callers id none.caller) (sym same) none.at_caller; none_open = none.none_open }
no_begin_idle {S} {V} m old new id key (calls.loses caller desk now ballot council at_caller at_desk no_round up loses anew same) none =
    record { caller = none.caller; at_caller = subst (λ (v : View S V). IsAt v.callers id none.caller) (sym same) none.at_caller; none_open = none.none_open }

-- ---- what is told
-- what the caller was told is what its call says
pub told_in : {S V : Type 0} (view : View S V) (id number : ℕ) (told : Answer) → WasTold view id number told → (caller : CallerView) (call : CallView) → IsAt view.callers id caller → caller.call ≡ Some call → call.told ≡ Some told
told_in view id number told was caller call at is_call =
    let one : was.caller ≡ caller = at_one view.callers id was.at_caller at in
    ap (λ (c : CallView). c.told) (some_is (sym is_call ∙ ap (λ (c : CallerView). c.call) (sym one) ∙ was.is_open)) ∙ was.told

met_conflict : (told : Answer) → WasMet (Some told) → is_conflict told ≡ true
met_conflict (answer.Conflict met) is = refl
met_conflict (answer.Done state took ballot) is = absurd is
met_conflict (answer.Aged least) is = absurd is
met_conflict (answer.Full acceptor) is = absurd is
met_conflict (answer.Short got need) is = absurd is
met_conflict (answer.Moved era) is = absurd is
met_conflict answer.Crashed is = absurd is
met_conflict (answer.Unsettled why) is = absurd is
met_conflict answer.Down is = absurd is
met_conflict answer.VaultFault is = absurd is
met_conflict answer.Spent is = absurd is
met_conflict answer.RecordFull is = absurd is
met_conflict (answer.NoMemory proposed) is = absurd is

conflict_met : (told : Answer) → is_conflict told ≡ true → (met : Ballot) × (told ≡ answer.Conflict met)
conflict_met (answer.Conflict met) is = (met, refl)
conflict_met (answer.Done state took ballot) is = absurd (cc is)
conflict_met (answer.Aged least) is = absurd (cc is)
conflict_met (answer.Full acceptor) is = absurd (cc is)
conflict_met (answer.Short got need) is = absurd (cc is)
conflict_met (answer.Moved era) is = absurd (cc is)
conflict_met answer.Crashed is = absurd (cc is)
conflict_met (answer.Unsettled why) is = absurd (cc is)
conflict_met answer.Down is = absurd (cc is)
conflict_met answer.VaultFault is = absurd (cc is)
conflict_met answer.Spent is = absurd (cc is)
conflict_met answer.RecordFull is = absurd (cc is)
conflict_met (answer.NoMemory proposed) is = absurd (cc is)

-- a call that was told of a conflict is met, and no other
pub is_met : {S V : Type 0} (view : View S V) (id number : ℕ) (told : Answer) → WasTold view id number told → is_conflict told ≡ true → IsMet view id
is_met view id number told was conflict = record {
  of_call = record { caller = was.caller; at_caller = was.at_caller; call = was.call; is_open = was.is_open };
  met = subst WasMet (sym (was.told ∙ ap (λ (a : Answer). Some a) (conflict_met told conflict).1)) tt;
}

pub met_is : {S V : Type 0} (view : View S V) (id number : ℕ) (told : Answer) → WasTold view id number told → IsMet view id → is_conflict told ≡ true
met_is view id number told was met = met_conflict told (subst WasMet (told_in view id number told was met.of_call.caller met.of_call.call met.of_call.at_caller met.of_call.is_open) met.met)

pub not_met : {S V : Type 0} (view : View S V) (id number tries : ℕ) (told : Answer) → WasTold view id number told → is_conflict told ≡ false → IsMet view id → tries ≡ 1
not_met view id number tries told was is met = absurd (cc (is, met_is view id number told was met))

-- so another round may begin
pub may_again : {S V : Type 0} (view : View S V) (id : ℕ) (asked : AskedCall) (told : Answer) → IsOver view id asked told → is_conflict told ≡ true → MayBegin view id asked.number asked.key asked.program
may_again view id asked told over is = let met = conflict_met told is in over.again met.0 met.1

-- ---- a count
pub count_over : {S V : Type 0} (m : Meaning S V) (old new : View S V) (id : ℕ) (asked : AskedCall) (told : Answer) → IsPlaying old id asked true → StepCount m old id new → ((caller : CallerView) → slice_get old.callers id ≡ Some caller → WasTold new id caller.number told) → IsOver new id asked told
count_over {S} {V} m old new id asked told was by tells = record {
  call = (now_for by.at_round.of_call by.at_round.desk by.at_round.round by.counts).0;
  is_for = (now_for by.at_round.of_call by.at_round.desk by.at_round.round by.counts).1;
  was_told = subst (λ (n : ℕ). WasTold new id n told) was.is_for.number (tells was.is_for.caller was.is_for.at_caller);
  quiet = quiet_then old new id (count_keeps m old new id by) was.quiet;
  again = in_phase by.at_round.of_call by.at_round.desk by.at_round.round by.counts;
}
  where
    over_for : (at : OpenCallAt old id) (one : Answer) → new.callers ≡ slice_set old.callers id (record at.caller { call = Some (calls.over at.call one) }) → (call : CallView) × IsCallFor new id asked call
    over_for at one callers = (calls.over at.call one, for_on old new id asked was.call was.is_for at.caller at.call (calls.over at.call one) at.at_caller at.is_open callers refl refl)

    now_for : (of_call : OpenCallAt old id) (desk : DeskView V) (round : Round) → calls.CountsOrEnds m old id desk round of_call.caller of_call.call new → (call : CallView) × IsCallFor new id asked call
    now_for at desk round (calls.counts now by outcome quorum confirmers proposed ends same) = over_for at _ (ap (λ (w : View S V). w.callers) same)
    now_for at desk round (calls.ends now verdict why is cause ends same) = over_for at _ (ap (λ (w : View S V). w.callers) same)

    not_so : (at : OpenCallAt old id) (one : Answer) (met : Ballot) → new.callers ≡ slice_set old.callers id (record at.caller { call = Some (calls.over at.call one) }) → told ≡ answer.Conflict met → one ≡ answer.Conflict met
    not_so at one met callers conflict =
        let is = for_on old new id asked was.call was.is_for at.caller at.call (calls.over at.call one) at.at_caller at.is_open callers refl refl in
        some_is (told_in new id was.is_for.caller.number told (tells was.is_for.caller was.is_for.at_caller) is.caller (calls.over at.call one) is.at_caller is.is_call) ∙ conflict

    in_phase : (of_call : OpenCallAt old id) (desk : DeskView V) (round : Round) → calls.CountsOrEnds m old id desk round of_call.caller of_call.call new → (met : Ballot) → told ≡ answer.Conflict met → MayBegin new id asked.number asked.key asked.program
    in_phase at desk round (calls.counts now by outcome quorum confirmers proposed ends same) met conflict = absurd (cc (not_so at _ met (ap (λ (w : View S V). w.callers) same) conflict))
    in_phase at desk round (calls.ends now verdict why is cause ends same) met conflict = absurd (cc (not_so at _ met (ap (λ (w : View S V). w.callers) same) conflict))

-- ---- a crash
closed_told : (proposed : Bool) → told_if true (Some (if proposed then answer.Unsettled cause.Crashed else answer.Crashed)) ≡ Some (if proposed then answer.Unsettled cause.Crashed else answer.Crashed)
closed_told true = refl
closed_told false = refl

crashed_not_met : (proposed : Bool) (met : Ballot) → (if proposed then answer.Unsettled cause.Crashed else answer.Crashed) ≡ answer.Conflict met → ⊥
crashed_not_met true met is = absurd (cc is)
crashed_not_met false met is = absurd (cc is)

crashed_not_done : (proposed : Bool) → is_done (if proposed then answer.Unsettled cause.Crashed else answer.Crashed) ≡ false
crashed_not_done true = refl
crashed_not_done false = refl

-- what the caller of the round is told, as its closing shows
pub record IsCrashed {S V : Type 0} (view : View S V) (id : ℕ) (asked : AskedCall) (closed : Option Answer) : Type 0 where
  pub told : Answer
  pub is : closed ≡ Some told
  pub over : IsOver view id asked told
  pub not_done : is_done told ≡ false

crash_of : {S V : Type 0} (m : Meaning S V) (old middle new : View S V) (id : ℕ) (asked : AskedCall) (proposed : Bool) (closed : Option Answer) → IsPlaying old id asked proposed → CrashesDesk m old id middle → new.callers ≡ middle.callers → new.council.exchange ≡ None
    → ((caller : CallerView) → IsAt new.callers id caller → closed ≡ closed_in caller.call) → IsCrashed new id asked closed
crash_of {S} {V} m old middle new id asked proposed closed was (idle desk now at none crashes same) callers quiet says =
    absurd (cc (sym none ∙ ap (λ (d : DeskView V). d.round) (at_one old.desks id at was.at_desk) ∙ was.is_round))
crash_of {S} {V} m old middle new id asked proposed closed was (closes desk now round at there is_round crashes same) callers quiet says =
    let told : Answer = if is_some at.call.proposed then answer.Unsettled cause.Crashed else answer.Crashed in
    let is = for_on old new id asked was.call was.is_for at.caller at.call (closed_by_crash at.call) at.at_caller at.is_open (callers ∙ ap (λ (w : View S V). w.callers) same) refl refl in
    record {
      told = told;
      is = says is.caller is.at_caller ∙ ap closed_in is.is_call ∙ closed_told (is_some at.call.proposed);
      over = record { call = closed_by_crash at.call; is_for = is; was_told = told_on new id asked (closed_by_crash at.call) told is refl; quiet = quiet; again = λ met conflict. absurd (crashed_not_met (is_some at.call.proposed) met conflict) };
      not_done = crashed_not_done (is_some at.call.proposed);
    }

pub crash_over : {S V : Type 0} (m : Meaning S V) (old new : View S V) (id : ℕ) (asked : AskedCall) (proposed : Bool) (closed : Option Answer) → IsPlaying old id asked proposed → StepCrashProposer m old id new → ((caller : CallerView) → IsAt new.callers id caller → closed ≡ closed_in caller.call)
    → IsCrashed new id asked closed
crash_over m old new id asked proposed closed was (of_client client crashes) says =
    crash_of m old new new id asked proposed closed was crashes refl (quiet_then old new id (crash_keeps m old new id (of_client client crashes)) was.quiet) says
crash_over {S} {V} m old new id asked proposed closed was (of_operator middle operator crashes same) says =
    crash_of m old middle new id asked proposed closed was crashes (ap (λ (w : View S V). w.callers) same) (quiet_then old new id (crash_keeps m old new id (of_operator middle operator crashes same)) was.quiet) says

-- ---- a quorum
verdict_shown : (r : Option RoundVerdict) (round : Round) → IsVerdictIn (Some round) r → (r ≡ Some verdict.Quorum) ↔ (has_quorum round.phase ≡ true)
verdict_shown None round is = absurd is
verdict_shown (Some v) round is = (λ same. is.1.0 (some_is same), λ quorum. ap (λ (w : RoundVerdict). Some w) (is.1.1 quorum))

pub quorum_shown : {S V : Type 0} (view : View S V) (id : ℕ) (asked : AskedCall) (proposed : Bool) (r : Option RoundVerdict) → IsPlaying view id asked proposed → ((desk : DeskView V) → IsAt view.desks id desk → IsVerdictIn desk.round r) → (r ≡ Some verdict.Quorum) ↔ HasQuorum view id
quorum_shown {S} {V} view id asked proposed r was says =
    let shown = verdict_shown r was.round (subst (λ (o : Option Round). IsVerdictIn o r) was.is_round (says was.desk was.at_desk)) in (
      λ is. record { desk = was.desk; at_desk = was.at_desk; round = was.round; is_round = was.is_round; quorum = shown.0 is },
      λ has. shown.1 (subst (λ (o : Round). has_quorum o.phase ≡ true) (some_is (sym has.is_round ∙ ap (λ (d : DeskView V). d.round) (at_one view.desks id has.at_desk was.at_desk) ∙ was.is_round)) has.quorum),
    )

-- ---- a call begins
pub begun_first : {S V : Type 0} (world : View S V) (id call : ℕ) (key : List ℕ) (program : List Clause) → HasNoCall world id → option_map next_number (slice_get world.callers id) ≡ Some call → MayBegin world id call key program
begun_first world id call key program none next =
    first none.caller none.at_caller none.none_open (sym (some_is (ap (λ (o : Option CallerView). option_map next_number o) (sym none.at_caller) ∙ next)))

-- what the call is that was opened, or goes on
record IsOpenedFor (call : CallView) (key : List ℕ) (program : List Clause) : Type 0 where
  key_is : call.key ≡ key
  program_is : call.program ≡ program
  not_told : call.told ≡ None

opened_by : {S V : Type 0} (old middle : View S V) (id : ℕ) (key : List ℕ) (program : List Clause) → calls.Opens old id key program middle → (caller : CallerView) (call : CallView) → IsAt middle.callers id caller → caller.call ≡ Some call → IsOpenedFor call key program
opened_by {S} {V} old middle id key program (calls.first was at none room same) caller call there is_call =
    let made : CallView = new_call key program (round_marks (era_at old id) - 1) in
    let next : CallerView = record { number = suc was.number; call = Some made } in
    let one : next ≡ caller = at_one middle.callers id (subst (λ (l : List CallerView). IsAt l id next) (sym (ap (λ (w : View S V). w.callers) same)) (at_set old.callers id was next at)) there in
    subst (λ (c : CallView). IsOpenedFor c key program) (some_is (ap (λ (c : CallerView). c.call) one ∙ is_call)) (record { key_is = refl; program_is = refl; not_told = refl })
opened_by {S} {V} old middle id key program (calls.again was open_call reserved at is key_is program_is none met no_round room some same) caller call there is_call =
    let made : CallView = calls.tried_again open_call reserved in
    let next : CallerView = record was { call = Some made } in
    let one : next ≡ caller = at_one middle.callers id (subst (λ (l : List CallerView). IsAt l id next) (sym (ap (λ (w : View S V). w.callers) same)) (at_set old.callers id was next at)) there in
    subst (λ (c : CallView). IsOpenedFor c key program) (some_is (ap (λ (c : CallerView). c.call) one ∙ is_call)) (record { key_is = key_is; program_is = program_is; not_told = refl })

-- the call that has begun or goes on, which is not told of a conflict
record BeginsCall {S V : Type 0} (view : View S V) (id : ℕ) (key : List ℕ) (program : List Clause) : Type 0 where
  caller : CallerView
  at_caller : IsAt view.callers id caller
  call : CallView
  is_call : caller.call ≡ Some call
  key_is : call.key ≡ key
  program_is : call.program ≡ program
  no_conflict : WasMet call.told → ⊥

no_beginning : (told : Answer) → calls.IsNoBeginning told → WasMet (Some told) → ⊥
no_beginning told is met = subst calls.IsNoBeginning (conflict_met told (met_conflict told met)).1 is

begins_for : {S V : Type 0} (m : Meaning S V) (old new : View S V) (id : ℕ) (key : List ℕ) (program : List Clause) → StepBegin m old id key program new → BeginsCall new id key program
begins_for {S} {V} m old new id key program by = in_round by.begins
  where
    opened : IsOpenedFor by.call key program
    opened = opened_by old by.middle id key program by.opens by.caller by.call by.at_caller by.is_open

    same_callers : new.callers ≡ by.middle.callers → BeginsCall new id key program
    same_callers same = record {
      caller = by.caller;
      at_caller = subst (λ (l : List CallerView). IsAt l id by.caller) (sym same) by.at_caller;
      call = by.call;
      is_call = by.is_open;
      key_is = opened.key_is;
      program_is = opened.program_is;
      no_conflict = λ met. subst WasMet opened.not_told met;
    }

    with_next : (next : CallView) → new.callers ≡ slice_set by.middle.callers id (record by.caller { call = Some next }) → next.key ≡ by.call.key → next.program ≡ by.call.program → (WasMet next.told → ⊥) → BeginsCall new id key program
    with_next next same key_same program_same no_conflict = record {
      caller = record by.caller { call = Some next };
      at_caller = subst (λ (l : List CallerView). IsAt l id (record by.caller { call = Some next })) (sym same) (at_set by.middle.callers id by.caller (record by.caller { call = Some next }) by.at_caller);
      call = next;
      is_call = refl;
      key_is = key_same ∙ opened.key_is;
      program_is = program_same ∙ opened.program_is;
      no_conflict = no_conflict;
    }

    in_round : calls.BeginsRound m by.middle id by.caller by.call new → BeginsCall new id key program
    in_round (calls.prepares desk now ballot round flow at up few begins sends same) = same_callers (ap (λ (w : View S V). w.callers) same)
    in_round (calls.proposes desk now ready ride round outcome flow at up few begins made sends same) = with_next (calls.proposing by.call outcome) (ap (λ (w : View S V). w.callers) same) refl refl (λ met. met)
    in_round (calls.stays told is no_round why_full same) = with_next (calls.over by.call told) (ap (λ (w : View S V). w.callers) same) refl refl (no_beginning told is)
    in_round (calls.spent desk now at none up no_promise spent kept is same) = with_next (calls.over by.call answer.Spent) (ap (λ (w : View S V). w.callers) same) refl refl (λ met. met)
    in_round (calls.fails desk now at none up fails same) = with_next (calls.over by.call answer.VaultFault) (ap (λ (w : View S V). w.callers) same) refl refl (λ met. met)
    in_round (calls.loses desk now ballot at none up loses same) = with_next (calls.over by.call (answer.NoMemory false)) (ap (λ (w : View S V). w.callers) same) refl refl (λ met. met)

pub has_begun : {S V : Type 0} (m : Meaning S V) (old new : View S V) (id number : ℕ) (key : List ℕ) (program : List Clause) → old.council.exchange ≡ None → StepBegin m old id key program new → HasRound new id number → HasBegun new id (record { number = number; key = key; program = program })
has_begun m old new id number key program quiet by has =
    let b = begins_for m old new id key program by in
    record {
      call = b.call;
      is_for = record {
        caller = b.caller;
        at_caller = b.at_caller;
        number = ap (λ (c : CallerView). c.number) (at_one new.callers id b.at_caller has.at_caller) ∙ has.same_number;
        is_call = b.is_call;
        key = b.key_is;
        program = b.program_is;
      };
      desk = has.desk;
      at_desk = has.at_desk;
      is_open = has.is_open;
      quiet = quiet_then old new id (begin_keeps m old new id key program by) quiet;
    }

-- a call that is told as it begins why it has no round is not told of a conflict
pub begun_not_met : {S V : Type 0} (m : Meaning S V) (old new : View S V) (id : ℕ) (key : List ℕ) (program : List Clause) (P : Type 0) → StepBegin m old id key program new → IsMet new id → P
begun_not_met m old new id key program P by met =
    let b = begins_for m old new id key program by in
    let one : met.of_call.caller ≡ b.caller = at_one new.callers id met.of_call.at_caller b.at_caller in
    absurd (b.no_conflict (subst (λ (c : CallView). WasMet c.told) (some_is (sym met.of_call.is_open ∙ ap (λ (c : CallerView). c.call) one ∙ b.is_call)) met.met))

-- so its caller was told that
pub begun_over : {S V : Type 0} (m : Meaning S V) (old new : View S V) (id number : ℕ) (key : List ℕ) (program : List Clause) (told : Answer) → old.council.exchange ≡ None → StepBegin m old id key program new → WasTold new id number told
    → IsOver new id (record { number = number; key = key; program = program }) told
begun_over m old new id number key program told quiet by was =
    let b = begins_for m old new id key program by in
    record {
      call = b.call;
      is_for = record {
        caller = b.caller;
        at_caller = b.at_caller;
        number = ap (λ (c : CallerView). c.number) (at_one new.callers id b.at_caller was.at_caller) ∙ was.same_number;
        is_call = b.is_call;
        key = b.key_is;
        program = b.program_is;
      };
      was_told = was;
      quiet = quiet_then old new id (begin_keeps m old new id key program by) quiet;
      again = λ met conflict. absurd (b.no_conflict (subst WasMet (sym (told_in new id number told was b.caller b.call b.at_caller b.is_call ∙ ap (λ (a : Answer). Some a) conflict)) tt));
    }

-- a call that is refused as it would begin
refused_by : {S V : Type 0} {A : Type 0} (world : View S V) (id : ℕ) (told : Answer) → (IsErrOf {T = A} (Err told) answer.RecordFull ↔ IsFull world id)
    → (told ≡ answer.RecordFull) ⊎ (told ≡ answer.NoMemory false) → IsRefused world id told
refused_by world id told cause (inl is) = subst (IsRefused world id) (sym is) (full (cause.0 (ap (λ (a : Answer). Err a) is)))
refused_by {S} {V} {A} world id told cause (inr is) = subst (IsRefused world id) (sym is) (no_memory (elim (le_or_lt (marks_beside world id + round_marks (era_at world id)) most_marks) [
  | inl low ↦ low
  | inr more ↦ absurd (other (cause.1 more))
]))
  where
    other : IsErrOf {T = A} (Err told) answer.RecordFull → ⊥
    other full_is = let same : told ≡ answer.RecordFull = cc full_is in absurd (cc (same, is))

pub refusal_is : {S V : Type 0} {A : Type 0} (m : Meaning S V) (old new : View S V) (id number : ℕ) (key : List ℕ) (program : List Clause) (told : Answer) → HasNoCall old id → is_refusal told ≡ true
    → (IsErrOf {T = A} (Err told) answer.RecordFull ↔ IsFull old id)
    → BeginsOrNot {A = A} m old id number key program (Err told) new → IsRefused old id told × calls.RefusesCall m old id key new × HasNoCall new id × calls.Rescans old.council id key told new.council
refusal_is m old new id number key program told none is cause (inl begun) = absurd (cc (begun.2 none, is))
refusal_is m old new id number key program told none is cause (inr not_begun) = (refused_by old id told cause not_begun.2, not_begun.0, no_begin_idle m old new id key not_begun.0 none, not_begun.3)

pub told_is : {S V : Type 0} (A : Type 0) (m : Meaning S V) (old new : View S V) (id number : ℕ) (key : List ℕ) (program : List Clause) (told : Answer) → is_refusal told ≡ false
    → BeginsOrNot {A = A} m old id number key program (Err told) new → StepBegin m old id key program new × WasTold new id number told
told_is A m old new id number key program told is (inl begun) = (begun.0, begun.1)
told_is A m old new id number key program told is (inr not_begun) = absurd (elim not_begun.2 [
  | inl full_is ↦ cc (ap is_refusal full_is, is)
  | inr none_is ↦ cc (ap is_refusal none_is, is)
])

-- another round of a call that is open
pub again_is : {S V : Type 0} (A : Type 0) (m : Meaning S V) (old new : View S V) (id number before : ℕ) (key : List ℕ) (program : List Clause) (told last : Answer) → WasTold old id before last
    → BeginsOrNot {A = A} m old id number key program (Err told) new → StepBegin m old id key program new × WasTold new id number told
again_is A m old new id number before key program told last was (inl begun) = (begun.0, begun.1)
again_is A m old new id number before key program told last was (inr not_begun) =
    absurd (cc (sym not_begun.1.none_open ∙ ap (λ (c : CallerView). c.call) (at_one old.callers id not_begun.1.at_caller was.at_caller) ∙ was.is_open))

-- ---- a call ends
-- the key that it was for is proposed anew with it, if it is due
pub ends_rescan : {S V : Type 0} (m : Meaning S V) (old told new : View S V) (id : ℕ) (asked : AskedCall) (answer : Answer) → KeepsOthers old told id → old.council.exchange ≡ None → IsOver told id asked answer → StepEnd m told id answer new
    → calls.Rescans old.council id asked.key answer new.council
ends_rescan {S} {V} m old told new id asked answer keeps quiet over by =
    let key : by.of_call.call.key ≡ asked.key = ap (λ (c : CallView). c.key) (same_call told id asked over.call over.is_for by.of_call) ∙ over.is_for.key in
    subst (λ (c : Council). calls.Rescans c id asked.key answer new.council) (keeps.council quiet)
    (subst (λ (c : Council). calls.Rescans told.council id asked.key answer c) (sym (ap (λ (w : View S V). w.council) by.ends.view)) (subst (λ (k : List ℕ). calls.Rescans told.council id k answer by.ends.council) key by.ends.rescans))
