-- What stays of a proposer as others go on: its own frames, and what its caller's call proposed.
use Rattle.std.proofs.Common.{◌≡◌, ◌≢◌, ℕ, List, Some, slice_set, refl, sym, ap, subst, ◌∙◌, inl, inr}
use Rattle.std.specs.Prelude.{◌⊎◌, is_some}
use Rattle.cas_change.specs.declared.outcome.Outcome.{Outcome}
use Rattle.cas_change.specs.declared.program.Clause.{Clause}
use Rattle.cas_fate.specs.declared.fate.Verdict.{Verdict}
use Rattle.cas_flow.specs.Flow.{FlowView, queue_at, queue_after, taken, emptied, abandoned}
use Rattle.cas_flow.specs.Message.{head_of}
use Rattle.cas_flow.specs.Queue.{QueueView, pushed}
use Rattle.cas_flow.specs.declared.message.Message.{Message}
use Rattle.cas_flow.specs.declared.message.Message.TheVariants as message
use Rattle.cas_proposer.specs.Desk.{DeskView}
use Rattle.cas_proposer.specs.declared.round.Round.{Round}
use Rattle.cas_record.specs.declared.answer.Answer.{Answer}
use Rattle.cas_record.specs.declared.answer.Answer.TheVariants as answer
use Rattle.cas_slot.specs.declared.message.Reply.{Reply}
use Rattle.cas_model.specs.Step as step
use Rattle.cas_model.specs.Step.{StepBegin, StepTurn, StepRefuseTurn, StepPropose, StepCount, StepEnd, StepStray, StepRestartAcceptor, StepRestartProposer}
use Rattle.cas_model.specs.Calls.Desks.{Crashes, EntersEra, FailsToEnter, Renews, FailsToRenew}
use Rattle.cas_model.specs.Stops.Step as stops
use Rattle.cas_model.specs.Stops.Step.{OpenCallAt, closed_by, closed_by_crash, LeavesRound, GoesDown}
use Rattle.cas_model.specs.Eras.Step as plans
use Rattle.cas_model.specs.Eras.Step.{Welcomes, StepOpenPlan, OpensPlan, StepEnterEra, EntersNext}
use Rattle.cas_record.specs.declared.answer.Cause.TheVariants as cause
use Rattle.cas_record.specs.declared.operator.Asked.{Asked}
use Rattle.cas_record.specs.declared.operator.OpAnswer.{OpAnswer}
use Rattle.cas_model.specs.Calls.Step as calls
use Rattle.cas_model.specs.Council.{Question, exchange_place}
use Rattle.cas_model.specs.Collection.State.{tomb_of}
use Rattle.cas_model.specs.Collection.Step as collect
use Rattle.cas_model.specs.Collection.Step.{keep_always, StepBeginCollect, StepGatherRound, StepRenew, StepAskCollect, StepGatherCollect}
use Rattle.cas_model.specs.Exchanges.Step as council
use Rattle.cas_model.specs.Exchanges.Step.{StepTell, StepAskAll, StepTurnExchange, StepGather}
use Rattle.cas_model.specs.Frames.Step as frames
use Rattle.cas_model.specs.Frames.Step.{replied_flow}
use Rattle.cas_model.specs.View.{Meaning, View, CallView, CallerView, IsAt}
use Rattle.cas_model.proofs.Places.{at_one, at_set, some_is, queue_other, same_or_not}
use Rattle.cas_model_causes.specs.Calls.Rounds.{IsOwnCall}
use Rattle.cas_model_causes.specs.Calls.Undisturbed.{CallHasProposed}
use Rattle.cas_model_causes.proofs.Calls.Hearing.{at_other}

-- ---- what was proposed
abbrev pub KeepsProposed : List CallerView → List CallerView → ℕ → Type 0
KeepsProposed old new id = (outcome : Outcome) → CallHasProposed old id outcome → CallHasProposed new id outcome

keeps_same : (old new : List CallerView) (id : ℕ) → new ≡ old → KeepsProposed old new id
keeps_same old new id same outcome was = subst (λ (l : List CallerView). CallHasProposed l id outcome) (sym same) was

-- another caller changes
keeps_other : (old new : List CallerView) (id place : ℕ) (next : CallerView) → id ≢ place → new ≡ slice_set old place next → KeepsProposed old new id
keeps_other old new id place next other same outcome was = record {
  caller = was.caller;
  at_caller = subst (λ (l : List CallerView). IsAt l id was.caller) (sym same) (at_other old place next id was.caller other was.at_caller);
  call = was.call;
  is_open = was.is_open;
  proposed = was.proposed;
}

-- the caller's call goes on with what it proposed
keeps_own : (old new : List CallerView) (id : ℕ) (caller : CallerView) (call next : CallView) → IsAt old id caller → caller.call ≡ Some call → next.proposed ≡ call.proposed → new ≡ slice_set old id (record caller { call = Some next }) → KeepsProposed old new id
keeps_own old new id caller call next at is_open kept same outcome was =
    let one_call : call ≡ was.call = some_is (sym is_open ∙ ap (λ (c : CallerView). c.call) (at_one old id at was.at_caller) ∙ was.is_open) in
    record {
      caller = record caller { call = Some next };
      at_caller = subst (λ (l : List CallerView). IsAt l id (record caller { call = Some next })) (sym same) (at_set old id caller (record caller { call = Some next }) at);
      call = next;
      is_open = refl;
      proposed = kept ∙ ap (λ (c : CallView). c.proposed) one_call ∙ was.proposed;
    }

-- ---- what stays
pub record QueueStays {S V : Type 0} (old new : View S V) (id : ℕ) : Type 0 where
  pub waits : (queue_at new.flow id).messages ≡ (queue_at old.flow id).messages
  pub proposed : KeepsProposed old.callers new.callers id

stays_same : {S V : Type 0} (old new : View S V) (id : ℕ) → new.flow ≡ old.flow → new.callers ≡ old.callers → QueueStays old new id
stays_same old new id flow callers = record { waits = ap (λ (f : FlowView). (queue_at f id).messages) flow; proposed = keeps_same old.callers new.callers id callers }

-- the frames of another stay, and its caller or another changes
stays_by : {S V : Type 0} (old new : View S V) (id : ℕ) → queue_at new.flow id ≡ queue_at old.flow id → KeepsProposed old.callers new.callers id → QueueStays old new id
stays_by old new id queue proposed = record { waits = ap (λ (q : QueueView). q.messages) queue; proposed = proposed }

stays_both : {S V : Type 0} (old mid new : View S V) (id : ℕ) → QueueStays old mid id → QueueStays mid new id → QueueStays old new id
stays_both old mid new id before after = record { waits = after.waits ∙ before.waits; proposed = λ outcome was. after.proposed outcome (before.proposed outcome was) }

-- ---- frames of others
taken_other : (flow : FlowView) (place id : ℕ) (v : Verdict) → id ≢ place → queue_at (taken flow place v) id ≡ queue_at flow id
taken_other flow place id v other = queue_other flow.own place id (queue_after (queue_at flow place) v) other

replied_other : (flow : FlowView) (place id : ℕ) (v : Verdict) (reply : Reply) → id ≢ place → queue_at (replied_flow flow place v reply) id ≡ queue_at flow id
replied_other flow place id v reply other = queue_other (taken flow place v).own place id (pushed (queue_at (taken flow place v) place) (message.Reply reply)) other ∙ taken_other flow place id v other

abandoned_other : (flow : FlowView) (place id : ℕ) → id ≢ place → queue_at (abandoned flow place) id ≡ queue_at flow id
abandoned_other flow place id other = queue_other flow.own place id (emptied (queue_at flow place)) other

-- ---- calls of others
pub begin_stays : {S V : Type 0} (m : Meaning S V) (old new : View S V) (id caller : ℕ) (key : List ℕ) (program : List Clause) → id ≢ caller
    → StepBegin m old caller key program new → QueueStays old new id
begin_stays {S} {V} m old new id caller key program other by = stays_both old by.middle new id (opens by.opens) (in_round by.begins)
  where
    opens : calls.Opens old caller key program by.middle → QueueStays old by.middle id
    opens (calls.first was at none_open room is) =
        stays_by old by.middle id (ap (λ (w : View S V). queue_at w.flow id) is) (keeps_other old.callers by.middle.callers id caller _ other (ap (λ (w : View S V). w.callers) is))
    opens (calls.again was open_call reserved at open_is key_is program_is none_proposed met no_round room some is) =
        stays_by old by.middle id (ap (λ (w : View S V). queue_at w.flow id) is) (keeps_other old.callers by.middle.callers id caller _ other (ap (λ (w : View S V). w.callers) is))

    sent : (flow : FlowView) (messages : List Message) → new.flow ≡ flow → calls.Sends by.middle.flow caller messages flow → queue_at new.flow id ≡ queue_at by.middle.flow id
    sent flow messages is sends = ap (λ (f : FlowView). queue_at f id) is ∙ sends.others id other

    told : (next : CallerView) → new.flow ≡ by.middle.flow → new.callers ≡ slice_set by.middle.callers caller next → QueueStays by.middle new id
    told next flow callers = stays_by by.middle new id (ap (λ (f : FlowView). queue_at f id) flow) (keeps_other by.middle.callers new.callers id caller next other callers)

    in_round : calls.BeginsRound m by.middle caller by.caller by.call new → QueueStays by.middle new id
    in_round (calls.prepares desk now ballot round flow at up few begins sends is) =
        stays_by by.middle new id (sent flow _ (ap (λ (w : View S V). w.flow) is) sends) (keeps_same by.middle.callers new.callers id (ap (λ (w : View S V). w.callers) is))
    in_round (calls.proposes desk now ready ride round outcome flow at up few begins made sends is) =
        stays_by by.middle new id (sent flow _ (ap (λ (w : View S V). w.flow) is) sends) (keeps_other by.middle.callers new.callers id caller _ other (ap (λ (w : View S V). w.callers) is))
    in_round (calls.stays told_it no_beginning no_round full is) = told _ (ap (λ (w : View S V). w.flow) is) (ap (λ (w : View S V). w.callers) is)
    in_round (calls.spent desk now at none_open up no_promise spent kept now_is is) = told _ (ap (λ (w : View S V). w.flow) is) (ap (λ (w : View S V). w.callers) is)
    in_round (calls.fails desk now at none_open up fails is) = told _ (ap (λ (w : View S V). w.flow) is) (ap (λ (w : View S V). w.callers) is)
    in_round (calls.loses desk now ballot at none_open up loses is) = told _ (ap (λ (w : View S V). w.flow) is) (ap (λ (w : View S V). w.callers) is)

pub no_begin_stays : {S V : Type 0} (m : Meaning S V) (old new : View S V) (id caller : ℕ) (key : List ℕ) → calls.RefusesCall m old caller key new → QueueStays old new id
no_begin_stays {S} {V} m old new id caller key (calls.stays told council why rescan is) = stays_same old new id (ap (λ (w : View S V). w.flow) is) (ap (λ (w : View S V). w.callers) is)
no_begin_stays {S} {V} m old new id caller key (calls.loses at_caller desk now ballot council at_it at_desk none_open up loses rescan is) = stays_same old new id (ap (λ (w : View S V). w.flow) is) (ap (λ (w : View S V). w.callers) is)

pub propose_stays : {S V : Type 0} (m : Meaning S V) (old new : View S V) (id proposer : ℕ) → id ≢ proposer → StepPropose m old proposer new → QueueStays old new id
propose_stays {S} {V} m old new id proposer other by = in_phase by.at_round.of_call by.at_round.desk by.at_round.round by.proposes
  where
    told : (next : CallerView) → new.flow ≡ old.flow → new.callers ≡ slice_set old.callers proposer next → QueueStays old new id
    told next flow callers = stays_by old new id (ap (λ (f : FlowView). queue_at f id) flow) (keeps_other old.callers new.callers id proposer next other callers)

    in_phase : (of_call : OpenCallAt old proposer) (desk : DeskView V) (round : Round) → calls.ProposesOrEnds m old proposer desk round of_call.caller of_call.call new → QueueStays old new id
    in_phase at desk round (calls.proposes now turned read by ride outcome flow quorum confirmers reads turns made sends is) =
        stays_by old new id (ap (λ (w : View S V). queue_at w.flow id) is ∙ sends.others id other) (keeps_other old.callers new.callers id proposer _ other (ap (λ (w : View S V). w.callers) is))
    in_phase at desk round (calls.ends now verdict told_it verdict_is refuses ends is) = told _ (ap (λ (w : View S V). w.flow) is) (ap (λ (w : View S V). w.callers) is)
    in_phase at desk round (calls.fails now fails is) = told _ (ap (λ (w : View S V). w.flow) is) (ap (λ (w : View S V). w.callers) is)
    in_phase at desk round (calls.loses now ballot loses is) = told _ (ap (λ (w : View S V). w.flow) is) (ap (λ (w : View S V). w.callers) is)

pub count_stays : {S V : Type 0} (m : Meaning S V) (old new : View S V) (id proposer : ℕ) → id ≢ proposer → StepCount m old proposer new → QueueStays old new id
count_stays {S} {V} m old new id proposer other by = in_phase by.at_round.of_call by.at_round.desk by.at_round.round by.counts
  where
    told : (next : CallerView) → new.flow ≡ old.flow → new.callers ≡ slice_set old.callers proposer next → QueueStays old new id
    told next flow callers = stays_by old new id (ap (λ (f : FlowView). queue_at f id) flow) (keeps_other old.callers new.callers id proposer next other callers)

    in_phase : (of_call : OpenCallAt old proposer) (desk : DeskView V) (round : Round) → calls.CountsOrEnds m old proposer desk round of_call.caller of_call.call new → QueueStays old new id
    in_phase at desk round (calls.counts now by outcome quorum confirmers proposed ends is) = told _ (ap (λ (w : View S V). w.flow) is) (ap (λ (w : View S V). w.callers) is)
    in_phase at desk round (calls.ends now verdict why verdict_is cause ends is) = told _ (ap (λ (w : View S V). w.flow) is) (ap (λ (w : View S V). w.callers) is)

pub end_stays : {S V : Type 0} (m : Meaning S V) (old new : View S V) (id caller : ℕ) (told : Answer) → id ≢ caller → StepEnd m old caller told new → QueueStays old new id
end_stays {S} {V} m old new id caller told other by =
    stays_by old new id (ap (λ (w : View S V). queue_at w.flow id) by.ends.view ∙ abandoned_other old.flow caller id other) (keeps_other old.callers new.callers id caller _ other (ap (λ (w : View S V). w.callers) by.ends.view))

pub left_stays : {S V : Type 0} (DeskTurns : DeskView V → DeskView V → Type 0) (closed : CallView → CallView) (old new : View S V) (id proposer : ℕ) → id ≢ proposer → LeavesRound DeskTurns closed old proposer new → QueueStays old new id
left_stays {S} {V} DeskTurns closed old new id proposer other (stops.idle desk now at none_open turns is) =
    stays_by old new id (ap (λ (w : View S V). queue_at w.flow id) is ∙ abandoned_other old.flow proposer id other) (keeps_same old.callers new.callers id (ap (λ (w : View S V). w.callers) is))
left_stays {S} {V} DeskTurns closed old new id proposer other (stops.closes desk now round at there is_round turns is) =
    stays_by old new id (ap (λ (w : View S V). queue_at w.flow id) is ∙ abandoned_other old.flow proposer id other) (keeps_other old.callers new.callers id proposer _ other (ap (λ (w : View S V). w.callers) is))

down_stays : {S V : Type 0} (DeskTurns : DeskView V → DeskView V → Type 0) (old new : View S V) (id proposer : ℕ) → id ≢ exchange_place → id ≢ proposer → GoesDown DeskTurns old proposer new → QueueStays old new id
down_stays DeskTurns old new id proposer apart other (stops.of_client client leaves) = left_stays DeskTurns closed_by_crash old new id proposer other leaves
down_stays {S} {V} DeskTurns old new id proposer apart other (stops.of_operator middle operator leaves is) =
    stays_both old middle new id (left_stays DeskTurns closed_by_crash old middle id proposer other leaves)
    (stays_by middle new id (ap (λ (w : View S V). queue_at w.flow id) is ∙ abandoned_other middle.flow exchange_place id apart) (keeps_same middle.callers new.callers id (ap (λ (w : View S V). w.callers) is)))

-- ---- turns
-- the frames of others stay as one has its turn
pub turn_waits : {S V : Type 0} (m : Meaning S V) (old new : View S V) (id proposer : ℕ) (v : Verdict) → id ≢ proposer → StepTurn m old proposer v new → queue_at new.flow id ≡ queue_at old.flow id
turn_waits {S} {V} m old new id proposer v other by = in_turn by.of_call by.front by.turn
  where
    in_turn : (of_call : OpenCallAt old proposer) (front : Message) → frames.TakesTurn m old proposer v front of_call.caller of_call.call new → queue_at new.flow id ≡ queue_at old.flow id
    in_turn at front (frames.held fall is) = ap (λ (w : View S V). queue_at w.flow id) is
    in_turn at front (frames.gone fall is) = ap (λ (w : View S V). queue_at w.flow id) is ∙ taken_other old.flow proposer id v other
    in_turn at front (frames.answers request acceptor now reply fall front_is there table is) = ap (λ (w : View S V). queue_at w.flow id) is ∙ replied_other old.flow proposer id v reply other
    in_turn at front (frames.finds_down request acceptor fall front_is there down is) = ap (λ (w : View S V). queue_at w.flow id) is ∙ taken_other old.flow proposer id v other
    in_turn at front (frames.brings_down request acceptor now fall front_is there stops is) = ap (λ (w : View S V). queue_at w.flow id) is ∙ taken_other old.flow proposer id v other
    in_turn at front (frames.arrives reply desk now round heard fall front_is there is_round hears is) = ap (λ (w : View S V). queue_at w.flow id) is ∙ taken_other old.flow proposer id v other

-- and each call goes on with what it proposed
turn_callers : {S V : Type 0} (m : Meaning S V) (old new : View S V) (proposer : ℕ) (v : Verdict) (by : StepTurn m old proposer v new)
    → (new.callers ≡ old.callers) ⊎ ((next : CallView) × (next.proposed ≡ by.of_call.call.proposed) × (new.callers ≡ slice_set old.callers proposer (record by.of_call.caller { call = Some next })))
turn_callers {S} {V} m old new proposer v by = in_turn by.of_call by.front by.turn
  where
    in_turn : (of_call : OpenCallAt old proposer) (front : Message) → frames.TakesTurn m old proposer v front of_call.caller of_call.call new
        → (new.callers ≡ old.callers) ⊎ ((next : CallView) × (next.proposed ≡ of_call.call.proposed) × (new.callers ≡ slice_set old.callers proposer (record of_call.caller { call = Some next })))
    in_turn at front (frames.held fall is) = inl (ap (λ (w : View S V). w.callers) is)
    in_turn at front (frames.gone fall is) = inr (frames.harmed_by at.call (head_of front).1, refl, ap (λ (w : View S V). w.callers) is)
    in_turn at front (frames.answers request acceptor now reply fall front_is there table is) = inr (frames.marking at.call _, refl, ap (λ (w : View S V). w.callers) is)
    in_turn at front (frames.finds_down request acceptor fall front_is there down is) = inr (frames.harmed_by at.call request.to, refl, ap (λ (w : View S V). w.callers) is)
    in_turn at front (frames.brings_down request acceptor now fall front_is there stops is) = inr (frames.harmed_by at.call request.to, refl, ap (λ (w : View S V). w.callers) is)
    in_turn at front (frames.arrives reply desk now round heard fall front_is there is_round hears is) = inr (frames.silent at.call, refl, ap (λ (w : View S V). w.callers) is)

pub turn_proposed : {S V : Type 0} (m : Meaning S V) (old new : View S V) (id proposer : ℕ) (v : Verdict) → StepTurn m old proposer v new → KeepsProposed old.callers new.callers id
turn_proposed m old new id proposer v by = elim (turn_callers m old new proposer v by) [
  | inl same ↦ keeps_same old.callers new.callers id same
  | inr goes ↦ elim (same_or_not id proposer) [
    | inl own ↦ subst (KeepsProposed old.callers new.callers) (sym own) (keeps_own old.callers new.callers proposer by.of_call.caller by.of_call.call goes.0 by.of_call.at_caller by.of_call.is_open goes.1 goes.2)
    | inr other ↦ keeps_other old.callers new.callers id proposer _ other goes.2
  ]
]

-- ---- no memory
pub no_room_stays : {S V : Type 0} (m : Meaning S V) (old new : View S V) (id : ℕ) → frames.FindsNoRoom m old new → QueueStays old new id
no_room_stays {S} {V} m old new id (frames.stays is) = stays_same old new id (ap (λ (w : View S V). w.flow) is) (ap (λ (w : View S V). w.callers) is)
no_room_stays {S} {V} m old new id (frames.kept at acceptor now there finds is) = stays_same old new id (ap (λ (w : View S V). w.flow) is) (ap (λ (w : View S V). w.callers) is)

room_callers : {S V : Type 0} (m : Meaning S V) (old new : View S V) → frames.FindsNoRoom m old new → new.callers ≡ old.callers
room_callers {S} {V} m old new (frames.stays is) = ap (λ (w : View S V). w.callers) is
room_callers {S} {V} m old new (frames.kept at acceptor now there finds is) = ap (λ (w : View S V). w.callers) is

-- a turn that finds none tells its caller so
pub no_turn_stays : {S V : Type 0} (m : Meaning S V) (old new : View S V) (id proposer : ℕ) → StepRefuseTurn m old proposer new → QueueStays old new id
no_turn_stays {S} {V} m old new id proposer by =
    stays_both old by.middle new id (no_room_stays m old by.middle id by.refuses) (stays_by by.middle new id (ap (λ (w : View S V). queue_at w.flow id) by.view) (kept (same_or_not id proposer)))
  where
    next : CallView
    next = calls.telling by.of_call.call (answer.NoMemory (is_some by.of_call.call.proposed))

    kept : (id ≡ proposer) ⊎ (id ≡ proposer → ⊥) → KeepsProposed by.middle.callers new.callers id
    kept (inl own) =
        subst (KeepsProposed by.middle.callers new.callers) (sym own)
        (keeps_own by.middle.callers new.callers proposer by.of_call.caller by.of_call.call next
        (subst (λ (l : List CallerView). IsAt l proposer by.of_call.caller) (sym (room_callers m old by.middle by.refuses)) by.of_call.at_caller) by.of_call.is_open refl (ap (λ (w : View S V). w.callers) by.view))
    kept (inr other) = keeps_other by.middle.callers new.callers id proposer _ other (ap (λ (w : View S V). w.callers) by.view)

-- ---- strays and stops
pub stray_stays : {S V : Type 0} (m : Meaning S V) (old new : View S V) (id index : ℕ) → StepStray m old index new → QueueStays old new id
stray_stays {S} {V} m old new id index by = in_stray by.late by.strays
  where
    in_stray : (late : Message) → frames.Strays m old index late new → QueueStays old new id
    in_stray late (frames.answers request acceptor now reply late_is at table is) =
        stays_by old new id (ap (λ (w : View S V). queue_at w.flow id) is) (keeps_same old.callers new.callers id (ap (λ (w : View S V). w.callers) is))
    in_stray late (frames.brings_down request acceptor now late_is at stops is) =
        stays_by old new id (ap (λ (w : View S V). queue_at w.flow id) is) (keeps_same old.callers new.callers id (ap (λ (w : View S V). w.callers) is))
    in_stray late (frames.arrives reply desk now round heard late_is at is_round hears is) =
        stays_by old new id (ap (λ (w : View S V). queue_at w.flow id) is) (keeps_same old.callers new.callers id (ap (λ (w : View S V). w.callers) is))
    in_stray late (frames.drops ignored is) =
        stays_by old new id (ap (λ (w : View S V). queue_at w.flow id) is) (keeps_same old.callers new.callers id (ap (λ (w : View S V). w.callers) is))

pub restart_stays : {S V : Type 0} (m : Meaning S V) (old new : View S V) (id acceptor : ℕ) → StepRestartAcceptor m old acceptor new → QueueStays old new id
restart_stays {S} {V} m old new id acceptor (step.was_up it at up is) = stays_same old new id (ap (λ (w : View S V). w.flow) is) (ap (λ (w : View S V). w.callers) is)
restart_stays {S} {V} m old new id acceptor (step.starts it now at starts is) = stays_same old new id (ap (λ (w : View S V). w.flow) is) (ap (λ (w : View S V). w.callers) is)
restart_stays {S} {V} m old new id acceptor (step.fails it now at fails is) = stays_same old new id (ap (λ (w : View S V). w.flow) is) (ap (λ (w : View S V). w.callers) is)

pub desk_stays : {S V : Type 0} (m : Meaning S V) (old new : View S V) (id proposer : ℕ) → StepRestartProposer m old proposer new → QueueStays old new id
desk_stays {S} {V} m old new id proposer (step.was_up_already desk at up is) = stays_same old new id (ap (λ (w : View S V). w.flow) is) (ap (λ (w : View S V). w.callers) is)
desk_stays {S} {V} m old new id proposer (step.restarts desk now caller at at_caller down restarts is) = stays_same old new id (ap (λ (w : View S V). w.flow) is) (ap (λ (w : View S V). w.callers) is)

-- ---- the operator's calls
ask_stays : {S V : Type 0} (m : Meaning S V) (old new : View S V) (id : ℕ) (question : Question) → id ≢ exchange_place → StepAskAll m old question new → QueueStays old new id
ask_stays {S} {V} m old new id question apart by = in_asks by.asks
  where
    same : new.flow ≡ old.flow → new.callers ≡ old.callers → QueueStays old new id
    same flow callers = stays_same old new id flow callers

    in_asks : council.AsksAll m old question by.desk new → QueueStays old new id
    in_asks (council.asks now tag flow up room drawn now_is sends is) =
        stays_by old new id (ap (λ (w : View S V). queue_at w.flow id) is ∙ sends.others id apart) (keeps_same old.callers new.callers id (ap (λ (w : View S V). w.callers) is))
    in_asks (council.is_down down is) = same (ap (λ (w : View S V). w.flow) is) (ap (λ (w : View S V). w.callers) is)
    in_asks (council.is_full up full is) = same (ap (λ (w : View S V). w.flow) is) (ap (λ (w : View S V). w.callers) is)
    in_asks (council.is_spent now up spent kept now_is is) = same (ap (λ (w : View S V). w.flow) is) (ap (λ (w : View S V). w.callers) is)
    in_asks (council.fails now up fails is) = same (ap (λ (w : View S V). w.flow) is) (ap (λ (w : View S V). w.callers) is)
    in_asks (council.no_memory now tag up loses is) = same (ap (λ (w : View S V). w.flow) is) (ap (λ (w : View S V). w.callers) is)

exchange_stays : {S V : Type 0} (m : Meaning S V) (old new : View S V) (id : ℕ) (v : Verdict) → id ≢ exchange_place → StepTurnExchange m old v new → QueueStays old new id
exchange_stays {S} {V} m old new id v apart by = in_turn by.turn
  where
    moves : queue_at new.flow id ≡ queue_at old.flow id → new.callers ≡ old.callers → QueueStays old new id
    moves queue callers = stays_by old new id queue (keeps_same old.callers new.callers id callers)

    in_turn : council.TurnsExchange m old v by.front by.at.exchange new → QueueStays old new id
    in_turn (council.held fall is) = stays_same old new id (ap (λ (w : View S V). w.flow) is) (ap (λ (w : View S V). w.callers) is)
    in_turn (council.gone fall is) = moves (ap (λ (w : View S V). queue_at w.flow id) is ∙ taken_other old.flow exchange_place id v apart) (ap (λ (w : View S V). w.callers) is)
    in_turn (council.answers request acceptor now reply fall front_is there table is) = moves (ap (λ (w : View S V). queue_at w.flow id) is ∙ replied_other old.flow exchange_place id v reply apart) (ap (λ (w : View S V). w.callers) is)
    in_turn (council.finds_down request acceptor fall front_is there down is) = moves (ap (λ (w : View S V). queue_at w.flow id) is ∙ taken_other old.flow exchange_place id v apart) (ap (λ (w : View S V). w.callers) is)
    in_turn (council.brings_down request acceptor now fall front_is there stops is) = moves (ap (λ (w : View S V). queue_at w.flow id) is ∙ taken_other old.flow exchange_place id v apart) (ap (λ (w : View S V). w.callers) is)
    in_turn (council.arrives reply fall front_is to_it is) = moves (ap (λ (w : View S V). queue_at w.flow id) is ∙ taken_other old.flow exchange_place id v apart) (ap (λ (w : View S V). w.callers) is)

gather_stays : {S V : Type 0} (old new : View S V) (id : ℕ) → StepGather old new → QueueStays old new id
gather_stays {S} {V} old new id by = in_gather by.gathers
  where
    in_gather : council.Gathers old by.at.exchange new → QueueStays old new id
    in_gather (council.crashed crashed is) = stays_same old new id (ap (λ (w : View S V). w.flow) is) (ap (λ (w : View S V). w.callers) is)
    in_gather (council.probed key found up question plain found_is is) = stays_same old new id (ap (λ (w : View S V). w.flow) is) (ap (λ (w : View S V). w.callers) is)
    in_gather (council.read key era found marks up question reads found_is counts is) = stays_same old new id (ap (λ (w : View S V). w.flow) is) (ap (λ (w : View S V). w.callers) is)
    in_gather (council.lists of listing up enough on is) = stays_same old new id (ap (λ (w : View S V). w.flow) is) (ap (λ (w : View S V). w.callers) is)
    in_gather (council.is_short of short up missing is) = stays_same old new id (ap (λ (w : View S V). w.flow) is) (ap (λ (w : View S V). w.callers) is)
    in_gather (council.no_memory up is) = stays_same old new id (ap (λ (w : View S V). w.flow) is) (ap (λ (w : View S V). w.callers) is)

tell_stays : {S V : Type 0} (old new : View S V) (id : ℕ) (answer : OpAnswer) → id ≢ exchange_place → StepTell old answer new → QueueStays old new id
tell_stays {S} {V} old new id answer apart (council.tells order said is_open told same is) =
    stays_by old new id (ap (λ (w : View S V). queue_at w.flow id) is ∙ abandoned_other old.flow exchange_place id apart) (keeps_same old.callers new.callers id (ap (λ (w : View S V). w.callers) is))
tell_stays {S} {V} old new id answer apart (council.finishes order is_open by is) =
    stays_by old new id (ap (λ (w : View S V). queue_at w.flow id) is ∙ abandoned_other old.flow exchange_place id apart) (keeps_same old.callers new.callers id (ap (λ (w : View S V). w.callers) is))
tell_stays {S} {V} old new id answer apart (council.collects order is_open by is) =
    stays_by old new id (ap (λ (w : View S V). queue_at w.flow id) is ∙ abandoned_other old.flow exchange_place id apart) (keeps_same old.callers new.callers id (ap (λ (w : View S V). w.callers) is))

-- ---- changes of membership
pub welcome_stays : {S V : Type 0} (m : Meaning S V) (old new : View S V) (id : ℕ) (asked : Asked) → Welcomes m old asked new → QueueStays old new id
welcome_stays {S} {V} m old new id asked (plans.starts acceptor was now joins at starts is) = stays_same old new id (ap (λ (w : View S V). w.flow) is) (ap (λ (w : View S V). w.callers) is)
welcome_stays {S} {V} m old new id asked (plans.fails acceptor was now joins at fails is) = stays_same old new id (ap (λ (w : View S V). w.flow) is) (ap (λ (w : View S V). w.callers) is)
welcome_stays {S} {V} m old new id asked (plans.is_up acceptor was joins at up is) = stays_same old new id (ap (λ (w : View S V). w.flow) is) (ap (λ (w : View S V). w.callers) is)
welcome_stays {S} {V} m old new id asked (plans.stays joins_none is) = stays_same old new id (ap (λ (w : View S V). w.flow) is) (ap (λ (w : View S V). w.callers) is)

pub plan_stays : {S V : Type 0} (m : Meaning S V) (old new : View S V) (id : ℕ) → StepOpenPlan m old new → QueueStays old new id
plan_stays {S} {V} m old new id by = in_case by.opens
  where
    told : (mid : View S V) → QueueStays old mid id → new.flow ≡ mid.flow → new.callers ≡ mid.callers → QueueStays old new id
    told mid before flow callers = stays_both old mid new id before (stays_same mid new id flow callers)

    in_case : OpensPlan m old by.order.asked by.desk new → QueueStays old new id
    in_case (plans.is_down down is) = stays_same old new id (ap (λ (w : View S V). w.flow) is) (ap (λ (w : View S V). w.callers) is)
    in_case (plans.is_busy plan up busy is) = stays_same old new id (ap (λ (w : View S V). w.flow) is) (ap (λ (w : View S V). w.callers) is)
    in_case (plans.refuses fault up none planned is) = stays_same old new id (ap (λ (w : View S V). w.flow) is) (ap (λ (w : View S V). w.callers) is)
    in_case (plans.opens progress middle up none planned welcomes is) = told middle (welcome_stays m old middle id by.order.asked welcomes) (ap (λ (w : View S V). w.flow) is) (ap (λ (w : View S V). w.callers) is)
    in_case (plans.no_memory progress middle up none planned welcomes is) = told middle (welcome_stays m old middle id by.order.asked welcomes) (ap (λ (w : View S V). w.flow) is) (ap (λ (w : View S V). w.callers) is)

enter_stays : {S V : Type 0} (m : Meaning S V) (old new : View S V) (id proposer : ℕ) → id ≢ exchange_place → id ≢ proposer → StepEnterEra m old proposer new → QueueStays old new id
enter_stays {S} {V} m old new id proposer apart other_one by = in_case by.enters
  where
    other : id ≢ by.plan.entered
    other = λ is. other_one (is ∙ by.may.is_due)

    then_told : (mid : View S V) → QueueStays old mid id → new.flow ≡ mid.flow → new.callers ≡ mid.callers → QueueStays old new id
    then_told mid before flow callers = stays_both old mid new id before (stays_same mid new id flow callers)

    in_case : EntersNext m old by.plan by.next by.desk new → QueueStays old new id
    in_case (plans.enters middle room leaves is) =
        then_told middle (left_stays (EntersEra m.disks by.next) (closed_by (answer.Moved by.next.number) (cause.Moved by.next.number)) old middle id by.plan.entered other leaves) (ap (λ (w : View S V). w.flow) is) (ap (λ (w : View S V). w.callers) is)
    in_case (plans.is_full full is) = stays_same old new id (ap (λ (w : View S V). w.flow) is) (ap (λ (w : View S V). w.callers) is)
    in_case (plans.is_down room down is) = stays_same old new id (ap (λ (w : View S V). w.flow) is) (ap (λ (w : View S V). w.callers) is)
    in_case (plans.fails middle room down is) = then_told middle (down_stays (FailsToEnter m.disks by.next) old middle id by.plan.entered apart other down) (ap (λ (w : View S V). w.flow) is) (ap (λ (w : View S V). w.callers) is)
    in_case (plans.no_memory now room up kept_it now_is is) = stays_same old new id (ap (λ (w : View S V). w.flow) is) (ap (λ (w : View S V). w.callers) is)

-- ---- collections
pub begin_collect_stays : {S V : Type 0} (m : Meaning S V) (old new : View S V) (id : ℕ) (key : List ℕ) → id ≢ 0 → StepBeginCollect m (λ before after. StepBegin m before 0 key keep_always after) old key new → QueueStays old new id
begin_collect_stays {S} {V} m old new id key other by = in_case by.begins
  where
    in_case : collect.BeginsCollection m (λ before after. StepBegin m before 0 key keep_always after) old key by.may.order by.desk by.caller new → QueueStays old new id
    in_case (collect.is_down none down is) = stays_same old new id (ap (λ (w : View S V). w.flow) is) (ap (λ (w : View S V). w.callers) is)
    in_case (collect.is_busy plan none up planned is) = stays_same old new id (ap (λ (w : View S V). w.flow) is) (ap (λ (w : View S V). w.callers) is)
    in_case (collect.is_full none up unplanned full is) = stays_same old new id (ap (λ (w : View S V). w.flow) is) (ap (λ (w : View S V). w.callers) is)
    in_case (collect.no_memory middle none up unplanned refuses is) = stays_both old middle new id (no_begin_stays m old middle id 0 key refuses) (stays_same middle new id (ap (λ (w : View S V). w.flow) is) (ap (λ (w : View S V). w.callers) is))
    in_case (collect.begins middle none unplanned begins is) = stays_both old middle new id (begin_stays m old middle id 0 key keep_always other begins) (stays_same middle new id (ap (λ (w : View S V). w.flow) is) (ap (λ (w : View S V). w.callers) is))
    in_case (collect.goes_on middle call of open_ begins is) = stays_both old middle new id (begin_stays m old middle id 0 key keep_always other begins) (stays_same middle new id (ap (λ (w : View S V). w.flow) is) (ap (λ (w : View S V). w.callers) is))

pub gather_round_stays : {S V : Type 0} (old new : View S V) (id : ℕ) → StepGatherRound old new → QueueStays old new id
gather_round_stays {S} {V} old new id by = in_case by.gathers
  where
    in_case : collect.GathersRound old by.at new → QueueStays old new id
    in_case (collect.all ballot members tombstone all is) = stays_same old new id (ap (λ (w : View S V). w.flow) is) (ap (λ (w : View S V). w.callers) is)
    in_case (collect.is_absent ballot members acceptor tombstone least is) = stays_same old new id (ap (λ (w : View S V). w.flow) is) (ap (λ (w : View S V). w.callers) is)
    in_case (collect.is_held version tombstone is) = stays_same old new id (ap (λ (w : View S V). w.flow) is) (ap (λ (w : View S V). w.callers) is)

renew_stays : {S V : Type 0} (m : Meaning S V) (old new : View S V) (id proposer : ℕ) → id ≢ exchange_place → id ≢ proposer → StepRenew m old proposer new → QueueStays old new id
renew_stays {S} {V} m old new id proposer apart other by = in_case by.renews
  where
    in_case : collect.RenewsNext m old by.at proposer by.desk new → QueueStays old new id
    in_case (collect.renews age middle leaves is) = stays_both old middle new id
        (left_stays (Renews m.disks by.at.collection.course.key (tomb_of by.at.collection.tombstone) age) (closed_by (answer.Aged age) (cause.Aged age)) old middle id proposer other leaves) (stays_same middle new id (ap (λ (w : View S V). w.flow) is) (ap (λ (w : View S V). w.callers) is))
    in_case (collect.is_down down is) = stays_same old new id (ap (λ (w : View S V). w.flow) is) (ap (λ (w : View S V). w.callers) is)
    in_case (collect.fails middle down is) = stays_both old middle new id (down_stays (FailsToRenew m.disks _) old middle id proposer apart other down) (stays_same middle new id (ap (λ (w : View S V). w.flow) is) (ap (λ (w : View S V). w.callers) is))
    in_case (collect.is_spent up spent is) = stays_same old new id (ap (λ (w : View S V). w.flow) is) (ap (λ (w : View S V). w.callers) is)
    in_case (collect.no_memory now up finds is) = stays_same old new id (ap (λ (w : View S V). w.flow) is) (ap (λ (w : View S V). w.callers) is)

ask_collect_stays : {S V : Type 0} (m : Meaning S V) (old new : View S V) (id : ℕ) → id ≢ exchange_place → StepAskCollect m old new → QueueStays old new id
ask_collect_stays {S} {V} m old new id apart by = in_case by.asks
  where
    in_case : collect.AsksCollect m old by.may.at by.desk new → QueueStays old new id
    in_case (collect.asks question flow up asks room aged sends is) = stays_by old new id (ap (λ (w : View S V). queue_at w.flow id) is ∙ sends.others id apart) (keeps_same old.callers new.callers id (ap (λ (w : View S V). w.callers) is))
    in_case (collect.is_down down is) = stays_same old new id (ap (λ (w : View S V). w.flow) is) (ap (λ (w : View S V). w.callers) is)
    in_case (collect.is_full question up asks full is) = stays_same old new id (ap (λ (w : View S V). w.flow) is) (ap (λ (w : View S V). w.callers) is)
    in_case (collect.no_memory up is) = stays_same old new id (ap (λ (w : View S V). w.flow) is) (ap (λ (w : View S V). w.callers) is)

gather_collect_stays : {S V : Type 0} (old new : View S V) (id : ℕ) → StepGatherCollect old new → QueueStays old new id
gather_collect_stays {S} {V} old new id by = in_case by.gathers
  where
    in_case : collect.GathersCollect old by.at by.of_exchange.exchange new → QueueStays old new id
    in_case (collect.crashed crashed is) = stays_same old new id (ap (λ (w : View S V). w.flow) is) (ap (λ (w : View S V). w.callers) is)
    in_case (collect.all up all is) = stays_same old new id (ap (λ (w : View S V). w.flow) is) (ap (λ (w : View S V). w.callers) is)
    in_case (collect.is_absent acceptor up least is) = stays_same old new id (ap (λ (w : View S V). w.flow) is) (ap (λ (w : View S V). w.callers) is)

-- ---- all of them
-- the proposer's own frame has its turn
abbrev pub OwnTurn : {S V : Type 0} → Meaning S V → View S V → View S V → ℕ → step.Event → Type 0
OwnTurn m old new id (step.Turn proposer v) = (proposer ≡ id) × StepTurn m old proposer v new
OwnTurn m old new id other = ⊥

-- it has, or all of the proposer's stays
pub stays_or_turn : {S V : Type 0} (m : Meaning S V) (old new : View S V) (id : ℕ) (event : step.Event) → id ≢ exchange_place → (IsOwnCall id event → ⊥) → step.Step m old event new → QueueStays old new id ⊎ OwnTurn m old new id event
stays_or_turn m old new id (step.Begin caller key program) apart not_own by = inl (begin_stays m old new id caller key program (λ is. not_own (sym is)) by)
stays_or_turn m old new id (step.RefuseBegin caller key) apart not_own by = inl (no_begin_stays m old new id caller key by)
stays_or_turn m old new id (step.Turn proposer v) apart not_own by = elim (same_or_not id proposer) [
  | inl own ↦ inr (sym own, by)
  | inr other ↦ inl (stays_by old new id (turn_waits m old new id proposer v other by) (turn_proposed m old new id proposer v by))
]
stays_or_turn m old new id (step.RefuseTurn proposer) apart not_own by = inl (no_turn_stays m old new id proposer by)
stays_or_turn m old new id (step.Propose proposer) apart not_own by = inl (propose_stays m old new id proposer (λ is. not_own (sym is)) by)
stays_or_turn m old new id (step.Count proposer) apart not_own by = inl (count_stays m old new id proposer (λ is. not_own (sym is)) by)
stays_or_turn m old new id (step.End caller told) apart not_own by = inl (end_stays m old new id caller told (λ is. not_own (sym is)) by)
stays_or_turn m old new id (step.Stray index) apart not_own by = inl (stray_stays m old new id index by)
stays_or_turn m old new id step.RefuseStray apart not_own by = inl (no_room_stays m old new id by)
stays_or_turn {S} {V} m old new id (step.CrashAcceptor acceptor) apart not_own (step.crashes it now at crashes is) = inl (stays_same old new id (ap (λ (w : View S V). w.flow) is) (ap (λ (w : View S V). w.callers) is))
stays_or_turn m old new id (step.RestartAcceptor acceptor) apart not_own by = inl (restart_stays m old new id acceptor by)
stays_or_turn m old new id (step.CrashProposer proposer) apart not_own by = inl (down_stays (Crashes m.disks) old new id proposer apart (λ is. not_own (sym is)) by)
stays_or_turn m old new id (step.RestartProposer proposer) apart not_own by = inl (desk_stays m old new id proposer by)
stays_or_turn {S} {V} m old new id (step.Order asked) apart not_own by = inl (stays_same old new id (ap (λ (w : View S V). w.flow) by.view) (ap (λ (w : View S V). w.callers) by.view))
stays_or_turn {S} {V} m old new id step.RefuseOrder apart not_own by = inl (stays_same old new id (ap (λ (w : View S V). w.flow) by) (ap (λ (w : View S V). w.callers) by))
stays_or_turn m old new id (step.Tell answer) apart not_own by = inl (tell_stays old new id answer apart by)
stays_or_turn m old new id (step.AskAll question) apart not_own by = inl (ask_stays m old new id question apart by)
stays_or_turn m old new id (step.TurnExchange v) apart not_own by = inl (exchange_stays m old new id v apart by)
stays_or_turn {S} {V} m old new id step.RefuseTurnExchange apart not_own by =
    inl (stays_both old by.middle new id (no_room_stays m old by.middle id by.refuses) (stays_same by.middle new id (ap (λ (w : View S V). w.flow) by.view) (ap (λ (w : View S V). w.callers) by.view)))
stays_or_turn m old new id step.Gather apart not_own by = inl (gather_stays old new id by)
stays_or_turn {S} {V} m old new id step.RefuseKey apart not_own by = inl (stays_same old new id (ap (λ (w : View S V). w.flow) by.view) (ap (λ (w : View S V). w.callers) by.view))
stays_or_turn m old new id step.OpenPlan apart not_own by = inl (plan_stays m old new id by)
stays_or_turn m old new id (step.EnterEra proposer) apart not_own by = inl (enter_stays m old new id proposer apart (λ is. not_own (sym is)) by)
stays_or_turn m old new id (step.BeginCollect key) apart not_own by = inl (begin_collect_stays m old new id key (λ is. not_own (sym is)) by)
stays_or_turn {S} {V} m old new id step.ReadHeld apart not_own by =
    inl (stays_by old new id (ap (λ (w : View S V). queue_at w.flow id) by.view) (keeps_other old.callers new.callers id 0 _ (λ is. not_own (sym is)) (ap (λ (w : View S V). w.callers) by.view)))
stays_or_turn {S} {V} m old new id step.CountCollect apart not_own by = inl (stays_both old by.middle new id (count_stays m old by.middle id 0 (λ is. not_own (sym is)) by.counts) (stays_same by.middle new id (ap (λ (w : View S V). w.flow) by.view) (ap (λ (w : View S V). w.callers) by.view)))
stays_or_turn {S} {V} m old new id (step.EndCollect told) apart not_own by = inl (stays_both old by.middle new id (end_stays m old by.middle id 0 told (λ is. not_own (sym is)) by.ends) (stays_same by.middle new id (ap (λ (w : View S V). w.flow) by.view) (ap (λ (w : View S V). w.callers) by.view)))
stays_or_turn m old new id step.GatherRound apart not_own by = inl (gather_round_stays old new id by)
stays_or_turn m old new id (step.Renew proposer) apart not_own by = inl (renew_stays m old new id proposer apart (λ is. not_own (sym is)) by)
stays_or_turn m old new id step.AskCollect apart not_own by = inl (ask_collect_stays m old new id apart by)
stays_or_turn m old new id step.GatherCollect apart not_own by = inl (gather_collect_stays old new id by)
stays_or_turn {S} {V} m old new id step.MakeFloor apart not_own by = inl (stays_same old new id (ap (λ (w : View S V). w.flow) by.view) (ap (λ (w : View S V). w.callers) by.view))
