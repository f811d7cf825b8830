-- What each step brings to the round of a proposer.
use Rattle.std.proofs.Common.{◌≡◌, ◌≢◌, ℕ, zero, suc, nat_eq, List, [], ◌∷◌, Some, slice_get, slice_set, inl, inr, refl, sym, ap, subst, ◌∙◌, eqb-true}
use Rattle.std.proofs.lemmas.Bool.{eqb-false}
use Rattle.cas_base.proofs.Bools.{true_or_false}
use Rattle.cas_change.specs.declared.program.Clause.{Clause}
use Rattle.cas_fate.specs.declared.fate.Verdict.{Verdict}
use Rattle.cas_flow.specs.Flow.{queue_at}
use Rattle.cas_flow.specs.declared.message.Message.{Message}
use Rattle.cas_flow.specs.declared.message.Message.TheVariants as message
use Rattle.cas_proposer.specs.Desk.{DeskView}
use Rattle.cas_proposer.specs.declared.round.Round.{Round}
use Rattle.cas_slot.specs.declared.message.Reply.{Reply}
use Rattle.cas_record.specs.declared.answer.Answer.TheVariants as answer
use Rattle.cas_record.specs.declared.answer.Cause.TheVariants as cause
use Rattle.cas_record.specs.declared.operator.Asked.{Asked}
use Rattle.cas_record.specs.declared.operator.OpAnswer.{OpAnswer}
use Rattle.cas_model.specs.Council.{Question}
use Rattle.cas_model.specs.Step as step
use Rattle.cas_model.specs.Step.{StepBegin, StepTurn, StepPropose, StepCount, StepStray, StepRestartAcceptor, StepRestartProposer}
use Rattle.cas_model.specs.Stops.Step as stops
use Rattle.cas_model.specs.Stops.Step.{OpenCallAt, closed_by, closed_by_crash, LeavesRound, GoesDown}
use Rattle.cas_model.specs.Eras.Step as plans
use Rattle.cas_model.specs.Eras.Step.{Welcomes, StepOpenPlan, OpensPlan, StepEnterEra, EntersNext}
use Rattle.cas_model.specs.Calls.Step as calls
use Rattle.cas_model.specs.Collection.State.{tomb_of}
use Rattle.cas_model.specs.Collection.Step as collect
use Rattle.cas_model.specs.Collection.Step.{keep_always, StepBeginCollect, StepGatherRound, StepRenew, StepAskCollect, StepGatherCollect}
use Rattle.cas_model.specs.Exchanges.Step as council
use Rattle.cas_model.specs.Exchanges.Step.{StepTell, StepAskAll, StepTurnExchange, StepGather}
use Rattle.cas_model.specs.Calls.Desks.{HearsReply, Crashes, EntersEra, FailsToEnter, Renews, FailsToRenew}
use Rattle.cas_model.specs.Frames.Step as frames
use Rattle.cas_model.specs.View.{Meaning, View, CallView, IsAt}
use Rattle.cas_model.proofs.Places.{at_one, at_set}
use Rattle.cas_model_causes.specs.Calls.Causes.{StepsPassOrBring}
use Rattle.cas_model_causes.specs.Calls.Rounds.{ReplyIsUnderWay, Brings, nothing, one}

-- ---- desks
pub at_other : {A : Type 0} (all : List A) (place : ℕ) (x : A) (p : ℕ) (y : A) → p ≢ place → IsAt all p y → IsAt (slice_set all place x) p y
at_other [] place x p y other at = at
at_other (z ∷ all) zero x zero y other at = absurd (other refl)
at_other (z ∷ all) zero x (suc p) y other at = at
at_other (z ∷ all) (suc place) x zero y other at = at
at_other (z ∷ all) (suc place) x (suc p) y other at = at_other all place x p y (λ is. other (ap suc is)) at

-- what is brought by a step
abbrev Something : {S V : Type 0} → View S V → View S V → ℕ → Type 0
Something old new id = (brought : List Reply) × Brings old new id brought

-- the desks stay
same_desks : {S V : Type 0} (old new : View S V) (id : ℕ) → new.desks ≡ old.desks → Something old new id
same_desks {S} {V} old new id same = ([], nothing (λ desk at. (desk, subst (λ (l : List (DeskView V)). IsAt l id desk) (sym same) at, refl)))

-- another desk changes
other_desk : {S V : Type 0} (old new : View S V) (id place : ℕ) (now : DeskView V) → id ≢ place → new.desks ≡ slice_set old.desks place now → Something old new id
other_desk {S} {V} old new id place now other same = ([], nothing (λ desk at. (desk, subst (λ (l : List (DeskView V)). IsAt l id desk) (sym same) (at_other old.desks place now id desk other at), refl)))

-- steps one after another of which no one brings anything
both_nothing : {S V : Type 0} (old mid new : View S V) (id : ℕ) → ((desk : DeskView V) → IsAt old.desks id desk → (now : DeskView V) × IsAt mid.desks id now × (now.round ≡ desk.round))
    → ((desk : DeskView V) → IsAt mid.desks id desk → (now : DeskView V) × IsAt new.desks id now × (now.round ≡ desk.round)) → Something old new id
both_nothing old mid new id before after = ([], nothing (λ desk at. let then_ = before desk at in let now = after then_.0 then_.1 in (now.0, now.1, now.2 ∙ then_.2)))

abbrev FramePasses : {S V : Type 0} → View S V → View S V → ℕ → Type 0
FramePasses {S} {V} old new id = (desk : DeskView V) → IsAt old.desks id desk → (now : DeskView V) × IsAt new.desks id now × (now.round ≡ desk.round)

passes_same : {S V : Type 0} (old new : View S V) (id : ℕ) → new.desks ≡ old.desks → FramePasses old new id
passes_same {S} {V} old new id same desk at = (desk, subst (λ (l : List (DeskView V)). IsAt l id desk) (sym same) at, refl)

passes_other : {S V : Type 0} (old new : View S V) (id place : ℕ) (now : DeskView V) → id ≢ place → new.desks ≡ slice_set old.desks place now → FramePasses old new id
passes_other {S} {V} old new id place now other same desk at = (desk, subst (λ (l : List (DeskView V)). IsAt l id desk) (sym same) (at_other old.desks place now id desk other at), refl)

passes_both : {S V : Type 0} (old mid new : View S V) (id : ℕ) → FramePasses old mid id → FramePasses mid new id → FramePasses old new id
passes_both old mid new id before after desk at = let first = before desk at in let now = after first.0 first.1 in (now.0, now.1, now.2 ∙ first.2)

-- ---- calls of others
begin_passes : {S V : Type 0} (m : Meaning S V) (old new : View S V) (id caller : ℕ) (key : List ℕ) (program : List Clause) → id ≢ caller
    → StepBegin m old caller key program new → FramePasses old new id
begin_passes {S} {V} m old new id caller key program other by = passes_both old by.middle new id (opens by.opens) (in_round by.begins)
  where
    opens : calls.Opens old caller key program by.middle → FramePasses old by.middle id
    opens (calls.first was at none room is) = passes_same old by.middle id (ap (λ (w : View S V). w.desks) is)
    opens (calls.again was open_call reserved at open_is key_is program_is none met no_round room some is) = passes_same old by.middle id (ap (λ (w : View S V). w.desks) is)

    in_round : calls.BeginsRound m by.middle caller by.caller by.call new → FramePasses by.middle new id
    in_round (calls.prepares desk now ballot round flow at up few begins sends is) = passes_other by.middle new id caller now other (ap (λ (w : View S V). w.desks) is)
    in_round (calls.proposes desk now ready ride round outcome flow at up few begins made sends is) = passes_other by.middle new id caller now other (ap (λ (w : View S V). w.desks) is)
    in_round (calls.stays told no_beginning no_round full is) = passes_same by.middle new id (ap (λ (w : View S V). w.desks) is)
    in_round (calls.spent desk now at none up no_promise spent kept now_is is) = passes_other by.middle new id caller now other (ap (λ (w : View S V). w.desks) is)
    in_round (calls.fails desk now at none up fails is) = passes_other by.middle new id caller now other (ap (λ (w : View S V). w.desks) is)
    in_round (calls.loses desk now ballot at none up loses is) = passes_other by.middle new id caller now other (ap (λ (w : View S V). w.desks) is)

no_begin_passes : {S V : Type 0} (m : Meaning S V) (old new : View S V) (id caller : ℕ) (key : List ℕ) → id ≢ caller → calls.RefusesCall m old caller key new → FramePasses old new id
no_begin_passes {S} {V} m old new id caller key other (calls.stays told council why rescan is) = passes_same old new id (ap (λ (w : View S V). w.desks) is)
no_begin_passes {S} {V} m old new id caller key other (calls.loses at_caller desk now ballot council at_it at_desk none up loses rescan is) = passes_other old new id caller now other (ap (λ (w : View S V). w.desks) is)

propose_passes : {S V : Type 0} (m : Meaning S V) (old new : View S V) (id proposer : ℕ) → id ≢ proposer → StepPropose m old proposer new → Something old new id
propose_passes {S} {V} m old new id proposer other by = in_phase by.at_round.of_call by.at_round.desk by.at_round.round by.proposes
  where
    in_phase : (of_call : OpenCallAt old proposer) (desk : DeskView V) (round : Round) → calls.ProposesOrEnds m old proposer desk round of_call.caller of_call.call new → Something old new id
    in_phase at desk round (calls.proposes now turned read by ride outcome flow quorum confirmers reads turns made sends is) = other_desk old new id proposer now other (ap (λ (w : View S V). w.desks) is)
    in_phase at desk round (calls.ends now verdict told verdict_is refuses ends is) = other_desk old new id proposer now other (ap (λ (w : View S V). w.desks) is)
    in_phase at desk round (calls.fails now fails is) = other_desk old new id proposer now other (ap (λ (w : View S V). w.desks) is)
    in_phase at desk round (calls.loses now ballot loses is) = other_desk old new id proposer now other (ap (λ (w : View S V). w.desks) is)

count_passes : {S V : Type 0} (m : Meaning S V) (old new : View S V) (id proposer : ℕ) → id ≢ proposer → StepCount m old proposer new → FramePasses old new id
count_passes {S} {V} m old new id proposer other by = in_phase by.at_round.of_call by.at_round.desk by.at_round.round by.counts
  where
    in_phase : (of_call : OpenCallAt old proposer) (desk : DeskView V) (round : Round) → calls.CountsOrEnds m old proposer desk round of_call.caller of_call.call new → FramePasses old new id
    in_phase at desk round (calls.counts now by outcome quorum confirmers proposed ends is) = passes_other old new id proposer now other (ap (λ (w : View S V). w.desks) is)
    in_phase at desk round (calls.ends now verdict why verdict_is cause ends is) = passes_other old new id proposer now other (ap (λ (w : View S V). w.desks) is)

left_passes : {S V : Type 0} (DeskTurns : DeskView V → DeskView V → Type 0) (closed : CallView → CallView) (old new : View S V) (id proposer : ℕ) → id ≢ proposer → LeavesRound DeskTurns closed old proposer new → FramePasses old new id
left_passes {S} {V} DeskTurns closed old new id proposer other (stops.idle desk now at none turns is) = passes_other old new id proposer now other (ap (λ (w : View S V). w.desks) is)
left_passes {S} {V} DeskTurns closed old new id proposer other (stops.closes desk now round at there is_round turns is) = passes_other old new id proposer now other (ap (λ (w : View S V). w.desks) is)

down_passes : {S V : Type 0} (DeskTurns : DeskView V → DeskView V → Type 0) (old new : View S V) (id proposer : ℕ) → id ≢ proposer → GoesDown DeskTurns old proposer new → FramePasses old new id
down_passes DeskTurns old new id proposer other (stops.of_client client leaves) = left_passes DeskTurns closed_by_crash old new id proposer other leaves
down_passes {S} {V} DeskTurns old new id proposer other (stops.of_operator middle operator leaves is) =
    passes_both old middle new id (left_passes DeskTurns closed_by_crash old middle id proposer other leaves) (passes_same middle new id (ap (λ (w : View S V). w.desks) is))

-- ---- frames
-- a reply arrives at a desk
arrives : {S V : Type 0} (old new : View S V) (id place : ℕ) (reply : Reply) (desk now : DeskView V) (round heard : Round) → (place ≡ id → ReplyIsUnderWay old id reply) → IsAt old.desks place desk → desk.round ≡ Some round → HearsReply desk now round heard reply
    → new.desks ≡ slice_set old.desks place now → Something old new id
arrives {S} {V} old new id place reply desk now round heard way at is_open hears same = elim (true_or_false (nat_eq place id)) [
  | inl here ↦
      let is : place ≡ id = eqb-true place id here in (
        reply ∷ [],
        one reply desk now round heard (way is) (subst (λ (i : ℕ). IsAt old.desks i desk) is at) is_open hears
            (subst (λ (l : List (DeskView V)). IsAt l id now) (sym same) (subst (λ (i : ℕ). IsAt (slice_set old.desks place now) i now) is (at_set old.desks place desk now at))),
      )
  | inr there ↦ other_desk old new id place now (λ is. eqb-false place id there (sym is)) same
]

turn_brings : {S V : Type 0} (m : Meaning S V) (old new : View S V) (id proposer : ℕ) (v : Verdict) → StepTurn m old proposer v new → Something old new id
turn_brings {S} {V} m old new id proposer v by = in_turn by.of_call by.front by.waits by.turn
  where
    in_turn : (of_call : OpenCallAt old proposer) (front : Message) → slice_get (queue_at old.flow proposer).messages 0 ≡ Some front → frames.TakesTurn m old proposer v front of_call.caller of_call.call new → Something old new id
    in_turn at front waits (frames.held fall is) = same_desks old new id (ap (λ (w : View S V). w.desks) is)
    in_turn at front waits (frames.gone fall is) = same_desks old new id (ap (λ (w : View S V). w.desks) is)
    in_turn at front waits (frames.answers request acceptor now reply fall front_is there table is) = same_desks old new id (ap (λ (w : View S V). w.desks) is)
    in_turn at front waits (frames.finds_down request acceptor fall front_is there down is) = same_desks old new id (ap (λ (w : View S V). w.desks) is)
    in_turn at front waits (frames.brings_down request acceptor now fall front_is there stops is) = same_desks old new id (ap (λ (w : View S V). w.desks) is)
    in_turn at front waits (frames.arrives reply desk now round heard fall front_is there is_round hears is) =
        arrives old new id proposer reply desk now round heard (λ here. inl (subst (λ (i : ℕ). IsAt (queue_at old.flow i).messages 0 (message.Reply reply)) here (waits ∙ ap (λ (x : Message). Some x) front_is))) there is_round hears (ap (λ (w : View S V). w.desks) is)

stray_brings : {S V : Type 0} (m : Meaning S V) (old new : View S V) (id index : ℕ) → StepStray m old index new → Something old new id
stray_brings {S} {V} m old new id index by = in_stray by.late by.waits by.strays
  where
    in_stray : (late : Message) → slice_get old.flow.late index ≡ Some late → frames.Strays m old index late new → Something old new id
    in_stray late waits (frames.answers request acceptor now reply late_is at table is) = same_desks old new id (ap (λ (w : View S V). w.desks) is)
    in_stray late waits (frames.brings_down request acceptor now late_is at stops is) = same_desks old new id (ap (λ (w : View S V). w.desks) is)
    in_stray late waits (frames.arrives reply desk now round heard late_is at is_round hears is) =
        arrives old new id reply.to reply desk now round heard (λ here. inr (index, waits ∙ ap (λ (x : Message). Some x) late_is)) at is_round hears (ap (λ (w : View S V). w.desks) is)
    in_stray late waits (frames.drops ignored is) = same_desks old new id (ap (λ (w : View S V). w.desks) is)

no_room_passes : {S V : Type 0} (m : Meaning S V) (old new : View S V) (id : ℕ) → frames.FindsNoRoom m old new → FramePasses old new id
no_room_passes {S} {V} m old new id (frames.stays is) = passes_same old new id (ap (λ (w : View S V). w.desks) is)
no_room_passes {S} {V} m old new id (frames.kept at acceptor now there finds is) = passes_same old new id (ap (λ (w : View S V). w.desks) is)

-- ---- stops
restart_passes : {S V : Type 0} (m : Meaning S V) (old new : View S V) (id acceptor : ℕ) → StepRestartAcceptor m old acceptor new → Something old new id
restart_passes {S} {V} m old new id acceptor (step.was_up it at up is) = same_desks old new id (ap (λ (w : View S V). w.desks) is)
restart_passes {S} {V} m old new id acceptor (step.starts it now at starts is) = same_desks old new id (ap (λ (w : View S V). w.desks) is)
restart_passes {S} {V} m old new id acceptor (step.fails it now at fails is) = same_desks old new id (ap (λ (w : View S V). w.desks) is)

desk_passes : {S V : Type 0} (m : Meaning S V) (old new : View S V) (id proposer : ℕ) → StepRestartProposer m old proposer new → Something old new id
desk_passes {S} {V} m old new id proposer (step.was_up_already desk at up is) = same_desks old new id (ap (λ (w : View S V). w.desks) is)
desk_passes {S} {V} m old new id proposer (step.restarts desk now caller at at_caller down restarts is) = elim (true_or_false (nat_eq id proposer)) [
  | inl here ↦ (
    [],
    nothing (λ seen at_seen.
        let same : id ≡ proposer = eqb-true id proposer here in
        let one_desk : desk ≡ seen = at_one old.desks id (subst (λ (i : ℕ). IsAt old.desks i desk) (sym same) at) at_seen in (
          now,
          subst (λ (l : List (DeskView V)). IsAt l id now) (sym (ap (λ (w : View S V). w.desks) is)) (subst (λ (i : ℕ). IsAt (slice_set old.desks proposer now) i now) (sym same) (at_set old.desks proposer desk now at)),
          ap (λ (d : DeskView V). d.round) restarts.desk ∙ ap (λ (d : DeskView V). d.round) one_desk,
        )),
  )
  | inr other ↦ other_desk old new id proposer now (eqb-false id proposer other) (ap (λ (w : View S V). w.desks) is)
]

-- ---- the operator's calls
ask_passes : {S V : Type 0} (m : Meaning S V) (old new : View S V) (id : ℕ) (question : Question) → id ≢ 0 → StepAskAll m old question new → Something old new id
ask_passes {S} {V} m old new id question other by = in_asks by.asks
  where
    in_asks : council.AsksAll m old question by.desk new → Something old new id
    in_asks (council.asks now tag flow up room drawn now_is sends is) = other_desk old new id 0 now other (ap (λ (w : View S V). w.desks) is)
    in_asks (council.is_down down is) = same_desks old new id (ap (λ (w : View S V). w.desks) is)
    in_asks (council.is_full up full is) = same_desks old new id (ap (λ (w : View S V). w.desks) is)
    in_asks (council.is_spent now up spent kept now_is is) = other_desk old new id 0 now other (ap (λ (w : View S V). w.desks) is)
    in_asks (council.fails now up fails is) = other_desk old new id 0 now other (ap (λ (w : View S V). w.desks) is)
    in_asks (council.no_memory now tag up loses is) = other_desk old new id 0 now other (ap (λ (w : View S V). w.desks) is)

exchange_passes : {S V : Type 0} (m : Meaning S V) (old new : View S V) (id : ℕ) (v : Verdict) → StepTurnExchange m old v new → Something old new id
exchange_passes {S} {V} m old new id v by = in_turn by.turn
  where
    in_turn : council.TurnsExchange m old v by.front by.at.exchange new → Something old new id
    in_turn (council.held fall is) = same_desks old new id (ap (λ (w : View S V). w.desks) is)
    in_turn (council.gone fall is) = same_desks old new id (ap (λ (w : View S V). w.desks) is)
    in_turn (council.answers request acceptor now reply fall front_is there table is) = same_desks old new id (ap (λ (w : View S V). w.desks) is)
    in_turn (council.finds_down request acceptor fall front_is there down is) = same_desks old new id (ap (λ (w : View S V). w.desks) is)
    in_turn (council.brings_down request acceptor now fall front_is there stops is) = same_desks old new id (ap (λ (w : View S V). w.desks) is)
    in_turn (council.arrives reply fall front_is to_it is) = same_desks old new id (ap (λ (w : View S V). w.desks) is)

gather_passes : {S V : Type 0} (old new : View S V) (id : ℕ) → StepGather old new → Something old new id
gather_passes {S} {V} old new id by = in_gather by.gathers
  where
    in_gather : council.Gathers old by.at.exchange new → Something old new id
    in_gather (council.crashed crashed is) = same_desks old new id (ap (λ (w : View S V). w.desks) is)
    in_gather (council.probed key found up question plain found_is is) = same_desks old new id (ap (λ (w : View S V). w.desks) is)
    in_gather (council.read key era found marks up question reads found_is counts is) = same_desks old new id (ap (λ (w : View S V). w.desks) is)
    in_gather (council.lists of listing up enough on is) = same_desks old new id (ap (λ (w : View S V). w.desks) is)
    in_gather (council.is_short of short up missing is) = same_desks old new id (ap (λ (w : View S V). w.desks) is)
    in_gather (council.no_memory up is) = same_desks old new id (ap (λ (w : View S V). w.desks) is)

tell_passes : {S V : Type 0} (old new : View S V) (id : ℕ) (answer : OpAnswer) → StepTell old answer new → Something old new id
tell_passes {S} {V} old new id answer (council.tells order said is_open told same is) = same_desks old new id (ap (λ (w : View S V). w.desks) is)
tell_passes {S} {V} old new id answer (council.finishes order is_open by is) = same_desks old new id (ap (λ (w : View S V). w.desks) is)
tell_passes {S} {V} old new id answer (council.collects order is_open by is) = same_desks old new id (ap (λ (w : View S V). w.desks) is)

-- ---- changes of membership
welcome_passes : {S V : Type 0} (m : Meaning S V) (old new : View S V) (id : ℕ) (asked : Asked) → Welcomes m old asked new → FramePasses old new id
welcome_passes {S} {V} m old new id asked (plans.starts acceptor was now joins at starts is) = passes_same old new id (ap (λ (w : View S V). w.desks) is)
welcome_passes {S} {V} m old new id asked (plans.fails acceptor was now joins at fails is) = passes_same old new id (ap (λ (w : View S V). w.desks) is)
welcome_passes {S} {V} m old new id asked (plans.is_up acceptor was joins at up is) = passes_same old new id (ap (λ (w : View S V). w.desks) is)
welcome_passes {S} {V} m old new id asked (plans.stays joins_none is) = passes_same old new id (ap (λ (w : View S V). w.desks) is)

plan_passes : {S V : Type 0} (m : Meaning S V) (old new : View S V) (id : ℕ) → StepOpenPlan m old new → Something old new id
plan_passes {S} {V} m old new id by = in_case by.opens
  where
    in_case : OpensPlan m old by.order.asked by.desk new → Something old new id
    in_case (plans.is_down down is) = same_desks old new id (ap (λ (w : View S V). w.desks) is)
    in_case (plans.is_busy plan up busy is) = same_desks old new id (ap (λ (w : View S V). w.desks) is)
    in_case (plans.refuses fault up none planned is) = same_desks old new id (ap (λ (w : View S V). w.desks) is)
    in_case (plans.opens progress middle up none planned welcomes is) =
        ([], nothing (passes_both old middle new id (welcome_passes m old middle id by.order.asked welcomes) (passes_same middle new id (ap (λ (w : View S V). w.desks) is))))
    in_case (plans.no_memory progress middle up none planned welcomes is) =
        ([], nothing (passes_both old middle new id (welcome_passes m old middle id by.order.asked welcomes) (passes_same middle new id (ap (λ (w : View S V). w.desks) is))))

enter_passes : {S V : Type 0} (m : Meaning S V) (old new : View S V) (id proposer : ℕ) → id ≢ proposer → StepEnterEra m old proposer new → Something old new id
enter_passes {S} {V} m old new id proposer apart by = in_case by.enters
  where
    other : id ≢ by.plan.entered
    other = λ is. apart (is ∙ by.may.is_due)

    in_case : EntersNext m old by.plan by.next by.desk new → Something old new id
    in_case (plans.enters middle room leaves is) = (
      [],
      nothing (passes_both old middle new id (left_passes (EntersEra m.disks by.next) (closed_by (answer.Moved by.next.number) (cause.Moved by.next.number)) old middle id by.plan.entered other leaves)
          (passes_same middle new id (ap (λ (w : View S V). w.desks) is))),
    )
    in_case (plans.is_full full is) = same_desks old new id (ap (λ (w : View S V). w.desks) is)
    in_case (plans.is_down room down is) = same_desks old new id (ap (λ (w : View S V). w.desks) is)
    in_case (plans.fails middle room down is) =
        ([], nothing (passes_both old middle new id (down_passes (FailsToEnter m.disks by.next) old middle id by.plan.entered other down) (passes_same middle new id (ap (λ (w : View S V). w.desks) is))))
    in_case (plans.no_memory now room up kept now_is is) = other_desk old new id by.plan.entered now other (ap (λ (w : View S V). w.desks) is)

-- ---- collections
begin_collect_passes : {S V : Type 0} (m : Meaning S V) (old new : View S V) (id : ℕ) (key : List ℕ) → id ≢ 0 → StepBeginCollect m (λ before after. StepBegin m before 0 key keep_always after) old key new → Something old new id
begin_collect_passes {S} {V} m old new id key other by = in_case by.begins
  where
    in_case : collect.BeginsCollection m (λ before after. StepBegin m before 0 key keep_always after) old key by.may.order by.desk by.caller new → Something old new id
    in_case (collect.is_down none down is) = same_desks old new id (ap (λ (w : View S V). w.desks) is)
    in_case (collect.is_busy plan none up planned is) = same_desks old new id (ap (λ (w : View S V). w.desks) is)
    in_case (collect.is_full none up unplanned full is) = same_desks old new id (ap (λ (w : View S V). w.desks) is)
    in_case (collect.no_memory middle none up unplanned refuses is) = both_nothing old middle new id (no_begin_passes m old middle id 0 key other refuses) (passes_same middle new id (ap (λ (w : View S V). w.desks) is))
    in_case (collect.begins middle none unplanned begins is) = both_nothing old middle new id (begin_passes m old middle id 0 key keep_always other begins) (passes_same middle new id (ap (λ (w : View S V). w.desks) is))
    in_case (collect.goes_on middle call of open_ begins is) = both_nothing old middle new id (begin_passes m old middle id 0 key keep_always other begins) (passes_same middle new id (ap (λ (w : View S V). w.desks) is))

gather_round_passes : {S V : Type 0} (old new : View S V) (id : ℕ) → StepGatherRound old new → Something old new id
gather_round_passes {S} {V} old new id by = in_case by.gathers
  where
    in_case : collect.GathersRound old by.at new → Something old new id
    in_case (collect.all ballot members tombstone all is) = same_desks old new id (ap (λ (w : View S V). w.desks) is)
    in_case (collect.is_absent ballot members acceptor tombstone least is) = same_desks old new id (ap (λ (w : View S V). w.desks) is)
    in_case (collect.is_held version tombstone is) = same_desks old new id (ap (λ (w : View S V). w.desks) is)

renew_passes : {S V : Type 0} (m : Meaning S V) (old new : View S V) (id proposer : ℕ) → id ≢ proposer → StepRenew m old proposer new → Something old new id
renew_passes {S} {V} m old new id proposer other by = in_case by.renews
  where
    in_case : collect.RenewsNext m old by.at proposer by.desk new → Something old new id
    in_case (collect.renews age middle leaves is) = both_nothing old middle new id
        (left_passes (Renews m.disks by.at.collection.course.key (tomb_of by.at.collection.tombstone) age) (closed_by (answer.Aged age) (cause.Aged age)) old middle id proposer other leaves) (passes_same middle new id (ap (λ (w : View S V). w.desks) is))
    in_case (collect.is_down down is) = same_desks old new id (ap (λ (w : View S V). w.desks) is)
    in_case (collect.fails middle down is) = both_nothing old middle new id (down_passes (FailsToRenew m.disks _) old middle id proposer other down) (passes_same middle new id (ap (λ (w : View S V). w.desks) is))
    in_case (collect.is_spent up spent is) = same_desks old new id (ap (λ (w : View S V). w.desks) is)
    in_case (collect.no_memory now up finds is) = other_desk old new id proposer now other (ap (λ (w : View S V). w.desks) is)

ask_collect_passes : {S V : Type 0} (m : Meaning S V) (old new : View S V) (id : ℕ) → StepAskCollect m old new → Something old new id
ask_collect_passes {S} {V} m old new id by = in_case by.asks
  where
    in_case : collect.AsksCollect m old by.may.at by.desk new → Something old new id
    in_case (collect.asks question flow up asks room aged sends is) = same_desks old new id (ap (λ (w : View S V). w.desks) is)
    in_case (collect.is_down down is) = same_desks old new id (ap (λ (w : View S V). w.desks) is)
    in_case (collect.is_full question up asks full is) = same_desks old new id (ap (λ (w : View S V). w.desks) is)
    in_case (collect.no_memory up is) = same_desks old new id (ap (λ (w : View S V). w.desks) is)

gather_collect_passes : {S V : Type 0} (old new : View S V) (id : ℕ) → StepGatherCollect old new → Something old new id
gather_collect_passes {S} {V} old new id by = in_case by.gathers
  where
    in_case : collect.GathersCollect old by.at by.of_exchange.exchange new → Something old new id
    in_case (collect.crashed crashed is) = same_desks old new id (ap (λ (w : View S V). w.desks) is)
    in_case (collect.all up all is) = same_desks old new id (ap (λ (w : View S V). w.desks) is)
    in_case (collect.is_absent acceptor up least is) = same_desks old new id (ap (λ (w : View S V). w.desks) is)

-- ---- all of them
pub steps : {S V : Type 0} (m : Meaning S V) → StepsPassOrBring m
steps m old new id (step.Begin caller key program) not_own by = ([], nothing (begin_passes m old new id caller key program (λ is. not_own (sym is)) by))
steps m old new id (step.RefuseBegin caller key) not_own by = ([], nothing (no_begin_passes m old new id caller key (λ is. not_own (sym is)) by))
steps m old new id (step.Turn proposer v) not_own by = turn_brings m old new id proposer v by
steps {S} {V} m old new id (step.RefuseTurn proposer) not_own by = both_nothing old by.middle new id (no_room_passes m old by.middle id by.refuses) (passes_same by.middle new id (ap (λ (w : View S V). w.desks) by.view))
steps m old new id (step.Propose proposer) not_own by = propose_passes m old new id proposer (λ is. not_own (sym is)) by
steps m old new id (step.Count proposer) not_own by = ([], nothing (count_passes m old new id proposer (λ is. not_own (sym is)) by))
steps {S} {V} m old new id (step.End caller told) not_own by = other_desk old new id caller by.ends.now (λ is. not_own (sym is)) (ap (λ (w : View S V). w.desks) by.ends.view)
steps m old new id (step.Stray index) not_own by = stray_brings m old new id index by
steps m old new id step.RefuseStray not_own by = ([], nothing (no_room_passes m old new id by))
steps {S} {V} m old new id (step.CrashAcceptor acceptor) not_own (step.crashes it now at crashes is) = same_desks old new id (ap (λ (w : View S V). w.desks) is)
steps m old new id (step.RestartAcceptor acceptor) not_own by = restart_passes m old new id acceptor by
steps m old new id (step.CrashProposer proposer) not_own by = ([], nothing (down_passes (Crashes m.disks) old new id proposer (λ is. not_own (sym is)) by))
steps m old new id (step.RestartProposer proposer) not_own by = desk_passes m old new id proposer by
steps {S} {V} m old new id (step.Order asked) not_own by = same_desks old new id (ap (λ (w : View S V). w.desks) by.view)
steps {S} {V} m old new id step.RefuseOrder not_own by = same_desks old new id (ap (λ (w : View S V). w.desks) by)
steps m old new id (step.Tell answer) not_own by = tell_passes old new id answer by
steps m old new id (step.AskAll question) not_own by = ask_passes m old new id question (λ is. not_own (sym is)) by
steps m old new id (step.TurnExchange v) not_own by = exchange_passes m old new id v by
steps {S} {V} m old new id step.RefuseTurnExchange not_own by = both_nothing old by.middle new id (no_room_passes m old by.middle id by.refuses) (passes_same by.middle new id (ap (λ (w : View S V). w.desks) by.view))
steps m old new id step.Gather not_own by = gather_passes old new id by
steps {S} {V} m old new id step.RefuseKey not_own by = same_desks old new id (ap (λ (w : View S V). w.desks) by.view)
steps m old new id step.OpenPlan not_own by = plan_passes m old new id by
steps m old new id (step.EnterEra proposer) not_own by = enter_passes m old new id proposer (λ is. not_own (sym is)) by
steps m old new id (step.BeginCollect key) not_own by = begin_collect_passes m old new id key (λ is. not_own (sym is)) by
steps {S} {V} m old new id step.ReadHeld not_own by = other_desk old new id 0 by.now (λ is. not_own (sym is)) (ap (λ (w : View S V). w.desks) by.view)
steps {S} {V} m old new id step.CountCollect not_own by = both_nothing old by.middle new id (count_passes m old by.middle id 0 (λ is. not_own (sym is)) by.counts) (passes_same by.middle new id (ap (λ (w : View S V). w.desks) by.view))
steps {S} {V} m old new id (step.EndCollect told) not_own by =
    both_nothing old by.middle new id (passes_other old by.middle id 0 by.ends.ends.now (λ is. not_own (sym is)) (ap (λ (w : View S V). w.desks) by.ends.ends.view)) (passes_same by.middle new id (ap (λ (w : View S V). w.desks) by.view))
steps m old new id step.GatherRound not_own by = gather_round_passes old new id by
steps m old new id (step.Renew proposer) not_own by = renew_passes m old new id proposer (λ is. not_own (sym is)) by
steps m old new id step.AskCollect not_own by = ask_collect_passes m old new id by
steps m old new id step.GatherCollect not_own by = gather_collect_passes old new id by
steps {S} {V} m old new id step.MakeFloor not_own by = same_desks old new id (ap (λ (w : View S V). w.desks) by.view)
