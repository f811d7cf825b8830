-- What a call of one caller leaves to the others.
use Rattle.std.proofs.Common.{◌≡◌, ◌≢◌, ◌≤◌, ℕ, Bool, nat_eq, List, None, slice_get, slice_set, inl, inr, refl, sym, ap, subst, ◌∙◌, eqb-true}
use Rattle.std.proofs.lemmas.Bool.{eqb-false}
use Rattle.cas_base.proofs.Bools.{true_or_false}
use Rattle.cas_change.specs.declared.program.Clause.{Clause}
use Rattle.cas_fate.specs.declared.fate.Verdict.{Verdict}
use Rattle.cas_flow.specs.declared.message.Message.{Message}
use Rattle.cas_lines.specs.declared.answer.EventAnswer.{EventAnswer}
use Rattle.cas_proposer.specs.Desk.{DeskView}
use Rattle.cas_proposer.specs.declared.round.Round.{Round}
use Rattle.cas_record.specs.declared.answer.Answer.{Answer}
use Rattle.cas_model.specs.Step as step
use Rattle.std.specs.Prelude.{option_map}
use Rattle.cas_model.specs.Council.{Council, IsAtRest, broken_off, crashed_in}
use Rattle.cas_model.specs.Step.{StepBegin, StepTurn, StepRefuseTurn, StepPropose, StepCount, StepEnd, StepRestartAcceptor, StepRestartProposer}
use Rattle.cas_model.specs.Stops.Step as stops
use Rattle.cas_model.specs.Stops.Step.{CrashesDesk, broken_off_view, StepCrashProposer, OpenCallAt}
use Rattle.cas_model.specs.Calls.Step as calls
use Rattle.cas_model.specs.Frames.Step as frames
use Rattle.cas_model.specs.View.{Meaning, View, CallerView}
use Rattle.cas_model.proofs.Places.{at_one}
use Rattle.cas_world.specs.Calls.Beginning.{HasNoCall}
use Rattle.casreg_script.specs.Calls.Changes as changes
use Rattle.casreg_script.specs.Calls.Changes.{Turned, FailsToTurn, EndsPrepareBy, IsAcceptedBy, IsCutOff, IsCutShort, IsRoundBy, AreRoundsBy, AreRounds, IsChange}
use Rattle.casreg_script.specs.Frames.Conditions.{NetworkView}
use Rattle.casreg_script.specs.Events as events
use Rattle.casreg_script.specs.Events.{CrashesAcceptor, RestartsAcceptor, RestartsProposer, AnswersStray}
use Rattle.casreg_script.specs.Exchanges.Orders.{KeepsIdle}
use Rattle.casreg_script.specs.Stage.{AllIdle}
use Rattle.casreg_script.specs.Frames.Strays.{KeepsUnderWay}
use Rattle.casreg_script.specs.declared.halt.Halt.{Halt}
use Rattle.casreg_script.proofs.Others.{get_other}
use Rattle.casreg_script.proofs.Frames.Straying.{lets_under_way}

-- ---- the others
pub record KeepsOthers {S V : Type 0} (old new : View S V) (id : ℕ) : Type 0 where
  pub last_proposer : new.last_proposer ≡ old.last_proposer
  pub others : (p : ℕ) → p ≢ id → slice_get new.callers p ≡ slice_get old.callers p
  -- all that the operator has under way stays, where no exchange is open
  pub council : old.council.exchange ≡ None → new.council ≡ old.council

-- a call that begins or ends leaves it where the operator has no open call
pub record LeavesOthers {S V : Type 0} (old new : View S V) (id : ℕ) : Type 0 where
  pub last_proposer : new.last_proposer ≡ old.last_proposer
  pub others : (p : ℕ) → p ≢ id → slice_get new.callers p ≡ slice_get old.callers p
  pub council : IsAtRest old.council → new.council ≡ old.council

-- no operator's call is open still
pub stays_quiet : {old new : Council} → new ≡ old → IsAtRest old → IsAtRest new
stays_quiet same was = subst IsAtRest (sym same) was

-- one caller changes
sets : {S V : Type 0} (old new : View S V) (id : ℕ) (next : CallerView) → new.last_proposer ≡ old.last_proposer → new.callers ≡ slice_set old.callers id next → new.council ≡ old.council → KeepsOthers old new id
sets old new id next last_proposer callers council = record { last_proposer = last_proposer; council = λ quiet. council; others = λ p other. ap (λ (l : List CallerView). slice_get l p) callers ∙ get_other old.callers id next p other }

-- none does
stays : {S V : Type 0} (old new : View S V) (id : ℕ) → new.last_proposer ≡ old.last_proposer → new.callers ≡ old.callers → new.council ≡ old.council → KeepsOthers old new id
stays old new id last_proposer callers council = record { last_proposer = last_proposer; council = λ quiet. council; others = λ p other. ap (λ (l : List CallerView). slice_get l p) callers }

-- so none is open then
pub quiet_then : {S V : Type 0} (old new : View S V) (id : ℕ) → KeepsOthers old new id → old.council.exchange ≡ None → new.council.exchange ≡ None
quiet_then old new id keeps quiet = ap (λ (c : Council). c.exchange) (keeps.council quiet) ∙ quiet

pub both : {S V : Type 0} (old mid new : View S V) (id : ℕ) → KeepsOthers old mid id → KeepsOthers mid new id → KeepsOthers old new id
both old mid new id before after = record {
  last_proposer = after.last_proposer ∙ before.last_proposer;
  others = λ p other. after.others p other ∙ before.others p other;
  council = λ quiet. after.council (quiet_then old mid id before quiet) ∙ before.council quiet;
}

then_leaves : {S V : Type 0} (old mid new : View S V) (id : ℕ) → KeepsOthers old mid id → LeavesOthers mid new id → LeavesOthers old new id
then_leaves old mid new id before after = record {
  last_proposer = after.last_proposer ∙ before.last_proposer;
  others = λ p other. after.others p other ∙ before.others p other;
  council = λ rest. after.council (stays_quiet (before.council rest.exchange) rest) ∙ before.council rest.exchange;
}

same : {S V : Type 0} (old : View S V) (id : ℕ) → KeepsOthers old old id
same old id = record { last_proposer = refl; others = λ p other. refl; council = λ quiet. refl }

-- ---- the calls of a caller
pub begin_keeps : {S V : Type 0} (m : Meaning S V) (old new : View S V) (id : ℕ) (key : List ℕ) (program : List Clause) → StepBegin m old id key program new → KeepsOthers old new id
begin_keeps {S} {V} m old new id key program by = both old by.middle new id (opens by.opens) (in_round by.begins)
  where
    opens : calls.Opens old id key program by.middle → KeepsOthers old by.middle id
    opens (calls.first was at none room is) = sets old by.middle id _ (ap (λ (w : View S V). w.last_proposer) is) (ap (λ (w : View S V). w.callers) is) (ap (λ (w : View S V). w.council) is)
    opens (calls.again was open_call reserved at open_is key_is program_is none met no_round room some is) = sets old by.middle id _ (ap (λ (w : View S V). w.last_proposer) is) (ap (λ (w : View S V). w.callers) is) (ap (λ (w : View S V). w.council) is)

    in_round : calls.BeginsRound m by.middle id by.caller by.call new → KeepsOthers by.middle new id
    in_round (calls.prepares desk now ballot round flow at up few begins sends is) = stays by.middle new id (ap (λ (w : View S V). w.last_proposer) is) (ap (λ (w : View S V). w.callers) is) (ap (λ (w : View S V). w.council) is)
    in_round (calls.proposes desk now ready ride round outcome flow at up few begins made sends is) = sets by.middle new id _ (ap (λ (w : View S V). w.last_proposer) is) (ap (λ (w : View S V). w.callers) is) (ap (λ (w : View S V). w.council) is)
    in_round (calls.stays told no_beginning no_round full is) = sets by.middle new id _ (ap (λ (w : View S V). w.last_proposer) is) (ap (λ (w : View S V). w.callers) is) (ap (λ (w : View S V). w.council) is)
    in_round (calls.spent desk now at none up no_promise spent kept now_is is) = sets by.middle new id _ (ap (λ (w : View S V). w.last_proposer) is) (ap (λ (w : View S V). w.callers) is) (ap (λ (w : View S V). w.council) is)
    in_round (calls.fails desk now at none up fails is) = sets by.middle new id _ (ap (λ (w : View S V). w.last_proposer) is) (ap (λ (w : View S V). w.callers) is) (ap (λ (w : View S V). w.council) is)
    in_round (calls.loses desk now ballot at none up loses is) = sets by.middle new id _ (ap (λ (w : View S V). w.last_proposer) is) (ap (λ (w : View S V). w.callers) is) (ap (λ (w : View S V). w.council) is)

-- a key is proposed anew within a call of the operator
at_rest_stays : {old new : Council} {id : ℕ} {key : List ℕ} {answer : Answer} → calls.Rescans old id key answer new → IsAtRest old → new ≡ old
at_rest_stays (calls.rescans of done is) rest = absurd (cc (sym rest.order ∙ of.is_open))
at_rest_stays (calls.stops of not_done is) rest = absurd (cc (sym rest.order ∙ of.is_open))
at_rest_stays (calls.is_none other is) rest = is

no_begin_leaves : {S V : Type 0} (m : Meaning S V) (old new : View S V) (id : ℕ) (key : List ℕ) → calls.RefusesCall m old id key new → LeavesOthers old new id
no_begin_leaves {S} {V} m old new id key (calls.stays told council refusal anew is) = record {
  last_proposer = ap (λ (w : View S V). w.last_proposer) is;
  others = λ p other. ap (λ (w : View S V). slice_get w.callers p) is;
  council = λ rest. ap (λ (w : View S V). w.council) is ∙ at_rest_stays anew rest;
}
no_begin_leaves {S} {V} m old new id key (calls.loses caller desk now ballot council at_caller at_desk none up loses anew is) = record {
  last_proposer = ap (λ (w : View S V). w.last_proposer) is;
  others = λ p other. ap (λ (w : View S V). slice_get w.callers p) is;
  council = λ rest. ap (λ (w : View S V). w.council) is ∙ at_rest_stays anew rest;
}

pub turn_keeps : {S V : Type 0} (m : Meaning S V) (old new : View S V) (id : ℕ) (v : Verdict) → StepTurn m old id v new → KeepsOthers old new id
turn_keeps {S} {V} m old new id v by = in_turn by.of_call by.front by.turn
  where
    in_turn : (of_call : OpenCallAt old id) (front : Message) → frames.TakesTurn m old id v front of_call.caller of_call.call new → KeepsOthers old new id
    in_turn at front (frames.held fall is) = stays old new id (ap (λ (w : View S V). w.last_proposer) is) (ap (λ (w : View S V). w.callers) is) (ap (λ (w : View S V). w.council) is)
    in_turn at front (frames.gone fall is) = sets old new id _ (ap (λ (w : View S V). w.last_proposer) is) (ap (λ (w : View S V). w.callers) is) (ap (λ (w : View S V). w.council) is)
    in_turn at front (frames.answers request acceptor now reply fall front_is there table is) = sets old new id _ (ap (λ (w : View S V). w.last_proposer) is) (ap (λ (w : View S V). w.callers) is) (ap (λ (w : View S V). w.council) is)
    in_turn at front (frames.finds_down request acceptor fall front_is there down is) = sets old new id _ (ap (λ (w : View S V). w.last_proposer) is) (ap (λ (w : View S V). w.callers) is) (ap (λ (w : View S V). w.council) is)
    in_turn at front (frames.brings_down request acceptor now fall front_is there stops is) = sets old new id _ (ap (λ (w : View S V). w.last_proposer) is) (ap (λ (w : View S V). w.callers) is) (ap (λ (w : View S V). w.council) is)
    in_turn at front (frames.arrives reply desk now round heard fall front_is there is_round hears is) = sets old new id _ (ap (λ (w : View S V). w.last_proposer) is) (ap (λ (w : View S V). w.callers) is) (ap (λ (w : View S V). w.council) is)

no_room_keeps : {S V : Type 0} (m : Meaning S V) (old new : View S V) (id : ℕ) → frames.FindsNoRoom m old new → KeepsOthers old new id
no_room_keeps {S} {V} m old new id (frames.stays is) = stays old new id (ap (λ (w : View S V). w.last_proposer) is) (ap (λ (w : View S V). w.callers) is) (ap (λ (w : View S V). w.council) is)
no_room_keeps {S} {V} m old new id (frames.kept at acceptor now there finds is) = stays old new id (ap (λ (w : View S V). w.last_proposer) is) (ap (λ (w : View S V). w.callers) is) (ap (λ (w : View S V). w.council) is)

pub refuse_keeps : {S V : Type 0} (m : Meaning S V) (old new : View S V) (id : ℕ) → StepRefuseTurn m old id new → KeepsOthers old new id
refuse_keeps {S} {V} m old new id by = both old by.middle new id (no_room_keeps m old by.middle id by.refuses) (sets by.middle new id _ (ap (λ (w : View S V). w.last_proposer) by.view) (ap (λ (w : View S V). w.callers) by.view) (ap (λ (w : View S V). w.council) by.view))

pub propose_keeps : {S V : Type 0} (m : Meaning S V) (old new : View S V) (id : ℕ) → StepPropose m old id new → KeepsOthers old new id
propose_keeps {S} {V} m old new id by = in_phase by.at_round.of_call by.at_round.desk by.at_round.round by.proposes
  where
    in_phase : (of_call : OpenCallAt old id) (desk : DeskView V) (round : Round) → calls.ProposesOrEnds m old id desk round of_call.caller of_call.call new → KeepsOthers old new id
    in_phase at desk round (calls.proposes now turned read by ride outcome flow quorum confirmers reads turns made sends is) = sets old new id _ (ap (λ (w : View S V). w.last_proposer) is) (ap (λ (w : View S V). w.callers) is) (ap (λ (w : View S V). w.council) is)
    in_phase at desk round (calls.ends now verdict told verdict_is refuses ends is) = sets old new id _ (ap (λ (w : View S V). w.last_proposer) is) (ap (λ (w : View S V). w.callers) is) (ap (λ (w : View S V). w.council) is)
    in_phase at desk round (calls.fails now fails is) = sets old new id _ (ap (λ (w : View S V). w.last_proposer) is) (ap (λ (w : View S V). w.callers) is) (ap (λ (w : View S V). w.council) is)
    in_phase at desk round (calls.loses now ballot loses is) = sets old new id _ (ap (λ (w : View S V). w.last_proposer) is) (ap (λ (w : View S V). w.callers) is) (ap (λ (w : View S V). w.council) is)

pub count_keeps : {S V : Type 0} (m : Meaning S V) (old new : View S V) (id : ℕ) → StepCount m old id new → KeepsOthers old new id
count_keeps {S} {V} m old new id by = in_phase by.at_round.of_call by.at_round.desk by.at_round.round by.counts
  where
    in_phase : (of_call : OpenCallAt old id) (desk : DeskView V) (round : Round) → calls.CountsOrEnds m old id desk round of_call.caller of_call.call new → KeepsOthers old new id
    in_phase at desk round (calls.counts now by outcome quorum confirmers proposed ends is) = sets old new id _ (ap (λ (w : View S V). w.last_proposer) is) (ap (λ (w : View S V). w.callers) is) (ap (λ (w : View S V). w.council) is)
    in_phase at desk round (calls.ends now verdict why verdict_is cause ends is) = sets old new id _ (ap (λ (w : View S V). w.last_proposer) is) (ap (λ (w : View S V). w.callers) is) (ap (λ (w : View S V). w.council) is)

pub end_leaves : {S V : Type 0} (m : Meaning S V) (old new : View S V) (id : ℕ) (told : Answer) → StepEnd m old id told new → LeavesOthers old new id
end_leaves {S} {V} m old new id told by = record {
  last_proposer = ap (λ (w : View S V). w.last_proposer) by.ends.view;
  others = λ p other. ap (λ (w : View S V). slice_get w.callers p) by.ends.view ∙ get_other old.callers id _ p other;
  council = λ rest. ap (λ (w : View S V). w.council) by.ends.view ∙ at_rest_stays by.ends.rescans rest;
}

desk_crash_keeps : {S V : Type 0} (m : Meaning S V) (old new : View S V) (id : ℕ) → CrashesDesk m old id new → KeepsOthers old new id
desk_crash_keeps {S} {V} m old new id (stops.idle desk now at none crashes is) = stays old new id (ap (λ (w : View S V). w.last_proposer) is) (ap (λ (w : View S V). w.callers) is) (ap (λ (w : View S V). w.council) is)
desk_crash_keeps {S} {V} m old new id (stops.closes desk now round at there is_round crashes is) = sets old new id _ (ap (λ (w : View S V). w.last_proposer) is) (ap (λ (w : View S V). w.callers) is) (ap (λ (w : View S V). w.council) is)

-- no exchange is broken off where none is open
none_broken : (council : Council) → council.exchange ≡ None → crashed_in council ≡ council
none_broken council quiet = λ i. record council { exchange = (ap (option_map broken_off) quiet ∙ sym quiet) i }

breaks_off : {S V : Type 0} (old new : View S V) (id : ℕ) → new ≡ broken_off_view old → KeepsOthers old new id
breaks_off {S} {V} old new id is = record {
  last_proposer = ap (λ (w : View S V). w.last_proposer) is;
  others = λ p other. ap (λ (w : View S V). slice_get w.callers p) is;
  council = λ quiet. ap (λ (w : View S V). w.council) is ∙ none_broken old.council quiet;
}

pub crash_keeps : {S V : Type 0} (m : Meaning S V) (old new : View S V) (id : ℕ) → StepCrashProposer m old id new → KeepsOthers old new id
crash_keeps m old new id (stops.of_client client crashes) = desk_crash_keeps m old new id crashes
crash_keeps m old new id (stops.of_operator middle operator crashes is) = both old middle new id (desk_crash_keeps m old middle id crashes) (breaks_off middle new id is)

-- ---- a change
-- what each turn of a proposer's frames, a late frame that strays in, and a crash of the proposer do to a world
pub record HoldsThrough {S V : Type 0} (m : Meaning S V) (id : ℕ) (Holds : View S V → View S V → Type 0) : Type 0 where
  pub stays : (old : View S V) → Holds old old
  pub joins : (old mid new : View S V) → Holds old mid → Holds mid new → Holds old new
  pub lets : (old new : View S V) → KeepsUnderWay old new → Holds old new
  pub turn : (old new : View S V) (verdict : Verdict) → StepTurn m old id verdict new → Holds old new
  pub refuse : (old new : View S V) → StepRefuseTurn m old id new → Holds old new
  pub crash : (old new : View S V) → StepCrashProposer m old id new → Holds old new

module _ {S V : Type 0} {m : Meaning S V} {id : ℕ} {Holds : View S V → View S V → Type 0} (through : HoldsThrough m id Holds) where
  pub turned_holds : {by : NetworkView} (old : View S V) {next : NetworkView} {again : Bool} (new : View S V) → Turned m by id old next again new → Holds old new
  turned_holds old new changes.none = through.stays old
  turned_holds old new (changes.one_more {before = before} {between = between} {mid = mid} {near = near} frame turned lets at decides by) =
      through.joins old mid new (turned_holds old mid turned) (through.joins mid near new (through.lets mid near (lets_under_way m before between mid near lets)) (through.turn near new _ by))

  pub fails_hold : {by next : NetworkView} (old new : View S V) → FailsToTurn m by id old next new → Holds old new
  fails_hold old new by =
      through.joins old by.mid new (turned_holds old by.mid by.turned) (through.joins by.mid by.near new (through.lets by.mid by.near (lets_under_way m by.before by.between by.mid by.near by.lets_in)) (through.refuse by.near new by.fails))

  pub cut_off_holds : {by next : NetworkView} (halt after : Halt) (old new : View S V) → IsCutOff m by id halt old next after new → Holds old new
  cut_off_holds halt after old new (changes.no_memory by) = fails_hold old new by
  cut_off_holds halt after old new (changes.halts {turned = turned} turns strikes by) = through.joins old turned new (turned_holds old turned turns.turned) (through.crash turned new by)

  pub cut_short_holds : {by next : NetworkView} (halt after : Halt) (old new : View S V) → IsCutShort m by id halt old next after new → Holds old new
  cut_short_holds halt after old new (changes.halts accepting due by) = through.crash old new by
  cut_short_holds halt after old new (changes.no_memory not_due by) = fails_hold old new by

-- and what its calls do
pub record HoldsInRounds {S V : Type 0} (m : Meaning S V) (id : ℕ) (Holds Begins Ends Counts : View S V → View S V → Type 0) : Type 0 where
  pub through : HoldsThrough m id Holds
  pub begins : (old new : View S V) → Begins old new → Holds old new
  pub ends : (old new : View S V) → Ends old new → Holds old new
  pub counts : (old new : View S V) → Counts old new → Holds old new

module _ {S V : Type 0} {m : Meaning S V} {id : ℕ} {Holds Begins Ends Counts : View S V → View S V → Type 0} (holds : HoldsInRounds m id Holds Begins Ends Counts) where
  prepare_holds : {by next : NetworkView} (halt : Halt) (old new : View S V) → EndsPrepareBy Ends m by id halt old next new → Holds old new
  prepare_holds halt old new by = holds.through.joins old by.turned new (turned_holds holds.through old by.turned by.turns.turned) (holds.ends by.turned new by.proposes)

  accepted_holds : {by next : NetworkView} (halt after : Halt) (old new : View S V) → IsAcceptedBy Counts m by id halt old next after new → Holds old new
  accepted_holds halt after old new (changes.cut_short by) = cut_short_holds holds.through halt after old new by
  accepted_holds halt after old new (changes.counts {turned = turned} not_due turns by) = holds.through.joins old turned new (turned_holds holds.through old turned turns.turned) (holds.counts turned new by)

  round_holds : {by next : NetworkView} (halt after : Halt) (old new : View S V) → IsRoundBy Ends Counts m by id halt old next after new → Holds old new
  round_holds halt after old new changes.none_begun = holds.through.stays old
  round_holds halt after old new (changes.by_promise accepted) = accepted_holds halt after old new accepted
  round_holds halt after old new (changes.cut_off by) = cut_off_holds holds.through halt after old new by
  round_holds halt after old new (changes.ends_short by) = prepare_holds halt old new by
  round_holds halt after old new (changes.proposes {proposed = proposed} by accepted) = holds.through.joins old proposed new (prepare_holds halt old proposed by) (accepted_holds halt after proposed new accepted)

  pub rounds_hold : (tries : ℕ) {by next : NetworkView} (halt after : Halt) (old new : View S V) → AreRoundsBy Begins Ends Counts m id tries by halt old next after new → Holds old new
  rounds_hold tries halt after old new (changes.last by ends) = round_holds halt after old new by
  rounds_hold tries halt after old new (changes.another {mid = mid} {met = met} {begun = begun} many by is_met begins more) =
      holds.through.joins old met new (round_holds halt mid old met by) (holds.through.joins met begun new (holds.begins met begun begins) (rounds_hold _ mid after begun new more))

-- the others keep their calls
pub others_through : {S V : Type 0} (m : Meaning S V) (id : ℕ) → HoldsThrough m id (λ old new. KeepsOthers old new id)
others_through m id = record {
  stays = λ old. same old id;
  joins = λ old mid new. both old mid new id;
  lets = λ old new keeps. stays old new id keeps.last_proposer keeps.callers keeps.council;
  turn = λ old new verdict. turn_keeps m old new id verdict;
  refuse = λ old new. refuse_keeps m old new id;
  crash = λ old new. crash_keeps m old new id;
}

pub rounds_keep : {S V : Type 0} (m : Meaning S V) {net next : NetworkView} (id : ℕ) (key : List ℕ) (program : List Clause) (tries : ℕ) (halt after : Halt) (old new : View S V) → AreRounds m id key program tries net halt old next after new → KeepsOthers old new id
rounds_keep {S} {V} m id key program tries halt after old new by =
    rounds_hold {Holds = λ before next. KeepsOthers before next id} (record {
      through = others_through m id;
      begins = λ before next begins. begin_keeps m before next id key program begins;
      ends = λ before next ends. propose_keeps m before next id ends;
      counts = λ before next counts. count_keeps m before next id counts;
    }) tries halt after old new by

pub change_leaves : {S V : Type 0} (m : Meaning S V) (tries : ℕ) {net next : NetworkView} (id : ℕ) (key : List ℕ) (program : List Clause) (halt after : Halt) (old new : View S V) (answer : Answer) → IsChange m tries net id key program halt old answer next after new → LeavesOthers old new id
change_leaves m tries id key program halt after old new answer (changes.refused is by) = no_begin_leaves m old new id key by
change_leaves m tries id key program halt after old new answer (changes.ended {begun = begun} {told = told} begins rounds ends) =
    then_leaves old told new id (both old begun told id (begin_keeps m old begun id key program begins) (rounds_keep m id key program tries halt after begun told rounds)) (end_leaves m told new id answer ends)

-- ---- no call is open
pub still_none : {S V : Type 0} (old new : View S V) (id : ℕ) → LeavesOthers old new id → HasNoCall new id → (p : ℕ) → HasNoCall old p → HasNoCall new p
still_none old new id leaves own p was = elim (true_or_false (nat_eq p id)) [
  | inl is ↦ subst (HasNoCall new) (sym (eqb-true p id is)) own
  | inr other ↦ record { caller = was.caller; at_caller = leaves.others p (eqb-false p id other) ∙ was.at_caller; none_open = was.none_open }
]

pub idle_then : {S V : Type 0} (old new : View S V) (id : ℕ) → LeavesOthers old new id → AllIdle old → HasNoCall new id → AllIdle new
idle_then old new id leaves idle own p low = still_none old new id leaves own p (idle p (subst (λ (g : ℕ). p ≤ g) leaves.last_proposer low))

pub all_idle : {S V : Type 0} (old new : View S V) → KeepsIdle old new → AllIdle old → AllIdle new
all_idle old new keeps idle p low = keeps.idle p (idle p (subst (λ (g : ℕ). p ≤ g) keeps.last_proposer low))

-- no caller changes
pub record KeepsCallers {S V : Type 0} (old new : View S V) : Type 0 where
  pub last_proposer : new.last_proposer ≡ old.last_proposer
  pub callers : new.callers ≡ old.callers
  pub council : IsAtRest old.council → new.council ≡ old.council

pub still_idle : {S V : Type 0} (old new : View S V) → new.last_proposer ≡ old.last_proposer → new.callers ≡ old.callers → AllIdle old → AllIdle new
still_idle old new last_proposer callers idle p low =
    let was = idle p (subst (λ (g : ℕ). p ≤ g) last_proposer low) in
    record { caller = was.caller; at_caller = ap (λ (l : List CallerView). slice_get l p) callers ∙ was.at_caller; none_open = was.none_open }

by_view : {S V : Type 0} (old changed new : View S V) → new ≡ changed → changed.last_proposer ≡ old.last_proposer → changed.callers ≡ old.callers → changed.council ≡ old.council → KeepsCallers old new
by_view {S} {V} old changed new is last_proposer callers council = record {
  last_proposer = ap (λ (w : View S V). w.last_proposer) is ∙ last_proposer;
  callers = ap (λ (w : View S V). w.callers) is ∙ callers;
  council = λ rest. ap (λ (w : View S V). w.council) is ∙ council;
}

pub crashes_keep : {S V : Type 0} (m : Meaning S V) (old new : View S V) (id : ℕ) (answer : EventAnswer) → CrashesAcceptor m old id answer new → KeepsCallers old new
crashes_keep m old new id answer (events.absent none) = by_view old old old refl refl refl refl
crashes_keep m old new id answer (events.crashes there (step.crashes acceptor now at crashes is)) = by_view old _ new is refl refl refl

restarts_step : {S V : Type 0} (m : Meaning S V) (old new : View S V) (id : ℕ) → StepRestartAcceptor m old id new → KeepsCallers old new
restarts_step m old new id (step.was_up acceptor at up is) = by_view old old new is refl refl refl
restarts_step m old new id (step.starts acceptor now at starts is) = by_view old _ new is refl refl refl
restarts_step m old new id (step.fails acceptor now at fails is) = by_view old _ new is refl refl refl

pub restarts_keep : {S V : Type 0} (m : Meaning S V) (old new : View S V) (id : ℕ) (answer : EventAnswer) → RestartsAcceptor m old id answer new → KeepsCallers old new
restarts_keep m old new id answer (events.absent none) = by_view old old old refl refl refl refl
restarts_keep m old new id answer (events.restarts result there by tells) = restarts_step m old new id by

desk_step : {S V : Type 0} (m : Meaning S V) (old new : View S V) (id : ℕ) → StepRestartProposer m old id new → KeepsCallers old new
desk_step m old new id (step.was_up_already desk at up is) = by_view old old new is refl refl refl
desk_step m old new id (step.restarts desk now caller at at_caller down restarts is) = by_view old _ new is refl refl refl

pub proposer_keeps : {S V : Type 0} (m : Meaning S V) (old new : View S V) (id : ℕ) (answer : EventAnswer) → RestartsProposer m old id answer new → KeepsCallers old new
proposer_keeps m old new id answer (events.restarts result by tells) = desk_step m old new id by

-- a proposer that crashes between two calls
desk_between : {S V : Type 0} (m : Meaning S V) (old new : View S V) (id : ℕ) → id ≤ old.last_proposer → AllIdle old → CrashesDesk m old id new → KeepsCallers old new
desk_between m old new id low idle (stops.idle desk now at none crashes is) = by_view old _ new is refl refl refl
desk_between m old new id low idle (stops.closes desk now round at there is_round crashes is) =
    let was = idle id low in
    absurd (cc (sym was.none_open ∙ ap (λ (c : CallerView). c.call) (at_one old.callers id was.at_caller at.at_caller) ∙ at.is_open))

pub crash_between : {S V : Type 0} (m : Meaning S V) (old new : View S V) (id : ℕ) → id ≤ old.last_proposer → AllIdle old → StepCrashProposer m old id new → KeepsCallers old new
crash_between m old new id low idle (stops.of_client client crashes) = desk_between m old new id low idle crashes
crash_between {S} {V} m old new id low idle (stops.of_operator middle operator crashes is) =
    let before = desk_between m old middle id low idle crashes in
    let after = breaks_off middle new id is in
    record {
      last_proposer = after.last_proposer ∙ before.last_proposer;
      callers = ap (λ (w : View S V). w.callers) is ∙ before.callers;
      council = λ rest. after.council (stays_quiet (before.council rest) rest).exchange ∙ before.council rest;
    }

stray_step : {S V : Type 0} (m : Meaning S V) (old new : View S V) (index : ℕ) (late : Message) → frames.Strays m old index late new → KeepsCallers old new
stray_step m old new index late (frames.answers request acceptor now reply late_is at table is) = by_view old _ new is refl refl refl
stray_step m old new index late (frames.brings_down request acceptor now late_is at stops is) = by_view old _ new is refl refl refl
stray_step m old new index late (frames.arrives reply desk now round heard late_is at is_round hears is) = by_view old _ new is refl refl refl
stray_step m old new index late (frames.drops ignored is) = by_view old _ new is refl refl refl

pub strays_keep : {S V : Type 0} (m : Meaning S V) (old new : View S V) (index : ℕ) (answer : EventAnswer) → AnswersStray m old index answer new → KeepsCallers old new
strays_keep m old new index answer (events.absent none) = by_view old old old refl refl refl refl
strays_keep m old new index answer (events.strays by) = stray_step m old new index by.late by.strays
strays_keep m old new index answer (events.full low is) = by_view old old old refl refl refl refl
strays_keep m old new index answer (events.no_memory low (frames.stays is)) = by_view old old new is refl refl refl
strays_keep m old new index answer (events.no_memory low (frames.kept id acceptor now there finds is)) = by_view old _ new is refl refl refl
