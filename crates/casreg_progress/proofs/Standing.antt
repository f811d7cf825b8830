-- What stays along a line: who is down, and which phase the proposer's round is in.
use Rattle.std.proofs.Common.{◌≡◌, ◌-◌, ℕ, Bool, true, false, List, Option, None, Some, slice_set, sym, ap, subst, ◌∙◌, inl, inr}
use Rattle.cas_base.proofs.Bools.{true_or_false, not_both}
use Rattle.cas_change.specs.declared.program.Clause.{Clause}
use Rattle.cas_fate.specs.declared.fate.Verdict.{Verdict}
use Rattle.cas_flow.specs.declared.message.Message.{Message}
use Rattle.cas_acceptor.specs.Acceptor.{AcceptorView}
use Rattle.cas_proposer.specs.Desk.{DeskView}
use Rattle.cas_proposer.specs.Round.{is_preparing}
use Rattle.cas_proposer.specs.declared.round.Round.{Round}
use Rattle.cas_quorum.specs.declared.era.Era.{Era}
use Rattle.cas_record.specs.declared.answer.Answer.{Answer}
use Rattle.cas_slot.specs.declared.message.Reply.{Reply}
use Rattle.cas_model.specs.Step as step
use Rattle.cas_model.specs.Step.{StepBegin, StepTurn, StepRefuseTurn, StepPropose, StepCount, StepEnd}
use Rattle.cas_model.specs.Stops.Step as stops
use Rattle.cas_model.specs.Stops.Step.{CrashesDesk, StepCrashProposer, OpenCallAt}
use Rattle.cas_model.specs.Calls.Step as calls
use Rattle.cas_model.specs.Frames.Step as frames
use Rattle.cas_model.specs.View.{Meaning, View, IsAt}
use Rattle.cas_model.proofs.Places.{at_one, at_set, same_or_not}
use Rattle.cas_model_causes.specs.Calls.Rounds.{Brings, nothing, one}
use Rattle.cas_model_causes.proofs.Calls.Hearing.{at_other, steps}
use Rattle.casreg_progress.proofs.ByRules as script
use Rattle.casreg_progress.proofs.ByRules.{TurnedByRules, FailsToTurnByRules, EndsPrepare, IsAccepted, IsRound, AreRounds}
use Rattle.casreg_script.specs.Frames.Conditions.{Rule, verdict_on}
use Rattle.casreg_script.specs.declared.halt.Halt.{Halt}
use Rattle.casreg_progress.specs.Lines.{IsMemberOf}

-- ---- acceptors
-- each that was down is down
abbrev pub KeepsDown : {S V : Type 0} → View S V → View S V → Type 0
KeepsDown {S} {V} old new = (a : ℕ) (acceptor : AcceptorView S) → IsAt old.acceptors a acceptor → acceptor.down ≡ true → (now : AcceptorView S) × IsAt new.acceptors a now × (now.down ≡ true)

keeps_same : {S V : Type 0} (old new : View S V) → new.acceptors ≡ old.acceptors → KeepsDown old new
keeps_same {S} {V} old new same a acceptor at down = (acceptor, subst (λ (l : List (AcceptorView S)). IsAt l a acceptor) (sym same) at, down)

pub keeps_both : {S V : Type 0} (old mid new : View S V) → KeepsDown old mid → KeepsDown mid new → KeepsDown old new
keeps_both old mid new before after a acceptor at down = let then_ = before a acceptor at down in after a then_.0 then_.1 then_.2

keeps_set : {S V : Type 0} (old new : View S V) (place : ℕ) (acceptor now : AcceptorView S) → IsAt old.acceptors place acceptor → (acceptor.down ≡ true → now.down ≡ true) → new.acceptors ≡ slice_set old.acceptors place now → KeepsDown old new
keeps_set {S} {V} old new place acceptor now there still is a each at down = elim (same_or_not a place) [
  | inl own ↦ (
    now,
    subst (λ (l : List (AcceptorView S)). IsAt l a now) (sym is) (subst (λ (p : ℕ). IsAt (slice_set old.acceptors place now) p now) (sym own) (at_set old.acceptors place acceptor now there)),
    still (ap (λ (x : AcceptorView S). x.down) (at_one old.acceptors place there (subst (λ (p : ℕ). IsAt old.acceptors p each) own at)) ∙ down),
  )
  | inr other ↦ (each, subst (λ (l : List (AcceptorView S)). IsAt l a each) (sym is) (at_other old.acceptors place now a each other at), down)
]

-- every member of the era is up
abbrev pub StillUp : {S V : Type 0} → Era → View S V → Type 0
StillUp {S} {V} era view = (member : ℕ) → IsMemberOf era member → (acceptor : AcceptorView S) → IsAt view.acceptors member acceptor → acceptor.down ≡ false

-- who is up then was up before
pub up_before : {S V : Type 0} (era : Era) (old new : View S V) → KeepsDown old new → StillUp era new → StillUp era old
up_before era old new keeps up member is acceptor at = elim (true_or_false acceptor.down) [
  | inl down ↦ let now = keeps member acceptor at down in absurd (not_both now.0.down now.2 (up member is now.0 now.1))
  | inr there ↦ there
]

-- ---- steps
pub turn_keeps : {S V : Type 0} (m : Meaning S V) (old new : View S V) (id : ℕ) (v : Verdict) → StepTurn m old id v new → KeepsDown old new
turn_keeps {S} {V} m old new id v by = in_turn by.of_call by.front by.turn
  where
    in_turn : (of_call : OpenCallAt old id) (front : Message) → frames.TakesTurn m old id v front of_call.caller of_call.call new → KeepsDown old new
    in_turn at front (frames.held fall is) = keeps_same old new (ap (λ (w : View S V). w.acceptors) is)
    in_turn at front (frames.gone fall is) = keeps_same old new (ap (λ (w : View S V). w.acceptors) is)
    in_turn at front (frames.answers request acceptor now reply fall front_is there table is) =
        keeps_set old new request.to acceptor now there (λ down. absurd (not_both acceptor.down down table.up)) (ap (λ (w : View S V). w.acceptors) is)
    in_turn at front (frames.finds_down request acceptor fall front_is there down is) = keeps_same old new (ap (λ (w : View S V). w.acceptors) is)
    in_turn at front (frames.brings_down request acceptor now fall front_is there stops is) =
        keeps_set old new request.to acceptor now there (λ down. ap (λ (x : AcceptorView S). x.down) stops.acceptor) (ap (λ (w : View S V). w.acceptors) is)
    in_turn at front (frames.arrives reply desk now round heard fall front_is there is_round hears is) = keeps_same old new (ap (λ (w : View S V). w.acceptors) is)

refuse_keeps : {S V : Type 0} (m : Meaning S V) (old new : View S V) (id : ℕ) → StepRefuseTurn m old id new → KeepsDown old new
refuse_keeps {S} {V} m old new id by = keeps_both old by.middle new (finds by.refuses) (keeps_same by.middle new (ap (λ (w : View S V). w.acceptors) by.view))
  where
    finds : frames.FindsNoRoom m old by.middle → KeepsDown old by.middle
    finds (frames.stays is) = keeps_same old by.middle (ap (λ (w : View S V). w.acceptors) is)
    finds (frames.kept at acceptor now there found is) = keeps_set old by.middle at acceptor now there (λ down. absurd (not_both acceptor.down down found.up)) (ap (λ (w : View S V). w.acceptors) is)

begin_keeps : {S V : Type 0} (m : Meaning S V) (old new : View S V) (id : ℕ) (key : List ℕ) (program : List Clause) → StepBegin m old id key program new → KeepsDown old new
begin_keeps {S} {V} m old new id key program by = keeps_same old new (in_round by.begins ∙ opens by.opens)
  where
    opens : calls.Opens old id key program by.middle → by.middle.acceptors ≡ old.acceptors
    opens (calls.first was at none_open room is) = ap (λ (w : View S V). w.acceptors) is
    opens (calls.again was open_call reserved at open_is key_is program_is none_proposed met no_round room some is) = ap (λ (w : View S V). w.acceptors) is

    in_round : calls.BeginsRound m by.middle id by.caller by.call new → new.acceptors ≡ by.middle.acceptors
    in_round (calls.prepares desk now ballot round flow at up few begins sends is) = ap (λ (w : View S V). w.acceptors) is
    in_round (calls.proposes desk now ready ride round outcome flow at up few begins made sends is) = ap (λ (w : View S V). w.acceptors) is
    in_round (calls.stays told no_beginning no_round full is) = ap (λ (w : View S V). w.acceptors) is
    in_round (calls.spent desk now at none_open up no_promise spent kept now_is is) = ap (λ (w : View S V). w.acceptors) is
    in_round (calls.fails desk now at none_open up fails is) = ap (λ (w : View S V). w.acceptors) is
    in_round (calls.loses desk now ballot at none_open up loses is) = ap (λ (w : View S V). w.acceptors) is

pub propose_same : {S V : Type 0} (m : Meaning S V) (old new : View S V) (id : ℕ) → StepPropose m old id new → new.acceptors ≡ old.acceptors
propose_same {S} {V} m old new id by = in_phase by.at_round.of_call by.at_round.desk by.at_round.round by.proposes
  where
    in_phase : (of_call : OpenCallAt old id) (desk : DeskView V) (round : Round) → calls.ProposesOrEnds m old id desk round of_call.caller of_call.call new → new.acceptors ≡ old.acceptors
    in_phase at desk round (calls.proposes now turned read by_them ride outcome flow quorum confirmers reads turns made sends is) = ap (λ (w : View S V). w.acceptors) is
    in_phase at desk round (calls.ends now verdict told verdict_is refuses ends is) = ap (λ (w : View S V). w.acceptors) is
    in_phase at desk round (calls.fails now fails is) = ap (λ (w : View S V). w.acceptors) is
    in_phase at desk round (calls.loses now ballot loses is) = ap (λ (w : View S V). w.acceptors) is

pub count_keeps : {S V : Type 0} (m : Meaning S V) (old new : View S V) (id : ℕ) → StepCount m old id new → KeepsDown old new
count_keeps {S} {V} m old new id by = keeps_same old new (in_phase by.at_round.of_call by.at_round.desk by.at_round.round by.counts)
  where
    in_phase : (of_call : OpenCallAt old id) (desk : DeskView V) (round : Round) → calls.CountsOrEnds m old id desk round of_call.caller of_call.call new → new.acceptors ≡ old.acceptors
    in_phase at desk round (calls.counts now by_them outcome quorum confirmers proposed ends is) = ap (λ (w : View S V). w.acceptors) is
    in_phase at desk round (calls.ends now verdict why verdict_is cause ends is) = ap (λ (w : View S V). w.acceptors) is

desk_crash_keeps : {S V : Type 0} (m : Meaning S V) (old new : View S V) (id : ℕ) → CrashesDesk m old id new → KeepsDown old new
desk_crash_keeps {S} {V} m old new id (stops.idle desk now at none_open crashes is) = keeps_same old new (ap (λ (w : View S V). w.acceptors) is)
desk_crash_keeps {S} {V} m old new id (stops.closes desk now round at there is_round crashes is) = keeps_same old new (ap (λ (w : View S V). w.acceptors) is)

crash_keeps : {S V : Type 0} (m : Meaning S V) (old new : View S V) (id : ℕ) → StepCrashProposer m old id new → KeepsDown old new
crash_keeps m old new id (stops.of_client client crashes) = desk_crash_keeps m old new id crashes
crash_keeps {S} {V} m old new id (stops.of_operator middle operator crashes is) = keeps_both old middle new (desk_crash_keeps m old middle id crashes) (keeps_same middle new (ap (λ (w : View S V). w.acceptors) is))

pub end_keeps : {S V : Type 0} (m : Meaning S V) (old new : View S V) (id : ℕ) (told : Answer) → StepEnd m old id told new → KeepsDown old new
end_keeps {S} {V} m old new id told by = keeps_same old new (ap (λ (w : View S V). w.acceptors) by.ends.view)

pub propose_keeps : {S V : Type 0} (m : Meaning S V) (old new : View S V) (id : ℕ) → StepPropose m old id new → KeepsDown old new
propose_keeps m old new id by = keeps_same old new (propose_same m old new id by)

-- ---- the parts of a line
turned_keeps : {S V : Type 0} (m : Meaning S V) (rules : List Rule) (id : ℕ) (old new : View S V) → TurnedByRules m rules id old new → KeepsDown old new
turned_keeps m rules id old new script.none = λ a acceptor at down. (acceptor, at, down)
turned_keeps m rules id old new (script.one_more {mid = mid} frame turned at by) = keeps_both old mid new (turned_keeps m rules id old mid turned) (turn_keeps m mid new id (verdict_on rules frame) by)

fails_keeps : {S V : Type 0} (m : Meaning S V) (rules : List Rule) (id : ℕ) (old new : View S V) → FailsToTurnByRules m rules id old new → KeepsDown old new
fails_keeps m rules id old new by = keeps_both old by.mid new (turned_keeps m rules id old by.mid by.turned) (refuse_keeps m by.mid new id by.fails)

ends_keeps : {S V : Type 0} (m : Meaning S V) (rules : List Rule) (id : ℕ) (halt : Halt) (old new : View S V) → EndsPrepare m rules id halt old new → KeepsDown old new
ends_keeps m rules id halt old new by = keeps_both old by.turned new (turned_keeps m rules id old by.turned by.turns.turned) (propose_keeps m by.turned new id by.proposes)

pub accepted_keeps : {S V : Type 0} (m : Meaning S V) (rules : List Rule) (id : ℕ) (halt after : Halt) (old new : View S V) → IsAccepted m rules id halt old after new → KeepsDown old new
accepted_keeps m rules id halt after old new (script.cut_short (script.halts accepting due crashes)) = crash_keeps m old new id crashes
accepted_keeps m rules id halt after old new (script.cut_short (script.no_memory due fails)) = fails_keeps m rules id old new fails
accepted_keeps m rules id halt after old new (script.counts {turned = turned} due turns by) = keeps_both old turned new (turned_keeps m rules id old turned turns.turned) (count_keeps m turned new id by)

round_keeps : {S V : Type 0} (m : Meaning S V) (rules : List Rule) (id : ℕ) (halt after : Halt) (old new : View S V) → IsRound m rules id halt old after new → KeepsDown old new
round_keeps m rules id halt after old new script.none_begun = λ a acceptor at down. (acceptor, at, down)
round_keeps m rules id halt after old new (script.by_promise accepted) = accepted_keeps m rules id halt after old new accepted
round_keeps m rules id halt after old new (script.cut_off (script.no_memory fails)) = fails_keeps m rules id old new fails
round_keeps m rules id halt after old new (script.cut_off (script.halts {turned = turned} turns strikes crashes)) = keeps_both old turned new (turned_keeps m rules id old turned turns.turned) (crash_keeps m turned new id crashes)
round_keeps m rules id halt after old new (script.ends_short ends) = ends_keeps m rules id halt old new ends
round_keeps m rules id halt after old new (script.proposes {proposed = proposed} ends accepted) = keeps_both old proposed new (ends_keeps m rules id halt old proposed ends) (accepted_keeps m rules id halt after proposed new accepted)

pub rounds_keep : {S V : Type 0} (m : Meaning S V) (rules : List Rule) (id : ℕ) (key : List ℕ) (program : List Clause) (tries : ℕ) (halt after : Halt) (old new : View S V) → AreRounds m rules id key program tries halt old after new → KeepsDown old new
rounds_keep m rules id key program tries halt after old new (script.last round no_more) = round_keeps m rules id halt after old new round
rounds_keep m rules id key program tries halt after old new (script.another {mid = mid} {met = met} {begun = begun} left round is_met begins rest) =
    keeps_both old met new (round_keeps m rules id halt mid old met round) (keeps_both met begun new (begin_keeps m met begun id key program begins) (rounds_keep m rules id key program (tries - 1) mid after begun new rest))

pub another_keeps : {S V : Type 0} (m : Meaning S V) (rules : List Rule) (id : ℕ) (key : List ℕ) (program : List Clause) (tries : ℕ) (mid after : Halt) (met begun new : View S V) → StepBegin m met id key program begun → AreRounds m rules id key program tries mid begun after new → KeepsDown met new
another_keeps m rules id key program tries mid after met begun new begins rest = keeps_both met begun new (begin_keeps m met begun id key program begins) (rounds_keep m rules id key program tries mid after begun new rest)

-- ---- phases
-- whether the round that is open, if one is, is in its prepare phase
abbrev pub opens_in : Option Round → Option Bool
opens_in None = None
opens_in (Some round) = Some (is_preparing round.phase)

pub record Shows {S V : Type 0} (view : View S V) (id : ℕ) (phase : Option Bool) : Type 0 where
  pub desk : DeskView V
  pub at_desk : IsAt view.desks id desk
  pub phase_is : opens_in desk.round ≡ phase

brought_shows : {S V : Type 0} (old new : View S V) (id : ℕ) (phase : Option Bool) (brought : List Reply) → Brings old new id brought → Shows old id phase → Shows new id phase
brought_shows old new id phase brought (nothing passes) was = let now = passes was.desk was.at_desk in record { desk = now.0; at_desk = now.1; phase_is = ap opens_in now.2 ∙ was.phase_is }
brought_shows {S} {V} old new id phase brought (one reply desk now seen next way at is_open hears at_now) was = record {
  desk = now;
  at_desk = at_now;
  phase_is = ap opens_in (ap (λ (d : DeskView V). d.round) hears.desk) ∙ ap (λ (b : Bool). Some b) hears.hears.same_phase ∙ sym (ap opens_in is_open) ∙ ap (λ (d : DeskView V). opens_in d.round) (at_one old.desks id at was.at_desk) ∙ was.phase_is;
}

pub turned_shows : {S V : Type 0} (m : Meaning S V) (rules : List Rule) (id : ℕ) (phase : Option Bool) (old new : View S V) → TurnedByRules m rules id old new → Shows old id phase → Shows new id phase
turned_shows m rules id phase old new script.none was = was
turned_shows m rules id phase old new (script.one_more {mid = mid} frame turned at by) was =
    let brings = steps m mid new id (step.Turn id (verdict_on rules frame)) (λ x. x) by in
    brought_shows mid new id phase brings.0 brings.1 (turned_shows m rules id phase old mid turned was)

-- only a round in its prepare phase proposes, and only one in its accept phase is counted
pub proposes_in : {S V : Type 0} (m : Meaning S V) (old new : View S V) (id : ℕ) (phase : Option Bool) → Shows old id phase → StepPropose m old id new → phase ≡ Some true
proposes_in {S} {V} m old new id phase was by =
    sym was.phase_is ∙ ap (λ (d : DeskView V). opens_in d.round) (at_one old.desks id was.at_desk by.at_round.at_desk) ∙ ap opens_in by.at_round.is_open ∙ ap (λ (b : Bool). Some b) by.preparing

pub counts_in : {S V : Type 0} (m : Meaning S V) (old new : View S V) (id : ℕ) (phase : Option Bool) → Shows old id phase → StepCount m old id new → phase ≡ Some false
counts_in {S} {V} m old new id phase was by =
    sym was.phase_is ∙ ap (λ (d : DeskView V). opens_in d.round) (at_one old.desks id was.at_desk by.at_round.at_desk) ∙ ap opens_in by.at_round.is_open ∙ ap (λ (b : Bool). Some b) by.accepting
