-- What calls leave the course of a cluster as it was: all but the restart of a proposer, and those by which the operator changes its
-- members and has keys listed and proposed anew.
use Rattle.std.proofs.Common.{◌≡◌, ℕ, List, [], ◌∷◌, ◌++◌, Option, refl, ap, ◌∙◌, inl, inr}
use Rattle.std.specs.Prelude.{option_map, ⊤, ◌⊎◌, suc, Bool, true, false, if◌then◌else◌, map}
use Rattle.cas_ballot.specs.Members.{has_member}
use Rattle.cas_change.specs.declared.program.Clause.{Clause}
use Rattle.cas_change.specs.declared.state.State.TheVariants.{Empty}
use Rattle.cas_fate.specs.declared.fate.Verdict.{Verdict}
use Rattle.cas_flow.specs.Message.{head_of}
use Rattle.cas_flow.specs.declared.message.Message.{Message}
use Rattle.cas_proposer.specs.Desk.{DeskView}
use Rattle.cas_proposer.specs.declared.round.Round.{Round}
use Rattle.cas_slot.specs.Slot.{accepted_ballot}
use Rattle.cas_slot.specs.declared.message.Ask.{Ask}
use Rattle.cas_slot.specs.declared.message.Ask.TheVariants as ask
use Rattle.cas_slot.specs.declared.message.Tell.{Tell}
use Rattle.cas_slot.specs.declared.message.Tell.TheVariants as tell
use Rattle.cas_record.specs.Logs.Happening.{marks_of}
use Rattle.cas_record.specs.declared.mark.Mark.{Mark}
use Rattle.cas_record.specs.declared.mark.Mark.TheVariants.{Begun, Proposed, Voted, Acked, Floor, EraEntered, Ended, Harmed, Told}
use Rattle.cas_record.specs.declared.answer.Answer.{Answer}
use Rattle.cas_record.specs.declared.answer.Answer.TheVariants as answer
use Rattle.cas_record.specs.declared.answer.Cause.TheVariants as cause
use Rattle.cas_record.specs.declared.operator.Asked.{Asked}
use Rattle.cas_record.specs.declared.operator.OpAnswer.{OpAnswer}
use Rattle.cas_record.specs.declared.operator.OpAnswer.TheVariants as told_it
use Rattle.cas_protocol.specs.Acceptors.{votes_of}
use Rattle.cas_model.specs.Council.{Probe, NextKeys, NewAges, Removal, PlanView, without_partial}
use Rattle.cas_model.specs.Eras.Course.{EraEntry, Course, entries_in, course_of}
use Rattle.cas_model.specs.Step as step
use Rattle.cas_model.specs.Step.{Event, Step, StepBegin, StepTurn, StepPropose, StepCount, StepEnd, StepCrashAcceptor, StepRestartAcceptor}
use Rattle.cas_model.specs.Calls.Step as calls
use Rattle.cas_model.specs.Collection.State.{tomb_of}
use Rattle.cas_model.specs.Collection.Step as collect
use Rattle.cas_model.specs.Collection.Step.{keep_always, StepBeginCollect, StepGatherRound, StepRenew, StepAskCollect, StepGatherCollect}
use Rattle.cas_model.specs.Exchanges.Step as council
use Rattle.cas_model.specs.Exchanges.Step.{StepAskAll, StepTurnExchange}
use Rattle.cas_model.specs.Calls.Desks.{Crashes, Renews, FailsToRenew}
use Rattle.cas_model.specs.Frames.Step as frames
use Rattle.cas_model.specs.Exchanges.Read.{holders_of, MarksRead, counted, nothing}
use Rattle.cas_model.specs.Stops.Step as stops
use Rattle.cas_model.specs.Stops.Step.{OpenCallAt, LeavesRound, GoesDown, closed_by, closed_by_crash}
use Rattle.cas_model.specs.View.{Meaning, View, CallView, with_marks}
use Rattle.cas_model.proofs.Eras.Rescanning.{undone_plan, refused_undone}
use Rattle.cas_quorum.specs.declared.era.Era.{Era}
use Rattle.cas_record.specs.declared.operator.Probe.{Probe as Answered}
use Rattle.cas_ballot.specs.declared.ballot.Ballot.{Ballot}

-- ---- marks that tell of no era
pub entries_joined : (marks more : List Mark) → entries_in (marks ++ more) ≡ entries_in marks ++ entries_in more
entries_joined [] more = refl
entries_joined (EraEntered proposer era ∷ marks) more = ap (λ (l : List EraEntry). record { proposer = proposer; era = era } ∷ l) (entries_joined marks more)
entries_joined (Begun caller call key program ∷ marks) more = entries_joined marks more
entries_joined (Proposed p ∷ marks) more = entries_joined marks more
entries_joined (Voted acceptor key ballot ∷ marks) more = entries_joined marks more
entries_joined (Acked a ∷ marks) more = entries_joined marks more
entries_joined (Floor key ballot state ∷ marks) more = entries_joined marks more
entries_joined (Ended caller call rounds answer ∷ marks) more = entries_joined marks more
entries_joined (Harmed caller call down ∷ marks) more = entries_joined marks more
entries_joined (Told asked answer ∷ marks) more = entries_joined marks more

no_more : (entries : List EraEntry) → entries ++ [] ≡ entries
no_more [] = refl
no_more (entry ∷ entries) = ap (λ (l : List EraEntry). entry ∷ l) (no_more entries)

pub quiet : {S V : Type 0} (old : View S V) (more : List Mark) → entries_in more ≡ [] → course_of (with_marks old more) ≡ course_of old
quiet old more none = ap (λ (l : List EraEntry). record { last_proposer = old.last_proposer; eras = old.eras; plan = old.council.plan; entries = l })
    (entries_joined old.marks more ∙ ap (λ (l : List EraEntry). entries_in old.marks ++ l) none ∙ no_more (entries_in old.marks))

no_harms : (harmed : Bool) (caller call : ℕ) (down : Bool) → entries_in (if harmed then [] else Harmed caller call down ∷ []) ≡ []
no_harms true caller call down = refl
no_harms false caller call down = refl

no_votes : (acceptor : ℕ) (question : Ask) (answer : Tell) → entries_in (marks_of (votes_of acceptor question answer)) ≡ []
no_votes acceptor (ask.Accept key ballot era ride state) tell.Accepted = refl
no_votes acceptor question answer = refl

no_holders : (key : List ℕ) (ballot : Ballot) (by : List ℕ) (more : List Mark) → entries_in (map (λ acceptor. Voted acceptor key ballot) by ++ more) ≡ entries_in more
no_holders key ballot [] more = refl
no_holders key ballot (one ∷ by) more = no_holders key ballot by more

pub read_quietly : (era : Era) (key : List ℕ) (found : List Answered) (older marks : List Mark) → MarksRead era key found older marks → entries_in marks ≡ []
read_quietly era key found older marks (counted accepted agree above is) = ap entries_in is ∙ no_holders key accepted.ballot (holders_of accepted.ballot found) _
read_quietly era key found older marks (nothing none is) = ap entries_in is

-- ---- calls
begin_course : {S V : Type 0} (m : Meaning S V) (old new : View S V) (id : ℕ) (key : List ℕ) (program : List Clause) → StepBegin m old id key program new → course_of new ≡ course_of old
begin_course {S} {V} m old new id key program by = in_round by.begins ∙ opens by.opens
  where
    opens : calls.Opens old id key program by.middle → course_of by.middle ≡ course_of old
    opens (calls.first was at none room is) = ap course_of is ∙ quiet old (Begun id (suc was.number) key program ∷ []) refl
    opens (calls.again was open_call reserved at open_is key_is program_is none met no_round room some is) = ap course_of is

    in_round : calls.BeginsRound m by.middle id by.caller by.call new → course_of new ≡ course_of by.middle
    in_round (calls.prepares desk now ballot round flow at up few begins sends is) = ap course_of is
    in_round (calls.proposes desk now ready ride round outcome flow at up few begins made sends is) = ap course_of is ∙ quiet by.middle (Proposed (calls.proposal_of id by.caller.number round ready.read ready.by) ∷ []) refl
    in_round (calls.stays told no_beginning no_round full is) = ap course_of is
    in_round (calls.spent desk now at none up no_promise spent kept now_is is) = ap course_of is
    in_round (calls.fails desk now at none up fails is) = ap course_of is
    in_round (calls.loses desk now ballot at none up loses is) = ap course_of is

planned : {S V : Type 0} (view : View S V) {plan : Option PlanView} → plan ≡ view.council.plan → record (course_of view) { plan = plan } ≡ course_of view
planned view same = ap (λ (p : Option PlanView). record (course_of view) { plan = p }) same

no_begin_course : {S V : Type 0} (m : Meaning S V) (old new : View S V) (id : ℕ) (key : List ℕ) → calls.RefusesCall m old id key new → course_of new ≡ course_of old
no_begin_course {S} {V} m old new id key (calls.stays told council why rescan is) = ap course_of is ∙ planned old (undone_plan old.council id key told council (refused_undone old id told why) rescan)
no_begin_course {S} {V} m old new id key (calls.loses caller desk now ballot council at_caller at_desk none up loses rescan is) = ap course_of is ∙ planned old (undone_plan old.council id key (answer.NoMemory false) council refl rescan)

turn_course : {S V : Type 0} (m : Meaning S V) (old new : View S V) (id : ℕ) (v : Verdict) → StepTurn m old id v new → course_of new ≡ course_of old
turn_course {S} {V} m old new id v by = in_turn by.of_call by.front by.turn
  where
    in_turn : (of_call : OpenCallAt old id) (front : Message) → frames.TakesTurn m old id v front of_call.caller of_call.call new → course_of new ≡ course_of old
    in_turn at front (frames.held fall is) = ap course_of is
    in_turn at front (frames.gone fall is) = ap course_of is ∙ quiet old (frames.harms_marked id at.caller.number at.call (head_of front).1 false) (no_harms (has_member at.call.harmed (head_of front).1) _ _ _)
    in_turn at front (frames.answers request acceptor now reply fall front_is there table is) = ap course_of is ∙ quiet old (frames.votes_marked request reply) (no_votes request.to request.ask reply.tell)
    in_turn at front (frames.finds_down request acceptor fall front_is there down is) = ap course_of is ∙ quiet old (frames.harms_marked id at.caller.number at.call request.to true) (no_harms (has_member at.call.harmed request.to) _ _ _)
    in_turn at front (frames.brings_down request acceptor now fall front_is there stops is) = ap course_of is ∙ quiet old (frames.harms_marked id at.caller.number at.call request.to true) (no_harms (has_member at.call.harmed request.to) _ _ _)
    in_turn at front (frames.arrives reply desk now round heard fall front_is there is_round hears is) = ap course_of is

no_room_course : {S V : Type 0} (m : Meaning S V) (old new : View S V) → frames.FindsNoRoom m old new → course_of new ≡ course_of old
no_room_course {S} {V} m old new (frames.stays is) = ap course_of is
no_room_course {S} {V} m old new (frames.kept at acceptor now there finds is) = ap course_of is

propose_course : {S V : Type 0} (m : Meaning S V) (old new : View S V) (id : ℕ) → StepPropose m old id new → course_of new ≡ course_of old
propose_course {S} {V} m old new id by = in_phase by.at_round.of_call by.at_round.desk by.at_round.round by.proposes
  where
    in_phase : (of_call : OpenCallAt old id) (desk : DeskView V) (round : Round) → calls.ProposesOrEnds m old id desk round of_call.caller of_call.call new → course_of new ≡ course_of old
    in_phase at desk round (calls.proposes now turned read by ride outcome flow quorum confirmers reads turns made sends is) =
        ap course_of is ∙ quiet old (Proposed (calls.proposal_of id at.caller.number round (accepted_ballot read) by) ∷ []) refl
    in_phase at desk round (calls.ends now verdict told verdict_is refuses ends is) = ap course_of is
    in_phase at desk round (calls.fails now fails is) = ap course_of is
    in_phase at desk round (calls.loses now ballot loses is) = ap course_of is

count_course : {S V : Type 0} (m : Meaning S V) (old new : View S V) (id : ℕ) → StepCount m old id new → course_of new ≡ course_of old
count_course {S} {V} m old new id by = in_phase by.at_round.of_call by.at_round.desk by.at_round.round by.counts
  where
    in_phase : (of_call : OpenCallAt old id) (desk : DeskView V) (round : Round) → calls.CountsOrEnds m old id desk round of_call.caller of_call.call new → course_of new ≡ course_of old
    in_phase at desk round (calls.counts now by outcome quorum confirmers proposed ends is) =
        ap course_of is ∙ quiet old (Acked (record { key = round.key; ballot = round.ballot; era = round.era.number; by = by }) ∷ []) refl
    in_phase at desk round (calls.ends now verdict why verdict_is cause ends is) = ap course_of is

stray_course : {S V : Type 0} (m : Meaning S V) (old new : View S V) (index : ℕ) (late : Message) → frames.Strays m old index late new → course_of new ≡ course_of old
stray_course {S} {V} m old new index late (frames.answers request acceptor now reply late_is at table is) = ap course_of is ∙ quiet old (frames.votes_marked request reply) (no_votes request.to request.ask reply.tell)
stray_course {S} {V} m old new index late (frames.brings_down request acceptor now late_is at stops is) = ap course_of is
stray_course {S} {V} m old new index late (frames.arrives reply desk now round heard late_is at is_round hears is) = ap course_of is
stray_course {S} {V} m old new index late (frames.drops ignored is) = ap course_of is

-- ---- stops
stop_course : {S V : Type 0} (m : Meaning S V) (old new : View S V) (id : ℕ) → StepCrashAcceptor m old id new → course_of new ≡ course_of old
stop_course {S} {V} m old new id (step.crashes acceptor now at crashes is) = ap course_of is

start_course : {S V : Type 0} (m : Meaning S V) (old new : View S V) (id : ℕ) → StepRestartAcceptor m old id new → course_of new ≡ course_of old
start_course {S} {V} m old new id (step.was_up acceptor at up is) = ap course_of is
start_course {S} {V} m old new id (step.starts acceptor now at starts is) = ap course_of is
start_course {S} {V} m old new id (step.fails acceptor now at fails is) = ap course_of is

pub left_course : {S V : Type 0} (DeskTurns : DeskView V → DeskView V → Type 0) (closed : CallView → CallView) (old new : View S V) (id : ℕ) → LeavesRound DeskTurns closed old id new → course_of new ≡ course_of old
left_course {S} {V} DeskTurns closed old new id (stops.idle desk now at none turns is) = ap course_of is
left_course {S} {V} DeskTurns closed old new id (stops.closes desk now round at there is_round turns is) = ap course_of is

pub down_course : {S V : Type 0} (DeskTurns : DeskView V → DeskView V → Type 0) (old new : View S V) (id : ℕ) → GoesDown DeskTurns old id new → course_of new ≡ course_of old
down_course DeskTurns old new id (stops.of_client client leaves) = left_course DeskTurns closed_by_crash old new id leaves
down_course {S} {V} DeskTurns old new id (stops.of_operator middle operator leaves is) = ap course_of is ∙ left_course DeskTurns closed_by_crash old middle id leaves

-- ---- the operator's calls
ask_course : {S V : Type 0} (m : Meaning S V) (old new : View S V) (key : List ℕ) → StepAskAll m old (Probe key) new → course_of new ≡ course_of old
ask_course {S} {V} m old new key by = in_case by.asks
  where
    in_case : council.AsksAll m old (Probe key) by.desk new → course_of new ≡ course_of old
    in_case (council.asks now tag flow up room drawn now_is sends is) = ap course_of is
    in_case (council.is_down down is) = ap course_of is
    in_case (council.is_full up full is) = ap course_of is
    in_case (council.is_spent now up spent kept now_is is) = ap course_of is
    in_case (council.fails now up fails is) = ap course_of is
    in_case (council.no_memory now tag up loses is) = ap course_of is

ask_turn_course : {S V : Type 0} (m : Meaning S V) (old new : View S V) (v : Verdict) → StepTurnExchange m old v new → course_of new ≡ course_of old
ask_turn_course {S} {V} m old new v by = in_turn by.turn
  where
    in_turn : council.TurnsExchange m old v by.front by.at.exchange new → course_of new ≡ course_of old
    in_turn (council.held fall is) = ap course_of is
    in_turn (council.gone fall is) = ap course_of is ∙ quiet old (council.harm_marks by.at.exchange (head_of by.front).1 false) (no_harms (has_member by.at.exchange.harmed (head_of by.front).1) _ _ _)
    in_turn (council.answers request acceptor now reply fall front_is there table is) = ap course_of is ∙ quiet old (frames.votes_marked request reply) (no_votes request.to request.ask reply.tell)
    in_turn (council.finds_down request acceptor fall front_is there down is) = ap course_of is ∙ quiet old (council.harm_marks by.at.exchange request.to true) (no_harms (has_member by.at.exchange.harmed request.to) _ _ _)
    in_turn (council.brings_down request acceptor now fall front_is there stops is) = ap course_of is ∙ quiet old (council.harm_marks by.at.exchange request.to true) (no_harms (has_member by.at.exchange.harmed request.to) _ _ _)
    in_turn (council.arrives reply fall front_is to_it is) = ap course_of is

-- it is told something, and a listing that is not complete is dropped
pub told_course : {S V : Type 0} (old : View S V) (asked : Asked) (answer : OpAnswer) → course_of (council.told_over old asked answer) ≡ record (course_of old) { plan = option_map without_partial old.council.plan }
told_course old asked said = ap (λ (c : Course). record c { plan = option_map without_partial old.council.plan }) (quiet old (council.told_marks asked said) (no_entries asked said))
  where
    no_entries : (asked : Asked) (said : OpAnswer) → entries_in (council.told_marks asked said) ≡ []
    no_entries asked (told_it.Probed key found) = refl
    no_entries asked said = refl

-- a call ends, and a key that is proposed anew is no longer listed
pub end_course : {S V : Type 0} (m : Meaning S V) (old new : View S V) (id : ℕ) (told : Answer) → (by : StepEnd m old id told new) → course_of new ≡ record (course_of old) { plan = by.ends.council.plan }
end_course {S} {V} m old new id told by = ap course_of by.ends.view ∙ ap (λ (c : Course). record c { plan = by.ends.council.plan }) (quiet old (Ended id by.of_call.caller.number by.of_call.call.rounds told ∷ []) refl)

-- ---- collections
collect_course : {S V : Type 0} (m : Meaning S V) (old new : View S V) (key : List ℕ) → StepBeginCollect m (λ before after. StepBegin m before 0 key keep_always after) old key new → course_of new ≡ course_of old
collect_course {S} {V} m old new key by = in_case by.begins
  where
    in_case : collect.BeginsCollection m (λ before after. StepBegin m before 0 key keep_always after) old key by.may.order by.desk by.caller new → course_of new ≡ course_of old
    in_case (collect.is_down none down view) = ap course_of view
    in_case (collect.is_busy plan none up busy view) = ap course_of view
    in_case (collect.is_full none up unplanned full view) = ap course_of view
    in_case (collect.no_memory middle none up unplanned refuses view) = ap course_of view ∙ no_begin_course m old middle 0 key refuses
    in_case (collect.begins middle none unplanned begins view) = ap course_of view ∙ begin_course m old middle 0 key keep_always begins
    in_case (collect.goes_on middle call of open_ begins view) = ap course_of view ∙ begin_course m old middle 0 key keep_always begins

round_course : {S V : Type 0} (old new : View S V) → StepGatherRound old new → course_of new ≡ course_of old
round_course {S} {V} old new by = in_case by.gathers
  where
    in_case : collect.GathersRound old by.at new → course_of new ≡ course_of old
    in_case (collect.all ballot by_whom is all view) = ap course_of view
    in_case (collect.is_absent ballot by_whom acceptor is least view) = ap course_of view
    in_case (collect.is_held version is view) = ap course_of view

renew_course : {S V : Type 0} (m : Meaning S V) (old new : View S V) (id : ℕ) → StepRenew m old id new → course_of new ≡ course_of old
renew_course {S} {V} m old new id by = in_case by.renews
  where
    in_case : collect.RenewsNext m old by.at id by.desk new → course_of new ≡ course_of old
    in_case (collect.renews age middle leaves view) =
        ap course_of view ∙ left_course (Renews m.disks by.at.collection.course.key (tomb_of by.at.collection.tombstone) age) (closed_by (answer.Aged age) (cause.Aged age)) old middle id leaves
    in_case (collect.is_down down view) = ap course_of view
    in_case (collect.fails middle down view) = ap course_of view ∙ down_course (FailsToRenew m.disks _) old middle id down
    in_case (collect.is_spent up spent view) = ap course_of view
    in_case (collect.no_memory now up finds view) = ap course_of view

ask_collect_course : {S V : Type 0} (m : Meaning S V) (old new : View S V) → StepAskCollect m old new → course_of new ≡ course_of old
ask_collect_course {S} {V} m old new by = in_case by.asks
  where
    in_case : collect.AsksCollect m old by.may.at by.desk new → course_of new ≡ course_of old
    in_case (collect.asks question flow up asks room aged sends view) = ap course_of view
    in_case (collect.is_down down view) = ap course_of view
    in_case (collect.is_full question up asks full view) = ap course_of view
    in_case (collect.no_memory up view) = ap course_of view

gather_collect_course : {S V : Type 0} (old new : View S V) → StepGatherCollect old new → course_of new ≡ course_of old
gather_collect_course {S} {V} old new by = in_case by.gathers
  where
    in_case : collect.GathersCollect old by.at by.of_exchange.exchange new → course_of new ≡ course_of old
    in_case (collect.crashed crashed view) = ap course_of view
    in_case (collect.all up all view) = ap course_of view
    in_case (collect.is_absent acceptor up least view) = ap course_of view

-- ---- all of them
-- the calls that may lead on
abbrev pub Leads : Event → Type 0
Leads (step.RestartProposer proposer) = ⊤
Leads (step.End caller answer) = ⊤
Leads (step.Tell answer) = ⊤
Leads (step.AskAll (NextKeys places)) = ⊤
Leads step.Gather = ⊤
Leads step.OpenPlan = ⊤
Leads (step.EnterEra proposer) = ⊤
Leads (step.EndCollect answer) = ⊤
Leads other = ⊥

-- a call leaves the course as it was, or it is one of them
pub on_course : {S V : Type 0} (m : Meaning S V) (old new : View S V) (event : Event) → Step m old event new → Leads event ⊎ (course_of new ≡ course_of old)
on_course m old new (step.Begin id key program) by = inr (begin_course m old new id key program by)
on_course m old new (step.RefuseBegin id key) by = inr (no_begin_course m old new id key by)
on_course m old new (step.Turn id verdict) by = inr (turn_course m old new id verdict by)
on_course {S} {V} m old new (step.RefuseTurn id) by = inr (ap course_of by.view ∙ no_room_course m old by.middle by.refuses)
on_course m old new (step.Propose id) by = inr (propose_course m old new id by)
on_course m old new (step.Count id) by = inr (count_course m old new id by)
on_course m old new (step.End id told) by = inl tt
on_course m old new (step.Stray index) by = inr (stray_course m old new index by.late by.strays)
on_course m old new step.RefuseStray by = inr (no_room_course m old new by)
on_course m old new (step.CrashAcceptor id) by = inr (stop_course m old new id by)
on_course m old new (step.RestartAcceptor id) by = inr (start_course m old new id by)
on_course m old new (step.CrashProposer id) by = inr (down_course (Crashes m.disks) old new id by)
on_course m old new (step.RestartProposer id) by = inl tt
on_course {S} {V} m old new (step.Order asked) by = inr (ap course_of by.view)
on_course {S} {V} m old new step.RefuseOrder by = inr (ap course_of by)
on_course m old new (step.Tell told) by = inl tt
on_course m old new (step.AskAll (Probe key)) by = inr (ask_course m old new key by)
on_course m old new (step.AskAll (NextKeys places)) by = inl tt
on_course m old new (step.AskAll (NewAges key least)) by = absurd by.may.is_for
on_course m old new (step.AskAll (Removal key)) by = absurd by.may.is_for
on_course m old new (step.TurnExchange verdict) by = inr (ask_turn_course m old new verdict by)
on_course {S} {V} m old new step.RefuseTurnExchange by = inr (ap course_of by.view ∙ no_room_course m old by.middle by.refuses)
on_course m old new step.Gather by = inl tt
on_course {S} {V} m old new step.RefuseKey by = inr (ap course_of by.view)
on_course m old new step.OpenPlan by = inl tt
on_course m old new (step.EnterEra id) by = inl tt
on_course m old new (step.BeginCollect key) by = inr (collect_course m old new key by)
on_course {S} {V} m old new step.ReadHeld by = inr (ap course_of by.view)
on_course {S} {V} m old new step.CountCollect by = inr (ap course_of by.view ∙ count_course m old by.middle 0 by.counts)
on_course m old new (step.EndCollect told) by = inl tt
on_course m old new step.GatherRound by = inr (round_course old new by)
on_course m old new (step.Renew id) by = inr (renew_course m old new id by)
on_course m old new step.AskCollect by = inr (ask_collect_course m old new by)
on_course m old new step.GatherCollect by = inr (gather_collect_course old new by)
on_course {S} {V} m old new step.MakeFloor by = inr (ap course_of by.view ∙ quiet old (Floor by.at.collection.course.key (tomb_of by.at.collection.tombstone) Empty ∷ []) refl)
