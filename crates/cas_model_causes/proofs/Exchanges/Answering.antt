-- Whatever is called on a cluster, each that its exchange asks has told something, or is awaited.
use Rattle.std.proofs.Common.{◌≡◌, ◌≢◌, ◌≤◌, ◌<◌, ℕ, Bool, true, false, List, [], ◌∷◌, ◌++◌, length, Option, None, Some, option_map, slice_get, refl, sym, ap, subst, ◌∙◌, inl, inr, arith, length-set}
use Rattle.std.specs.Prelude.{◌⊎◌, ◌==◌, ◌||◌, if◌then◌else◌, Contains}
use Rattle.cas_base.proofs.Bools.{or_left, or_right}
use Rattle.cas_ballot.specs.declared.ballot.Ballot.{Ballot}
use Rattle.cas_ballot.specs.Members.{has_member, with_member, IsMemberSet}
use Rattle.cas_ballot.proofs.MemberLemmas.{has-members_where}
use Rattle.cas_change.specs.declared.program.Clause.{Clause}
use Rattle.cas_fate.specs.declared.fate.Verdict.{Verdict}
use Rattle.cas_flow.specs.Flow.{FlowView, queue_at, taken, queue_after}
use Rattle.cas_flow.specs.Message.{head_of}
use Rattle.cas_flow.specs.Queue.{QueueView, pushed}
use Rattle.cas_flow.specs.declared.message.Message.{Message}
use Rattle.cas_flow.specs.declared.message.Message.TheVariants as message
use Rattle.cas_proposer.specs.Desk.{DeskView}
use Rattle.cas_record.specs.declared.answer.Answer.{Answer}
use Rattle.cas_record.specs.declared.answer.Answer.TheVariants as answer
use Rattle.cas_record.specs.declared.answer.Cause.TheVariants as cause
use Rattle.cas_record.specs.declared.operator.Asked.{Asked}
use Rattle.cas_record.specs.declared.operator.OpAnswer.{OpAnswer}
use Rattle.cas_record.proofs.Tests.{nat_is}
use Rattle.cas_slot.specs.declared.message.Reply.{Reply}
use Rattle.cas_slot.specs.declared.message.Request.{Request}
use Rattle.cas_vault.specs.Vault.{kept_of}
use Rattle.cas_model.specs.Collection.State.{tomb_of}
use Rattle.cas_model.specs.Council.{Question, ExchangeView, Council, exchange_place, broken_off}
use Rattle.cas_model.specs.Safe.{IsSafe, IsSound, IsExchangeSafe, IsAskingSafe}
use Rattle.cas_model.specs.Step as step
use Rattle.cas_model.specs.Step.{Step, StepBegin, StepTurn, StepRefuseTurn, StepPropose, StepCount, StepEnd, StepStray, StepRestartAcceptor, StepRestartProposer}
use Rattle.cas_model.specs.Calls.Step as calls
use Rattle.cas_model.specs.Collection.Step as collect
use Rattle.cas_model.specs.Collection.Step.{keep_always, StepBeginCollect, StepGatherRound, StepRenew, StepAskCollect, StepGatherCollect}
use Rattle.cas_model.specs.Exchanges.Step as council
use Rattle.cas_model.specs.Exchanges.Step.{hears, harmed_exchange, new_exchange, question_to, questions_to, StepTell, StepAskAll, StepTurnExchange, StepGather, AsksAll, TurnsExchange, Gathers}
use Rattle.cas_model.specs.Calls.Desks.{Crashes, EntersEra, FailsToEnter, Renews, FailsToRenew}
use Rattle.cas_model.specs.Frames.Step.{FindsNoRoom, replied_flow}
use Rattle.cas_model.specs.Eras.Step as plans
use Rattle.cas_model.specs.Eras.Step.{Welcomes, StepOpenPlan, StepEnterEra}
use Rattle.cas_model.specs.Stops.Step as stops
use Rattle.cas_model.specs.Stops.Step.{LeavesRound, GoesDown, closed_by, closed_by_crash}
use Rattle.cas_model.specs.View.{Meaning, View, CallView}
use Rattle.cas_model.proofs.Frames.Steps.{Thins, taken_thins}
use Rattle.cas_model.proofs.Frames.Harms.{member_low}
use Rattle.cas_model.proofs.Places.{same_or_not, queue_same, has_queue, contains_new, contains_at, contains_front, contains_back, contains_none}
use Rattle.cas_model.proofs.Collection.SafeCollecting.{frame_of, begin_frame, turn_frame, no_room_frame, propose_frame, count_frame, stray_frame, start_frame, left_frame, Frame}
use Rattle.cas_model.proofs.Exchanges.Safe.{none_waiting}
use Rattle.cas_model.proofs.Safety.Parts.{desk_low, caller_low}
use Rattle.cas_model_causes.specs.Exchanges.Answering.{IsAwaited, waits, was_harmed, IsHeardOut, IsHearing, IsAnswering, ClustersAnswer, SilentAreHarmed}
use Rattle.cas_model_causes.proofs.Calls.Queues.{begin_stays, no_begin_stays, propose_stays, count_stays, end_stays, left_stays, turn_waits, no_room_stays, no_turn_stays, stray_stays, restart_stays}
use Rattle.cas_model_causes.proofs.Exchanges.Tellers.{tellers_stay, silent_before, asked_tellers, asked_at, silent_within}
use Rattle.cas_quorum.specs.declared.era.Era.{Era}

-- ---- where neither the exchange nor its frames change
pub record IsUntouched {S V : Type 0} (old new : View S V) : Type 0 where
  pub exchange : new.council.exchange ≡ old.council.exchange
  pub waits : (queue_at new.flow exchange_place).messages ≡ (queue_at old.flow exchange_place).messages

still : {S V : Type 0} (old new : View S V) → IsUntouched old new → IsAnswering old → IsAnswering new
still old new same was = subst (λ (e : Option ExchangeView). IsHearing e (queue_at new.flow exchange_place).messages) (sym same.exchange) (subst (IsHearing old.council.exchange) (sym same.waits) was)

pub both : {S V : Type 0} (old mid new : View S V) → IsUntouched old mid → IsUntouched mid new → IsUntouched old new
both old mid new before after = record { exchange = after.exchange ∙ before.exchange; waits = after.waits ∙ before.waits }

-- of a new view that is written out
pub alike : {S V : Type 0} (old changed new : View S V) → new ≡ changed → changed.council.exchange ≡ old.council.exchange → changed.flow ≡ old.flow → IsUntouched old new
alike {S} {V} old changed new is exchange flow = record { exchange = ap (λ (w : View S V). w.council.exchange) is ∙ exchange; waits = ap (λ (w : View S V). (queue_at w.flow exchange_place).messages) is ∙ ap (λ (f : FlowView). (queue_at f exchange_place).messages) flow }

framed : {S V : Type 0} (old new : View S V) → frame_of new ≡ frame_of old → new.council.exchange ≡ old.council.exchange
framed old new same = ap (λ (f : Frame). f.council.exchange) same

-- no proposer has the queue of the exchange
elsewhere : (id : ℕ) → id ≤ 16 → exchange_place ≢ id
elsewhere id low same = absurd (omega (arith, low, same))

-- a listed key that is proposed anew changes no exchange
rescans_same : (old : Council) (id : ℕ) (key : List ℕ) (told : Answer) (next : Council) → calls.Rescans old id key told next → next.exchange ≡ old.exchange
rescans_same old id key told next (calls.rescans of done same) = ap (λ (c : Council). c.exchange) same
rescans_same old id key told next (calls.stops of undone same) = ap (λ (c : Council). c.exchange) same
rescans_same old id key told next (calls.is_none none same) = ap (λ (c : Council). c.exchange) same

-- ---- calls
begins_low : {S V : Type 0} (old middle : View S V) (id : ℕ) (key : List ℕ) (program : List Clause) → IsSound old → calls.Opens old id key program middle → id ≤ 16
begins_low old middle id key program sound (calls.first caller at none room is) = caller_low old id caller sound at
begins_low old middle id key program sound (calls.again caller call reserved at open_is key_is program_is none met no_round room some is) = caller_low old id caller sound at

pub begin_same : {S V : Type 0} (m : Meaning S V) (old new : View S V) (id : ℕ) (key : List ℕ) (program : List Clause) → IsSound old → StepBegin m old id key program new → IsUntouched old new
begin_same m old new id key program sound by = record {
  exchange = framed old new (begin_frame m old new id key program by);
  waits = (begin_stays m old new exchange_place id key program (elsewhere id (begins_low old by.middle id key program sound by.opens)) by).waits;
}

pub refuse_same : {S V : Type 0} (m : Meaning S V) (old new : View S V) (id : ℕ) (key : List ℕ) → calls.RefusesCall m old id key new → IsUntouched old new
refuse_same {S} {V} m old new id key by = record { exchange = by_case by; waits = (no_begin_stays m old new exchange_place id key by).waits }
  where
    by_case : calls.RefusesCall m old id key new → new.council.exchange ≡ old.council.exchange
    by_case (calls.stays told next why rescan is) = ap (λ (w : View S V). w.council.exchange) is ∙ rescans_same old.council id key told next rescan
    by_case (calls.loses caller desk now ballot next at_caller at_desk none up loses rescan is) =
        ap (λ (w : View S V). w.council.exchange) is ∙ rescans_same old.council id key (answer.NoMemory false) next rescan

pub turn_same : {S V : Type 0} (m : Meaning S V) (old new : View S V) (id : ℕ) (v : Verdict) → IsSound old → StepTurn m old id v new → IsUntouched old new
turn_same m old new id v sound by = record {
  exchange = framed old new (turn_frame m old new id v by);
  waits = ap (λ (q : QueueView). q.messages) (turn_waits m old new exchange_place id v (elsewhere id (caller_low old id by.of_call.caller sound by.of_call.at_caller)) by);
}

pub no_room_same : {S V : Type 0} (m : Meaning S V) (old new : View S V) → FindsNoRoom m old new → IsUntouched old new
no_room_same m old new by = record { exchange = framed old new (no_room_frame m old new by); waits = (no_room_stays m old new exchange_place by).waits }

pub no_turn_same : {S V : Type 0} (m : Meaning S V) (old new : View S V) (id : ℕ) → StepRefuseTurn m old id new → IsUntouched old new
no_turn_same {S} {V} m old new id by = record { exchange = ap (λ (w : View S V). w.council.exchange) by.view ∙ framed old by.middle (no_room_frame m old by.middle by.refuses); waits = (no_turn_stays m old new exchange_place id by).waits }

pub propose_same : {S V : Type 0} (m : Meaning S V) (old new : View S V) (id : ℕ) → IsSound old → StepPropose m old id new → IsUntouched old new
propose_same m old new id sound by = record {
  exchange = framed old new (propose_frame m old new id by);
  waits = (propose_stays m old new exchange_place id (elsewhere id (desk_low old id by.at_round.desk sound by.at_round.at_desk)) by).waits;
}

pub count_same : {S V : Type 0} (m : Meaning S V) (old new : View S V) (id : ℕ) → IsSound old → StepCount m old id new → IsUntouched old new
count_same m old new id sound by = record {
  exchange = framed old new (count_frame m old new id by);
  waits = (count_stays m old new exchange_place id (elsewhere id (desk_low old id by.at_round.desk sound by.at_round.at_desk)) by).waits;
}

pub end_same : {S V : Type 0} (m : Meaning S V) (old new : View S V) (id : ℕ) (told : Answer) → IsSound old → StepEnd m old id told new → IsUntouched old new
end_same {S} {V} m old new id told sound by = record {
  exchange = ap (λ (w : View S V). w.council.exchange) by.ends.view ∙ rescans_same old.council id by.of_call.call.key told by.ends.council by.ends.rescans;
  waits = (end_stays m old new exchange_place id told (elsewhere id (caller_low old id by.of_call.caller sound by.of_call.at_caller)) by).waits;
}

pub stray_same : {S V : Type 0} (m : Meaning S V) (old new : View S V) (index : ℕ) → StepStray m old index new → IsUntouched old new
stray_same m old new index by = record { exchange = framed old new (stray_frame m old new index by.late by.strays); waits = (stray_stays m old new exchange_place index by).waits }

-- ---- stops
pub start_same : {S V : Type 0} (m : Meaning S V) (old new : View S V) (id : ℕ) → StepRestartAcceptor m old id new → IsUntouched old new
start_same m old new id by = record { exchange = framed old new (start_frame m old new id by); waits = (restart_stays m old new exchange_place id by).waits }

leaves_low : {S V : Type 0} (DeskTurns : DeskView V → DeskView V → Type 0) (closed : CallView → CallView) (old new : View S V) (id : ℕ) → IsSound old → LeavesRound DeskTurns closed old id new
    → id ≤ 16
leaves_low DeskTurns closed old new id sound (stops.idle desk now at none turns is) = desk_low old id desk sound at
leaves_low DeskTurns closed old new id sound (stops.closes desk now round of_call at is_round turns is) = desk_low old id desk sound at

pub left_same : {S V : Type 0} (DeskTurns : DeskView V → DeskView V → Type 0) (closed : CallView → CallView) (old new : View S V) (id : ℕ) → IsSound old → LeavesRound DeskTurns closed old id new
    → IsUntouched old new
left_same DeskTurns closed old new id sound by = record {
  exchange = framed old new (left_frame DeskTurns closed old new id by);
  waits = (left_stays DeskTurns closed old new exchange_place id (elsewhere id (leaves_low DeskTurns closed old new id sound by)) by).waits;
}

-- once it is broken off nothing is awaited of it
broken_hears : (open_ : Option ExchangeView) (waiting rest : List Message) → IsHearing open_ waiting → IsHearing (option_map broken_off open_) rest
broken_hears None waiting rest was = tt
broken_hears (Some exchange) waiting rest was = record { tellers = was.tellers; silent = λ up. absurd (cc up) }

down_answers : {S V : Type 0} (DeskTurns : DeskView V → DeskView V → Type 0) (old new : View S V) (id : ℕ) → IsSound old → GoesDown DeskTurns old id new → IsAnswering old → IsAnswering new
down_answers DeskTurns old new id sound (stops.of_client client leaves) was = still old new (left_same DeskTurns closed_by_crash old new id sound leaves) was
down_answers {S} {V} DeskTurns old new id sound (stops.of_operator middle operator leaves is) was =
    subst (λ (w : View S V). IsAnswering w) (sym is)
    (broken_hears middle.council.exchange (queue_at middle.flow exchange_place).messages _ (still old middle (left_same DeskTurns closed_by_crash old middle id sound leaves) was))

pub restart_same : {S V : Type 0} (m : Meaning S V) (old new : View S V) (id : ℕ) → StepRestartProposer m old id new → IsUntouched old new
restart_same m old new id (step.was_up_already desk at up is) = alike old old new is refl refl
restart_same m old new id (step.restarts desk now caller at at_caller down by is) = alike old _ new is refl refl

-- ---- changes of membership
welcome_same : {S V : Type 0} (m : Meaning S V) (old new : View S V) (asked : Asked) → Welcomes m old asked new → IsUntouched old new
welcome_same m old new asked (plans.starts id acceptor now joins at starts is) = alike old _ new is refl refl
welcome_same m old new asked (plans.fails id acceptor now joins at fails is) = alike old _ new is refl refl
welcome_same m old new asked (plans.is_up id acceptor joins at up is) = alike old old new is refl refl
welcome_same m old new asked (plans.stays joins_none is) = alike old old new is refl refl

pub open_same : {S V : Type 0} (m : Meaning S V) (old new : View S V) → StepOpenPlan m old new → IsUntouched old new
open_same {S} {V} m old new by = by_case by.opens
  where
    by_case : plans.OpensPlan m old by.order.asked by.desk new → IsUntouched old new
    by_case (plans.is_down down is) = alike old _ new is refl refl
    by_case (plans.is_busy plan up busy is) = alike old _ new is refl refl
    by_case (plans.refuses fault up none planned is) = alike old _ new is refl refl
    by_case (plans.opens progress middle up none planned welcomes is) = both old middle new (welcome_same m old middle by.order.asked welcomes) (alike middle _ new is refl refl)
    by_case (plans.no_memory progress middle up none planned welcomes is) = both old middle new (welcome_same m old middle by.order.asked welcomes) (alike middle _ new is refl refl)

enter_answers : {S V : Type 0} (m : Meaning S V) (old new : View S V) (id : ℕ) → IsSound old → StepEnterEra m old id new → IsAnswering old → IsAnswering new
enter_answers {S} {V} m old new id sound by was = by_case by.enters
  where
    by_case : plans.EntersNext m old by.plan by.next by.desk new → IsAnswering new
    by_case (plans.enters middle room leaves is) =
        still old new (both old middle new (left_same (EntersEra m.disks by.next) (closed_by (answer.Moved by.next.number) (cause.Moved by.next.number)) old middle by.plan.entered sound leaves) (alike middle _ new is refl refl)) was
    by_case (plans.is_full full is) = still old new (alike old _ new is refl refl) was
    by_case (plans.is_down room down is) = still old new (alike old _ new is refl refl) was
    by_case (plans.fails middle room down is) = still middle new (alike middle _ new is refl refl) (down_answers (FailsToEnter m.disks by.next) old middle by.plan.entered sound down was)
    by_case (plans.no_memory now room up kept now_is is) = still old new (alike old _ new is refl refl) was

-- ---- collections
pub begin_collect_same : {S V : Type 0} (m : Meaning S V) (old new : View S V) (key : List ℕ) → IsSound old
    → StepBeginCollect m (λ before after. StepBegin m before 0 key keep_always after) old key new → IsUntouched old new
begin_collect_same {S} {V} m old new key sound by = by_case by.begins
  where
    by_case : collect.BeginsCollection m (λ before after. StepBegin m before 0 key keep_always after) old key by.may.order by.desk by.caller new → IsUntouched old new
    by_case (collect.is_down none down is) = alike old _ new is refl refl
    by_case (collect.is_busy plan none up planned is) = alike old _ new is refl refl
    by_case (collect.is_full none up unplanned full is) = alike old _ new is refl refl
    by_case (collect.no_memory middle none up unplanned refuses is) = both old middle new (refuse_same m old middle 0 key refuses) (alike middle _ new is refl refl)
    by_case (collect.begins middle none unplanned begins is) = both old middle new (begin_same m old middle 0 key keep_always sound begins) (alike middle _ new is refl refl)
    by_case (collect.goes_on middle call of open_ begins is) = both old middle new (begin_same m old middle 0 key keep_always sound begins) (alike middle _ new is refl refl)

pub gather_round_same : {S V : Type 0} (old new : View S V) → StepGatherRound old new → IsUntouched old new
gather_round_same {S} {V} old new by = by_case by.gathers
  where
    by_case : collect.GathersRound old by.at new → IsUntouched old new
    by_case (collect.all ballot members tombstone all is) = alike old _ new is refl refl
    by_case (collect.is_absent ballot members acceptor tombstone least is) = alike old _ new is refl refl
    by_case (collect.is_held version tombstone is) = alike old _ new is refl refl

renew_answers : {S V : Type 0} (m : Meaning S V) (old new : View S V) (id : ℕ) → IsSound old → StepRenew m old id new → IsAnswering old → IsAnswering new
renew_answers {S} {V} m old new id sound by was = by_case by.renews
  where
    by_case : collect.RenewsNext m old by.at id by.desk new → IsAnswering new
    by_case (collect.renews age middle leaves is) =
        still old new (both old middle new (left_same (Renews m.disks by.at.collection.course.key (tomb_of by.at.collection.tombstone) age) (closed_by (answer.Aged age) (cause.Aged age)) old middle id sound leaves) (alike middle _ new is refl refl)) was
    by_case (collect.is_down down is) = still old new (alike old _ new is refl refl) was
    by_case (collect.fails middle down is) = still middle new (alike middle _ new is refl refl) (down_answers (FailsToRenew m.disks _) old middle id sound down was)
    by_case (collect.is_spent up spent is) = still old new (alike old _ new is refl refl) was
    by_case (collect.no_memory now up finds is) = still old new (alike old _ new is refl refl) was

-- ---- all members are asked
asked_hears : (age : ℕ) (tag : Ballot) (question : Question) (tos : List ℕ) (since : ℕ) (reads : Option Era) (waiting : List Message) → waiting ≡ questions_to age tag question tos
    → IsHeardOut (new_exchange question tag tos since reads) waiting
asked_hears age tag question tos since reads waiting are = record {
  tellers = asked_tellers tos;
  silent = λ up place one at none. waits (message.Request (question_to age tag question one.acceptor))
      (subst (λ (l : List Message). Contains l (message.Request (question_to age tag question one.acceptor))) (sym are) (asked_at (λ (to : ℕ). message.Request (question_to age tag question to)) tos place one at)) refl;
}

-- its queue was empty before
sent_hears : {S V : Type 0} (old : View S V) (flow : FlowView) (age : ℕ) (tag : Ballot) (question : Question) (tos : List ℕ) (reads : Option Era) → IsSound old → old.council.exchange ≡ None
    → calls.Sends old.flow exchange_place (questions_to age tag question tos) flow
    → IsHeardOut (new_exchange question tag tos (length old.marks) reads) (queue_at flow exchange_place).messages
sent_hears old flow age tag question tos reads sound none sends =
    asked_hears age tag question tos (length old.marks) reads (queue_at flow exchange_place).messages
    (sends.own ∙ ap (λ (l : List Message). l ++ questions_to age tag question tos) (none_waiting old sound none))

ask_answers : {S V : Type 0} (m : Meaning S V) (old new : View S V) (question : Question) → IsSound old → StepAskAll m old question new → IsAnswering old → IsAnswering new
ask_answers {S} {V} m old new question sound by was = by_case by.asks
  where
    by_case : AsksAll m old question by.desk new → IsAnswering new
    by_case (council.asks now tag flow up room tagged is_now sends is) =
        subst (λ (w : View S V). IsAnswering w) (sym is)
        (sent_hears old flow (kept_of by.desk.vault).age tag question (council.asked_by old question) (council.read_era old question) sound by.may.none_open sends)
    by_case (council.is_down down is) = still old new (alike old _ new is refl refl) was
    by_case (council.is_full up full is) = still old new (alike old _ new is refl refl) was
    by_case (council.is_spent now up spent kept is_now is) = still old new (alike old _ new is refl refl) was
    by_case (council.fails now up fault is) = still old new (alike old _ new is refl refl) was
    by_case (council.no_memory now tag up loss is) = still old new (alike old _ new is refl refl) was

ask_collect_answers : {S V : Type 0} (m : Meaning S V) (old new : View S V) → IsSound old → StepAskCollect m old new → IsAnswering old → IsAnswering new
ask_collect_answers {S} {V} m old new sound by was = by_case by.asks
  where
    by_case : collect.AsksCollect m old by.may.at by.desk new → IsAnswering new
    by_case (collect.asks question flow up asks room aged sends is) =
        subst (λ (w : View S V). IsAnswering w) (sym is)
        (sent_hears old flow (kept_of by.desk.vault).age (tomb_of by.may.at.collection.tombstone) question (council.everyone old) None sound by.may.none_asked sends)
    by_case (collect.is_down down is) = still old new (alike old _ new is refl refl) was
    by_case (collect.is_full question up asks full is) = still old new (alike old _ new is refl refl) was
    by_case (collect.no_memory up is) = still old new (alike old _ new is refl refl) was

-- ---- a turn of the exchange
-- who was harmed counts as harmed from then on
harmed_then : (exchange : ExchangeView) (member a : ℕ) → IsMemberSet exchange.harmed → member < 64 → (has_member exchange.harmed a ≡ true) ⊎ (a ≡ member)
    → has_member (harmed_exchange exchange member).harmed a ≡ true
harmed_then exchange member a set low known = by_test (has_member exchange.harmed member) refl
  where
    in_set : has_member exchange.harmed member ≡ true → (has_member exchange.harmed a ≡ true) ⊎ (a ≡ member) → has_member exchange.harmed a ≡ true
    in_set has (inl before) = before
    in_set has (inr same) = ap (λ (n : ℕ). has_member exchange.harmed n) same ∙ has

    is_low : (has_member exchange.harmed a ≡ true) ⊎ (a ≡ member) → a < 64
    is_low (inl before) = member_low exchange.harmed a set before
    is_low (inr same) = omega (arith, low, same)

    passes : (has_member exchange.harmed a ≡ true) ⊎ (a ≡ member) → ((a == member) || has_member exchange.harmed a) ≡ true
    passes (inl before) = or_right (a == member) (has_member exchange.harmed a) before
    passes (inr same) = or_left (a == member) (has_member exchange.harmed a) (nat_is same)

    by_test : (b : Bool) → has_member exchange.harmed member ≡ b → has_member (if b then exchange.harmed else with_member exchange.harmed member) a ≡ true
    by_test true e = in_set e known
    by_test false e = has-members_where (λ n. (n == member) || has_member exchange.harmed n) a (is_low known) ∙ passes known

-- the frame in front was harmed
harmed_hears : (exchange : ExchangeView) (waiting rest : List Message) (member : ℕ) → IsMemberSet exchange.harmed → member < 64 → Thins waiting rest member → IsHeardOut exchange waiting
    → IsHeardOut (harmed_exchange exchange member) rest
harmed_hears exchange waiting rest member set low thins was = record {
  tellers = was.tellers;
  silent = λ up place one at none. by_case one.acceptor (was.silent up place one at none);
}
  where
    by_case : (a : ℕ) → IsAwaited exchange.harmed waiting a → IsAwaited (harmed_exchange exchange member).harmed rest a
    by_case a (waits each has about) = elim (same_or_not a member) [
      | inl same ↦ was_harmed (harmed_then exchange member a set low (inr same))
      | inr other ↦ waits each (thins.still each has (λ same. other (sym about ∙ same))) about
    ]
    by_case a (was_harmed has) = was_harmed (harmed_then exchange member a set low (inl has))

-- the request in front was answered, and its reply waits behind the others
answered_hears : (exchange : ExchangeView) (waiting rest : List Message) (member : ℕ) (reply : Reply) → reply.from ≡ member → Thins waiting rest member → IsHeardOut exchange waiting
    → IsHeardOut exchange (rest ++ message.Reply reply ∷ [])
answered_hears exchange waiting rest member reply from thins was = record {
  tellers = was.tellers;
  silent = λ up place one at none. by_case one.acceptor (was.silent up place one at none);
}
  where
    by_case : (a : ℕ) → IsAwaited exchange.harmed waiting a → IsAwaited exchange.harmed (rest ++ message.Reply reply ∷ []) a
    by_case a (waits each has about) = elim (same_or_not a member) [
      | inl same ↦ waits (message.Reply reply) (contains_back rest (message.Reply reply ∷ []) (contains_new (message.Reply reply) [])) (from ∙ sym same)
      | inr other ↦ waits each (contains_front rest (message.Reply reply ∷ []) (thins.still each has (λ same. other (sym about ∙ same)))) about
    ]
    by_case a (was_harmed has) = was_harmed has

-- a reply arrives
arrived_hears : (exchange : ExchangeView) (waiting rest : List Message) (reply : Reply) → IsMemberSet exchange.members → Thins waiting rest reply.from → IsHeardOut exchange waiting
    → IsHeardOut (record exchange { told = hears reply exchange.told }) rest
arrived_hears exchange waiting rest reply set thins was = record {
  tellers = tellers_stay reply exchange.told ∙ was.tellers;
  silent = λ up place one at none.
      let before = silent_before exchange.members reply exchange.told set was.tellers place one at none in
      by_case one.acceptor before.1 (was.silent up place one before.0 none);
}
  where
    by_case : (a : ℕ) → (a ≡ reply.from → ⊥) → IsAwaited exchange.harmed waiting a → IsAwaited exchange.harmed rest a
    by_case a other (waits each has about) = waits each (thins.still each has (λ same. other (sym about ∙ same))) about
    by_case a other (was_harmed has) = was_harmed has

pub replied_messages : (flow : FlowView) (id : ℕ) (v : Verdict) (reply : Reply) {front : Message} → slice_get (queue_at flow id).messages 0 ≡ Some front
    → (queue_at (replied_flow flow id v reply) id).messages ≡ (queue_at (taken flow id v) id).messages ++ message.Reply reply ∷ []
replied_messages flow id v reply e =
    ap (λ (q : QueueView). q.messages) (queue_same (taken flow id v).own id (pushed (queue_at (taken flow id v) id) (message.Reply reply))
    (omega (arith, has_queue flow.own id e, length-set flow.own id (queue_after (queue_at flow id) v))))

turn_answers : {S V : Type 0} (m : Meaning S V) (old new : View S V) (v : Verdict) → IsSound old → StepTurnExchange m old v new → IsAnswering old → IsAnswering new
turn_answers {S} {V} m old new v sound by was = by_turn by.turn
  where
    exchange : ExchangeView
    exchange = by.at.exchange

    waiting : List Message
    waiting = (queue_at old.flow exchange_place).messages

    rest : List Message
    rest = (queue_at (taken old.flow exchange_place v) exchange_place).messages

    asking : IsExchangeSafe exchange (queue_at old.flow exchange_place)
    asking = subst (λ (e : Option ExchangeView). IsAskingSafe e (queue_at old.flow exchange_place)) by.at.is_open sound.asking

    hearing : IsHeardOut exchange waiting
    hearing = subst (λ (e : Option ExchangeView). IsHearing e waiting) by.at.is_open was

    thins : Thins waiting rest (head_of by.front).1
    thins = taken_thins old.flow exchange_place v by.waits

    front_low : (head_of by.front).1 < 64
    front_low = member_low exchange.members (head_of by.front).1 asking.member_set (asking.about by.front (contains_at waiting 0 by.front by.waits))

    harmed : (member : ℕ) → (head_of by.front).1 ≡ member → IsHeardOut (harmed_exchange exchange member) rest
    harmed member same = subst (λ (a : ℕ). IsHeardOut (harmed_exchange exchange a) rest) same (harmed_hears exchange waiting rest (head_of by.front).1 asking.harmed_set front_low thins hearing)

    about : (request : Request) → by.front ≡ message.Request request → (head_of by.front).1 ≡ request.to
    about request front = ap (λ (each : Message). (head_of each).1) front

    by_turn : TurnsExchange m old v by.front exchange new → IsAnswering new
    by_turn (council.held fall is) = still old new (alike old old new is refl refl) was
    by_turn (council.gone fall is) = subst (λ (w : View S V). IsAnswering w) (sym is) (harmed (head_of by.front).1 refl)
    by_turn (council.answers request acceptor now reply fall front at table is) =
        subst (λ (w : View S V). IsAnswering w) (sym is)
        (subst (λ (l : List Message). IsHearing old.council.exchange l) (sym (replied_messages old.flow exchange_place v reply by.waits))
        (subst (λ (e : Option ExchangeView). IsHearing e (rest ++ message.Reply reply ∷ [])) (sym by.at.is_open)
        (answered_hears exchange waiting rest (head_of by.front).1 reply (table.table.from ∙ sound.acceptor_ids request.to acceptor at ∙ sym (about request front)) thins hearing)))
    by_turn (council.finds_down request acceptor fall front at down is) = subst (λ (w : View S V). IsAnswering w) (sym is) (harmed request.to (about request front))
    by_turn (council.brings_down request acceptor now fall front at stops is) = subst (λ (w : View S V). IsAnswering w) (sym is) (harmed request.to (about request front))
    by_turn (council.arrives reply fall front to_it is) =
        subst (λ (w : View S V). IsAnswering w) (sym is)
        (arrived_hears exchange waiting rest reply asking.member_set (subst (Thins waiting rest) (ap (λ (each : Message). (head_of each).1) front) thins) hearing)

-- ---- what was told is gathered
gather_answers : {S V : Type 0} (old new : View S V) → StepGather old new → IsAnswering old → IsAnswering new
gather_answers {S} {V} old new by was = by_case by.gathers
  where
    by_case : Gathers old by.at.exchange new → IsAnswering new
    by_case (council.crashed crashed is) = subst (λ (w : View S V). IsAnswering w) (sym is) tt
    by_case (council.probed key found up question plain found_is is) = subst (λ (w : View S V). IsAnswering w) (sym is) tt
    by_case (council.read key era found marks up question reads found_is counts is) = subst (λ (w : View S V). IsAnswering w) (sym is) tt
    by_case (council.lists of listing up enough on is) = subst (λ (w : View S V). IsAnswering w) (sym is) tt
    by_case (council.is_short of short up missing is) = subst (λ (w : View S V). IsAnswering w) (sym is) tt
    by_case (council.no_memory up is) = still old new (alike old _ new is refl refl) was

gather_collect_answers : {S V : Type 0} (old new : View S V) → StepGatherCollect old new → IsAnswering new
gather_collect_answers {S} {V} old new by = by_case by.gathers
  where
    by_case : collect.GathersCollect old by.at by.of_exchange.exchange new → IsAnswering new
    by_case (collect.crashed crashed is) = subst (λ (w : View S V). IsAnswering w) (sym is) tt
    by_case (collect.all up all is) = subst (λ (w : View S V). IsAnswering w) (sym is) tt
    by_case (collect.is_absent acceptor up least is) = subst (λ (w : View S V). IsAnswering w) (sym is) tt

tell_answers : {S V : Type 0} (old new : View S V) (answer : OpAnswer) → StepTell old answer new → IsAnswering new
tell_answers {S} {V} old new answer (council.tells order said is_open told same is) = subst (λ (w : View S V). IsAnswering w) (sym is) tt
tell_answers {S} {V} old new answer (council.finishes order is_open by is) = subst (λ (w : View S V). IsAnswering w) (sym is) tt
tell_answers {S} {V} old new answer (council.collects order is_open by is) = subst (λ (w : View S V). IsAnswering w) (sym is) tt

-- ---- all of them
pub answering_then : {S V : Type 0} (m : Meaning S V) (old : View S V) (event : step.Event) (new : View S V) → IsSafe old → IsAnswering old → Step m old event new → IsAnswering new
answering_then m old (step.Begin id key program) new safe was by = still old new (begin_same m old new id key program safe.sound by) was
answering_then m old (step.RefuseBegin id key) new safe was by = still old new (refuse_same m old new id key by) was
answering_then m old (step.Turn id v) new safe was by = still old new (turn_same m old new id v safe.sound by) was
answering_then m old (step.RefuseTurn id) new safe was by = still old new (no_turn_same m old new id by) was
answering_then m old (step.Propose id) new safe was by = still old new (propose_same m old new id safe.sound by) was
answering_then m old (step.Count id) new safe was by = still old new (count_same m old new id safe.sound by) was
answering_then m old (step.End id told) new safe was by = still old new (end_same m old new id told safe.sound by) was
answering_then m old (step.Stray index) new safe was by = still old new (stray_same m old new index by) was
answering_then m old step.RefuseStray new safe was by = still old new (no_room_same m old new by) was
answering_then m old (step.CrashAcceptor id) new safe was (step.crashes acceptor now at crashes is) = still old new (alike old _ new is refl refl) was
answering_then m old (step.RestartAcceptor id) new safe was by = still old new (start_same m old new id by) was
answering_then m old (step.CrashProposer id) new safe was by = down_answers (Crashes m.disks) old new id safe.sound by was
answering_then m old (step.RestartProposer id) new safe was by = still old new (restart_same m old new id by) was
answering_then m old (step.Order asked) new safe was by = still old new (alike old _ new by.view refl refl) was
answering_then m old step.RefuseOrder new safe was by = still old new (alike old old new by refl refl) was
answering_then m old (step.Tell told) new safe was by = tell_answers old new told by
answering_then m old (step.AskAll question) new safe was by = ask_answers m old new question safe.sound by was
answering_then m old (step.TurnExchange v) new safe was by = turn_answers m old new v safe.sound by was
answering_then m old step.RefuseTurnExchange new safe was by = still old new (both old by.middle new (no_room_same m old by.middle by.refuses) (alike by.middle _ new by.view refl refl)) was
answering_then m old step.Gather new safe was by = gather_answers old new by was
answering_then m old step.RefuseKey new safe was by = still old new (alike old _ new by.view refl refl) was
answering_then m old step.OpenPlan new safe was by = still old new (open_same m old new by) was
answering_then m old (step.EnterEra id) new safe was by = enter_answers m old new id safe.sound by was
answering_then m old (step.BeginCollect key) new safe was by = still old new (begin_collect_same m old new key safe.sound by) was
answering_then m old step.ReadHeld new safe was by = still old new (alike old _ new by.view refl refl) was
answering_then m old step.CountCollect new safe was by = still old new (both old by.middle new (count_same m old by.middle 0 safe.sound by.counts) (alike by.middle _ new by.view refl refl)) was
answering_then m old (step.EndCollect told) new safe was by = still old new (both old by.middle new (end_same m old by.middle 0 told safe.sound by.ends) (alike by.middle _ new by.view refl refl)) was
answering_then m old step.GatherRound new safe was by = still old new (gather_round_same old new by) was
answering_then m old (step.Renew id) new safe was by = renew_answers m old new id safe.sound by was
answering_then m old step.AskCollect new safe was by = ask_collect_answers m old new safe.sound by was
answering_then m old step.GatherCollect new safe was by = gather_collect_answers old new by
answering_then m old step.MakeFloor new safe was by = still old new (alike old _ new by.view refl refl) was

-- with no exchange nothing is awaited
pub none_answers : {S V : Type 0} (view : View S V) → view.council.exchange ≡ None → IsAnswering view
none_answers view none = subst (λ (e : Option ExchangeView). IsHearing e (queue_at view.flow exchange_place).messages) (sym none) tt

pub clusters_answer : {S V : Type 0} (m : Meaning S V) → ClustersAnswer m
clusters_answer {S} {V} m = record {
  opening = λ members view is. none_answers view (ap (λ (c : Council). c.exchange) is.council);
  opening_on = λ members used floors view is. none_answers view (ap (λ (c : Council). c.exchange) is.council);
  steps = answering_then m;
}

-- ---- once no frame waits
pub silent_are_harmed : {S V : Type 0} → SilentAreHarmed S V
silent_are_harmed {S} {V} view exchange safe was is_open up none =
    let asking : IsExchangeSafe exchange (queue_at view.flow exchange_place) = subst (λ (e : Option ExchangeView). IsAskingSafe e (queue_at view.flow exchange_place)) is_open safe.sound.asking in
    let hearing : IsHeardOut exchange (queue_at view.flow exchange_place).messages = subst (λ (e : Option ExchangeView). IsHearing e (queue_at view.flow exchange_place).messages) is_open was in
    silent_within exchange.members exchange.harmed exchange.told asking.member_set asking.harmed_set hearing.tellers
    (λ place one at silent. by_case one.acceptor (hearing.silent up place one at silent))
  where
    by_case : (a : ℕ) → IsAwaited exchange.harmed (queue_at view.flow exchange_place).messages a → has_member exchange.harmed a ≡ true
    by_case a (waits each has about) = absurd (contains_none (subst (λ (l : List Message). Contains l each) none has))
    by_case a (was_harmed has) = has
