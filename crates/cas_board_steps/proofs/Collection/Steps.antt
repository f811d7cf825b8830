-- What a hold does for a collection beside the call of its round.
use Rattle.std.proofs.Common.{◌≡◌, ◌≢◌, ℕ, Bool, true, false, if◌then◌else◌, List, [], ◌∷◌, Option, None, Some, IsSome, is_some, option_map, slice_get, refl, sym, ap, ap₂, subst, ◌∙◌, append-nil, arith}
use Rattle.std.specs.Prelude.{All, IfSome}
use Rattle.std.proofs.lemmas.List.Elements.{All-nil, All-cons, All-head, All-tail}
use Rattle.cas_ballot.specs.declared.ballot.Ballot.{Ballot}
use Rattle.cas_change.specs.declared.state.State.TheVariants.{Empty}
use Rattle.cas_collect.specs.declared.collect.CollectStep.{CollectStep}
use Rattle.cas_collect.specs.declared.collect.CollectStep.TheVariants as step
use Rattle.cas_collect.specs.Order.{step_after}
use Rattle.cas_fate.specs.declared.fate.Leg.{Leg}
use Rattle.cas_fate.specs.declared.fate.Verdict.{Verdict}
use Rattle.cas_flow.specs.Flow.{queue_at}
use Rattle.cas_flow.specs.Message.{head_of}
use Rattle.cas_flow.specs.declared.message.Message.{Message}
use Rattle.cas_record.specs.declared.answer.Answer.TheVariants as answer
use Rattle.cas_record.specs.declared.mark.Mark.{Mark}
use Rattle.cas_record.specs.declared.mark.Mark.TheVariants as kinds
use Rattle.cas_record.specs.declared.operator.Asked.{Asked}
use Rattle.cas_record.specs.declared.operator.Asked.TheVariants as asked
use Rattle.cas_record.specs.declared.operator.OpAnswer.{OpAnswer}
use Rattle.cas_record.specs.declared.operator.OpAnswer.TheVariants as op
use Rattle.cas_world_calls.specs.declared.council.Gathered.{Gathered}
use Rattle.cas_world_calls.specs.Collecting.{is_sought}
use Rattle.cas_model.specs.Collection.State.{CollectionView, confirmed_step, tomb_of}
use Rattle.cas_model.specs.Council.{Council, Question, Probe, NextKeys, NewAges, Removal, ExchangeView, OrderView, exchange_place, told_so, silent_order}
use Rattle.cas_model.specs.Safe.{is_of_collection}
use Rattle.cas_model.specs.Step as steps
use Rattle.cas_model.specs.Step.{Step}
use Rattle.cas_model.specs.Collection.Step as collect
use Rattle.cas_model.specs.Collection.Step.{StepGatherRound, GathersRound, StepAskCollect, AsksCollect, IsQuestionOf, StepGatherCollect, GathersCollect, StepMakeFloor}
use Rattle.cas_model.specs.Exchanges.Step.{StepTell, StepTurnExchange, StepRefuseTurnExchange, SaysTheSame}
use Rattle.cas_model.specs.View.{Meaning, View, CallerView, IsAt}
use Rattle.cas_model.proofs.Places.{some_is}
use Rattle.cas_model.proofs.Safety.Parts.{at_low}
use Rattle.cas_world.specs.Calls.Beginning.{HasNoCall}
use Rattle.cas_world.specs.Collection.Collect.{IsDueStep}
use Rattle.cas_world.specs.Exchanges.Exchange as world
use Rattle.cas_world.specs.Exchanges.Exchange.{MayAskCollected, MayGather, WasToldOrder, asks_as, place_of, turn_of, refusal_of, gathering_by, gathering_of}
use Rattle.cas_world.specs.Eras.Plans.{HasCollectedAll, rescanned_of}
use Rattle.cas_board_steps.specs.Collection.Collecting.{CollectsAt, HasStep, HasQuestion, IsTombstoneMark, IsCollectAnswer}
use Rattle.cas_board_steps.specs.Calls.Changes.{harm_by}
use Rattle.cas_board_steps.specs.Kept.{IsKept, Makes}
use Rattle.cas_board_steps.specs.Mine.{mine}
use Rattle.cas_board_steps.specs.Exchanges.Orders.{new_order, OperatesIn, IsToldIn, IsAskingHarm}
use Rattle.cas_board_steps.specs.OwnParts.{harms_part, round_part, own_part}
use Rattle.cas_board_steps.specs.Calls.Stages.{front_of}
use Rattle.cas_board_steps.proofs.Collection.Collecting.{IsStepDue, has_step, is_step, IsStepAsked, has_question, is_asked}
use Rattle.cas_board_steps.proofs.Eras.Counting.{lasts_told}
use Rattle.cas_board_steps.proofs.Calls.Events.{only_one}
use Rattle.cas_board_steps.proofs.Calls.Holds.{Held}
use Rattle.cas_board_steps.proofs.Exchanges.Operating.{LeavesOtherCalls, leaves_desks, none_then, makes_by, kept_then, silently, operates, tells_in, turns_asking, own_kept, refuses_asking, refusal_planned, says_same, turns_planned, was_told_so}
use Rattle.cas_board_steps.proofs.Calls.Stages.{some_waits, none_waits}

-- ---- marks
such_asking : (key : List ℕ) (mark : Mark) → IsAskingHarm mark → IsTombstoneMark key mark
such_asking key (kinds.Harmed caller call down) is = tt
such_asking key (kinds.Begun caller call other program) is = absurd is
such_asking key (kinds.Proposed p) is = absurd is
such_asking key (kinds.Voted acceptor other ballot) is = absurd is
such_asking key (kinds.Acked a) is = absurd is
such_asking key (kinds.Floor other ballot state) is = absurd is
such_asking key (kinds.EraEntered proposer number) is = absurd is
such_asking key (kinds.Ended caller call rounds told) is = absurd is
such_asking key (kinds.Told asks told) is = absurd is

all_asking : (key : List ℕ) (l : List Mark) → All IsAskingHarm l → All (IsTombstoneMark key) l
all_asking key [] all = All-nil (IsTombstoneMark key)
all_asking key (mark ∷ l) all = All-cons (IsTombstoneMark key) mark l (such_asking key mark (All-head IsAskingHarm mark l all)) (all_asking key l (All-tail IsAskingHarm mark l all))

pub no_marks : {S V : Type 0} (key : List ℕ) (most : ℕ) (old new : View S V) → Makes 0 old new [] → rescanned_of new.council.plan ≡ rescanned_of old.council.plan → OperatesIn (IsTombstoneMark key) most old new
no_marks key most old new makes planned = record { marks = []; makes = makes; all_such = All-nil (IsTombstoneMark key); few = omega arith; counts = λ enters. absurd (enters 0 0); keeps = λ not. planned }

-- ---- the next step
-- what the operator's call asks
order_is : (key : List ℕ) (due : CollectStep) (round : ℕ) (council : Council) (order : OrderView) → CollectsAt key due round council → council.order ≡ Some order → order ≡ new_order (asked.Collect key)
order_is key due round council order at is = some_is (sym is ∙ at.order)

collection_is : (key : List ℕ) (due : CollectStep) (round : ℕ) (council : Council) (at : CollectsAt key due round council) (collection : CollectionView) → council.collection ≡ Some collection → collection ≡ at.collection
collection_is key due round council at collection is = some_is (sym is ∙ at.is_collection)

-- a collection has no change of membership beside it
pub none_counted : {key : List ℕ} {due next : CollectStep} {round rounds : ℕ} {council now : Council} → CollectsAt key due round council → CollectsAt key next rounds now → rescanned_of now.plan ≡ rescanned_of council.plan
none_counted was at = ap rescanned_of (at.none_planned ∙ sym was.none_planned)

-- it is due then, and the operator's call was told nothing
pub steps_on : (key : List ℕ) (due next : CollectStep) (council now : Council) (at : CollectsAt key due 2 council) (order : OrderView) (collection then_ : CollectionView) → council.order ≡ Some order → council.collection ≡ Some collection
    → now.order ≡ Some (record order { told = None }) → now.plan ≡ council.plan → now.collection ≡ Some then_ → then_.course.key ≡ collection.course.key → then_.course.step ≡ next → round_part then_ ≡ round_part collection → CollectsAt key next 2 now
steps_on key due next council now at order collection then_ is_order is_collection order_now plan collection_now same_key is_due round =
    let same = collection_is key due 2 council at collection is_collection in
    record {
      order = order_now ∙ ap (λ (o : OrderView). Some (record o { told = None })) (order_is key due 2 council order at is_order);
      none_planned = plan ∙ at.none_planned;
      collection = then_;
      is_collection = collection_now;
      is_due = is_due;
      same_key = same_key ∙ ap (λ (c : CollectionView). c.course.key) same ∙ at.same_key;
      round_is = round ∙ ap round_part same ∙ at.round_is;
    }

-- a hold that makes none of the operator's marks, after which a step is due
pub step_held : {S V : Type 0} (key : List ℕ) (most : ℕ) (next : CollectStep) (old new : View S V) → LeavesOtherCalls old new [] → IsKept old → ((caller : CallerView) → IsAt old.callers 0 caller → caller.call ≡ None) → CollectsAt key next 2 new.council → new.council.exchange ≡ None
    → rescanned_of new.council.plan ≡ rescanned_of old.council.plan → Held old new (OperatesIn (IsTombstoneMark key) most old new × HasStep key next (own_part new 0))
step_held key most next old new leaves kept none at exchange planned =
    let held = silently old new leaves kept none in
    record { does = (no_marks key most old new held.does planned, has_step new key next (record { no_call = none_then old new [] leaves none; at = at; none_asked = exchange })); kept = held.kept; last_proposer = held.last_proposer }

-- ---- what the operator is told
-- what says the same of such an answer is one, too
answers_same : (key : List ℕ) (said told : OpAnswer) → IsCollectAnswer key said → SaysTheSame said told → IsCollectAnswer key told
answers_same key (op.Collected other ballot removed kept) told is same = subst (IsCollectAnswer key) same is
answers_same key (op.Busy era) told is same = subst (IsCollectAnswer key) same tt
answers_same key (op.NotEmpty version) told is same = subst (IsCollectAnswer key) same tt
answers_same key (op.Absent acceptor) told is same = subst (IsCollectAnswer key) same tt
answers_same key (op.ProposerDown proposer) told is same = subst (IsCollectAnswer key) same tt
answers_same key (op.Stopped why) told is same = subst (IsCollectAnswer key) same tt
answers_same key (op.Probed other found) told is same = absurd is
answers_same key (op.Joined id era rescanned) told is same = absurd is
answers_same key (op.Left id era rescanned) told is same = absurd is
answers_same key (op.Resized need_prep need_acc era rescanned) told is same = absurd is
answers_same key (op.Refused fault) told is same = absurd is

-- a call on the world leaves all callers' calls, and the operator is told such an answer
pub record StopsSo {S V : Type 0} (old mid : View S V) (key : List ℕ) : Type 0 where
  pub leaves : LeavesOtherCalls old mid []
  pub said : OpAnswer
  pub order : mid.council.order ≡ Some (told_so said (new_order (asked.Collect key)))
  pub answers : IsCollectAnswer key said
  pub planned : rescanned_of mid.council.plan ≡ rescanned_of old.council.plan

pub stops_so : {S V : Type 0} (old mid changed : View S V) (key : List ℕ) (due : CollectStep) (round : ℕ) (said : OpAnswer) → CollectsAt key due round old.council → mid ≡ changed → changed.last_proposer ≡ old.last_proposer → changed.desks ≡ old.desks → changed.callers ≡ old.callers → changed.marks ≡ old.marks
    → changed.council.order ≡ option_map (told_so said) old.council.order → rescanned_of changed.council.plan ≡ rescanned_of old.council.plan → IsCollectAnswer key said → StopsSo old mid key
stops_so {S} {V} old mid changed key due round said at is last_proposer desks callers made order planned answers = record {
  leaves = leaves_desks old changed mid [] is last_proposer desks callers (made ∙ sym (append-nil old.marks));
  said = said;
  order = ap (λ (w : View S V). w.council.order) is ∙ order ∙ ap (option_map (told_so said)) at.order;
  answers = answers;
  planned = ap (λ (w : View S V). rescanned_of w.council.plan) is ∙ planned;
}

pub stopped_held : {S V : Type 0} (key : List ℕ) (most : ℕ) (old mid new : View S V) (told : OpAnswer) → StopsSo old mid key → WasToldOrder mid told → StepTell mid told new → IsKept old → ((caller : CallerView) → IsAt old.callers 0 caller → caller.call ≡ None)
    → Held old new (IsToldIn (asked.Collect key) (IsTombstoneMark key) most old new told × IsCollectAnswer key told)
stopped_held key most old mid new told stops said ends kept none =
    let held = tells_in (IsTombstoneMark key) most old mid new (asked.Collect key) told (told_so stops.said (new_order (asked.Collect key))) stops.leaves stops.order refl ends kept none (λ enters. absurd (enters 0 0))
    (λ not. lasts_told mid new (asked.Collect key) told (told_so stops.said (new_order (asked.Collect key))) stops.order refl (λ era rescanned is. is) ends ∙ stops.planned) in
    record { does = (held.does, answers_same key stops.said told stops.answers (says_same mid (new_order (asked.Collect key)) stops.said told stops.order said)); kept = held.kept; last_proposer = held.last_proposer }

-- ---- the round
pub no_call_at : {S V : Type 0} (view : View S V) → IsKept view → ((caller : CallerView) → IsAt view.callers 0 caller → caller.call ≡ None) → HasNoCall view 0
no_call_at view kept none = let there = at_low view.callers 0 (let long = kept.places.callers in omega (arith, long)) in record { caller = there.0; at_caller = there.1; none_open = none there.0 there.1 }

-- where its own part says that its call is over, and that it is known what became of it
over_is : (c : CollectionView) → round_part c ≡ 2 → (c.calling ≡ false) × (is_sought c.tombstone ≡ false)
over_is c e = by_tests c.calling (is_sought c.tombstone) e
  where
    by_tests : (calling sought : Bool) → ◌≡◌ {A = ℕ} (if calling then 0 else if sought then 1 else 2) 2 → (calling ≡ false) × (sought ≡ false)
    by_tests true sought is = absurd (let h : 0 ≡ 2 = is in omega (arith, h))
    by_tests false true is = absurd (let h : 1 ≡ 2 = is in omega (arith, h))
    by_tests false false is = (refl, refl)

pub may_gather_round : {S V : Type 0} (view : View S V) (key : List ℕ) → IsKept view → HasStep key step.Round (own_part view 0) → MayGather view
may_gather_round view key kept has =
    let is = is_step view key step.Round has in
    let over = over_is is.at.collection is.at.round_is in
    world.its_round (record { collection = is.at.collection; is_collection = is.at.is_collection; is_due = is.at.is_due; over = over.0; known = over.1; none_open = is.none_asked; idle = no_call_at view kept is.no_call })

as_round : {S V : Type 0} (m : Meaning S V) (old new : View S V) → old.council.exchange ≡ None → Step m old (gathering_of old) new → StepGatherRound old new
as_round {S} {V} m old new none by = subst (λ (e : steps.Event). Step m old e new) (ap gathering_by none) by

-- it goes on, or the operator is told why not
data GoesOrStops {S V : Type 0} (key : List ℕ) (next : CollectStep) (old new : View S V) : Type 0 where
  goes : LeavesOtherCalls old new [] → CollectsAt key next 2 new.council → new.council.exchange ≡ None → rescanned_of new.council.plan ≡ rescanned_of old.council.plan → GoesOrStops key next old new
  stops : StopsSo old new key → GoesOrStops key next old new

round_goes : {S V : Type 0} (old new : View S V) (key : List ℕ) → IsStepDue old key step.Round → StepGatherRound old new → GoesOrStops key (step.Renew 0) old new
round_goes {S} {V} old new key was by = by_case by.gathers
  where
    by_case : GathersRound old by.at new → GoesOrStops key (step.Renew 0) old new
    by_case (collect.all ballot confirmers is_acknowledged each is) = goes (leaves_desks old _ new [] is refl refl refl (sym (append-nil old.marks)))
        (steps_on key step.Round (step.Renew 0) old.council new.council was.at by.at.order by.at.collection (confirmed_step by.at.collection) by.at.is_open by.at.is_collection (ap (λ (w : View S V). w.council.order) is) (ap (λ (w : View S V). w.council.plan) is) (ap (λ (w : View S V). w.council.collection) is) refl (ap (step_after by.at.collection.course.proposers) by.is_due) refl)
        (ap (λ (w : View S V). w.council.exchange) is ∙ was.none_asked) (ap (λ (w : View S V). rescanned_of w.council.plan) is)
    by_case (collect.is_absent ballot confirmers acceptor is_acknowledged least is) = stops (stops_so old new _ key step.Round 2 (op.Absent acceptor) was.at is refl refl refl refl refl refl tt)
    by_case (collect.is_held version found is) = stops (stops_so old new _ key step.Round 2 (op.NotEmpty version) was.at is refl refl refl refl refl refl tt)

-- what was told nothing was told no answer
untold : {S V : Type 0} (view : View S V) (a : Asked) (told : OpAnswer) → view.council.order ≡ Some (new_order a) → WasToldOrder view told → ⊥
untold view a told is was = cc (sym (ap (λ (o : OrderView). o.told) (some_is (sym was.is_open ∙ is))) ∙ was.was_said)

-- what a hold answers then
goes_held : {S V : Type 0} (key : List ℕ) (most : ℕ) (next : CollectStep) (old new : View S V) → GoesOrStops key next old new → new.council.order ≡ Some (new_order (asked.Collect key)) → IsKept old → ((caller : CallerView) → IsAt old.callers 0 caller → caller.call ≡ None)
    → Held old new (OperatesIn (IsTombstoneMark key) most old new × HasStep key next (own_part new 0))
goes_held key most next old new (goes leaves at exchange planned) none_told kept none = step_held key most next old new leaves kept none at exchange planned
goes_held key most next old new (stops so) none_told kept none = absurd (cc (ap (option_map (λ (o : OrderView). o.told)) (sym none_told ∙ so.order)))

stops_held : {S V : Type 0} (key : List ℕ) (most : ℕ) (next : CollectStep) (old mid new : View S V) (told : OpAnswer) → GoesOrStops key next old mid → WasToldOrder mid told → StepTell mid told new → IsKept old → ((caller : CallerView) → IsAt old.callers 0 caller → caller.call ≡ None)
    → Held old new (IsToldIn (asked.Collect key) (IsTombstoneMark key) most old new told × IsCollectAnswer key told)
stops_held key most next old mid new told (goes leaves at exchange planned) said ends kept none = absurd (untold mid (asked.Collect key) told at.order said)
stops_held key most next old mid new told (stops so) said ends kept none = stopped_held key most old mid new told so said ends kept none

-- its last step told nothing
silent_now : (key : List ℕ) (due : CollectStep) (round : ℕ) (council now : Council) → CollectsAt key due round council → now.order ≡ option_map silent_order council.order → now.order ≡ Some (new_order (asked.Collect key))
silent_now key due round council now at is = is ∙ ap (option_map silent_order) at.order

gathered_silently : {S V : Type 0} (old new : View S V) (result : Gathered) → world.HasGathered old result new → ((k : List ℕ) (x : ExchangeView) → old.council.exchange ≡ Some x → is_of_collection x.question ≡ true) → new.council.order ≡ option_map silent_order old.council.order
gathered_silently old new result (world.probed exchange key found is_open question plain is keeps told) of_it = absurd (cc (sym (of_it key exchange is_open) ∙ ap is_of_collection question))
gathered_silently old new result (world.read exchange key era agreement found is_open question reads safe is keeps agrees told) of_it = absurd (cc (sym (of_it key exchange is_open) ∙ ap is_of_collection question))
gathered_silently old new result (world.lists exchange places plan listing is_open question is_plan is next) of_it = absurd (cc (sym (of_it [] exchange is_open) ∙ ap is_of_collection question))
gathered_silently old new result (world.acknowledged collection none is_collection is next) of_it = ap (λ (c : Council). c.order) next
gathered_silently old new result (world.confirmed exchange collection removed kept is_open of_this is_collection is next) of_it = ap (λ (c : Council). c.order) next

pub round_held : {S V : Type 0} (m : Meaning S V) (key : List ℕ) (most : ℕ) (old new : View S V) (result : Gathered) → HasStep key step.Round (own_part old 0) → IsKept old → Step m old (gathering_of old) new → world.HasGathered old result new → Held old new (OperatesIn (IsTombstoneMark key) most old new × HasStep key (step.Renew 0) (own_part new 0))
round_held m key most old new result has kept by ok =
    let was = is_step old key step.Round has in
    goes_held key most (step.Renew 0) old new (round_goes old new key was (as_round m old new was.none_asked by))
    (silent_now key step.Round 2 old.council new.council was.at (gathered_silently old new result ok (λ k x is. absurd (cc (sym was.none_asked ∙ is))))) kept was.no_call

pub round_told : {S V : Type 0} (m : Meaning S V) (key : List ℕ) (most : ℕ) (old mid new : View S V) (told : OpAnswer) → HasStep key step.Round (own_part old 0) → IsKept old → Step m old (gathering_of old) mid → WasToldOrder mid told → StepTell mid told new
    → Held old new (IsToldIn (asked.Collect key) (IsTombstoneMark key) most old new told × IsCollectAnswer key told)
round_told m key most old mid new told has kept by said ends =
    let was = is_step old key step.Round has in
    stops_held key most (step.Renew 0) old mid new told (round_goes old mid key was (as_round m old mid was.none_asked by)) said ends kept was.no_call

-- ---- the members are asked
pub may_ask : {S V : Type 0} (view : View S V) (key : List ℕ) (due : CollectStep) → IsKept view → HasStep key due (own_part view 0) → MayAskCollected view due
may_ask view key due kept has = let is = is_step view key due has in record { collection = is.at.collection; is_collection = is.at.is_collection; is_due = is.at.is_due; none_open = is.none_asked; idle = no_call_at view kept is.no_call }

data AsksOrStops {S V : Type 0} (key : List ℕ) (due : CollectStep) (old new : View S V) : Type 0 where
  asks : LeavesOtherCalls old new [] → CollectsAt key due 2 new.council → (exchange : ExchangeView) → new.council.exchange ≡ Some exchange → is_of_collection exchange.question ≡ true → AsksOrStops key due old new
  stops_asking : StopsSo old new key → new.council.exchange ≡ None → AsksOrStops key due old new

of_question : (collection : CollectionView) (question : Question) → IsQuestionOf collection question → is_of_collection question ≡ true
of_question collection question (collect.tells_ages due is) = ap is_of_collection is
of_question collection question (collect.removes due is) = ap is_of_collection is

same_council : (key : List ℕ) (due : CollectStep) (council now : Council) → CollectsAt key due 2 council → now.order ≡ council.order → now.plan ≡ council.plan → now.collection ≡ council.collection → CollectsAt key due 2 now
same_council key due council now at order plan collection = record { order = order ∙ at.order; none_planned = plan ∙ at.none_planned; collection = at.collection; is_collection = collection ∙ at.is_collection; is_due = at.is_due; same_key = at.same_key; round_is = at.round_is }

asks_or_not : {S V : Type 0} (m : Meaning S V) (key : List ℕ) (due : CollectStep) (old new : View S V) → IsStepDue old key due → StepAskCollect m old new → AsksOrStops key due old new
asks_or_not {S} {V} m key due old new was by = by_case by.asks
  where
    by_case : AsksCollect m old by.may.at by.desk new → AsksOrStops key due old new
    by_case (collect.asks question flow up is_question room aged sends is) = asks (leaves_desks old _ new [] is refl refl refl (sym (append-nil old.marks)))
        (same_council key due old.council new.council was.at (ap (λ (w : View S V). w.council.order) is) (ap (λ (w : View S V). w.council.plan) is) (ap (λ (w : View S V). w.council.collection) is)) _ (ap (λ (w : View S V). w.council.exchange) is) (of_question by.may.at.collection question is_question)
    by_case (collect.is_down down is) = stops_asking (stops_so old new _ key due 2 (op.Stopped answer.Down) was.at is refl refl refl refl refl refl tt) (ap (λ (w : View S V). w.council.exchange) is ∙ was.none_asked)
    by_case (collect.is_full question up is_question full is) = stops_asking (stops_so old new _ key due 2 (op.Stopped answer.RecordFull) was.at is refl refl refl refl refl refl tt) (ap (λ (w : View S V). w.council.exchange) is ∙ was.none_asked)
    by_case (collect.no_memory up is) = stops_asking (stops_so old new _ key due 2 (op.Stopped (answer.NoMemory false)) was.at is refl refl refl refl refl refl tt) (ap (λ (w : View S V). w.council.exchange) is ∙ was.none_asked)

pub ask_held : {S V : Type 0} (m : Meaning S V) (key : List ℕ) (due : CollectStep) (most : ℕ) (old new : View S V) → HasStep key due (own_part old 0) → IsKept old → StepAskCollect m old new → IsSome new.council.exchange → Held old new (OperatesIn (IsTombstoneMark key) most old new × HasQuestion key due (own_part new 0))
ask_held {S} {V} m key due most old new has kept by some = by_case (asks_or_not m key due old new was by)
  where
    was : IsStepDue old key due
    was = is_step old key due has

    by_case : AsksOrStops key due old new → Held old new (OperatesIn (IsTombstoneMark key) most old new × HasQuestion key due (own_part new 0))
    by_case (asks leaves at exchange is_open of_it) =
        let held = silently old new leaves kept was.no_call in
        record { does = (no_marks key most old new held.does (none_counted was.at at), has_question new key due (record { no_call = none_then old new [] leaves was.no_call; at = at; exchange = exchange; is_open = is_open; of_it = of_it })); kept = held.kept; last_proposer = held.last_proposer }
    by_case (stops_asking so none) = absurd (cc (subst (λ (o : Option ExchangeView). IsSome o) none some))

pub ask_told : {S V : Type 0} (m : Meaning S V) (key : List ℕ) (due : CollectStep) (most : ℕ) (old mid new : View S V) (told : OpAnswer) → HasStep key due (own_part old 0) → IsKept old → StepAskCollect m old mid → WasToldOrder mid told → StepTell mid told new
    → Held old new (IsToldIn (asked.Collect key) (IsTombstoneMark key) most old new told × IsCollectAnswer key told)
ask_told {S} {V} m key due most old mid new told has kept by said ends = by_case (asks_or_not m key due old mid was by)
  where
    was : IsStepDue old key due
    was = is_step old key due has

    by_case : AsksOrStops key due old mid → Held old new (IsToldIn (asked.Collect key) (IsTombstoneMark key) most old new told × IsCollectAnswer key told)
    by_case (asks leaves at exchange is_open of_it) = absurd (untold mid (asked.Collect key) told at.order said)
    by_case (stops_asking so none) = stopped_held key most old mid new told so said ends kept was.no_call

-- ---- their frames
asking_place : {S V : Type 0} (view : View S V) (key : List ℕ) (due : CollectStep) → HasQuestion key due (own_part view 0) → place_of view 0 ≡ exchange_place
asking_place view key due has = let is = is_asked view key due has in ap (λ (o : Option ExchangeView). if asks_as o 0 then exchange_place else 0) is.is_open

pub frame_waits : {S V : Type 0} (view : View S V) (key : List ℕ) (due : CollectStep) → HasQuestion key due (own_part view 0) → (queue_at view.flow exchange_place).messages ≢ [] → (queue_at view.flow (place_of view 0)).messages ≢ []
frame_waits view key due has waits = subst (λ (p : ℕ). (queue_at view.flow p).messages ≢ []) (sym (asking_place view key due has)) waits

pub one_waits : {S V : Type 0} (view : View S V) (key : List ℕ) (due : CollectStep) (front : Option (Leg × ℕ)) → HasQuestion key due (own_part view 0) → front ≡ option_map head_of (slice_get (queue_at view.flow (place_of view 0)).messages 0) → is_some front ≡ true → (queue_at view.flow exchange_place).messages ≢ []
one_waits view key due front has shown some = some_waits (queue_at view.flow exchange_place).messages front (subst (λ (p : ℕ). front ≡ option_map head_of (slice_get (queue_at view.flow p).messages 0)) (asking_place view key due has) shown) some

pub no_frame_waits : {S V : Type 0} (view : View S V) (key : List ℕ) (due : CollectStep) (front : Option (Leg × ℕ)) → HasQuestion key due (own_part view 0) → front ≡ option_map head_of (slice_get (queue_at view.flow (place_of view 0)).messages 0) → is_some front ≡ false → (queue_at view.flow exchange_place).messages ≡ []
no_frame_waits view key due front has shown none = none_waits (queue_at view.flow exchange_place).messages front (subst (λ (p : ℕ). front ≡ option_map head_of (slice_get (queue_at view.flow p).messages 0)) (asking_place view key due has) shown) none

turn_is : {S V : Type 0} (view : View S V) (key : List ℕ) (due : CollectStep) (v : Verdict) → HasQuestion key due (own_part view 0) → turn_of view 0 v ≡ steps.TurnExchange v
turn_is view key due v has = let is = is_asked view key due has in ap (λ (o : Option ExchangeView). if asks_as o 0 then steps.TurnExchange v else steps.Turn 0 v) is.is_open

refusal_is : {S V : Type 0} (view : View S V) (key : List ℕ) (due : CollectStep) → HasQuestion key due (own_part view 0) → refusal_of view 0 ≡ steps.RefuseTurnExchange
refusal_is view key due has = let is = is_asked view key due has in ap (λ (o : Option ExchangeView). if asks_as o 0 then steps.RefuseTurnExchange else steps.RefuseTurn 0) is.is_open

-- what is asked for a collection is no probe
collecting_harms : (q : Question) → is_of_collection q ≡ true → (harmed : List ℕ) → harms_part q harmed ≡ 0
collecting_harms (Probe k) of_it harmed = absurd (cc of_it)
collecting_harms (NextKeys places) of_it harmed = refl
collecting_harms (NewAges k least) of_it harmed = refl
collecting_harms (Removal k) of_it harmed = refl

pub turn_held : {S V : Type 0} (m : Meaning S V) (key : List ℕ) (due : CollectStep) (v : Verdict) (old new : View S V) → HasQuestion key due (own_part old 0) → IsKept old → Step m old (turn_of old 0 v) new → Held old new (OperatesIn (IsTombstoneMark key) (harm_by v) old new × HasQuestion key due (own_part new 0))
turn_held {S} {V} m key due v old new has kept step_ =
    let by : StepTurnExchange m old v new = subst (λ (e : steps.Event). Step m old e new) (turn_is old key due v has) step_ in
    let was = is_asked old key due has in
    let turns = turns_asking m v old new by in
    let held = operates (harm_by v) old new turns.marks turns.leaves turns.of_asking kept was.no_call (turns_planned turns) in
    record {
      does = (
        record { marks = held.does.marks; makes = held.does.makes; all_such = all_asking key (mine 0 held.does.marks) held.does.all_such; few = held.does.few; counts = λ enters. absurd (enters 0 0); keeps = λ not. turns_planned turns },
        subst (HasQuestion key due) (sym (own_kept (harm_by v) old new by.at.exchange by.at.is_open turns was.no_call (collecting_harms by.at.exchange.question (ap (λ (x : ExchangeView). is_of_collection x.question) (some_is (sym by.at.is_open ∙ was.is_open)) ∙ was.of_it)))) has,
      );
      kept = held.kept;
      last_proposer = held.last_proposer;
    }

pub turn_may_tell : {S V : Type 0} (m : Meaning S V) (key : List ℕ) (due : CollectStep) (old mid : View S V) → HasQuestion key due (own_part old 0) → Step m old (refusal_of old 0) mid → WasToldOrder mid (op.Stopped (answer.NoMemory false))
turn_may_tell {S} {V} m key due old mid has step_ =
    let by : StepRefuseTurnExchange m old mid = subst (λ (e : steps.Event). Step m old e mid) (refusal_is old key due has) step_ in
    let was = is_asked old key due has in
    was_told_so mid (new_order (asked.Collect key)) (op.Stopped (answer.NoMemory false)) (refuses_asking m old mid (new_order (asked.Collect key)) was.at.order by).1 refl

pub turn_told : {S V : Type 0} (m : Meaning S V) (key : List ℕ) (due : CollectStep) (most : ℕ) (old mid new : View S V) (told : OpAnswer) → told ≡ op.Stopped (answer.NoMemory false) → HasQuestion key due (own_part old 0) → IsKept old → Step m old (refusal_of old 0) mid → StepTell mid told new
    → Held old new (IsToldIn (asked.Collect key) (IsTombstoneMark key) most old new told × IsCollectAnswer key told)
turn_told {S} {V} m key due most old mid new told is has kept step_ ends =
    let by : StepRefuseTurnExchange m old mid = subst (λ (e : steps.Event). Step m old e mid) (refusal_is old key due has) step_ in
    let was = is_asked old key due has in
    let refuses = refuses_asking m old mid (new_order (asked.Collect key)) was.at.order by in
    let held = tells_in (IsTombstoneMark key) most old mid new (asked.Collect key) told (told_so (op.Stopped (answer.NoMemory false)) (new_order (asked.Collect key))) refuses.0 refuses.1 refl ends kept was.no_call (λ enters. absurd (enters 0 0))
    (λ not. lasts_told mid new (asked.Collect key) told (told_so (op.Stopped (answer.NoMemory false)) (new_order (asked.Collect key))) refuses.1 refl (λ era rescanned is. is) ends ∙ refusal_planned m old mid by) in
    record { does = (held.does, subst (IsCollectAnswer key) (sym is) tt); kept = held.kept; last_proposer = held.last_proposer }

-- ---- what they told
pub may_gather : {S V : Type 0} (view : View S V) (key : List ℕ) (due : CollectStep) → HasQuestion key due (own_part view 0) → (queue_at view.flow exchange_place).messages ≡ [] → MayGather view
may_gather view key due has none = let is = is_asked view key due has in world.collected (record { exchange = is.exchange; is_open = is.is_open; asks = is.of_it; none_waits = none })

as_collect : {S V : Type 0} (m : Meaning S V) (key : List ℕ) (due : CollectStep) (old new : View S V) → IsStepAsked old key due → Step m old (gathering_of old) new → StepGatherCollect old new
as_collect {S} {V} m key due old new was by = subst (λ (e : steps.Event). Step m old e new) (ap gathering_by was.is_open ∙ ap (λ (b : Bool). if b then steps.GatherCollect else steps.Gather) was.of_it) by

gathers_or_not : {S V : Type 0} (key : List ℕ) (due next : CollectStep) (old new : View S V) → ((proposers : ℕ) → step_after proposers due ≡ next) → IsStepAsked old key due → StepGatherCollect old new → GoesOrStops key next old new
gathers_or_not {S} {V} key due next old new after was by = by_case by.gathers
  where
    by_case : GathersCollect old by.at by.of_exchange.exchange new → GoesOrStops key next old new
    by_case (collect.crashed down is) = stops (stops_so old new _ key due 2 (op.Stopped answer.Crashed) was.at is refl refl refl refl refl refl tt)
    by_case (collect.all up each is) = goes (leaves_desks old _ new [] is refl refl refl (sym (append-nil old.marks)))
        (steps_on key due next old.council new.council was.at by.at.order by.at.collection _ by.at.is_open by.at.is_collection (ap (λ (w : View S V). w.council.order) is) (ap (λ (w : View S V). w.council.plan) is) (ap (λ (w : View S V). w.council.collection) is) refl
        (ap (step_after by.at.collection.course.proposers) (ap (λ (c : CollectionView). c.course.step) (collection_is key due 2 old.council was.at by.at.collection by.at.is_collection) ∙ was.at.is_due) ∙ after by.at.collection.course.proposers) refl)
        (ap (λ (w : View S V). w.council.exchange) is) (ap (λ (w : View S V). rescanned_of w.council.plan) is)
    by_case (collect.is_absent acceptor up least is) = stops (stops_so old new _ key due 2 (op.Absent acceptor) was.at is refl refl refl refl refl refl tt)

gathered_now : {S V : Type 0} (key : List ℕ) (due : CollectStep) (old new : View S V) (result : Gathered) → IsStepAsked old key due → world.HasGathered old result new → new.council.order ≡ Some (new_order (asked.Collect key))
gathered_now key due old new result was ok =
    silent_now key due 2 old.council new.council was.at (gathered_silently old new result ok (λ k x is. ap (λ (e : ExchangeView). is_of_collection e.question) (some_is (sym is ∙ was.is_open)) ∙ was.of_it))

pub gather_held : {S V : Type 0} (m : Meaning S V) (key : List ℕ) (due next : CollectStep) (most : ℕ) (old new : View S V) (result : Gathered) → ((proposers : ℕ) → step_after proposers due ≡ next) → HasQuestion key due (own_part old 0) → IsKept old → Step m old (gathering_of old) new → world.HasGathered old result new
    → Held old new (OperatesIn (IsTombstoneMark key) most old new × HasStep key next (own_part new 0))
gather_held m key due next most old new result after has kept by ok =
    let was = is_asked old key due has in
    goes_held key most next old new (gathers_or_not key due next old new after was (as_collect m key due old new was by)) (gathered_now key due old new result was ok) kept was.no_call

pub gather_told : {S V : Type 0} (m : Meaning S V) (key : List ℕ) (due next : CollectStep) (most : ℕ) (old mid new : View S V) (told : OpAnswer) → ((proposers : ℕ) → step_after proposers due ≡ next) → HasQuestion key due (own_part old 0) → IsKept old → Step m old (gathering_of old) mid → WasToldOrder mid told → StepTell mid told new
    → Held old new (IsToldIn (asked.Collect key) (IsTombstoneMark key) most old new told × IsCollectAnswer key told)
gather_told m key due next most old mid new told after has kept by said ends =
    let was = is_asked old key due has in
    stops_held key most next old mid new told (gathers_or_not key due next old mid after was (as_collect m key due old mid was by)) said ends kept was.no_call

-- ---- the floor
pub due_step : {S V : Type 0} (view : View S V) (key : List ℕ) (due : CollectStep) → HasStep key due (own_part view 0) → IsDueStep view due
due_step view key due has = let is = is_step view key due has in record { collection = is.at.collection; is_collection = is.at.is_collection; is_due = is.at.is_due }

pub floor_held : {S V : Type 0} (key : List ℕ) (most : ℕ) (old new : View S V) → HasStep key step.Floor (own_part old 0) → IsKept old → StepMakeFloor old new → Held old new (OperatesIn (IsTombstoneMark key) most old new × HasStep key step.Remove (own_part new 0))
floor_held {S} {V} key most old new has kept by =
    let was = is_step old key step.Floor has in
    let made : List Mark = kinds.Floor by.at.collection.course.key (tomb_of by.at.collection.tombstone) Empty ∷ [] in
    let leaves : LeavesOtherCalls old new made = leaves_desks old _ new made by.view refl refl refl refl in
    let only = only_one 0 (kinds.Floor by.at.collection.course.key (tomb_of by.at.collection.tombstone) Empty) (λ n e. sym (cc e)) in
    let none = none_then old new made leaves was.no_call in
    let floor_key : by.at.collection.course.key ≡ key = ap (λ (c : CollectionView). c.course.key) (some_is (sym by.at.is_collection ∙ was.at.is_collection)) ∙ was.at.same_key in
    let at = steps_on key step.Floor step.Remove old.council new.council was.at by.at.order by.at.collection _ by.at.is_open by.at.is_collection (ap (λ (w : View S V). w.council.order) by.view) (ap (λ (w : View S V). w.council.plan) by.view) (ap (λ (w : View S V). w.council.collection) by.view) refl (ap (step_after by.at.collection.course.proposers) by.is_due) refl in
    record {
      does = (
        record { marks = made; makes = makes_by old new made leaves (tt, tt) only; all_such = All-cons (IsTombstoneMark key) (kinds.Floor by.at.collection.course.key (tomb_of by.at.collection.tombstone) Empty) [] (floor_key, refl) (All-nil (IsTombstoneMark key)); few = omega arith; counts = λ enters. absurd (enters 0 0); keeps = λ not. none_counted was.at at },
        has_step new key step.Remove (record { no_call = none; at = at; none_asked = ap (λ (w : View S V). w.council.exchange) by.view ∙ was.none_asked }),
      );
      kept = kept_then old new made leaves only kept none;
      last_proposer = leaves.last_proposer;
    }

-- ---- the end
-- once the removals are gathered the operator may be told that the key is collected
pub collected_all : {S V : Type 0} (m : Meaning S V) (key : List ℕ) (old new : View S V) (result : Gathered) (told : OpAnswer) → HasQuestion key step.Remove (own_part old 0) → Step m old (gathering_of old) new → world.HasGathered old result new
    → ((c : CollectionView) → new.council.collection ≡ Some c → told ≡ op.Collected key (tomb_of c.tombstone) c.removed c.kept) → HasCollectedAll new told
collected_all {S} {V} m key old new result told has by ok says = by_case (gathers_or_not key step.Remove step.End old new (λ p. refl) was (as_collect m key step.Remove old new was by))
  where
    was : IsStepAsked old key step.Remove
    was = is_asked old key step.Remove has

    by_case : GoesOrStops key step.End old new → HasCollectedAll new told
    by_case (goes leaves at exchange planned) = record {
      order = new_order (asked.Collect key);
      is_open = at.order;
      untold = refl;
      collected = record { collection = at.collection; is_collection = at.is_collection; is_for = ap asked.Collect (sym at.same_key); at_end = at.is_due; tells = says at.collection at.is_collection ∙ ap (λ (k : List ℕ). op.Collected k (tomb_of at.collection.tombstone) at.collection.removed at.collection.kept) (sym at.same_key) };
    }
    by_case (stops so) = absurd (cc (ap (option_map (λ (o : OrderView). o.told)) (sym (gathered_now key step.Remove old new result was ok) ∙ so.order)))

pub collected_told : {S V : Type 0} (m : Meaning S V) (key : List ℕ) (most : ℕ) (old mid new : View S V) (result : Gathered) (told : OpAnswer) → IsCollectAnswer key told → HasQuestion key step.Remove (own_part old 0) → IsKept old → Step m old (gathering_of old) mid → world.HasGathered old result mid → StepTell mid told new
    → Held old new (IsToldIn (asked.Collect key) (IsTombstoneMark key) most old new told × IsCollectAnswer key told)
collected_told {S} {V} m key most old mid new result told is has kept by ok ends = by_case (gathers_or_not key step.Remove step.End old mid (λ p. refl) was (as_collect m key step.Remove old mid was by))
  where
    was : IsStepAsked old key step.Remove
    was = is_asked old key step.Remove has

    by_case : GoesOrStops key step.End old mid → Held old new (IsToldIn (asked.Collect key) (IsTombstoneMark key) most old new told × IsCollectAnswer key told)
    by_case (goes leaves at exchange planned) = let held = tells_in (IsTombstoneMark key) most old mid new (asked.Collect key) told (new_order (asked.Collect key)) leaves at.order refl ends kept was.no_call (λ enters. absurd (enters 0 0))
        (λ not. lasts_told mid new (asked.Collect key) told (new_order (asked.Collect key)) at.order refl (λ era rescanned is. is) ends ∙ planned) in record { does = (held.does, is); kept = held.kept; last_proposer = held.last_proposer }
    by_case (stops so) = absurd (cc (ap (option_map (λ (o : OrderView). o.told)) (sym (gathered_now key step.Remove old mid result was ok) ∙ so.order)))

-- what is read of it then
pub collected_says : (key : List ℕ) (o : Option CollectionView) (ballot : Ballot) (removed kept : ℕ) → IfSome o (λ c. ballot ≡ tomb_of c.tombstone) → IfSome o (λ c. (removed ≡ c.removed) × (kept ≡ c.kept)) → (c : CollectionView) → o ≡ Some c
    → op.Collected key ballot removed kept ≡ op.Collected key (tomb_of c.tombstone) c.removed c.kept
collected_says key None ballot removed kept tomb counts c is = absurd (cc is)
collected_says key (Some one) ballot removed kept tomb counts c is =
    ap (λ (b : Ballot). op.Collected key b removed kept) tomb ∙ ap₂ (λ (r k : ℕ). op.Collected key (tomb_of one.tombstone) r k) counts.0 counts.1 ∙ ap (λ (x : CollectionView). op.Collected key (tomb_of x.tombstone) x.removed x.kept) (some_is is)

-- and no frame of the removals waits, as is read of the world
pub removals_through : {S V : Type 0} (view : View S V) (key : List ℕ) → HasQuestion key step.Remove (own_part view 0) → front_of view 0 ≡ None → (queue_at view.flow exchange_place).messages ≡ []
removals_through view key has none = no_frame_waits view key step.Remove (front_of view 0) has refl (ap (λ (o : Option (Leg × ℕ)). is_some o) none)

pub removals_wait : {S V : Type 0} (view : View S V) (key : List ℕ) → HasQuestion key step.Remove (own_part view 0) → (front_of view 0 ≡ None → ⊥) → (queue_at view.flow exchange_place).messages ≢ []
removals_wait view key has some none = some (ap (λ (p : ℕ). option_map head_of (slice_get (queue_at view.flow p).messages 0)) (asking_place view key step.Remove has) ∙ ap (λ (l : List Message). option_map head_of (slice_get l 0)) none)
