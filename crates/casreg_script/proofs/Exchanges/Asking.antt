-- What the calls of an exchange do to a world, and those of the operator's call.
use Rattle.std.proofs.Common.{◌≡◌, ◌≢◌, ◌<◌, ◌≤◌, ℕ, Bool, true, false, List, [], Option, None, Some, slice_get, refl, sym, ap, subst, ◌∙◌, inl, inr, arith, length-drop}
use Rattle.std.specs.Prelude.{⊤, if◌then◌else◌, ◌&&◌, ◌==◌, length, option_map, IsSome}
use Rattle.cas_ballot.specs.declared.ballot.Ballot.{Ballot}
use Rattle.cas_fate.specs.declared.fate.Leg.{Leg}
use Rattle.cas_fate.specs.declared.fate.Verdict.{Verdict}
use Rattle.cas_fate.specs.declared.fate.Verdict.TheVariants.{Hold}
use Rattle.cas_flow.specs.Flow.{queue_at}
use Rattle.cas_flow.specs.Message.{head_of}
use Rattle.cas_flow.specs.declared.message.Message.{Message}
use Rattle.cas_members.specs.declared.plan.PlanStep.{PlanStep}
use Rattle.cas_members.specs.declared.plan.PlanStep.TheVariants.{Settle, Enter, Finished}
use Rattle.cas_members.specs.Plan.{next_of}
use Rattle.cas_quorum.specs.declared.era.Era.{Era}
use Rattle.cas_record.specs.Agreement.{IsAgreementOf}
use Rattle.cas_record.specs.declared.agreement.Agreement.{Agreement}
use Rattle.cas_record.specs.declared.answer.Answer.{Answer}
use Rattle.cas_record.specs.declared.answer.Answer.TheVariants as answer
use Rattle.cas_record.specs.declared.operator.Asked.{Asked}
use Rattle.cas_record.specs.declared.operator.OpAnswer.{OpAnswer}
use Rattle.cas_record.specs.declared.operator.OpAnswer.TheVariants as op
use Rattle.cas_record.specs.declared.operator.Probes.{Probes}
use Rattle.cas_world_calls.specs.Council.{IsProbed, first_of, first_where, due_in, left_to_list, listed_if}
use Rattle.cas_world_calls.specs.declared.council.Query.TheVariants as query
use Rattle.cas_world_calls.specs.declared.council.Gathered.{Gathered}
use Rattle.cas_world_calls.specs.declared.council.Gathered.TheVariants as gathered
use Rattle.cas_model.specs.Council.{Council, Question, Probe, NextKeys, MemberPlace, ListingView, OrderView, PlanView, ExchangeView, IsAtRest, exchange_place, silent_order, stepped, told_so, with_listing}
use Rattle.cas_model.specs.Collection.State.{CollectionView, tomb_of}
use Rattle.cas_model.specs.Eras.Remaining.{keys_left}
use Rattle.cas_model.specs.Safe.{is_of_collection}
use Rattle.cas_model.specs.Step as step
use Rattle.cas_model.specs.Step.{Event, Step}
use Rattle.cas_model.specs.Collection.Step as collects
use Rattle.cas_model.specs.Collection.Step.{StepAskCollect, AsksCollect, IsQuestionOf, StepGatherCollect, GathersCollect}
use Rattle.cas_model.specs.Exchanges.Step as council
use Rattle.cas_model.specs.Exchanges.Step.{SaysTheSame, StepOrder, StepTell, StepAskAll, AsksAll, StepTurnExchange, TurnsExchange, StepRefuseTurnExchange, StepGather, Gathers, everyone, places_from, listing_in, plan_asked, listing_begun, begun_listing}
use Rattle.cas_model.specs.Frames.Step as frames
use Rattle.cas_model.specs.View.{Meaning, View, CallerView, era_at}
use Rattle.cas_model.proofs.Places.{some_is}
use Rattle.cas_world.specs.Calls.Beginning.{HasNoCall}
use Rattle.cas_world.specs.Exchanges.Exchange as world
use Rattle.cas_world.specs.Exchanges.Exchange.{asks_as, place_of, turn_of, refusal_of, IsStopped, MayAskMembers, MayAskKey, MayAskThis, MayGather, MayGatherMembers, gathering_by, gathering_of, asking_of, WasToldOrder, HasGathered, probed, lists, acknowledged, confirmed, question_in}
use Rattle.cas_world.specs.declared.exchange.Exchange.{Exchange}
use Rattle.cas_world.specs.declared.exchange.Exchange.TheVariants as what
use Rattle.cas_world.specs.Eras.Plans.{IsUnderWay, IsPartial, step_of}
use Rattle.casreg_script.specs.Frames.Conditions.{NetworkView, DecidesVerdict, is_to_repeat}
use Rattle.casreg_script.specs.Exchanges.Exchanges as turns
use Rattle.casreg_script.specs.Exchanges.Exchanges.{AskTurned, BreaksOffAsking, one_more, HasListed, HasConfirmed, CameOf, IsAsking, KeepsCalls, KeepsOrder, answers_of, listing_left}
use Rattle.casreg_script.specs.Eras.Membership.{TakesStep, left_of, steps_left}
use Rattle.casreg_script.specs.Exchanges.Orders.{IsFree, KeepsIdle}
use Rattle.casreg_script.specs.Calls.Playing.{turns_left}
use Rattle.casreg_script.specs.Frames.Strays.{LetsStrayIn, KeepsUnderWay}
use Rattle.cas_base.proofs.Bools.{true_or_false}
use Rattle.casreg_script.proofs.Eras.Rescanning.{with_asked, settles_by, SettlesEra}
use Rattle.casreg_script.proofs.Frames.Straying.{lets_under_way}
use Rattle.casreg_script.proofs.Calls.Turns.{front_of, not_held, fewer_taken, fewer_answered, waits_near}

-- ---- the calls of callers
by_view : {S V : Type 0} (old changed new : View S V) → new ≡ changed → changed.last_proposer ≡ old.last_proposer → changed.callers ≡ old.callers → KeepsCalls old new
by_view {S} {V} old changed new is last_proposer callers = record { last_proposer = ap (λ (w : View S V). w.last_proposer) is ∙ last_proposer; callers = ap (λ (w : View S V). w.callers) is ∙ callers }

pub same_calls : {S V : Type 0} (old : View S V) → KeepsCalls old old
same_calls old = record { last_proposer = refl; callers = refl }

pub both_calls : {S V : Type 0} (old mid new : View S V) → KeepsCalls old mid → KeepsCalls mid new → KeepsCalls old new
both_calls old mid new before after = record { last_proposer = after.last_proposer ∙ before.last_proposer; callers = after.callers ∙ before.callers }

pub keeps_idle : {S V : Type 0} (old new : View S V) → KeepsCalls old new → KeepsIdle old new
keeps_idle old new keeps = record {
  last_proposer = keeps.last_proposer;
  idle = λ id was. record { caller = was.caller; at_caller = ap (λ (l : List CallerView). slice_get l id) keeps.callers ∙ was.at_caller; none_open = was.none_open };
}

pub same_idle : {S V : Type 0} (old : View S V) → KeepsIdle old old
same_idle old = record { last_proposer = refl; idle = λ id was. was }

pub both_idle : {S V : Type 0} (old mid new : View S V) → KeepsIdle old mid → KeepsIdle mid new → KeepsIdle old new
both_idle old mid new before after = record { last_proposer = after.last_proposer ∙ before.last_proposer; idle = λ id was. after.idle id (before.idle id was) }

pub order_keeps : {S V : Type 0} (old new : View S V) (what : Asked) → StepOrder old what new → KeepsCalls old new
order_keeps old new what by = by_view old _ new by.view refl refl

pub tell_keeps : {S V : Type 0} (old new : View S V) (told : OpAnswer) → StepTell old told new → KeepsCalls old new
tell_keeps old new told (council.tells order said is_open was_told same is) = by_view old _ new is refl refl
tell_keeps old new told (council.finishes order is_open by is) = by_view old _ new is refl refl
tell_keeps old new told (council.collects order is_open by is) = by_view old _ new is refl refl

pub ask_keeps : {S V : Type 0} (m : Meaning S V) (old new : View S V) (question : Question) → StepAskAll m old question new → KeepsCalls old new
ask_keeps {S} {V} m old new question by = by_case by.asks
  where
    by_case : AsksAll m old question by.desk new → KeepsCalls old new
    by_case (council.asks now tag flow up room drawn is_now sends is) = by_view old _ new is refl refl
    by_case (council.is_down down is) = by_view old _ new is refl refl
    by_case (council.is_full up full is) = by_view old _ new is refl refl
    by_case (council.is_spent now up spent kept is_now is) = by_view old _ new is refl refl
    by_case (council.fails now up fault is) = by_view old _ new is refl refl
    by_case (council.no_memory now tag up loss is) = by_view old _ new is refl refl

collect_ask_keeps : {S V : Type 0} (m : Meaning S V) (old new : View S V) → StepAskCollect m old new → KeepsCalls old new
collect_ask_keeps {S} {V} m old new by = by_case by.asks
  where
    by_case : AsksCollect m old by.may.at by.desk new → KeepsCalls old new
    by_case (collects.asks question flow up due room aged sends is) = by_view old _ new is refl refl
    by_case (collects.is_down down is) = by_view old _ new is refl refl
    by_case (collects.is_full question up due full is) = by_view old _ new is refl refl
    by_case (collects.no_memory up is) = by_view old _ new is refl refl

pub asking_keeps : {S V : Type 0} (m : Meaning S V) (old new : View S V) (exchange : Exchange) → Step m old (asking_of old exchange) new → KeepsCalls old new
asking_keeps m old new what.Ages by = collect_ask_keeps m old new by
asking_keeps m old new what.Remove by = collect_ask_keeps m old new by
asking_keeps m old new what.List by = ask_keeps m old new _ by
asking_keeps m old new (what.Probe key) by = ask_keeps m old new _ by
asking_keeps m old new (what.Read key) by = ask_keeps m old new _ by

pub ask_turn_keeps : {S V : Type 0} (m : Meaning S V) (old new : View S V) (verdict : Verdict) → StepTurnExchange m old verdict new → KeepsCalls old new
ask_turn_keeps {S} {V} m old new verdict by = by_case by.turn
  where
    by_case : TurnsExchange m old verdict by.front by.at.exchange new → KeepsCalls old new
    by_case (council.held fall is) = by_view old old new is refl refl
    by_case (council.gone fall is) = by_view old _ new is refl refl
    by_case (council.answers request acceptor now reply fall front at table is) = by_view old _ new is refl refl
    by_case (council.finds_down request acceptor fall front at down is) = by_view old _ new is refl refl
    by_case (council.brings_down request acceptor now fall front at stops is) = by_view old _ new is refl refl
    by_case (council.arrives reply fall front to_it is) = by_view old _ new is refl refl

-- where no memory is found nothing of the council changes, and no call
no_room : {S V : Type 0} (m : Meaning S V) (old new : View S V) → frames.FindsNoRoom m old new → KeepsCalls old new × (new.council ≡ old.council)
no_room {S} {V} m old new (frames.stays is) = (by_view old old new is refl refl, ap (λ (w : View S V). w.council) is)
no_room {S} {V} m old new (frames.kept id acceptor now there finds is) = (by_view old _ new is refl refl, ap (λ (w : View S V). w.council) is)

pub ask_refusal_keeps : {S V : Type 0} (m : Meaning S V) (old new : View S V) → StepRefuseTurnExchange m old new → KeepsCalls old new
ask_refusal_keeps m old new by = both_calls old by.middle new (no_room m old by.middle by.refuses).0 (by_view by.middle _ new by.view refl refl)

pub gather_keeps : {S V : Type 0} (old new : View S V) → StepGather old new → KeepsCalls old new
gather_keeps {S} {V} old new by = by_case by.gathers
  where
    by_case : Gathers old by.at.exchange new → KeepsCalls old new
    by_case (council.crashed down is) = by_view old _ new is refl refl
    by_case (council.probed key found up question plain keeps is) = by_view old _ new is refl refl
    by_case (council.read key era found marks up question reads keeps made is) = by_view old _ new is refl refl
    by_case (council.lists of listing up enough on is) = by_view old _ new is refl refl
    by_case (council.is_short of short up few is) = by_view old _ new is refl refl
    by_case (council.no_memory up is) = by_view old _ new is refl refl

collect_gather_keeps : {S V : Type 0} (old new : View S V) → StepGatherCollect old new → KeepsCalls old new
collect_gather_keeps {S} {V} old new by = by_case by.gathers
  where
    by_case : GathersCollect old by.at by.of_exchange.exchange new → KeepsCalls old new
    by_case (collects.crashed down is) = by_view old _ new is refl refl
    by_case (collects.all up confirms is) = by_view old _ new is refl refl
    by_case (collects.is_absent acceptor up least is) = by_view old _ new is refl refl

pub answers_keep : {S V : Type 0} (m : Meaning S V) (old new : View S V) (exchange : Exchange) → Step m old (answers_of exchange) new → KeepsCalls old new
answers_keep m old new what.Ages by = collect_gather_keeps old new by
answers_keep m old new what.Remove by = collect_gather_keeps old new by
answers_keep m old new what.List by = gather_keeps old new by
answers_keep m old new (what.Probe key) by = gather_keeps old new by
answers_keep m old new (what.Read key) by = gather_keeps old new by

-- ---- the exchange
-- the operator's call is open, and no exchange yet
pub may_ask : {S V : Type 0} (old new : View S V) (asking : Asked) → IsAtRest old.council → HasNoCall old 0 → StepOrder old asking new → MayAskKey new asking
may_ask {S} {V} old new asking quiet idle by =
    let keeps = order_keeps old new asking by in
    record {
      order = record { asked = asking; told = None };
      is_open = ap (λ (w : View S V). w.council.order) by.view;
      is_for = refl;
      none_open = ap (λ (w : View S V). w.council.exchange) by.view ∙ quiet.exchange;
      idle = record { caller = idle.caller; at_caller = ap (λ (l : List CallerView). slice_get l 0) keeps.callers ∙ idle.at_caller; none_open = idle.none_open };
    }

-- it opens
pub record HasAsked {S V : Type 0} (old : View S V) (question : Question) (new : View S V) : Type 0 where
  pub order : OrderView
  pub was_open : old.council.order ≡ Some order
  pub is_order : new.council.order ≡ Some order
  pub exchange : ExchangeView
  pub is_open : new.council.exchange ≡ Some exchange
  pub same : exchange.question ≡ question
  pub tag : Ballot
  pub plan : new.council.plan ≡ plan_asked question tag old.council.plan
  pub collection : new.council.collection ≡ old.council.collection

pub has_asked : {S V : Type 0} (m : Meaning S V) (old new : View S V) (question : Question) → StepAskAll m old question new → IsSome new.council.exchange → HasAsked old question new
has_asked {S} {V} m old new question by some = by_case by.asks
  where
    not_open : new.council.exchange ≡ None → HasAsked old question new
    not_open none = absurd (cc (subst (λ (o : Option ExchangeView). IsSome o) none some))

    by_case : AsksAll m old question by.desk new → HasAsked old question new
    by_case (council.asks now tag flow up room drawn is_now sends is) = record {
      order = by.may.order;
      was_open = by.may.is_open;
      is_order = ap (λ (w : View S V). w.council.order) is ∙ by.may.is_open;
      exchange = council.new_exchange question tag (council.asked_by old question) (length old.marks) (council.read_era old question);
      is_open = ap (λ (w : View S V). w.council.exchange) is;
      same = refl;
      tag = tag;
      plan = ap (λ (w : View S V). w.council.plan) is;
      collection = ap (λ (w : View S V). w.council.collection) is;
    }
    by_case (council.is_down down is) = not_open (ap (λ (w : View S V). w.council.exchange) is ∙ by.may.none_open)
    by_case (council.is_full up full is) = not_open (ap (λ (w : View S V). w.council.exchange) is ∙ by.may.none_open)
    by_case (council.is_spent now up spent kept is_now is) = not_open (ap (λ (w : View S V). w.council.exchange) is ∙ by.may.none_open)
    by_case (council.fails now up fault is) = not_open (ap (λ (w : View S V). w.council.exchange) is ∙ by.may.none_open)
    by_case (council.no_memory now tag up loss is) = not_open (ap (λ (w : View S V). w.council.exchange) is ∙ by.may.none_open)

-- what a collection asks is of it, and leaves the change of membership
asks_of_it : {collection : CollectionView} {question : Question} → IsQuestionOf collection question → is_of_collection question ≡ true
asks_of_it (collects.tells_ages due is) = ap is_of_collection is
asks_of_it (collects.removes due is) = ap is_of_collection is

plan_stays : {collection : CollectionView} {question : Question} (tag : Ballot) (plan : Option PlanView) → IsQuestionOf collection question → plan ≡ plan_asked question tag plan
plan_stays tag plan (collects.tells_ages due is) = sym (ap (λ (q : Question). plan_asked q tag plan) is)
plan_stays tag plan (collects.removes due is) = sym (ap (λ (q : Question). plan_asked q tag plan) is)

-- the question of the exchange that opens
abbrev pub AsksFor : {S V : Type 0} → View S V → Exchange → Question → Type 0
AsksFor view what.Ages question = is_of_collection question ≡ true
AsksFor view what.Remove question = is_of_collection question ≡ true
AsksFor view what.List question = question ≡ question_in view query.List
AsksFor view (what.Probe key) question = question ≡ Probe key
AsksFor view (what.Read key) question = question ≡ Probe key

pub record HasAskedThis {S V : Type 0} (old : View S V) (exchange : Exchange) (new : View S V) : Type 0 where
  pub question : Question
  pub asks : AsksFor old exchange question
  pub asked : HasAsked old question new

has_asked_of_it : {S V : Type 0} (m : Meaning S V) (old new : View S V) → StepAskCollect m old new → IsSome new.council.exchange → (question : Question) × (is_of_collection question ≡ true) × HasAsked old question new
has_asked_of_it {S} {V} m old new by some = by_case by.asks
  where
    not_open : new.council.exchange ≡ None → (question : Question) × (is_of_collection question ≡ true) × HasAsked old question new
    not_open none = absurd (cc (subst (λ (o : Option ExchangeView). IsSome o) none some))

    by_case : AsksCollect m old by.may.at by.desk new → (question : Question) × (is_of_collection question ≡ true) × HasAsked old question new
    by_case (collects.asks question flow up due room aged sends is) = (
      question,
      asks_of_it due,
      record {
        order = by.may.at.order;
        was_open = by.may.at.is_open;
        is_order = ap (λ (w : View S V). w.council.order) is ∙ by.may.at.is_open;
        exchange = council.new_exchange question (tomb_of by.may.at.collection.tombstone) (everyone old) (length old.marks) None;
        is_open = ap (λ (w : View S V). w.council.exchange) is;
        same = refl;
        tag = tomb_of by.may.at.collection.tombstone;
        plan = ap (λ (w : View S V). w.council.plan) is ∙ plan_stays (tomb_of by.may.at.collection.tombstone) old.council.plan due;
        collection = ap (λ (w : View S V). w.council.collection) is;
      },
    )
    by_case (collects.is_down down is) = not_open (ap (λ (w : View S V). w.council.exchange) is ∙ by.may.none_asked)
    by_case (collects.is_full question up due full is) = not_open (ap (λ (w : View S V). w.council.exchange) is ∙ by.may.none_asked)
    by_case (collects.no_memory up is) = not_open (ap (λ (w : View S V). w.council.exchange) is ∙ by.may.none_asked)

pub has_asked_this : {S V : Type 0} (m : Meaning S V) (old new : View S V) (exchange : Exchange) → Step m old (asking_of old exchange) new → IsSome new.council.exchange → HasAskedThis old exchange new
has_asked_this m old new what.Ages by some = let it = has_asked_of_it m old new by some in record { question = it.0; asks = it.1; asked = it.2 }
has_asked_this m old new what.Remove by some = let it = has_asked_of_it m old new by some in record { question = it.0; asks = it.1; asked = it.2 }
has_asked_this m old new what.List by some = record { question = question_in old query.List; asks = refl; asked = has_asked m old new _ by some }
has_asked_this m old new (what.Probe key) by some = record { question = Probe key; asks = refl; asked = has_asked m old new _ by some }
has_asked_this m old new (what.Read key) by some = record { question = Probe key; asks = refl; asked = has_asked m old new _ by some }

pub is_asking : {S V : Type 0} (old new : View S V) (question : Question) → HasAsked old question new → IsAsking new question
is_asking old new question has = record { order = has.order; is_order = has.is_order; exchange = has.exchange; is_open = has.is_open; same = has.same }

-- it goes on
pub still_asks : {S V : Type 0} (m : Meaning S V) (old new : View S V) (question : Question) (verdict : Verdict) → IsAsking old question → StepTurnExchange m old verdict new → IsAsking new question
still_asks {S} {V} m old new question verdict was by = by_case by.turn
  where
    same_question : by.at.exchange.question ≡ question
    same_question = ap (λ (e : ExchangeView). e.question) (some_is (sym by.at.is_open ∙ was.is_open)) ∙ was.same

    goes_on : (next : ExchangeView) (changed : View S V) → new ≡ changed → changed.council.order ≡ old.council.order → changed.council.exchange ≡ Some next → next.question ≡ by.at.exchange.question → IsAsking new question
    goes_on next changed is order exchange same = record {
      order = was.order;
      is_order = ap (λ (w : View S V). w.council.order) is ∙ order ∙ was.is_order;
      exchange = next;
      is_open = ap (λ (w : View S V). w.council.exchange) is ∙ exchange;
      same = same ∙ same_question;
    }

    by_case : TurnsExchange m old verdict by.front by.at.exchange new → IsAsking new question
    by_case (council.held fall is) = goes_on by.at.exchange old is refl by.at.is_open refl
    by_case (council.gone fall is) = goes_on _ _ is refl refl refl
    by_case (council.answers request acceptor now reply fall front at table is) = goes_on by.at.exchange _ is refl by.at.is_open refl
    by_case (council.finds_down request acceptor fall front at down is) = goes_on _ _ is refl refl refl
    by_case (council.brings_down request acceptor now fall front at stops is) = goes_on _ _ is refl refl refl
    by_case (council.arrives reply fall front to_it is) = goes_on _ _ is refl refl refl

-- no memory: the operator's call was told so
pub told_none : {S V : Type 0} (m : Meaning S V) (old new : View S V) (question : Question) → IsAsking old question → StepRefuseTurnExchange m old new → WasToldOrder new (op.Stopped (answer.NoMemory false))
told_none {S} {V} m old new question was by = record {
  order = told_so (op.Stopped (answer.NoMemory false)) was.order;
  is_open = ap (λ (w : View S V). w.council.order) by.view ∙ ap (λ (c : Council). option_map (told_so (op.Stopped (answer.NoMemory false))) c.order) (no_room m old by.middle by.refuses).1 ∙ ap (option_map (told_so (op.Stopped (answer.NoMemory false)))) was.is_order;
  said = op.Stopped (answer.NoMemory false);
  was_said = refl;
  same = refl;
}

-- ---- it is stopped
stop_told : {S V : Type 0} (view : View S V) (order : Option OrderView) (why : Answer) (answer_ : OpAnswer) → view.council.order ≡ option_map (told_so (op.Stopped why)) order → WasToldOrder view answer_ → IsStopped answer_
stop_told view None why answer_ is was = absurd (cc (sym was.is_open ∙ is))
stop_told view (Some order) why answer_ is was =
    let said_is : op.Stopped why ≡ was.said = some_is (ap (λ (o : OrderView). o.told) (some_is (sym is ∙ was.is_open)) ∙ was.was_said) in
    subst IsStopped (subst (λ (a : OpAnswer). SaysTheSame a answer_) (sym said_is) was.same) tt

-- as nobody is asked
pub asking_stops : {S V : Type 0} (m : Meaning S V) (old new : View S V) (question : Question) (answer_ : OpAnswer) → StepAskAll m old question new → new.council.exchange ≡ None → WasToldOrder new answer_ → IsStopped answer_
asking_stops {S} {V} m old new question answer_ by none was = by_case by.asks
  where
    by_case : AsksAll m old question by.desk new → IsStopped answer_
    by_case (council.asks now tag flow up room drawn is_now sends is) = absurd (cc (sym none ∙ ap (λ (w : View S V). w.council.exchange) is))
    by_case (council.is_down down is) = stop_told new old.council.order _ answer_ (ap (λ (w : View S V). w.council.order) is) was
    by_case (council.is_full up full is) = stop_told new old.council.order _ answer_ (ap (λ (w : View S V). w.council.order) is) was
    by_case (council.is_spent now up spent kept is_now is) = stop_told new old.council.order _ answer_ (ap (λ (w : View S V). w.council.order) is) was
    by_case (council.fails now up fault is) = stop_told new old.council.order _ answer_ (ap (λ (w : View S V). w.council.order) is) was
    by_case (council.no_memory now tag up loss is) = stop_told new old.council.order _ answer_ (ap (λ (w : View S V). w.council.order) is) was

-- a read that goes on is gathered with no listing and no collection
pub may_gather_read : {S V : Type 0} (old turned : View S V) (exchange : Exchange) (key : List ℕ) (question : Question) → exchange ≡ what.Read key → AsksFor old exchange question → IsAsking turned question → (queue_at turned.flow exchange_place).messages ≡ [] → MayGatherMembers turned
may_gather_read old turned exchange key question is asks was none = record {
  order = was.order;
  is_order = was.is_order;
  exchange = was.exchange;
  is_open = was.is_open;
  beside = ap is_of_collection (was.same ∙ subst (λ (e : Exchange). AsksFor old e question) is asks);
  none_waits = none;
}

-- the operator's call stays within its turns
order_by : {S V : Type 0} (old changed new : View S V) → new ≡ changed → changed.council.order ≡ old.council.order → changed.council.plan ≡ old.council.plan → changed.council.collection ≡ old.council.collection → KeepsOrder old new
order_by {S} {V} old changed new is order plan collection = record { order = ap (λ (w : View S V). w.council.order) is ∙ order; plan = ap (λ (w : View S V). w.council.plan) is ∙ plan; collection = ap (λ (w : View S V). w.council.collection) is ∙ collection }

pub same_order : {S V : Type 0} (old : View S V) → KeepsOrder old old
same_order old = record { order = refl; plan = refl; collection = refl }

pub both_orders : {S V : Type 0} (old mid new : View S V) → KeepsOrder old mid → KeepsOrder mid new → KeepsOrder old new
both_orders old mid new before after = record { order = after.order ∙ before.order; plan = after.plan ∙ before.plan; collection = after.collection ∙ before.collection }

pub turn_order : {S V : Type 0} (m : Meaning S V) (old new : View S V) (verdict : Verdict) → StepTurnExchange m old verdict new → KeepsOrder old new
turn_order {S} {V} m old new verdict by = by_case by.turn
  where
    by_case : TurnsExchange m old verdict by.front by.at.exchange new → KeepsOrder old new
    by_case (council.held fall is) = order_by old old new is refl refl refl
    by_case (council.gone fall is) = order_by old _ new is refl refl refl
    by_case (council.answers request acceptor now reply fall front at table is) = order_by old _ new is refl refl refl
    by_case (council.finds_down request acceptor fall front at down is) = order_by old _ new is refl refl refl
    by_case (council.brings_down request acceptor now fall front at stops is) = order_by old _ new is refl refl refl
    by_case (council.arrives reply fall front to_it is) = order_by old _ new is refl refl refl

-- ---- in which era it reads
-- what it is to read, and behind how many marks it asked, stays
abbrev pub ReadsOn : ExchangeView → ExchangeView → Type 0
ReadsOn old new = (new.reads ≡ old.reads) × (new.since ≡ old.since)

turn_reads : {S V : Type 0} (m : Meaning S V) (old new : View S V) (verdict : Verdict) (was now : ExchangeView) → StepTurnExchange m old verdict new → old.council.exchange ≡ Some was → new.council.exchange ≡ Some now → ReadsOn was now
turn_reads {S} {V} m old new verdict was now by was_open is_open = by_case by.turn
  where
    same : by.at.exchange ≡ was
    same = some_is (sym by.at.is_open ∙ was_open)

    goes_on : (next : ExchangeView) (changed : View S V) → new ≡ changed → changed.council.exchange ≡ Some next → next.reads ≡ by.at.exchange.reads → next.since ≡ by.at.exchange.since → ReadsOn was now
    goes_on next changed is exchange reads since =
        let now_is : now ≡ next = some_is (sym is_open ∙ ap (λ (w : View S V). w.council.exchange) is ∙ exchange) in
        (ap (λ (e : ExchangeView). e.reads) now_is ∙ reads ∙ ap (λ (e : ExchangeView). e.reads) same, ap (λ (e : ExchangeView). e.since) now_is ∙ since ∙ ap (λ (e : ExchangeView). e.since) same)

    by_case : TurnsExchange m old verdict by.front by.at.exchange new → ReadsOn was now
    by_case (council.held fall is) = goes_on by.at.exchange old is by.at.is_open refl refl
    by_case (council.gone fall is) = goes_on _ _ is refl refl refl
    by_case (council.answers request acceptor now_ reply fall front at table is) = goes_on by.at.exchange _ is by.at.is_open refl refl
    by_case (council.finds_down request acceptor fall front at down is) = goes_on _ _ is refl refl refl
    by_case (council.brings_down request acceptor now_ fall front at stops is) = goes_on _ _ is refl refl refl
    by_case (council.arrives reply fall front to_it is) = goes_on _ _ is refl refl refl

pub turns_read : {S V : Type 0} (m : Meaning S V) {by : NetworkView} (old : View S V) (was : ExchangeView) {next : NetworkView} {again : Bool} (new : View S V) (now : ExchangeView) → AskTurned m by old next again new → old.council.exchange ≡ Some was → new.council.exchange ≡ Some now → ReadsOn was now
turns_read {S} {V} m old was new now turns.none was_open is_open =
    let same : now ≡ was = some_is (sym is_open ∙ was_open) in
    (ap (λ (e : ExchangeView). e.reads) same, ap (λ (e : ExchangeView). e.since) same)
turns_read {S} {V} m {by} old was new now (one_more {before = before} {between = between} {verdict = verdict} {mid = mid} {near = near} frame turned lets waits decides step) was_open is_open =
    let its : ExchangeView = step.at.exchange in
    let near_mid : near.council ≡ mid.council = (lets_under_way m before between mid near lets).council in
    let mid_open : mid.council.exchange ≡ Some its = sym (ap (λ (c : Council). c.exchange) near_mid) ∙ step.at.is_open in
    let first = turns_read m old was mid its turned was_open mid_open in
    let then_ = turn_reads m near new verdict its now step step.at.is_open is_open in
    (then_.0 ∙ first.0, then_.1 ∙ first.1)

-- as it opens
pub asked_reads : {S V : Type 0} (m : Meaning S V) (old new : View S V) (question : Question) (exchange : ExchangeView) → StepAskAll m old question new → new.council.exchange ≡ Some exchange
    → (exchange.reads ≡ council.read_era old question) × (exchange.since ≡ length old.marks) × (new.marks ≡ old.marks)
asked_reads {S} {V} m old new question exchange by is_open = by_case by.asks
  where
    not_open : new.council.exchange ≡ None → (exchange.reads ≡ council.read_era old question) × (exchange.since ≡ length old.marks) × (new.marks ≡ old.marks)
    not_open none = absurd (cc (sym none ∙ is_open))

    by_case : AsksAll m old question by.desk new → (exchange.reads ≡ council.read_era old question) × (exchange.since ≡ length old.marks) × (new.marks ≡ old.marks)
    by_case (council.asks now tag flow up room drawn is_now sends is) =
        let same : exchange ≡ council.new_exchange question tag (council.asked_by old question) (length old.marks) (council.read_era old question) = some_is (sym is_open ∙ ap (λ (w : View S V). w.council.exchange) is) in
        (ap (λ (e : ExchangeView). e.reads) same, ap (λ (e : ExchangeView). e.since) same, ap (λ (w : View S V). w.marks) is)
    by_case (council.is_down down is) = not_open (ap (λ (w : View S V). w.council.exchange) is ∙ by.may.none_open)
    by_case (council.is_full up full is) = not_open (ap (λ (w : View S V). w.council.exchange) is ∙ by.may.none_open)
    by_case (council.is_spent now up spent kept is_now is) = not_open (ap (λ (w : View S V). w.council.exchange) is ∙ by.may.none_open)
    by_case (council.fails now up fault is) = not_open (ap (λ (w : View S V). w.council.exchange) is ∙ by.may.none_open)
    by_case (council.no_memory now tag up loss is) = not_open (ap (λ (w : View S V). w.council.exchange) is ∙ by.may.none_open)

-- a read is one in the era of proposer 0, and a probe reads nothing
era_of_call : {S V : Type 0} (view : View S V) (what_for : Asked) (key : List ℕ) → MayAskKey view what_for → council.read_era view (Probe key) ≡ (if council.asks_to_read what_for then Some (era_at view 0) else None)
era_of_call view what_for key may =
    ap (λ (o : Option OrderView). if council.reads_by o (Probe key) then Some (era_at view 0) else None) may.is_open ∙ ap (λ (a : Asked). if council.asks_to_read a then Some (era_at view 0) else None) may.is_for

abbrev pub ReadsFor : {S V : Type 0} → View S V → Exchange → View S V → Type 0
ReadsFor old (what.Probe key) turned = (exchange : ExchangeView) → turned.council.exchange ≡ Some exchange → exchange.reads ≡ None
ReadsFor old (what.Read key) turned = (exchange : ExchangeView) → turned.council.exchange ≡ Some exchange → exchange.reads ≡ Some (era_at old 0)
ReadsFor old other turned = ⊤

pub reads_for : {S V : Type 0} (m : Meaning S V) {by next : NetworkView} {again : Bool} (old asked turned : View S V) (exchange : Exchange) → MayAskThis old exchange → Step m old (asking_of old exchange) asked → HasAskedThis old exchange asked → AskTurned m by asked next again turned → ReadsFor old exchange turned
reads_for m old asked turned what.Ages may step has turns = tt
reads_for m old asked turned what.Remove may step has turns = tt
reads_for m old asked turned what.List may step has turns = tt
reads_for m old asked turned (what.Probe key) may step has turns = λ now is_open.
    (turns_read m asked has.asked.exchange turned now turns has.asked.is_open is_open).0 ∙ (asked_reads m old asked (Probe key) has.asked.exchange step has.asked.is_open).0 ∙ era_of_call old _ key may
reads_for m old asked turned (what.Read key) may step has turns = λ now is_open.
    (turns_read m asked has.asked.exchange turned now turns has.asked.is_open is_open).0 ∙ (asked_reads m old asked (Probe key) has.asked.exchange step has.asked.is_open).0 ∙ era_of_call old _ key may

-- it is gathered
pub may_gather : {S V : Type 0} (view : View S V) (question : Question) → IsAsking view question → (queue_at view.flow exchange_place).messages ≡ [] → MayGather view
may_gather view question is none = elim (true_or_false (is_of_collection is.exchange.question)) [
  | inl of_it ↦ world.collected (record { exchange = is.exchange; is_open = is.is_open; asks = of_it; none_waits = none })
  | inr beside ↦ world.members (record { order = is.order; is_order = is.is_order; exchange = is.exchange; is_open = is.is_open; beside = beside; none_waits = none })
]

-- by the step that is for its question
abbrev gathers_at : Bool → Event
gathers_at of_it = if of_it then step.GatherCollect else step.Gather

step_for : {S V : Type 0} (old : View S V) (exchange : Exchange) (question : Question) → AsksFor old exchange question → gathers_at (is_of_collection question) ≡ answers_of exchange
step_for old what.Ages question asks = ap gathers_at asks
step_for old what.Remove question asks = ap gathers_at asks
step_for old what.List question asks = ap (λ (q : Question). gathers_at (is_of_collection q)) asks
step_for old (what.Probe key) question asks = ap (λ (q : Question). gathers_at (is_of_collection q)) asks
step_for old (what.Read key) question asks = ap (λ (q : Question). gathers_at (is_of_collection q)) asks

pub gathered_so : {S V : Type 0} (m : Meaning S V) (old turned new : View S V) (exchange : Exchange) (question : Question) → AsksFor old exchange question → IsAsking turned question → Step m turned (gathering_of turned) new → Step m turned (answers_of exchange) new
gathered_so m old turned new exchange question asks is by =
    subst (λ (e : Event). Step m turned e new) (ap gathering_by is.is_open ∙ ap (λ (q : Question). gathers_at (is_of_collection q)) is.same ∙ step_for old exchange question asks) by

-- the open exchange asks this
asks_this : {S V : Type 0} (view : View S V) (question other : Question) (exchange : ExchangeView) → IsAsking view question → view.council.exchange ≡ Some exchange → exchange.question ≡ other → question ≡ other
asks_this view question other exchange was is_open is = sym was.same ∙ ap (λ (e : ExchangeView). e.question) (some_is (sym was.is_open ∙ is_open)) ∙ is

-- the plan of a listing that begins, or goes on
begun_as : {S V : Type 0} (old asked turned : View S V) (places : List MemberPlace) (has : HasAsked old (NextKeys places) asked) → KeepsOrder asked turned → (plan now : PlanView) → old.council.plan ≡ Some plan → turned.council.plan ≡ Some now → now ≡ listing_begun places has.tag plan
begun_as old asked turned places has keeps plan now was is = some_is (sym is ∙ keeps.plan ∙ has.plan ∙ ap (option_map (listing_begun places has.tag)) was)

-- an exchange of a collection went on with it
confirmed_so : {S V : Type 0} (old asked turned new : View S V) (question : Question) (result : Gathered) → is_of_collection question ≡ true → HasAsked old question asked → KeepsOrder asked turned → IsAsking turned question → HasGathered turned result new → HasConfirmed old result new
confirmed_so old asked turned new question result of_it has keeps was (probed exchange key kept is_open is plain is_probed has_found told) = absurd (cc (of_it, ap is_of_collection (asks_this turned question (Probe key) exchange was is_open is)))
confirmed_so old asked turned new question result of_it has keeps was (world.read exchange key era agreement kept is_open is reads safe is_read has_found agrees told) =
    absurd (cc (of_it, ap is_of_collection (asks_this turned question (Probe key) exchange was is_open is)))
confirmed_so old asked turned new question result of_it has keeps was (lists exchange places plan listing is_open is is_plan came next) = absurd (cc (of_it, ap is_of_collection (asks_this turned question (NextKeys places) exchange was is_open is)))
confirmed_so old asked turned new question result of_it has keeps was (acknowledged collection none is_collection came next) = absurd (cc (sym none ∙ was.is_open))
confirmed_so {S} {V} old asked turned new question result of_it has keeps was (confirmed exchange collection removed kept is_open asks is_collection came next) = record {
  order = has.order;
  was_open = has.was_open;
  goes_on = ap (λ (c : Council). c.order) next ∙ ap (option_map silent_order) (keeps.order ∙ has.is_order);
  over = ap (λ (c : Council). c.exchange) next;
  collection = collection;
  was_collection = sym has.collection ∙ sym keeps.collection ∙ is_collection;
  removed = removed;
  kept = kept;
  is_collection = ap (λ (c : Council). c.collection) next;
  came = came;
}

-- a probe found what the call may tell
found_so : {S V : Type 0} (old turned new : View S V) (key : List ℕ) (question : Question) (result : Gathered) → question ≡ Probe key → IsAsking turned question → ReadsFor old (what.Probe key) turned → HasGathered turned result new → CameOf (what.Probe key) old result new
found_so {S} {V} old turned new key question result asks was none (probed exchange other kept is_open is plain is_probed has_found told) =
    let key_is : key ≡ other = cc (sym asks ∙ asks_this turned question (Probe other) exchange was is_open is) in
    subst (λ (g : Gathered). CameOf (what.Probe key) old g new) (sym is_probed) (subst (λ (k : List ℕ). WasToldOrder new (op.Probed k kept)) (sym key_is) told)
found_so old turned new key question result asks was none (world.read exchange other era agreement kept is_open is reads safe is_read has_found agrees told) = absurd (cc (sym (none exchange is_open) ∙ reads))
found_so old turned new key question result asks was none (lists exchange places plan listing is_open is is_plan came next) = absurd (cc (sym asks ∙ asks_this turned question (NextKeys places) exchange was is_open is))
found_so old turned new key question result asks was none (acknowledged collection none_open is_collection came next) = absurd (cc (sym none_open ∙ was.is_open))
found_so old turned new key question result asks was none (confirmed exchange collection removed kept is_open of_it is_collection came next) =
    absurd (cc (of_it, ap is_of_collection (asks_this turned question exchange.question exchange was is_open refl), ap is_of_collection asks))

-- and a read, with what the members agree on in the era of proposer 0
read_so : {S V : Type 0} (old turned new : View S V) (key : List ℕ) (question : Question) (result : Gathered) → question ≡ Probe key → IsAsking turned question → ReadsFor old (what.Read key) turned → HasGathered turned result new → CameOf (what.Read key) old result new
read_so old turned new key question result asks was its (probed exchange other kept is_open is plain is_probed has_found told) = absurd (cc (sym plain ∙ its exchange is_open))
read_so {S} {V} old turned new key question result asks was its (world.read exchange other era agreement kept is_open is reads safe is_read has_found agrees told) =
    let key_is : key ≡ other = cc (sym asks ∙ asks_this turned question (Probe other) exchange was is_open is) in
    let era_is : era ≡ era_at old 0 = some_is (sym reads ∙ its exchange is_open) in
    subst (λ (g : Gathered). CameOf (what.Read key) old g new) (sym is_read) (record {
      told = subst (λ (k : List ℕ). WasToldOrder new (op.Probed k kept)) (sym key_is) told;
      agrees = subst (λ (e : Era). IsAgreementOf e kept.probes.items agreement) era_is agrees;
    })
read_so old turned new key question result asks was its (lists exchange places plan listing is_open is is_plan came next) = absurd (cc (sym asks ∙ asks_this turned question (NextKeys places) exchange was is_open is))
read_so old turned new key question result asks was its (acknowledged collection none_open is_collection came next) = absurd (cc (sym none_open ∙ was.is_open))
read_so old turned new key question result asks was its (confirmed exchange collection removed kept is_open of_it is_collection came next) =
    absurd (cc (of_it, ap is_of_collection (asks_this turned question exchange.question exchange was is_open refl), ap is_of_collection asks))

-- a listing went on
listed_so : {S V : Type 0} (old asked turned new : View S V) (places : List MemberPlace) (result : Gathered) → MayAskMembers old (NextKeys places) → HasAsked old (NextKeys places) asked → KeepsOrder asked turned → IsAsking turned (NextKeys places) → HasGathered turned result new → HasListed old result new
listed_so old asked turned new places result may has keeps was (probed exchange key kept is_open is plain is_probed has_found told) = absurd (cc (asks_this turned (NextKeys places) (Probe key) exchange was is_open is))
listed_so old asked turned new places result may has keeps was (world.read exchange key era agreement kept is_open is reads safe is_read has_found agrees told) = absurd (cc (asks_this turned (NextKeys places) (Probe key) exchange was is_open is))
listed_so {S} {V} old asked turned new places result may has keeps was (lists exchange other plan listing is_open is is_plan came next) =
    let due = may.is_for.1 in
    let begun : plan ≡ listing_begun places has.tag due.plan = begun_as old asked turned places has keeps due.plan plan due.is_plan is_plan in
    record {
      order = has.order;
      was_open = has.was_open;
      goes_on = ap (λ (c : Council). c.order) next ∙ ap (option_map silent_order) (keeps.order ∙ has.is_order);
      over = ap (λ (c : Council). c.exchange) next;
      plan = due.plan;
      was_plan = due.is_plan;
      listing = listing;
      is_plan = ap (λ (c : Council). c.plan) next ∙ ap (λ (p : PlanView). Some (with_listing p listing)) begun;
      came = came;
    }
listed_so old asked turned new places result may has keeps was (acknowledged collection none is_collection came next) = absurd (cc (sym none ∙ was.is_open))
listed_so old asked turned new places result may has keeps was (confirmed exchange collection removed kept is_open of_it is_collection came next) =
    absurd (cc (of_it, ap is_of_collection (asks_this turned (NextKeys places) exchange.question exchange was is_open refl)))

pub came_of : {S V : Type 0} (old asked turned new : View S V) (exchange : Exchange) (result : Gathered) → MayAskThis old exchange → (has : HasAskedThis old exchange asked) → KeepsOrder asked turned → IsAsking turned has.question → ReadsFor old exchange turned → HasGathered turned result new → CameOf exchange old result new
came_of old asked turned new what.Ages result may has keeps was reads by = confirmed_so old asked turned new has.question result has.asks has.asked keeps was by
came_of old asked turned new what.Remove result may has keeps was reads by = confirmed_so old asked turned new has.question result has.asks has.asked keeps was by
came_of {S} {V} old asked turned new what.List result may has keeps was reads by =
    listed_so old asked turned new _ result may (subst (λ (q : Question). HasAsked old q asked) has.asks has.asked) keeps (subst (IsAsking turned) has.asks was) by
came_of old asked turned new (what.Probe key) result may has keeps was reads by = found_so old turned new key has.question result has.asks was reads by
came_of old asked turned new (what.Read key) result may has keeps was reads by = read_so old turned new key has.question result has.asks was reads by

-- what was found for a key that was probed
pub was_probed : {S V : Type 0} (old new : View S V) (key : List ℕ) (result : Gathered) → CameOf (what.Probe key) old result new → IsProbed result
was_probed old new key (gathered.Probed found) came = tt
was_probed old new key (gathered.Read agreement found) came = absurd came
was_probed old new key gathered.More came = absurd came
was_probed old new key gathered.Listed came = absurd came
was_probed old new key (gathered.All removed kept) came = absurd came

pub told_found : {S V : Type 0} (old new : View S V) (key : List ℕ) (result : Gathered) (found : Probes) → CameOf (what.Probe key) old result new → result ≡ gathered.Probed found → WasToldOrder new (op.Probed key found)
told_found old new key result found came is = subst (λ (g : Gathered). CameOf (what.Probe key) old g new) is came

-- and for one that was read
pub was_read : {S V A : Type 0} (old new : View S V) (key : List ℕ) (result : Gathered) → CameOf (what.Read key) old result new → ((agreement : Agreement) (found : Probes) → result ≡ gathered.Read agreement found → ⊥) → A
was_read old new key (gathered.Read agreement found) came other = absurd (other agreement found refl)
was_read old new key (gathered.Probed found) came other = absurd came
was_read old new key gathered.More came other = absurd came
was_read old new key gathered.Listed came other = absurd came
was_read old new key (gathered.All removed kept) came other = absurd came

-- what goes on is not complete
not_complete : (complete : Bool) → gathered.More ≡ listed_if complete → complete ≡ false
not_complete true is = absurd (cc is)
not_complete false is = refl

-- how much was left as its frames were sent
left_begun : (places : List MemberPlace) (tag : Ballot) (members : List ℕ) (listing : Option ListingView) → places ≡ places_from members listing → keys_left (begun_listing places tag listing).places ≡ keys_left (places_from members listing)
left_begun places tag members None is = ap keys_left is
left_begun places tag members (Some listing) is = refl

-- where it goes on and is not complete, less is left
less_listed : {S V : Type 0} (old asked turned new : View S V) (places : List MemberPlace) (result : Gathered) → MayAskMembers old (NextKeys places) → HasAsked old (NextKeys places) asked → KeepsOrder asked turned → HasListed old result new → result ≡ gathered.More
    → left_to_list new.council.plan < left_to_list turned.council.plan → listing_left new < listing_left old
less_listed {S} {V} old asked turned new places result may has keeps came more less =
    let due = may.is_for.1 in
    let plan_then : turned.council.plan ≡ Some (listing_begun places has.tag due.plan) = keeps.plan ∙ has.plan ∙ ap (option_map (listing_begun places has.tag)) due.is_plan in
    let before : left_to_list turned.council.plan ≡ keys_left (places_from (everyone old) due.plan.listing) = ap left_to_list plan_then ∙ left_begun places has.tag (everyone old) due.plan.listing due.goes_on in
    let at_old : listing_left old ≡ keys_left (places_from (everyone old) due.plan.listing) = ap (λ (p : Option PlanView). keys_left (places_from (everyone old) (listing_in p))) due.is_plan in
    let partial : came.listing.complete ≡ false = not_complete came.listing.complete (sym more ∙ came.came) in
    let plan_now : new.council.plan ≡ Some (record came.plan { listing = Some came.listing }) =
    came.is_plan ∙ ap (λ (c : Bool). Some (if c && (length came.listing.keys == 0) then stepped came.plan else record came.plan { listing = Some came.listing })) partial in
    let at_new : listing_left new ≡ keys_left came.listing.places = ap (λ (p : Option PlanView). keys_left (places_from (everyone new) (listing_in p))) plan_now in
    let after : left_to_list new.council.plan ≡ keys_left came.listing.places = ap left_to_list plan_now in
    omega (arith, less, before, at_old, at_new, after)

pub less_left : {S V : Type 0} (old asked turned new : View S V) (exchange : Exchange) (result : Gathered) → MayAskThis old exchange → HasAskedThis old exchange asked → KeepsOrder asked turned → CameOf exchange old result new → result ≡ gathered.More
    → left_to_list new.council.plan < left_to_list turned.council.plan → listing_left new < listing_left old
less_left old asked turned new (what.Probe key) result may has keeps came more less = absurd (subst (λ (g : Gathered). CameOf (what.Probe key) old g new) more came)
less_left old asked turned new (what.Read key) result may has keeps came more less = absurd (subst (λ (g : Gathered). CameOf (what.Read key) old g new) more came)
less_left old asked turned new what.Ages result may has keeps came more less = absurd (cc (sym more ∙ came.came))
less_left old asked turned new what.Remove result may has keeps came more less = absurd (cc (sym more ∙ came.came))
less_left old asked turned new what.List result may has keeps came more less =
    less_listed old asked turned new _ result may (subst (λ (q : Question). HasAsked old q asked) has.asks has.asked) keeps came more less

-- the call is over
pub quiet_after : {S V : Type 0} (old new : View S V) (told : OpAnswer) → StepTell old told new → IsAtRest new.council
quiet_after {S} {V} old new told (council.tells order said is_open was_told same is) = record { order = ap (λ (w : View S V). w.council.order) is; exchange = ap (λ (w : View S V). w.council.exchange) is }
quiet_after {S} {V} old new told (council.finishes order is_open by is) = record { order = ap (λ (w : View S V). w.council.order) is; exchange = ap (λ (w : View S V). w.council.exchange) is }
quiet_after {S} {V} old new told (council.collects order is_open by is) = record { order = ap (λ (w : View S V). w.council.order) is; exchange = ap (λ (w : View S V). w.council.exchange) is }

-- ---- its frames are those of proposer 0
module _ {S V : Type 0} (m : Meaning S V) (old new : View S V) (question : Question) (is : IsAsking old question) where
  pub as_ask_turn : (verdict : Verdict) → Step m old (turn_of old 0 verdict) new → StepTurnExchange m old verdict new
  as_ask_turn verdict by = subst (λ (o : Option ExchangeView). Step m old (if asks_as o 0 then step.TurnExchange verdict else step.Turn 0 verdict) new) is.is_open by

  pub as_ask_refusal : Step m old (refusal_of old 0) new → StepRefuseTurnExchange m old new
  as_ask_refusal by = subst (λ (o : Option ExchangeView). Step m old (if asks_as o 0 then step.RefuseTurnExchange else step.RefuseTurn 0) new) is.is_open by

pub ask_front : {S V : Type 0} (view : View S V) (question : Question) {front : Option (Leg × ℕ)} → IsAsking view question → front ≡ option_map head_of (slice_get (queue_at view.flow (place_of view 0)).messages 0)
    → front ≡ option_map head_of (slice_get (queue_at view.flow exchange_place).messages 0)
ask_front view question {front} is shown = subst (λ (o : Option ExchangeView). front ≡ option_map head_of (slice_get (queue_at view.flow (if asks_as o 0 then exchange_place else 0)).messages 0)) is.is_open shown

-- a frame that is not held back leaves fewer turns
pub ask_turn_fewer : {S V : Type 0} (m : Meaning S V) (old new : View S V) (verdict : Verdict) → verdict ≢ Hold → StepTurnExchange m old verdict new → turns_left new exchange_place < turns_left old exchange_place
ask_turn_fewer {S} {V} m old new verdict free by = in_turn by.turn
  where
    in_turn : TurnsExchange m old verdict by.front by.at.exchange new → turns_left new exchange_place < turns_left old exchange_place
    in_turn (council.held fall is) = absurd (not_held (queue_at old.flow exchange_place).again verdict free fall)
    in_turn (council.gone fall is) = fewer_taken old.flow new.flow exchange_place verdict by.front by.waits free (ap (λ (w : View S V). w.flow) is)
    in_turn (council.answers request acceptor now reply fall front at table is) = fewer_answered old.flow new.flow exchange_place verdict request reply (by.waits ∙ ap (λ (x : Message). Some x) front) fall (ap (λ (w : View S V). w.flow) is)
    in_turn (council.finds_down request acceptor fall front at down is) = fewer_taken old.flow new.flow exchange_place verdict by.front by.waits free (ap (λ (w : View S V). w.flow) is)
    in_turn (council.brings_down request acceptor now fall front at stops is) = fewer_taken old.flow new.flow exchange_place verdict by.front by.waits free (ap (λ (w : View S V). w.flow) is)
    in_turn (council.arrives reply fall front to_it is) = fewer_taken old.flow new.flow exchange_place verdict by.front by.waits free (ap (λ (w : View S V). w.flow) is)

-- a late frame that strays in leaves all that the operator has under way
module _ {S V : Type 0} (mid near : View S V) (keeps : KeepsUnderWay mid near) where
  pub near_calls : KeepsCalls mid near
  near_calls = record { last_proposer = keeps.last_proposer; callers = keeps.callers }

  pub near_order : KeepsOrder mid near
  near_order = record { order = ap (λ (c : Council). c.order) keeps.council; plan = ap (λ (c : Council). c.plan) keeps.council; collection = ap (λ (c : Council). c.collection) keeps.council }

  pub near_asks : (question : Question) → IsAsking mid question → IsAsking near question
  near_asks question was = record {
    order = was.order;
    is_order = ap (λ (c : Council). c.order) keeps.council ∙ was.is_order;
    exchange = was.exchange;
    is_open = ap (λ (c : Council). c.exchange) keeps.council ∙ was.is_open;
    same = was.same;
  }

-- of the frame became what the network decided
pub ask_turned_more : {S V : Type 0} (m : Meaning S V) (old mid near new : View S V) {by before between after : NetworkView} {again : Bool} {verdict : Verdict} (front : Option (Leg × ℕ)) (leg : Leg) (peer : ℕ) → front ≡ option_map head_of (slice_get (queue_at mid.flow exchange_place).messages 0) → front ≡ Some (leg, peer)
    → KeepsUnderWay mid near → AskTurned m by old before again mid → LetsStrayIn m before mid between near → DecidesVerdict (leg, peer) between again verdict after → StepTurnExchange m near verdict new → AskTurned m by old after (is_to_repeat again verdict) new
ask_turned_more m old mid near new {between = between} {after = after} {again = again} {verdict = verdict} front leg peer shown is keeps turned lets decides by =
    let one = front_of (queue_at mid.flow exchange_place).messages front leg peer shown is in
    one_more one.frame turned lets (waits_near mid near exchange_place keeps one.at) (subst (λ (h : Leg × ℕ). DecidesVerdict h between again verdict after) (sym one.head) decides) by

-- no memory was found for its turn
pub ask_turn_refused : {S V : Type 0} (m : Meaning S V) (old mid near new : View S V) {by before between after : NetworkView} {again : Bool} {verdict : Verdict} (front : Option (Leg × ℕ)) (leg : Leg) (peer : ℕ) → front ≡ option_map head_of (slice_get (queue_at mid.flow exchange_place).messages 0) → front ≡ Some (leg, peer)
    → KeepsUnderWay mid near → AskTurned m by old before again mid → LetsStrayIn m before mid between near → DecidesVerdict (leg, peer) between again verdict after → StepRefuseTurnExchange m near new → BreaksOffAsking m by old after new
ask_turn_refused m old mid near new {before = before} {between = between} {after = after} {again = again} {verdict = verdict} front leg peer shown is keeps turned lets decides by =
    let one = front_of (queue_at mid.flow exchange_place).messages front leg peer shown is in
    record {
      before = before;
      again = again;
      mid = mid;
      turned = turned;
      between = between;
      near = near;
      lets_in = lets;
      frame = one.frame;
      waits = waits_near mid near exchange_place keeps one.at;
      verdict = verdict;
      decides = subst (λ (h : Leg × ℕ). DecidesVerdict h between again verdict after) (sym one.head) decides;
      fails = by;
    }

-- ---- a listing
-- what the operator's call asks for is under way, and its era is to be settled
pub may_list : {S V : Type 0} (view : View S V) (asked : Asked) → IsUnderWay view asked → IsFree view → step_of view.council.plan ≡ Some Settle → IsPartial view.council.plan → MayAskMembers view (question_in view query.List)
may_list view asked was free settles partial = record {
  order = was.order;
  is_open = was.is_open;
  is_for = (
    refl,
    record {
      plan = was.plan.open_plan;
      is_plan = was.plan.is_open;
      is_for = was.plan.same ∙ sym was.is_for;
      settles = some_is (sym (ap step_of was.plan.is_open) ∙ settles);
      partial = λ listing is. partial.partial was.plan.open_plan listing was.plan.is_open is;
      goes_on = ap (λ (p : Option PlanView). places_from (everyone view) (listing_in p)) was.plan.is_open;
    },
  );
  none_open = free.quiet;
  idle = free.idle;
}

-- where none is complete no key is due
pub none_due : (plan : Option PlanView) → IsPartial plan → due_in plan ≡ None
none_due None partial = refl
none_due (Some plan) partial = by_step (next_of plan.progress.left)
  where
    by_listing : (listing : Option ListingView) → plan.listing ≡ listing → first_of listing ≡ None
    by_listing None is = refl
    by_listing (Some listing) is = ap (λ (c : Bool). if c then slice_get listing.keys 0 else None) (partial.partial plan listing refl is)

    by_step : (step : PlanStep) → first_where step plan.listing ≡ None
    by_step Settle = by_listing plan.listing refl
    by_step (Enter era) = refl
    by_step Finished = refl

-- the call goes on after it, and no more steps are left
pub record CallHasGoneOn {S V : Type 0} (old new : View S V) : Type 0 where
  pub under_way : (asked : Asked) → IsUnderWay old asked → IsUnderWay new asked
  pub no_more : steps_left new ≤ steps_left old

pub has_gone_on : {S V : Type 0} (old new : View S V) (result : Gathered) → HasListed old result new → CallHasGoneOn old new
has_gone_on {S} {V} old new result came = record {
  under_way = λ asked was. record {
    order = silent_order came.order;
    is_open = came.goes_on;
    is_for = ap (λ (o : OrderView). o.asked) (some_is (sym came.was_open ∙ was.is_open)) ∙ was.is_for;
    untold = refl;
    plan = record { open_plan = with_listing came.plan came.listing; is_open = came.is_plan; same = with_asked came.plan came.listing ∙ ap (λ (p : PlanView). p.asked) (some_is (sym came.was_plan ∙ was.plan.is_open)) ∙ was.plan.same };
  };
  no_more = omega (arith, no_more_by (came.listing.complete && (length came.listing.keys == 0)), ap left_of came.is_plan, ap left_of came.was_plan);
}
  where
    no_more_by : (b : Bool) → left_of (Some (if b then stepped came.plan else record came.plan { listing = Some came.listing })) ≤ left_of (Some came.plan)
    no_more_by true = omega (arith, length-drop 1 came.plan.progress.left)
    no_more_by false = omega arith

-- it is not complete: the era is still to be settled
pub still_partial : {S V : Type 0} (old new : View S V) → HasListed old gathered.More new → step_of old.council.plan ≡ Some Settle → (step_of new.council.plan ≡ Some Settle) × IsPartial new.council.plan
still_partial {S} {V} old new came settles = (
  ap step_of plan_now ∙ sym (ap step_of came.was_plan) ∙ settles,
  record { partial = λ plan listing is_plan is. ap (λ (l : ListingView). l.complete) (some_is (sym is ∙ ap (λ (p : PlanView). p.listing) (some_is (sym is_plan ∙ plan_now)))) ∙ partial },
)
  where
    partial : came.listing.complete ≡ false
    partial = not_complete came.listing.complete came.came

    plan_now : new.council.plan ≡ Some (record came.plan { listing = Some came.listing })
    plan_now = came.is_plan ∙ ap (λ (c : Bool). Some (if c && (length came.listing.keys == 0) then stepped came.plan else record came.plan { listing = Some came.listing })) partial

-- it is complete: a key is due, or the era is settled
complete_then : (complete : Bool) → gathered.Listed ≡ listed_if complete → complete ≡ true
complete_then true is = refl
complete_then false is = absurd (cc is)

pub takes_step : {S V : Type 0} (old new : View S V) → HasListed old gathered.Listed new → step_of old.council.plan ≡ Some Settle → TakesStep old new
takes_step {S} {V} old new came settles =
    let so : SettlesEra came.plan (with_listing came.plan came.listing) came.listing = settles_by came.plan came.listing (some_is (sym (ap step_of came.was_plan) ∙ settles)) (complete_then came.listing.complete came.came) in
    elim so.takes [
      | inl less ↦ inl (omega (arith, less, ap left_of came.is_plan, ap left_of came.was_plan))
      | inr due ↦ inr (subst (λ (p : Option PlanView). IsSome (due_in p)) (sym came.is_plan) due)
    ]

-- what came of a listing is no probe, and is either
pub not_probed : {S V A : Type 0} (old new : View S V) (found : Probes) → HasListed old (gathered.Probed found) new → A
not_probed {A = A} old new found came = by_complete came.listing.complete came.came
  where
    by_complete : (c : Bool) → gathered.Probed found ≡ listed_if c → A
    by_complete true is = absurd (cc is)
    by_complete false is = absurd (cc is)

not_read : {S V A : Type 0} (old new : View S V) (agreement : Agreement) (found : Probes) → HasListed old (gathered.Read agreement found) new → A
not_read {A = A} old new agreement found came = by_complete came.listing.complete came.came
  where
    by_complete : (c : Bool) → gathered.Read agreement found ≡ listed_if c → A
    by_complete true is = absurd (cc is)
    by_complete false is = absurd (cc is)

not_all : {S V A : Type 0} (old new : View S V) (removed kept : ℕ) → HasListed old (gathered.All removed kept) new → A
not_all {A = A} old new removed kept came = by_complete came.listing.complete came.came
  where
    by_complete : (c : Bool) → gathered.All removed kept ≡ listed_if c → A
    by_complete true is = absurd (cc is)
    by_complete false is = absurd (cc is)

-- what does not go on is complete
pub is_whole : {S V : Type 0} (old new : View S V) (result : Gathered) → HasListed old result new → (result ≡ gathered.More → ⊥) → HasListed old gathered.Listed new
is_whole old new (gathered.Probed found) came other = not_probed old new found came
is_whole old new (gathered.Read agreement found) came other = not_read old new agreement found came
is_whole old new gathered.More came other = absurd (other refl)
is_whole old new gathered.Listed came other = came
is_whole old new (gathered.All removed kept) came other = not_all old new removed kept came
