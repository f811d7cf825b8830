-- What a hold does for a change of membership, but for the calls that propose keys anew.
use Rattle.std.proofs.Common.{◌≡◌, ◌≢◌, ℕ, zero, suc, Bool, true, false, if◌then◌else◌, List, [], ◌∷◌, ◌++◌, length, Option, None, Some, IsSome, is_some, option_map, slice_get, inl, inr, refl, sym, ap, ap₂, subst, ◌∙◌, append-nil, arith}
use Rattle.std.specs.Prelude.{◌⊎◌, ◌&&◌, ◌==◌, All, IfNone}
use Rattle.cas_fate.specs.declared.fate.Leg.{Leg}
use Rattle.cas_flow.specs.Message.{head_of}
use Rattle.cas_board_steps.proofs.Calls.Stages.{some_waits, none_waits}
use Rattle.std.proofs.lemmas.List.Elements.{All-nil, All-weaker}
use Rattle.cas_fate.specs.declared.fate.Verdict.{Verdict}
use Rattle.cas_flow.specs.Flow.{queue_at}
use Rattle.cas_members.specs.declared.plan.PlanStep.TheVariants.{Settle}
use Rattle.cas_proposer.specs.Desk.{DeskView}
use Rattle.cas_quorum.specs.declared.era.Era.{Era}
use Rattle.cas_record.specs.declared.answer.Answer.{Answer}
use Rattle.cas_record.specs.declared.answer.Answer.TheVariants as answer
use Rattle.cas_record.specs.declared.answer.Cause.TheVariants as cause
use Rattle.cas_record.specs.declared.mark.Mark.{Mark}
use Rattle.cas_record.specs.declared.mark.Mark.TheVariants.{Begun, Proposed, Voted, Acked, Floor, EraEntered, Ended, Harmed, Told}
use Rattle.cas_record.specs.declared.operator.Asked.{Asked}
use Rattle.cas_record.specs.declared.operator.Asked.TheVariants as asked
use Rattle.cas_record.specs.declared.operator.OpAnswer.{OpAnswer}
use Rattle.cas_record.specs.declared.operator.OpAnswer.TheVariants as op
use Rattle.cas_world_calls.specs.declared.council.Gathered.{Gathered}
use Rattle.cas_world_calls.specs.declared.council.Query.TheVariants as query
use Rattle.cas_model.specs.Council.{Council, ExchangeView, ListingView, MemberPlace, OrderView, PlanView, Question, NextKeys, exchange_place, broken_off, stepped, told_so, silent_order, with_listing}
use Rattle.cas_model.specs.Safe.{is_of_collection}
use Rattle.cas_model.specs.Step as step
use Rattle.cas_model.specs.Step.{Step}
use Rattle.cas_model.specs.Exchanges.Step as council
use Rattle.cas_model.specs.Exchanges.Step.{finished, IsFinishedBy, StepTell, StepAskAll, AsksAll, StepTurnExchange, StepRefuseTurnExchange, StepGather, Gathers, StepRefuseKey, SaysTheSame, everyone, listing_begun, told_marks}
use Rattle.cas_model.specs.Calls.Desks.{EntersEra, FailsToEnter}
use Rattle.cas_model.specs.Eras.Step as plans
use Rattle.cas_model.specs.Eras.Step.{StepOpenPlan, OpensPlan, Welcomes, StepEnterEra, EntersNext}
use Rattle.cas_model.specs.Stops.Step as stops
use Rattle.cas_model.specs.Stops.Step.{GoesDown}
use Rattle.cas_model.specs.View.{Meaning, View, CallerView, IsAt, with_desk}
use Rattle.cas_proposer.specs.declared.round.Round.{Round}
use Rattle.cas_turn.specs.Seen.{OnlyOwnedBy}
use Rattle.cas_board_steps.specs.Owners.{owner_of, MayAdd}
use Rattle.cas_board_steps.proofs.Calls.Acts.{Acts, spares_same, kept_by, staged_same}
use Rattle.cas_board_steps.proofs.Calls.Events.{only_one, desks_set}
use Rattle.cas_model.proofs.Places.{some_is, at_one, at_set}
use Rattle.cas_world.specs.Exchanges.Exchange as world
use Rattle.cas_world.specs.Exchanges.Exchange.{MayAskMembers, MayGather, HasGathered, WasToldOrder, asks_as, place_of, turn_of, refusal_of, gathering_by, gathering_of, question_in}
use Rattle.cas_world.specs.declared.plans.Target.{Target}
use Rattle.cas_world.specs.declared.plans.Target.TheVariants as target
use Rattle.cas_world.specs.Eras.Plans.{asked_of, HasFinished, IsFor, IsUnderWay, IsPartial, MayEnterNext, MayOpenPlan, entrant_of, rescanned_of, step_of}
use Rattle.cas_model.specs.Eras.Course.{next_era}
use Rattle.cas_model_causes.specs.Eras.Tellings.{IsPassing}
use Rattle.cas_board_steps.specs.Calls.Changes.{harm_by}
use Rattle.cas_board_steps.specs.Kept.{IsKept, Makes}
use Rattle.cas_board_steps.specs.Eras.Membership.{HasPlan, HasListing, IsPlanMark, IsMembersAnswer}
use Rattle.cas_board_steps.specs.Mine.{mine, losses, done_calls, wanted_by}
use Rattle.cas_board_steps.specs.Exchanges.Orders.{new_order, HasOrder, OperatesIn, IsToldIn, IsAskingHarm}
use Rattle.cas_board_steps.specs.OwnParts.{exchange_part, harms_part, question_part, order_part, plan_part, caller_part, own_part}
use Rattle.cas_board_steps.proofs.Eras.Counting.{after_same, begun_same, counts_still, end_counts, harms_undone, listed_same, risen_by, told_counts}
use Rattle.cas_board_steps.proofs.Closing.{ClosesRound, closes_round, kept_marked}
use Rattle.cas_board_steps.proofs.Exchanges.Councils.{is_ordered, IsOrderedOnBoard, none_beside, own_is_council, order_told, no_exchange, exchange_told, plan_told, listing_told}
use Rattle.cas_board_steps.proofs.Calls.Holds.{Held}
use Rattle.cas_board_steps.proofs.Exchanges.Operating.{LeavesOtherCalls, leaves_then, leaves_desks, leaves_others, OwnStep, own_step_then, quiet_own_step, tells_after, tells_in, told_may_add, operates, turns_asking, own_kept, refuses_asking, refusal_planned, says_same, turns_planned, was_told_so}
use Rattle.cas_board_steps.proofs.Exchanges.Probes.{no_call_at}

-- ---- what its own part tells
pub record IsChanging {S V : Type 0} (view : View S V) (asked : Asked) : Type 0 where
  pub no_call : (caller : CallerView) → IsAt view.callers 0 caller → caller.call ≡ None
  pub order : view.council.order ≡ Some (new_order asked)
  pub unasked : view.council.exchange ≡ None
  pub plan : PlanView
  pub is_plan : view.council.plan ≡ Some plan
  pub is_for : plan.asked ≡ asked

pub has_plan : {S V : Type 0} (view : View S V) (asked : Asked) → IsChanging view asked → HasPlan asked (own_part view 0)
has_plan view asked is = record { council = view.council; is = own_is_council view is.no_call; order = is.order; unasked = is.unasked; plan = is.plan; is_plan = is.is_plan; is_for = is.is_for }

pub is_changing : {S V : Type 0} (view : View S V) (asked : Asked) → HasPlan asked (own_part view 0) → IsChanging view asked
is_changing view asked has =
    let it = none_beside view has.council has.is in
    let p = plan_told view.council.plan has.plan (it.like.plan ∙ ap plan_part has.is_plan) in
    record {
      no_call = it.no_call;
      order = order_told view.council.order asked (it.like.order ∙ ap order_part has.order);
      unasked = no_exchange view.council.exchange (it.like.exchange ∙ ap exchange_part has.unasked);
      plan = p.now;
      is_plan = p.is_plan;
      is_for = p.asked ∙ has.is_for;
    }

pub record IsListing {S V : Type 0} (view : View S V) (asked : Asked) : Type 0 where
  pub no_call : (caller : CallerView) → IsAt view.callers 0 caller → caller.call ≡ None
  pub order : view.council.order ≡ Some (new_order asked)
  pub exchange : ExchangeView
  pub is_open : view.council.exchange ≡ Some exchange
  pub places : List MemberPlace
  pub question : exchange.question ≡ NextKeys places
  pub plan : PlanView
  pub is_plan : view.council.plan ≡ Some plan
  pub is_for : plan.asked ≡ asked

pub has_listing : {S V : Type 0} (view : View S V) (asked : Asked) → IsListing view asked → HasListing asked (own_part view 0)
has_listing view asked is = record { council = view.council; is = own_is_council view is.no_call; order = is.order; exchange = is.exchange; is_open = is.is_open; places = is.places; question = is.question; plan = is.plan; is_plan = is.is_plan; is_for = is.is_for }

pub is_listing : {S V : Type 0} (view : View S V) (asked : Asked) → HasListing asked (own_part view 0) → IsListing view asked
is_listing view asked has =
    let it = none_beside view has.council has.is in
    let p = plan_told view.council.plan has.plan (it.like.plan ∙ ap plan_part has.is_plan) in
    let x = exchange_told view.council.exchange has.exchange (it.like.exchange ∙ ap exchange_part has.is_open) in
    let q = listing_told x.now.question (x.question ∙ ap question_part has.question) in
    record {
      no_call = it.no_call;
      order = order_told view.council.order asked (it.like.order ∙ ap order_part has.order);
      exchange = x.now;
      is_open = x.is_open;
      places = q.0;
      question = q.1;
      plan = p.now;
      is_plan = p.is_plan;
      is_for = p.asked ∙ has.is_for;
    }

-- a call that is under way for this
under_way : {S V : Type 0} (view : View S V) (asked : Asked) → ((caller : CallerView) → IsAt view.callers 0 caller → caller.call ≡ None) → view.council.exchange ≡ None → IsUnderWay view asked → IsChanging view asked
under_way view asked none unasked is = record {
  no_call = none;
  order = is.is_open ∙ ap₂ (λ (a : Asked) (t : Option OpAnswer). Some (record { asked = a; told = t })) is.is_for is.untold;
  unasked = unasked;
  plan = is.plan.open_plan;
  is_plan = is.plan.is_open;
  is_for = is.plan.same;
}

-- ---- marks
harm_of_rescan : (mark : Mark) → IsAskingHarm mark → IsPlanMark mark
harm_of_rescan (Harmed caller call down) is = tt
harm_of_rescan (Begun caller call key program) is = absurd is
harm_of_rescan (Proposed p) is = absurd is
harm_of_rescan (Voted acceptor key ballot) is = absurd is
harm_of_rescan (Acked a) is = absurd is
harm_of_rescan (Floor key ballot state) is = absurd is
harm_of_rescan (EraEntered proposer number) is = absurd is
harm_of_rescan (Ended caller call rounds told) is = absurd is
harm_of_rescan (Told asked told) is = absurd is

pub harms_of_rescan : (marks : List Mark) → All IsAskingHarm marks → All IsPlanMark marks
harms_of_rescan marks all = All-weaker IsAskingHarm IsPlanMark harm_of_rescan marks all

-- ---- what is told on the way
-- it is told of a change of membership, and that it is not at its end
abbrev IsMidway : Asked → OpAnswer → Type 0
IsMidway asked told = IsMembersAnswer asked told × IsPassing told

-- ---- it is taken up
-- it is under way already
pub up_already : {S V : Type 0} (view : View S V) (asked : Asked) → HasOrder asked (own_part view 0) → IsFor view.council.plan asked → HasPlan asked (own_part view 0)
up_already view asked has for_it =
    let is = is_ordered view asked has in
    has_plan view asked (record { no_call = is.no_call; order = is.order; unasked = is.exchange; plan = for_it.open_plan; is_plan = for_it.is_open; is_for = for_it.same })

-- the order stays, or was told something that may be told
record OpensOrTells {S V : Type 0} (old new : View S V) (asked : Asked) : Type 0 where
  leaves : LeavesOtherCalls old new []
  unasked : new.council.exchange ≡ None
  tells : (told : OpAnswer) → WasToldOrder new told → (order : OrderView) × (new.council.order ≡ Some order) × (order.asked ≡ asked) × IsMidway asked told
  planned : rescanned_of new.council.plan ≡ rescanned_of old.council.plan

welcomed : {S V : Type 0} (m : Meaning S V) (old middle : View S V) (asked : Asked) → Welcomes m old asked middle → LeavesOtherCalls old middle [] × (middle.council ≡ old.council)
welcomed {S} {V} m old middle asked (plans.starts id acceptor now is_join at starts_ is) = (leaves_desks old _ middle [] is refl refl refl (sym (append-nil old.marks)), ap (λ (w : View S V). w.council) is)
welcomed {S} {V} m old middle asked (plans.fails id acceptor now is_join at fails_ is) = (leaves_desks old _ middle [] is refl refl refl (sym (append-nil old.marks)), ap (λ (w : View S V). w.council) is)
welcomed {S} {V} m old middle asked (plans.is_up id acceptor is_join at up is) = (leaves_desks old old middle [] is refl refl refl (sym (append-nil old.marks)), ap (λ (w : View S V). w.council) is)
welcomed {S} {V} m old middle asked (plans.stays joins_none is) = (leaves_desks old old middle [] is refl refl refl (sym (append-nil old.marks)), ap (λ (w : View S V). w.council) is)

told_then : {S V : Type 0} (old middle new : View S V) (asked : Asked) (said : OpAnswer) → LeavesOtherCalls old middle [] → (middle.council ≡ old.council) → old.council.order ≡ Some (new_order asked) → old.council.exchange ≡ None → new ≡ council.told_view middle said
    → ((told : OpAnswer) → SaysTheSame said told → IsMidway asked told) → OpensOrTells old new asked
told_then {S} {V} old middle new asked said left same order unasked is answers =
    let order_now : new.council.order ≡ Some (told_so said (new_order asked)) = ap (λ (w : View S V). w.council.order) is ∙ ap (λ (k : Council). option_map (told_so said) k.order) same ∙ ap (option_map (told_so said)) order in
    record {
      leaves = leaves_then old middle new [] [] left (leaves_desks middle (council.told_view middle said) new [] is refl refl refl (sym (append-nil middle.marks)));
      unasked = ap (λ (w : View S V). w.council.exchange) is ∙ ap (λ (k : Council). k.exchange) same ∙ unasked;
      tells = λ told was. (told_so said (new_order asked), order_now, refl, answers told (says_same new (new_order asked) said told order_now was));
      planned = ap (λ (w : View S V). rescanned_of w.council.plan) is ∙ ap (λ (k : Council). rescanned_of k.plan) same;
    }

same_view : {S V : Type 0} (view : View S V) → LeavesOtherCalls view view []
same_view view = leaves_desks view view view [] refl refl refl refl (sym (append-nil view.marks))

opens_or_tells : {S V : Type 0} (m : Meaning S V) (old new : View S V) (asked : Asked) → IsOrderedOnBoard old asked → StepOpenPlan m old new → OpensOrTells old new asked
opens_or_tells {S} {V} m old new asked was by = by_case by.opens
  where
    asks : by.order.asked ≡ asked
    asks = ap (λ (o : OrderView). o.asked) (some_is (sym by.is_open ∙ was.order))

    by_case : OpensPlan m old by.order.asked by.desk new → OpensOrTells old new asked
    by_case (plans.is_down down is) = told_then old old new asked (op.Stopped answer.Down) (same_view old) refl was.order was.exchange is (λ told same. subst (IsMidway asked) same (tt, tt))
    by_case (plans.is_busy plan up is_plan is) = told_then old old new asked (op.Busy _) (same_view old) refl was.order was.exchange is (λ told same. subst (IsMidway asked) same (tt, tt))
    by_case (plans.refuses fault up none planned is) = told_then old old new asked (op.Refused fault) (same_view old) refl was.order was.exchange is (λ told same. subst (IsMidway asked) same (tt, tt))
    by_case (plans.no_memory progress middle up none planned welcomes is) =
        let w = welcomed m old middle by.order.asked welcomes in
        told_then old middle new asked (op.Stopped (answer.NoMemory false)) w.0 w.1 was.order was.exchange is (λ told same. subst (IsMidway asked) same (tt, tt))
    by_case (plans.opens progress middle up none planned welcomes is) =
        let w = welcomed m old middle by.order.asked welcomes in
        let order_now : new.council.order ≡ Some (silent_order (new_order asked)) = ap (λ (v : View S V). v.council.order) is ∙ ap (λ (k : Council). option_map silent_order k.order) w.1 ∙ ap (option_map silent_order) was.order in
        record {
          leaves = leaves_then old middle new [] [] w.0 (leaves_desks middle _ new [] is refl refl refl (sym (append-nil middle.marks)));
          unasked = ap (λ (v : View S V). v.council.exchange) is ∙ ap (λ (k : Council). k.exchange) w.1 ∙ was.exchange;
          tells = λ told said. absurd (cc (sym (ap (λ (o : OrderView). o.told) (some_is (sym said.is_open ∙ order_now))) ∙ said.was_said));
          planned = ap (λ (v : View S V). rescanned_of v.council.plan) is ∙ sym (ap rescanned_of none);
        }

pub open_held : {S V : Type 0} (m : Meaning S V) (old new : View S V) (asked : Asked) → HasOrder asked (own_part old 0) → IsKept old → StepOpenPlan m old new → IsUnderWay new asked → Held old new (Makes 0 old new [] × HasPlan asked (own_part new 0) × (rescanned_of new.council.plan ≡ rescanned_of old.council.plan))
open_held m old new asked has kept by up =
    let was = is_ordered old asked has in
    let opens = opens_or_tells m old new asked was by in
    let own_step = quiet_own_step old new opens.leaves kept was.no_call in
    record { does = (own_step.makes, has_plan new asked (under_way new asked own_step.none opens.unasked up), opens.planned); kept = own_step.kept; last_proposer = own_step.last_proposer }

pub open_told : {S V : Type 0} (m : Meaning S V) (old mid new : View S V) (asked : Asked) (told : OpAnswer) → HasOrder asked (own_part old 0) → IsKept old → StepOpenPlan m old mid → WasToldOrder mid told → StepTell mid told new
    → Held old new (IsToldIn asked IsPlanMark 0 old new told × IsMembersAnswer asked told)
open_told m old mid new asked told has kept by said ends =
    let was = is_ordered old asked has in
    let opens = opens_or_tells m old mid asked was by in
    let tells = opens.tells told said in
    let held = tells_in IsPlanMark 0 old mid new asked told tells.0 opens.leaves tells.1 tells.2 ends kept was.no_call
    (λ enters. told_counts asked told tells.0 mid new tells.1 tells.2 ends old tells.3.1 (counts_still old mid [] opens.leaves.made refl opens.planned)) (λ not. absurd (not (λ p e. tt))) in
    record { does = (held.does, tells.3.0); kept = held.kept; last_proposer = held.last_proposer }

-- ---- a proposer enters the next era
only_entered : (proposer number : ℕ) → OnlyOwnedBy owner_of 0 (EraEntered proposer number ∷ [])
only_entered proposer number = only_one 0 (EraEntered proposer number) (λ m e. absurd (cc e))

-- other callers keep their own parts
marked_others : {S V : Type 0} (old new : View S V) → new.callers ≡ old.callers → (m : ℕ) → m ≢ 0 → own_part new m ≡ own_part old m
marked_others old new callers zero other = absurd (other refl)
marked_others old new callers (suc m) other = ap (λ (l : List CallerView). caller_part (slice_get l (suc m))) callers

record EntersOrTells {S V : Type 0} (old new : View S V) (asked : Asked) : Type 0 where
  marks : List Mark
  own_step : OwnStep old new marks
  may_tell : (told : OpAnswer) → MayAdd (marks ++ told_marks asked told)
  such : All IsPlanMark (mine 0 marks)
  none_lost : losses (mine 0 marks) ≡ 0
  unasked : new.council.exchange ≡ None
  asks : (order : OrderView) → new.council.order ≡ Some order → order.asked ≡ asked
  tells : (told : OpAnswer) → WasToldOrder new told → IsMidway asked told
  none_done : done_calls (mine 0 marks) ≡ 0
  planned : rescanned_of new.council.plan ≡ rescanned_of old.council.plan

closing_step : {S V : Type 0} (old new : View S V) → ClosesRound old new → OwnStep old new []
closing_step {S} {V} old new closes = record {
  makes = record { last_proposer = closes.last_proposer; made = closes.marks ∙ sym (append-nil old.marks); may_add = tt; owned = All-nil (λ i. (m : ℕ) → owner_of i ≡ Some m → m ≡ 0); others = others };
  kept = closes.kept;
  last_proposer = closes.last_proposer;
  none = closes.none;
}
  where
    others : (m : ℕ) → m ≢ 0 → own_part new m ≡ own_part old m
    others zero other = absurd (other refl)
    others (suc m) other = closes.parts (suc m)

-- a own_step, and then something that leaves all but what the operator has under way
own_step_told : {S V : Type 0} (old middle changed new : View S V) → OwnStep old middle [] → new ≡ changed → changed.last_proposer ≡ middle.last_proposer → changed.desks ≡ middle.desks → changed.callers ≡ middle.callers → changed.marks ≡ middle.marks → OwnStep old new []
own_step_told old middle changed new own_step is last_proposer desks callers marks =
    own_step_then old middle new [] [] own_step (quiet_own_step middle new (leaves_desks middle changed new [] is last_proposer desks callers (marks ∙ sym (append-nil middle.marks))) own_step.kept own_step.none) tt

tells_nothing : {S V : Type 0} (old middle new : View S V) (asked : Asked) (said : OpAnswer) → OwnStep old middle [] → middle.council.order ≡ Some (new_order asked) → middle.council.exchange ≡ None → new ≡ council.told_view middle said → ((told : OpAnswer) → SaysTheSame said told → IsMidway asked told) → rescanned_of middle.council.plan ≡ rescanned_of old.council.plan → EntersOrTells old new asked
tells_nothing {S} {V} old middle new asked said own_step order unasked is answers planned =
    let order_now : new.council.order ≡ Some (told_so said (new_order asked)) = ap (λ (w : View S V). w.council.order) is ∙ ap (option_map (told_so said)) order in
    record {
      marks = [];
      own_step = own_step_told old middle (council.told_view middle said) new own_step is refl refl refl refl;
      may_tell = λ told. told_may_add asked told;
      such = All-nil IsPlanMark;
      none_lost = refl;
      unasked = ap (λ (w : View S V). w.council.exchange) is ∙ unasked;
      asks = λ one is_one. ap (λ (o : OrderView). o.asked) (some_is (sym is_one ∙ order_now));
      tells = λ told was. answers told (says_same new (new_order asked) said told order_now was);
      none_done = refl;
      planned = ap (λ (w : View S V). rescanned_of w.council.plan) is ∙ planned;
    }

-- the vault of a proposer alone changes
vault_own_step : {S V : Type 0} (old new : View S V) (id : ℕ) (desk now : DeskView V) → IsAt old.desks id desk → now.round ≡ desk.round → new ≡ with_desk old id now → IsKept old → ((caller : CallerView) → IsAt old.callers 0 caller → caller.call ≡ None) → OwnStep old new []
vault_own_step {S} {V} old new id desk now at same is kept none =
    let acts : Acts id old new [] = record { last_proposer = ap (λ (w : View S V). w.last_proposer) is; desks = desks_set id old new now (ap (λ (w : View S V). w.desks) is); callers = spares_same id old.callers new.callers (ap (λ (w : View S V). w.callers) is); council = ap (λ (w : View S V). w.council) is; made = ap (λ (w : View S V). w.marks) is ∙ sym (append-nil old.marks) } in
    let callers : new.callers ≡ old.callers = ap (λ (w : View S V). w.callers) is in
    let at_now : IsAt new.desks id now = subst (λ (w : View S V). IsAt w.desks id now) (sym is) (at_set old.desks id desk now at) in
    record {
      makes = record { last_proposer = acts.last_proposer; made = acts.made; may_add = tt; owned = All-nil (λ i. (m : ℕ) → owner_of i ≡ Some m → m ≡ 0); others = λ k other. marked_others old new callers k other };
      kept = kept_by id old new [] acts (All-nil (λ i. (m : ℕ) → owner_of i ≡ Some m → m ≡ id)) kept (record {
        staged = λ one caller call at_desk at_caller is_call.
            staged_same one desk call (ap (λ (d : DeskView V). is_some d.round) (sym (at_one new.desks id at_now at_desk)) ∙ ap (λ (o : Option Round). is_some o) same)
            (kept.staged id desk caller call at (subst (λ (l : List CallerView). IsAt l id caller) callers at_caller) is_call);
        wanted = λ caller call at_caller is_call. ap (wanted_by id) (ap (λ (w : View S V). w.marks) is) ∙ kept.wanted id caller call (subst (λ (l : List CallerView). IsAt l id caller) callers at_caller) is_call;
      });
      last_proposer = acts.last_proposer;
      none = λ caller at_caller. none caller (subst (λ (l : List CallerView). IsAt l 0 caller) callers at_caller);
    }

-- a desk that enters, or crashes, has no open round
no_round_entered : {V : Type 0} (m : _) (era : Era) (desk now : DeskView V) → EntersEra m era desk now → now.round ≡ None
no_round_entered {V} m era desk now enters = ap (λ (d : DeskView V). d.round) enters.desk

no_round_failed : {V : Type 0} (m : _) (era : Era) (desk now : DeskView V) → FailsToEnter m era desk now → now.round ≡ None
no_round_failed {V} m era desk now fails = ap (λ (d : DeskView V). d.round) fails.crashed

-- the operator's exchange stays closed, and its order stays
goes_down : {S V : Type 0} (m : Meaning S V) (era : Era) (old middle : View S V) (id : ℕ) → IsKept old → ((caller : CallerView) → IsAt old.callers 0 caller → caller.call ≡ None) → GoesDown (FailsToEnter m.disks era) old id middle → OwnStep old middle [] × (middle.council.order ≡ old.council.order) × (middle.council.exchange ≡ option_map broken_off old.council.exchange ⊎ (middle.council.exchange ≡ old.council.exchange)) × (middle.council.plan ≡ old.council.plan)
goes_down {S} {V} m era old middle id kept none (stops.of_client client leaves) =
    let closes = closes_round answer.Crashed cause.Crashed old middle id (no_round_failed m.disks era) refl refl kept none leaves in
    (closing_step old middle closes, ap (λ (k : Council). k.order) closes.council, inr (ap (λ (k : Council). k.exchange) closes.council), ap (λ (k : Council). k.plan) closes.council)
goes_down {S} {V} m era old middle id kept none (stops.of_operator near is_first leaves is) =
    let closes = closes_round answer.Crashed cause.Crashed old near id (no_round_failed m.disks era) refl refl kept none leaves in (
      own_step_told old near (stops.broken_off_view near) middle (closing_step old near closes) is refl refl refl refl,
      ap (λ (w : View S V). w.council.order) is ∙ ap (λ (k : Council). k.order) closes.council,
      inl (ap (λ (w : View S V). w.council.exchange) is ∙ ap (λ (k : Council). option_map broken_off k.exchange) closes.council),
      ap (λ (w : View S V). w.council.plan) is ∙ ap (λ (k : Council). k.plan) closes.council,
    )

still_unasked : (now was : Option ExchangeView) → (now ≡ option_map broken_off was) ⊎ (now ≡ was) → was ≡ None → now ≡ None
still_unasked now was (inl broken) none = broken ∙ ap (option_map broken_off) none
still_unasked now was (inr same) none = same ∙ none

enters_or_tells : {S V : Type 0} (m : Meaning S V) (old new : View S V) (asked : Asked) (proposer : ℕ) → IsChanging old asked → IsKept old → StepEnterEra m old proposer new → EntersOrTells old new asked
enters_or_tells {S} {V} m old new asked proposer was kept by = by_case by.enters
  where
    here : OwnStep old old []
    here = quiet_own_step old old (same_view old) kept was.no_call

    by_case : EntersNext m old by.plan by.next by.desk new → EntersOrTells old new asked
    by_case (plans.is_full full is) = tells_nothing old old new asked (op.Stopped answer.RecordFull) here was.order was.unasked is (λ told same. subst (IsMidway asked) same (tt, tt)) refl
    by_case (plans.is_down room down is) = tells_nothing old old new asked (op.ProposerDown by.plan.entered) here was.order was.unasked is (λ told same. subst (IsMidway asked) same (tt, tt)) refl
    by_case (plans.fails middle room goes is) =
        let down = goes_down m by.next old middle by.plan.entered kept was.no_call goes in
        tells_nothing old middle new asked (op.ProposerDown by.plan.entered) down.0 (down.1 ∙ was.order) (still_unasked middle.council.exchange old.council.exchange down.2 was.unasked) is (λ told same. subst (IsMidway asked) same (tt, tt)) (ap rescanned_of down.3)
    by_case (plans.no_memory now room up keeps is_now is) =
        let near : View S V = with_desk old by.plan.entered now in
        tells_nothing old near new asked (op.Stopped (answer.NoMemory false)) (vault_own_step old near by.plan.entered by.desk now by.may.at_desk (ap (λ (d : DeskView V). d.round) is_now) refl kept was.no_call) was.order was.unasked is (λ told same. subst (IsMidway asked) same (tt, tt)) refl
    by_case (plans.enters middle room leaves is) =
        let closes = closes_round (answer.Moved by.next.number) (cause.Moved by.next.number) old middle by.plan.entered (no_round_entered m.disks by.next) refl refl kept was.no_call leaves in
        let own_step = closing_step old middle closes in
        let marked : List Mark = EraEntered by.plan.entered by.next.number ∷ [] in
        let made : new.marks ≡ middle.marks ++ marked = ap (λ (w : View S V). w.marks) is in
        let order_now : new.council.order ≡ Some (silent_order (new_order asked)) = ap (λ (w : View S V). w.council.order) is ∙ ap (λ (k : Council). option_map silent_order k.order) closes.council ∙ ap (option_map silent_order) was.order in
        let marking_step : OwnStep middle new marked = record {
          makes = record { last_proposer = ap (λ (w : View S V). w.last_proposer) is; made = made; may_add = (tt, tt); owned = only_entered by.plan.entered by.next.number; others = λ k other. marked_others middle new (ap (λ (w : View S V). w.callers) is) k other };
          kept = kept_marked middle new marked (ap (λ (w : View S V). w.last_proposer) is) (ap (λ (w : View S V). w.desks) is) (ap (λ (w : View S V). w.callers) is) made (λ n before. refl) own_step.kept;
          last_proposer = ap (λ (w : View S V). w.last_proposer) is;
          none = λ caller at. own_step.none caller (subst (λ (w : View S V). IsAt w.callers 0 caller) is at);
        } in
        record {
          marks = marked;
          own_step = own_step_then old middle new [] marked own_step marking_step (tt, tt);
          may_tell = λ told. (tt, told_may_add asked told);
          such = All-nil IsPlanMark;
          none_lost = refl;
          unasked = ap (λ (w : View S V). w.council.exchange) is ∙ ap (λ (k : Council). k.exchange) closes.council ∙ was.unasked;
          asks = λ one is_one. ap (λ (o : OrderView). o.asked) (some_is (sym is_one ∙ order_now));
          tells = λ told said. absurd (cc (sym (ap (λ (o : OrderView). o.told) (some_is (sym said.is_open ∙ order_now))) ∙ said.was_said));
          none_done = refl;
          planned = ap (λ (w : View S V). rescanned_of w.council.plan) is ∙ after_same middle.last_proposer by.plan by.next ∙ sym (ap rescanned_of by.may.is_plan);
        }

pub enter_held : {S V : Type 0} (m : Meaning S V) (old new : View S V) (asked : Asked) (proposer : ℕ) → HasPlan asked (own_part old 0) → IsKept old → StepEnterEra m old proposer new → IsUnderWay new asked → Held old new (OperatesIn IsPlanMark 0 old new × HasPlan asked (own_part new 0))
enter_held m old new asked proposer has kept by up =
    let enters = enters_or_tells m old new asked proposer (is_changing old asked has) kept by in
    record {
      does = (record { marks = enters.marks; makes = enters.own_step.makes; all_such = enters.such; few = (let none = enters.none_lost in omega (arith, none)); counts = λ eras. counts_still old new enters.marks enters.own_step.makes.made enters.none_done enters.planned; keeps = λ not. absurd (not (λ p e. tt)) }, has_plan new asked (under_way new asked enters.own_step.none enters.unasked up));
      kept = enters.own_step.kept;
      last_proposer = enters.own_step.last_proposer;
    }

pub enter_told : {S V : Type 0} (m : Meaning S V) (old mid new : View S V) (asked : Asked) (proposer : ℕ) (told : OpAnswer) → HasPlan asked (own_part old 0) → IsKept old → StepEnterEra m old proposer mid → WasToldOrder mid told → StepTell mid told new
    → Held old new (IsToldIn asked IsPlanMark 0 old new told × IsMembersAnswer asked told)
enter_told m old mid new asked proposer told has kept by said ends =
    let enters = enters_or_tells m old mid asked proposer (is_changing old asked has) kept by in
    let held = tells_after IsPlanMark 0 old mid new enters.marks asked told said.order enters.own_step (enters.such) (let none = enters.none_lost in omega (arith, none)) (enters.may_tell told) said.is_open (enters.asks said.order said.is_open) ends
    (λ eras. told_counts asked told said.order mid new said.is_open (enters.asks said.order said.is_open) ends old (enters.tells told said).1 (counts_still old mid enters.marks enters.own_step.makes.made enters.none_done enters.planned)) (λ not. absurd (not (λ p e. tt))) in
    record { does = (held.does, (enters.tells told said).0); kept = held.kept; last_proposer = held.last_proposer }

-- it was at its end already
pub finishes : {S V : Type 0} (old new : View S V) (asked : Asked) (told : OpAnswer) → HasPlan asked (own_part old 0) → IsKept old → StepTell old told new → HasFinished old told → Held old new (IsToldIn asked IsPlanMark 0 old new told)
finishes old new asked told has kept ends by =
    let was = is_changing old asked has in
    tells_in IsPlanMark 0 old old new asked told (new_order asked) (same_view old) was.order refl ends kept was.no_call
    (λ enters. end_counts asked told (new_order asked) old new was.order refl ends refl (subst (λ (o : OrderView). IsFinishedBy old.council o told) (some_is (sym by.is_open ∙ was.order)) by.finished)) (λ not. absurd (not (λ p e. tt)))

-- ---- members are asked for their next keys
pub may_list : {S V : Type 0} (view : View S V) (asked : Asked) → IsKept view → HasPlan asked (own_part view 0) → step_of view.council.plan ≡ Some Settle → IsPartial view.council.plan → MayAskMembers view (question_in view query.List)
may_list {S} {V} view asked kept has settles partial =
    let is = is_changing view asked has in
    record {
      order = new_order asked;
      is_open = is.order;
      is_for = (refl, record { plan = is.plan; is_plan = is.is_plan; is_for = is.is_for; settles = some_is (sym (ap step_of is.is_plan) ∙ settles); partial = λ listing is_listing_. partial.partial is.plan listing is.is_plan is_listing_; goes_on = ap (λ (o : Option PlanView). council.places_from (everyone view) (council.listing_in o)) is.is_plan });
      none_open = is.unasked;
      idle = no_call_at view kept is.no_call;
    }

record ListsOrTells {S V : Type 0} (old new : View S V) (asked : Asked) : Type 0 where
  leaves : LeavesOtherCalls old new []
  order : OrderView
  is_order : new.council.order ≡ Some order
  asks : order.asked ≡ asked
  opens : IsSome new.council.exchange → ((caller : CallerView) → IsAt new.callers 0 caller → caller.call ≡ None) → IsListing new asked
  tells : (told : OpAnswer) → WasToldOrder new told → IsMidway asked told
  planned : rescanned_of new.council.plan ≡ rescanned_of old.council.plan

lists_or_tells : {S V : Type 0} (m : Meaning S V) (old new : View S V) (asked : Asked) (places : List MemberPlace) → IsChanging old asked → StepAskAll m old (NextKeys places) new → ListsOrTells old new asked
lists_or_tells {S} {V} m old new asked places was by = by_case by.asks
  where
    stopped : (why : Answer) → LeavesOtherCalls old new [] → new.council.order ≡ option_map (told_so (op.Stopped why)) old.council.order → new.council.exchange ≡ old.council.exchange → rescanned_of new.council.plan ≡ rescanned_of old.council.plan → ListsOrTells old new asked
    stopped why left order exchange planned =
        let order_now : new.council.order ≡ Some (told_so (op.Stopped why) (new_order asked)) = order ∙ ap (option_map (told_so (op.Stopped why))) was.order in
        record {
          leaves = left;
          order = told_so (op.Stopped why) (new_order asked);
          is_order = order_now;
          asks = refl;
          opens = λ some none. absurd (cc (subst (λ (o : Option ExchangeView). IsSome o) (exchange ∙ was.unasked) some));
          tells = λ told said. subst (IsMidway asked) (says_same new (new_order asked) (op.Stopped why) told order_now said) (tt, tt);
          planned = planned;
        }

    by_case : AsksAll m old (NextKeys places) by.desk new → ListsOrTells old new asked
    by_case (council.asks now tag flow up room drawn is_now sends is) =
        let order_now : new.council.order ≡ Some (new_order asked) = ap (λ (w : View S V). w.council.order) is ∙ was.order in
        record {
          leaves = leaves_others old _ new now [] is refl refl refl (sym (append-nil old.marks));
          order = new_order asked;
          is_order = order_now;
          asks = refl;
          opens = λ some none. record {
            no_call = none;
            order = order_now;
            exchange = council.new_exchange (NextKeys places) tag (council.asked_by old (NextKeys places)) (length old.marks) (council.read_era old (NextKeys places));
            is_open = ap (λ (w : View S V). w.council.exchange) is;
            places = places;
            question = refl;
            plan = listing_begun places tag was.plan;
            is_plan = ap (λ (w : View S V). w.council.plan) is ∙ ap (option_map (listing_begun places tag)) was.is_plan;
            is_for = was.is_for;
          };
          tells = λ told said. absurd (cc (sym (ap (λ (o : OrderView). o.told) (some_is (sym said.is_open ∙ order_now))) ∙ said.was_said));
          planned = ap (λ (w : View S V). rescanned_of w.council.plan) is ∙ begun_same places tag old.council.plan;
        }
    by_case (council.is_down down is) = stopped answer.Down (leaves_desks old _ new [] is refl refl refl (sym (append-nil old.marks))) (ap (λ (w : View S V). w.council.order) is) (ap (λ (w : View S V). w.council.exchange) is) (ap (λ (w : View S V). rescanned_of w.council.plan) is)
    by_case (council.is_full up full is) = stopped answer.RecordFull (leaves_desks old _ new [] is refl refl refl (sym (append-nil old.marks))) (ap (λ (w : View S V). w.council.order) is) (ap (λ (w : View S V). w.council.exchange) is) (ap (λ (w : View S V). rescanned_of w.council.plan) is)
    by_case (council.is_spent now up spent kept is_now is) = stopped answer.Spent (leaves_others old _ new now [] is refl refl refl (sym (append-nil old.marks))) (ap (λ (w : View S V). w.council.order) is) (ap (λ (w : View S V). w.council.exchange) is) (ap (λ (w : View S V). rescanned_of w.council.plan) is)
    by_case (council.fails now up fault is) = stopped answer.VaultFault (leaves_others old _ new now [] is refl refl refl (sym (append-nil old.marks))) (ap (λ (w : View S V). w.council.order) is) (ap (λ (w : View S V). w.council.exchange) is) (ap (λ (w : View S V). rescanned_of w.council.plan) is)
    by_case (council.no_memory now tag up loss is) = stopped (answer.NoMemory false) (leaves_others old _ new now [] is refl refl refl (sym (append-nil old.marks))) (ap (λ (w : View S V). w.council.order) is) (ap (λ (w : View S V). w.council.exchange) is) (ap (λ (w : View S V). rescanned_of w.council.plan) is)

pub list_held : {S V : Type 0} (m : Meaning S V) (old new : View S V) (asked : Asked) → HasPlan asked (own_part old 0) → IsKept old → StepAskAll m old (question_in old query.List) new → IsSome new.council.exchange → Held old new (Makes 0 old new [] × HasListing asked (own_part new 0) × (rescanned_of new.council.plan ≡ rescanned_of old.council.plan))
list_held m old new asked has kept by some =
    let was = is_changing old asked has in
    let lists = lists_or_tells m old new asked _ was by in
    let own_step = quiet_own_step old new lists.leaves kept was.no_call in
    record { does = (own_step.makes, has_listing new asked (lists.opens some own_step.none), lists.planned); kept = own_step.kept; last_proposer = own_step.last_proposer }

pub list_told : {S V : Type 0} (m : Meaning S V) (old mid new : View S V) (asked : Asked) (told : OpAnswer) → HasPlan asked (own_part old 0) → IsKept old → StepAskAll m old (question_in old query.List) mid → WasToldOrder mid told → StepTell mid told new
    → Held old new (IsToldIn asked IsPlanMark 0 old new told × IsMembersAnswer asked told)
list_told m old mid new asked told has kept by said ends =
    let was = is_changing old asked has in
    let lists = lists_or_tells m old mid asked _ was by in
    let held = tells_in IsPlanMark 0 old mid new asked told lists.order lists.leaves lists.is_order lists.asks ends kept was.no_call
    (λ enters. told_counts asked told lists.order mid new lists.is_order lists.asks ends old (lists.tells told said).1 (counts_still old mid [] lists.leaves.made refl lists.planned)) (λ not. absurd (not (λ p e. tt))) in
    record { does = (held.does, (lists.tells told said).0); kept = held.kept; last_proposer = held.last_proposer }

-- ---- a turn of that
listing_turn : {S V : Type 0} (view : View S V) (asked : Asked) (v : Verdict) → HasListing asked (own_part view 0) → turn_of view 0 v ≡ step.TurnExchange v
listing_turn view asked v has = let is = is_listing view asked has in ap (λ (o : Option ExchangeView). if asks_as o 0 then step.TurnExchange v else step.Turn 0 v) is.is_open

listing_refusal : {S V : Type 0} (view : View S V) (asked : Asked) → HasListing asked (own_part view 0) → refusal_of view 0 ≡ step.RefuseTurnExchange
listing_refusal view asked has = let is = is_listing view asked has in ap (λ (o : Option ExchangeView). if asks_as o 0 then step.RefuseTurnExchange else step.RefuseTurn 0) is.is_open

pub listing_place : {S V : Type 0} (view : View S V) (asked : Asked) → HasListing asked (own_part view 0) → place_of view 0 ≡ exchange_place
listing_place view asked has = let is = is_listing view asked has in ap (λ (o : Option ExchangeView). if asks_as o 0 then exchange_place else 0) is.is_open

pub list_turn_held : {S V : Type 0} (m : Meaning S V) (old new : View S V) (asked : Asked) (v : Verdict) → HasListing asked (own_part old 0) → IsKept old → Step m old (turn_of old 0 v) new → Held old new (OperatesIn IsPlanMark (harm_by v) old new × (own_part new 0 ≡ own_part old 0))
list_turn_held {S} {V} m old new asked v has kept step_ =
    let by : StepTurnExchange m old v new = subst (λ (e : step.Event). Step m old e new) (listing_turn old asked v has) step_ in
    let was = is_listing old asked has in
    let turns = turns_asking m v old new by in
    let held = operates (harm_by v) old new turns.marks turns.leaves turns.of_asking kept was.no_call (turns_planned turns) in
    let own = own_kept (harm_by v) old new by.at.exchange by.at.is_open turns was.no_call (λ harmed. ap (λ (q : Question). harms_part q harmed) (ap (λ (x : ExchangeView). x.question) (some_is (sym by.at.is_open ∙ was.is_open)) ∙ was.question)) in
    record {
      does = (
        record {
          marks = held.does.marks;
          makes = held.does.makes;
          all_such = harms_of_rescan (mine 0 held.does.marks) held.does.all_such;
          few = held.does.few;
          counts = λ enters. counts_still old new held.does.marks held.does.makes.made (harms_undone (mine 0 held.does.marks) held.does.all_such) (turns_planned turns);
          keeps = λ not. turns_planned turns;
        },
        own,
      );
      kept = held.kept;
      last_proposer = held.last_proposer;
    }

pub list_turn_may_tell : {S V : Type 0} (m : Meaning S V) (old mid : View S V) (asked : Asked) → HasListing asked (own_part old 0) → Step m old (refusal_of old 0) mid → WasToldOrder mid (op.Stopped (answer.NoMemory false))
list_turn_may_tell {S} {V} m old mid asked has step_ =
    let by : StepRefuseTurnExchange m old mid = subst (λ (e : step.Event). Step m old e mid) (listing_refusal old asked has) step_ in
    let was = is_listing old asked has in
    was_told_so mid (new_order asked) (op.Stopped (answer.NoMemory false)) (refuses_asking m old mid (new_order asked) was.order by).1 refl

pub list_turn_told : {S V : Type 0} (m : Meaning S V) (most : ℕ) (old mid new : View S V) (asked : Asked) (told : OpAnswer) → HasListing asked (own_part old 0) → IsKept old → Step m old (refusal_of old 0) mid → StepTell mid told new → IsPassing told → Held old new (IsToldIn asked IsPlanMark most old new told)
list_turn_told {S} {V} m most old mid new asked told has kept step_ ends passing =
    let by : StepRefuseTurnExchange m old mid = subst (λ (e : step.Event). Step m old e mid) (listing_refusal old asked has) step_ in
    let was = is_listing old asked has in
    let refuses = refuses_asking m old mid (new_order asked) was.order by in
    tells_in IsPlanMark most old mid new asked told (told_so (op.Stopped (answer.NoMemory false)) (new_order asked)) refuses.0 refuses.1 refl ends kept was.no_call
    (λ enters. told_counts asked told (told_so (op.Stopped (answer.NoMemory false)) (new_order asked)) mid new refuses.1 refl ends old passing (counts_still old mid [] refuses.0.made refl (refusal_planned m old mid by))) (λ not. absurd (not (λ p e. tt)))

-- ---- what they told
pub may_gather_list : {S V : Type 0} (view : View S V) (asked : Asked) → HasListing asked (own_part view 0) → (queue_at view.flow exchange_place).messages ≡ [] → MayGather view
may_gather_list view asked has none =
    let is = is_listing view asked has in
    world.members (record { order = new_order asked; is_order = is.order; exchange = is.exchange; is_open = is.is_open; beside = ap is_of_collection is.question; none_waits = none })

gathering_list : {S V : Type 0} (view : View S V) (asked : Asked) → HasListing asked (own_part view 0) → gathering_of view ≡ step.Gather
gathering_list view asked has =
    let is = is_listing view asked has in
    ap gathering_by is.is_open ∙ ap (λ (q : Question). if is_of_collection q then step.GatherCollect else step.Gather) is.question

pub with_asked : (plan : PlanView) (listing : ListingView) → (with_listing plan listing).asked ≡ plan.asked
with_asked plan listing = by_end (listing.complete && (length listing.keys == 0))
  where
    by_end : (b : Bool) → (if b then stepped plan else record plan { listing = Some listing }).asked ≡ plan.asked
    by_end true = refl
    by_end false = refl

record GathersList {S V : Type 0} (old new : View S V) (asked : Asked) : Type 0 where
  leaves : LeavesOtherCalls old new []
  order : OrderView
  is_order : new.council.order ≡ Some order
  asks : order.asked ≡ asked
  tells : (told : OpAnswer) → WasToldOrder new told → IsMidway asked told
  planned : rescanned_of new.council.plan ≡ rescanned_of old.council.plan

gathers_list : {S V : Type 0} (old new : View S V) (asked : Asked) → IsListing old asked → StepGather old new → GathersList old new asked
gathers_list {S} {V} old new asked was by = by_case by.gathers
  where
    asks : by.at.exchange.question ≡ NextKeys was.places
    asks = ap (λ (x : ExchangeView). x.question) (some_is (sym by.at.is_open ∙ was.is_open)) ∙ was.question

    leaves : (changed : View S V) → new ≡ changed → changed.last_proposer ≡ old.last_proposer → changed.desks ≡ old.desks → changed.callers ≡ old.callers → changed.marks ≡ old.marks → LeavesOtherCalls old new []
    leaves changed is last_proposer desks callers marks = leaves_desks old changed new [] is last_proposer desks callers (marks ∙ sym (append-nil old.marks))

    stopped : (why : Answer) → LeavesOtherCalls old new [] → new.council.order ≡ option_map (told_so (op.Stopped why)) old.council.order → rescanned_of new.council.plan ≡ rescanned_of old.council.plan → GathersList old new asked
    stopped why left order planned =
        let order_now : new.council.order ≡ Some (told_so (op.Stopped why) (new_order asked)) = order ∙ ap (option_map (told_so (op.Stopped why))) was.order in
        record { leaves = left; order = told_so (op.Stopped why) (new_order asked); is_order = order_now; asks = refl; tells = λ told said. subst (IsMidway asked) (says_same new (new_order asked) (op.Stopped why) told order_now said) (tt, tt); planned = planned }

    by_case : Gathers old by.at.exchange new → GathersList old new asked
    by_case (council.crashed down is) = stopped answer.Crashed (leaves _ is refl refl refl refl) (ap (λ (w : View S V). w.council.order) is) (ap (λ (w : View S V). rescanned_of w.council.plan) is)
    by_case (council.probed other found up question plain keeps is) = absurd (cc (sym asks ∙ question))
    by_case (council.read other era found marks up question reads keeps made is) = absurd (cc (sym asks ∙ question))
    by_case (council.is_short of short up few is) = stopped _ (leaves _ is refl refl refl refl) (ap (λ (w : View S V). w.council.order) is) (ap (λ (w : View S V). rescanned_of w.council.plan) is)
    by_case (council.no_memory up is) = stopped (answer.NoMemory false) (leaves _ is refl refl refl refl) (ap (λ (w : View S V). w.council.order) is) (ap (λ (w : View S V). rescanned_of w.council.plan) is)
    by_case (council.lists of listing up enough on is) =
        let order_now : new.council.order ≡ Some (silent_order (new_order asked)) = ap (λ (w : View S V). w.council.order) is ∙ ap (option_map silent_order) was.order in
        record {
          leaves = leaves _ is refl refl refl refl;
          order = silent_order (new_order asked);
          is_order = order_now;
          asks = refl;
          tells = λ told said. absurd (cc (sym (ap (λ (o : OrderView). o.told) (some_is (sym said.is_open ∙ order_now))) ∙ said.was_said));
          planned = ap (λ (w : View S V). rescanned_of w.council.plan) is ∙ listed_same of.plan listing ∙ sym (ap rescanned_of of.is_plan);
        }

pub gather_list_held : {S V : Type 0} (m : Meaning S V) (old new : View S V) (asked : Asked) (result : Gathered) → HasListing asked (own_part old 0) → IsKept old → Step m old (gathering_of old) new → HasGathered old result new → Held old new (Makes 0 old new [] × HasPlan asked (own_part new 0) × (rescanned_of new.council.plan ≡ rescanned_of old.council.plan))
gather_list_held {S} {V} m old new asked result has kept step_ gathered_ =
    let by : StepGather old new = subst (λ (e : step.Event). Step m old e new) (gathering_list old asked has) step_ in
    let gathers = gathers_list old new asked was by in
    let own_step = quiet_own_step old new gathers.leaves kept was.no_call in
    record { does = (own_step.makes, has_plan new asked (on own_step.none gathered_), gathers.planned); kept = own_step.kept; last_proposer = own_step.last_proposer }
  where
    was : IsListing old asked
    was = is_listing old asked has

    on : ((caller : CallerView) → IsAt new.callers 0 caller → caller.call ≡ None) → HasGathered old result new → IsChanging new asked
    on none (world.probed exchange other found is_open question plain is keeps told) = absurd (cc (sym question ∙ ap (λ (x : ExchangeView). x.question) (some_is (sym is_open ∙ was.is_open)) ∙ was.question))
    on none (world.read exchange other era agreement found is_open question reads safe is keeps agrees told) = absurd (cc (sym question ∙ ap (λ (x : ExchangeView). x.question) (some_is (sym is_open ∙ was.is_open)) ∙ was.question))
    on none (world.lists exchange places plan listing is_open question is_plan is next) = record {
      no_call = none;
      order = ap (λ (k : Council). k.order) next ∙ ap (option_map silent_order) was.order;
      unasked = ap (λ (k : Council). k.exchange) next;
      plan = with_listing plan listing;
      is_plan = ap (λ (k : Council). k.plan) next;
      is_for = with_asked plan listing ∙ ap (λ (p : PlanView). p.asked) (some_is (sym is_plan ∙ was.is_plan)) ∙ was.is_for;
    }
    on none (world.acknowledged collection no_exchange_ is_collection is next) = absurd (cc (sym no_exchange_ ∙ was.is_open))
    on none (world.confirmed exchange collection removed kept_ is_open of_it is_collection is next) =
        absurd (cc (sym of_it ∙ ap (λ (x : ExchangeView). is_of_collection x.question) (some_is (sym is_open ∙ was.is_open)) ∙ ap is_of_collection was.question))

pub gather_list_told : {S V : Type 0} (m : Meaning S V) (most : ℕ) (old mid new : View S V) (asked : Asked) (told : OpAnswer) → HasListing asked (own_part old 0) → IsKept old → Step m old (gathering_of old) mid → WasToldOrder mid told → StepTell mid told new
    → Held old new (IsToldIn asked IsPlanMark most old new told × IsMembersAnswer asked told)
gather_list_told {S} {V} m most old mid new asked told has kept step_ said ends =
    let by : StepGather old mid = subst (λ (e : step.Event). Step m old e mid) (gathering_list old asked has) step_ in
    let was = is_listing old asked has in
    let gathers = gathers_list old mid asked was by in
    let held = tells_in IsPlanMark most old mid new asked told gathers.order gathers.leaves gathers.is_order gathers.asks ends kept was.no_call
    (λ enters. told_counts asked told gathers.order mid new gathers.is_order gathers.asks ends old (gathers.tells told said).1 (counts_still old mid [] gathers.leaves.made refl gathers.planned)) (λ not. absurd (not (λ p e. tt))) in
    record { does = (held.does, (gathers.tells told said).0); kept = held.kept; last_proposer = held.last_proposer }

-- ---- what the world asks
pub may_open : {S V : Type 0} (view : View S V) (asked : Asked) → HasOrder asked (own_part view 0) → (IsFor view.council.plan asked → ⊥) → MayOpenPlan view asked
may_open view asked has not_yet = let is = is_ordered view asked has in record { order = new_order asked; is_open = is.order; is_for = refl; not_yet = not_yet }

pub may_enter : {S V : Type 0} (view : View S V) (asked : Asked) (proposer : ℕ) → HasPlan asked (own_part view 0) → entrant_of view.council.plan ≡ Some proposer → MayEnterNext view proposer
may_enter {S} {V} view asked proposer has next = by_next (next_era (Some is.plan)) refl
  where
    is : IsChanging view asked
    is = is_changing view asked has

    by_next : (o : Option Era) → next_era (Some is.plan) ≡ o → MayEnterNext view proposer
    by_next None none = absurd (cc (sym (ap entrant_of is.is_plan ∙ ap (option_map (λ era. is.plan.entered)) none) ∙ next))
    by_next (Some era) some = record {
      order = new_order asked;
      is_order = is.order;
      plan = is.plan;
      is_plan = is.is_plan;
      is_for = is.is_for;
      next = era;
      is_next = ap next_era is.is_plan ∙ some;
      is_due = some_is (sym (ap entrant_of is.is_plan ∙ ap (option_map (λ e. is.plan.entered)) some) ∙ next);
    }

-- it is under way and untold, as its own part tells
pub is_under_way : {S V : Type 0} (view : View S V) (asked : Asked) → HasPlan asked (own_part view 0) → IsUnderWay view asked
is_under_way view asked has =
    let is = is_changing view asked has in
    record { order = new_order asked; is_open = is.order; is_for = refl; untold = refl; plan = record { open_plan = is.plan; is_open = is.is_plan; same = is.is_for } }

pub enter_under_way : {S V : Type 0} (old new : View S V) (asked : Asked) → HasPlan asked (own_part old 0) → ((order : OrderView) → old.council.order ≡ Some order → IsUnderWay new order.asked) → IsUnderWay new asked
enter_under_way old new asked has up = up (new_order asked) (is_changing old asked has).order

-- it is under way already, and nothing is done
pub up_held : {S V : Type 0} (view : View S V) (asked : Asked) → HasOrder asked (own_part view 0) → IsKept view → IsFor view.council.plan asked → Held view view (Makes 0 view view [] × HasPlan asked (own_part view 0) × (rescanned_of view.council.plan ≡ rescanned_of view.council.plan))
up_held view asked has kept for_it =
    let own_step = quiet_own_step view view (same_view view) kept (is_ordered view asked has).no_call in
    record { does = (own_step.makes, up_already view asked has for_it, refl); kept = own_step.kept; last_proposer = own_step.last_proposer }

-- nothing is done
pub nothing_done : {S V : Type 0} (view : View S V) (asked : Asked) → HasPlan asked (own_part view 0) → IsKept view → OperatesIn IsPlanMark 0 view view
nothing_done view asked has kept =
    let own_step = quiet_own_step view view (same_view view) kept (is_changing view asked has).no_call in
    record { marks = []; makes = own_step.makes; all_such = All-nil IsPlanMark; few = omega arith; counts = λ enters. risen_by refl; keeps = λ not. refl }

-- no memory was found for the key that is due
pub key_may_tell : {S V : Type 0} (old mid new : View S V) (asked : Asked) (told : OpAnswer) → HasPlan asked (own_part old 0) → IsKept old → StepRefuseKey old mid → WasToldOrder mid told → StepTell mid told new
    → Held old new (IsToldIn asked IsPlanMark 0 old new told × IsMembersAnswer asked told)
key_may_tell {S} {V} old mid new asked told has kept by said ends =
    let was = is_changing old asked has in
    let leaves : LeavesOtherCalls old mid [] = leaves_desks old _ mid [] by.view refl refl refl (sym (append-nil old.marks)) in
    let order_now : mid.council.order ≡ Some (told_so (op.Stopped (answer.NoMemory false)) (new_order asked)) = ap (λ (w : View S V). w.council.order) by.view ∙ ap (option_map (told_so (op.Stopped (answer.NoMemory false)))) was.order in
    let midway = subst (IsMidway asked) (says_same mid (new_order asked) (op.Stopped (answer.NoMemory false)) told order_now said) (tt, tt) in
    let held = tells_in IsPlanMark 0 old mid new asked told (told_so (op.Stopped (answer.NoMemory false)) (new_order asked)) leaves order_now refl ends kept was.no_call
    (λ enters. told_counts asked told (told_so (op.Stopped (answer.NoMemory false)) (new_order asked)) mid new order_now refl ends old midway.1 (counts_still old mid [] leaves.made refl (ap (λ (w : View S V). rescanned_of w.council.plan) by.view))) (λ not. absurd (not (λ p e. tt))) in
    record { does = (held.does, midway.0); kept = held.kept; last_proposer = held.last_proposer }

pub none_settled : {A : Type 0} {P : Type 0} (o : Option A) → is_some o ≡ false → IfNone o P → P
none_settled None none p = p
none_settled (Some x) none p = absurd (cc none)

-- whether a frame waits in which members are asked for their next keys
pub list_frame_waits : {S V : Type 0} (view : View S V) (asked : Asked) → HasListing asked (own_part view 0) → (queue_at view.flow exchange_place).messages ≢ [] → (queue_at view.flow (place_of view 0)).messages ≢ []
list_frame_waits view asked has waits = subst (λ (p : ℕ). (queue_at view.flow p).messages ≢ []) (sym (listing_place view asked has)) waits

pub list_waits : {S V : Type 0} (view : View S V) (asked : Asked) (front : Option (Leg × ℕ)) → HasListing asked (own_part view 0) → front ≡ option_map head_of (slice_get (queue_at view.flow (place_of view 0)).messages 0) → is_some front ≡ true → (queue_at view.flow exchange_place).messages ≢ []
list_waits view asked front has shown some = some_waits (queue_at view.flow exchange_place).messages front (subst (λ (p : ℕ). front ≡ option_map head_of (slice_get (queue_at view.flow p).messages 0)) (listing_place view asked has) shown) some

pub list_through : {S V : Type 0} (view : View S V) (asked : Asked) (front : Option (Leg × ℕ)) → HasListing asked (own_part view 0) → front ≡ option_map head_of (slice_get (queue_at view.flow (place_of view 0)).messages 0) → is_some front ≡ false → (queue_at view.flow exchange_place).messages ≡ []
list_through view asked front has shown none = none_waits (queue_at view.flow exchange_place).messages front (subst (λ (p : ℕ). front ≡ option_map head_of (slice_get (queue_at view.flow p).messages 0)) (listing_place view asked has) shown) none

pub still_listing : {S V : Type 0} (old new : View S V) (asked : Asked) → HasListing asked (own_part old 0) → own_part new 0 ≡ own_part old 0 → HasListing asked (own_part new 0)
still_listing old new asked has same = subst (HasListing asked) (sym same) has

pub made_none : {S V : Type 0} (most : ℕ) (old new : View S V) → Makes 0 old new [] → rescanned_of new.council.plan ≡ rescanned_of old.council.plan → OperatesIn IsPlanMark most old new
made_none most old new makes planned = record { marks = []; makes = makes; all_such = All-nil IsPlanMark; few = omega arith; counts = λ enters. counts_still old new [] makes.made refl planned; keeps = λ not. planned }

pub ordered_still : {S V : Type 0} (view : View S V) (asked : Asked) → HasPlan asked (own_part view 0) → IsSome view.council.order
ordered_still view asked has = subst (λ (o : Option OrderView). IsSome o) (sym (is_changing view asked has).order) refl

-- the answer at its end names what was asked for
pub names_it : (to : Target) (era rescanned : ℕ) (answer : OpAnswer) → finished (asked_of to) era rescanned answer → IsMembersAnswer (asked_of to) answer
names_it (target.Join id) era rescanned answer is = subst (IsMembersAnswer (asked.Join id)) (sym is) refl
names_it (target.Leave id) era rescanned answer is = subst (IsMembersAnswer (asked.Leave id)) (sym is) refl
names_it (target.Resize need_prep need_acc) era rescanned answer is = subst (IsMembersAnswer (asked.Resize need_prep need_acc)) (sym is) refl
