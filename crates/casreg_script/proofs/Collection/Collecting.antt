-- How the steps of a collection lead on from one to the next, and what they leave to the callers.
use Rattle.std.proofs.Common.{◌≡◌, ◌≢◌, ◌+◌, ◌-◌, ◌<◌, ◌≤◌, ℕ, nat_eq, nat_lt, Bool, true, false, List, Option, None, Some, Result, Ok, Err, slice_get, inl, inr, refl, sym, ap, subst, ◌∙◌, arith, eqb-true}
use Rattle.std.specs.Prelude.{IfErr, IsSomeAnd, OnOk, if◌then◌else◌, option_map}
use Rattle.std.proofs.lemmas.Bool.{eqb-false}
use Rattle.cas_base.proofs.Bools.{true_or_false}
use Rattle.cas_collect.specs.Order.{Collection, step_after}
use Rattle.cas_collect.specs.declared.collect.CollectStep.{CollectStep}
use Rattle.cas_collect.specs.declared.collect.CollectStep.TheVariants as due
use Rattle.cas_record.specs.declared.operator.OpAnswer.{OpAnswer}
use Rattle.cas_world_calls.specs.declared.council.Gathered.{Gathered}
use Rattle.cas_model.specs.Collection.State.{CollectionView, confirmed_step, course_stepped}
use Rattle.cas_model.specs.Council.{Council, ExchangeView, OrderView, silent_order}
use Rattle.cas_model.specs.Step.{Step, StepBegin, BeginCollect, EndCollect, AskCollect, GatherCollect}
use Rattle.cas_model.specs.Calls.Step as calls
use Rattle.cas_model.specs.Collection.Step as collects
use Rattle.cas_model.specs.Collection.Step.{BeginsCollection, GathersRound, RenewsNext, StepGatherRound, StepRenew, StepMakeFloor, keep_always}
use Rattle.cas_model.specs.View.{Meaning, View, CallerView}
use Rattle.cas_model.proofs.Places.{some_is}
use Rattle.cas_world.specs.Calls.Beginning.{HasNoCall}
use Rattle.cas_world.specs.Collection.Collect.{GoesOnCollecting, IsDueStep, renewal_in, renewal_of}
use Rattle.cas_world.specs.Exchanges.Exchange as world
use Rattle.cas_world.specs.Exchanges.Exchange.{HasGathered, MayAskCollected, MayGather, WasToldOrder, gathering_by, gathering_of}
use Rattle.casreg_script.specs.Collection.Collecting.{IsDue, IsTombstoneSet}
use Rattle.casreg_script.specs.Collection.Collections as collections
use Rattle.casreg_script.specs.Collection.Collections.{AreTombstoneRounds, EndsReading, EndsVoting, HasRounds, HasTaken, IsCalled, TakesCollectStep}
use Rattle.casreg_script.specs.Frames.Conditions.{NetworkView}
use Rattle.casreg_script.specs.Exchanges.Exchanges.{AsksMembers, HasConfirmed, KeepsCalls}
use Rattle.casreg_script.specs.Exchanges.Orders.{ExchangeGoesOn, KeepsIdle}
use Rattle.casreg_script.specs.declared.halt.Halt.{Halt}
use Rattle.casreg_script.proofs.Exchanges.Asking.{keeps_idle}
use Rattle.casreg_script.proofs.Eras.Entering.{leaves_idle, down_idle, told_idle}
use Rattle.casreg_script.proofs.Calls.Keeping.{KeepsOthers, begin_keeps, count_keeps, propose_keeps, turn_keeps, refuse_keeps, crash_keeps, end_leaves, rounds_hold}
use Rattle.casreg_script.proofs.Others.{get_other}
use Rattle.casreg_script.proofs.Eras.Rescanning.{told_stays}

-- ---- what its call leaves to the others
-- all but caller 0 keep their calls
pub record KeepsClients {S V : Type 0} (old new : View S V) : Type 0 where
  pub last_proposer : new.last_proposer ≡ old.last_proposer
  pub others : (p : ℕ) → p ≢ 0 → slice_get new.callers p ≡ slice_get old.callers p

clients_join : {S V : Type 0} (old mid new : View S V) → KeepsClients old mid → KeepsClients mid new → KeepsClients old new
clients_join old mid new before after = record { last_proposer = after.last_proposer ∙ before.last_proposer; others = λ p other. after.others p other ∙ before.others p other }

of_others : {S V : Type 0} (old new : View S V) → KeepsOthers old new 0 → KeepsClients old new
of_others old new keeps = record { last_proposer = keeps.last_proposer; others = keeps.others }

same_callers : {S V : Type 0} (old new : View S V) → new.last_proposer ≡ old.last_proposer → new.callers ≡ old.callers → KeepsClients old new
same_callers old new last_proposer callers = record { last_proposer = last_proposer; others = λ p other. ap (λ (l : List CallerView). slice_get l p) callers }

refused_clients : {S V : Type 0} (m : Meaning S V) (old new : View S V) (key : List ℕ) → calls.RefusesCall m old 0 key new → KeepsClients old new
refused_clients {S} {V} m old new key (calls.stays told council refusal anew is) = same_callers old new (ap (λ (w : View S V). w.last_proposer) is) (ap (λ (w : View S V). w.callers) is)
refused_clients {S} {V} m old new key (calls.loses caller desk now ballot council at_caller at_desk none up loses anew is) = same_callers old new (ap (λ (w : View S V). w.last_proposer) is) (ap (λ (w : View S V). w.callers) is)

begin_clients : {S V : Type 0} (m : Meaning S V) (old new : View S V) (key : List ℕ) → Step m old (BeginCollect key) new → KeepsClients old new
begin_clients {S} {V} m old new key by = by_case by.begins
  where
    after : (middle changed : View S V) → KeepsClients old middle → new ≡ changed → changed.last_proposer ≡ middle.last_proposer → changed.callers ≡ middle.callers → KeepsClients old new
    after middle changed before is last_proposer callers = clients_join old middle new before (same_callers middle new (ap (λ (w : View S V). w.last_proposer) is ∙ last_proposer) (ap (λ (w : View S V). w.callers) is ∙ callers))

    by_case : BeginsCollection m (λ before next. StepBegin m before 0 key keep_always next) old key by.may.order by.desk by.caller new → KeepsClients old new
    by_case (collects.is_down none down is) = same_callers old new (ap (λ (w : View S V). w.last_proposer) is) (ap (λ (w : View S V). w.callers) is)
    by_case (collects.is_busy plan none up is_plan is) = same_callers old new (ap (λ (w : View S V). w.last_proposer) is) (ap (λ (w : View S V). w.callers) is)
    by_case (collects.is_full none up no_plan full is) = same_callers old new (ap (λ (w : View S V). w.last_proposer) is) (ap (λ (w : View S V). w.callers) is)
    by_case (collects.no_memory middle none up no_plan refuses is) = after middle _ (refused_clients m old middle key refuses) is refl refl
    by_case (collects.begins middle none no_plan begins is) = after middle _ (of_others old middle (begin_keeps m old middle 0 key keep_always begins)) is refl refl
    by_case (collects.goes_on middle call is_c is_call begins is) = after middle _ (of_others old middle (begin_keeps m old middle 0 key keep_always begins)) is refl refl

reading_clients : {S V : Type 0} (m : Meaning S V) (old new : View S V) → EndsReading m old new → KeepsClients old new
reading_clients m old new (collections.proposes none by) = of_others old new (propose_keeps m old new 0 by)
reading_clients {S} {V} m old new (collections.reads_held version found by) = record {
  last_proposer = ap (λ (w : View S V). w.last_proposer) by.view;
  others = λ p other. ap (λ (w : View S V). slice_get w.callers p) by.view ∙ get_other old.callers 0 (record by.of_call.caller { call = None }) p other;
}

voting_clients : {S V : Type 0} (m : Meaning S V) (old new : View S V) → EndsVoting m old new → KeepsClients old new
voting_clients m old new (collections.leaves_open by told) = of_others old new (count_keeps m old new 0 by)
voting_clients {S} {V} m old new (collections.acknowledges by) =
    clients_join old by.middle new (of_others old by.middle (count_keeps m old by.middle 0 by.counts)) (same_callers by.middle new (ap (λ (w : View S V). w.last_proposer) by.view) (ap (λ (w : View S V). w.callers) by.view))

end_clients : {S V : Type 0} (m : Meaning S V) (old new : View S V) (told : _) → Step m old (EndCollect told) new → KeepsClients old new
end_clients {S} {V} m old new told by =
    let leaves = end_leaves m old by.middle 0 told by.ends in
    clients_join old by.middle new (record { last_proposer = leaves.last_proposer; others = leaves.others }) (same_callers by.middle new (ap (λ (w : View S V). w.last_proposer) by.view) (ap (λ (w : View S V). w.callers) by.view))

rounds_clients : {S V : Type 0} (m : Meaning S V) {net next : NetworkView} (key : List ℕ) (tries : ℕ) (halt after : Halt) (old new : View S V) → AreTombstoneRounds m key tries net halt old next after new → KeepsClients old new
rounds_clients {S} {V} m key tries halt after old new by =
    rounds_hold {Holds = λ before next. KeepsClients before next} (record {
      through = record {
        stays = λ view. record { last_proposer = refl; others = λ p other. refl };
        joins = clients_join;
        lets = λ before next keeps. same_callers before next keeps.last_proposer keeps.callers;
        turn = λ before next verdict turns. of_others before next (turn_keeps m before next 0 verdict turns);
        refuse = λ before next fails. of_others before next (refuse_keeps m before next 0 fails);
        crash = λ before next crashes. of_others before next (crash_keeps m before next 0 crashes);
      };
      begins = λ before next begins. begin_clients m before next key begins;
      ends = reading_clients m;
      counts = voting_clients m;
    }) tries halt after old new by

idle_by : {S V : Type 0} (old new : View S V) → KeepsClients old new → HasNoCall new 0 → KeepsIdle old new
idle_by {S} {V} old new keeps own = record { last_proposer = keeps.last_proposer; idle = idle }
  where
    idle : (p : ℕ) → HasNoCall old p → HasNoCall new p
    idle p was = elim (true_or_false (nat_eq p 0)) [
      | inl is ↦ subst (HasNoCall new) (sym (eqb-true p 0 is)) own
      | inr other ↦ record { caller = was.caller; at_caller = keeps.others p (eqb-false p 0 other) ∙ was.at_caller; none_open = was.none_open }
    ]

has_rounds_clients : {S V : Type 0} (m : Meaning S V) (tries : ℕ) {net next : NetworkView} (key : List ℕ) (halt after : Halt) (old new : View S V) → HasRounds m tries net key halt old next after new → KeepsClients old new
has_rounds_clients m tries key halt after old new by = clients_join old by.begun new (begin_clients m old by.begun key by.begins) (rounds_clients m key tries halt after by.begun new by.rounds)

pub called_idle : {S V : Type 0} (m : Meaning S V) (tries : ℕ) {net next : NetworkView} (key : List ℕ) (halt after : Halt) (old new : View S V) → IsCalled m tries net key halt old next after new → HasNoCall new 0 → KeepsIdle old new
called_idle m tries key halt after old new (collections.over by none) own = idle_by old new (has_rounds_clients m tries key halt after old new by) own
called_idle m tries key halt after old new (collections.ended {told = told} answer by ends) own = idle_by old new (clients_join old told new (has_rounds_clients m tries key halt after old told by) (end_clients m told new answer ends)) own

-- ---- its steps
pub goes_on_due : {S V : Type 0} (view : View S V) (key : List ℕ) (step : CollectStep) → IsDue view key step → ExchangeGoesOn view
goes_on_due view key step was = record { order = was.order; is_open = was.is_open; untold = was.untold }

pub taken_on : {S V : Type 0} {m : Meaning S V} {net between : NetworkView} {old mid : View S V} {next : NetworkView} {new : View S V} → HasTaken m net old between mid → HasTaken m between mid next new → HasTaken m net old next new
taken_on before collections.none = before
taken_on before (collections.one_more more on by) = collections.one_more (taken_on before more) on by

pub one_step : {S V : Type 0} {m : Meaning S V} {net next : NetworkView} {old new : View S V} (key : List ℕ) (step : CollectStep) → IsDue old key step → TakesCollectStep m net old next new → HasTaken m net old next new
one_step {old = old} key step was by = collections.one_more collections.none (goes_on_due old key step was) by

-- the next one is due
due_on : {S V : Type 0} (old new : View S V) (key : List ℕ) (step : CollectStep) (was : IsDue old key step) (next : CollectionView) → new.council.order ≡ Some (silent_order was.order) → new.council.collection ≡ Some next → next.course ≡ course_stepped was.collection.course → new.council.exchange ≡ None → HasNoCall new 0
    → IsDue new key (step_after was.collection.course.proposers step)
due_on old new key step was next order collection course quiet idle = record {
  order = silent_order was.order;
  is_open = order;
  is_for = was.is_for;
  untold = refl;
  collection = next;
  is_collection = collection;
  same_key = ap (λ (c : Collection). c.key) course ∙ was.same_key;
  is_due = ap (λ (c : Collection). c.step) course ∙ ap (step_after was.collection.course.proposers) was.is_due;
  quiet = quiet;
  idle = idle;
}

pub goes_due : {S V : Type 0} (old new : View S V) (key : List ℕ) (step : CollectStep) (was : IsDue old key step) → GoesOnCollecting old new → HasNoCall new 0 → IsDue new key (step_after was.collection.course.proposers step)
goes_due {S} {V} old new key step was by idle =
    due_on old new key step was by.next (ap (λ (c : Council). c.order) by.is ∙ ap (option_map silent_order) was.is_open) (ap (λ (c : Council). c.collection) by.is) (by.course ∙ ap (λ (c : CollectionView). course_stepped c.course) (some_is (sym by.was ∙ was.is_collection)))
    (ap (λ (c : Council). c.exchange) by.is ∙ was.quiet) idle

pub due_step : {S V : Type 0} (view : View S V) (key : List ℕ) (step : CollectStep) → IsDue view key step → IsDueStep view step
due_step view key step was = record { collection = was.collection; is_collection = was.is_collection; is_due = was.is_due }

pub may_ask_due : {S V : Type 0} (view : View S V) (key : List ℕ) (step : CollectStep) → IsDue view key step → MayAskCollected view step
may_ask_due view key step was = record { collection = was.collection; is_collection = was.is_collection; is_due = was.is_due; none_open = was.quiet; idle = was.idle }

pub confirmed_due : {S V : Type 0} (old new : View S V) (key : List ℕ) (step : CollectStep) (result : Gathered) (was : IsDue old key step) → HasConfirmed old result new → KeepsIdle old new → IsDue new key (step_after was.collection.course.proposers step)
confirmed_due {S} {V} old new key step result was by idle =
    due_on old new key step was (record (confirmed_step by.collection) { removed = by.removed; kept = by.kept }) (by.goes_on ∙ ap (λ (o : OrderView). Some (silent_order o)) (some_is (sym by.was_open ∙ was.is_open))) by.is_collection
    (ap (λ (c : CollectionView). course_stepped c.course) (some_is (sym by.was_collection ∙ was.is_collection))) by.over (idle.idle 0 was.idle)

-- ---- its round is gathered
pub may_gather_round : {S V : Type 0} (view : View S V) (key : List ℕ) → IsTombstoneSet view key → MayGather view
may_gather_round view key was = world.its_round (record { collection = was.due.collection; is_collection = was.due.is_collection; is_due = was.due.is_due; over = was.over; known = was.known; none_open = was.due.quiet; idle = was.due.idle })

pub as_gather_round : {S V : Type 0} (m : Meaning S V) (old new : View S V) (key : List ℕ) → IsTombstoneSet old key → Step m old (gathering_of old) new → StepGatherRound old new
as_gather_round m old new key was by = subst (λ (o : Option ExchangeView). Step m old (gathering_by o) new) was.due.quiet by

pub gather_round_idle : {S V : Type 0} (old new : View S V) → StepGatherRound old new → KeepsIdle old new
gather_round_idle {S} {V} old new by = by_case by.gathers
  where
    idle_of : (changed : View S V) → new ≡ changed → changed.last_proposer ≡ old.last_proposer → changed.callers ≡ old.callers → KeepsIdle old new
    idle_of changed is last_proposer callers = record {
      last_proposer = ap (λ (w : View S V). w.last_proposer) is ∙ last_proposer;
      idle = λ p was. record { caller = was.caller; at_caller = ap (λ (w : View S V). slice_get w.callers p) is ∙ ap (λ (l : List CallerView). slice_get l p) callers ∙ was.at_caller; none_open = was.none_open };
    }

    by_case : GathersRound old by.at new → KeepsIdle old new
    by_case (collects.all ballot by_ acked accept is) = idle_of _ is refl refl
    by_case (collects.is_absent ballot by_ acceptor acked least is) = idle_of _ is refl refl
    by_case (collects.is_held version held is) = idle_of _ is refl refl

pub round_due : {S V : Type 0} (old new : View S V) (key : List ℕ) (result : Gathered) → IsTombstoneSet old key → HasGathered old result new → HasNoCall new 0 → IsDue new key (due.Renew 0)
round_due {S} {V} old new key result was (world.acknowledged collection none is_collection came next) idle =
    due_on old new key due.Round was.due (confirmed_step collection) (ap (λ (c : Council). c.order) next ∙ ap (option_map silent_order) was.due.is_open) (ap (λ (c : Council). c.collection) next)
    (ap (λ (c : CollectionView). course_stepped c.course) (some_is (sym is_collection ∙ was.due.is_collection))) (ap (λ (c : Council). c.exchange) next) idle
round_due old new key result was (world.probed exchange asked kept is_open is plain is_probed has_found told) idle = absurd (cc (sym was.due.quiet ∙ is_open))
round_due old new key result was (world.read exchange asked era agreement kept is_open is reads safe is_read has_found agrees told) idle = absurd (cc (sym was.due.quiet ∙ is_open))
round_due old new key result was (world.lists exchange places plan listing is_open is is_plan came next) idle = absurd (cc (sym was.due.quiet ∙ is_open))
round_due old new key result was (world.confirmed exchange collection removed kept is_open of_it is_collection came next) idle = absurd (cc (sym was.due.quiet ∙ is_open))

-- ---- the floor
pub floor_idle : {S V : Type 0} (old new : View S V) → StepMakeFloor old new → KeepsIdle old new
floor_idle {S} {V} old new by = record {
  last_proposer = ap (λ (w : View S V). w.last_proposer) by.view;
  idle = λ p was. record { caller = was.caller; at_caller = ap (λ (w : View S V). slice_get w.callers p) by.view ∙ was.at_caller; none_open = was.none_open };
}

-- ---- renewals
pub renew_idle : {S V : Type 0} (m : Meaning S V) (old new : View S V) (proposer : ℕ) → StepRenew m old proposer new → KeepsIdle old new
renew_idle {S} {V} m old new proposer by = by_case by.renews
  where
    none_changes : KeepsIdle old old
    none_changes = record { last_proposer = refl; idle = λ p was. was }

    by_case : RenewsNext m old by.at proposer by.desk new → KeepsIdle old new
    by_case (collects.renews age middle leaves is) =
        let before = (leaves_idle old middle proposer leaves).keeps in
        record {
          last_proposer = ap (λ (w : View S V). w.last_proposer) is ∙ before.last_proposer;
          idle = λ p was. let mid = before.idle p was in record { caller = mid.caller; at_caller = ap (λ (w : View S V). slice_get w.callers p) is ∙ mid.at_caller; none_open = mid.none_open };
        }
    by_case (collects.is_down down is) = told_idle old old new _ none_changes is
    by_case (collects.fails middle down is) = told_idle old middle new _ (down_idle old middle proposer down) is
    by_case (collects.is_spent up spent is) = told_idle old old new _ none_changes is
    by_case (collects.no_memory now up finds is) = record {
      last_proposer = ap (λ (w : View S V). w.last_proposer) is;
      idle = λ p was. record { caller = was.caller; at_caller = ap (λ (w : View S V). slice_get w.callers p) is ∙ was.at_caller; none_open = was.none_open };
    }

-- how many renewals are left at most
abbrev pub renewals_from : ℕ → Option ℕ → ℕ
renewals_from last_proposer None = 0
renewals_from last_proposer (Some proposer) = last_proposer + 1 - proposer

abbrev pub renewals_left : {S V : Type 0} → View S V → ℕ
renewals_left view = renewals_from view.last_proposer (renewal_in view.council.collection)

-- a renewal is due, or the members are to be told the new ages
pub data IsRenewalDue {S V : Type 0} (view : View S V) (key : List ℕ) : Type 0 where
  renews : (proposer : ℕ) → IsDue view key (due.Renew proposer) → IsRenewalDue view key
  renewed : IsDue view key due.Ages → IsRenewalDue view key

renewal_due : {S V : Type 0} (view : View S V) (key : List ℕ) (step : CollectStep) → IsDue view key step → renewal_in view.council.collection ≡ renewal_of step
renewal_due view key step was = ap renewal_in was.is_collection ∙ ap renewal_of was.is_due

pub due_renewal : {S V : Type 0} (view : View S V) (key : List ℕ) (proposer : ℕ) → IsRenewalDue view key → renewal_in view.council.collection ≡ Some proposer → IsDue view key (due.Renew proposer)
due_renewal view key proposer (renews other was) is = subst (λ (p : ℕ). IsDue view key (due.Renew p)) (some_is (sym (renewal_due view key (due.Renew other) was) ∙ is)) was
due_renewal view key proposer (renewed was) is = absurd (cc (sym (renewal_due view key due.Ages was) ∙ is))

pub all_renewed : {S V : Type 0} (view : View S V) (key : List ℕ) → IsRenewalDue view key → renewal_in view.council.collection ≡ None → IsDue view key due.Ages
all_renewed view key (renews other was) is = absurd (cc (sym (renewal_due view key (due.Renew other) was) ∙ is))
all_renewed view key (renewed was) is = was

pub record RenewedSo {S V : Type 0} (old new : View S V) (key : List ℕ) : Type 0 where
  pub still : IsRenewalDue new key
  pub fewer : renewals_left new < renewals_left old

pub renewed_so : {S V : Type 0} (old new : View S V) (key : List ℕ) (proposer : ℕ) → proposer ≤ old.last_proposer → IsDue old key (due.Renew proposer) → GoesOnCollecting old new → KeepsIdle old new → RenewedSo old new key
renewed_so {S} {V} old new key proposer few was by idle = by_last (nat_lt proposer was.collection.course.proposers) (goes_due old new key (due.Renew proposer) was by (idle.idle 0 was.idle))
  where
    before : renewals_left old ≡ old.last_proposer + 1 - proposer
    before = ap (renewals_from old.last_proposer) (renewal_due old key (due.Renew proposer) was)

    by_last : (more : Bool) → IsDue new key (if more then due.Renew (proposer + 1) else due.Ages) → RenewedSo old new key
    by_last true now = record { still = renews (proposer + 1) now; fewer = omega (arith, few, before, idle.last_proposer, ap (renewals_from new.last_proposer) (renewal_due new key (due.Renew (proposer + 1)) now)) }
    by_last false now = record { still = renewed now; fewer = omega (arith, few, before, ap (renewals_from new.last_proposer) (renewal_due new key due.Ages now)) }

-- ---- all of them
-- the steps up to one that is due
pub record HasLed {S V : Type 0} (m : Meaning S V) (net : NetworkView) (old : View S V) (next : NetworkView) (new : View S V) (key : List ℕ) (step : CollectStep) : Type 0 where
  pub taken : HasTaken m net old next new
  pub now_due : IsDue new key step
  pub idle : KeepsIdle old new

-- and one more, which may be the last
pub taken_then : {S V : Type 0} {m : Meaning S V} {net between next : NetworkView} {old mid new : View S V} (key : List ℕ) (step : CollectStep) → HasLed m net old between mid key step → TakesCollectStep m between mid next new → HasTaken m net old next new
taken_then key step led by = collections.one_more led.taken (goes_on_due _ key step led.now_due) by

idle_join : {S V : Type 0} (old mid new : View S V) → KeepsIdle old mid → KeepsIdle mid new → KeepsIdle old new
idle_join old mid new before after = record { last_proposer = after.last_proposer ∙ before.last_proposer; idle = λ id was. after.idle id (before.idle id was) }

module _ {S V : Type 0} (m : Meaning S V) {net : NetworkView} (old new : View S V) (key : List ℕ) where
  pub led_round : (result : Gathered) → IsTombstoneSet old key → Step m old (gathering_of old) new → HasGathered old result new → HasLed m net old net new key (due.Renew 0)
  led_round result was by found =
      let step = as_gather_round m old new key was by in
      let idle = gather_round_idle old new step in
      record { taken = one_step key due.Round was.due (collections.gathers step); now_due = round_due old new key result was found (idle.idle 0 was.due.idle); idle = idle }

  pub led_renewals : {next : NetworkView} (mid : View S V) → HasLed m net old next mid key (due.Renew 0) → HasTaken m next mid next new → IsDue new key due.Ages → KeepsIdle mid new → HasLed m net old next new key due.Ages
  led_renewals mid led taken now idle = record { taken = taken_on led.taken taken; now_due = now; idle = idle_join old mid new led.idle idle }

  pub led_ages : {between next : NetworkView} (mid : View S V) (result : Gathered) → HasLed m net old between mid key due.Ages → AsksMembers m between AskCollect GatherCollect mid next new → HasConfirmed mid result new → KeepsCalls mid new → HasLed m net old next new key due.Floor
  led_ages mid result led by found calls = record {
    taken = taken_then key due.Ages led (collections.asks by);
    now_due = confirmed_due mid new key due.Ages result led.now_due found (keeps_idle mid new calls);
    idle = idle_join old mid new led.idle (keeps_idle mid new calls);
  }

  pub led_floor : {next : NetworkView} (mid : View S V) → HasLed m net old next mid key due.Floor → StepMakeFloor mid new → GoesOnCollecting mid new → HasLed m net old next new key due.Remove
  led_floor mid led by goes =
      let idle = floor_idle mid new by in
      record { taken = taken_then key due.Floor led (collections.marks by); now_due = goes_due mid new key due.Floor led.now_due goes (idle.idle 0 led.now_due.idle); idle = idle_join old mid new led.idle idle }

  pub led_removal : {between next : NetworkView} (mid : View S V) (result : Gathered) → HasLed m net old between mid key due.Remove → AsksMembers m between AskCollect GatherCollect mid next new → HasConfirmed mid result new → KeepsCalls mid new → HasLed m net old next new key due.End
  led_removal mid result led by found calls = record {
    taken = taken_then key due.Remove led (collections.asks by);
    now_due = confirmed_due mid new key due.Remove result led.now_due found (keeps_idle mid new calls);
    idle = idle_join old mid new led.idle (keeps_idle mid new calls);
  }

-- ---- its end
pub at_end : {S V : Type 0} (view : View S V) (key : List ℕ) → IsDue view key due.End → IsSomeAnd view.council.collection (λ c. c.course.step ≡ due.End)
at_end view key was = subst (λ (o : Option CollectionView). IsSomeAnd o (λ c. c.course.step ≡ due.End)) (sym was.is_collection) was.is_due

-- it is at its end, or was told why it goes no further
pub ends_so : {S V A : Type 0} (view : View S V) (key : List ℕ) (result : Result A OpAnswer) → OnOk result (IsDue view key due.End) → IfErr result (WasToldOrder view) → ExchangeGoesOn view → IsSomeAnd view.council.collection (λ c. c.course.step ≡ due.End)
ends_so view key (Ok done) ends told on = at_end view key ends
ends_so view key (Err said) ends told on = told_stays view said told on
