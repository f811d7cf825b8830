-- How a change of membership is opened, and what an era that is entered does to the world.
use Rattle.std.proofs.Common.{◌≡◌, ◌+◌, ◌-◌, ◌*◌, ◌<◌, ◌≤◌, ℕ, suc, nat_eq, Bool, true, false, List, [], ◌∷◌, Option, None, Some, length, slice_get, refl, sym, ap, subst, ◌∙◌, inl, inr, arith, eqb-true}
use Rattle.std.specs.Prelude.{◌⊎◌, ◌==◌, IsSome, option_map, if◌then◌else◌}
use Rattle.std.proofs.lemmas.Bool.{eqb-false}
use Rattle.std.proofs.Math.Nat.{mul-le-mul_left}
use Rattle.cas_base.proofs.Bools.{true_or_false}
use Rattle.cas_members.specs.declared.plan.PlanStep.{PlanStep}
use Rattle.cas_members.specs.declared.plan.PlanStep.TheVariants.{Settle, Enter, Finished}
use Rattle.cas_members.specs.Plan.{next_of}
use Rattle.cas_proposer.specs.Desk.{DeskView}
use Rattle.cas_quorum.specs.declared.era.Era.{Era}
use Rattle.cas_record.specs.declared.operator.Asked.{Asked}
use Rattle.cas_record.specs.declared.operator.OpAnswer.{OpAnswer}
use Rattle.cas_model.specs.Council.{Council, OrderView, PlanView, IsAtRest, told_so}
use Rattle.cas_model.specs.Eras.Course.{entering, next_era, entered_by}
use Rattle.cas_model.specs.Exchanges.Step.{StepOrder, StepRefuseKey, told_view}
use Rattle.cas_model.specs.Eras.Step as plans
use Rattle.cas_model.specs.Eras.Step.{StepOpenPlan, OpensPlan, Welcomes, StepEnterEra, EntersNext, plan_after, rest_of}
use Rattle.cas_model.specs.Stops.Step as stops
use Rattle.cas_model.specs.Stops.Step.{LeavesRound, GoesDown}
use Rattle.cas_model.specs.View.{Meaning, View, CallView, CallerView, IsAt}
use Rattle.cas_model.proofs.Places.{at_one, some_is}
use Rattle.cas_world.specs.Calls.Beginning.{HasNoCall}
use Rattle.cas_world.specs.Eras.Plans.{IsFor, IsUnderWay, MayOpenPlan, MayEnterNext, entrant_of, step_of}
use Rattle.casreg_script.specs.Exchanges.Exchanges.{KeepsCalls}
use Rattle.casreg_script.specs.Eras.Membership as membership
use Rattle.casreg_script.specs.Eras.Membership.{HasAdvanced, left_of, steps_left}
use Rattle.casreg_script.specs.Frames.Conditions.{NetworkView}
use Rattle.casreg_script.specs.Exchanges.Orders.{IsFree, IsOrdered, KeepsIdle}
use Rattle.casreg_script.specs.declared.halt.Halt.{Halt}
use Rattle.casreg_script.proofs.Others.{get_other}

-- ---- the operator's call begins
pub is_ordered : {S V : Type 0} (old new : View S V) (what : Asked) → StepOrder old what new → IsOrdered new what
is_ordered {S} {V} old new what by = record { order = record { asked = what; told = None }; is_open = ap (λ (w : View S V). w.council.order) by.view; is_for = refl; untold = refl }

pub free_then : {S V : Type 0} (old new : View S V) (what : Asked) → IsAtRest old.council → HasNoCall new 0 → StepOrder old what new → IsFree new
free_then {S} {V} old new what rest idle by = record { quiet = ap (λ (w : View S V). w.council.exchange) by.view ∙ rest.exchange; idle = idle }

-- ---- a change begins
pub may_open : {S V : Type 0} (view : View S V) (what : Asked) → IsOrdered view what → (IsFor view.council.plan what → ⊥) → MayOpenPlan view what
may_open view what was not_yet = record { order = was.order; is_open = was.is_open; is_for = was.is_for; not_yet = not_yet }

-- no call of a caller changes, and no exchange opens
pub record OpensNothing {S V : Type 0} (old new : View S V) : Type 0 where
  pub calls : KeepsCalls old new
  pub exchange : new.council.exchange ≡ old.council.exchange

opens_by : {S V : Type 0} (old changed new : View S V) → new ≡ changed → changed.last_proposer ≡ old.last_proposer → changed.callers ≡ old.callers → changed.council.exchange ≡ old.council.exchange → OpensNothing old new
opens_by {S} {V} old changed new is last_proposer callers exchange = record {
  calls = record { last_proposer = ap (λ (w : View S V). w.last_proposer) is ∙ last_proposer; callers = ap (λ (w : View S V). w.callers) is ∙ callers };
  exchange = ap (λ (w : View S V). w.council.exchange) is ∙ exchange;
}

welcomes_keep : {S V : Type 0} (m : Meaning S V) (old new : View S V) (what : Asked) → Welcomes m old what new → OpensNothing old new
welcomes_keep m old new what (plans.starts id acceptor now joins at starts is) = opens_by old _ new is refl refl refl
welcomes_keep m old new what (plans.fails id acceptor now joins at fails is) = opens_by old _ new is refl refl refl
welcomes_keep m old new what (plans.is_up id acceptor joins at up is) = opens_by old old new is refl refl refl
welcomes_keep m old new what (plans.stays joins_none is) = opens_by old old new is refl refl refl

then_opens : {S V : Type 0} (old mid new : View S V) → OpensNothing old mid → OpensNothing mid new → OpensNothing old new
then_opens old mid new before after = record {
  calls = record { last_proposer = after.calls.last_proposer ∙ before.calls.last_proposer; callers = after.calls.callers ∙ before.calls.callers };
  exchange = after.exchange ∙ before.exchange;
}

pub open_keeps : {S V : Type 0} (m : Meaning S V) (old new : View S V) → StepOpenPlan m old new → OpensNothing old new
open_keeps {S} {V} m old new by = by_case by.opens
  where
    by_case : OpensPlan m old by.order.asked by.desk new → OpensNothing old new
    by_case (plans.is_down down is) = opens_by old _ new is refl refl refl
    by_case (plans.is_busy plan up is_plan is) = opens_by old _ new is refl refl refl
    by_case (plans.refuses fault up none_yet planned is) = opens_by old _ new is refl refl refl
    by_case (plans.opens progress middle up none_yet planned welcomes is) = then_opens old middle new (welcomes_keep m old middle by.order.asked welcomes) (opens_by middle _ new is refl refl refl)
    by_case (plans.no_memory progress middle up none_yet planned welcomes is) = then_opens old middle new (welcomes_keep m old middle by.order.asked welcomes) (opens_by middle _ new is refl refl refl)

-- ---- no memory for a key
pub key_keeps : {S V : Type 0} (old new : View S V) → StepRefuseKey old new → KeepsCalls old new
key_keeps {S} {V} old new by = record { last_proposer = ap (λ (w : View S V). w.last_proposer) by.view; callers = ap (λ (w : View S V). w.callers) by.view }

-- ---- an era is entered
-- the proposer that is due is that of the plan
record IsEntrant (plan : PlanView) (proposer : ℕ) : Type 0 where
  next : Era
  is_next : entering plan.progress.left ≡ Some next
  is_due : plan.entered ≡ proposer

entrant_is : (plan : PlanView) (proposer : ℕ) → entrant_of (Some plan) ≡ Some proposer → IsEntrant plan proposer
entrant_is plan proposer due = by_next (entering plan.progress.left) refl due
  where
    by_next : (next : Option Era) → entering plan.progress.left ≡ next → option_map (λ (era : Era). plan.entered) next ≡ Some proposer → IsEntrant plan proposer
    by_next None is due = absurd (cc due)
    by_next (Some next) is due = record { next = next; is_next = is; is_due = some_is due }

pub may_enter : {S V : Type 0} (view : View S V) (what : Asked) (proposer : ℕ) → IsUnderWay view what → entrant_of view.council.plan ≡ Some proposer → MayEnterNext view proposer
may_enter view what proposer was due =
    let is = entrant_is was.plan.open_plan proposer (sym (ap entrant_of was.plan.is_open) ∙ due) in
    record {
      order = was.order;
      is_order = was.is_open;
      plan = was.plan.open_plan;
      is_plan = was.plan.is_open;
      is_for = was.plan.same ∙ sym was.is_for;
      next = is.next;
      is_next = ap next_era was.plan.is_open ∙ is.is_next;
      is_due = is.is_due;
    }

-- a proposer is due where the next step enters an era
pub some_due : {S V : Type 0} (view : View S V) (era : Era) → step_of view.council.plan ≡ Some (Enter era) → IsSome (entrant_of view.council.plan)
some_due view era enters = by_plan view.council.plan enters
  where
    by_left : (plan : PlanView) (left : List PlanStep) → plan.progress.left ≡ left → next_of left ≡ Enter era → IsSome (entrant_of (Some plan))
    by_left plan [] is enters = absurd (cc enters)
    by_left plan (Settle ∷ later) is enters = absurd (cc enters)
    by_left plan (Finished ∷ later) is enters = absurd (cc enters)
    by_left plan (Enter next ∷ later) is enters = subst (λ (l : List PlanStep). IsSome (option_map (λ (e : Era). plan.entered) (entering l))) (sym is) refl

    by_plan : (plan : Option PlanView) → step_of plan ≡ Some (Enter era) → IsSome (entrant_of plan)
    by_plan None is = absurd (cc is)
    by_plan (Some plan) is = by_left plan plan.progress.left refl (some_is is)

-- ---- what the callers of open rounds lose
-- no call is opened
pub record OpensNoCall {S V : Type 0} (old new : View S V) : Type 0 where
  pub keeps : KeepsIdle old new
  pub council : new.council ≡ old.council

pub leaves_idle : {S V : Type 0} {D : DeskView V → DeskView V → Type 0} {closed : CallView → CallView} (old new : View S V) (id : ℕ) → LeavesRound D closed old id new → OpensNoCall old new
leaves_idle {S} {V} old new id (stops.idle desk now at none_open turns is) = record {
  keeps = record {
    last_proposer = ap (λ (w : View S V). w.last_proposer) is;
    idle = λ p was. record { caller = was.caller; at_caller = ap (λ (w : View S V). slice_get w.callers p) is ∙ was.at_caller; none_open = was.none_open };
  };
  council = ap (λ (w : View S V). w.council) is;
}
leaves_idle {S} {V} {D} {closed} old new id (stops.closes desk now round of_call at is_round turns is) = record {
  keeps = record { last_proposer = ap (λ (w : View S V). w.last_proposer) is; idle = idle };
  council = ap (λ (w : View S V). w.council) is;
}
  where
    idle : (p : ℕ) → HasNoCall old p → HasNoCall new p
    idle p was = elim (true_or_false (nat_eq p id)) [
      | inl same ↦ absurd (cc (sym of_call.is_open ∙ ap (λ (c : CallerView). c.call) (at_one old.callers id of_call.at_caller (subst (λ (n : ℕ). IsAt old.callers n was.caller) (eqb-true p id same) was.at_caller)) ∙ was.none_open))
      | inr other ↦ record { caller = was.caller; at_caller = ap (λ (w : View S V). slice_get w.callers p) is ∙ get_other old.callers id _ p (eqb-false p id other) ∙ was.at_caller; none_open = was.none_open }
    ]

pub told_idle : {S V : Type 0} (old middle new : View S V) (told : OpAnswer) → KeepsIdle old middle → new ≡ told_view middle told → KeepsIdle old new
told_idle {S} {V} old middle new told before is = record {
  last_proposer = ap (λ (w : View S V). w.last_proposer) is ∙ before.last_proposer;
  idle = λ p was. let mid = before.idle p was in record { caller = mid.caller; at_caller = ap (λ (w : View S V). slice_get w.callers p) is ∙ mid.at_caller; none_open = mid.none_open };
}

pub down_idle : {S V : Type 0} {D : DeskView V → DeskView V → Type 0} (old new : View S V) (id : ℕ) → GoesDown D old id new → KeepsIdle old new
down_idle old new id (stops.of_client client leaves) = (leaves_idle old new id leaves).keeps
down_idle {S} {V} old new id (stops.of_operator middle operator leaves is) =
    let before = (leaves_idle old middle id leaves).keeps in
    record {
      last_proposer = ap (λ (w : View S V). w.last_proposer) is ∙ before.last_proposer;
      idle = λ p was. let mid = before.idle p was in record { caller = mid.caller; at_caller = ap (λ (w : View S V). slice_get w.callers p) is ∙ mid.at_caller; none_open = mid.none_open };
    }

pub enter_idle : {S V : Type 0} (m : Meaning S V) (old new : View S V) (proposer : ℕ) → StepEnterEra m old proposer new → KeepsIdle old new
enter_idle {S} {V} m old new proposer by = by_case by.enters
  where
    none_changes : KeepsIdle old old
    none_changes = record { last_proposer = refl; idle = λ p was. was }

    by_case : EntersNext m old by.plan by.next by.desk new → KeepsIdle old new
    by_case (plans.enters middle room leaves is) =
        let before = (leaves_idle old middle by.plan.entered leaves).keeps in
        record {
          last_proposer = ap (λ (w : View S V). w.last_proposer) is ∙ before.last_proposer;
          idle = λ p was. let mid = before.idle p was in record { caller = mid.caller; at_caller = ap (λ (w : View S V). slice_get w.callers p) is ∙ mid.at_caller; none_open = mid.none_open };
        }
    by_case (plans.is_full full is) = told_idle old old new _ none_changes is
    by_case (plans.is_down room down is) = told_idle old old new _ none_changes is
    by_case (plans.fails middle room down is) = told_idle old middle new _ (down_idle old middle by.plan.entered down) is
    by_case (plans.no_memory now room up kept is_now is) = record {
      last_proposer = ap (λ (w : View S V). w.last_proposer) is;
      idle = λ p was. record { caller = was.caller; at_caller = ap (λ (w : View S V). slice_get w.callers p) is ∙ was.at_caller; none_open = was.none_open };
    }

-- ---- the change goes on
-- what is left: the proposers that have not entered the era, and the steps
abbrev pub entries_of : ℕ → Option PlanView → ℕ
entries_of last_proposer plan = (last_proposer + 2) * left_of plan + (last_proposer + 1 - entered_by plan)

abbrev pub entries_left : {S V : Type 0} → View S V → ℕ
entries_left view = entries_of view.last_proposer view.council.plan

-- the next proposer is due, or the step is taken
record After (last_proposer : ℕ) (plan next : PlanView) : Type 0 where
  no_more : left_of (Some next) ≤ left_of (Some plan)
  takes : (left_of (Some next) < left_of (Some plan)) ⊎ IsSome (entrant_of (Some next))
  fewer : entries_of last_proposer (Some next) < entries_of last_proposer (Some plan)

after_so : (last_proposer : ℕ) (plan : PlanView) (next : Era) → plan.entered ≤ last_proposer → entering plan.progress.left ≡ Some next → After last_proposer plan (plan_after last_proposer plan next)
after_so last_proposer plan next few next_is = by_last (plan.entered == last_proposer)
  where
    fewer_left : (left : List PlanStep) → entering left ≡ Some next → suc (length (rest_of left)) ≤ length left
    fewer_left [] is = absurd (cc is)
    fewer_left (step ∷ later) is = omega arith

    by_last : (b : Bool) → After last_proposer plan (if b then record plan { progress = record { era = next; left = rest_of plan.progress.left }; entered = 0; listing = None } else record plan { entered = suc plan.entered })
    by_last true =
        let less : suc (length (rest_of plan.progress.left)) ≤ length plan.progress.left = fewer_left plan.progress.left next_is in
        record {
          no_more = omega (arith, less);
          takes = inl (omega (arith, less));
          fewer = omega (arith, less, mul-le-mul_left (last_proposer + 2) less);
        }
    by_last false = record {
      no_more = omega arith;
      takes = inr (subst (λ (o : Option Era). IsSome (option_map (λ (e : Era). suc plan.entered) o)) (sym next_is) refl);
      fewer = omega (arith, few);
    }

pub record EntersNextEra {S V : Type 0} (old new : View S V) : Type 0 where
  pub exchange : new.council.exchange ≡ old.council.exchange
  pub no_more : steps_left new ≤ steps_left old
  pub takes : (steps_left new < steps_left old) ⊎ IsSome (entrant_of new.council.plan)
  pub fewer : entries_left new < entries_left old

down_order : {S V : Type 0} {D : DeskView V → DeskView V → Type 0} (old new : View S V) (id : ℕ) → GoesDown D old id new → new.council.order ≡ old.council.order
down_order old new id (stops.of_client client leaves) = ap (λ (c : Council). c.order) (leaves_idle old new id leaves).council
down_order {S} {V} old new id (stops.of_operator middle operator leaves is) = ap (λ (w : View S V). w.council.order) is ∙ ap (λ (c : Council). c.order) (leaves_idle old middle id leaves).council

pub enters_so : {S V : Type 0} (m : Meaning S V) (old new : View S V) (proposer : ℕ) (what : Asked) → proposer ≤ old.last_proposer → IsUnderWay new what → StepEnterEra m old proposer new → EntersNextEra old new
enters_so {S} {V} m old new proposer what few now by = by_case by.enters
  where
    -- nothing was told
    untold : (middle : View S V) (told : OpAnswer) → middle.council.order ≡ old.council.order → new ≡ told_view middle told → EntersNextEra old new
    untold middle told same is =
        let order : new.council.order ≡ Some (told_so told by.may.order) = ap (λ (w : View S V). w.council.order) is ∙ ap (option_map (told_so told)) (same ∙ by.may.is_open) in
        absurd (cc (ap (λ (o : OrderView). o.told) (some_is (sym order ∙ now.is_open)) ∙ now.untold))

    so : After old.last_proposer by.plan (plan_after old.last_proposer by.plan by.next)
    so = after_so old.last_proposer by.plan by.next (omega (arith, few, by.may.is_due)) (sym (ap next_era by.may.is_plan) ∙ by.may.is_next)

    goes_on : new.council.plan ≡ Some (plan_after old.last_proposer by.plan by.next) → new.last_proposer ≡ old.last_proposer → new.council.exchange ≡ old.council.exchange → EntersNextEra old new
    goes_on plan last_proposer exchange = record {
      exchange = exchange;
      no_more = omega (arith, so.no_more, ap left_of plan, ap left_of by.may.is_plan);
      takes = elim so.takes [
        | inl less ↦ inl (omega (arith, less, ap left_of plan, ap left_of by.may.is_plan))
        | inr due ↦ inr (subst (λ (p : Option PlanView). IsSome (entrant_of p)) (sym plan) due)
      ];
      fewer = subst (λ (n : ℕ). n < entries_left old) (sym (ap (λ (g : ℕ). entries_of g new.council.plan) last_proposer ∙ ap (entries_of old.last_proposer) plan))
          (subst (λ (n : ℕ). entries_of old.last_proposer (Some (plan_after old.last_proposer by.plan by.next)) < n) (sym (ap (entries_of old.last_proposer) by.may.is_plan)) so.fewer);
    }

    by_case : EntersNext m old by.plan by.next by.desk new → EntersNextEra old new
    by_case (plans.enters middle room leaves is) =
        let before = leaves_idle old middle by.plan.entered leaves in
        goes_on (ap (λ (w : View S V). w.council.plan) is ∙ ap (λ (n : ℕ). Some (plan_after n by.plan by.next)) before.keeps.last_proposer) (ap (λ (w : View S V). w.last_proposer) is ∙ before.keeps.last_proposer)
        (ap (λ (w : View S V). w.council.exchange) is ∙ ap (λ (c : Council). c.exchange) before.council)
    by_case (plans.is_full full is) = untold old _ refl is
    by_case (plans.is_down room down is) = untold old _ refl is
    by_case (plans.fails middle room down is) = untold middle _ (down_order old middle by.plan.entered down) is
    by_case (plans.no_memory desk room up kept is_now is) = untold _ _ refl is

-- ---- one step after another
pub advances_on : {S V : Type 0} {m : Meaning S V} {tries : ℕ} {net between : NetworkView} {halt before : Halt} {old mid : View S V} {next : NetworkView} {after : Halt} {new : View S V} → HasAdvanced m tries net halt old between before mid → HasAdvanced m tries between before mid next after new → HasAdvanced m tries net halt old next after new
advances_on first membership.none = first
advances_on first (membership.one_more more on by) = membership.one_more (advances_on first more) on by
