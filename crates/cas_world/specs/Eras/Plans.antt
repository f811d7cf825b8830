-- Changes of membership, as a world's calls begin them and lead proposers on.
use Rattle.std.specs.Prelude.{◌≡◌, ℕ, false, List, [], Option, None, Some, Result, option_map}
use Rattle.cas_members.specs.declared.plan.PlanStep.{PlanStep}
use Rattle.cas_members.specs.Plan.{next_of, join_of, leave_of, resize_of}
use Rattle.cas_members.specs.Steps.{Progress}
use Rattle.cas_quorum.specs.declared.era.Era.{Era}
use Rattle.cas_quorum.specs.declared.fault.PlanFault.{PlanFault}
use Rattle.cas_record.specs.declared.operator.Asked.{Asked}
use Rattle.cas_record.specs.declared.operator.Asked.TheVariants.{Join as ToJoin, Leave as ToLeave, Resize as ToResize}
use Rattle.cas_record.specs.declared.operator.OpAnswer.{OpAnswer}
use Rattle.cas_model.specs.Council.{ListingView, OrderView, PlanView}
use Rattle.cas_model.specs.Eras.Course.{next_era}
use Rattle.cas_model.specs.Exchanges.Step.{IsCollectedBy, IsFinishedBy}
use Rattle.cas_model.specs.View.{View, era_at}
use Rattle.cas_world.specs.Exchanges.Exchange.{WasToldOrder}
use Rattle.cas_world.specs.declared.plans.PlanKind.{PlanKind}
use Rattle.cas_world.specs.declared.plans.Target.{Target}
use Rattle.cas_world.specs.declared.plans.Target.TheVariants as target
use Rattle.cas_world.specs.declared.plans.PlanKind.TheVariants.{Join, Leave}

-- ---- what is asked for
abbrev pub asked_to : PlanKind → ℕ → Asked
asked_to Join id = ToJoin id
asked_to Leave id = ToLeave id

abbrev pub asked_of : Target → Asked
asked_of (target.Join id) = ToJoin id
asked_of (target.Leave id) = ToLeave id
asked_of (target.Resize need_prep need_acc) = ToResize need_prep need_acc

-- the plan that leads there
abbrev pub planned_of : Target → Era → List ℕ → Result Progress PlanFault
planned_of (target.Join id) era used = join_of era used id
planned_of (target.Leave id) era used = leave_of era id
planned_of (target.Resize need_prep need_acc) era used = resize_of era need_prep need_acc

-- the change that is under way was opened for just that
pub record IsFor (plan : Option PlanView) (asked : Asked) : Type 0 where
  pub open_plan : PlanView
  pub is_open : plan ≡ Some open_plan
  pub same : open_plan.asked ≡ asked

-- the operator's call asks for it, and it is not under way
pub record MayOpenPlan {S V : Type 0} (view : View S V) (asked : Asked) : Type 0 where
  pub order : OrderView
  pub is_open : view.council.order ≡ Some order
  pub is_for : order.asked ≡ asked
  pub not_yet : IsFor view.council.plan asked → ⊥

-- the operator's call asks for it, it is under way, and the call's last step told nothing
pub record IsUnderWay {S V : Type 0} (view : View S V) (asked : Asked) : Type 0 where
  pub order : OrderView
  pub is_open : view.council.order ≡ Some order
  pub is_for : order.asked ≡ asked
  pub untold : order.told ≡ None
  pub plan : IsFor view.council.plan asked

-- ---- what is read of it
abbrev pub step_of : Option PlanView → Option PlanStep
step_of plan = option_map (λ p. next_of p.progress.left) plan

abbrev pub rescanned_of : Option PlanView → ℕ
rescanned_of None = 0
rescanned_of (Some plan) = plan.rescanned

-- the proposer that has to enter the next era
abbrev pub entrant_of : Option PlanView → Option ℕ
entrant_of None = None
entrant_of (Some plan) = option_map (λ era. plan.entered) (next_era (Some plan))

-- it is at its end: no step is left, and all work in the era that all entered last
pub record IsAtEnd {S V : Type 0} (view : View S V) : Type 0 where
  pub plan : PlanView
  pub is_plan : view.council.plan ≡ Some plan
  pub none_left : plan.progress.left ≡ []
  pub era : plan.progress.era ≡ era_at view 0

-- no listing of the era that is to be settled is complete
pub record IsPartial (under_way : Option PlanView) : Type 0 where
  pub partial : (plan : PlanView) (listing : ListingView) → under_way ≡ Some plan → plan.listing ≡ Some listing → listing.complete ≡ false

-- ---- what the calls ask
-- the operator's call asks for the change, and it is the proposer's turn
pub record MayEnterNext {S V : Type 0} (view : View S V) (proposer : ℕ) : Type 0 where
  pub order : OrderView
  pub is_order : view.council.order ≡ Some order
  pub plan : PlanView
  pub is_plan : view.council.plan ≡ Some plan
  pub is_for : plan.asked ≡ order.asked
  pub next : Era
  pub is_next : next_era view.council.plan ≡ Some next
  pub is_due : plan.entered ≡ proposer

-- the call was told nothing since, and its change is at its end, as this answer tells
pub record HasFinished {S V : Type 0} (view : View S V) (answer : OpAnswer) : Type 0 where
  pub order : OrderView
  pub is_open : view.council.order ≡ Some order
  pub untold : order.told ≡ None
  pub finished : IsFinishedBy view.council order answer

-- the call was told nothing since, and its collection is at its end, as this answer tells
pub record HasCollectedAll {S V : Type 0} (view : View S V) (answer : OpAnswer) : Type 0 where
  pub order : OrderView
  pub is_open : view.council.order ≡ Some order
  pub untold : order.told ≡ None
  pub collected : IsCollectedBy view.council order answer

-- the operator's call may be told this: what its last step told, or that its change or its collection is at its end
pub data MayTell {S V : Type 0} (view : View S V) (answer : OpAnswer) : Type 0 where
  was_told : WasToldOrder view answer → MayTell view answer
  has_finished : HasFinished view answer → MayTell view answer
  has_collected : HasCollectedAll view answer → MayTell view answer
