use Rattle.std.proofs.Common.{◌≡◌, ℕ, List, Some, Ok, Err, refl, sym, ap, subst, ◌∙◌, arith}
use Rattle.std.specs.Prelude.{option_map}
use Rattle.cas_quorum.specs.declared.era.Era.{Era}
use Rattle.cas_members.specs.Plan.{HasOneSet}
use Rattle.cas_record.specs.declared.operator.Asked.{Asked}
use Rattle.cas_record.specs.declared.operator.OpAnswer.TheVariants as op
use Rattle.cas_model.specs.Council as cluster
use Rattle.cas_model.specs.Council.{PlanView, hushed, reserved_by}
use Rattle.cas_model.specs.Safe.{IsSafe}
use Rattle.cas_model.specs.Step as step
use Rattle.cas_model.specs.Exchanges.Step.{told_view}
use Rattle.cas_model.specs.Eras.Step as plans
use Rattle.cas_model.specs.Eras.Step.{StepOpenPlan, opened_plan, new_plan, used_with}
use Rattle.cas_model.specs.View.{View, IsAt, meaning, era_at}
use Rattle.cas_model.proofs.Safety.Steps.{steps_are_safe}
use Rattle.cas_world_calls.specs.Council.{council_view, plan_view}
use Rattle.cas_world.specs.Eras.Plans.{asked_of}
use Rattle.cas_world.specs.World.{view_of}
use Rattle.cas_world.proofs.Exchanges.Exchanges.{council_world, hushed_reserves, some_there}
use Rattle.cas_world.proofs.Eras.Planning.{opens_plan, told_last, welcome_council, settled_era, few_eras, none_there, planned_from, is_under_way, none_begins}
use Rattle.cas_world.proofs.Parts.{Remembers, at_place, remembered_then}
use Rattle.cas_world.proofs.world.World.open_change.Given.{Over}
use Rattle.cas_world.proofs.world.World.open_change.Goals as goal
use Rattle.cas_world.proofs.world.World.open_change.Goals.{After-begin_plan}

pub plan-requires-clause-one_set : goal.plan-requires-clause-one_set
plan-requires-clause-one_set g c =
    subst HasOneSet (sym c.era-2.ensures) (settled_era c.args.self.now (subst (λ (v : View g.row.S.Denot g.row.V.Denot). IsSafe v) c.self.view_is c.self.invariant.safe)
    (sym (ap (λ (v : View g.row.S.Denot g.row.V.Denot). v.council.plan) c.self.view_is) ∙ ap (option_map plan_view)
    (none_there c.self.inside.council.plan (sym c.is_some.ensures ∙ c.if-is_some.false)))).one_set

pub plan-requires-clause-number : goal.plan-requires-clause-number
plan-requires-clause-number g c = omega (
  arith,
  few_eras c.args.self.now (subst (λ (v : View g.row.S.Denot g.row.V.Denot). IsSafe v) c.self.view_is c.self.invariant.safe)
      (sym (ap (λ (v : View g.row.S.Denot g.row.V.Denot). v.council.plan) c.self.view_is) ∙ ap (option_map plan_view)
      (none_there c.self.inside.council.plan (sym c.is_some.ensures ∙ c.if-is_some.false))),
  ap (λ (e : Era). e.number) c.era-2.ensures,
)

pub returns-then-is_down-clause-step : goal.returns-then-is_down-clause-step
returns-then-is_down-clause-step g c = opens_plan (meaning g.S.Shelf g.V.Disk) c.args.self.now c.refuse.new.self c.args.target.now c.index.result.now
    (subst (λ (v : View g.row.S.Denot g.row.V.Denot). IsSafe v) c.self.view_is c.self.invariant.safe) c.requires
    (subst (λ (v : View g.row.S.Denot g.row.V.Denot). IsAt v.desks 0 c.index.result.now) c.self.view_is
    (at_place c.self.inside.desks.items 0 0 c.index.result.now refl (omega (arith, c.self.invariant.safe.sound.desks)) c.index.ensures))
    (plans.is_down (sym c.is_down.ensures ∙ c.if-is_down.true) c.refuse.ensures.told)
    (none_begins (meaning g.S.Shelf g.V.Disk) c.args.self.now c.args.self.now c.refuse.new.self (asked_of c.args.target.now) _ refl c.refuse.ensures.told)

pub returns-then-is_down-clause-err : goal.returns-then-is_down-clause-err
returns-then-is_down-clause-err g c = told_last c.args.self.now c.refuse.new.self c.requires.order _ c.refuse.result c.requires.is_open c.refuse.ensures.told c.refuse.ensures.answer

pub returns-then-is_some-clause-step : goal.returns-then-is_some-clause-step
returns-then-is_some-clause-step g c =
    let there = some_there c.self.inside.council.plan (sym c.is_some.ensures ∙ c.if-is_some.true) in
    opens_plan (meaning g.S.Shelf g.V.Disk) c.args.self.now c.refuse-then-is_some.new.self c.args.target.now c.index.result.now
    (subst (λ (v : View g.row.S.Denot g.row.V.Denot). IsSafe v) c.self.view_is c.self.invariant.safe) c.requires
    (subst (λ (v : View g.row.S.Denot g.row.V.Denot). IsAt v.desks 0 c.index.result.now) c.self.view_is
    (at_place c.self.inside.desks.items 0 0 c.index.result.now refl (omega (arith, c.self.invariant.safe.sound.desks)) c.index.ensures))
    (plans.is_busy (plan_view there.0) (sym c.is_down.ensures ∙ c.if-is_down.false)
    (sym (ap (λ (v : View g.row.S.Denot g.row.V.Denot). v.council.plan) c.self.view_is) ∙ ap (option_map plan_view) there.1)
    (c.refuse-then-is_some.ensures.told ∙ ap (λ (e : Era). told_view c.args.self.now (op.Busy e.number)) c.era.ensures))
    (none_begins (meaning g.S.Shelf g.V.Disk) c.args.self.now c.args.self.now c.refuse-then-is_some.new.self (asked_of c.args.target.now) _ refl c.refuse-then-is_some.ensures.told)

pub returns-then-is_some-clause-err : goal.returns-then-is_some-clause-err
returns-then-is_some-clause-err g c = told_last c.args.self.now c.refuse-then-is_some.new.self c.requires.order _ c.refuse-then-is_some.result c.requires.is_open
    c.refuse-then-is_some.ensures.told c.refuse-then-is_some.ensures.answer

pub returns-in-Err-clause-step : goal.returns-in-Err-clause-step
returns-in-Err-clause-step g c =
    opens_plan (meaning g.S.Shelf g.V.Disk) c.args.self.now c.refuse-in-Err.new.self c.args.target.now c.index.result.now
    (subst (λ (v : View g.row.S.Denot g.row.V.Denot). IsSafe v) c.self.view_is c.self.invariant.safe) c.requires
    (subst (λ (v : View g.row.S.Denot g.row.V.Denot). IsAt v.desks 0 c.index.result.now) c.self.view_is
    (at_place c.self.inside.desks.items 0 0 c.index.result.now refl (omega (arith, c.self.invariant.safe.sound.desks)) c.index.ensures))
    (plans.refuses c.in-Err.fault (sym c.is_down.ensures ∙ c.if-is_down.false)
    (sym (ap (λ (v : View g.row.S.Denot g.row.V.Denot). v.council.plan) c.self.view_is) ∙ ap (option_map plan_view)
    (none_there c.self.inside.council.plan (sym c.is_some.ensures ∙ c.if-is_some.false)))
    (planned_from c.args.target.now (era_at c.args.self.now 0) c.era-2.result.now c.args.self.now.council.used c.self.inside.council.used (Err c.in-Err.fault) c.era-2.ensures
    (ap (λ (v : View g.row.S.Denot g.row.V.Denot). v.council.used) c.self.view_is) (sym c.plan.ensures ∙ c.in-Err.is)) c.refuse-in-Err.ensures.told)
    (none_begins (meaning g.S.Shelf g.V.Disk) c.args.self.now c.args.self.now c.refuse-in-Err.new.self (asked_of c.args.target.now) _ refl c.refuse-in-Err.ensures.told)

pub returns-in-Err-clause-err : goal.returns-in-Err-clause-err
returns-in-Err-clause-err g c = told_last c.args.self.now c.refuse-in-Err.new.self c.requires.order _ c.refuse-in-Err.result c.requires.is_open c.refuse-in-Err.ensures.told
    c.refuse-in-Err.ensures.answer

pub returns-in_default-clause-step : goal.returns-in_default-clause-step
returns-in_default-clause-step g c =
    opens_plan (meaning g.S.Shelf g.V.Disk) c.args.self.now c.refuse-in_default.new.self c.args.target.now c.index.result.now
    (subst (λ (v : View g.row.S.Denot g.row.V.Denot). IsSafe v) c.self.view_is c.self.invariant.safe) c.requires
    (subst (λ (v : View g.row.S.Denot g.row.V.Denot). IsAt v.desks 0 c.index.result.now) c.self.view_is
    (at_place c.self.inside.desks.items 0 0 c.index.result.now refl (omega (arith, c.self.invariant.safe.sound.desks)) c.index.ensures))
    (plans.no_memory c.in-Ok.plan c.welcome.new.self (sym c.is_down.ensures ∙ c.if-is_down.false)
    (sym (ap (λ (v : View g.row.S.Denot g.row.V.Denot). v.council.plan) c.self.view_is) ∙ ap (option_map plan_view)
    (none_there c.self.inside.council.plan (sym c.is_some.ensures ∙ c.if-is_some.false)))
    (planned_from c.args.target.now (era_at c.args.self.now 0) c.era-2.result.now c.args.self.now.council.used c.self.inside.council.used (Ok c.in-Ok.plan) c.era-2.ensures
    (ap (λ (v : View g.row.S.Denot g.row.V.Denot). v.council.used) c.self.view_is) (sym c.plan.ensures ∙ c.in-Ok.is)) c.welcome.ensures.welcomes
    (c.refuse-in_default.ensures.told ∙ ap (told_view c.welcome.new.self) c.no_memory.ensures))
    (none_begins (meaning g.S.Shelf g.V.Disk) c.args.self.now c.welcome.new.self c.refuse-in_default.new.self (asked_of c.args.target.now) _
    (welcome_council (meaning g.S.Shelf g.V.Disk) c.args.self.now c.welcome.new.self (asked_of c.args.target.now) c.welcome.ensures.welcomes) c.refuse-in_default.ensures.told)

pub returns-in_default-clause-err : goal.returns-in_default-clause-err
returns-in_default-clause-err g c =
    told_last c.welcome.new.self c.refuse-in_default.new.self c.requires.order _ c.refuse-in_default.result
    (ap (λ (k : cluster.Council). k.order) (welcome_council (meaning g.S.Shelf g.V.Disk) c.args.self.now c.welcome.new.self (asked_of c.args.target.now) c.welcome.ensures.welcomes) ∙
    c.requires.is_open) c.refuse-in_default.ensures.told c.refuse-in_default.ensures.answer

-- ---- it begins
begun : (g : Over) (c : After-begin_plan g) → (view_of c.self-2.inside.setup.proposers c.begin_plan.new.self c.self-2.inside.acceptors.items c.self-2.inside.desks.items
    c.self-2.inside.callers.items c.self-2.inside.flow c.self-2.inside.record) ≡ opened_plan c.welcome.new.self (asked_of c.args.target.now) c.in-Ok.plan
begun g c =
    (λ i. record (view_of c.self-2.inside.setup.proposers c.self-2.inside.council c.self-2.inside.acceptors.items c.self-2.inside.desks.items c.self-2.inside.callers.items
    c.self-2.inside.flow c.self-2.inside.record) { eras = (c.begin_plan.ensures.eras i).0; council = c.begin_plan.ensures.opened i })
    ∙ ap (λ (v : View g.row.S.Denot g.row.V.Denot). record v { council = record (hushed v.council) { plan = Some (plan_view c.new-opened.result); used = c.in-Ok-welcome.used } }) c.self-2.view_is
    ∙ ap (λ (p : PlanView). record c.welcome.new.self { council = record (hushed c.welcome.new.self.council) { plan = Some p; used = c.in-Ok-welcome.used } })
    (c.new-opened.ensures ∙ ap (λ (a : Asked). new_plan a c.in-Ok.plan) c.asked.ensures)
    ∙ ap (λ (l : List ℕ). record c.welcome.new.self { council = record (hushed c.welcome.new.self.council) { plan = Some (new_plan (asked_of c.args.target.now) c.in-Ok.plan); used = l } })
    (c.in-Ok-welcome.ensures.used ∙ ap (λ (k : cluster.Council). used_with (asked_of c.args.target.now) k.used)
    (sym (welcome_council (meaning g.S.Shelf g.V.Disk) c.args.self.now c.welcome.new.self (asked_of c.args.target.now) c.welcome.ensures.welcomes)))

step_so : (g : Over) (c : After-begin_plan g) → StepOpenPlan (meaning g.S.Shelf g.V.Disk) c.args.self.now
    (view_of c.self-2.inside.setup.proposers c.begin_plan.new.self c.self-2.inside.acceptors.items c.self-2.inside.desks.items c.self-2.inside.callers.items c.self-2.inside.flow
    c.self-2.inside.record)
step_so g c =
    opens_plan (meaning g.S.Shelf g.V.Disk) c.args.self.now (view_of c.self-2.inside.setup.proposers c.begin_plan.new.self c.self-2.inside.acceptors.items c.self-2.inside.desks.items
    c.self-2.inside.callers.items c.self-2.inside.flow c.self-2.inside.record) c.args.target.now c.index.result.now
    (subst (λ (v : View g.row.S.Denot g.row.V.Denot). IsSafe v) c.self.view_is c.self.invariant.safe) c.requires
    (subst (λ (v : View g.row.S.Denot g.row.V.Denot). IsAt v.desks 0 c.index.result.now) c.self.view_is
    (at_place c.self.inside.desks.items 0 0 c.index.result.now refl (omega (arith, c.self.invariant.safe.sound.desks)) c.index.ensures))
    (plans.opens c.in-Ok.plan c.welcome.new.self (sym c.is_down.ensures ∙ c.if-is_down.false)
    (sym (ap (λ (v : View g.row.S.Denot g.row.V.Denot). v.council.plan) c.self.view_is) ∙ ap (option_map plan_view)
    (none_there c.self.inside.council.plan (sym c.is_some.ensures ∙ c.if-is_some.false)))
    (planned_from c.args.target.now (era_at c.args.self.now 0) c.era-2.result.now c.args.self.now.council.used c.self.inside.council.used (Ok c.in-Ok.plan) c.era-2.ensures
    (ap (λ (v : View g.row.S.Denot g.row.V.Denot). v.council.used) c.self.view_is) (sym c.plan.ensures ∙ c.in-Ok.is)) c.welcome.ensures.welcomes (begun g c))
    (λ plan none opened id was now joins at_was at_now fresh down. c.in-Ok-welcome.ensures.faulted id was now joins at_was
    (subst (λ (v : View g.row.S.Denot g.row.V.Denot). IsAt v.acceptors id now) (begun g c) at_now) fresh down)

pub invariant_of-self : goal.invariant_of-self
invariant_of-self g c =
    council_world (view_of c.self-2.inside.setup.proposers c.self-2.inside.council c.self-2.inside.acceptors.items c.self-2.inside.desks.items c.self-2.inside.callers.items
    c.self-2.inside.flow c.self-2.inside.record) (view_of c.self-2.inside.setup.proposers c.begin_plan.new.self c.self-2.inside.acceptors.items c.self-2.inside.desks.items
    c.self-2.inside.callers.items c.self-2.inside.flow c.self-2.inside.record) c.self-2.inside.callers.items c.self-2.inside.record.room c.self-2.inside.record.room c.self-2.invariant refl
    (steps_are_safe (meaning g.S.Shelf g.V.Disk) c.args.self.now step.OpenPlan
    (view_of c.self-2.inside.setup.proposers c.begin_plan.new.self c.self-2.inside.acceptors.items c.self-2.inside.desks.items c.self-2.inside.callers.items c.self-2.inside.flow
    c.self-2.inside.record) (subst (λ (v : View g.row.S.Denot g.row.V.Denot). IsSafe v) c.self.view_is c.self.invariant.safe) (step_so g c))
    (remembered_then (meaning g.S.Shelf g.V.Disk) step.OpenPlan (step_so g c)
    (subst (λ (v : View g.row.S.Denot g.row.V.Denot). Remembers (meaning g.S.Shelf g.V.Disk) v) c.self.view_is c.self.invariant.remembered))
    (omega (arith, c.self-2.invariant.room, ap reserved_by c.begin_plan.ensures.opened, hushed_reserves (council_view c.self-2.inside.council).order))

pub returns-clause-step : goal.returns-clause-step
returns-clause-step g c = step_so g c

pub returns-clause-ok : goal.returns-clause-ok
returns-clause-ok g c =
    is_under_way c.welcome.new.self (view_of c.self-2.inside.setup.proposers c.begin_plan.new.self c.self-2.inside.acceptors.items c.self-2.inside.desks.items c.self-2.inside.callers.items
    c.self-2.inside.flow c.self-2.inside.record) (asked_of c.args.target.now) c.in-Ok.plan c.requires.order (begun g c)
    (ap (λ (k : cluster.Council). k.order) (welcome_council (meaning g.S.Shelf g.V.Disk) c.args.self.now c.welcome.new.self (asked_of c.args.target.now) c.welcome.ensures.welcomes) ∙
    c.requires.is_open) c.requires.is_for
