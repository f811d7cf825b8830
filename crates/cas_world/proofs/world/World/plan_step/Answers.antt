use Rattle.std.proofs.Common.{Option, Some, sym, ap, subst, ◌∙◌}
use Rattle.std.specs.Prelude.{option_map}
use Rattle.cas_members.specs.declared.plan.PlanStep.{PlanStep}
use Rattle.cas_world_calls.specs.Council.{plan_view}
use Rattle.cas_world_calls.specs.declared.plan.OpenPlan.{OpenPlan}
use Rattle.cas_model.specs.Safe.{IsSafe}
use Rattle.cas_model.specs.View.{View}
use Rattle.cas_world.specs.Eras.Plans.{step_of}
use Rattle.cas_world.proofs.Eras.Planning.{at_end}
use Rattle.cas_world.proofs.world.World.plan_step.Goals as goal

pub returns-in-Some-clause-end : goal.returns-in-Some-clause-end
returns-in-Some-clause-end g c is =
    at_end c.args.self.now (subst IsSafe c.self.view_is c.self.invariant.safe)
    (sym (ap (λ (v : View _ _). step_of v.council.plan) c.self.view_is) ∙ ap (λ (o : Option OpenPlan). step_of (option_map plan_view o)) c.in-Some.is ∙ ap (λ (s : PlanStep). Some s) (sym c.next.ensures.value) ∙ is)
