use Rattle.std.proofs.Common.{◌≡◌, ℕ, Option, Some, refl, ap, subst, ◌∙◌, slice_set}
use Rattle.std.specs.Prelude.{IfSome, option_map}
use Rattle.cas_model.specs.Council.{PlanView, hushed}
use Rattle.cas_model.specs.Eras.Course.{entering}
use Rattle.cas_model.specs.Eras.Step.{plan_after}
use Rattle.cas_world_calls.specs.Council.{council_view, plan_view}
use Rattle.cas_world.specs.Eras.Moving as moving
use Rattle.cas_world_calls.specs.declared.plan.OpenPlan.{OpenPlan}
use Rattle.cas_world.proofs.Parts.{some_and}
use Rattle.cas_world.proofs.plans.mark_move.Goals as goal

pub returns-in-Ok : goal.returns-in-Ok
returns-in-Ok c =
    let of = some_and c.args.council.now.plan (λ (plan : OpenPlan). (entering plan.plan.left ≡ Some c.args.next) × (plan.entered ≡ c.args.proposer)) c.requires.plan in
    let is_plan = ap (option_map plan_view) of.1 in record {
      moves = moving.moves (plan_view of.0) c.in-Ok.is is_plan
          (subst (λ (o : Option PlanView). IfSome o (λ plan. council_view c.enter.new.self ≡ record (hushed (council_view c.args.council.now)) { plan = Some (plan_after c.args.last_proposer plan c.args.next) })) is_plan c.enter.ensures.entered)
          (subst (λ (o : Option PlanView). IfSome o (λ plan. c.enter.new.self.eras.0 ≡ slice_set c.args.council.now.eras.0 plan.entered c.args.next)) is_plan c.enter.ensures.eras ∙ ap (λ (n : ℕ). slice_set c.args.council.now.eras.0 n c.args.next) of.2.1)
          refl c.push.ensures.marks c.push.ensures.room refl;
    }
