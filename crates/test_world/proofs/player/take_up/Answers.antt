use Rattle.cas_model.specs.Step as step
use Rattle.cas_model.proofs.Safety.Steps.{steps_are_safe}
use Rattle.test_world.proofs.player.take_up.Goals as goal

pub returns-clause-safe : goal.returns-clause-safe
returns-clause-safe g c = steps_are_safe _ c.args.world.now step.OpenPlan c.open_plan.new.self c.requires.safe c.open_plan.ensures.step
