use Rattle.std.proofs.Common.{refl, sym}
use Rattle.cas_model.specs.Step as step
use Rattle.cas_model.specs.View.{meaning}
use Rattle.cas_board_world.proofs.Steps.{steady_then}
use Rattle.cas_board_world.proofs.world.SteadyWorld.tell.Goals as goal

pub invariant_of-self : goal.invariant_of-self
invariant_of-self g c = steady_then (meaning g.S.Shelf g.V.Disk) c.self.inside.world (step.Tell c.args.answer) c.tell.new.self refl c.self.invariant c.tell.ensures.step

pub returns-clause-step : goal.returns-clause-step
returns-clause-step g c = rw (sym c.self.view_is) c.tell.ensures.step
