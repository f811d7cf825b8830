use Rattle.std.proofs.Common.{refl}
use Rattle.cas_model.specs.Step as step
use Rattle.cas_model.specs.View.{meaning}
use Rattle.cas_board_world.proofs.Steps.{steady_then}
use Rattle.cas_board_world.proofs.world.SteadyWorld.open_change.Goals as goal

pub invariant_of-self : goal.invariant_of-self
invariant_of-self g c = steady_then (meaning g.S.Shelf g.V.Disk) c.self.inside.world step.OpenPlan c.open_change.new.self refl c.self.invariant c.open_change.ensures.step
