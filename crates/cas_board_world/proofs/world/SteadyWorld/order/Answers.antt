use Rattle.std.proofs.Common.{refl}
use Rattle.cas_model.specs.Step as step
use Rattle.cas_model.specs.View.{meaning}
use Rattle.cas_board_world.proofs.Forwards.{either_steady}
use Rattle.cas_board_world.proofs.world.SteadyWorld.order.Goals as goal

pub invariant_of-self : goal.invariant_of-self
invariant_of-self g c = either_steady (meaning g.S.Shelf g.V.Disk) c.self.inside.world c.order.result (step.Order c.args.asked.now) step.RefuseOrder c.order.new.self refl refl c.self.invariant c.order.ensures.ok c.order.ensures.err
