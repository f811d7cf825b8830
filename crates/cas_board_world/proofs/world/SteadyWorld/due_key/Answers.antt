use Rattle.cas_model.specs.View.{meaning}
use Rattle.cas_board_world.proofs.Forwards.{due_steady}
use Rattle.cas_board_world.proofs.world.SteadyWorld.due_key.Goals as goal

pub invariant_of-self : goal.invariant_of-self
invariant_of-self g c = due_steady (meaning g.S.Shelf g.V.Disk) c.self.inside.world c.due_key.result c.due_key.new.self c.self.invariant c.due_key.ensures.unchanged c.due_key.ensures.step
