use Rattle.cas_model.specs.View.{meaning}
use Rattle.cas_board_world.proofs.Forwards.{asks_steady}
use Rattle.cas_board_world.proofs.world.SteadyWorld.ask_all.Goals as goal

pub invariant_of-self : goal.invariant_of-self
invariant_of-self g c = asks_steady (meaning g.S.Shelf g.V.Disk) c.self.inside.world c.args.what c.ask_all.new.self c.self.invariant c.ask_all.ensures.step
