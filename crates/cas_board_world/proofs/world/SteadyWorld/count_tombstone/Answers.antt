use Rattle.cas_model.specs.View.{meaning}
use Rattle.cas_board_world.proofs.Forwards.{counts_steady}
use Rattle.cas_board_world.proofs.world.SteadyWorld.count_tombstone.Goals as goal

pub invariant_of-self : goal.invariant_of-self
invariant_of-self g c = counts_steady (meaning g.S.Shelf g.V.Disk) c.self.inside.world c.count_tombstone.result c.count_tombstone.new.self c.self.invariant c.count_tombstone.ensures.step
