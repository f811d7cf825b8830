use Rattle.cas_model.specs.View.{meaning}
use Rattle.cas_board_world.proofs.Openings.{opening_steady}
use Rattle.cas_board_world.proofs.world.SteadyWorld.over.Goals as goal

pub invariant_of-result : goal.invariant_of-result
invariant_of-result g c = let by = c.requires.opening in opening_steady (meaning g.S.Shelf g.V.Disk) by.0 by.1 by.2 c.args.world by.3 c.requires.places by.4 c.requires.desks c.requires.ages
