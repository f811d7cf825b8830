use Rattle.std.proofs.Common.{subst}
use Rattle.cas_model.specs.View.{meaning}
use Rattle.cas_board_world.specs.Steady.{IsSteady}
use Rattle.cas_board_world.proofs.Forwards.{gathers_steady}
use Rattle.cas_board_world.proofs.world.SteadyWorld.gather.Goals as goal

pub invariant_of-self : goal.invariant_of-self
invariant_of-self g c = gathers_steady (meaning g.S.Shelf g.V.Disk) c.self.inside.world c.gather.new.self c.self.invariant c.gather.ensures.step

pub returns-clause-steady : goal.returns-clause-steady
returns-clause-steady g c = subst (IsSteady (meaning g.S.Shelf g.V.Disk)) c.self.view_is c.self.invariant
