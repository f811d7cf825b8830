use Rattle.cas_model.specs.View.{meaning}
use Rattle.cas_board_world.proofs.Forwards.{begins_steady}
use Rattle.cas_board_world.proofs.world.SteadyWorld.begin.Goals as goal

pub invariant_of-self : goal.invariant_of-self
invariant_of-self g c = begins_steady (meaning g.S.Shelf g.V.Disk) c.self.inside.world c.args.caller c.args.call c.args.key.now c.args.program.now c.begin.result c.begin.new.self c.self.invariant c.begin.ensures.step

pub begin-requires-clause-may : goal.begin-requires-clause-may
begin-requires-clause-may g c = rw c.self.view_is c.requires.may
