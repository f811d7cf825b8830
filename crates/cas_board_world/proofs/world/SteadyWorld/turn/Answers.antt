use Rattle.cas_model.specs.View.{meaning}
use Rattle.cas_board_world.proofs.Forwards.{turns_steady}
use Rattle.cas_board_world.proofs.world.SteadyWorld.turn.Goals as goal

pub invariant_of-self : goal.invariant_of-self
invariant_of-self g c = turns_steady (meaning g.S.Shelf g.V.Disk) c.self.inside.world c.args.proposer c.args.verdict c.turn.result c.turn.new.self c.self.invariant c.turn.ensures.ok c.turn.ensures.err
