use Rattle.std.proofs.Common.{refl}
use Rattle.cas_model.specs.Step as step
use Rattle.cas_model.specs.View.{meaning}
use Rattle.cas_board_world.proofs.Steps.{steady_then}
use Rattle.cas_board_world.proofs.world.SteadyWorld.begin_collect.Goals as goal

pub invariant_of-self : goal.invariant_of-self
invariant_of-self g c = steady_then (meaning g.S.Shelf g.V.Disk) c.self.inside.world (step.BeginCollect c.args.key.now) c.begin_collect.new.self refl c.self.invariant c.begin_collect.ensures.step

pub begin_collect-requires-clause-may : goal.begin_collect-requires-clause-may
begin_collect-requires-clause-may g c = rw c.self.view_is c.requires.may
