use Rattle.cas_model.specs.Step as step
use Rattle.test_world.proofs.Plays.{proposer_restarts, stays}
use Rattle.test_world.proofs.player.Player.restart_proposer.Goals as goal

pub invariant_of-self : goal.invariant_of-self
invariant_of-self g c = stays _ c.self.inside.world c.restart_proposer.new.self (step.RestartProposer c.args.proposer) c.self.inside.proposers c.self.inside.calls _ c.self.invariant c.restart_proposer.ensures.step (proposer_restarts _ c.self.inside.world c.restart_proposer.new.self c.args.proposer c.restart_proposer.ensures.step)
