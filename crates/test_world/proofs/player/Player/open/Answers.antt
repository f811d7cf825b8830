use Rattle.test_world.proofs.Shown.{new_play}
use Rattle.test_world.proofs.player.Player.open.Goals as goal

pub invariant_of-result : goal.invariant_of-result
invariant_of-result g c = new_play _ _ c.in-Ok.world c.args.config.proposers _ c.in-Ok.ensures.opening c.in-Ok.ensures.places c.in-Ok.ensures.last_proposer
