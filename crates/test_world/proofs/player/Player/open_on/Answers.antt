use Rattle.test_world.proofs.Floors.{new_play_on}
use Rattle.test_world.proofs.player.Player.open_on.Goals as goal

pub invariant_of-result : goal.invariant_of-result
invariant_of-result g c = new_play_on _ _ _ _ c.in-Ok.world c.args.config.proposers _ c.in-Ok.ensures.opening c.in-Ok.ensures.places c.in-Ok.ensures.last_proposer
