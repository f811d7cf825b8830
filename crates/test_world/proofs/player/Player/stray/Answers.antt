use Rattle.test_world.proofs.Plays.{strays}
use Rattle.test_world.proofs.player.Player.stray.Goals as goal

pub invariant_of-self : goal.invariant_of-self
invariant_of-self g c = strays _ c.self.inside.world c.stray.new.self c.args.index c.self.inside.proposers c.self.inside.calls _ c.stray.result c.self.invariant c.stray.ensures.ok c.stray.ensures.err
