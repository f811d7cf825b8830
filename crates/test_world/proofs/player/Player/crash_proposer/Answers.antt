use Rattle.cas_model.specs.Step as step
use Rattle.cas_model.specs.View.{meaning}
use Rattle.test_world.proofs.Plays.{proposer_crashes, stays}
use Rattle.test_world.proofs.player.Player.crash_proposer.Goals as goal

pub invariant_of-self : goal.invariant_of-self
invariant_of-self g c =
    stays (meaning g.S.Shelf g.V.Disk) c.self.inside.world c.crash_proposer.new.self (step.CrashProposer c.args.proposer) c.self.inside.proposers c.self.inside.calls _ c.self.invariant c.crash_proposer.ensures (proposer_crashes (meaning g.S.Shelf g.V.Disk) c.self.inside.world c.crash_proposer.new.self c.args.proposer c.self.invariant.quiet c.crash_proposer.ensures)
