use Rattle.std.proofs.Common.{Bool, Some, ap, ◌∙◌}
use Rattle.test_world.proofs.Plays.{turns}
use Rattle.test_world.proofs.player.Player.turn.Goals as goal

pub invariant_of-self : goal.invariant_of-self
invariant_of-self g c =
    turns _ c.self.inside.world c.turn.new.self c.args.proposer c.self.inside.proposers c.args.verdict c.self.inside.calls _ c.turn.result c.self.invariant (c.in-Some-true.ensures.1 ∙ ap (λ (b : Bool). Some b) c.in-Some-true.field-0-test) c.turn.ensures.ok c.turn.ensures.err
