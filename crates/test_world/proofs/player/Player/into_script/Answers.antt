use Rattle.std.proofs.Common.{refl, sym, ◌∙◌, arith}
use Rattle.test_world.proofs.Plays.{at_rest}
use Rattle.test_world.proofs.Shown.{none_in}
use Rattle.test_world.proofs.player.Player.into_script.Goals as goal

pub new-requires-clause-idle : goal.new-requires-clause-idle
new-requires-clause-idle g c id low =
    c.self.invariant.idle id (omega (arith, low, c.self.invariant.known)) (none_in _ c.self.inside.calls 17 c.ne.result refl c.ne.ensures c.if-ne.false id (omega (arith, low, c.self.invariant.known, c.self.invariant.few)))

pub new-requires-clause-quiet : goal.new-requires-clause-quiet
new-requires-clause-quiet g c = at_rest c.self.inside.world c.self.inside.proposers c.self.inside.calls c.self.inside.task c.self.invariant (sym c.is_some.ensures ∙ c.if-is_some.false)
