use Rattle.std.proofs.Common.{arith}
use Rattle.test_world.proofs.Plays.{ends, ends_so}
use Rattle.test_world.proofs.Shown.{closed_told}
use Rattle.test_world.proofs.player.Player.closed.Goals as goal

pub end-told-requires-clause-told : goal.end-told-requires-clause-told
end-told-requires-clause-told g c =
    closed_told c.self.inside.world c.args.proposer c.last_call-call.result c.closed.result c.in-Some.told c.self.invariant.safe (omega (arith, c.in-Some-true.ensures.0, c.self.invariant.known)) c.last_call-call.ensures c.closed.ensures c.in-Some.is

pub invariant_of-self : goal.invariant_of-self
invariant_of-self g c =
    ends _ c.self.inside.world c.end-told.new.self c.args.proposer c.self.inside.proposers c.self.inside.calls c.set.new.calls _ c.self.invariant c.set.ensures (λ operator. c.is_free.ensures c.if-not-is_free.false operator) (ends_so _ c.self.inside.world c.end-told.new.self c.args.proposer _ c.self.invariant.safe c.end-told.ensures.step)
