use Rattle.std.proofs.Common.{arith}
use Rattle.cas_flow.proofs.Messages.{as_many, removed_bears, removed_messages}
use Rattle.cas_flow.proofs.pool.Pool.take.Goals as goal

pub remove-requires : goal.remove-requires
remove-requires c = omega (arith, c.requires, c.self.inside.frames.ok, as_many c.args.self.now c.self.inside.frames.items c.self.view_is c.self.invariant.0)

pub invariant_of-self : goal.invariant_of-self
invariant_of-self c = (
  removed_bears c.self.inside.frames.items c.remove.new.self.items c.args.index c.self.invariant.0 c.remove.ensures.by_index.2,
  omega (arith, c.remove.ensures.capacity, c.self.invariant.1),
  omega (arith, c.remove.ensures.len, c.self.invariant.2),
)

pub returns : goal.returns
returns c = removed_messages c.args.self.now c.self.inside.frames.items c.remove.new.self.items c.args.index c.self.view_is c.self.invariant.0 c.remove.ensures.by_index.2
