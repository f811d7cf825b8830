use Rattle.std.proofs.Common.{arith}
use Rattle.cas_flow.proofs.Messages.{as_many}
use Rattle.cas_flow.proofs.pool.Pool.len.Goals as goal

pub returns-clause-count : goal.returns-clause-count
returns-clause-count c = omega (arith, c.len.ensures, c.self.inside.frames.ok, as_many c.args.self.now c.self.inside.frames.items c.self.view_is c.self.invariant.0)
