use Rattle.std.proofs.Common.{arith}
use Rattle.cas_model.proofs.Frames.Harms.{member_low}
use Rattle.cas_world_calls.proofs.collecting.least_without.Goals as goal

pub returns-clause-none : goal.returns-clause-none
returns-clause-none c other has = c.loop-number.invariant other (omega (arith, member_low c.args.all.now other c.count.ensures.set has, c.loop-number-test.false, c.loop-number.auto.number-end)) has
