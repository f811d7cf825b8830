use Rattle.std.proofs.Common.{arith}
use Rattle.cas_flow.proofs.Messages.{as_many, push_bears, joined_view, joined_full}
use Rattle.cas_flow.proofs.pool.Pool.push.Goals as goal

pub invariant_of-self : goal.invariant_of-self
invariant_of-self c = (
  push_bears c.self.inside.frames.items c.push_reserved.new.self.items c.args.frame c.self.invariant.0 c.requires c.push_reserved.ensures.items,
  omega (arith, c.push_reserved.ensures.capacity, c.self.invariant.1),
  omega (arith, c.push_reserved.ensures.len, c.len.ensures, c.if-len-lt-MOST_LATE.true),
)

pub returns-then-len-lt-MOST_LATE : goal.returns-then-len-lt-MOST_LATE
returns-then-len-lt-MOST_LATE c =
    joined_view c.args.self.now c.self.inside.frames.items c.push_reserved.new.self.items c.args.frame c.self.view_is
    (omega (arith, c.len.ensures, c.if-len-lt-MOST_LATE.true, c.self.inside.frames.ok, as_many c.args.self.now c.self.inside.frames.items c.self.view_is c.self.invariant.0))
    c.push_reserved.ensures.items

pub returns-else-len-lt-MOST_LATE : goal.returns-else-len-lt-MOST_LATE
returns-else-len-lt-MOST_LATE c =
    joined_full c.args.self.now c.args.frame
    (omega (arith, c.len.ensures, c.if-len-lt-MOST_LATE.false, c.self.inside.frames.ok, as_many c.args.self.now c.self.inside.frames.items c.self.view_is c.self.invariant.0))
