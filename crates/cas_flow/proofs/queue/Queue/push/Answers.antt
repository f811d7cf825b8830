use Rattle.std.specs.VecDeque.{deque_len, deque_capacity}
use Rattle.cas_flow.proofs.Messages.{push_bears, push_view}
use Rattle.cas_flow.proofs.queue.Queue.push.Goals as goal

pub invariant_of-self : goal.invariant_of-self
invariant_of-self c = push_bears c.self.inside.frames.items c.push_back_reserved.new.self.items c.args.frame c.self.invariant c.requires.bears c.push_back_reserved.ensures.items

pub returns : goal.returns
returns c =
    push_view c.args.self.now c.self.inside.frames.items c.push_back_reserved.new.self.items c.args.frame c.self.inside.again
    (deque_capacity c.self.inside.frames) (deque_len c.self.inside.frames) (deque_capacity c.push_back_reserved.new.self) (deque_len c.push_back_reserved.new.self)
    c.self.view_is c.push_back_reserved.ensures.items c.push_back_reserved.ensures.capacity c.push_back_reserved.ensures.len
