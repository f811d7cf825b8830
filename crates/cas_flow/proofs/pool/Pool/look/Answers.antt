use Rattle.std.proofs.Common.{◌≡◌, List, subst, arith, slice_get}
use Rattle.cas_flow.specs.declared.message.Message.{Message}
use Rattle.cas_flow.proofs.Messages.{as_many, messages_at}
use Rattle.cas_flow.proofs.pool.Pool.look.Goals as goal

pub index-requires : goal.index-requires
index-requires c = omega (arith, c.requires, c.self.inside.frames.ok, as_many c.args.self.now c.self.inside.frames.items c.self.view_is c.self.invariant.0)

pub returns : goal.returns
returns c =
    subst (λ (ms : List Message). c.index.result.now ≡ slice_get ms c.args.index) c.self.view_is
    (messages_at c.self.inside.frames.items c.args.index c.index.result.now c.self.invariant.0
    (omega (arith, c.requires, as_many c.args.self.now c.self.inside.frames.items c.self.view_is c.self.invariant.0)) c.index.ensures)
