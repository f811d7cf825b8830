use Rattle.cas_flow.proofs.FrameLemmas.{bears_reply, told_is}
use Rattle.cas_flow.proofs.frame.Frame.fill.Goals as goal

pub invariant_of-self : goal.invariant_of-self
invariant_of-self c = bears_reply c.encode_reply_into.new.out.items c.args.reply.now c.encode_reply_into.ensures.frame

pub returns : goal.returns
returns c = told_is c.encode_reply_into.new.out.items c.args.reply.now c.encode_reply_into.ensures.frame
