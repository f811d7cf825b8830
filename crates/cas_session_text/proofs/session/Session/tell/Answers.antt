use Rattle.cas_session_text.proofs.Replies.{lawful_either}
use Rattle.cas_session_text.proofs.session.Session.tell.Goals as goal

pub invariant_of-self : goal.invariant_of-self
invariant_of-self c = lawful_either c.args.reply (record { value = c.self.inside.value; replies = c.self.inside.replies.items }) c.put_reply.new.replies.items c.put_reply.result
    c.put_reply.ensures.told c.put_reply.ensures.unchanged c.requires c.self.invariant
