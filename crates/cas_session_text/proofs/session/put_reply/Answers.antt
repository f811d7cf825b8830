use Rattle.std.proofs.Common.{◌≡◌, true, false, List, sym, ap, ◌∙◌}
use Rattle.cas_session_text.specs.declared.reply.LastReply.{LastReply}
use Rattle.cas_session_text.specs.Contents.{told_at}
use Rattle.cas_session_text.proofs.Replies.{below_len, set_place, insert_place}
use Rattle.cas_session_text.proofs.session.put_reply.Goals as goal

pub returns-then-is_at-clause-told : goal.returns-then-is_at-clause-told
returns-then-is_at-clause-told c =
    let place = c.count_below-at.ensures.count ∙ ap (below_len c.args.reply.caller) c.deref.ensures.value in
    set_place c.args.reply c.args.replies.now.items c.count_below-at.result place
    (ap (λ (rs : List LastReply). told_at rs c.count_below-at.result c.args.reply.caller) (sym c.deref-2.ensures.value) ∙ sym c.is_at.ensures ∙ c.if-is_at.true)

pub returns-in_ok-insert-clause-told : goal.returns-in_ok-insert-clause-told
returns-in_ok-insert-clause-told c =
    let place = c.count_below-at.ensures.count ∙ ap (below_len c.args.reply.caller) c.deref.ensures.value in
    c.in_ok-insert.ensures.items ∙ insert_place c.args.reply c.args.replies.now.items c.count_below-at.result place
    (ap (λ (rs : List LastReply). told_at rs c.count_below-at.result c.args.reply.caller) (sym c.deref-2.ensures.value) ∙ sym c.is_at.ensures ∙ c.if-is_at.false)
