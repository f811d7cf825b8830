use Rattle.std.proofs.Common.{sym}
use Rattle.cas_round.specs.Replies.{is_prepare, is_promise}
use Rattle.cas_round.proofs.Arrivals.{prepare_tells, no_other, same_tag, promise, prepare_arrives}
use Rattle.cas_round.proofs.TallyLemmas.{refused}
use Rattle.cas_round.proofs.phase.PrepareRound.arrive.Goals as goal
use Rattle.cas_round.proofs.phase.PrepareRound.arrive.Goals.{then-is_promise, else-is_promise}

pub returns-clause-after : goal.returns-clause-after
returns-clause-after c = λ era ballot replies. elim c.if-is_promise.branch [
  | then-is_promise w ↦ rw (c.latest.ensures, c.take.ensures.value, c.told_as_accepted.ensures, w.self-is, w.reply-is, w.confirm.ensures)
      (prepare_arrives era ballot replies c.args.reply c.args.self.now _ (prepare_tells _ c.if-ne.ensures) (same_tag _ _ c.if-ne-2.ensures)
      (λ list. promise c.args.reply.from c.args.reply.to c.args.reply.phase c.args.reply.tag c.args.reply.tell list c.args.self.now.tally (sym w.if-is_promise.ensures)))
  | else-is_promise w ↦ rw (c.latest.ensures, c.take.ensures.value, c.told_as_accepted.ensures, w.self-is, w.reply-is, w.refuse.ensures)
      (prepare_arrives era ballot replies c.args.reply c.args.self.now _ (prepare_tells _ c.if-ne.ensures) (same_tag _ _ c.if-ne-2.ensures)
      (λ list. refused is_promise c.args.reply.from c.args.reply.to c.args.reply.phase c.args.reply.tag c.args.reply.tell list c.args.self.now.tally (sym w.if-is_promise.ensures)))
]

pub returns-clause-other : goal.returns-clause-other
returns-clause-other c = λ era ballot replies round other. absurd (no_other is_prepare ballot c.args.reply c.args.self.now.ballot (prepare_tells _ c.if-ne.ensures) (same_tag _ _ c.if-ne-2.ensures) round.same_ballot other)
