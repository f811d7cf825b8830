use Rattle.std.proofs.Common.{sym}
use Rattle.cas_round.specs.Replies.{is_accept, is_acceptance}
use Rattle.cas_round.proofs.Arrivals.{accept_tells, no_other, same_tag, acceptance, accept_arrives}
use Rattle.cas_round.proofs.TallyLemmas.{refused}
use Rattle.cas_round.proofs.phase.AcceptRound.arrive.Goals as goal

pub returns-then-is_acceptance-clause-after : goal.returns-then-is_acceptance-clause-after
returns-then-is_acceptance-clause-after c = λ era ballot replies.
    rw c.confirm.ensures
    (accept_arrives era ballot replies c.args.reply c.args.self.now _ (accept_tells _ c.if-ne.ensures) (same_tag _ _ c.if-ne-2.ensures)
    (λ list. acceptance c.args.reply.from c.args.reply.to c.args.reply.phase c.args.reply.tag c.args.reply.tell list c.args.self.now.tally (sym c.if-is_acceptance.ensures)))

pub returns-clause-after : goal.returns-clause-after
returns-clause-after c = λ era ballot replies.
    rw c.refuse.ensures
    (accept_arrives era ballot replies c.args.reply c.args.self.now _ (accept_tells _ c.if-ne.ensures) (same_tag _ _ c.if-ne-2.ensures)
    (λ list. refused is_acceptance c.args.reply.from c.args.reply.to c.args.reply.phase c.args.reply.tag c.args.reply.tell list c.args.self.now.tally (sym c.if-is_acceptance.ensures)))

pub returns-clause-other : goal.returns-clause-other
returns-clause-other c = λ era ballot replies round other. absurd (no_other is_accept ballot c.args.reply c.args.self.now.ballot (accept_tells _ c.if-ne.ensures) (same_tag _ _ c.if-ne-2.ensures) round.same_ballot other)

pub returns-then-is_acceptance-clause-other : goal.returns-then-is_acceptance-clause-other
returns-then-is_acceptance-clause-other c = λ era ballot replies round other. absurd (no_other is_accept ballot c.args.reply c.args.self.now.ballot (accept_tells _ c.if-ne.ensures) (same_tag _ _ c.if-ne-2.ensures) round.same_ballot other)
