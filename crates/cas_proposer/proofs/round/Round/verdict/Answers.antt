use Rattle.std.proofs.Common.{subst}
use Rattle.cas_proposer.specs.Round.{IsPrepare, IsAccept}
use Rattle.cas_proposer.proofs.round.Round.verdict.Goals as goal

pub returns-in-Accept-clause-verdict : goal.returns-in-Accept-clause-verdict
returns-in-Accept-clause-verdict c = record {
  prepare = λ replies open_. absurd (subst (λ phase. IsPrepare c.args.self.now.era c.args.self.now.ballot replies phase) c.in-Accept.is open_.phase);
  accept = λ prepared replies open_. c.verdict-in-Accept.ensures.verdict _ _ replies (subst (λ phase. IsAccept c.args.self.now.era c.args.self.now.ballot replies phase) c.in-Accept.is open_.phase);
}

pub returns-in-Prepare-clause-verdict : goal.returns-in-Prepare-clause-verdict
returns-in-Prepare-clause-verdict c = record {
  prepare = λ replies open_. c.verdict.ensures.verdict _ _ replies (subst (λ phase. IsPrepare c.args.self.now.era c.args.self.now.ballot replies phase) c.in-Prepare.is open_.phase);
  accept = λ prepared replies open_. absurd (subst (λ phase. IsAccept c.args.self.now.era c.args.self.now.ballot replies phase) c.in-Prepare.is open_.phase);
}
