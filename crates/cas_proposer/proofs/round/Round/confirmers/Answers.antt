use Rattle.std.proofs.Common.{subst}
use Rattle.cas_proposer.specs.Round.{IsPrepare, IsAccept}
use Rattle.cas_proposer.proofs.round.Round.confirmers.Goals as goal

pub returns-in-Accept-clause-confirmers : goal.returns-in-Accept-clause-confirmers
returns-in-Accept-clause-confirmers c = record {
  prepare = λ replies open_. absurd (subst (λ phase. IsPrepare c.args.self.now.era c.args.self.now.ballot replies phase) c.in-Accept.is open_.phase);
  accept = λ prepared replies open_. c.confirmers-in-Accept.ensures.confirmers _ _ replies (subst (λ phase. IsAccept c.args.self.now.era c.args.self.now.ballot replies phase) c.in-Accept.is open_.phase);
}
