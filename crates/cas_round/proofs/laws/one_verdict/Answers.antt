use Rattle.cas_round.proofs.Order as order
use Rattle.cas_round.proofs.laws.one_verdict.Goals as goal

pub returns : goal.returns
returns c = order.one_verdict
