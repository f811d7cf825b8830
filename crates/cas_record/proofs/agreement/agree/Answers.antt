use Rattle.cas_record.proofs.Agreements.{one_agreement}
use Rattle.cas_record.proofs.agreement.agree.Goals as goal

pub returns-clause-only : goal.returns-clause-only
returns-clause-only c = λ once have other is. one_agreement c.args.era.now c.args.found.now c.requires once have other c.decision.result is c.decision.ensures
