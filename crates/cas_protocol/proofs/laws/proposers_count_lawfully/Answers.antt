use Rattle.cas_protocol.proofs.Proposes as proposes
use Rattle.cas_protocol.proofs.laws.proposers_count_lawfully.Goals as goal

pub returns : goal.returns
returns c = proposes.count
