use Rattle.cas_protocol.proofs.Staying as staying
use Rattle.cas_protocol.proofs.laws.acceptors_stop_lawfully.Goals as goal

pub returns : goal.returns
returns c = staying.stop
