use Rattle.cas_protocol.proofs.Rides as riding
use Rattle.cas_protocol.proofs.laws.calls_are_done_lawfully.Goals as goal

pub returns : goal.returns
returns c = riding.done
