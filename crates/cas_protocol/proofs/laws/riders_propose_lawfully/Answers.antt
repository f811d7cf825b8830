use Rattle.cas_protocol.proofs.Rides as riding
use Rattle.cas_protocol.proofs.laws.riders_propose_lawfully.Goals as goal

pub returns : goal.returns
returns c = riding.rides
