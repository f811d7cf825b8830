use Rattle.cas_protocol.proofs.Known as known
use Rattle.cas_protocol.proofs.laws.promises_ride_lawfully.Goals as goal

pub returns : goal.returns
returns c = known.rides_along
