use Rattle.cas_protocol.proofs.Known as known
use Rattle.cas_protocol.proofs.laws.tombstones_are_floors.Goals as goal

pub returns : goal.returns
returns c = known.floored
