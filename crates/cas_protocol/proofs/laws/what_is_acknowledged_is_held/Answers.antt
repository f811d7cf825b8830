use Rattle.cas_protocol.proofs.Held as held
use Rattle.cas_protocol.proofs.laws.what_is_acknowledged_is_held.Goals as goal

pub returns : goal.returns
returns c = held.acknowledged
