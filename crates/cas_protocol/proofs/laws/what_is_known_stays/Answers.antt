use Rattle.cas_protocol.proofs.Known as known
use Rattle.cas_protocol.proofs.laws.what_is_known_stays.Goals as goal

pub returns : goal.returns
returns c = known.stays
