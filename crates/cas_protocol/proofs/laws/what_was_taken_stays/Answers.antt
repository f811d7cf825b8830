use Rattle.cas_protocol.proofs.Staying as staying
use Rattle.cas_protocol.proofs.laws.what_was_taken_stays.Goals as goal

pub returns : goal.returns
returns c = staying.taken
