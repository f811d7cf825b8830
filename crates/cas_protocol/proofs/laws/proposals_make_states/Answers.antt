use Rattle.cas_protocol.proofs.Known as known
use Rattle.cas_protocol.proofs.laws.proposals_make_states.Goals as goal

pub returns : goal.returns
returns c = known.makes
