use Rattle.cas_protocol.proofs.Known as known
use Rattle.cas_protocol.proofs.laws.replies_are_true.Goals as goal

pub returns : goal.returns
returns c = known.replies
