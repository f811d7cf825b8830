use Rattle.cas_protocol.proofs.Staying as staying
use Rattle.cas_protocol.proofs.laws.others_change_nothing.Goals as goal

pub returns : goal.returns
returns c = staying.others
