use Rattle.cas_protocol.proofs.Rides as riding
use Rattle.cas_protocol.proofs.laws.proposers_draw_lawfully.Goals as goal

pub returns : goal.returns
returns c = riding.draws
