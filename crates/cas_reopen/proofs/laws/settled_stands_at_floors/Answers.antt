use Rattle.cas_reopen.proofs.Settled.{settled_stands}
use Rattle.cas_reopen.proofs.laws.settled_stands_at_floors.Goals as goal

pub returns : goal.returns
returns c = settled_stands
