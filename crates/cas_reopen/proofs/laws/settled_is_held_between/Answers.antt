use Rattle.cas_reopen.proofs.Settled.{settled_is_held}
use Rattle.cas_reopen.proofs.laws.settled_is_held_between.Goals as goal

pub returns : goal.returns
returns c = settled_is_held
