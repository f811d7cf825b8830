use Rattle.cas_protocol.proofs.Events as events
use Rattle.cas_protocol.proofs.laws.runs_are_legal.Goals as goal

pub returns : goal.returns
returns c = events.runs
