use Rattle.cas_protocol.proofs.Events as events
use Rattle.cas_protocol.proofs.laws.events_keep_the_history.Goals as goal

pub returns : goal.returns
returns c = events.keeps
