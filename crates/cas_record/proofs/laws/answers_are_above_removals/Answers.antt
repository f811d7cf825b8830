use Rattle.cas_record.proofs.Logs.Orders.{above_dropped}
use Rattle.cas_record.proofs.laws.answers_are_above_removals.Goals as goal

pub returns : goal.returns
returns c cluster log orderly acceptor request was round tombstone dropped = (above_dropped cluster orderly was round).above dropped
