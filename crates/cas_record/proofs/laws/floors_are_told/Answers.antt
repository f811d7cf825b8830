use Rattle.cas_record.proofs.Logs.Floors.{told_after}
use Rattle.cas_record.proofs.laws.floors_are_told.Goals as goal

pub returns : goal.returns
returns c cluster log lawful orderly acceptor key floor ballot told clear promised less = told_after cluster lawful orderly clear promised less
