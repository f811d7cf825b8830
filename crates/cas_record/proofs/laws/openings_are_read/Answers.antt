use Rattle.cas_record.specs.Places.{here}
use Rattle.cas_record.proofs.Logs.Openings.{opening_read}
use Rattle.cas_record.proofs.laws.openings_are_read.Goals as goal

pub returns : goal.returns
returns c cluster meet log lawful orderly p may nothing floor opened is = opening_read cluster meet (lawful, may) orderly here nothing opened is
