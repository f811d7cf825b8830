use Rattle.cas_protocol.proofs.ReadWitness as witness
use Rattle.cas_protocol.proofs.laws.some_read_is_counted.Goals as goal

pub returns : goal.returns
returns c = witness.counted_read
