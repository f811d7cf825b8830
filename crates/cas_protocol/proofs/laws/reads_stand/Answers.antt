use Rattle.cas_protocol.proofs.CountedReads as reads
use Rattle.cas_protocol.proofs.laws.reads_stand.Goals as goal

pub returns : goal.returns
returns c = reads.stand
