use Rattle.cas_protocol.proofs.EmptyReads as reads
use Rattle.cas_protocol.proofs.laws.reads_of_nothing_were_empty.Goals as goal

pub returns : goal.returns
returns c = reads.empty_since
