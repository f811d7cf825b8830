use Rattle.cas_protocol.proofs.QuorumReads as reads
use Rattle.cas_protocol.proofs.laws.reads_of_nothing_are_so.Goals as goal

pub returns : goal.returns
returns c = reads.nothing_read
