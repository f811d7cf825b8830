use Rattle.cas_protocol.proofs.QuorumReads as reads
use Rattle.cas_protocol.proofs.laws.reads_go_on.Goals as goal

pub returns : goal.returns
returns c = reads.goes_on
