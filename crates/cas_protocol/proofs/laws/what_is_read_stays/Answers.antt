use Rattle.cas_protocol.proofs.QuorumReads as reads
use Rattle.cas_protocol.proofs.laws.what_is_read_stays.Goals as goal

pub returns : goal.returns
returns c = reads.stays
