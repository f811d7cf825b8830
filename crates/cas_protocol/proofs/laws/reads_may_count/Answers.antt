use Rattle.cas_protocol.proofs.CountedReads as reads
use Rattle.cas_protocol.proofs.laws.reads_may_count.Goals as goal

pub returns : goal.returns
returns c = reads.count_read
