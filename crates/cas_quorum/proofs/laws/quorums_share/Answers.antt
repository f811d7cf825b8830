use Rattle.cas_quorum.proofs.Counting as counting
use Rattle.cas_quorum.proofs.laws.quorums_share.Goals as goal

pub returns : goal.returns
returns c = counting.quorums_share
