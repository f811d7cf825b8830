use Rattle.cas_record.proofs.LawLemmas as laws
use Rattle.cas_record.proofs.laws.chains_extend.Goals as goal

pub returns : goal.returns
returns c = laws.chains_extend
