use Rattle.cas_record.proofs.LawLemmas as laws
use Rattle.cas_record.proofs.laws.earlier_is_legal.Goals as goal

pub returns : goal.returns
returns c = laws.earlier_is_legal
